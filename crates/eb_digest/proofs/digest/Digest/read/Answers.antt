-- 32 lower-case digits are read, nothing else is, and what was read is written so again.
use Rattle.std.proofs.Common.{◌≡◌, sym, ap, ◌∙◌, subst, Ok}
use Rattle.eb_digest.specs.Digest.{IsDigestText}
use Rattle.eb_digest.proofs.Digits.{IsDigestText-digest_text, decode_sized-written, digest-read, digest_text-read}
use Rattle.eb_digest.proofs.digest.Digest.read.Goals as goal

pub returns-then-not-are_lower_digits-clause-each : goal.returns-then-not-are_lower_digits-clause-each
returns-then-not-are_lower_digits-clause-each c digest is same =
    let digits : IsDigestText c.args.text.now = subst IsDigestText (sym same) (IsDigestText-digest_text digest is) in
    let all = c.are_lower_digits.ensures.1 digits.lower in
    cc (sym c.if-not-are_lower_digits.true ∙ all)

pub returns-in-Ok-clause-each : goal.returns-in-Ok-clause-each
returns-in-Ok-clause-each c digest is same =
    let read = digest-read c.args.text.now digest is same in
    let whole : c.in-Ok.bytes ≡ digest = cc (sym c.in-Ok.is ∙ c.from_hex.ensures ∙ read) in
    ap Ok whole

pub returns-in-Ok-clause-value : goal.returns-in-Ok-clause-value
returns-in-Ok-clause-value c =
    decode_sized-written c.args.text.now c.in-Ok.bytes (c.are_lower_digits.ensures.0 c.if-not-are_lower_digits.false)
    (sym c.from_hex.ensures ∙ c.in-Ok.is)

pub returns-in-Err-clause-found : goal.returns-in-Err-clause-found
returns-in-Err-clause-found c = (
  λ h. cc h,
  λ digits. let ok = (digest_text-read c.args.text.now digits).1 in cc (sym c.in-Err.is ∙ c.from_hex.ensures ∙ ok),
)

pub returns-in-Err-clause-each : goal.returns-in-Err-clause-each
returns-in-Err-clause-each c digest is same =
    let read = digest-read c.args.text.now digest is same in
    cc (sym c.in-Err.is ∙ c.from_hex.ensures ∙ read)
