-- The text of sixteen bytes is one of 32 digits.
use Rattle.std.proofs.Common.{◌≡◌, sym, subst, ap, ◌∙◌}
use Rattle.std.proofs.lemmas.Result.{IfOk-weaker}
use Rattle.eb_digest.specs.Digest.{IsDigestText, digest_text}
use Rattle.eb_digest.proofs.Digits.{IsDigestText-digest_text}
use Rattle.eb_digest.proofs.digest.Digest.hex.Goals as goal

pub returns-clause-digits : goal.returns-clause-digits
returns-clause-digits c =
    let digits : c.as_bytes.result.now ≡ digest_text c.args.self.now =
    c.as_bytes.ensures.value ∙ c.in_ok-digits.ensures ∙ ap digest_text c.bytes.ensures.bytes in
    IfOk-weaker c.from_slice.result (λ text. text ≡ c.as_bytes.result.now) IsDigestText
    (λ text same. subst IsDigestText (sym (same ∙ digits)) (IsDigestText-digest_text c.args.self.now c.bytes.ensures.digest))
    c.from_slice.ensures
