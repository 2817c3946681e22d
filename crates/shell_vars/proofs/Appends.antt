-- A text that is appended in place.
use Rattle.std.proofs.Common.{◌≡◌, true, false, cond, [], ◌++◌, Option, Some, None, Ok, Err, refl, ap, ◌∙◌, nat_cmp}
use Rattle.std.specs.Prelude.{is_some, unwrap_or}
use Rattle.std.specs.FinMap as map
use Rattle.std.specs.FinMap.{get-empty}
use Rattle.eb_bytes.specs.Text.{Text}
use Rattle.shell_vars.specs.declared.binding.Binding.{Binding}
use Rattle.shell_vars.specs.declared.change.Change.TheVariants as c
use Rattle.shell_vars.specs.declared.error.VarErr.TheVariants.{ValueSize}
use Rattle.shell_vars.specs.declared.value.Value.{Value}
use Rattle.shell_vars.specs.declared.value.Value.TheVariants as of
use Rattle.shell_vars.specs.Calls.{rebound}
use Rattle.shell_vars.specs.Changes.{Plans, text_added}
use Rattle.shell_vars.specs.Value.{elements_of, appended, is_short}
use Rattle.shell_vars.proofs.Single.{get-single-same}

short_after : (u first : Text) (v : Option Value) → map.get (elements_of v) 0 ≡ Some first → is_short (first ++ u) ≡ true → appended (of.Text u) v ≡ Ok (text_added u v)
short_after u first None h s = absurd (cc (h, get-empty {X = Text} nat_cmp 0))
short_after u first (Some (of.Text t)) h s =
    let same : t ≡ first = cc (get-single-same t 0 refl, h) in
    ap (λ b. cond b (Ok (of.Text (t ++ u))) (Err ValueSize)) (ap (λ x. is_short (x ++ u)) same ∙ s)
short_after u first (Some (of.Array es)) h s = ap (λ b. cond b (Ok (of.Array (map.insert es 0 (unwrap_or (map.get es 0) [] ++ u)))) (Err ValueSize)) (ap (λ o. is_short (unwrap_or o [] ++ u)) h ∙ s)

long_after : (u first : Text) (v : Option Value) → map.get (elements_of v) 0 ≡ Some first → is_short (first ++ u) ≡ false → appended (of.Text u) v ≡ Err ValueSize
long_after u first None h s = absurd (cc (h, get-empty {X = Text} nat_cmp 0))
long_after u first (Some (of.Text t)) h s =
    let same : t ≡ first = cc (get-single-same t 0 refl, h) in
    ap (λ b. cond b (Ok (of.Text (t ++ u))) (Err ValueSize)) (ap (λ x. is_short (x ++ u)) same ∙ s)
long_after u first (Some (of.Array es)) h s = ap (λ b. cond b (Ok (of.Array (map.insert es 0 (unwrap_or (map.get es 0) [] ++ u)))) (Err ValueSize)) (ap (λ o. is_short (unwrap_or o [] ++ u)) h ∙ s)

module _ (u first : Text) (b : Binding) (h : map.get (elements_of b.value) 0 ≡ Some first) where
  pub plans_more : is_short (first ++ u) ≡ true → Plans (Ok (c.Append u)) (rebound (appended (of.Text u) b.value) b) b
  plans_more s = (ap (λ r. rebound r b) (short_after u first b.value h s), ap (is_some {T = Text}) h)

  pub refuses_more : is_short (first ++ u) ≡ false → Plans (Err ValueSize) (rebound (appended (of.Text u) b.value) b) b
  refuses_more s = ap (λ r. rebound r b) (long_after u first b.value h s)
