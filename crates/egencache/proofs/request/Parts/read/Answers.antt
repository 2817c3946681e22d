use Rattle.std.proofs.Common.{◌≡◌, List, [], ◌∷◌, take, None, refl, ap, sym, ◌∙◌, rules, tests}
use Rattle.std.specs.Option.{option_map}
use Rattle.std.proofs.lemmas.Iterator.Consumers.{YieldsList-end, YieldsList-so_far}
use Rattle.std.proofs.lemmas.Iterator.Splits.{YieldsList-from_slice_split}
use Rattle.eb_bytes.specs.Text.{Text}
use Rattle.eb_files.specs.Paths.{is_slash}
use Rattle.egencache.specs.Placed.{placed}
use Rattle.egencache.specs.Request.{place_of_parts}
use Rattle.egencache.proofs.request.Parts.read.Goals as goal

pub returns-in_err-name : goal.returns-in_err-name
returns-in_err-name c =
    let all = YieldsList-end {s = c.split-parts.result}
    (YieldsList-from_slice_split _ is_slash c.args.at.now (cc) (cc) (cc) (λ x r q k. search (rules, tests)))
    (c.in_ok-category.category ∷ []) _ (c.next.new.self, c.in_ok-category.ensures.steps, refl) _ _ c.in_err-name.was c.next-2.ensures.steps in
    ap (option_map placed) c.from_residual-in_err-name.ensures ∙ ap place_of_parts all.0

pub returns-in_err-file : goal.returns-in_err-file
returns-in_err-file c =
    let all = YieldsList-end {s = c.split-parts.result}
    (YieldsList-from_slice_split _ is_slash c.args.at.now (cc) (cc) (cc) (λ x r q k. search (rules, tests)))
    (c.in_ok-category.category ∷ c.in_ok-name.name ∷ []) _
    (c.next.new.self, c.in_ok-category.ensures.steps, (c.next-2.new.self, c.in_ok-name.ensures.steps, refl)) _ _ c.in_err-file.was c.next-3.ensures.steps in
    ap (option_map placed) c.from_residual-in_err-file.ensures ∙ ap place_of_parts all.0

pub returns-in-None : goal.returns-in-None
returns-in-None c =
    let all = YieldsList-end {s = c.split-parts.result}
    (YieldsList-from_slice_split _ is_slash c.args.at.now (cc) (cc) (cc) (λ x r q k. search (rules, tests)))
    (c.in_ok-category.category ∷ c.in_ok-name.name ∷ c.in_ok-file.file ∷ []) _
    (c.next.new.self, c.in_ok-category.ensures.steps, (c.next-2.new.self, c.in_ok-name.ensures.steps, (c.next-3.new.self, c.in_ok-file.ensures.steps, refl))) _ _
    c.in-None.is c.next-4.ensures.steps in
    c.as_parts.ensures ∙ ap place_of_parts all.0

-- more than three parts
four : (parts : List Text) (a b c d : Text) → a ∷ b ∷ c ∷ d ∷ [] ≡ take 4 parts → place_of_parts parts ≡ None
four [] a b c d e = absurd (cc)
four (p ∷ []) a b c d e = absurd (cc)
four (p ∷ q ∷ []) a b c d e = absurd (cc)
four (p ∷ q ∷ r ∷ []) a b c d e = absurd (cc)
four (p ∷ q ∷ r ∷ s ∷ more) a b c d e = refl

pub returns-in-Some : goal.returns-in-Some
returns-in-Some c =
    let first = YieldsList-so_far {s = c.split-parts.result}
    (YieldsList-from_slice_split _ is_slash c.args.at.now (cc) (cc) (cc) (λ x r q k. search (rules, tests)))
    (c.in_ok-category.category ∷ c.in_ok-name.name ∷ c.in_ok-file.file ∷ c.in-Some.field-0 ∷ []) c.next-4.new.self
    (c.next.new.self, c.in_ok-category.ensures.steps, (c.next-2.new.self, c.in_ok-name.ensures.steps, (c.next-3.new.self, c.in_ok-file.ensures.steps, (c.next-4.new.self, c.in-Some.ensures.steps, refl)))) in
    sym (four _ _ _ _ _ first)
