-- The body of a mark, beside a loop over the bodies.
use Rattle.std.proofs.Common.{◌≡◌, ℕ, suc, ◌+◌, ◌<◌, ◌≤◌, ◌==◌, true, false, List, ◌∷◌, length, get_or, drop, Some, None, ap, ◌∙◌, sym, refl, arith, drop-cons}
use Rattle.std.proofs.lemmas.List.{drop_all}
use Rattle.eb_syntax.specs.declared.tree.HereBody.{HereBody}
use Rattle.eb_grammar.specs.Fill.{body_of}

plus : (n : ℕ) → suc n ≡ n + 1
plus n = omega arith

module _ (mark : ℕ) (bodies : List HereBody) (at : ℕ) where
  -- none is left
  pub body_none : length bodies ≤ at → body_of mark (drop at bodies) ≡ None
  body_none over = ap (body_of mark) (drop_all at bodies over)

  module _ (body : HereBody) (more : at < length bodies) (is : body ≡ get_or bodies at body) where
    next : drop at bodies ≡ body ∷ drop (at + 1) bodies
    next = drop-cons bodies at body more ∙ ap (λ b. b ∷ drop (suc at) bodies) (sym is) ∙ ap (λ n. body ∷ drop n bodies) (plus at)

    -- it is that of the mark
    pub body_here : (body.mark == mark) ≡ true → body_of mark (drop at bodies) ≡ Some body.text
    body_here e = ap (body_of mark) next ∙ rw e refl

    -- it is another one
    pub body_next : (body.mark == mark) ≡ false → body_of mark (drop at bodies) ≡ body_of mark (drop (at + 1) bodies)
    body_next e = ap (body_of mark) next ∙ rw e refl
