-- Parameters, by what their references find.
use Rattle.std.proofs.Common.{◌≡◌, ℕ, Bool, true, false, List, Option, None, Some, Result, Ok, Err, refl, sym, ap, subst, ◌∙◌}
use Rattle.eb_bytes.specs.Text.{Text}
use Rattle.eb_grammar.specs.Grammar.{whole_ref}
use Rattle.eb_syntax.specs.Tree.{Ref}
use Rattle.eb_syntax.specs.declared.tree.Op.{Op}
use Rattle.eb_syntax.specs.declared.tree.AP.TheOpen.{Param-F}
use Rattle.eb_syntax.specs.declared.tree.Param.{Param, out-Param}
use Rattle.eb_syntax.specs.declared.tree.SubPart.{SubPart}
use Rattle.shell_state.specs.Outcome.{Outcome, ◌>>=◌, and_then}
use Rattle.shell_state.specs.State.{State}
use Rattle.shell_state.specs.declared.stop.Stop.{Stop}
use Rattle.shell_state.specs.declared.stop.Stop.TheVariants as stop
use Rattle.word_meaning.specs.Layers.{ParamLayer}
use Rattle.word_meaning.specs.Operators.{shown, with_indices}
use Rattle.word_meaning.specs.References.{Found, name_of, referred, text_found}
use Rattle.word_meaning.specs.Words.{asks_indices, index, indirect, inside, param_at, pointed}
use Rattle.word_meaning.specs.declared.mode.Mode.{Mode}
use Rattle.word_meaning.specs.declared.mode.Mode.TheVariants as mode
use Rattle.word_meaning.specs.declared.mode.Tildes.TheVariants as tildes
use Rattle.expand_values.specs.Seen.{Finds, element_at, found_of}
use Rattle.expand_values.specs.declared.found.Found.{Found as Kept}
use Rattle.expand_parts.specs.Acts.{Acts, Opens}
use Rattle.expand_parts.specs.Params.{IsReferred, Refers}
use Rattle.expand_parts.specs.Rest.{Sub, param_found, pointed_at, pointed_found, referred_name}
use Rattle.expand_parts.specs.declared.refer.Referred.{Referred}
use Rattle.expand_parts.specs.declared.refer.Referred.TheVariants as referred_as
use Rattle.expand_parts.specs.declared.level.Act.{Act}
use Rattle.expand_parts.specs.declared.level.Act.TheVariants as act
use Rattle.expand_parts.specs.declared.level.Parts.TheVariants as of
use Rattle.expand_parts.specs.declared.level.Use.TheVariants as use_of
use Rattle.expand_parts.proofs.Along.{along}
use Rattle.expand_parts.proofs.Inside.{assoc}
use Rattle.expand_parts.proofs.OpenedMore.{index_opens, pointed_opens}

module _ (sub : Sub) (n : ℕ) (at : State) (m : Mode) (quoted : Bool) where
  -- a parameter looks for its reference, then goes on
  looks : (p : ParamLayer) (r : Ref) → IsReferred p r
      → param_at sub (inside sub n) m quoted p at ≡ and_then (referred (index sub (inside sub n)) r at) (param_found sub (inside sub n) m quoted p)
  looks (Param-F.Length s) r e =
      ap (λ x. and_then (referred (index sub (inside sub n)) x at) (param_found sub (inside sub n) m quoted (Param-F.Length s))) e
  looks (Param-F.Names s b) r e = absurd e
  looks (Param-F.Indirect s op) r e =
      ap (λ x. and_then (referred (index sub (inside sub n)) x at) (param_found sub (inside sub n) m quoted (Param-F.Indirect s op))) e
  looks (Param-F.Param::Value s op) r e =
      ap (λ x. and_then (referred (index sub (inside sub n)) x at) (param_found sub (inside sub n) m quoted (Param-F.Param::Value s op))) e

pub looks_for_length : (p : Param) (r : Ref) → out-Param p ≡ Param-F.Length r → IsReferred (out-Param p) r
looks_for_length p r e = subst (λ l. IsReferred l r) (sym e) refl

pub looks_for_indirect : (p : Param) (r : Ref) (op : Option Op) → out-Param p ≡ Param-F.Indirect r op → IsReferred (out-Param p) r
looks_for_indirect p r op e = subst (λ l. IsReferred l r) (sym e) refl

pub looks_for_value : (p : Param) (r : Ref) (op : Option Op) → out-Param p ≡ Param-F.Param::Value r op → IsReferred (out-Param p) r
looks_for_value p r op e = subst (λ l. IsReferred l r) (sym e) refl

named : (p : ParamLayer) (r : Ref) → IsReferred p r → referred_name p ≡ name_of r
named (Param-F.Length s) r e = ap name_of e
named (Param-F.Names s b) r e = absurd e
named (Param-F.Indirect s op) r e = ap name_of e
named (Param-F.Param::Value s op) r e = ap name_of e

module _ (result : Result Act Stop) (sub : Sub) (n : ℕ) (at : State) (m : Mode) (quoted : Bool) (p : Param) (k : Result Referred Stop) (r : Ref) where
  pub found_goes : (found : Kept) → k ≡ Ok (referred_as.Found found) → IsReferred (out-Param p) r → Refers k r (index sub (inside sub n)) at
      → Acts result sub (param_found sub (inside sub n) m quoted (out-Param p) (found_of found) at) n at
      → Acts result sub (param_at sub (inside sub n) m quoted (out-Param p) at) n at
  found_goes found is e h a =
      let f : Refers (Ok (referred_as.Found found)) r (index sub (inside sub n)) at = subst (λ x. Refers x r (index sub (inside sub n)) at) is h in
      along result sub _ _ n at
      (looks sub n at m quoted (out-Param p) r e ∙ ap (λ o. and_then o (param_found sub (inside sub n) m quoted (out-Param p))) f) a

  pub subscript_goes : (parts : List SubPart) → k ≡ Ok (referred_as.Subscript parts) → IsReferred (out-Param p) r → Refers k r (index sub (inside sub n)) at
      → Opens result (of.Subscript parts) mode.Text tildes.Nowhere (use_of.Index m quoted p) n
      → Acts result sub (param_at sub (inside sub n) m quoted (out-Param p) at) n at
  subscript_goes parts is e h a =
      let f : Refers (Ok (referred_as.Subscript parts)) r (index sub (inside sub n)) at = subst (λ x. Refers x r (index sub (inside sub n)) at) is h in
      index_opens result sub n at m quoted p parts a (param_at sub (inside sub n) m quoted (out-Param p) at)
      (looks sub n at m quoted (out-Param p) r e
      ∙ ap (λ o. and_then o (param_found sub (inside sub n) m quoted (out-Param p))) f
      ∙ assoc (index sub (inside sub n) parts at) (element_at (name_of r)) (param_found sub (inside sub n) m quoted (out-Param p))
      ∙ ap (λ x. (index sub (inside sub n) parts >>= (λ i. element_at x i >>= param_found sub (inside sub n) m quoted (out-Param p))) at)
      (sym (named (out-Param p) r e)))

  pub not_found : (why : Stop) → k ≡ Err why → IsReferred (out-Param p) r → Refers k r (index sub (inside sub n)) at → result ≡ Err why
      → Acts result sub (param_at sub (inside sub n) m quoted (out-Param p) at) n at
  not_found why is e h same =
      subst (λ x. Acts x sub (param_at sub (inside sub n) m quoted (out-Param p) at) n at) (sym same)
      (by why (subst (λ x. Refers x r (index sub (inside sub n)) at) is h))
    where
      by : (w : Stop) → Refers (Err w) r (index sub (inside sub n)) at → Acts (Err w) sub (param_at sub (inside sub n) m quoted (out-Param p) at) n at
      by (stop.Fault w) h =
          looks sub n at m quoted (out-Param p) r e ∙ ap (λ o. and_then o (param_found sub (inside sub n) m quoted (out-Param p))) h
      by stop.Failed h = absurd h
      by stop.Memory h = tt

  -- ---- a parameter that points to another one

  pub pointed_found_goes : (found : Kept) → k ≡ Ok (referred_as.Found found) → Refers k r (index sub (inside sub n)) at
      → Acts result sub (pointed_found sub (inside sub n) m quoted (out-Param p) (found_of found) at) n at
      → Acts result sub (pointed_at sub (inside sub n) m quoted (out-Param p) (Some r) at) n at
  pointed_found_goes found is h a =
      let f : Refers (Ok (referred_as.Found found)) r (index sub (inside sub n)) at = subst (λ x. Refers x r (index sub (inside sub n)) at) is h in
      along result sub _ _ n at (ap (λ o. and_then o (pointed_found sub (inside sub n) m quoted (out-Param p))) f) a

  pub pointed_subscript_goes : (parts : List SubPart) (name : Text) → k ≡ Ok (referred_as.Subscript parts) → name_of r ≡ name
      → Refers k r (index sub (inside sub n)) at
      → Opens result (of.Subscript parts) mode.Text tildes.Nowhere (use_of.Pointed m quoted p name) n
      → Acts result sub (pointed_at sub (inside sub n) m quoted (out-Param p) (Some r) at) n at
  pointed_subscript_goes parts name is same h a =
      let f : Refers (Ok (referred_as.Subscript parts)) r (index sub (inside sub n)) at = subst (λ x. Refers x r (index sub (inside sub n)) at) is h in
      pointed_opens result sub n at m quoted p name parts a (pointed_at sub (inside sub n) m quoted (out-Param p) (Some r) at)
      (ap (λ o. and_then o (pointed_found sub (inside sub n) m quoted (out-Param p))) f
      ∙ assoc (index sub (inside sub n) parts at) (element_at (name_of r)) (pointed_found sub (inside sub n) m quoted (out-Param p))
      ∙ ap (λ x. (index sub (inside sub n) parts >>= (λ i. element_at x i >>= pointed_found sub (inside sub n) m quoted (out-Param p))) at) same)

  pub pointed_not_found : (why : Stop) → k ≡ Err why → Refers k r (index sub (inside sub n)) at → result ≡ Err why
      → Acts result sub (pointed_at sub (inside sub n) m quoted (out-Param p) (Some r) at) n at
  pointed_not_found why is h same =
      subst (λ x. Acts x sub (pointed_at sub (inside sub n) m quoted (out-Param p) (Some r) at) n at) (sym same)
      (by why (subst (λ x. Refers x r (index sub (inside sub n)) at) is h))
    where
      by : (w : Stop) → Refers (Err w) r (index sub (inside sub n)) at → Acts (Err w) sub (pointed_at sub (inside sub n) m quoted (out-Param p) (Some r) at) n at
      by (stop.Fault w) h = ap (λ o. and_then o (pointed_found sub (inside sub n) m quoted (out-Param p))) h
      by stop.Failed h = absurd h
      by stop.Memory h = tt

-- ---- `${!..}`

-- its value is read as a reference
pub points : (sub : Sub) (m : Mode) (quoted : Bool) (p : Param) (s : Ref) (op : Option Op) (found : Found) (t : Text) (n : ℕ) (at : State)
    → out-Param p ≡ Param-F.Indirect s op → asks_indices s op ≡ false → t ≡ text_found found at
    → Acts (Ok (act.Point m quoted p t)) sub (param_found sub (inside sub n) m quoted (Param-F.Indirect s op) found at) n at
points sub m quoted p s op found t n at e asks same =
    ap (λ b. indirect sub (inside sub n) m quoted (name_of s) op b found at) asks
    ∙ ap (λ x. pointed sub (inside sub n) m quoted (name_of s) op (whole_ref x) at) (sym same)
    ∙ by (whole_ref t)
    ∙ ap (λ l. pointed_at sub (inside sub n) m quoted l (whole_ref t) at) (sym e)
  where
    by : (o : Option Ref) → pointed sub (inside sub n) m quoted (name_of s) op o at ≡ pointed_at sub (inside sub n) m quoted (Param-F.Indirect s op) o at
    by None = refl
    by (Some r) = refl

-- or it gives the indices of an array
pub shows_indices : (result : Result Act Stop) (sub : Sub) (m : Mode) (quoted : Bool) (s : Ref) (op : Option Op) (found : Found) (k : Kept) (n : ℕ) (at : State)
    → asks_indices s op ≡ true → found_of k ≡ with_indices found → Acts result sub (shown m quoted (found_of k) at) n at
    → Acts result sub (param_found sub (inside sub n) m quoted (Param-F.Indirect s op) found at) n at
shows_indices result sub m quoted s op found k n at asks same h =
    along result sub _ _ n at
    (ap (λ b. indirect sub (inside sub n) m quoted (name_of s) op b found at) asks ∙ ap (λ x. shown m quoted x at) (sym same)) h

-- ---- what is looked for, and shown

module _ (result : Result Act Stop) (sub : Sub) (n : ℕ) (at : State) (m : Mode) (quoted : Bool) (k : Result Kept Stop) (o : Outcome Found) where
  pub shown_so : (found : Kept) → k ≡ Ok found → Finds k o at → Acts result sub (shown m quoted (found_of found) at) n at
      → Acts result sub (and_then o (shown m quoted)) n at
  shown_so found is h a =
      let f : Finds (Ok found) o at = subst (λ x. Finds x o at) is h in
      along result sub _ _ n at (ap (λ x. and_then x (shown m quoted)) f) a

  pub shown_not : (why : Stop) → k ≡ Err why → Finds k o at → result ≡ Err why → Acts result sub (and_then o (shown m quoted)) n at
  shown_not why is h same =
      subst (λ x. Acts x sub (and_then o (shown m quoted)) n at) (sym same) (by why (subst (λ x. Finds x o at) is h))
    where
      by : (w : Stop) → Finds (Err w) o at → Acts (Err w) sub (and_then o (shown m quoted)) n at
      by (stop.Fault w) h = ap (λ x. and_then x (shown m quoted)) h
      by stop.Failed h = absurd h
      by stop.Memory h = tt
