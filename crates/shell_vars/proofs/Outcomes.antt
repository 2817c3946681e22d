-- What calls make of a store, by the steps that the code takes.
use Rattle.std.proofs.Common.{◌≡◌, ℕ, zero, suc, ◌<◌, ◌≤◌, Bool, true, false, cond, [], ◌∷◌, length, Option, Some, None, Ok, Err, refl, sym, ap, subst, ◌∙◌, arith, nat_cmp, Ordering, Less, Equal, Greater}
use Rattle.std.specs.Prelude.{IsSome, is_some, unwrap_or, ℤ}
use Rattle.std.specs.Option.{option_map}
use Rattle.std.specs.FinMap as map
use Rattle.std.specs.FinMap.{get-empty, get-insert, same_map}
use Rattle.std.specs.Cmp.Lexicographic.{slice_cmp, nat_list_cmp_total}
use Rattle.std.specs.Ordering.{eq_by_cmp, is_eq}
use Rattle.eb_bytes.specs.Text.{Text}
use Rattle.shell_vars.specs.declared.binding.Binding.{Binding}
use Rattle.shell_vars.specs.declared.change.Change.{Change}
use Rattle.shell_vars.specs.declared.value.Value.TheVariants as of
use Rattle.shell_vars.specs.declared.error.VarErr.{VarErr}
use Rattle.shell_vars.specs.declared.error.VarErr.TheVariants.{Readonly, LocalOutside, BadSubscript, ValueSize, TotalSize, Memory}
use Rattle.shell_vars.specs.Elements.{index_of}
use Rattle.shell_vars.specs.Value.{elements_of, without_element}
use Rattle.shell_vars.specs.Store.{Names, Store, Frame, holder, binding_at, held_at, bind_at, unset_here, size, admitted}
use Rattle.shell_vars.specs.Stores.{Refuses}
use Rattle.shell_vars.specs.Changes.{changed, gained, new_name, CanChange}
use Rattle.shell_vars.specs.Calls.{lessened, revalued, replaced, unset_elem, unset_elem_in}
use Rattle.shell_vars.proofs.NameOrder.{apart}
use Rattle.shell_vars.proofs.Frames.{size-change, admitted_ok}

tied : (r : Ordering) → is_eq r ≡ true → r ≡ Equal
tied Less e = cc
tied Equal e = refl
tied Greater e = cc

bound_here : (b : Bool) (name : Text) (f : Frame) (fs : Store) (i : ℕ) → is_some (map.get f.names name) ≡ b → ((j : ℕ) → Some j ≡ holder name fs → IsSome (binding_at j name fs)) → Some i ≡ cond b (Some 0) (option_map suc (holder name fs)) → IsSome (binding_at i name (f ∷ fs))
bound_here true name f fs i h later e =
    let here : i ≡ zero = cc in
    subst (λ n. IsSome (binding_at n name (f ∷ fs))) (sym here) h
bound_here false name f fs i h later e = by_later (holder name fs) refl e
  where
    by_later : (o : Option ℕ) → holder name fs ≡ o → Some i ≡ option_map suc o → IsSome (binding_at i name (f ∷ fs))
    by_later None p k = cc
    by_later (Some j) p k =
        let next : i ≡ suc j = cc in
        subst (λ n. IsSome (binding_at n name (f ∷ fs))) (sym next) (later j (sym p))

-- a frame that holds a name has a binding of it
pub holder-bound : (name : Text) (s : Store) (i : ℕ) → Some i ≡ holder name s → IsSome (binding_at i name s)
holder-bound name [] i e = cc
holder-bound name (f ∷ fs) i e = bound_here (is_some (map.get f.names name)) name f fs i refl (λ j. holder-bound name fs j) e

-- where a store has room no refusal is left but that memory is out
pub only_memory : (s : Store) (e : VarErr) → size s ≤ 33554432 → Refuses e (admitted s) → e ≡ Memory
only_memory s Readonly h r = cc (admitted_ok s h)
only_memory s LocalOutside h r = cc (admitted_ok s h)
only_memory s BadSubscript h r = cc (admitted_ok s h)
only_memory s ValueSize h r = cc (admitted_ok s h)
only_memory s TotalSize h r = cc (admitted_ok s h)
only_memory s Memory h r = refl

-- a change that adds nothing to a binding that is there leaves room
pub size-lessened : (c : Change) (i : ℕ) (name : Text) (s : Store) → i < length s → IsSome (binding_at i name s) → CanChange c (held_at i name s) → gained c ≡ 0 → size (bind_at i name (changed c (held_at i name s)) s) ≤ size s
size-lessened c i name s h b can g =
    let no_name : new_name i name s ≡ 0 = ap (λ (t : Bool). cond t 0 (length name)) b in
    omega (arith, size-change c i name s h can)

-- the mark has no element
pub nowhere : (at : ℤ) (i : ℕ) → Some i ≡ index_of (elements_of None) at → lessened at unset_here ≡ Ok unset_here
nowhere at i e =
    ap (λ o. revalued (without_element o None) unset_here) (sym e)
    ∙ ap (λ o. revalued (Ok (cond (is_some {T = Text} o) (Some (of.Array (map.remove map.empty i))) None)) unset_here) (get-empty nat_cmp i)

pub nowhere-refused : (at : ℤ) → None ≡ index_of (elements_of None) at → lessened at unset_here ≡ Err BadSubscript
nowhere-refused at e = ap (λ o. revalued (without_element o None) unset_here) (sym e)

-- a binding that is put where it was
insert-same : (m : Names) (name : Text) (b : Binding) → Some b ≡ map.get m name → map.insert m name b ≡ m
insert-same m name b e = same_map nat_list_cmp_total apart _ _ (λ q. get-insert nat_list_cmp_total m name b q ∙ by_tie q (eq_by_cmp (slice_cmp nat_cmp) q name) refl)
  where
    by_tie : (q : Text) (t : Bool) → eq_by_cmp (slice_cmp nat_cmp) q name ≡ t → cond t (Some b) (map.get m q) ≡ map.get m q
    by_tie q true p = e ∙ ap (map.get m) (sym (apart q name (tied _ p)))
    by_tie q false p = refl

bound_same : (f : Frame) (fs : Store) (name : Text) (o : Option Binding) → o ≡ map.get f.names name → IsSome o → record f { names = map.insert f.names name (unwrap_or o unset_here) } ∷ fs ≡ f ∷ fs
bound_same f fs name None e h = cc
bound_same f fs name (Some b) e h = ap (λ m. record f { names = m } ∷ fs) (insert-same f.names name b e)

pub bind_at-same : (i : ℕ) (name : Text) (s : Store) → IsSome (binding_at i name s) → bind_at i name (held_at i name s) s ≡ s
bind_at-same i name [] h = refl
bind_at-same zero name (f ∷ fs) h = bound_same f fs name (map.get f.names name) refl h
bind_at-same (suc i) name (f ∷ fs) h = ap (λ t. f ∷ t) (bind_at-same i name fs h)

-- nothing is taken away where the binding stays as it is
pub unset_elem-same : (i : ℕ) (name : Text) (at : ℤ) (s : Store) → Some i ≡ holder name s → lessened at (held_at i name s) ≡ Ok (held_at i name s) → unset_elem name at s ≡ Ok s
unset_elem-same i name at s e h =
    ap (λ o. unset_elem_in o name at s) (sym e) ∙ ap (λ r. replaced i name r s) h ∙ ap Ok (bind_at-same i name s (holder-bound name s i e))
