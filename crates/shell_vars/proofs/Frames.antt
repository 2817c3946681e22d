-- Frames by their depth.
use Rattle.std.proofs.Common.{◌≡◌, ℕ, zero, suc, ◌+◌, ◌<◌, ◌≤◌, Bool, true, false, cond, [], ◌∷◌, length, get_or, set, Option, Some, None, Ok, Err, refl, sym, ap, subst, ◌∙◌, arith, nat_cmp}
use Rattle.std.specs.Prelude.{is_some, unwrap_or, nat_le, sum_by, if◌then◌else◌}
use Rattle.std.specs.Option.{option_map, option_map_or}
use Rattle.std.specs.Cmp.Lexicographic.{slice_cmp, nat_list_cmp_total}
use Rattle.std.specs.FinMap as map
use Rattle.std.specs.FinMap.{len-empty, len-entries}
use Rattle.std.proofs.lemmas.List.{nil_from_length}
use Rattle.std.proofs.lemmas.List.Sums.{sum_by-cons}
use Rattle.eb_bytes.specs.Text.{Text}
use Rattle.shell_vars.specs.declared.binding.Binding.{Binding}
use Rattle.shell_vars.specs.Store.{Names, Frame, Store, binding_at, held_at, with_names, bind_at, unbind_at, names_size, binding_size, size, Counts, Global, unset_here, kinds, admitted}
use Rattle.shell_vars.specs.Value.{value_size}
use Rattle.shell_vars.specs.declared.error.VarErr.TheVariants.{TotalSize}
use Rattle.std.proofs.lemmas.Bool.Decides.{nat_tests}
use Rattle.shell_vars.specs.Calls.{fresh, push_frame, kind_opened}
use Rattle.shell_vars.specs.Changes.{changed, lost, gained, new_name, CanChange}
use Rattle.shell_vars.specs.declared.change.Change.{Change}
use Rattle.shell_vars.specs.declared.kind.FrameKind.{FrameKind}
use Rattle.shell_vars.proofs.Sizes.{size-changed, lost-le}
use Rattle.shell_vars.proofs.NameOrder.{apart}
use Rattle.shell_vars.proofs.Sorted.{total-insert, total-remove}

pub binding_at-frame : (i : ℕ) (name : Text) (s : Store) (d : Frame) → i < length s → binding_at i name s ≡ map.get (get_or s i d).names name
binding_at-frame i name [] d h = absurd (omega arith)
binding_at-frame zero name (f ∷ fs) d h = refl
binding_at-frame (suc i) name (f ∷ fs) d h = binding_at-frame i name fs d (omega arith)

pub binding_at-past : (i : ℕ) (name : Text) (s : Store) → length s ≤ i → binding_at i name s ≡ None
binding_at-past i name [] h = refl
binding_at-past zero name (f ∷ fs) h = absurd (omega arith)
binding_at-past (suc i) name (f ∷ fs) h = binding_at-past i name fs (omega arith)

pub with_names-frame : (change : Names → Names) (i : ℕ) (s : Store) (d : Frame) → i < length s → with_names change i s ≡ set s i (record (get_or s i d) { names = change (get_or s i d).names })
with_names-frame change i [] d h = refl
with_names-frame change zero (f ∷ fs) d h = refl
with_names-frame change (suc i) (f ∷ fs) d h = ap (λ t. f ∷ t) (with_names-frame change i fs d (omega arith))

pub length-with_names : (change : Names → Names) (i : ℕ) (s : Store) → length (with_names change i s) ≡ length s
length-with_names change i [] = refl
length-with_names change zero (f ∷ fs) = refl
length-with_names change (suc i) (f ∷ fs) = ap suc (length-with_names change i fs)

-- the kinds of the frames stay
pub kinds-with_names : (change : Names → Names) (i : ℕ) (s : Store) → kinds (with_names change i s) ≡ kinds s
kinds-with_names change i [] = refl
kinds-with_names change zero (f ∷ fs) = refl
kinds-with_names change (suc i) (f ∷ fs) = ap (λ t. f.kind ∷ t) (kinds-with_names change i fs)

-- the size of a name's binding, where it has one
abbrev pub bound_size : Text → Option Binding → ℕ
bound_size name o = option_map_or (λ b. binding_size (name, b)) o 0

size-cons : (f : Frame) (fs : Store) → size (f ∷ fs) ≡ names_size f.names + size fs
size-cons f fs = sum_by-cons (λ (g : Frame). names_size g.names) f fs

pub size-bind_at : (i : ℕ) (name : Text) (b : Binding) (s : Store) → i < length s → size (bind_at i name b s) + bound_size name (binding_at i name s) ≡ size s + binding_size (name, b)
size-bind_at i name b [] h = absurd (omega arith)
size-bind_at zero name b (f ∷ fs) h = omega (arith, size-cons (record f { names = map.insert f.names name b }) fs, size-cons f fs, total-insert nat_list_cmp_total name apart binding_size f.names b)
size-bind_at (suc i) name b (f ∷ fs) h = omega (arith, size-cons f (bind_at i name b fs), size-cons f fs, size-bind_at i name b fs (omega arith))

pub size-unbind_at : (i : ℕ) (name : Text) (s : Store) → i < length s → size (unbind_at i name s) + bound_size name (binding_at i name s) ≡ size s
size-unbind_at i name [] h = absurd (omega arith)
size-unbind_at zero name (f ∷ fs) h = omega (arith, size-cons (record f { names = map.remove f.names name }) fs, size-cons f fs, total-remove nat_list_cmp_total name apart binding_size f.names)
size-unbind_at (suc i) name (f ∷ fs) h = omega (arith, size-cons f (unbind_at i name fs), size-cons f fs, size-unbind_at i name fs (omega arith))

-- so many frames further out
abbrev pub further_out : ℕ → Option ℕ → Option ℕ
further_out n o = option_map (λ i. n + i) o

empty_names : map.entries (map.empty {X = Binding} {R = slice_cmp nat_cmp}) ≡ []
empty_names = nil_from_length _ (sym (len-entries (map.empty {X = Binding} {R = slice_cmp nat_cmp})) ∙ len-empty (slice_cmp nat_cmp) Binding)

pub size-empty : names_size map.empty ≡ 0
size-empty = ap (sum_by binding_size) empty_names

pub counts-fresh : (s : Store) → s ≡ fresh → Counts s 0
counts-fresh s e = subst (λ x. Counts x 0) (sym e) (record {
  counted = omega (arith, size-cons (record { kind = Global; names = map.empty }) [], size-empty);
  within = omega arith;
  some = omega arith;
})

pub counts-pushed : (s new : Store) (used : ℕ) (kind : FrameKind) → Counts s used → new ≡ push_frame kind s → Counts new used
counts-pushed s new used kind c e = subst (λ x. Counts x used) (sym e) (record {
  counted = omega (arith, size-cons (record { kind = kind_opened kind; names = map.empty }) s, size-empty, c.counted);
  within = c.within;
  some = omega arith;
})

-- what a change does to the size of a store
pub size-change : (c : Change) (i : ℕ) (name : Text) (s : Store) → i < length s → CanChange c (held_at i name s) → size (bind_at i name (changed c (held_at i name s)) s) + lost c (held_at i name s) ≡ size s + (gained c + new_name i name s)
size-change c i name s h can = by_binding (binding_at i name s) can (size-bind_at i name (changed c (held_at i name s)) s h)
  where
    by_binding : (o : Option Binding) → CanChange c (unwrap_or o unset_here) → size (bind_at i name (changed c (unwrap_or o unset_here)) s) + bound_size name o ≡ size s + binding_size (name, changed c (unwrap_or o unset_here)) → size (bind_at i name (changed c (unwrap_or o unset_here)) s) + lost c (unwrap_or o unset_here) ≡ size s + (gained c + (if is_some o then 0 else length name))
    by_binding None k e = omega (arith, size-changed c unset_here k)
    by_binding (Some b) k e = omega (arith, size-changed c b k)

pub lost-le-size : (c : Change) (i : ℕ) (name : Text) (s : Store) → i < length s → lost c (held_at i name s) ≤ size s
lost-le-size c i name s h = by_binding (binding_at i name s) (size-unbind_at i name s h)
  where
    by_binding : (o : Option Binding) → size (unbind_at i name s) + bound_size name o ≡ size s → lost c (unwrap_or o unset_here) ≤ size s
    by_binding None e = omega (arith, lost-le c unset_here)
    by_binding (Some b) e = omega (arith, lost-le c b)

pub lost-unset : (c : Change) → lost c unset_here ≡ 0
lost-unset c = omega (arith, lost-le c unset_here)

pub bound_is : (i : ℕ) (name : Text) (b : Binding) (s : Store) → Some b ≡ binding_at i name s → i < length s → size (unbind_at i name s) + (length name + value_size b.value) ≡ size s
bound_is i name b s e h = subst (λ o. size (unbind_at i name s) + bound_size name o ≡ size s) (sym e) (size-unbind_at i name s h)

pub unbound_is : (i : ℕ) (name : Text) (s : Store) → None ≡ binding_at i name s → i < length s → size (unbind_at i name s) ≡ size s
unbound_is i name s e h =
    let same : size (unbind_at i name s) + 0 ≡ size s = subst (λ o. size (unbind_at i name s) + bound_size name o ≡ size s) (sym e) (size-unbind_at i name s h) in
    omega arith

-- the binding that a frame holds is the one at its depth
pub held_is : (i : ℕ) (name : Text) (s : Store) (x : Frame) → i < length s → x ≡ get_or s i x → unwrap_or (map.get x.names name) unset_here ≡ held_at i name s
held_is i name s x h e = ap (λ f. unwrap_or (map.get f.names name) unset_here) e ∙ ap (λ o. unwrap_or o unset_here) (sym (binding_at-frame i name s x h))

-- a frame that was written back with a changed binding
pub changed_frames : (c : Change) (i : ℕ) (name : Text) (s : Store) (x new : Frame) → i < length s → x ≡ get_or s i x → new ≡ record x { names = map.insert x.names name (changed c (unwrap_or (map.get x.names name) unset_here)) } → set s i new ≡ bind_at i name (changed c (held_at i name s)) s
changed_frames c i name s x new h e is =
    let b = held_is i name s x h e in
    ap (set s i) (is ∙ ap (λ y. record x { names = map.insert x.names name (changed c y) }) b ∙ ap (λ (f : Frame). record f { names = map.insert f.names name (changed c (held_at i name s)) }) e)
    ∙ sym (with_names-frame (λ names. map.insert names name (changed c (held_at i name s))) i s x h)

-- a frame that was written back without a binding
pub unbound_frames : (i : ℕ) (name : Text) (s : Store) (x new : Frame) → i < length s → x ≡ get_or s i x → new ≡ record x { names = map.remove x.names name } → set s i new ≡ unbind_at i name s
unbound_frames i name s x new h e is =
    ap (set s i) (is ∙ ap (λ (f : Frame). record f { names = map.remove f.names name }) e)
    ∙ sym (with_names-frame (λ names. map.remove names name) i s x h)

pub admitted_ok : (s : Store) → size s ≤ 33554432 → admitted s ≡ Ok s
admitted_ok s h = by_test (nat_le (size s) 33554432) refl
  where
    by_test : (b : Bool) → nat_le (size s) 33554432 ≡ b → cond b (Ok s) (Err TotalSize) ≡ Ok s
    by_test true e = refl
    by_test false e = absurd (grind (arith, nat_tests))

pub counts_after : (s new : Store) (used : ℕ) → new ≡ s → used ≡ size s → used ≤ 33554432 → 0 < length s → Counts new used
counts_after s new used e u w l = subst (λ x. Counts x used) (sym e) (record { counted = u; within = w; some = l })
