-- Reads of eclasses that agree, each with each.
use Rattle.std.proofs.Common.{◌≡◌, Bool, true, false, not, ◌||◌, nat_eq, List, get_or, refl, subst}
use Rattle.std.specs.Cmp.Lexicographic.{pointwise}
use Rattle.std.specs.List.{list_all}
use Rattle.std.proofs.lemmas.List.Elements.{Contains-get_or}
use Rattle.std.proofs.lemmas.List.Sums.{AllPass-from_list_all, list_all-from_AllPass}
use Rattle.std.proofs.lemmas.Slice.Eq.{bytes_eq-Decides}
use Rattle.eb_bytes.specs.Text.{Text}
use Rattle.md5_cache.specs.Parts.{agree, all_agree}
use Rattle.md5_cache.specs.Record.{HasOneMd5}

abbrev Pair : Type 0
Pair = Text × Text

agree-same : (a b : Pair) → agree a b ≡ true → a.0 ≡ b.0 → a.1 ≡ b.1
agree-same a b h same =
    let names : pointwise nat_eq a.0 b.0 ≡ true = (bytes_eq-Decides a.0 b.0).1 same in
    let digests : pointwise nat_eq a.1 b.1 ≡ true = rw names at h in
    (bytes_eq-Decides a.1 b.1).0 digests

same-agree : (a b : Pair) → (a.0 ≡ b.0 → a.1 ≡ b.1) → agree a b ≡ true
same-agree a b h = on (pointwise nat_eq a.0 b.0) refl
  where
    on : (v : Bool) → pointwise nat_eq a.0 b.0 ≡ v → (not v || pointwise nat_eq a.1 b.1) ≡ true
    on true e = (bytes_eq-Decides a.1 b.1).1 (h ((bytes_eq-Decides a.0 b.0).0 e))
    on false e = refl

pub agreed-one : (read : List Pair) → all_agree read ≡ true → HasOneMd5 read
agreed-one read all = record {
  same_md5 = λ a b in_a in_b same.
      let outer = AllPass-from_list_all (λ x. list_all (agree x) read) read all in
      let at_a : list_all (agree a) read ≡ true = subst (λ (x : Pair). list_all (agree x) read ≡ true) in_a.2 (outer in_a.0 a in_a.1) in
      let inner = AllPass-from_list_all (agree a) read at_a in
      let both : agree a b ≡ true = subst (λ (x : Pair). agree a x ≡ true) in_b.2 (inner in_b.0 b in_b.1) in
      agree-same a b both same;
}

pub one-agreed : (read : List Pair) → HasOneMd5 read → all_agree read ≡ true
one-agreed read one =
    list_all-from_AllPass (λ a. list_all (agree a) read) read
    (λ k d below. list_all-from_AllPass (agree (get_or read k d)) read
    (λ j e low. same-agree (get_or read k d) (get_or read j e)
    (one.same_md5 (get_or read k d) (get_or read j e) (Contains-get_or read k d below) (Contains-get_or read j e low))))
