-- What a call ensures, by whether it failed.
use Rattle.std.proofs.Common.{◌≡◌, true, false, is_err, Result, Ok, Err}
use Rattle.std.specs.Prelude.{OnOk, OnErr}

module _ {A E : Type 0} where
  pub by_ok : (r : Result A E) (p : Type 0) → is_err r ≡ false → OnOk r p → p
  by_ok (Ok x) p e h = h
  by_ok (Err x) p e h = cc

  pub by_err : (r : Result A E) (p : Type 0) → is_err r ≡ true → OnErr r p → p
  by_err (Ok x) p e h = cc
  by_err (Err x) p e h = h
