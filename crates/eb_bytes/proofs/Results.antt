-- What `ok` leaves of a result.
use Rattle.std.proofs.Common.{◌≡◌, Option, Some, None, Result, Ok, Err, MatchResult, IfNone, subst}
use Rattle.std.specs.Result.{result_ok}

pub ok_is : {A E : Type 0} (r : Result A E) (x : A) (P : A → Type 0) (Q : E → Type 0) → result_ok r ≡ Some x → MatchResult r P Q → P x
ok_is (Ok y) x P Q e h = let same : y ≡ x = cc in subst P same h
ok_is (Err y) x P Q e h = absurd (cc)

pub err_is : {A E : Type 0} (r : Result A E) (P : A → Type 0) (Q : Type 0) (R : E → Type 0) → result_ok r ≡ None → MatchResult r P (λ e. Q × R e) → Q
err_is (Ok y) P Q R e h = absurd (cc)
err_is (Err y) P Q R e h = h.0

pub if_none : {A : Type 0} (o : Option A) (P : Type 0) → P → IfNone o P
if_none None P p = p
if_none (Some x) P p = tt
