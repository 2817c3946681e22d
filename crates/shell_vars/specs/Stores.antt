-- What variables are seen as: a list of stores, of which the present one is the first.
use Rattle.std.specs.Prelude.{◌≡◌, List, [], ◌∷◌, Result, Ok, Err, refl}
use Rattle.std.specs.Coded.{Coded, code_by, coded×, coded_list}
use Rattle.shell_vars.specs.declared.error.VarErr.{VarErr}
use Rattle.shell_vars.specs.declared.error.VarErr.TheVariants.{Readonly, LocalOutside, BadSubscript, ValueSize, TotalSize, Memory}
use Rattle.shell_vars.specs.Store.{Store, store_code}

-- the present store, and after it one for each open subshell, the innermost first, which its end brings back
pub record Stores : Type 0 where
  pub present : Store
  pub saved : List Store

abbrev pub stores_code : Coded Stores
stores_code =
    code_by (Store × List Store) (coded× store_code (coded_list store_code)) (λ s. (s.present, s.saved)) (λ p. record { present = p.0; saved = p.1 }) (λ _. refl)

-- a refusal is the one that is given; out of memory may come at any time
abbrev pub Refuses : {T : Type 0} → VarErr → Result T VarErr → Type 0
Refuses Readonly given = given ≡ Err Readonly
Refuses LocalOutside given = given ≡ Err LocalOutside
Refuses BadSubscript given = given ≡ Err BadSubscript
Refuses ValueSize given = given ≡ Err ValueSize
Refuses TotalSize given = given ≡ Err TotalSize
Refuses Memory given = Unit {0}

-- an answer is the one that is given, or the call is out of memory
abbrev pub Answers : {T : Type 0} → Result T VarErr → Result T VarErr → Type 0
Answers (Ok x) given = given ≡ Ok x
Answers (Err e) given = Refuses e given

-- with the present store kept for the end of a subshell
abbrev pub open_sub : Stores → Stores
open_sub s = record s { saved = s.present ∷ s.saved }

-- with the store that was kept last, if there is one
abbrev pub brought_back : List Store → Stores → Stores
brought_back [] s = s
brought_back (store ∷ stores) s = record { present = store; saved = stores }

-- at the end of the innermost subshell
abbrev pub drop_sub : Stores → Stores
drop_sub s = brought_back s.saved s
