-- What a parameter looks for, and what its reference finds.
use Rattle.std.specs.Prelude.{◌≡◌, ℤ, List, Result, Ok, Err}
use Rattle.eb_syntax.specs.Tree.{Ref}
use Rattle.eb_syntax.specs.declared.tree.AP.TheOpen.{Param-F}
use Rattle.eb_syntax.specs.declared.tree.SubPart.{SubPart}
use Rattle.shell_state.specs.Outcome.{Doing, Ended, Faulted, ◌>>=◌}
use Rattle.shell_state.specs.State.{State}
use Rattle.shell_state.specs.declared.stop.Stop.{Stop}
use Rattle.shell_state.specs.declared.stop.Stop.TheVariants as stop
use Rattle.word_meaning.specs.Layers.{ParamLayer}
use Rattle.word_meaning.specs.References.{name_of, referred}
use Rattle.expand_values.specs.Seen.{element_at, found_of}
use Rattle.expand_values.specs.declared.found.Found.{Found}
use Rattle.expand_parts.specs.declared.refer.Referred.{Referred}
use Rattle.expand_parts.specs.declared.refer.Referred.TheVariants as referred_as

-- a reference is what it finds, or its subscript comes first; nothing is spent or changed
abbrev pub Refers : Result Referred Stop → Ref → (List SubPart → Doing ℤ) → State → Type 0
Refers (Ok (referred_as.Found f)) r index at = referred index r at ≡ Ended (found_of f) at
Refers (Ok (referred_as.Subscript parts)) r index at = referred index r at ≡ (index parts >>= element_at (name_of r)) at
Refers (Err (stop.Fault why)) r index at = referred index r at ≡ Faulted why at.left at.host.asked
Refers (Err stop.Failed) r index at = ⊥
Refers (Err stop.Memory) r index at = Unit {0}

-- a reference is what is found, or what stopped the search
abbrev pub IsFoundBy : Result Referred Stop → Result Found Stop → Type 0
IsFoundBy result (Ok f) = result ≡ Ok (referred_as.Found f)
IsFoundBy result (Err why) = result ≡ Err why

-- a parameter looks for a reference, and goes on with what that finds
abbrev pub IsReferred : ParamLayer → Ref → Type 0
IsReferred (Param-F.Length s) r = s ≡ r
IsReferred (Param-F.Names s b) r = ⊥
IsReferred (Param-F.Indirect s op) r = s ≡ r
IsReferred (Param-F.Param::Value s op) r = s ≡ r
