-- Changes of a binding and of its size, and how a call plans one.
use Rattle.std.specs.Prelude.{◌≡◌, ℕ, ◌+◌, ◌^◌, ◌<◌, [], ◌++◌, IsTrue, is_some, length, unwrap_or, if◌then◌else◌, Option, Some, None, Result, Ok, Err}
use Rattle.std.specs.Option.{option_map_or}
use Rattle.std.specs.FinMap as map
use Rattle.shell_vars.specs.declared.binding.Binding.{Binding}
use Rattle.shell_vars.specs.declared.change.Change.{Change}
use Rattle.shell_vars.specs.declared.change.Change.TheVariants.{Set, Element, Append, Join, Without, Mark, Unset}
use Rattle.shell_vars.specs.declared.value.Value.{Value}
use Rattle.shell_vars.specs.declared.value.Value.TheVariants as value
use Rattle.eb_bytes.specs.Text.{Text}
use Rattle.shell_vars.specs.Elements.{joined, can_join, elements_size}
use Rattle.shell_vars.specs.Value.{elements_of, value_size}
use Rattle.shell_vars.specs.Store.{Store, unset_here, binding_at}
use Rattle.shell_vars.specs.Calls.{marked}
use Rattle.shell_vars.specs.Stores.{Refuses}
use Rattle.shell_vars.specs.declared.error.VarErr.{VarErr}

-- with more bytes at the end of a text, or of element 0 of an array
abbrev pub text_added : Text → Option Value → Value
text_added u None = value.Text u
text_added u (Some (value.Text t)) = value.Text (t ++ u)
text_added u (Some (value.Array es)) = value.Array (map.insert es 0 (unwrap_or (map.get es 0) [] ++ u))

-- the binding after a change
abbrev pub changed : Change → Binding → Binding
changed (Set v) b = record b { value = Some v }
changed (Element i t) b = record b { value = Some (value.Array (map.insert (elements_of b.value) i t)) }
changed (Append u) b = record b { value = Some (text_added u b.value) }
changed (Join more) b = record b { value = Some (value.Array (joined (elements_of b.value) more)) }
changed (Without i) b = record b { value = Some (value.Array (map.remove (elements_of b.value) i)) }
changed (Mark a) b = marked a b
changed Unset b = unset_here

-- the size of the element that has an index
abbrev pub size_at : ℕ → Option Value → ℕ
size_at i v = option_map_or (λ t. length t + 16) (map.get (elements_of v) i) 0

-- what a change takes from the size of the value
abbrev pub lost : Change → Binding → ℕ
lost (Set v) b = value_size b.value
lost (Element i t) b = size_at i b.value
lost (Append u) b = 0
lost (Join more) b = 0
lost (Without i) b = size_at i b.value
lost (Mark a) b = 0
lost Unset b = value_size b.value

-- what it adds to the size
abbrev pub gained : Change → ℕ
gained (Set v) = value_size (Some v)
gained (Element i t) = length t + 16
gained (Append u) = length u
gained (Join more) = elements_size more
gained (Without i) = 0
gained (Mark a) = 0
gained Unset = 0

-- the length of a name that is not bound there yet
abbrev pub new_name : ℕ → Text → Store → ℕ
new_name i name s = if is_some (binding_at i name s) then 0 else length name

-- that a change can be made: the indices are small enough, and an element that is to grow or to go is there
abbrev pub CanChange : Change → Binding → Type 0
CanChange (Set v) b = Unit {0}
CanChange (Element i t) b = i < 2 ^ 63
CanChange (Append u) b = IsTrue (map.contains_key (elements_of b.value) 0)
CanChange (Join more) b = IsTrue (can_join (elements_of b.value) more)
CanChange (Without i) b = IsTrue (map.contains_key (elements_of b.value) i)
CanChange (Mark a) b = Unit {0}
CanChange Unset b = Unit {0}

-- that a call plans the change which makes this binding, or is refused as it is
abbrev pub Plans : Result Change VarErr → Result Binding VarErr → Binding → Type 0
Plans (Ok change) given b = (given ≡ Ok (changed change b)) × CanChange change b
Plans (Err e) given b = Refuses e given

-- the same where there may be nothing to change
abbrev pub PlansSome : Result (Option Change) VarErr → Result Binding VarErr → Binding → Type 0
PlansSome (Ok None) given b = given ≡ Ok b
PlansSome (Ok (Some change)) given b = (given ≡ Ok (changed change b)) × CanChange change b × (gained change ≡ 0)
PlansSome (Err e) given b = Refuses e given
