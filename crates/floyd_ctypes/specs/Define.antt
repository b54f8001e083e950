-- How tags are declared and structs completed.
use Rattle.std.specs.Prelude.{◌≡◌, Bool, ℕ, List, [], ◌∷◌, ◌++◌, Option, None, Some, Result, Ok, Err, is_some, if◌then◌else◌, bytes_eq}
use Rattle.std.specs.List.{list_all}
use Rattle.std.specs.Map.{set_value}
use Rattle.floyd_ctypes.specs.declared.field.Field.{Field}
use Rattle.floyd_ctypes.specs.declared.define.DefineStop.{DefineStop}
use Rattle.floyd_ctypes.specs.declared.define.DefineStop.TheVariants.{Again, Incomplete, Memory}
use Rattle.floyd_ctypes.specs.Structs.{Structs, has_tag, is_complete}
use Rattle.floyd_ctypes.specs.Layout.{size}

-- with a tag, which is incomplete if it is new
abbrev pub declared : Structs → List ℕ → Structs
declared structs tag = if has_tag structs tag then structs else structs ++ (tag, None) ∷ []

-- with these fields for a tag that is there
abbrev pub completed : Structs → List ℕ → List Field → Structs
completed structs tag fields = set_value (bytes_eq tag) structs (Some fields)

-- whether the type of each field has a size
abbrev pub all_sized : Structs → List Field → Bool
all_sized structs fields = list_all (λ f. is_some (size structs f.ty)) fields

-- why a struct cannot be completed with these fields
abbrev pub refusal : Structs → List ℕ → List Field → Option DefineStop
refusal structs tag fields = if is_complete structs tag then Some Again else if all_sized structs fields then None else Some Incomplete

-- why a call stopped is the refusal; want of memory is met only where there is none
abbrev pub Refuses : DefineStop → Option DefineStop → Type 0
Refuses Again wanted = wanted ≡ Some Again
Refuses Incomplete wanted = wanted ≡ Some Incomplete
Refuses Memory wanted = wanted ≡ None

-- a call has an answer only where there is no refusal
abbrev pub Answers : {X : Type 0} → Result X DefineStop → Option DefineStop → Type 0
Answers (Ok x) wanted = wanted ≡ None
Answers (Err stop) wanted = Refuses stop wanted
