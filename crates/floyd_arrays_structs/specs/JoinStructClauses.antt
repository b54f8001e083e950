-- Objects that are found one after the other.
use Rattle.std.specs.Prelude.{◌≡◌, ◌⊎◌, [], ◌∷◌, ◌++◌, List, Option, Some, None, Result, Ok, Err}
use Rattle.floyd_text.specs.declared.refusal.No.{No}
use Rattle.floyd_tree.specs.Plain.{Plain}
use Rattle.floyd_assert_trees.specs.declared.sep.Region.{Region}
use Rattle.floyd_assert_trees.specs.declared.sep.Sep.{Sep}
use Rattle.floyd_assert_trees.specs.declared.sep.Sep.TheVariants.{FieldAt, Padding, Valid, Anything, Predicate}
use Rattle.floyd_shares.specs.Chains.{After}
use Rattle.floyd_arrays_structs.specs.declared.objects.Found.{Found}
use Rattle.floyd_arrays_structs.specs.JoinStruct.{IsValue}

-- the value of an object at r, where that is the region
abbrev pub IsHere : Region → Plain → Region → Option Plain → Type 0
IsHere r v region found = ((r ≡ region) × (found ≡ Some v)) ⊎ (¬ (r ≡ region) × (found ≡ None))

-- the value of the part, where it is an object at that region
abbrev pub IsIn : Region → Sep → Option Plain → Type 0
IsIn region (FieldAt r v) found = IsHere r v region found
IsIn region (Padding r) found = found ≡ None
IsIn region (Valid address) found = found ≡ None
IsIn region Anything found = found ≡ None
IsIn region (Predicate name terms) found = found ≡ None

-- with one object more, last
abbrev pub with_last : Found → Region → Plain → Found
with_last found region v = record { values = found.values ++ v ∷ []; objects = found.objects ++ FieldAt region v ∷ [] }

abbrev pub AddsValue : Found → Region → Plain → Result Found No → Type 0
AddsValue found region v answer = answer ≡ Ok (with_last found region v)

-- with the first object at that region more
abbrev pub Adds : Found → Region → List Sep → Result Found No → Type 0
Adds found region parts = After (IsValue region parts) (AddsValue found region)

-- with these before what is found, if nothing is refused
abbrev pub found_ahead : Found → Result Found No → Result Found No
found_ahead found (Ok more) = Ok (record { values = found.values ++ more.values; objects = found.objects ++ more.objects })
found_ahead found (Err why) = Err why
