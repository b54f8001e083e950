-- `join_struct k` makes a struct of the parts of its fields, and of its padding where there is some. Part k is that of the
-- first field.
use Rattle.std.specs.Prelude.{◌≡◌, ◌⊎◌, ℕ, ◌-◌, Bool, false, bytes_eq, List, [], ◌∷◌, ◌++◌, length, take, drop, slice_get, Option, Some, None, Result, Ok, Err}
use Rattle.floyd_text.specs.declared.refusal.No.{No}
use Rattle.floyd_ctypes.specs.declared.field.Field.{Field}
use Rattle.floyd_ctypes.specs.Structs.{Structs, fields_of}
use Rattle.floyd_tree.specs.declared.paths.PathStep.{PathStep}
use Rattle.floyd_tree.specs.declared.paths.PathStep.TheVariants.{Field as FieldStep, Subscript}
use Rattle.floyd_tree.specs.Plain.{Plain}
use Rattle.floyd_assert.specs.Removal.{Difference, Lacks}
use Rattle.floyd_assert_trees.specs.declared.assertion.Assertion.{Assertion}
use Rattle.floyd_assert_trees.specs.declared.sep.Region.{Region}
use Rattle.floyd_assert_trees.specs.declared.sep.Sep.{Sep}
use Rattle.floyd_assert_trees.specs.declared.sep.Sep.TheVariants.{FieldAt, Padding, Valid, Anything, Predicate}
use Rattle.floyd_fieldpath.specs.Updates.{pair}
use Rattle.floyd_fieldpath.specs.Written.{on_ok}
use Rattle.floyd_goal_trees.specs.Contexts.{after_command}
use Rattle.floyd_goal_trees.specs.declared.args.Args.{Args}
use Rattle.floyd_goal_trees.specs.declared.goal.Goal.{Goal}
use Rattle.floyd_goal.specs.Goals.{wrong_goal}
use Rattle.floyd_goal.specs.Sides.{context_of}
use Rattle.floyd_goal_parts.specs.Rows.{Answer}
use Rattle.floyd_goal_parts.specs.Sources.{from_source, in_place, part_number, part_of, with_parts}
use Rattle.floyd_shares.specs.Chains.{After, Then, When}
use Rattle.floyd_arrays_structs.specs.declared.join_struct.Joined.{Joined}
use Rattle.floyd_arrays_structs.specs.declared.objects.Found.{Found}
use Rattle.floyd_arrays_structs.specs.declared.structs.StructPart.{StructPart}
use Rattle.floyd_arrays_structs.specs.StructParts.{field_region, padding_parts, struct_at}

-- ---- the struct around a field

abbrev pub last_step : List PathStep → Option PathStep
last_step path = slice_get path (length path - 1)

abbrev pub name_of : PathStep → Option (List ℕ)
name_of (FieldStep x) = Some x
name_of (Subscript i) = None

abbrev pub name_in : Option PathStep → Option (List ℕ)
name_in None = None
name_in (Some step) = name_of step

-- the name of the field with which the path ends
abbrev pub last_field : List PathStep → Option (List ℕ)
last_field path = name_in (last_step path)

-- the path without its last step
abbrev pub outer_path : List PathStep → List PathStep
outer_path path = take (length path - 1) path

-- the region of the struct around
abbrev pub around : Region → Region
around region = record { share = region.share; ty = region.ty; path = outer_path region.path; root = region.root }

-- ---- the parts of its other fields

abbrev pub NoObjectAt : Region → Sep → Type 0
NoObjectAt region q = (v : Plain) → ¬ (q ≡ FieldAt region v)

-- the value of the first object at that region
abbrev pub IsValue : Region → List Sep → Result Plain No → Type 0
IsValue region [] value = value ≡ Err wrong_goal
IsValue region (q ∷ parts) value = ((v : Plain) × (q ≡ FieldAt region v) × (value ≡ Ok v)) ⊎ (NoObjectAt region q × IsValue region parts value)

abbrev pub none_found : Found
none_found = record { values = []; objects = [] }

abbrev pub with_first : Region → Plain → Found → Found
with_first region v found = record { values = v ∷ found.values; objects = FieldAt region v ∷ found.objects }

-- the object at that region with that value, before those that are found so
abbrev pub Before : Region → (Result Found No → Type 0) → Plain → Result Found No → Type 0
Before region More v = After More (λ found answer. answer ≡ Ok (with_first region v found))

-- the objects of these fields of the struct at the region, each the first one at its place, and their values
abbrev pub IsFound : Region → List Sep → List Field → Result Found No → Type 0
IsFound region parts [] answer = answer ≡ Ok none_found
IsFound region parts (f ∷ fields) answer =
    After (IsValue (field_region region f.name) parts) (Before (field_region region f.name) (IsFound region parts fields)) answer

-- ---- its padding

-- there is padding, and it is not among the parts
abbrev pub LacksFirst : List Sep → List Sep → Type 0
LacksFirst [] parts = ⊥
LacksFirst (p ∷ more) parts = Lacks p parts

-- ---- the whole

-- the value of a struct whose fields have these values
abbrev pub pairs : List Plain → Result Plain No
pairs [] = Err wrong_goal
pairs (v ∷ []) = Ok v
pairs (v ∷ w ∷ values) = on_ok (pairs (w ∷ values)) (pair v)

abbrev pub joined : Region → List Sep → Plain → Result Joined No
joined region gone v = Ok (record { whole = FieldAt region v; gone = gone })

-- the struct with the values of its first field and of the others
abbrev pub whole_of : StructPart → List Sep → Found → Result Joined No
whole_of s padding found = on_ok (pairs (s.value ∷ found.values)) (joined s.region (found.objects ++ padding))

abbrev pub OfFound : StructPart → List Sep → List Sep → Found → Result Joined No → Type 0
OfFound s padding parts found answer =
    (LacksFirst padding parts × (answer ≡ Err wrong_goal)) ⊎ (¬ LacksFirst padding parts × (answer ≡ whole_of s padding found))

abbrev pub OfFields : Structs → List Sep → StructPart → List Field → Result Joined No → Type 0
OfFields structs parts s fields = After (IsFound s.region parts (drop 1 fields)) (OfFound s (padding_parts structs s fields) parts)

abbrev pub is_first : List Field → List ℕ → Bool
is_first [] x = false
is_first (f ∷ fields) x = bytes_eq x f.name

abbrev pub OfTag : Structs → List Sep → StructPart → List ℕ → Option (List Field) → Result Joined No → Type 0
OfTag structs parts s x None answer = answer ≡ Err wrong_goal
OfTag structs parts s x (Some fields) answer = When (is_first fields x) (OfFields structs parts s fields) answer

-- x is the name of the struct's first field
abbrev pub OfWhole : Structs → List Sep → List ℕ → StructPart → Result Joined No → Type 0
OfWhole structs parts x s answer = OfTag structs parts s x (fields_of structs s.tag) answer

abbrev pub OfName : Structs → List Sep → Region → Plain → Option (List ℕ) → Result Joined No → Type 0
OfName structs parts region value None answer = answer ≡ Err wrong_goal
OfName structs parts region value (Some x) answer = Then (struct_at structs (around region) value) (OfWhole structs parts x) answer

-- the struct of whose first field this is the part
abbrev pub IsJoined : Structs → List Sep → Sep → Result Joined No → Type 0
IsJoined structs parts (FieldAt region value) answer = OfName structs parts region value (last_field region.path) answer
IsJoined structs parts (Padding region) answer = answer ≡ Err wrong_goal
IsJoined structs parts (Valid address) answer = answer ≡ Err wrong_goal
IsJoined structs parts Anything answer = answer ≡ Err wrong_goal
IsJoined structs parts (Predicate name terms) answer = answer ≡ Err wrong_goal

abbrev pub Leaves : Goal → Assertion → List Sep → Answer → Type 0
Leaves goal source rest answer = answer ≡ Ok (from_source goal (after_command (context_of goal)) (with_parts source rest) ∷ [])

-- The whole stands at k's place among the parts that are left once those of the other fields and the padding are taken out.
-- Each of them is there.
abbrev pub IsPutFor : Goal → ℕ → Assertion → Joined → Answer → Type 0
IsPutFor goal k source j = After (Difference (in_place k (j.whole ∷ []) source.parts) 1 j.gone) (Leaves goal source)

abbrev pub OfPart : Structs → Goal → ℕ → Assertion × Sep → Answer → Type 0
OfPart structs goal k found = After (IsJoined structs found.0.parts found.1) (IsPutFor goal k found.0)

abbrev pub Row : Structs → Goal → Args → Answer → Type 0
Row structs goal args = Then (part_of goal (part_number args.target)) (OfPart structs goal (part_number args.target))
