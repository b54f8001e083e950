-- `split_struct k` makes of a struct one part for each field, and one for its padding where there is some.
use Rattle.std.specs.Prelude.{ℕ, List, [], ◌∷◌, Option, Some, None, Result, Ok, Err}
use Rattle.floyd_text.specs.declared.refusal.No.{No}
use Rattle.floyd_ctypes.specs.declared.field.Field as d
use Rattle.floyd_ctypes.specs.Structs.{Structs, fields_of}
use Rattle.floyd_tree.specs.declared.paths.PathStep.TheVariants.{Field}
use Rattle.floyd_tree.specs.Plain.{Plain}
use Rattle.floyd_assert_trees.specs.declared.sep.Sep.{Sep}
use Rattle.floyd_assert_trees.specs.declared.sep.Sep.TheVariants.{FieldAt}
use Rattle.floyd_fieldpath.specs.Projections.{project}
use Rattle.floyd_fieldpath.specs.Written.{on_ok}
use Rattle.floyd_goal_trees.specs.declared.args.Args.{Args}
use Rattle.floyd_goal_trees.specs.declared.goal.Goal.{Goal}
use Rattle.floyd_goal.specs.Goals.{wrong_goal}
use Rattle.floyd_goal_parts.specs.Rows.{Answer, InPlace}
use Rattle.floyd_goal_parts.specs.Sources.{part_number}
use Rattle.floyd_arrays_structs.specs.declared.structs.StructPart.{StructPart}
use Rattle.floyd_arrays_structs.specs.StructParts.{field_region, padding_parts, struct_of}

abbrev pub field_at : StructPart → List ℕ → Plain → Result Sep No
field_at s x v = Ok (FieldAt (field_region s.region x) v)

-- the part of the field of that name, which has its value in the struct's
abbrev pub field_part : Structs → StructPart → List ℕ → Result Sep No
field_part structs s x = on_ok (project structs s.ty (Field x ∷ []) s.value) (field_at s x)

-- a part for each field, before those that stand behind them
abbrev pub field_parts : Structs → StructPart → List Sep → List d.Field → Result (List Sep) No
field_parts structs s behind [] = Ok behind
field_parts structs s behind (f ∷ fields) =
    on_ok (field_part structs s f.name) (λ p. on_ok (field_parts structs s behind fields) (λ more. Ok (p ∷ more)))

abbrev pub of_fields : Structs → StructPart → Option (List d.Field) → Result (List Sep) No
of_fields structs s None = Err wrong_goal
of_fields structs s (Some fields) = field_parts structs s (padding_parts structs s fields) fields

abbrev pub fields_in : Structs → StructPart → Result (List Sep) No
fields_in structs s = of_fields structs s (fields_of structs s.tag)

abbrev pub split : Structs → Sep → Result (List Sep) No
split structs part = on_ok (struct_of structs part) (fields_in structs)

abbrev pub Row : Structs → Goal → Args → Answer → Type 0
Row structs goal args = InPlace goal (part_number args.target) (split structs)
