-- The part of memory in which an object lies. A path has three forms: as it is, without a leading `[0]`, and with a leading
-- `[0]` added. They are tried one after the other, each over all parts in order.
use Rattle.std.specs.Prelude.{ℕ, ◌+◌, List, [], ◌∷◌, length, pos, Bool, true, false, ◌&&◌, Option, Some, None, option_and_then, bytes_eq, if◌then◌else◌}
use Rattle.std.specs.Option.{option_map_or, option_or}
use Rattle.floyd_arith.specs.Same.{same_term}
use Rattle.floyd_ctypes.specs.Structs.{Structs}
use Rattle.floyd_tree.specs.declared.paths.PathStep.{PathStep}
use Rattle.floyd_tree.specs.declared.paths.PathStep.TheVariants.{Field, Subscript}
use Rattle.floyd_tree.specs.Plain.{Plain}
use Rattle.floyd_tree.specs.Types.{SizedType}
use Rattle.floyd_assert_trees.specs.declared.sep.Region.{Region}
use Rattle.floyd_assert_trees.specs.declared.sep.Sep.{Sep}
use Rattle.floyd_assert_trees.specs.declared.sep.Sep.TheVariants.{FieldAt}
use Rattle.floyd_fieldpath.specs.Nested.{literal, type_after}
use Rattle.floyd_fieldpath.specs.Sums.{is_zero}
use Rattle.floyd_symexpr_paths.specs.declared.lvalue.Taken.{Taken}
use Rattle.floyd_symexpr_paths.specs.declared.matching.Found.{Found}
use Rattle.floyd_symexpr_paths.specs.Same.{same_type}

-- The forms of a path.

abbrev pub is_first : PathStep → Bool
is_first (Subscript i) = is_zero i
is_first (Field x) = false

abbrev pub without_first : List Taken → Option (List Taken)
without_first [] = None
without_first (taken ∷ form) = if is_first taken.step then Some form else None

-- the added step has no type beside it
abbrev pub with_first : List Taken → List Taken
with_first form = record { step = Subscript (literal (pos 0)); ty = None } ∷ form

-- Whether a part has the object.

abbrev pub identical_steps : PathStep → PathStep → Bool
identical_steps (Field x) (Field y) = bytes_eq x y
identical_steps (Subscript i) (Subscript j) = same_term i j
identical_steps s t = false

abbrev pub is_prefix : List PathStep → List Taken → Bool
is_prefix [] form = true
is_prefix (step ∷ path) [] = false
is_prefix (step ∷ path) (taken ∷ form) = identical_steps step taken.step && is_prefix path form

-- of the types before and after a step, the type before a field or that after a subscript is the one beside it
abbrev pub agrees_at : SizedType → SizedType → PathStep → Option SizedType → Bool
agrees_at before after step None = true
agrees_at before after (Field x) (Some t) = same_type before t
agrees_at before after (Subscript i) (Some t) = same_type after t

-- the type after a step, where it agrees with the type beside it
abbrev pub agreeing_step : Structs → SizedType → Taken → Option SizedType
agreeing_step structs t taken =
    option_and_then (λ after. if agrees_at t after taken.step taken.ty then Some after else None) (type_after structs t taken.step)

-- the type at the end of a path, where the types along it agree with those beside it
abbrev pub agreeing_end : Structs → SizedType → List Taken → Option SizedType
agreeing_end structs t [] = Some t
agreeing_end structs t (taken ∷ form) = option_and_then (λ after. agreeing_end structs after form) (agreeing_step structs t taken)

-- and this is the type of the object
abbrev pub agrees : Structs → SizedType → List Taken → SizedType → Bool
agrees structs t form last = option_map_or (λ u. same_type u last) (agreeing_end structs t form) false

abbrev pub holds : Structs → Plain → SizedType → List Taken → Region → Bool
holds structs root last form region =
    same_term root region.root && (is_prefix region.path form && agrees structs region.ty form last)

-- where a part of the number n has the object: the form of its path, and the type and the number of steps of the part's own path
abbrev pub found_in : Structs → Plain → SizedType → List Taken → ℕ → Sep → Option Found
found_in structs root last form n (FieldAt region value) =
    if holds structs root last form region then Some (record { form = form; number = n; ty = region.ty; own_steps = length region.path }) else None
found_in structs root last form n part = None

-- the first part that has the object, where the parts are numbered from n on
abbrev pub found_from : Structs → Plain → SizedType → List Taken → ℕ → List Sep → Option Found
found_from structs root last form n [] = None
found_from structs root last form n (part ∷ parts) =
    option_or (found_in structs root last form n part) (found_from structs root last form (n + 1) parts)

abbrev pub found : Structs → List Sep → Plain → SizedType → List Taken → Option Found
found structs parts root last form =
    option_or (found_from structs root last form 1 parts)
    (option_or (option_and_then (λ shorter. found_from structs root last shorter 1 parts) (without_first form)) (found_from structs root last (with_first form) 1 parts))
