-- What an object needs in the part that has it: each of its subscripts is one of its kind, and each subscript of its path
-- beyond the part's own is at least 0 and below the size of its array.
use Rattle.std.specs.Prelude.{ℕ, ◌-◌, ◌==◌, List, [], ◌∷◌, pos, Option, Some, None, unwrap_or, Result, Ok, Err, slice_get, Bool, if◌then◌else◌}
use Rattle.floyd_text.specs.declared.refusal.No.{No}
use Rattle.floyd_ctypes.specs.declared.ctype.CType.{CType}
use Rattle.floyd_ctypes.specs.Structs.{Structs}
use Rattle.floyd_tree.specs.declared.paths.PathStep.{PathStep}
use Rattle.floyd_tree.specs.declared.paths.PathStep.TheVariants.{Field, Subscript}
use Rattle.floyd_tree.specs.Formulas.{PlainFormula}
use Rattle.floyd_tree.specs.Plain.{Plain}
use Rattle.floyd_tree.specs.Types.{SizedType}
use Rattle.floyd_assert_trees.specs.declared.sep.Sep.{Sep}
use Rattle.floyd_fieldpath.specs.Addresses.{on_type}
use Rattle.floyd_fieldpath.specs.Nested.{literal, sized_type, type_after}
use Rattle.floyd_fieldpath.specs.Sums.{plus}
use Rattle.floyd_fieldpath.specs.Written.{on_ok}
use Rattle.floyd_symexpr_rows.specs.declared.needs.Needs.{Needs}
use Rattle.floyd_symexpr_rows.specs.Formulas.{at_most, saying}
use Rattle.floyd_symexpr_paths.specs.declared.location.Located.{Located}
use Rattle.floyd_symexpr_paths.specs.declared.lvalue.Lvalue.{Lvalue}
use Rattle.floyd_symexpr_paths.specs.declared.lvalue.Taken.{Taken}
use Rattle.floyd_symexpr_paths.specs.declared.matching.Found.{Found}
use Rattle.floyd_symexpr_paths.specs.Locating.{found}
use Rattle.floyd_symexpr_paths.specs.Places.{no_part, path_of, subscript_ranges}

-- the size of an array
abbrev pub count : SizedType → Plain
count t = unwrap_or (slice_get t.sizes 0) (literal (pos 0))

-- `0 <= i`, and `i + 1 <= n`
abbrev pub within : Plain → Plain → List PlainFormula → Result (List PlainFormula) No
within i n all = on_ok (plus i (literal (pos 1))) (λ more. saying all (at_most (literal (pos 0)) i ∷ at_most more n ∷ []))

-- a step from a type on
abbrev pub step_bounds : SizedType → PathStep → List PlainFormula → Result (List PlainFormula) No
step_bounds t (Field x) all = Ok all
step_bounds t (Subscript i) all = within i (count t) all

-- the bounds of a step, which are asked for or not, and the type after it
abbrev pub bounded_step : Structs → SizedType → Bool → PathStep → List PlainFormula → Result (SizedType × List PlainFormula) No
bounded_step structs t asked step all =
    on_ok (if asked then step_bounds t step all else Ok all) (λ more. on_type (type_after structs t step) (λ after. Ok (after, more)))

-- of the steps of a path, but for the first ones
abbrev pub bounds : Structs → SizedType → ℕ → List Taken → List PlainFormula → Result (List PlainFormula) No
bounds structs t skip [] all = Ok all
bounds structs t skip (taken ∷ form) all =
    on_ok (bounded_step structs t (skip == 0) taken.step all) (λ more. bounds structs more.0 (skip - 1) form more.1)

abbrev pub located_sides : Structs → Lvalue → Found → List PlainFormula → Result (List PlainFormula) No
located_sides structs l f all = on_ok (saying all (subscript_ranges l.subscripts)) (λ more. bounds structs f.ty f.own_steps f.form more)

abbrev pub located_in : Structs → Lvalue → Needs → Option Found → Result Located No
located_in structs l needs None = Err no_part
located_in structs l needs (Some f) =
    on_ok (located_sides structs l f needs.sides)
    (λ sides. Ok (record { root = l.root; path = path_of f.form; part = f.number; sides = sides; valid = needs.valid }))

-- where an object of a type lies
abbrev pub located : Structs → List Sep → CType → Lvalue → Needs → Result Located No
located structs parts t l needs = located_in structs l needs (found structs parts l.root (sized_type t) l.form)
