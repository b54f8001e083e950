-- The names of the file in what an evaluation gives, and in where an object lies, are known, where those of the assertion and
-- of the expression are.
use Rattle.std.specs.Prelude.{◌≡◌, ℕ, true, List, Ok, is_some, bytes_eq}
use Rattle.std.specs.List.{AllByRecursion}
use Rattle.std.specs.Map.{lookup}
use Rattle.floyd_ctypes.specs.declared.ctype.CType.{CType}
use Rattle.floyd_clight.specs.declared.syntax.Expr.{Expr}
use Rattle.floyd_clight_typing.specs.Expressions.{IsTyped, Names}
use Rattle.floyd_tree.specs.declared.paths.PathStep.{PathStep}
use Rattle.floyd_tree.specs.declared.paths.PathStep.TheVariants.{Field, Subscript}
use Rattle.floyd_assert_trees.specs.declared.assertion.Assertion.{Assertion}
use Rattle.floyd_assert_trees.specs.declared.assertion.Local.{Local}
use Rattle.floyd_assert_trees.specs.declared.items.Defs.{Defs}
use Rattle.floyd_assert_trees.specs.declared.sep.Sep.{Sep}
use Rattle.floyd_assert_trees.specs.declared.sep.Sep.TheVariants.{FieldAt}
use Rattle.floyd_assert_trees.specs.declared.spec.SpecTable.{SpecTable}
use Rattle.floyd_goal_forms.specs.Terms.{GlobalsKnown, HeadsFit}
use Rattle.floyd_symexpr_rows.specs.declared.needs.Needs.{Needs}
use Rattle.floyd_symexpr_paths.specs.declared.location.Located.{Located}
use Rattle.floyd_symexpr.specs.declared.evaluation.Evaluated.{Evaluated}
use Rattle.floyd_symexpr.specs.Expressions.{evaluate}
use Rattle.floyd_symexpr.specs.Locate.{locate}

-- in the sizes of a part's object
abbrev pub PartIsKnown : Defs → Sep → Type 0
PartIsKnown defs (FieldAt region value) = AllByRecursion (GlobalsKnown defs) region.ty.sizes
PartIsKnown defs part = Unit {0}

-- in the terms of LOCAL, and in the sizes of parts
pub record SourceIsKnown (defs : Defs) (source : Assertion) : Type 0 where
  pub locals : AllByRecursion (λ (l : Local). GlobalsKnown defs l.term) source.locals
  pub parts : AllByRecursion (PartIsKnown defs) source.parts

-- in side formulas, and in the terms that must be valid
pub record NeedsAreKnown (defs : Defs) (specs : SpecTable) (needs : Needs) : Type 0 where
  pub sides : AllByRecursion (HeadsFit defs specs) needs.sides
  pub valid : AllByRecursion (GlobalsKnown defs) needs.valid

-- the names of a file
abbrev pub FileIsKnown : Defs → List (List ℕ × CType) → Type 0
FileIsKnown defs file = AllByRecursion (λ x. is_some (lookup (bytes_eq x.0) defs.globals) ≡ true) file

abbrev pub StepIsKnown : Defs → PathStep → Type 0
StepIsKnown defs (Field x) = Unit {0}
StepIsKnown defs (Subscript i) = GlobalsKnown defs i

-- in a root, in a path from it, and in what it needs
pub record LocationIsKnown (defs : Defs) (specs : SpecTable) (given : Located) : Type 0 where
  pub root : GlobalsKnown defs given.root
  pub path : AllByRecursion (StepIsKnown defs) given.path
  pub needs : NeedsAreKnown defs specs (record { sides = given.sides; valid = given.valid })

abbrev pub EvaluationsAreKnown : Type 0
EvaluationsAreKnown =
    (defs : Defs) (specs : SpecTable) (names : Names) (source : Assertion) (e : Expr) (given : Evaluated) →
    FileIsKnown defs names.file → SourceIsKnown defs source → IsTyped defs.structs names e → evaluate source defs.structs e ≡ Ok given →
    GlobalsKnown defs given.term × NeedsAreKnown defs specs (record { sides = given.sides; valid = given.valid })

abbrev pub LocationsAreKnown : Type 0
LocationsAreKnown =
    (defs : Defs) (specs : SpecTable) (names : Names) (source : Assertion) (e : Expr) (given : Located) →
    FileIsKnown defs names.file → SourceIsKnown defs source → IsTyped defs.structs names e → locate source defs.structs e ≡ Ok given → LocationIsKnown defs specs given
