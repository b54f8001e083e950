-- What an evaluation gives, and where an object lies, is well formed where the assertion is.
use Rattle.std.specs.Prelude.{◌≡◌, List, Ok}
use Rattle.std.specs.List.{AllByRecursion}
use Rattle.floyd_tree_sorts.specs.declared.sorts.Sort.{Sort, Val, Z}
use Rattle.floyd_tree.specs.Plain.{Plain}
use Rattle.floyd_tree_values.specs.Means.{Defs}
use Rattle.floyd_tree_values.specs.Rules.{CallsOf, Scope}
use Rattle.floyd_tree_values.specs.Rules as r
use Rattle.floyd_goal_formulas.specs.Fits as f
use Rattle.floyd_assert_trees.specs.declared.assertion.Assertion.{Assertion}
use Rattle.floyd_assert_trees.specs.declared.assertion.Local.{Local}
use Rattle.floyd_assert_trees.specs.declared.sep.Sep.{Sep}
use Rattle.floyd_assert_trees.specs.declared.sep.Sep.TheVariants.{FieldAt}
use Rattle.floyd_clight.specs.declared.syntax.Expr.{Expr}
use Rattle.floyd_symexpr_rows.specs.declared.needs.Needs.{Needs}
use Rattle.floyd_symexpr.specs.declared.evaluation.Evaluated.{Evaluated}
use Rattle.floyd_symexpr.specs.Expressions.{evaluate}
use Rattle.floyd_tree.specs.Types.{SizedType}
use Rattle.floyd_fieldpath.specs.Projections.{project}
use Rattle.floyd_symexpr.specs.Locate.{locate}
use Rattle.floyd_symexpr_paths.specs.declared.location.Located.{Located}
use Rattle.floyd_tree.specs.declared.paths.PathStep.{PathStep}
use Rattle.floyd_tree.specs.declared.paths.PathStep.TheVariants.{Field, Subscript}

-- a term of that sort, each node of which is allowed
abbrev pub TermIn : Defs → Scope → Sort → Plain → Type 0
TermIn defs scope s t = r.Fits defs.structs scope (CallsOf defs.funs) s t

-- the sizes of the part's object are numbers
abbrev pub PartIsSized : Defs → Scope → Sep → Type 0
PartIsSized defs scope (FieldAt region value) = AllByRecursion (TermIn defs scope Z) region.ty.sizes
PartIsSized defs scope part = Unit {0}

-- the terms of LOCAL are values, and the sizes of parts are numbers
pub record SourceFits (defs : Defs) (scope : Scope) (source : Assertion) : Type 0 where
  pub locals : AllByRecursion (λ (l : Local). TermIn defs scope Val l.term) source.locals
  pub parts : AllByRecursion (PartIsSized defs scope) source.parts

-- the side formulas are well formed, and the terms that must be valid are values
pub record NeedsFit (defs : Defs) (scope : Scope) (needs : Needs) : Type 0 where
  pub sides : AllByRecursion (f.Fits defs scope) needs.sides
  pub valid : AllByRecursion (TermIn defs scope Val) needs.valid

abbrev pub EvaluationsFit : Type 0
EvaluationsFit =
    (defs : Defs) (scope : Scope) (source : Assertion) (e : Expr) (given : Evaluated) → SourceFits defs scope source → evaluate source defs.structs e ≡ Ok given →
    TermIn defs scope Val given.term × NeedsFit defs scope (record { sides = given.sides; valid = given.valid })

-- each subscript is a number
abbrev pub StepIn : Defs → Scope → PathStep → Type 0
StepIn defs scope (Field x) = Unit {0}
StepIn defs scope (Subscript i) = TermIn defs scope Z i

-- a root, a path from it, and what it needs
pub record LocationFits (defs : Defs) (scope : Scope) (given : Located) : Type 0 where
  pub root : TermIn defs scope Val given.root
  pub path : AllByRecursion (StepIn defs scope) given.path
  pub needs : NeedsFit defs scope (record { sides = given.sides; valid = given.valid })

abbrev pub LocationsFit : Type 0
LocationsFit =
    (defs : Defs) (scope : Scope) (source : Assertion) (e : Expr) (given : Located) → SourceFits defs scope source → locate source defs.structs e ≡ Ok given → LocationFits defs scope given

-- each node of an item of a value is allowed where each node of the value is
abbrev pub ItemsAreAllowed : Type 0
ItemsAreAllowed =
    (defs : Defs) (scope : Scope) (t : SizedType) (path : List PathStep) (v item : Plain) →
    AllByRecursion (TermIn defs scope Z) t.sizes → AllByRecursion (StepIn defs scope) path → r.EachAllowed defs.structs scope (CallsOf defs.funs) v → project defs.structs t path v ≡ Ok item →
    r.EachAllowed defs.structs scope (CallsOf defs.funs) item
