-- Formulas, parts of memory and assertions with terms in place of variables. Existentials are renamed, from the left, only
-- where they would capture.
use Rattle.std.specs.Prelude.{ℕ, Bool, not, ◌&&◌, ◌||◌, List, [], ◌∷◌, ◌++◌, map, Result, bytes_eq}
use Rattle.std.specs.List.{flat_map, list_any, list_all}
use Rattle.floyd_text.specs.declared.refusal.No.{No}
use Rattle.floyd_tree.specs.declared.paths.PathStep.{PathStep}
use Rattle.floyd_tree.specs.declared.paths.PathStep.TheVariants.{Field, Subscript}
use Rattle.floyd_tree.specs.Formulas.{formulas, formulas_mention}
use Rattle.floyd_tree.specs.Made.{fits}
use Rattle.floyd_tree.specs.MadeFormulas.{formula_fits}
use Rattle.floyd_tree.specs.Plain.{Plain, plains, mentions_in}
use Rattle.floyd_truth.specs.Capture.{Called, Changes, bound_in_some, new_name}
use Rattle.floyd_truth.specs.Replace.{AllSortsAgree, FormulasSortsAgree, puts, replaced, replaced_formula}
use Rattle.floyd_assert_changes.specs.Substituted.{within_limits}
use Rattle.floyd_assert_trees.specs.declared.assertion.Assertion.{Assertion}
use Rattle.floyd_assert_trees.specs.declared.assertion.Local.{Local}
use Rattle.floyd_assert_trees.specs.declared.binder.Binder.{Binder}
use Rattle.floyd_assert_trees.specs.declared.sep.Region.{Region}
use Rattle.floyd_assert_trees.specs.declared.sep.Sep.{Sep}
use Rattle.floyd_assert_trees.specs.declared.sep.Sep.TheVariants.{FieldAt, Padding, Valid, Anything, Predicate}

-- the terms of a part: its share, the sizes of its type, the subscripts of its path and its root, and what else it has
abbrev pub step_terms : PathStep → List Plain
step_terms (Field name) = []
step_terms (Subscript t) = t ∷ []

abbrev pub region_terms : Region → List Plain
region_terms r = r.share ∷ r.ty.sizes ++ (flat_map step_terms r.path ++ r.root ∷ [])

abbrev pub part_terms : Sep → List Plain
part_terms (FieldAt region value) = region_terms region ++ value ∷ []
part_terms (Padding region) = region_terms region
part_terms (Valid address) = address ∷ []
part_terms Anything = []
part_terms (Predicate name terms) = terms

abbrev pub local_terms : List Local → List Plain
local_terms locals = map (λ (l : Local). l.term) locals

-- the terms of LOCAL and SEP
abbrev pub terms_in : Assertion → List Plain
terms_in a = local_terms a.locals ++ flat_map part_terms a.parts

-- each of these with terms in place of variables
abbrev pub step_after : Changes → PathStep → PathStep
step_after changes (Field name) = Field name
step_after changes (Subscript t) = Subscript (replaced changes t)

abbrev pub region_after : Changes → Region → Region
region_after changes r = record {
  share = replaced changes r.share;
  ty = record { shape = r.ty.shape; sizes = map (replaced changes) r.ty.sizes };
  path = map (step_after changes) r.path;
  root = replaced changes r.root;
}

abbrev pub part_after : Changes → Sep → Sep
part_after changes (FieldAt region value) = FieldAt (region_after changes region) (replaced changes value)
part_after changes (Padding region) = Padding (region_after changes region)
part_after changes (Valid address) = Valid (replaced changes address)
part_after changes Anything = Anything
part_after changes (Predicate name terms) = Predicate name (map (replaced changes) terms)

abbrev pub local_after : Changes → Local → Local
local_after changes l = record { name = l.name; term = replaced changes l.term }

abbrev pub has_name : List ℕ → List Binder → Bool
has_name x binders = list_any (λ (b : Binder). bytes_eq x b.name) binders

-- whether the name is free in what stands below the existentials, and whether it is bound there
abbrev pub body_mentions : Assertion → List ℕ → Bool
body_mentions a x = formulas_mention x (formulas a.props) || mentions_in x (plains (terms_in a))

abbrev pub body_binds : Assertion → List ℕ → Bool
body_binds a x = bound_in_some x (formulas a.props)

-- The new name of an existential of x, where the others of its list are these, the earlier ones with their new names.
abbrev pub existential_name : Changes → Assertion → List Binder → List ℕ → List ℕ
existential_name changes a others x =
    new_name changes (λ y. body_mentions a y && not (has_name y a.existentials)) (λ name. body_mentions a name || (body_binds a name || has_name name others)) x

-- the existentials with their new names, where those so far are done
abbrev pub renamed_from : Changes → Assertion → List Binder → List Binder → List Binder
renamed_from changes a done [] = done
renamed_from changes a done (b ∷ more) =
    renamed_from changes a (done ++ record { name = existential_name changes a (done ++ more) b.name; sort = b.sort } ∷ []) more

abbrev pub new_existentials : Changes → Assertion → List Binder
new_existentials changes a = renamed_from changes a [] a.existentials

-- what becomes of variables below existentials that have these new names
abbrev pub below_existentials : Changes → List Binder → List Binder → Changes
below_existentials changes (b ∷ old) (c ∷ new) = below_existentials ((b.name, Called c.name) ∷ changes) old new
below_existentials changes old new = changes

abbrev pub inside : Changes → Assertion → Changes
inside changes a = below_existentials changes a.existentials (new_existentials changes a)

-- an assertion with these existentials, and with the changes in what stands below them
abbrev pub body_after : Changes → Assertion → List Binder → Assertion
body_after changes a new = record {
  existentials = new;
  props = map (replaced_formula changes) a.props;
  locals = map (local_after changes) a.locals;
  parts = map (part_after changes) a.parts;
}

abbrev pub assertion_after : Changes → Assertion → Assertion
assertion_after changes a = body_after (inside changes a) a (new_existentials changes a)

-- each free occurrence of a variable that is replaced has the sort of its term
abbrev pub PartsSortsAgree : Changes → List Sep → Type 0
PartsSortsAgree changes parts = AllSortsAgree changes (plains (flat_map part_terms parts))

abbrev pub AssertionSortsAgree : Changes → Assertion → Type 0
AssertionSortsAgree changes a = FormulasSortsAgree (inside changes a) (formulas a.props) × AllSortsAgree (inside changes a) (plains (terms_in a))

-- no term or formula is beyond a limit
abbrev pub parts_fit : List Sep → Bool
parts_fit parts = list_all fits (flat_map part_terms parts)

abbrev pub assertion_fits : Assertion → Bool
assertion_fits a = list_all formula_fits a.props && list_all fits (terms_in a)

-- what is made with these terms in place of these variables
abbrev pub parts_with : List (List ℕ × Plain) → List Sep → Result (List Sep) No
parts_with by parts = within_limits parts_fit (map (part_after (puts by)) parts)

abbrev pub assertion_with : List (List ℕ × Plain) → Assertion → Result Assertion No
assertion_with by a = within_limits assertion_fits (assertion_after (puts by) a)
