-- The two goals with which the proof of an import with a specification of its own starts.
use Rattle.std.specs.Prelude.{ℕ, Bool, ◌&&◌, List, [], ◌∷◌, ◌++◌, map, Option, Some, None, bytes_eq}
use Rattle.std.specs.List.{list_all, list_any}
use Rattle.floyd_tree_sorts.specs.declared.connectives.FormulaHead.TheVariants.{Equal}
use Rattle.floyd_tree.specs.Formulas.{PlainFormula, Says, NoFormula}
use Rattle.floyd_tree.specs.MadeFormulas.{formula_fits}
use Rattle.floyd_tree.specs.Plain.{Plain, Done, More}
use Rattle.floyd_truth.specs.Replace.{puts, replaced, replaced_formula}
use Rattle.floyd_assert_trees.specs.declared.assertion.Assertion.{Assertion}
use Rattle.floyd_assert_trees.specs.declared.assertion.Local.{Local}
use Rattle.floyd_assert_trees.specs.declared.binder.Binder.{Binder}
use Rattle.floyd_assert_trees.specs.declared.sep.Sep.{Sep}
use Rattle.floyd_assert_trees.specs.declared.spec.Funspec.{Funspec}
use Rattle.floyd_assert_trees.specs.declared.spec.Postcondition.{Postcondition}
pub use Rattle.floyd_assert_changes.specs.Apart.{apart as freed, apart_from as fresh_from, apart_name as fresh_name}
use Rattle.floyd_assert_changes.specs.Changed.{assertion_after, assertion_fits, part_after}
use Rattle.floyd_assert_laws.specs.Free.{option_mentions}
use Rattle.floyd_goal_trees.specs.declared.context.Mark.TheVariants as m
use Rattle.floyd_goal_trees.specs.declared.goal.Entail.{Entail}
use Rattle.floyd_goal_forms.specs.Terms.{names_with}

-- terms for the variables of WITH, one by one
abbrev pub with_terms : List Binder → List Plain → List (List ℕ × Plain)
with_terms (b ∷ binders) (t ∷ ts) = (b.name, t) ∷ with_terms binders ts
with_terms binders ts = []

abbrev pub equation : Plain → Plain → PlainFormula
equation a b = Says Equal (More a (More b Done)) NoFormula

abbrev pub equations : List Plain → List Plain → List PlainFormula
equations (a ∷ ts) (b ∷ us) = equation a b ∷ equations ts us
equations ts us = []

abbrev pub plain_assertion : List PlainFormula → List Sep → Assertion
plain_assertion props parts = record { existentials = []; props = props; locals = []; parts = parts }

-- The import's precondition gives the function's own, at these terms, and the parts beside it. Its PROP are hypotheses.
abbrev pub first_goal : Funspec → Funspec → List Plain → List Sep → Entail
first_goal import own terms frame =
    let by = puts (with_terms own.with terms) in
    record {
      context = record { variables = import.with; hypotheses = import.pre.props; mark = m.Plain };
      source = plain_assertion [] import.pre.parts;
      target = plain_assertion (equations import.pre.params (map (replaced by) own.pre.params) ++ map (replaced_formula by) own.pre.props) (map (part_after by) own.pre.parts ++ frame);
    }

-- ---- the own postcondition, with its existentials as variables

abbrev pub value_local : Option Plain → List Local
value_local None = []
value_local (Some t) = record { name = []; term = t } ∷ []

abbrev pub value_in : List Local → Option Plain
value_in [] = None
value_in (l ∷ locals) = Some l.term

-- with its term of RETURN below the existentials, as that of a temporary without a name
abbrev pub with_value : Postcondition → Assertion
with_value post = record { existentials = post.existentials; props = post.props; locals = value_local post.value; parts = post.parts }

abbrev pub is_among : List (List ℕ) → List ℕ → Bool
is_among names x = list_any (bytes_eq x) names

-- The function's own postcondition, at these terms: its existentials are no names of the import.
abbrev pub own_post : Funspec → Funspec → List Plain → Assertion
own_post import own terms =
    freed (is_among (names_with (import.with ++ import.post.existentials))) (assertion_after (puts (with_terms own.with terms)) (with_value own.post))

-- The import's postcondition: its existentials are not free in the own term of RETURN, which is to stand below them.
abbrev pub import_post : Funspec → Option Plain → Assertion
import_post import value = freed (option_mentions value) (with_value import.post)

abbrev pub value_equation : Option Plain → Option Plain → List PlainFormula
value_equation (Some a) (Some b) = equation a b ∷ []
value_equation a b = []

-- The function's own postcondition, at these terms, and the parts beside it give the import's.
abbrev pub second_goal : Funspec → Funspec → List Plain → List Sep → Entail
second_goal import own terms frame =
    let post = own_post import own terms in
    let target = import_post import (value_in post.locals) in
    record {
      context = record { variables = import.with ++ post.existentials; hypotheses = import.pre.props ++ post.props; mark = m.Plain };
      source = plain_assertion [] (post.parts ++ frame);
      target = record { existentials = target.existentials; props = target.props ++ value_equation (value_in post.locals) (value_in target.locals); locals = []; parts = target.parts };
    }

-- no term or formula of it is beyond the limits
abbrev pub is_within_limits : Entail → Bool
is_within_limits goal = list_all formula_fits goal.context.hypotheses && (assertion_fits goal.source && assertion_fits goal.target)
