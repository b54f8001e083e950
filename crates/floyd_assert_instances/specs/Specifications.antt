-- A specification at terms for the variables of WITH.
use Rattle.std.specs.Prelude.{◌≡◌, ℕ, List, [], ◌∷◌, Option, Some, None, Result, Ok}
use Rattle.floyd_text.specs.declared.refusal.No.{No}
use Rattle.floyd_tree.specs.Plain.{Plain, plains}
use Rattle.floyd_truth.specs.Replace.{AllSortsAgree, puts}
use Rattle.floyd_assert_trees.specs.declared.assertion.Assertion.{Assertion}
use Rattle.floyd_assert_trees.specs.declared.assertion.Local.{Local}
use Rattle.floyd_assert_trees.specs.declared.spec.Funspec.{Funspec}
use Rattle.floyd_assert_trees.specs.declared.spec.Postcondition.{Postcondition}
use Rattle.floyd_assert_trees.specs.declared.spec.Precondition.{Precondition}
use Rattle.floyd_assert_changes.specs.Changed.{AssertionSortsAgree, assertion_with}
use Rattle.floyd_assert_changes.specs.Substituted.{terms_with}
use Rattle.floyd_fieldpath.specs.Written.{on_ok}
use Rattle.floyd_assert_instances.specs.declared.instance.Instance.{Instance}
use Rattle.floyd_assert_instances.specs.Instances.{taken}

-- what is asked of formulas and of memory
abbrev pub asked : Precondition → Assertion
asked pre = record { existentials = []; props = pre.props; locals = []; parts = pre.parts }

-- RETURN's term, where there is one, as the value of a temporary without a name
abbrev pub returned : Option Plain → List Local
returned None = []
returned (Some t) = record { name = []; term = t } ∷ []

-- A postcondition as an assertion: RETURN's term stands below the existentials as all else does.
abbrev pub given : Postcondition → Assertion
given post = record { existentials = post.existentials; props = post.props; locals = returned post.value; parts = post.parts }

abbrev pub value_in : List Local → Option Plain
value_in [] = None
value_in (l ∷ locals) = Some l.term

-- the instance, of what is asked, of the terms of PARAMS and of what is given
abbrev pub instance_of : Assertion → List Plain → Assertion → Instance
instance_of pre params post = record { pre = pre; params = params; post = record post { locals = [] }; value = value_in post.locals }

-- with these terms in place of these variables, of all of them at once
module _ (by : List (List ℕ × Plain)) where
  abbrev pub with_post : Funspec → Assertion → List Plain → Result Instance No
  with_post spec pre params = on_ok (assertion_with by (given spec.post)) (λ post. Ok (instance_of pre params post))

  abbrev pub with_params : Funspec → Assertion → Result Instance No
  with_params spec pre = on_ok (terms_with by spec.pre.params) (with_post spec pre)

  abbrev pub spec_with : Funspec → Result Instance No
  spec_with spec = on_ok (assertion_with by (asked spec.pre)) (with_params spec)

  -- each free occurrence of a variable that is replaced has the sort of its term
  pub record SpecSortsAgree (spec : Funspec) : Type 0 where
    pub pre : AssertionSortsAgree (puts by) (asked spec.pre)
    pub params : AllSortsAgree (puts by) (plains spec.pre.params)
    pub post : AssertionSortsAgree (puts by) (given spec.post)

-- The specification at these terms. They are as many as the variables of WITH, or their number is refused, and of their
-- sorts; and no term or formula is beyond a limit.
abbrev pub instantiated : Funspec → List Plain → Result Instance No
instantiated spec terms = on_ok (taken spec.with terms) (λ by. spec_with by spec)

-- Where the terms are taken, a free variable of the specification that is one of WITH has its sort.
abbrev pub TakesTerms : Funspec → List Plain → Type 0
TakesTerms spec terms = (by : List (List ℕ × Plain)) → taken spec.with terms ≡ Ok by → SpecSortsAgree by spec
