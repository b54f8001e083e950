-- The start goals of an import, from what is made of the specifications.
use Rattle.std.specs.Prelude.{List, [], ◌++◌, map}
use Rattle.floyd_tree.specs.Plain.{Plain}
use Rattle.floyd_truth.specs.Replace.{puts, replaced}
use Rattle.floyd_assert_trees.specs.declared.assertion.Assertion.{Assertion}
use Rattle.floyd_assert_trees.specs.declared.sep.Sep.{Sep}
use Rattle.floyd_assert_trees.specs.declared.spec.Funspec.{Funspec}
use Rattle.floyd_assert_changes.specs.Apart.{apart}
use Rattle.floyd_assert_changes.specs.Changed.{assertion_after, has_name}
use Rattle.floyd_assert_instances.specs.declared.instance.Instance.{Instance}
use Rattle.floyd_assert_instances.specs.Specifications.{asked, given, instance_of, returned}
use Rattle.floyd_goal_trees.specs.declared.context.Mark.TheVariants as m
use Rattle.floyd_goal_trees.specs.declared.goal.Entail.{Entail}
use Rattle.floyd_links.specs.Imports.{equations, import_post, plain_assertion, value_equation, value_in, with_terms}

-- the function's own specification at these terms
abbrev pub own_at : Funspec → List Plain → Instance
own_at own terms =
    let by = puts (with_terms own.with terms) in
    instance_of (assertion_after by (asked own.pre)) (map (replaced by) own.pre.params) (assertion_after by (given own.post))

-- its postcondition with the term of RETURN as that of a temporary without a name
abbrev pub whole_post : Instance → Assertion
whole_post i = record { existentials = i.post.existentials; props = i.post.props; locals = returned i.value; parts = i.post.parts }

abbrev pub first_by : Funspec → Instance → List Sep → Entail
first_by import i frame = record {
  context = record { variables = import.with; hypotheses = import.pre.props; mark = m.Plain };
  source = plain_assertion [] import.pre.parts;
  target = plain_assertion (equations import.pre.params i.params ++ i.pre.props) (i.pre.parts ++ frame);
}

-- from the postconditions, whose existentials are renamed
abbrev pub second_by : Funspec → Assertion → Assertion → List Sep → Entail
second_by import post target frame = record {
  context = record { variables = import.with ++ post.existentials; hypotheses = import.pre.props ++ post.props; mark = m.Plain };
  source = plain_assertion [] (post.parts ++ frame);
  target = record { existentials = target.existentials; props = target.props ++ value_equation (value_in post.locals) (value_in target.locals); locals = []; parts = target.parts };
}

-- the own postcondition, whose existentials are no names of the import
abbrev pub own_post : Funspec → Instance → Assertion
own_post import i = apart (λ x. has_name x (import.with ++ import.post.existentials)) (whole_post i)

abbrev pub second_of : Funspec → Instance → List Sep → Entail
second_of import i frame = second_by import (own_post import i) (import_post import (value_in (own_post import i).locals)) frame
