-- What the commands that use lemmas are given.
use Rattle.std.specs.Prelude.{◌≡◌, ◌+◌, ◌<◌, ◌^◌, ℕ, List, length, Ok}
use Rattle.floyd_tree.specs.Plain.{Plain, plains, sizes}
use Rattle.floyd_truth.specs.Replace.{puts}
use Rattle.floyd_assert_trees.specs.declared.items.Defs.{Defs}
use Rattle.floyd_assert_trees.specs.declared.items.Lemma.{Lemma}
use Rattle.floyd_assert_changes.specs.Changed.{assertion_after}
use Rattle.floyd_assert_instances.specs.Instances.{pairs}
use Rattle.floyd_assert_laws.specs.InChanged.{body_nodes}
use Rattle.floyd_goal_trees.specs.Contexts.{context_of, scope_of}
use Rattle.floyd_goal_trees.specs.declared.args.Args.{Args}
use Rattle.floyd_goal_trees.specs.declared.goal.Goal.{Goal}
use Rattle.floyd_entail_lemmas.specs.Apply.{proved}
use Rattle.floyd_entail_lemmas.specs.Hypothesis.{hypothesis}
use Rattle.floyd_clause_forms.specs.Laws.{AreGiven}

-- fewer than 2 ^ 63 nodes stand in the terms and each side of the lemma, and in its right side at the terms beside so many
-- others
pub record HasFewNodes (l : Lemma) (terms : List Plain) (others : ℕ) : Type 0 where
  pub left : sizes (plains terms) + body_nodes l.left < 2 ^ 63
  pub right : sizes (plains terms) + body_nodes l.right < 2 ^ 63
  pub made : others + body_nodes (assertion_after (puts (pairs l.with terms)) l.right) < 2 ^ 63

-- the terms are well formed, and the lemma has few nodes, also beside the variables of the goal
pub record ApplyIsGiven (defs : Defs) (goal : Goal) (args : Args) : Type 0 where
  pub terms : AreGiven defs (scope_of (context_of goal)) args.terms
  pub few : (l : Lemma) → proved defs args.name ≡ Ok l → HasFewNodes l args.terms (length (context_of goal).variables)

pub record HypothesisIsGiven (defs : Defs) (goal : Goal) (args : Args) : Type 0 where
  pub terms : AreGiven defs (scope_of (context_of goal)) args.terms
  pub few : (l : Lemma) → hypothesis defs goal args.terms ≡ Ok l → HasFewNodes l args.terms (length (context_of goal).variables)
