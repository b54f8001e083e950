-- A lemma is true where its start goal holds.
use Rattle.std.proofs.Common.{◌≡◌, ℕ, List, [], subst}
use Rattle.floyd_int.specs.declared.kinds.Value.TheVariants.{Vundef}
use Rattle.floyd_tree_values.specs.Rules.{AreDistinct}
use Rattle.floyd_truth.specs.Truth.{AllTrue}
use Rattle.floyd_assert_trees.specs.declared.items.Defs.{Defs}
use Rattle.floyd_assert_trees.specs.declared.items.Lemma.{Lemma}
use Rattle.floyd_assert_trees.specs.declared.spec.SpecTable.{SpecTable}
use Rattle.floyd_assert_meaning.specs.Assertions.{LemmaIsTrue}
use Rattle.floyd_assert_meaning.specs.Parts.{PartsHold, body}
use Rattle.floyd_assert_meaning.specs.Settings.{item_env, with_data}
use Rattle.floyd_assert_meaning.proofs.Inversions.{body_of}
use Rattle.floyd_goal_forms.specs.Starts.{lemma_start}
use Rattle.floyd_goal_forms.specs.Terms.{names_with}
use Rattle.floyd_goal_meaning.specs.declared.linked.Linked.{Linked}
use Rattle.floyd_goal_meaning.specs.GoalHolds.{HoldsFor, LemmasAreTrue}
use Rattle.floyd_goal_meaning.specs.Links.{AreApart, Has}
use Rattle.floyd_goal_meaning.specs.Programs.{Further, Places, setting}
use Rattle.floyd_start_laws.proofs.ItemEnvs.{item_global, item_suits}

pub lemma_true : (L : Linked) (more : List Further) (place : Places) (defs : Defs) (specs : SpecTable) (n : ℕ) (name : List ℕ) (l : Lemma) → Has L defs specs → AreApart L more place → LemmasAreTrue (setting L more place) defs → AreDistinct (names_with l.with) → l.left.existentials ≡ [] → HoldsFor defs specs n (lemma_start name l) → LemmaIsTrue (setting L more place) l
lemma_true L more place defs specs n name l has apart lemmas withs none holds = λ ds sorted h left.
    let S = setting L more place in
    let env = item_env S l.with ds in
    let w = body_of left in
    let props : AllTrue S.defs S.has_spec env l.left.props = subst (λ bs. AllTrue S.defs S.has_spec (with_data env bs w.witnesses) l.left.props) none w.props in
    let parts : PartsHold S env l.left.parts h = subst (λ bs. PartsHold S (with_data env bs w.witnesses) l.left.parts h) none w.parts in
    let right = holds.in_each L more place has apart lemmas env
    (record { suits = item_suits S l.with ds sorted withs; global = item_global S l.with ds; hypotheses = props; mark = tt })
    (λ x. Vundef) h (record { witnesses = []; sorted = tt; props = tt; locals = tt; parts = parts }) in
    body right.witnesses right.sorted right.props right.parts
