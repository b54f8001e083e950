-- A play that ends without goals is a derivation.
use Rattle.std.proofs.Common.{◌≡◌, List, [], ◌∷◌, ◌++◌, drop, Result, Ok, Err, refl, ap, sym, subst, ◌∙◌}
use Rattle.std.specs.Prelude.{IfOk}
use Rattle.floyd_text.specs.declared.refusal.Halt.{Halt}
use Rattle.floyd_text.specs.declared.place.Place.{Place}
use Rattle.floyd_assert_trees.specs.declared.items.Defs.{Defs}
use Rattle.floyd_assert_trees.specs.declared.spec.SpecTable.{SpecTable}
use Rattle.floyd_clight.specs.declared.unit.Local.{Local}
use Rattle.floyd_goal.specs.Stacks.{pushed}
use Rattle.floyd_goal_trees.specs.declared.goal.Goal.{Goal}
use Rattle.floyd_script_trees.specs.declared.trees.Command.{Command}
use Rattle.floyd_play_reading.specs.Arguments.{AreRead}
use Rattle.floyd_play_steps.specs.declared.state.PlayState.{PlayState}
use Rattle.floyd_play_steps.specs.declared.state.Start.{Start}
use Rattle.floyd_play_steps.specs.Derivations as d
use Rattle.floyd_play_steps.specs.Derivations.{Derives, HasDerivation, done, step}
use Rattle.floyd_play_steps.specs.Few.{AllHaveFew, HasFewOfBoth}
use Rattle.floyd_play_steps.specs.Forms.{IsCommand}
use Rattle.floyd_play_steps.specs.Plays.{at_end_of, started}
use Rattle.floyd_play_steps.proofs.PlayLemmas.{Started, Step, at_start, few_first}
use Rattle.floyd_play_steps.proofs.StepLemmas.{pushed_is}

module _ (defs : Defs) (specs : SpecTable) where
  -- a command before what is derived behind it
  pub by_step : (c : Command) (s n : PlayState) (blocks : List Local) → s.blocks ≡ blocks → IsCommand c → AllHaveFew s.stack → Step c s defs specs n → Derives defs specs blocks n.stack → Derives defs specs blocks s.stack
  by_step c s n blocks same own few st rest =
      let behind : n.stack ≡ st.made ++ st.left = (pushed_is st.made s.stack n.stack st.push).is ∙ ap (λ (gs : List Goal). st.made ++ drop 1 gs) st.first in
      let both : HasFewOfBoth st.goal = few_first c s defs specs n st few st.goal st.left st.first in
      let makes : d.Makes defs specs blocks st.goal st.left st.made = record {
        command = c;
        own = own;
        args = st.args;
        few = both.0;
        variables = both.1;
        read = subst (λ (bs : List Local). AreRead c.bytes c.tokens defs specs bs st.goal c.rule (Ok st.args)) same st.read;
        row = st.row;
        within = ap (λ (gs : List Goal). pushed st.made gs) (sym st.first) ∙ st.push ∙ ap (λ (gs : List Goal). Ok gs) behind;
      } in
      subst (Derives defs specs blocks) (sym st.first) (step st.made makes (subst (Derives defs specs blocks) behind rest))

  pub nothing_left : (end : Place) (goals : List Goal) → at_end_of end goals ≡ Ok tt → goals ≡ []
  nothing_left end [] e = refl
  nothing_left end (g ∷ gs) e = absurd cc

  none_derived : (blocks : List Local) (goals : List Goal) → goals ≡ [] → Derives defs specs blocks goals
  none_derived blocks goals none = subst (Derives defs specs blocks) (sym none) done

  from_start : (start : Start) (place : Place) (s : PlayState) → Started place start s → Derives defs specs s.blocks s.stack → HasDerivation defs specs start
  from_start start place s st derives = record {
    within = st.push ∙ ap (λ (gs : List Goal). Ok gs) st.stack;
    derives = subst (Derives defs specs start.blocks) st.stack (subst (λ (bs : List Local). Derives defs specs bs s.stack) st.blocks derives);
  }

  pub derived : (start : Start) (place : Place) (s : PlayState) (last : List Goal) → started place start ≡ Ok s → (Derives defs specs s.blocks last → Derives defs specs s.blocks s.stack) → last ≡ [] → HasDerivation defs specs start
  derived start place s last is behind none = from_start start place s (at_start place start s is) (behind (none_derived s.blocks last none))

  pub all_derived : (start : Start) (place : Place) (s : PlayState) (result : Result PlayState Halt) → started place start ≡ Ok s → IfOk result (λ last. Derives defs specs s.blocks last.stack → Derives defs specs s.blocks s.stack) →
      IfOk result (λ last. last.stack ≡ [] → HasDerivation defs specs start)
  all_derived start place s (Ok last) is h = λ none. derived start place s last.stack is h none
  all_derived start place s (Err halt) is h = tt
