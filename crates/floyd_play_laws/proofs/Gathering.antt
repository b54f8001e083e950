-- Each command is lawful, by the laws of its row.
use Rattle.std.proofs.Common.{◌≡◌, ◌^◌, ℕ, List, Ok, Err, arith}
use Rattle.std.specs.List.{AllByRecursion}
use Rattle.floyd_text.specs.declared.rule.Rule.{Rule}
use Rattle.floyd_assert_trees.specs.declared.items.Defs.{Defs}
use Rattle.floyd_assert_trees.specs.declared.spec.SpecTable.{SpecTable}
use Rattle.floyd_entail.specs.Exists as exists
use Rattle.floyd_entail_soundness.specs.Rows.{IsWitness}
use Rattle.floyd_goal_bounds.proofs.Goals.{small}
use Rattle.floyd_goal_bounds.specs.Bounds.{ExitAtMost, HasAtMost}
use Rattle.floyd_goal_meaning.specs.GoalHolds.{HoldsFor}
use Rattle.floyd_goal_trees.specs.declared.args.Args.{Args}
use Rattle.floyd_goal_trees.specs.declared.exits.Exit.{Exit}
use Rattle.floyd_goal_trees.specs.declared.exits.Exit.TheVariants as x
use Rattle.floyd_goal_trees.specs.declared.goal.Goal.{Goal}
use Rattle.floyd_goal_trees.specs.declared.goal.Goal.TheVariants.{Run, Entail, Pure}
use Rattle.floyd_pure_quantifiers.specs.Exists.{ExistsRow}
use Rattle.floyd_row_laws.specs.Laws as laws
use Rattle.floyd_row_laws.specs.Laws.{HasLaws, Nothing}
use Rattle.floyd_play_rows.specs.Rows.{ExistsOn, Row, not_built}
use Rattle.floyd_play_steps.specs.Few.{HasFew}
use Rattle.floyd_play_steps.specs.Forms.{AreWellFormed}
use Rattle.floyd_play_laws.specs.Laws.{IsLawful, Left, Meets, asks}

-- ---- few existentials are not too many

exit_more : (e : Exit) → ExitAtMost (2 ^ 32) e → ExitAtMost (2 ^ 61) e
exit_more x.None h = tt
exit_more (x.To a) h = omega (arith, h)
exit_more x.End h = tt

more : (goal : Goal) → HasFew goal → HasAtMost (2 ^ 61) goal
more (Run run) h = (omega (arith, h.0), record { normal = exit_more run.exits.normal h.1.normal; brk = exit_more run.exits.brk h.1.brk; cont = exit_more run.exits.cont h.1.cont; ret = omega (arith, h.1.ret) })
more (Entail entail) h = (omega (arith, h.0), omega (arith, h.1))
more (Pure pure) h = tt

-- ---- one command

module _ (defs : Defs) (specs : SpecTable) (left : Left defs specs) where
  met : (command : Rule) (goal : Goal) (args : Args) → Meets defs specs command goal args → laws.Meets (asks command) defs specs goal args
  met command goal args m =
      let given = left.given command goal args m in
      record { formed = m.formed; small = small defs specs goal m.formed m.size (more goal m.few); given = given.0; asked = given.1 }

  pub lawful : (command : Rule) → HasLaws (asks command) (λ d. Row d command) → IsLawful defs specs command
  lawful command both = record {
    forms = λ goal args made m row. both.forms defs specs goal args made (met command goal args m) row;
    sound = λ n goal args made m row h. both.sound defs specs n goal args made (met command goal args m) row h;
  }

  none_built : (made : List Goal) → Ok made ≡ Err not_built → ⊥
  none_built made e = absurd cc

  pub not_yet : (command : Rule) → ((goal : Goal) (args : Args) (made : List Goal) → Row defs command goal args (Ok made) → Ok made ≡ Err not_built) → IsLawful defs specs command
  not_yet command is = record {
    forms = λ goal args made m row. absurd (none_built made (is goal args made row));
    sound = λ n goal args made m row h. absurd (none_built made (is goal args made row));
  }

-- ---- `Exists`, which is another row on a Pure goal

module _ (pure_row : HasLaws Nothing (λ defs. ExistsRow)) (row : HasLaws IsWitness (λ defs. exists.Row)) where
  pure_met : (defs : Defs) (specs : SpecTable) (goal : Goal) (args : Args) → laws.Meets IsWitness defs specs goal args → laws.Meets Nothing defs specs goal args
  pure_met defs specs goal args m = record { formed = m.formed; small = m.small; given = m.given; asked = tt }

  exists_sound : (defs : Defs) (specs : SpecTable) (n : ℕ) (goal : Goal) (args : Args) (goals : List Goal) → laws.Meets IsWitness defs specs goal args → ExistsOn goal args (Ok goals) → AllByRecursion (HoldsFor defs specs n) goals → HoldsFor defs specs n goal
  exists_sound defs specs n (Pure pure) args goals m r h = pure_row.sound defs specs n (Pure pure) args goals (pure_met defs specs (Pure pure) args m) r h
  exists_sound defs specs n (Entail entail) args goals m r h = row.sound defs specs n (Entail entail) args goals m r h
  exists_sound defs specs n (Run run) args goals m r h = row.sound defs specs n (Run run) args goals m r h

  exists_forms : (defs : Defs) (specs : SpecTable) (goal : Goal) (args : Args) (goals : List Goal) → laws.Meets IsWitness defs specs goal args → ExistsOn goal args (Ok goals) → AreWellFormed defs specs goals
  exists_forms defs specs (Pure pure) args goals m r = pure_row.forms defs specs (Pure pure) args goals (pure_met defs specs (Pure pure) args m) r
  exists_forms defs specs (Entail entail) args goals m r = row.forms defs specs (Entail entail) args goals m r
  exists_forms defs specs (Run run) args goals m r = row.forms defs specs (Run run) args goals m r

  pub exists_laws : HasLaws IsWitness (λ defs. ExistsOn)
  exists_laws = record {
    sound = λ defs specs n goal args goals m r h. exists_sound defs specs n goal args goals m r h;
    forms = λ defs specs goal args goals m r. exists_forms defs specs goal args goals m r;
  }
