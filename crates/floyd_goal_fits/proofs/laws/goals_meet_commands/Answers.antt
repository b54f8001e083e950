use Rattle.floyd_goal_fits.proofs.Goals.{hypotheses_fit, is_scoped, names_agree, pure_fits, target_fits, witness_agrees}
use Rattle.floyd_goal_fits.proofs.laws.goals_meet_commands.Goals as goal

pub returns-clause-specialize : goal.returns-clause-specialize
returns-clause-specialize c = λ defs specs g h. hypotheses_fit defs specs g h

pub returns-clause-intro : goal.returns-clause-intro
returns-clause-intro c = λ defs specs g h. target_fits defs specs g h

pub returns-clause-destruct : goal.returns-clause-destruct
returns-clause-destruct c = λ defs specs g h. is_scoped defs specs g h

pub returns-clause-intros : goal.returns-clause-intros
returns-clause-intros c = λ defs specs g h. names_agree defs specs g h

pub returns-clause-exists : goal.returns-clause-exists
returns-clause-exists c = λ defs specs g h. witness_agrees defs specs g h

pub returns-clause-soundness : goal.returns-clause-soundness
returns-clause-soundness c = λ defs specs pure h. pure_fits defs specs pure h
