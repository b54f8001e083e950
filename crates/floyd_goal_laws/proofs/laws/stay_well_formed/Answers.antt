use Rattle.floyd_goal_laws.proofs.Growing.{fits_program, means_program}
use Rattle.floyd_goal_laws.proofs.laws.stay_well_formed.Goals as goal

pub returns-clause-formulas : goal.returns-clause-formulas
returns-clause-formulas c = λ L defs specs scope f has fit. fits_program L defs specs has scope f fit

pub returns-clause-values : goal.returns-clause-values
returns-clause-values c = λ L defs specs env t d has m. means_program L defs specs has env t d m
