use Rattle.floyd_clight_runs.proofs.SampleLaws.{a_start, an_answer, a_sound_program}
use Rattle.floyd_clight_runs.proofs.laws.premises_are_met.Goals as goal

pub returns-clause-start : goal.returns-clause-start
returns-clause-start c = a_start

pub returns-clause-answer : goal.returns-clause-answer
returns-clause-answer c = an_answer

pub returns-clause-sound : goal.returns-clause-sound
returns-clause-sound c = a_sound_program
