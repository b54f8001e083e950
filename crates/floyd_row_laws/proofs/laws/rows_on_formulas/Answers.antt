use Rattle.floyd_pure_formulas.specs.LeftRight.{LeftRow, RightRow}
use Rattle.floyd_pure_formulas.specs.Refl.{ReflRow}
use Rattle.floyd_pure_formulas.specs.Trivial.{TrivialRow}
use Rattle.floyd_pure_formulas.proofs.Closing.{refl_true, trivial_true}
use Rattle.floyd_pure_formulas.proofs.LeftRight.{left_true, right_true}
use Rattle.floyd_pure_formulas.proofs.Rowing.{no_goals}
use Rattle.floyd_pure_laws.specs.Lia.{LiaRow}
use Rattle.floyd_pure_laws.proofs.Certifying.{lia_true}
use Rattle.floyd_pure_quantifiers.specs.Exists.{ExistsRow}
use Rattle.floyd_pure_quantifiers.specs.Intro.{IntroRow}
use Rattle.floyd_pure_quantifiers.specs.Split.{SplitRow}
use Rattle.floyd_pure_quantifiers.proofs.Instancing.{exists_true}
use Rattle.floyd_pure_quantifiers.proofs.IntroTrue.{intro_true}
use Rattle.floyd_pure_quantifiers.proofs.Splitting.{split_true}
use Rattle.floyd_pure_soundness.proofs.Kept.{keeping_row}
use Rattle.floyd_formed_equations.proofs.Equations.{split_forms}
use Rattle.floyd_formed_pure.proofs.Closing.{lia_forms, refl_forms, trivial_forms}
use Rattle.floyd_formed_pure.proofs.Using.{left_forms, right_forms}
use Rattle.floyd_formed_quantifiers.proofs.Quantified.{exists_forms, intro_forms}
use Rattle.floyd_row_laws.proofs.Gathering.{pure_goal}
use Rattle.floyd_row_laws.proofs.laws.rows_on_formulas.Goals as goal

pub returns-clause-refl : goal.returns-clause-refl
returns-clause-refl c = pure_goal ReflRow (keeping_row ReflRow refl_true) (record { run = λ run args goals row. no_goals goals _ row; entail = λ entail args goals row. no_goals goals _ row }) refl_forms

pub returns-clause-trivial : goal.returns-clause-trivial
returns-clause-trivial c = pure_goal TrivialRow (keeping_row TrivialRow trivial_true) (record { run = λ run args goals row. no_goals goals _ row; entail = λ entail args goals row. no_goals goals _ row }) trivial_forms

pub returns-clause-intro : goal.returns-clause-intro
returns-clause-intro c = pure_goal IntroRow (keeping_row IntroRow intro_true) (record { run = λ run args goals row. no_goals goals _ row; entail = λ entail args goals row. no_goals goals _ row }) intro_forms

pub returns-clause-left : goal.returns-clause-left
returns-clause-left c = pure_goal LeftRow (keeping_row LeftRow left_true) (record { run = λ run args goals row. no_goals goals _ row; entail = λ entail args goals row. no_goals goals _ row }) left_forms

pub returns-clause-right : goal.returns-clause-right
returns-clause-right c = pure_goal RightRow (keeping_row RightRow right_true) (record { run = λ run args goals row. no_goals goals _ row; entail = λ entail args goals row. no_goals goals _ row }) right_forms

pub returns-clause-split : goal.returns-clause-split
returns-clause-split c = pure_goal SplitRow (keeping_row SplitRow split_true) (record { run = λ run args goals row. no_goals goals _ row; entail = λ entail args goals row. no_goals goals _ row }) split_forms

pub returns-clause-exists : goal.returns-clause-exists
returns-clause-exists c = pure_goal ExistsRow (keeping_row ExistsRow exists_true) (record { run = λ run args goals row. no_goals goals _ row; entail = λ entail args goals row. no_goals goals _ row }) exists_forms

pub returns-clause-lia : goal.returns-clause-lia
returns-clause-lia c = pure_goal LiaRow (keeping_row LiaRow lia_true) (record { run = λ run args goals row. no_goals goals _ row; entail = λ entail args goals row. no_goals goals _ row }) lia_forms
