use Rattle.floyd_tree.specs.Formulas.{Says, formulas}
use Rattle.floyd_tree.specs.MadeFormulas.{formula_fault_at}
use Rattle.floyd_tree.specs.Plain.{plains}
use Rattle.floyd_termread_forms.proofs.MakingLemmas.{made_whole}
use Rattle.floyd_termread_forms.proofs.making.place_formula.Goals as goal

pub returns-in-Ok : goal.returns-in-Ok
returns-in-Ok c =
    let x = Says c.args.head (plains c.args.terms.now) (formulas c.args.kids.now) in
    record { exact = made_whole c.args.place (formula_fault_at x) x c.in-Ok.x c.in-Ok.ensures.exact }
