use Rattle.std.proofs.Common.{◌≡◌, IfOk, sym, subst}
use Rattle.std.specs.Prelude.{option_and_then}
use Rattle.floyd_tree_sorts.specs.Table.{by_row}
use Rattle.floyd_tree.specs.Plain.{At, plains}
use Rattle.floyd_tree.specs.WellSorted.{sort_of, sorts_of}
use Rattle.floyd_tree.proofs.term.sort_here.Goals as goal

pub returns : goal.returns
returns c =
    let kids = plains c.args.kids.now in
    subst (λ h. IfOk c.row_here.result (λ s. s ≡ sort_of (At h kids))) (sym c.in-Operator.is)
    (subst (λ r. IfOk c.row_here.result (λ s. s ≡ option_and_then (by_row r) (sorts_of kids))) c.row.ensures c.row_here.ensures)
