use Rattle.std.proofs.Common.{◌≡◌, take}
use Rattle.floyd_specread_state.proofs.sharing.share_pred_cases.Given as goal

abbrev pub invariant-cases : goal.invariant-cases
invariant-cases l = l.all ≡ take l.case-index l.cases
