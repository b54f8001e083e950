use Rattle.floyd_formed_shares.proofs.Shared.{join_forms}
use Rattle.floyd_formed_shares.proofs.laws.join_share_keeps_forms.Goals as goal

pub returns : goal.returns
returns c = λ defs specs g args goals formed any row. join_forms defs specs g args goals formed row
