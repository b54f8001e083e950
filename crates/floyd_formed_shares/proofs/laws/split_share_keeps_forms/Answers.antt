use Rattle.floyd_formed_shares.proofs.Shared.{split_forms}
use Rattle.floyd_formed_shares.proofs.laws.split_share_keeps_forms.Goals as goal

pub returns : goal.returns
returns c = λ defs specs g args goals formed number row. split_forms defs specs g args goals formed number row
