use Rattle.floyd_shares_soundness.proofs.Sharing.{split_sound}
use Rattle.floyd_shares_soundness.proofs.laws.split_share_is_sound.Goals as goal

pub returns : goal.returns
returns c = λ defs specs n g args goals formed asks row h. split_sound defs specs n g args goals formed asks row h
