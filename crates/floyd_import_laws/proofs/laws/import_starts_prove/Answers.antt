use Rattle.floyd_import_laws.proofs.Served.{import_follows}
use Rattle.floyd_import_laws.proofs.laws.import_starts_prove.Goals as goal

pub returns : goal.returns
returns c = λ defs specs proved n import own terms frame fit first second L more place has apart lemmas ds args h pre.
    import_follows L more place defs specs proved n import own terms frame fit first second has apart lemmas ds args h pre
