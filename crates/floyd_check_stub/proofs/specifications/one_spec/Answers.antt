use Rattle.floyd_check_stub.proofs.SpecForm.{same_spec}
use Rattle.floyd_check_stub.proofs.specifications.one_spec.Goals as goal

pub returns : goal.returns
returns c = same_spec
