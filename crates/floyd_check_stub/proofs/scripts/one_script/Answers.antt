use Rattle.floyd_check_stub.proofs.ScriptForm.{same_script}
use Rattle.floyd_check_stub.proofs.scripts.one_script.Goals as goal

pub returns : goal.returns
returns c = same_script
