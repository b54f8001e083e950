use Rattle.std.proofs.Common.{◌∙◌}
use Rattle.floyd_termread_tokens.proofs.SeenLemmas.{until_all}
use Rattle.floyd_termread_tokens.proofs.reader.Reader.new.Goals as goal

pub returns : goal.returns
returns c = rw c.len.ensures (until_all c.args.bytes.now c.args.tokens.now c.args.at)
