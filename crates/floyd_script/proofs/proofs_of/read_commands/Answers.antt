use Rattle.std.proofs.Common.{sym, ◌∙◌}
use Rattle.floyd_cparse_tokens.proofs.ReadLemmas.{gives_next}
use Rattle.floyd_script.proofs.ScriptExact.{command_eats}
use Rattle.floyd_script.proofs.proofs_of.read_commands.Goals as goal

pub each-smaller : goal.each-smaller
each-smaller c = (command_eats c.args.bytes.now c.args.tokens.now).law c.each.reader c.in_ok-command.command c.read_command.new.reader c.in_ok-command.ensures

pub each-preserved : goal.each-preserved
each-preserved c =
    rw c.in_ok-push.ensures.ok
    (gives_next c.each.invariant (command_eats c.args.bytes.now c.args.tokens.now) (sym c.goes_on.ensures ∙ c.each-test.true) c.in_ok-command.command c.read_command.new.reader c.in_ok-command.ensures)
