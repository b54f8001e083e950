use Rattle.std.proofs.Common.{List, ap, ◌∙◌}
use Rattle.floyd_stub_goal.specs.declared.script.Command.{Command}
use Rattle.floyd_check_stub.specs.LeftClauses.{left}
use Rattle.floyd_check_stub.specs.ReadingClauses.{commands_of}
use Rattle.floyd_check_stub.proofs.ScriptForm.{command_first}
use Rattle.floyd_check_stub.proofs.scripts.commands_from.Goals as goal

pub commands-preserved : goal.commands-preserved
commands-preserved c =
    let word = c.in-Some.word in
    let semicolon = c.in-Some-first_token.semicolon in
    ap (λ (es : List Command). commands_of es (left semicolon.rest)) c.in_ok-push-in-Some-command_of.ensures.ok
    ∙ command_first c.commands.commands (left c.commands.rest) (left word.rest) (left semicolon.rest) word.text.now semicolon.text.now word.place c.in-Some-command_of.rule
    c.in-Some.ensures.tokens c.in-Some.ensures.place c.in-Some-first_token.ensures.tokens c.in-Some-command_of.ensures
    ∙ c.commands.invariant
