use Rattle.std.proofs.Common.{sym, ◌∙◌, ap}
use Rattle.std.proofs.lemmas.List.{drop_all}
use Rattle.floyd_stub_play.specs.Derivation.{played_from}
use Rattle.floyd_stub_play.proofs.Plays.{start_holds_for}
use Rattle.floyd_stub_play.proofs.PlayLaws.{end_none}
use Rattle.floyd_stub_play.proofs.playing.play.Goals as goal

pub returns-in-0-clause-holds : goal.returns-in-0-clause-holds
returns-in-0-clause-holds c =
    λ n. start_holds_for n c.args.proof.now c.args.start
    (sym c.commands.invariant.played
    ∙ ap (λ cs. played_from cs c.args.proof.now.end c.commands.goals) (drop_all c.commands.command-index c.as_slice-command-items.result.now c.commands-test.false)
    ∙ end_none c.args.proof.now.end c.commands.goals.left (sym c.left.ensures ∙ c.in-0.is))
