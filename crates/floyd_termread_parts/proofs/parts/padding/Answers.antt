use Rattle.std.proofs.Common.{Ok}
use Rattle.floyd_termread_parts.proofs.parts.padding.Goals as goal

pub returns-clause-exact : goal.returns-clause-exact
returns-clause-exact c =
    (Ok (c.in_ok-object.object, c.in_ok-object.first), c.in_ok-object.ensures.exact, (Ok (c.in_ok-path.path, c.in_ok-path.second), c.in_ok-path.ensures.exact, (Ok (c.in_ok-root.root, c.in_ok-root.behind), c.in_ok-root.ensures.exact, cc)))
