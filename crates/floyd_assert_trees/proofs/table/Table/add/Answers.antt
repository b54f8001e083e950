use Rattle.std.proofs.Common.{◌∙◌, ap, bytes_eq, ◌∷◌, [], ◌++◌}
use Rattle.std.specs.Map.{lookup}
use Rattle.indexmap.proofs.CallerLemmas.{insert_entry-new}
use Rattle.floyd_assert_trees.proofs.table.Table.add.Goals as goal

pub returns-clause-ok : goal.returns-clause-ok
returns-clause-ok g c =
    c.in_ok-insert.ensures.entries
    ∙ insert_entry-new bytes_eq c.self.inside.items c.args.name c.args.item (ap (lookup (bytes_eq c.args.name)) c.self.view_is ∙ c.requires)
    ∙ ap (λ es. es ++ (c.args.name, c.args.item) ∷ []) c.self.view_is
