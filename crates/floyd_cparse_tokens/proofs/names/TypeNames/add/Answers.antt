use Rattle.std.proofs.Common.{sym, ◌∙◌, refl}
use Rattle.floyd_cparse_tokens.proofs.NameLemmas.{name_added}
use Rattle.floyd_cparse_tokens.proofs.names.TypeNames.add.Goals as goal

pub returns-in_ok-insert : goal.returns-in_ok-insert
returns-in_ok-insert c =
    name_added (λ v. v.items) c.self.inside.names.keys c.insert.new.self.keys c.in_ok-from_slice.field-0 c.args.self.now c.args.name.now c.in_ok-insert.ensures.keys c.self.view_is c.in_ok-from_slice.ensures.items (sym c.contains.ensures ∙ c.if-not-contains.true)

pub returns-else-not-contains : goal.returns-else-not-contains
returns-else-not-contains c = rw (sym c.contains.ensures ∙ c.if-not-contains.false) refl
