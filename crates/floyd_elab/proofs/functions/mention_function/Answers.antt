use Rattle.std.proofs.Common.{rules, ◌≡◌, sym, ◌∙◌}
use Rattle.floyd_elab_names.specs.declared.meaning.Meaning.TheVariants as m
use Rattle.floyd_elab.specs.Files.{add_meaning as add_meaning_lem}
use Rattle.floyd_elab.proofs.DeclareLemmas.{mentioned_before, mentioned_first}
use Rattle.floyd_elab.proofs.functions.mention_function.Goals as goal

pub returns-then-not-is_new : goal.returns-then-not-is_new
returns-then-not-is_new c = mentioned_before c.args.i.now c.args.t.now c.args.file.now (sym c.is_new.ensures ∙ c.if-not-is_new.true)

pub returns : goal.returns
returns c =
    let added : c.add_meaning.new.self ≡ add_meaning_lem c.args.i.now.name (m.Function c.args.t.now) c.args.file.now = search rules in
    mentioned_first c.args.i.now c.args.t.now c.args.file.now c.add_meaning.new.self c.add_function.new.functions (sym c.is_new.ensures ∙ c.if-not-is_new.false) added c.in_ok-add_function.ensures
