use Rattle.std.proofs.Common.{sym, ◌∙◌, ap}
use Rattle.floyd_assert_changes.specs.ChangesClauses.{becomes_by, changes}
use Rattle.floyd_assert_changes.proofs.Replacing.{called_told, sound_there, stays_whole}
use Rattle.floyd_assert_changes.proofs.replace.variable_after.Goals as goal

pub returns-in_ok-share-in-Called-2 : goal.returns-in_ok-share-in-Called-2
returns-in_ok-share-in-Called-2 g c =
    let told =
    called_told c.make.result (changes c.args.changing.now) c.args.t.now c.args.x.now c.in-Called.name.now c.in_ok-share-in-Called.field-0 c.args.own.now c.in_ok-share-in-Called-2.field-0
    c.sort-sort.result.now c.requires c.sort-sort.ensures (sym (ap becomes_by c.in-Called.is) ∙ c.found.ensures) c.in_ok-share-in-Called.ensures c.in_ok-share-in-Called-2.ensures c.make.ensures.exact in
    record { ok = told.0; fits = told.1; err = told.2 }

pub returns-in_ok-share-in-Stays-clause-ok : goal.returns-in_ok-share-in-Stays-clause-ok
returns-in_ok-share-in-Stays-clause-ok g c =
    c.in_ok-share-in-Stays.ensures.value
    ∙ stays_whole (changes c.args.changing.now) c.args.t.now c.args.x.now c.args.own.now c.sort-sort.result.now c.requires c.sort-sort.ensures (sym (ap becomes_by c.in-Stays.is) ∙ c.found.ensures)

pub returns-in_ok-share-in-Stays-clause-fits : goal.returns-in_ok-share-in-Stays-clause-fits
returns-in_ok-share-in-Stays-clause-fits g c =
    sound_there c.args.t.now _
    (stays_whole (changes c.args.changing.now) c.args.t.now c.args.x.now c.args.own.now c.sort-sort.result.now c.requires c.sort-sort.ensures (sym (ap becomes_by c.in-Stays.is) ∙ c.found.ensures))
    c.in_ok-share-in-Stays.ensures.sound
