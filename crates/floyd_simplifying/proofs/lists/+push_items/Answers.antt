use Rattle.std.proofs.Common.{sym, ap, ◌∙◌}
use Rattle.std.specs.Prelude.{option_map}
use Rattle.std.specs.Map.Iter.{deref_pair}
use Rattle.floyd_simplifying.proofs.WrittenOut.{pushed_ok}
use Rattle.floyd_simplifying.proofs.lists.+push_items.Goals as goal

pub returns-in_ok-push-in-Some : goal.returns-in_ok-push-in-Some
returns-in_ok-push-in-Some t c =
    pushed_ok c.args.t.now c.in-Some.first.now c.in-Some.rest.now c.args.all.now.items c.push.new.self.items c.push_items.new.all.items c.in_ok-share-in-Some.field-0 c.push_items.result
    (sym (ap (option_map deref_pair) c.in-Some.is) ∙ c.cons_parts.ensures)
    c.in_ok-push-in-Some.ensures.items c.in_ok-share-in-Some.ensures.value c.push_items.ensures
