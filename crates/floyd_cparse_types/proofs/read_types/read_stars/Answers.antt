use Rattle.std.proofs.Common.{◌+◌, [], ◌∷◌, length, length-append, sym, ◌∙◌, arith}
use Rattle.floyd_cparse_types.proofs.TypeShrinks.{star_eats}
use Rattle.floyd_cparse_tokens.proofs.ReadLemmas.{gives_next}
use Rattle.floyd_cparse_types.proofs.read_types.read_stars.Goals as goal

pub each-smaller : goal.each-smaller
each-smaller c =
    (star_eats c.args.room (c.args.count + length c.each.all)).law c.each.reader c.in_ok-star.star c.read_star.new.reader (rw (← c.len.ensures) c.in_ok-star.ensures.value)

pub each-preserved : goal.each-preserved
each-preserved c = rw c.in_ok-push.ensures.ok record {
  turning =
      gives_next c.each.invariant.turning (star_eats c.args.room (c.args.count + length c.each.all)) (sym c.leads_mark.ensures ∙ c.each-test.true) c.in_ok-star.star c.read_star.new.reader
      (rw (← c.len.ensures) c.in_ok-star.ensures.value);
  room = omega (arith, length-append c.each.all (c.in_ok-star.star ∷ []), c.len.ensures, c.in_ok-star.ensures.room, c.each.invariant.room);
}
