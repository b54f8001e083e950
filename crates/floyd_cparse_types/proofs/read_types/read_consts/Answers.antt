use Rattle.std.proofs.Common.{sym, ◌∙◌}
use Rattle.floyd_cparse_types.specs.Types.{const_token}
use Rattle.floyd_cparse_tokens.proofs.Shrinks.{one_eats}
use Rattle.floyd_cparse_tokens.proofs.ReadLemmas.{gives_next}
use Rattle.floyd_cparse_types.proofs.read_types.read_consts.Goals as goal

pub each-preserved : goal.each-preserved
each-preserved c =
    rw c.keep_first-first.ensures
    (gives_next c.each.invariant (one_eats (const_token c.args.room c.args.count)) (sym c.leads_word.ensures ∙ c.each-test.true) c.in_ok-take_const.field-0 c.take_const.new.reader c.in_ok-take_const.ensures)
