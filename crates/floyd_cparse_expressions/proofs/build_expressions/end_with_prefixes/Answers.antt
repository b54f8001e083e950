use Rattle.std.proofs.Common.{◌≡◌, suc, ◌-◌, take, sym, ◌∙◌, ap, arith}
use Rattle.floyd_cparse_expressions.specs.Expressions.{end_with_prefixes}
use Rattle.floyd_cparse_expressions.proofs.BuildLemmas.{last_prefix}
use Rattle.floyd_cparse_expressions.proofs.build_expressions.end_with_prefixes.Goals as goal

pub each-preserved : goal.each-preserved
each-preserved c =
    let at : suc (c.each.at - 1) ≡ c.each.at = omega arith in
    record {
      within = omega arith;
      same =
          rw c.with_prefix-end.ensures
          (sym (last_prefix c.args.prefixes.now (c.each.at - 1) c.index-prefixes-at.result c.each.end (omega arith) c.index-prefixes-at.is)
          ∙ ap (λ n. end_with_prefixes (take n c.args.prefixes.now) c.each.end) at ∙ c.each.invariant.same);
    }
