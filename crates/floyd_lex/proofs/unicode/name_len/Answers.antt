use Rattle.std.proofs.Common.{◌≡◌, ℕ, ◌≤◌, List, length, drop, sym, ◌∙◌, ap, subst, arith}
use Rattle.std.proofs.lemmas.List.{take_rest, length-drop, drop-drop}
use Rattle.floyd_lex.specs.Unicode.{name_step, name_len}
use Rattle.floyd_lex.proofs.NameLemmas.{name_len_step}
use Rattle.floyd_lex.proofs.unicode.name_len.Goals as goal

pub each-preserved : goal.each-preserved
each-preserved c =
    let bytes = c.args.bytes.now in
    let rest = take_rest bytes c.each.n in
    let fits : c.name_step-more.result ≤ length (drop c.each.n bytes) = subst (λ (z : List ℕ). c.name_step-more.result ≤ length z) rest c.name_step-more.ensures.within in
    let step : name_step (drop c.each.n bytes) ≡ c.name_step-more.result = sym (c.name_step-more.ensures.value ∙ ap name_step rest) in
    let whole = name_len_step (drop c.each.n bytes) c.name_step-more.result step (omega (arith, c.if-more-eq0.false)) fits in
    record {
      within = omega (arith, fits, length-drop c.each.n bytes, c.each.invariant.within);
      rest = omega (arith, c.each.invariant.rest, whole, ap name_len (drop-drop c.name_step-more.result c.each.n bytes));
    }
