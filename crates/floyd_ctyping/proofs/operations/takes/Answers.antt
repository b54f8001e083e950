use Rattle.std.proofs.Common.{ap, sym, ◌∙◌, is_some, option_and_then, nat_eq}
use Rattle.floyd_ctyping.specs.Operators.{signature_of, with_count}
use Rattle.floyd_ctyping.proofs.OperatorLemmas.{takes_function}
use Rattle.floyd_ctyping.proofs.operations.takes.Goals as goal

pub returns-in-Function : goal.returns-in-Function
returns-in-Function c =
    ap (λ n. nat_eq n c.args.count) c.len.ensures
    ∙ sym (ap (λ t. is_some (option_and_then (with_count c.args.count) (signature_of t))) c.in-Function.is ∙ takes_function c.args.count _ _)
