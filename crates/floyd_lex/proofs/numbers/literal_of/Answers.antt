use Rattle.std.proofs.Common.{◌∙◌, ap}
use Rattle.std.proofs.lemmas.List.{take_rest}
use Rattle.floyd_lex.specs.declared.classes.Class.{Class}
use Rattle.floyd_lex.specs.Classes.{run}
use Rattle.floyd_lex.specs.Numbers.{suffix_of}
use Rattle.floyd_lex.proofs.NumberLemmas.{no_type, some_type}
use Rattle.floyd_lex.proofs.numbers.literal_of.Goals as goal

pub returns-in_err-of : goal.returns-in_err-of
returns-in_err-of c =
    let body = c.without_prefix-body.result.now in
    let is_n = c.run-n.ensures.value ∙ ap (λ (k : Class). run k body) c.digits.ensures in
    let is_s = c.in_ok-suffix.ensures ∙ ap suffix_of (take_rest body c.run-n.result) in
    c.from_residual-in_err-of.ensures ∙ no_type c.args.word.now c.base_of-base.result body c.run-n.result c.value_of-value.result c.in_ok-suffix.suffix c.base_of-base.ensures c.without_prefix-body.ensures is_n c.value_of-value.ensures is_s c.in_err-of.ensures

pub returns : goal.returns
returns c =
    let body = c.without_prefix-body.result.now in
    let is_n = c.run-n.ensures.value ∙ ap (λ (k : Class). run k body) c.digits.ensures in
    let is_s = c.in_ok-suffix.ensures ∙ ap suffix_of (take_rest body c.run-n.result) in
    some_type c.args.word.now c.base_of-base.result body c.run-n.result c.value_of-value.result c.in_ok-suffix.suffix c.base_of-base.ensures c.without_prefix-body.ensures is_n c.value_of-value.ensures is_s c.in_ok-of.of c.in_ok-of.ensures
