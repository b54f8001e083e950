use Rattle.std.proofs.Common.{Some, []}
use Rattle.floyd_termread.specs.Brackets.{outermost}
use Rattle.floyd_termread_phrases.specs.Phrases as phrase
use Rattle.floyd_termread_assertions.specs.Assertions.{under}
use Rattle.floyd_specread_recursion.proofs.JudgedLemmas.{judged_is}
use Rattle.floyd_specread_items.proofs.VariableLemmas.{argument_env}
use Rattle.floyd_specread_items.proofs.functions.whole_result_at.Goals as goal

pub returns-clause-exact : goal.returns-clause-exact
returns-clause-exact c =
    judged_is c.args.text.bytes.now c.args.text.tokens.now c.args.item.own.now [] (phrase.term c.args.text.bytes.now c.args.text.tokens.now 0 (under (c.args.item.head.now).arguments (outermost c.args.scope.now)) (Some (c.args.item.head.now).result)) c.args.at c.term_at-read.result c.structural.result
    (rw (argument_env c.args.scope.now (c.args.item.head.now).arguments c.in_ok-bound.bound (rw c.as_slice.ensures at c.in_ok-bound.ensures)) at c.term_at-read.ensures.exact) c.structural.ensures.exact
