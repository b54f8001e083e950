use Rattle.std.proofs.Common.{◌-◌, ◌≤◌, [], ◌∷◌, length}
use Rattle.floyd_lex.specs.declared.kinds.Punctuator.TheVariants as p
use Rattle.floyd_termread_tokens.specs.Tokens.{is_mark}
use Rattle.floyd_termread.specs.Brackets.{outermost}
use Rattle.floyd_specread_words.proofs.ManyLemmas.{SoFar}
use Rattle.floyd_specread_items.specs.Functions as specs
use Rattle.floyd_specread_items.proofs.functions.more_cases_at.Given as goal

abbrev pub decreases-each : goal.decreases-each
decreases-each l = length l.text.tokens.now.items - l.next

abbrev pub invariant-each : goal.invariant-each
invariant-each l = record {
  within : l.next ≤ length l.text.tokens.now.items;
  so_far : SoFar l.text.bytes.now l.text.tokens.now (is_mark p.Bar) (specs.next_case l.text.bytes.now l.text.tokens.now l.item.own.now l.item.head.now (outermost l.scope)) (l.fn.first ∷ []) l.at l.cases l.next;
}
