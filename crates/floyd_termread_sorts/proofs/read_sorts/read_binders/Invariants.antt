use Rattle.std.proofs.Common.{length}
use Rattle.floyd_lex.specs.declared.kinds.Punctuator.TheVariants as p
use Rattle.floyd_grammar.proofs.Turns.{Turning}
use Rattle.floyd_termread_tokens.specs.Tokens.{is_mark}
use Rattle.floyd_termread_sorts.specs.Sorts.{plus_binder}
use Rattle.floyd_termread_sorts.specs.SortClauses.{binders, next_binder}
use Rattle.floyd_termread_sorts.proofs.read_sorts.read_binders.Given as goal

abbrev pub invariant-each : goal.invariant-each
invariant-each l = Turning (λ _. is_mark p.Comma) plus_binder (next_binder l.room l.count) l.all l.reader (binders l.room l.count l.depth l.fn.reader)

abbrev pub decreases-each : goal.decreases-each
decreases-each l = length l.reader
