use Rattle.std.proofs.Common.{subst}
use Rattle.floyd_assert_trees.specs.declared.sep.Sep.{Sep}
use Rattle.floyd_clauses.specs.Clauses.{Unfolds}
use Rattle.floyd_clauses.proofs.clauses.unfold.Goals as goal

pub clause-requires : goal.clause-requires
clause-requires g c = record { sorts = subst (λ (p : Sep). Unfolds c.args.defs.now p) c.in-Predicate.is c.requires.sorts }
