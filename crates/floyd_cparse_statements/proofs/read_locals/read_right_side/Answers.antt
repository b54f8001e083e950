use Rattle.std.proofs.Common.{suc, sym, add-one}
use Rattle.floyd_cparse_expressions.specs.declared.values.Comma.TheVariants as comma
use Rattle.floyd_cparse_expressions.specs.Expressions.{Whole}
use Rattle.floyd_cparse_expressions.specs.ExpressionClauses.{nested}
use Rattle.floyd_cparse_statements.specs.Statements.{list_of_values}
use Rattle.floyd_cparse_statements.proofs.StatementShrinks.{barred_gives, passed_gives}
use Rattle.floyd_cparse_statements.proofs.read_locals.read_right_side.Goals as goal

pub returns-in-Some : goal.returns-in-Some
returns-in-Some c = rw (← barred_gives (list_of_values c.args.room) (nested c.args.types.now (suc c.args.room) Whole comma.Separates 0) c.args.reader.now c.in-Some.cause (sym c.in-Some.ensures)) c.take.ensures

pub returns-in-None : goal.returns-in-None
returns-in-None c = rw (← passed_gives (list_of_values c.args.room) (nested c.args.types.now (suc c.args.room) Whole comma.Separates 0) c.args.reader.now (sym c.in-None.ensures)) (rw add-one at c.read_expr.ensures)
