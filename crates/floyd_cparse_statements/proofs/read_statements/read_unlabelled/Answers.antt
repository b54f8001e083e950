use Rattle.std.proofs.Common.{sym}
use Rattle.floyd_cparse_expressions.specs.declared.values.Comma.TheVariants as comma
use Rattle.floyd_cparse_expressions.specs.ExpressionClauses.{effect}
use Rattle.floyd_cparse_statements.specs.Statements.{label, semicolon}
use Rattle.floyd_cparse_statements.proofs.StatementShrinks.{barred_gives, passed_gives}
use Rattle.floyd_cparse_statements.proofs.read_statements.read_unlabelled.Goals as goal

pub returns-in-Some : goal.returns-in-Some
returns-in-Some c = rw (← barred_gives label (effect c.args.types.now c.args.room comma.Plain semicolon) c.args.reader.now c.in-Some.cause (sym c.in-Some.ensures)) c.take.ensures

pub returns-in-None : goal.returns-in-None
returns-in-None c = rw (← passed_gives label (effect c.args.types.now c.args.room comma.Plain semicolon) c.args.reader.now (sym c.in-None.ensures)) c.read_effect.ensures
