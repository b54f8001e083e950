use Rattle.std.proofs.Common.{Err, suc, refl, add-one}
use Rattle.floyd_grammar.specs.ParseClauses.{one, pure, ◌>>=◌}
use Rattle.floyd_cparse_expressions.specs.declared.values.Operand.{Operand}
use Rattle.floyd_cparse_expressions.specs.declared.values.Comma.TheVariants as comma
use Rattle.floyd_cparse_expressions.specs.Expressions.{Whole, close_paren}
use Rattle.floyd_cparse_expressions.specs.ExpressionClauses.{nested}
use Rattle.floyd_cparse_statements.specs.Statements.{value_end, tree_of}
use Rattle.floyd_cparse_statements.specs.StatementClauses.{inner_condition}
use Rattle.floyd_cparse_tokens.proofs.ReadLemmas.{gives_then, gives_not, gives_from}
use Rattle.floyd_cparse_statements.proofs.read_locals.read_inner_condition.Goals as goal

pub returns-in_err-take_value_end : goal.returns-in_err-take_value_end
unfolding inner_condition
returns-in_err-take_value_end c =
    let v = rw add-one at c.in_ok-value.ensures in
    let e = c.in_err-take_value_end.field-0.0 in
    gives_from c.from_residual-in_err-take_value_end.result e c.take_value_end.new.reader (inner_condition c.args.types.now c.args.room c.args.reader.now) c.from_residual-in_err-take_value_end.ensures.1
    (gives_then (nested c.args.types.now (suc c.args.room) Whole comma.LeftOut 0) (λ (x : Operand). one (value_end c.args.types.now comma.LeftOut c.args.room close_paren x) >>= λ _. pure (tree_of x)) c.in_ok-value.value c.args.reader.now c.read_expr.new.reader c.take_value_end.new.reader (Err e) v
    (gives_not (one (value_end c.args.types.now comma.LeftOut c.args.room close_paren c.in_ok-value.value)) (λ _. pure (tree_of c.in_ok-value.value)) c.read_expr.new.reader c.take_value_end.new.reader e c.in_err-take_value_end.ensures))

pub returns : goal.returns
unfolding inner_condition
returns c = let v = rw add-one at c.in_ok-value.ensures in rw (c.in_ok-new.ensures, v, c.in_ok-take_value_end.ensures) refl

pub returns-in_err-value : goal.returns-in_err-value
unfolding inner_condition
returns-in_err-value c =
    let v = rw add-one at c.in_err-value.ensures in
    let e = c.in_err-value.field-0.0 in
    gives_from c.from_residual.result e c.read_expr.new.reader (inner_condition c.args.types.now c.args.room c.args.reader.now) c.from_residual.ensures.1
    (gives_not (nested c.args.types.now (suc c.args.room) Whole comma.LeftOut 0) (λ (x : Operand). one (value_end c.args.types.now comma.LeftOut c.args.room close_paren x) >>= λ _. pure (tree_of x)) c.args.reader.now c.read_expr.new.reader e v)
