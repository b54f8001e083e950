use Rattle.std.proofs.Common.{Err, suc, refl, add-one}
use Rattle.floyd_grammar.specs.ParseClauses.{one, pure, ◌>>=◌}
use Rattle.floyd_cparse_expressions.specs.declared.values.Operand.{Operand}
use Rattle.floyd_cparse_expressions.specs.Expressions.{Whole}
use Rattle.floyd_cparse_expressions.specs.ExpressionClauses.{nested}
use Rattle.floyd_cparse_statements.specs.Statements.{value_end, some_tree}
use Rattle.floyd_cparse_statements.specs.StatementClauses.{some_value}
use Rattle.floyd_cparse_tokens.specs.Tokens.{Sight, is_mark, place_if}
use Rattle.floyd_cparse_tokens.proofs.ReadLemmas.{gives_then, gives_not, gives_from}
use Rattle.floyd_cparse_statements.proofs.read_locals.read_some_value.Goals as goal

pub returns-in_err-take_value_end : goal.returns-in_err-take_value_end
unfolding some_value
returns-in_err-take_value_end c =
    let end = λ (s : Sight). place_if (is_mark c.args.end s) s in
    let v = rw add-one at c.in_ok-value.ensures in
    let e = c.in_err-take_value_end.field-0.0 in
    gives_from c.from_residual-in_err-take_value_end.result e c.take_value_end.new.reader (some_value c.args.types.now c.args.room c.args.comma end c.args.reader.now) c.from_residual-in_err-take_value_end.ensures.1
    (gives_then (nested c.args.types.now (suc c.args.room) Whole c.args.comma 0) (λ (x : Operand). one (value_end c.args.types.now c.args.comma c.args.room end x) >>= λ _. pure (some_tree x)) c.in_ok-value.value c.args.reader.now c.read_expr.new.reader c.take_value_end.new.reader (Err e) v
    (gives_not (one (value_end c.args.types.now c.args.comma c.args.room end c.in_ok-value.value)) (λ _. pure (some_tree c.in_ok-value.value)) c.read_expr.new.reader c.take_value_end.new.reader e c.in_err-take_value_end.ensures))

pub returns : goal.returns
unfolding some_value
returns c = let v = rw add-one at c.in_ok-value.ensures in rw (c.in_ok-new.ensures, v, c.in_ok-take_value_end.ensures) refl

pub returns-in_err-value : goal.returns-in_err-value
unfolding some_value
returns-in_err-value c =
    let end = λ (s : Sight). place_if (is_mark c.args.end s) s in
    let v = rw add-one at c.in_err-value.ensures in
    let e = c.in_err-value.field-0.0 in
    gives_from c.from_residual.result e c.read_expr.new.reader (some_value c.args.types.now c.args.room c.args.comma end c.args.reader.now) c.from_residual.ensures.1
    (gives_not (nested c.args.types.now (suc c.args.room) Whole c.args.comma 0) (λ (x : Operand). one (value_end c.args.types.now c.args.comma c.args.room end x) >>= λ _. pure (some_tree x)) c.args.reader.now c.read_expr.new.reader e v)
