use Rattle.std.proofs.Common.{Err, refl}
use Rattle.std.specs.Prelude.{Option}
use Rattle.floyd_grammar.specs.ParseClauses.{pure, ◌>>=◌}
use Rattle.floyd_cparse_trees.specs.declared.expressions.CExpr.{CExpr}
use Rattle.floyd_cparse_expressions.specs.declared.values.Comma.TheVariants as comma
use Rattle.floyd_cparse_statements.specs.declared.values.ForHead.{ForHead}
use Rattle.floyd_cparse_expressions.specs.Expressions.{close_paren}
use Rattle.floyd_cparse_statements.specs.Statements.{semicolon}
use Rattle.floyd_cparse_statements.specs.StatementClauses.{for_effect, value, for_parts}
use Rattle.floyd_cparse_tokens.specs.Tokens.{Types}
use Rattle.floyd_cparse_tokens.proofs.ReadLemmas.{gives_then, gives_not, gives_from}
use Rattle.floyd_cparse_statements.proofs.read_locals.read_for_parts.Goals as goal

abbrev head_of : Option CExpr → Option CExpr → Option CExpr → ForHead
head_of a b c = record { first = a; condition = b; third = c }

pub returns-in_err-condition : goal.returns-in_err-condition
unfolding for_parts
returns-in_err-condition c =
    let e = c.in_err-condition.field-0.0 in
    let room = c.args.room in
    let types : Types = c.args.types.now in
    gives_from c.from_residual-in_err-condition.result e c.read_value.new.reader (for_parts types room c.args.reader.now) c.from_residual-in_err-condition.ensures.1
    (gives_then (for_effect types room semicolon) (λ (a : Option CExpr). value types room comma.LeftOut semicolon >>= λ b. for_effect types room close_paren >>= λ d. pure (head_of a b d)) c.in_ok-first.first c.args.reader.now c.read_for_effect.new.reader c.read_value.new.reader (Err e) c.in_ok-first.ensures
    (gives_not (value types room comma.LeftOut semicolon) (λ (b : Option CExpr). for_effect types room close_paren >>= λ d. pure (head_of c.in_ok-first.first b d)) c.read_for_effect.new.reader c.read_value.new.reader e c.in_err-condition.ensures))

pub returns-in_err-third : goal.returns-in_err-third
unfolding for_parts
returns-in_err-third c =
    let e = c.in_err-third.field-0.0 in
    let room = c.args.room in
    let types : Types = c.args.types.now in
    gives_from c.from_residual-in_err-third.result e c.read_for_effect-2.new.reader (for_parts types room c.args.reader.now) c.from_residual-in_err-third.ensures.1
    (gives_then (for_effect types room semicolon) (λ (a : Option CExpr). value types room comma.LeftOut semicolon >>= λ b. for_effect types room close_paren >>= λ d. pure (head_of a b d)) c.in_ok-first.first c.args.reader.now c.read_for_effect.new.reader c.read_for_effect-2.new.reader (Err e) c.in_ok-first.ensures
    (gives_then (value types room comma.LeftOut semicolon) (λ (b : Option CExpr). for_effect types room close_paren >>= λ d. pure (head_of c.in_ok-first.first b d)) c.in_ok-condition.condition c.read_for_effect.new.reader c.read_value.new.reader c.read_for_effect-2.new.reader (Err e) c.in_ok-condition.ensures
    (gives_not (for_effect types room close_paren) (λ (d : Option CExpr). pure (head_of c.in_ok-first.first c.in_ok-condition.condition d)) c.read_value.new.reader c.read_for_effect-2.new.reader e c.in_err-third.ensures)))

pub returns : goal.returns
unfolding for_parts
returns c = rw (c.in_ok-first.ensures, c.in_ok-condition.ensures, c.in_ok-third.ensures) refl

pub returns-in_err-first : goal.returns-in_err-first
unfolding for_parts
returns-in_err-first c =
    let e = c.in_err-first.field-0.0 in
    let room = c.args.room in
    let types : Types = c.args.types.now in
    gives_from c.from_residual.result e c.read_for_effect.new.reader (for_parts types room c.args.reader.now) c.from_residual.ensures.1
    (gives_not (for_effect types room semicolon) (λ (a : Option CExpr). value types room comma.LeftOut semicolon >>= λ b. for_effect types room close_paren >>= λ d. pure (head_of a b d)) c.args.reader.now c.read_for_effect.new.reader e c.in_err-first.ensures)
