-- How deep a phrase stands, and what names stand for in it, where it stands alone.
use Rattle.std.specs.Prelude.{ℕ, zero, suc, ◌+◌, pred, Option, Some, None, option_map, slice_get}
use Rattle.floyd_lex.specs.declared.kinds.Punctuator.TheVariants as p
use Rattle.floyd_lex.specs.declared.kinds.TokenKind.{TokenKind}
use Rattle.floyd_lex.specs.declared.kinds.TokenKind.TheVariants as k
use Rattle.floyd_lex.specs.Token.{TokenList}
use Rattle.floyd_termread_scope.specs.declared.scope.Scope.{Scope}
use Rattle.floyd_termread_scope.specs.Scopes.{Env, sort_of}

-- what names stand for outside of all binders
abbrev pub outermost : Scope → Env
outermost scope = record {
  variable = sort_of scope.variables;
  defs = scope.defs.now;
  specs = scope.specs.now;
  locals = option_map (λ names. names.now) scope.locals;
}

-- the brackets that are open behind a token, where so many are before it
abbrev pub open_behind : ℕ → TokenKind → ℕ
open_behind n (k.Punctuator p.OpenParen) = n + 1
open_behind n (k.Punctuator p.OpenBracket) = n + 1
open_behind n (k.Punctuator p.CloseParen) = pred n
open_behind n (k.Punctuator p.CloseBracket) = pred n
open_behind n kind = n

abbrev pub open_after : ℕ → Option TokenKind → ℕ
open_after n None = n
open_after n (Some kind) = open_behind n kind

-- the brackets that are open before the token of a number
abbrev pub open_before : TokenList → ℕ → ℕ
open_before list zero = 0
open_before list (suc i) = open_after (open_before list i) (option_map (λ x. x.kind) (slice_get list.items i))
