-- Laws of reading assertions: of each text there is one answer at most.
use Rattle.std.specs.Prelude.{ℕ, List}
use Rattle.floyd_lex.specs.Token.{TokenList}
use Rattle.floyd_termread_scope.specs.Scopes.{Env}
use Rattle.floyd_termread_phrases.specs.Laws.{OneAnswer}
use Rattle.floyd_termread_parts.specs.Parts.{part}
use Rattle.floyd_termread_assertions.specs.Existentials.{sort, binders, existentials}
use Rattle.floyd_termread_assertions.specs.Assertions.{assertion}

abbrev pub BindersHaveOneAnswer : Type 0
BindersHaveOneAnswer = (bytes : List ℕ) (list : TokenList) (depth : ℕ) → OneAnswer (sort bytes list depth) × OneAnswer (binders bytes list depth) × OneAnswer (existentials bytes list depth)

abbrev pub PartHasOneAnswer : Type 0
PartHasOneAnswer = (bytes : List ℕ) (list : TokenList) (depth : ℕ) (env : Env) → OneAnswer (part bytes list depth env)

abbrev pub AssertionHasOneAnswer : Type 0
AssertionHasOneAnswer = (bytes : List ℕ) (list : TokenList) (depth : ℕ) (env : Env) → OneAnswer (assertion bytes list depth env)
