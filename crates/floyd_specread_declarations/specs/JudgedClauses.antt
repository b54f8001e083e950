-- Words of private clauses: what is judged of what was read of a declaration.
use Rattle.std.specs.Prelude.{ℕ, Bool, true, false, List, Option, Result, Ok, Err}
use Rattle.floyd_text.specs.declared.refusal.Halt.{Halt}
use Rattle.floyd_text.specs.declared.refusal.Halt.TheVariants.{Refused, Memory}
use Rattle.floyd_text.specs.declared.refusal.Refusal.{Refusal}
use Rattle.floyd_lex.specs.Token.{TokenList}
use Rattle.floyd_cparse_trees.specs.declared.types.Identifier.{Identifier}
use Rattle.floyd_assert_trees.specs.declared.spec.Funspec.{Funspec}
use Rattle.floyd_termread_scope.specs.Scopes.{Env, Named}
use Rattle.floyd_termread_phrases.specs.Reads.{Answer}
use Rattle.floyd_specread_trees.specs.declared.declarations.Declaration.{Declaration}
use Rattle.floyd_specread_sources.specs.declared.functions.Prototype.{Prototype}
use Rattle.floyd_specread_declarations.specs.declared.standing.Standing.{Standing}
use Rattle.floyd_specread_declarations.specs.Judging.{Differs, TypesAre, type_differs, body_differs}
use Rattle.floyd_specread_declarations.specs.UnlikeClauses.{Decides}

-- at the name, by whether the types are unlike and whether the function is as it is written
abbrev pub name_judged : Identifier → Bool → Bool → Result (Unit {0}) Refusal
name_judged name true as_written = Err (type_differs name)
name_judged name false true = Ok tt
name_judged name false false = Err (body_differs name)

module _ (bytes : List ℕ) (list : TokenList) (functions : Named Prototype) (stand : Standing) (name : Identifier) (env : Env) (specs : Named Funspec) (at : ℕ) where
  abbrev pub UnlikeOf : Answer Declaration → Bool → Type 0
  UnlikeOf read b = (t : Option Prototype) × TypesAre bytes list stand name env specs at read t × Decides b (Differs functions name.name t)

  abbrev pub RefusedUnlike : Bool → Type 0
  RefusedUnlike b = (refusal : Refusal) → UnlikeOf (Err refusal) b

  abbrev pub StoppedUnlike : Halt → Bool → Type 0
  StoppedUnlike (Refused refusal) b = UnlikeOf (Err refusal) b
  StoppedUnlike Memory b = ⊥

  abbrev pub ReadUnlike : Result (Declaration × ℕ) Halt → Bool → Type 0
  ReadUnlike (Ok read) b = UnlikeOf (Ok read) b
  ReadUnlike (Err halt) b = StoppedUnlike halt b
