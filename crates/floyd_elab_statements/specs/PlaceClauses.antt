-- A variable that was declared, with its initial value, and the scopes behind it. It is in scope there.
use Rattle.std.specs.Prelude.{List}
use Rattle.floyd_cparse_trees.specs.declared.statements.LocalDeclarator.{LocalDeclarator}
use Rattle.floyd_elab_names.specs.declared.meaning.Meaning.{Meaning}
use Rattle.floyd_elab_names.specs.Refusing.{◌>>=◌, pure}
use Rattle.floyd_elab_names.specs.Scopes.{Scopes, with_meaning}
use Rattle.floyd_elab_names.specs.Declarators.{name_of, name_or_none}
use Rattle.floyd_clight.specs.declared.syntax.Stmt.{Stmt}
use Rattle.floyd_elab_expressions.specs.Progress.{Elaborating}
use Rattle.floyd_elab_statements.specs.Locals.{target_of, initialise}

abbrev pub place_variable : Scopes → LocalDeclarator → Meaning → Elaborating (List Stmt × Scopes)
place_variable scopes d meaning = do
  let inner = with_meaning (name_or_none (name_of d.declarator)) meaning scopes
  first ← initialise inner (target_of meaning) d.initialiser
  pure (first, inner)
