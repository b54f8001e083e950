-- Parts of what declares a variable, each behind what stands before it.
use Rattle.std.specs.Prelude.{ℕ, Bool, List, [], ◌∷◌, ◌++◌, Option, Some, None, Result, Ok, Err}
use Rattle.floyd_text.specs.declared.refusal.Refusal.{Refusal}
use Rattle.floyd_ctypes.specs.declared.ctype.CType.{CType}
use Rattle.floyd_cparse_trees.specs.declared.types.Declarator.{Declarator}
use Rattle.floyd_cparse_trees.specs.declared.statements.LocalDeclaration.{LocalDeclaration}
use Rattle.floyd_cparse_trees.specs.declared.statements.LocalDeclarator.{LocalDeclarator}
use Rattle.floyd_elab_names.specs.declared.meaning.Meaning.{Meaning}
use Rattle.floyd_elab_names.specs.declared.meaning.Meaning.TheVariants as m
use Rattle.floyd_elab_names.specs.Refusals.{left_out, ill_typed}
use Rattle.floyd_elab_names.specs.Refusing.{◌>>=◌, ◌>>◌, pure, unless, of_kept}
use Rattle.floyd_elab_names.specs.Typing.{the_structs}
use Rattle.floyd_elab_names.specs.Scopes.{Scopes, names_in, with_meaning}
use Rattle.floyd_elab_names.specs.Types.{is_object_within, is_object_type}
use Rattle.floyd_elab_names.specs.Declarators.{name_of, name_or_none, name_site, limit_site, base_type, declarator_type, unless_among}
use Rattle.floyd_clight.specs.declared.syntax.Stmt.{Stmt}
use Rattle.floyd_elab_expressions.specs.declared.translation.Translation.{Translation}
use Rattle.floyd_elab_expressions.specs.Behind.{behind}
use Rattle.floyd_elab_expressions.specs.Clight.{Translated}
use Rattle.floyd_elab_expressions.specs.Progress.{Elaborating, typing, add_name}
use Rattle.floyd_elab_statements.specs.Locals.{nowhere, name_among, storage_of, add_variable, declare_variable, target_of, initialise, declarators}

-- statements behind those that were there before, beside something else
abbrev pub beginning : {S B : Type 0} → List Stmt → Result ((List Stmt × B) × S) Refusal → Result ((List Stmt × B) × S) Refusal
beginning there (Ok r) = Ok ((there ++ r.0.0, r.0.1), r.1)
beginning there (Err refusal) = Err refusal

-- the type that a declarator declares a variable of
abbrev pub variable_type : Scopes → CType → Declarator → Elaborating CType
variable_type scopes base d = do
  t ← typing (declarator_type scopes nowhere base d)
  structs ← typing the_structs
  unless (left_out (limit_site nowhere d)) (is_object_within structs t)
  unless (ill_typed (name_site nowhere d).place) (is_object_type structs t)
  typing (unless_among (names_in scopes) (name_of d))
  pure t

-- the variable of that type
abbrev pub variable : Declarator → CType → Bool → Elaborating Meaning
variable d t taken = do
  let x = name_or_none (name_of d)
  let storage = storage_of t taken
  names ← of_kept (λ progress. progress.names)
  add_name x
  add_variable storage (name_among names x) t
  pure (m.Variable (name_among names x) t storage)

-- what an initial value is assigned to, if there is anything
abbrev pub targets : Option Translation → List Translated
targets None = []
targets (Some a) = behind [] a ∷ []

-- one variable with its initial value, and the scopes behind it
abbrev pub declare_one : Scopes → CType → LocalDeclarator → Bool → Elaborating (List Stmt × Scopes)
declare_one scopes base d taken = do
  meaning ← declare_variable scopes base d.declarator (λ x. taken)
  let inner = with_meaning (name_or_none (name_of d.declarator)) meaning scopes
  first ← initialise inner (target_of meaning) d.initialiser
  pure (first, inner)

-- a declaration and the scopes behind it, of which `rest` says for a name whether its address is taken there
abbrev pub declaration : Scopes → LocalDeclaration → (List ℕ → Bool) → Elaborating (List Stmt × Scopes)
declaration scopes d rest = do
  base ← typing (base_type scopes nowhere d.specifiers.base)
  declarators scopes base d.declarators rest
