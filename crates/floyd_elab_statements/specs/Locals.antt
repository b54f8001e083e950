-- Elaboration of local variables. A variable is a temporary, unless it is an array or a struct or `&` is applied to it:
-- then it has a block. The k-th variable of one name in a function, from the second on, is named by it and k; a parameter
-- counts.
use Rattle.std.specs.Prelude.{ℕ, ◌+◌, ◌==◌, Bool, ◌||◌, List, [], ◌∷◌, ◌++◌, count_by, Option, Some, if◌then◌else◌, bytes_eq}
use Rattle.floyd_text.specs.declared.place.Place.{Place}
use Rattle.floyd_ctypes.specs.declared.ctype.CType.{CType}
use Rattle.floyd_cparse_trees.specs.declared.types.Declarator.{Declarator}
use Rattle.floyd_cparse_trees.specs.declared.expressions.CExpr.{CExpr}
use Rattle.floyd_cparse_trees.specs.declared.statements.LocalDeclarator.{LocalDeclarator}
use Rattle.floyd_elab_names.specs.declared.meaning.Meaning.{Meaning}
use Rattle.floyd_elab_names.specs.declared.meaning.Meaning.TheVariants as m
use Rattle.floyd_elab_names.specs.declared.meaning.Storage.{Storage}
use Rattle.floyd_elab_names.specs.declared.meaning.Storage.TheVariants as kept
use Rattle.floyd_elab_names.specs.Refusals.{Site, left_out, ill_typed}
use Rattle.floyd_elab_names.specs.Refusing.{◌>>=◌, ◌>>◌, pure, unless, of_kept}
use Rattle.floyd_elab_names.specs.Typing.{the_structs}
use Rattle.floyd_elab_names.specs.Scopes.{Scopes, names_in, with_meaning}
use Rattle.floyd_elab_names.specs.Types.{is_aggregate, is_object_within, is_object_type}
use Rattle.floyd_ctyping.specs.Operators as o
use Rattle.floyd_elab_names.specs.Declarators.{name_of, name_or_none, name_site, limit_site, declarator_type, unless_among}
use Rattle.floyd_clight.specs.declared.syntax.Stmt.{Stmt}
use Rattle.floyd_elab_expressions.specs.Clight.{Translated, kth_name}
use Rattle.floyd_elab_expressions.specs.Progress.{Elaborating, typing, add_temporary, add_block, add_name}
use Rattle.floyd_elab_expressions.specs.Expressions.{variable_of}
use Rattle.floyd_elab_effects.specs.Effects.{first_assignment}
use Rattle.floyd_elab_addresses.specs.Addresses.{in_initialiser, in_declarators}

-- the site of a declarator without a name, which no variable has
abbrev pub nowhere : Site
nowhere = record { place = record { file = 0; line = 0; column = 0 }; text = [] }

-- what a variable of this name is called, where these were declared before
abbrev pub name_among : List (List ℕ) → List ℕ → List ℕ
name_among names x = let before = count_by (bytes_eq x) names in if before == 0 then x else kth_name x (before + 1)

abbrev pub storage_of : CType → Bool → Storage
storage_of t taken = if is_aggregate t || taken then kept.Block else kept.Temporary

abbrev pub add_variable : Storage → List ℕ → CType → Elaborating (Unit {0})
add_variable kept.Block x t = add_block x t
add_variable storage x t = add_temporary x t

-- A variable of the type that a declarator declares. `taken` says of a name whether its address is taken.
abbrev pub declare_variable : Scopes → CType → Declarator → (List ℕ → Bool) → Elaborating Meaning
declare_variable scopes base d taken = do
  t ← typing (declarator_type scopes nowhere base d)
  structs ← typing the_structs
  unless (left_out (limit_site nowhere d)) (is_object_within structs t)
  unless (ill_typed (name_site nowhere d).place) (is_object_type structs t)
  typing (unless_among (names_in scopes) (name_of d))
  let x = name_or_none (name_of d)
  let storage = storage_of t (taken x)
  names ← of_kept (λ progress. progress.names)
  add_name x
  add_variable storage (name_among names x) t
  pure (m.Variable (name_among names x) t storage)

-- the variable as what its initial value is assigned to
abbrev pub target_of : Meaning → List Translated
target_of (m.Variable x t storage) = record { before = []; expr = variable_of storage x t; operand = o.object_of_type t } ∷ []
target_of meaning = []

-- a declaration with `= r` is the assignment at its place
abbrev pub initialise : Scopes → List Translated → Option (Place × CExpr) → Elaborating (List Stmt)
initialise scopes (target ∷ more) (Some right) = first_assignment scopes right.0 right.1 target
initialise scopes targets right = pure []

-- The variables of one base, and the scopes behind them. A variable is in scope in its own initialiser. `rest` says of a
-- name whether its address is taken behind them.
abbrev pub declarators : Scopes → CType → List LocalDeclarator → (List ℕ → Bool) → Elaborating (List Stmt × Scopes)
declarators scopes base [] rest = pure ([], scopes)
declarators scopes base (d ∷ ds) rest = do
  meaning ← declare_variable scopes base d.declarator (λ x. in_initialiser x d.initialiser || in_declarators x ds (rest x))
  let inner = with_meaning (name_or_none (name_of d.declarator)) meaning scopes
  first ← initialise inner (target_of meaning) d.initialiser
  more ← declarators inner base ds rest
  pure (first ++ more.0, more.1)
