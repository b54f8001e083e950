-- What elaboration keeps while it goes through the declarations of a file, and how names of the file are declared.
use Rattle.std.specs.Prelude.{ℕ, Bool, true, false, not, List, [], ◌∷◌, ◌++◌, Option, Some, None, is_some, Result, Ok, Err, if◌then◌else◌, bytes_eq}
use Rattle.std.specs.List.{list_any}
use Rattle.std.specs.Map.{lookup}
use Rattle.floyd_text.specs.declared.refusal.Refusal.{Refusal}
use Rattle.floyd_ctypes.specs.declared.ctype.CType.{CType}
use Rattle.floyd_cparse_trees.specs.declared.types.Identifier.{Identifier}
use Rattle.floyd_elab_names.specs.declared.meaning.Meaning.{Meaning}
use Rattle.floyd_elab_names.specs.declared.meaning.Meaning.TheVariants as m
use Rattle.floyd_elab_names.specs.declared.meaning.Storage.TheVariants as kept
use Rattle.floyd_elab_names.specs.declared.tags.Tags.{Tags}
use Rattle.floyd_elab_names.specs.Refusing.{Refusing}
use Rattle.floyd_elab_names.specs.Typing.{Typing}
use Rattle.floyd_elab_names.specs.Scopes.{Scopes}
use Rattle.floyd_elab_names.specs.Types.{same_type}
use Rattle.floyd_ctyping.specs.Operators.{signature_of}
use Rattle.floyd_clight.specs.declared.initial.Initial.{Initial}
use Rattle.floyd_clight.specs.declared.unit.Declared.{Declared}
use Rattle.floyd_clight.specs.declared.unit.Defined.{Defined}
use Rattle.floyd_clight.specs.declared.unit.Variable.{Variable}
use Rattle.floyd_elab.specs.declared.file.File.{File}

abbrev pub Filing : Type 0 → Type 0
Filing A = Refusing File A

-- the scopes at the top of a file
abbrev pub top : File → Scopes
top file = file.scope ∷ []

-- typing on the way, in the file's scope
abbrev pub with_tags : {A : Type 0} → File → Result (A × Tags) Refusal → Result (A × File) Refusal
with_tags file (Ok r) = Ok (r.0, record file { tags = r.1 })
with_tags file (Err refusal) = Err refusal

abbrev pub typing : {A : Type 0} → (Scopes → Typing A) → Filing A
typing t = λ file. with_tags file (t (top file) file.tags)

-- Declared again.

-- A function or a variable may be declared again with the same type. No other name may be.
abbrev pub is_again : Meaning → Option Meaning → Bool
is_again meaning None = true
is_again (m.Variable x t storage) (Some (m.Variable y u other)) = same_type t u
is_again (m.Function t) (Some (m.Function u)) = same_type t u
is_again meaning (Some other) = false

abbrev pub may_declare : File → List ℕ → Meaning → Bool
may_declare file x meaning = is_again meaning (lookup (bytes_eq x) file.scope)

-- defined before
abbrev pub has_variable : File → List ℕ → Bool
has_variable file x = list_any (λ (v : Variable). bytes_eq x v.name) file.defined

abbrev pub has_body : File → List ℕ → Bool
has_body file x = list_any (λ (f : Defined). bytes_eq x f.name) file.bodies

abbrev pub is_new : File → List ℕ → Bool
is_new file x = not (is_some (lookup (bytes_eq x) file.scope))

-- Changes of what is kept.

abbrev pub add_meaning : List ℕ → Meaning → File → File
add_meaning x meaning file = record file { scope = file.scope ++ (x, meaning) ∷ [] }

-- a variable that is declared, without contents
abbrev pub mention_variable : Identifier → CType → File → File
mention_variable i t file =
    if is_new file i.name
    then record (add_meaning i.name (m.Variable i.name t kept.Global) file) { mentioned = file.mentioned ++ record { name = i.name; place = i.place; ctype = t; contents = None } ∷ [] }
    else file

abbrev pub define_variable : Identifier → CType → Initial → File → File
define_variable i t contents file = record file { defined = file.defined ++ record { name = i.name; place = i.place; ctype = t; contents = Some contents } ∷ [] }

abbrev pub declaration_of : Identifier → Option (List CType × CType) → List Declared
declaration_of i None = []
declaration_of i (Some signature) = record { name = i.name; place = i.place; parameters = signature.0; result = signature.1 } ∷ []

-- a function that is declared, in the order of first declarations
abbrev pub mention_function : Identifier → CType → File → File
mention_function i t file =
    if is_new file i.name
    then record (add_meaning i.name (m.Function t) file) { functions = file.functions ++ declaration_of i (signature_of t) }
    else file

abbrev pub define_function : Defined → File → File
define_function f file = record file { bodies = file.bodies ++ f ∷ [] }
