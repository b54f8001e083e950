-- Of what a part of memory speaks: a share, a type, a path in it. A share is a number. It is there exactly where the first argument
-- does not begin with a word with which a type begins, and else it is 16. A type that has no value sort is ill sorted where it
-- begins, and so is a path without a type, or, where a struct is wanted, with another type.
use Rattle.std.specs.Prelude.{◌≡◌, ℕ, Bool, true, false, List, Option, Some, None, option_map, Ok, Err, pos}
use Rattle.floyd_text.specs.declared.refusal.Refusal.{Refusal}
use Rattle.floyd_lex.specs.declared.kinds.Punctuator.TheVariants as p
use Rattle.floyd_lex.specs.Token.{TokenList}
use Rattle.floyd_ctypes.specs.Structs.{Structs}
use Rattle.floyd_tree_sorts.specs.declared.shape.Shape.{Shape, Struct}
use Rattle.floyd_tree_sorts.specs.declared.sorts.Sort.{Sort, Z}
use Rattle.floyd_tree.specs.declared.paths.PathStep.{PathStep}
use Rattle.floyd_tree.specs.Plain.{Plain}
use Rattle.floyd_tree.specs.Types.{SizedType}
use Rattle.floyd_tree_values.specs.Defaults.{value_sort}
use Rattle.floyd_fieldpath.specs.Nested.{literal, type_at}
use Rattle.floyd_termread_scope.specs.Scopes.{Env}
use Rattle.floyd_termread_wants.specs.Refusals.{ill_sorted}
use Rattle.floyd_termread_phrases.specs.Reads.{Reads, pure, ◌>>=◌, ◌>>◌}
use Rattle.floyd_termread_phrases.specs.Phrases as phrase
use Rattle.floyd_termread_marks.specs.Marks.{begins_type, if_next, mark, place_at}
use Rattle.floyd_termread_parts.specs.declared.objects.Object.{Object}

abbrev pub sixteen : Plain
sixteen = literal (pos 16)

-- something that must be there, or the refusal
abbrev pub given : {A : Type 0} → Refusal → Option A → Reads A
given refusal None at answer = answer ≡ Err refusal
given refusal (Some x) at answer = answer ≡ Ok (x, at)

abbrev pub object_of : Plain → SizedType → Sort → Object
object_of sh t s = record { share = sh; ty = t; sort = s }

-- the value sort of what stands at a path
abbrev pub sort_of_type : Structs → Option SizedType → Option Sort
sort_of_type structs None = None
sort_of_type structs (Some t) = value_sort structs t.shape

abbrev pub sort_at : Structs → SizedType → List PathStep → Option Sort
sort_at structs t path = sort_of_type structs (type_at structs t path)

abbrev pub is_struct : Shape → Bool
is_struct (Struct tag) = true
is_struct shape = false

abbrev pub is_struct_type : Option SizedType → Bool
is_struct_type None = false
is_struct_type (Some t) = is_struct t.shape

-- a path to a struct
abbrev pub path_if : Bool → List PathStep → Option (List PathStep)
path_if true path = Some path
path_if false path = None

module _ (bytes : List ℕ) (list : TokenList) (depth : ℕ) (env : Env) where
  -- [share ","]
  abbrev pub share : Reads Plain
  share = if_next bytes list begins_type (pure sixteen) (phrase.term bytes list depth env (Some Z) >>= λ t. mark bytes list depth p.Comma >> pure t)

  -- a type with its value sort
  abbrev pub object : Plain → Reads Object
  object sh at = (phrase.type_name bytes list depth env >>= λ t. given (ill_sorted (place_at bytes list at)) (option_map (object_of sh t) (value_sort env.defs.structs t.shape))) at

  -- a path with the value sort of what stands there
  abbrev pub value_path : SizedType → Reads (List PathStep × Sort)
  value_path t at = (phrase.path bytes list depth env >>= λ path. given (ill_sorted (place_at bytes list at)) (option_map (λ s. (path, s)) (sort_at env.defs.structs t path))) at

  abbrev pub struct_path : SizedType → Reads (List PathStep)
  struct_path t at = (phrase.path bytes list depth env >>= λ path. given (ill_sorted (place_at bytes list at)) (path_if (is_struct_type (type_at env.defs.structs t path)) path)) at
