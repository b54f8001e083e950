-- Parts of memory, from the token of a number on, where so many brackets are open before it.
--
--   part   = "data_at" "(" [share ","] type "," term "," term ")"
--          | "data_at_" "(" [share ","] type "," term ")"
--          | "field_at" "(" [share ","] type "," path "," term "," term ")"
--          | "padding" "(" [share ","] type "," path "," term ")"
--          | "valid" "(" term ")" | "TT" | name "(" [term {"," term}] ")"
--   share  = term
--
-- A value has the value sort of its type, and an address is a value. A predicate must be visible.
use Rattle.std.specs.Prelude.{◌≡◌, ℕ, ◌+◌, ◌-◌, ◌==◌, if◌then◌else◌, List, [], length, slice_get, Option, Some, None, option_map, Result, Ok, Err, bytes_eq}
use Rattle.std.specs.Map.{lookup}
use Rattle.floyd_text.specs.declared.place.Place.{Place}
use Rattle.floyd_text.specs.declared.refusal.Refusal.{Refusal}
use Rattle.floyd_lex.specs.declared.kinds.Punctuator.TheVariants as p
use Rattle.floyd_lex.specs.Token.{TokenList}
use Rattle.floyd_tree_sorts.specs.declared.sorts.Sort.{Sort, Val}
use Rattle.floyd_tree.specs.declared.paths.PathStep.{PathStep}
use Rattle.floyd_tree.specs.declared.stop.MakeStop.{MakeStop}
use Rattle.floyd_tree.specs.declared.stop.MakeStop.TheVariants.{IllSorted}
use Rattle.floyd_tree.specs.Plain.{Plain}
use Rattle.floyd_tree.specs.Types.{SizedType}
use Rattle.floyd_fieldpath.specs.DefaultTerms.{default_term, made_term}
use Rattle.floyd_assert_trees.specs.declared.binder.Binder.{Binder}
use Rattle.floyd_assert_trees.specs.declared.items.Pred.{Pred}
use Rattle.floyd_assert_trees.specs.declared.sep.Region.{Region}
use Rattle.floyd_assert_trees.specs.declared.sep.Sep.{Sep}
use Rattle.floyd_assert_trees.specs.declared.sep.Sep.TheVariants as sep
use Rattle.floyd_termread_tokens.specs.Tokens.{free_name}
use Rattle.floyd_termread_scope.specs.Scopes.{Env}
use Rattle.floyd_termread_wants.specs.Refusals.{unknown, ill_sorted, too_large}
use Rattle.floyd_termread_phrases.specs.Reads.{Reads, pure, ◌>>=◌, ◌>>◌}
use Rattle.floyd_termread_phrases.specs.Phrases as phrase
use Rattle.floyd_termread_marks.specs.declared.words.AssertionWord.{AssertionWord}
use Rattle.floyd_termread_marks.specs.declared.words.AssertionWord.TheVariants as word
use Rattle.floyd_termread_marks.specs.Lists.{before_item, listed}
use Rattle.floyd_termread_marks.specs.Marks as marks
use Rattle.floyd_termread_parts.specs.declared.objects.Object.{Object}
use Rattle.floyd_termread_parts.specs.Objects.{given}
use Rattle.floyd_termread_parts.specs.Objects as objects

-- where a type or a path of an object lies whose address is that
abbrev pub region : Object → List PathStep → Plain → Region
region o path root = record { share = o.share; ty = o.ty; path = path; root = root }

-- A term that is made, or its fault: it is ill sorted, or else too large, at this place.
abbrev pub made : Place → Result Plain MakeStop → Result Plain Refusal
made place (Ok t) = Ok t
made place (Err IllSorted) = Err (ill_sorted place)
made place (Err fault) = Err (too_large place)

-- the default value of a type, which may be too large at the word before it
abbrev pub default_value : Place → Object → Result Plain Refusal
default_value place o = made place (made_term (default_term o.ty o.sort))

abbrev pub checked : {A : Type 0} → Result A Refusal → Reads A
checked (Ok x) at answer = answer ≡ Ok (x, at)
checked (Err refusal) at answer = answer ≡ Err refusal

-- the sort of an argument by its number; none is expected beyond the last
abbrev pub argument_sort : Pred → ℕ → Option Sort
argument_sort of n = option_map (λ (b : Binder). b.sort) (slice_get of.arguments n)

-- an argument behind others, in their list
abbrev pub argument_behind : List ℕ → TokenList → ℕ → Env → Pred → List Plain → Reads Plain
argument_behind bytes list depth env of xs = phrase.term bytes list depth env (argument_sort of (length xs))

-- the argument of that number, from 0, with the comma before it
abbrev pub argument_by : List ℕ → TokenList → ℕ → Env → Pred → ℕ → Reads Plain
argument_by bytes list depth env of n = before_item bytes list depth p.Comma n >> phrase.term bytes list depth env (argument_sort of n)

module _ (bytes : List ℕ) (list : TokenList) (depth : ℕ) (env : Env) where
  -- one bracket further in
  abbrev pub term : Option Sort → Reads Plain
  term expected = phrase.term bytes list (depth + 1) env expected

  abbrev pub comma : Reads Place
  comma = marks.mark bytes list (depth + 1) p.Comma

  -- "(" [share ","] type
  abbrev pub opened : Reads Object
  opened = marks.mark bytes list depth p.OpenParen >> (objects.share bytes list (depth + 1) env >>= objects.object bytes list (depth + 1) env)

  -- "," term
  abbrev pub argument : Option Sort → Reads Plain
  argument expected = comma >> term expected

  -- "," path
  abbrev pub value_path : SizedType → Reads (List PathStep × Sort)
  value_path t = comma >> objects.value_path bytes list (depth + 1) env t

  abbrev pub struct_path : SizedType → Reads (List PathStep)
  struct_path t = comma >> objects.struct_path bytes list (depth + 1) env t

  -- the address, "," term ")"
  abbrev pub last : Reads Plain
  last = argument (Some Val) >>= λ root. marks.mark bytes list (depth + 1) p.CloseParen >> pure root

  -- Behind the words.
  abbrev pub data_at : Reads Sep
  data_at = do
    o ← opened
    v ← argument (Some o.sort)
    root ← last
    pure (sep.FieldAt (region o [] root) v)

  abbrev pub data_at_default : Place → Reads Sep
  data_at_default place = do
    o ← opened
    root ← last
    v ← checked (default_value place o)
    pure (sep.FieldAt (region o [] root) v)

  abbrev pub field_at : Reads Sep
  field_at = do
    o ← opened
    n ← value_path o.ty
    v ← argument (Some n.1)
    root ← last
    pure (sep.FieldAt (region o n.0 root) v)

  abbrev pub padding : Reads Sep
  padding = do
    o ← opened
    path ← struct_path o.ty
    root ← last
    pure (sep.Padding (region o path root))

  abbrev pub valid : Reads Sep
  valid = do
    _ ← marks.mark bytes list depth p.OpenParen
    v ← term (Some Val)
    _ ← marks.mark bytes list (depth + 1) p.CloseParen
    pure (sep.Valid v)

  -- Arguments, so many of them. Another number is ill sorted where the list closes.
  abbrev pub arguments : Pred → Reads (List Plain)
  arguments of = listed bytes list depth p.Comma (argument_behind bytes list (depth + 1) env of)

  abbrev pub so_many : ℕ → List Plain → Reads (List Plain)
  so_many n xs at answer = answer ≡ (if length xs == n then Ok (xs, at) else Err (ill_sorted (marks.place_at bytes list (at - 1))))

  abbrev pub counted_arguments : Pred → Reads (List Plain)
  counted_arguments of = arguments of >>= so_many (length of.arguments)

  abbrev pub predicate : Reads Sep
  predicate = do
    name ← marks.one bytes list depth free_name
    of ← given (unknown name) (lookup (bytes_eq name.name) env.defs.preds)
    xs ← counted_arguments of
    pure (sep.Predicate name.name xs)

  -- a part behind its word; the last word is `TT`
  abbrev pub behind : AssertionWord → Place → Reads Sep
  behind word.DataAt place = data_at
  behind word.DataAtDefault place = data_at_default place
  behind word.FieldAt place = field_at
  behind word.Padding place = padding
  behind word.Valid place = valid
  behind last place = pure sep.Anything

  abbrev pub part_by : Option AssertionWord → Reads Sep
  part_by None = predicate
  part_by (Some which) = marks.word bytes list depth which >>= behind which

  abbrev pub part : Reads Sep
  part at = part_by (marks.found_in marks.part_word (marks.tokens_at bytes list at)) at
