-- Readers of what stands behind the words of commands, of the shape of their grammar. They decide by the next token.
use Rattle.std.specs.Prelude.{ℕ, zero, suc, Bool, true, false, not, ◌||◌, List, codes}
use Rattle.floyd_lex.specs.declared.kinds.Punctuator.{Punctuator}
use Rattle.floyd_lex.specs.declared.kinds.Punctuator.TheVariants as p
use Rattle.floyd_grammar.specs.ParseClauses.{Parser, one, pure, never, ◌>>=◌, ◌>>◌, either, folded}
use Rattle.floyd_script_trees.specs.declared.shapes.Shape.{Shape}
use Rattle.floyd_script_trees.specs.declared.shapes.Shape.TheVariants as shape
use Rattle.floyd_script_tokens.specs.Heads.{item_of, destructed_of}
use Rattle.floyd_script_tokens.specs.Sights.{Sight, is_mark, is_name, is_word, is_number, is_given, names_hypothesis, unexpected, wants, mark}
use Rattle.floyd_script_tokens.specs.SightClauses.{goes_on}
use Rattle.floyd_script_tokens.specs.declared.heads.Opening.{Opening}
use Rattle.floyd_script_tokens.specs.declared.heads.Opening.TheVariants.{Plain, Round, Square}
use Rattle.floyd_script_arguments.specs.Grammar.{Nothing, both}

module _ (inner : Parser Sight Nothing) where
  unfoldable pub after_opening : Opening → Parser Sight Nothing
  after_opening Plain = pure tt
  after_opening Round = inner >> one (mark p.CloseParen)
  after_opening Square = inner >> one (mark p.CloseBracket)

  unfoldable pub item : Bool → Bool → Parser Sight Nothing
  item inside room = one (item_of inside room) >>= after_opening

  unfoldable pub items : Bool → Bool → Parser Sight Nothing
  items inside room = folded (λ _. goes_on inside) both (λ _. item inside room) tt

unfoldable pub contents : ℕ → Parser Sight Nothing
contents zero = items (never unexpected) true false
contents (suc n) = items (contents n) true true

-- what stands in a bracket that opens where so many may
abbrev pub inner_of : ℕ → Parser Sight Nothing
inner_of zero = never unexpected
inner_of (suc n) = contents n

abbrev pub has_room : ℕ → Bool
has_room zero = false
has_room (suc n) = true

-- an item in brackets
unfoldable pub item_in : ℕ → Parser Sight Nothing
item_in n = item (inner_of n) true (has_room n)

-- an item outside brackets
unfoldable pub item_out : ℕ → Parser Sight Nothing
item_out n = item (contents n) false true

-- what stands in a bracket, and its end
unfoldable pub bracketed : ℕ → Punctuator → Parser Sight Nothing
bracketed n close = contents n >> one (mark close)

unfoldable pub phrase : ℕ → Parser Sight Nothing
phrase n = item_out n >>= λ _. folded (λ _. goes_on false) both (λ _. item_out n) tt

unfoldable pub enclosed : Parser Sight Nothing
enclosed = one (mark p.OpenParen) >> (phrase 198 >> one (mark p.CloseParen))

-- where the next token is one of these
abbrev pub maybe : (Sight → Bool) → Parser Sight Nothing → Parser Sight Nothing
maybe first p = either first p (pure tt)

abbrev pub is_open : Sight → Bool
is_open s = is_mark p.OpenParen s

abbrev pub is_no_close : Sight → Bool
is_no_close s = not (is_mark p.CloseParen s)

-- T { ";" T }
abbrev pub next_term : Parser Sight Nothing
next_term = one (mark p.Semicolon) >> phrase 198

unfoldable pub some_terms : Parser Sight Nothing
some_terms = phrase 198 >>= λ _. folded (λ _. is_mark p.Semicolon) both (λ _. next_term) tt

-- "(" [ some ] ")"
abbrev pub parenthesised : Parser Sight Nothing → Parser Sight Nothing
parenthesised some = one (mark p.OpenParen) >> (maybe is_no_close some >> one (mark p.CloseParen))

unfoldable pub terms : Parser Sight Nothing
terms = parenthesised some_terms

unfoldable pub given : Parser Sight Nothing
given = one (λ s. wants (is_given s))

abbrev pub next_given : Parser Sight Nothing
next_given = one (mark p.Semicolon) >> given

unfoldable pub some_givens : Parser Sight Nothing
some_givens = given >>= λ _. folded (λ _. is_mark p.Semicolon) both (λ _. next_given) tt

unfoldable pub givens : Parser Sight Nothing
givens = parenthesised some_givens

unfoldable pub name : Parser Sight Nothing
name = one (λ s. wants (is_name s))

unfoldable pub number : Parser Sight Nothing
number = one (λ s. wants (is_number s))

unfoldable pub hypothesis : Parser Sight Nothing
hypothesis = one (λ s. wants (names_hypothesis s))

unfoldable pub word : List ℕ → Parser Sight Nothing
word text = one (λ s. wants (is_word text s))

unfoldable pub maybe_mark : Punctuator → Parser Sight Nothing
maybe_mark m = maybe (is_mark m) (one (mark m))

unfoldable pub weight : Parser Sight Nothing
weight = one (λ s. wants (is_word (codes "N") s || names_hypothesis s)) >> (one (mark p.Colon) >> (maybe_mark p.Minus >> number))

abbrev pub next_weight : Parser Sight Nothing
next_weight = one (mark p.Comma) >> weight

unfoldable pub some_weights : Parser Sight Nothing
some_weights = weight >>= λ _. folded (λ _. is_mark p.Comma) both (λ _. next_weight) tt

unfoldable pub weights : Parser Sight Nothing
weights = parenthesised some_weights

unfoldable pub names_behind : Bool → Parser Sight Nothing
names_behind true = maybe is_open givens
names_behind false = givens

unfoldable pub destructed : Parser Sight Nothing
destructed = one destructed_of >>= names_behind

unfoldable pub behind_word : List ℕ → Parser Sight Nothing
behind_word text = word text >> enclosed

unfoldable pub maybe_continue : Parser Sight Nothing
maybe_continue = maybe (is_word (codes "continue")) (behind_word (codes "continue"))

unfoldable pub loop_assertions : Parser Sight Nothing
loop_assertions = enclosed >> (maybe_continue >> behind_word (codes "break"))

unfoldable pub maybe_enclosed : Parser Sight Nothing
maybe_enclosed = maybe is_open enclosed

unfoldable pub maybe_given : Parser Sight Nothing
maybe_given = maybe is_given given

unfoldable pub all_given : Parser Sight Nothing
all_given = folded (λ _. is_given) both (λ _. given) tt

unfoldable pub number_or_hypothesis : Parser Sight Nothing
number_or_hypothesis = one (λ s. wants (is_number s || names_hypothesis s))

abbrev pub arguments : Shape → Parser Sight Nothing
arguments shape.Nothing = pure tt
arguments shape.MaybeEnclosed = maybe_enclosed
arguments shape.Enclosed = enclosed
arguments shape.Loop = loop_assertions
arguments shape.Terms = terms
arguments shape.NamedTerms = name >> terms
arguments shape.NamedTwice = name >> (terms >> terms)
arguments shape.Named = name
arguments shape.Givens = all_given
arguments shape.MaybeGiven = maybe_given
arguments shape.Bare = phrase 199
arguments shape.Number = number
arguments shape.NumberOrHypothesis = number_or_hypothesis
arguments shape.NumberTerm = number >> enclosed
arguments shape.TwoNumbers = number >> number
arguments shape.Rewriting = maybe_mark p.LeftArrow >> hypothesis
arguments shape.Destructing = destructed
arguments shape.NamedGivens = name >> givens
arguments shape.HypothesisTerm = hypothesis >> enclosed
arguments shape.Hypothesis = hypothesis
arguments shape.Weights = weights
