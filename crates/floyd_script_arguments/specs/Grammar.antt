-- What stands behind the words of commands.
--
-- A term, a formula or an assertion is here a list of at least one token, in which each bracket is closed by its own and
-- no ";" stands outside brackets. Brackets alone are counted for depth.
use Rattle.std.specs.Prelude.{ℕ, zero, suc, Bool, true, false, ◌||◌, List, codes, Result}
use Rattle.floyd_lex.specs.declared.kinds.Punctuator.TheVariants as p
use Rattle.floyd_grammar.specs.Phrase.{Phrase, one, pure, never, ◌>>=◌, ◌>>◌, ◌or◌, folded}
use Rattle.floyd_script_trees.specs.declared.shapes.Shape.{Shape}
use Rattle.floyd_script_trees.specs.declared.shapes.Shape.TheVariants as shape
use Rattle.floyd_script_tokens.specs.Heads.{item_of, destructed_of}
use Rattle.floyd_script_tokens.specs.Sights.{Sight, is_name, is_word, is_number, is_given, names_hypothesis, unexpected, wants, mark}
use Rattle.floyd_script_tokens.specs.declared.heads.Opening.{Opening}
use Rattle.floyd_script_tokens.specs.declared.heads.Opening.TheVariants.{Plain, Round, Square}

-- no value is kept of it
abbrev pub Nothing : Type 0
Nothing = Unit {0}

-- what was read before does not matter
abbrev pub both : Nothing → Nothing → Nothing
both x y = tt

-- Items of phrases. `inside` says that brackets are open around them, and `room` that one more may be.
module _ (inner : Phrase Sight Nothing) where
  abbrev pub after_opening : Opening → Phrase Sight Nothing
  after_opening Plain = pure tt
  after_opening Round = inner >> one (mark p.CloseParen)
  after_opening Square = inner >> one (mark p.CloseBracket)

  abbrev pub item : Bool → Bool → Phrase Sight Nothing
  item inside room = one (item_of inside room) >>= after_opening

  abbrev pub items : Bool → Bool → Phrase Sight Nothing
  items inside room = folded both (λ _. item inside room) tt

-- what stands in brackets in which n more may be open
unfoldable pub contents : ℕ → Phrase Sight Nothing
contents zero = items (never unexpected) true false
contents (suc n) = items (contents n) true true

-- a phrase in which one bracket and n more in it may be open
abbrev pub phrase : ℕ → Phrase Sight Nothing
phrase n = item (contents n) false true >>= λ _. items (contents n) false true

-- outside brackets, and in the parentheses of a command
abbrev pub bare : Phrase Sight Nothing
bare = phrase 199

abbrev pub within : Phrase Sight Nothing
within = phrase 198

-- "(" A ")"
abbrev pub enclosed : Phrase Sight Nothing
enclosed = one (mark p.OpenParen) >> (within >> one (mark p.CloseParen))

-- what may be absent
abbrev pub maybe : Phrase Sight Nothing → Phrase Sight Nothing
maybe g = g or pure tt

-- one or more, with a mark between them
abbrev pub separated : (Sight → Result Nothing ℕ) → Phrase Sight Nothing → Phrase Sight Nothing
separated between g = g >>= λ _. folded both (λ _. one between >> g) tt

-- "(" [ g { between g } ] ")"
abbrev pub listed_in : (Sight → Result Nothing ℕ) → Phrase Sight Nothing → Phrase Sight Nothing
listed_in between g = one (mark p.OpenParen) >> (maybe (separated between g) >> one (mark p.CloseParen))

abbrev pub terms : Phrase Sight Nothing
terms = listed_in (mark p.Semicolon) within

abbrev pub given : Phrase Sight Nothing
given = one (λ s. wants (is_given s))

abbrev pub givens : Phrase Sight Nothing
givens = listed_in (mark p.Semicolon) given

abbrev pub name : Phrase Sight Nothing
name = one (λ s. wants (is_name s))

abbrev pub number : Phrase Sight Nothing
number = one (λ s. wants (is_number s))

abbrev pub hypothesis : Phrase Sight Nothing
hypothesis = one (λ s. wants (names_hypothesis s))

abbrev pub word : List ℕ → Phrase Sight Nothing
word text = one (λ s. wants (is_word text s))

-- ( "N" | hypothesis ) ":" [ "-" ] number
abbrev pub weight : Phrase Sight Nothing
weight = one (λ s. wants (is_word (codes "N") s || names_hypothesis s)) >> (one (mark p.Colon) >> (maybe (one (mark p.Minus)) >> number))

-- what stands behind a hypothesis, and behind another name
abbrev pub names_behind : Bool → Phrase Sight Nothing
names_behind true = maybe givens
names_behind false = givens

abbrev pub arguments : Shape → Phrase Sight Nothing
arguments shape.Nothing = pure tt
arguments shape.MaybeEnclosed = maybe enclosed
arguments shape.Enclosed = enclosed
arguments shape.Loop = enclosed >> (maybe (word (codes "continue") >> enclosed) >> (word (codes "break") >> enclosed))
arguments shape.Terms = terms
arguments shape.NamedTerms = name >> terms
arguments shape.NamedTwice = name >> (terms >> terms)
arguments shape.Named = name
arguments shape.Givens = folded both (λ _. given) tt
arguments shape.MaybeGiven = maybe given
arguments shape.Bare = bare
arguments shape.Number = number
arguments shape.NumberOrHypothesis = one (λ s. wants (is_number s || names_hypothesis s))
arguments shape.NumberTerm = number >> enclosed
arguments shape.TwoNumbers = number >> number
arguments shape.Rewriting = maybe (one (mark p.LeftArrow)) >> hypothesis
arguments shape.Destructing = one destructed_of >>= names_behind
arguments shape.NamedGivens = name >> givens
arguments shape.HypothesisTerm = hypothesis >> enclosed
arguments shape.Hypothesis = hypothesis
arguments shape.Weights = listed_in (mark p.Comma) weight
