-- The readers of what stands behind the words of commands are exact for their grammar.
use Rattle.std.proofs.Common.{◌≡◌, ℕ, Bool, true, false, not, ◌||◌, List, [], refl, sym, ◌∙◌, ap, true≢false}
use Rattle.std.specs.Prelude.{codes}
use Rattle.floyd_lex.specs.declared.kinds.Punctuator.{Punctuator}
use Rattle.floyd_lex.specs.declared.kinds.Punctuator.TheVariants as p
use Rattle.floyd_grammar.specs.Phrase.{Phrase}
use Rattle.floyd_grammar.specs.Phrase as phrase
use Rattle.floyd_grammar.specs.ParseClauses.{Parser, is_taken, is_blamed, is_meant}
use Rattle.floyd_grammar.specs.ParseClauses as parse
use Rattle.floyd_grammar.proofs.Exact.{Exact, token_solid, nothing}
use Rattle.floyd_grammar.proofs.Seq.{seq, seq_open, seq_solid, token_then}
use Rattle.floyd_grammar.proofs.Either.{either}
use Rattle.floyd_grammar.proofs.Repeat.{repeat}
use Rattle.floyd_grammar.proofs.Lists.{separated}
use Rattle.floyd_grammar.proofs.Wider.{wider, loose}
use Rattle.floyd_cparse_tokens.proofs.Shrinks.{Eats, exact_eats}
use Rattle.floyd_cparse_tokens.proofs.TokenLemmas.{or_cases, or_fails_left, or_fails_right}
use Rattle.floyd_script_trees.specs.declared.shapes.Shape.{Shape}
use Rattle.floyd_script_trees.specs.declared.shapes.Shape.TheVariants as shape
use Rattle.floyd_script_tokens.specs.Heads.{destructed_of}
use Rattle.floyd_script_tokens.specs.Sights.{Sight, is_mark, is_name, is_word, is_number, is_given, names_hypothesis, wants, mark}
use Rattle.floyd_script_tokens.specs.SightClauses.{goes_on}
use Rattle.floyd_script_arguments.specs.Grammar.{Nothing, both}
use Rattle.floyd_script_arguments.specs.Grammar as g
use Rattle.floyd_script_arguments.specs.ArgumentClauses as r
use Rattle.floyd_script_arguments.proofs.TokenSets.{mark_apart, name_apart, number_apart, hypothesis_name, words_apart, close_ends, semicolon_ends, goes_no_close, goes_no_end, no_mark}
use Rattle.floyd_script_arguments.proofs.PhraseExact.{any, no, quiet, wants_exact, led_exact, led_solid, closed_exact, phrase_exact, phrase_solid}

-- in parentheses
enclosed_exact : Exact r.enclosed g.enclosed (is_mark p.OpenParen) no quiet
unfolding r.enclosed
enclosed_exact = led_exact (is_mark p.OpenParen) (closed_exact p.CloseParen (phrase_exact 198) (λ x t e. close_ends false t e))

-- What may be absent. The test has the tokens that it begins with, and those that go on with it.
maybe_exact : (test : Sight → Bool) {q : Parser Sight Nothing} {h : Phrase Sight Nothing} {first : Sight → Bool} {more : Nothing → Sight → Bool} → Exact q h first no more → ((x : Nothing) → h.reads [] x → ⊥)
    → ((t : Sight) → first t ≡ true → test t ≡ true) → ((x : Nothing) (t : Sight) → more x t ≡ true → test t ≡ true)
    → Exact (r.maybe test q) (g.maybe h) any any (λ x t. test t)
maybe_exact test {first = first} E solid opens goes =
    loose
    (either test (wider E first no (λ x t. test t) (λ t e. e) (λ t e. e) goes) (nothing tt (λ x t. test t)) solid opens
    (λ t e. absurd (true≢false (sym e))) (λ t e. absurd (true≢false (sym e))) (λ t e. absurd (true≢false (sym e))) (λ x d t e. e))

-- one or more, with a mark between them, where it does not go on with one of them
module _ (m : Punctuator) (q : Parser Sight Nothing) (h : Phrase Sight Nothing) (first more : Sight → Bool) (E : Exact q h first no (λ x t. more t)) (solid : (x : Nothing) → h.reads [] x → ⊥)
    (splits : (t : Sight) → is_mark m t ≡ true → more t ≡ false) where
  abbrev some : Parser Sight Nothing
  some = parse.◌>>=◌ q (λ _. parse.folded (λ _. is_mark m) both (λ _. parse.◌>>◌ (parse.one (mark m)) q) tt)

  abbrev after : Nothing → Sight → Bool
  after x t = is_mark m t || more t

  mark_meant : (t : Sight) → is_meant (mark m t) ≡ true → is_mark m t ≡ true
  mark_meant t e = go (is_mark m t) e
    where
      go : (b : Bool) → is_meant (wants b) ≡ true → b ≡ true
      go true h = refl
      go false h = absurd (true≢false (sym h))

  some_exact : Exact some (g.separated (mark m) h) first no after
  some_exact =
      separated (λ (x : Nothing). mark m) (λ x t. is_mark m t) both (λ (x : Nothing). tt) after E (λ _. E) solid
      (λ x t e. mark_meant t e) (λ u x d t e. splits t e) (λ x u y d t e. splits t e)
      (λ x t e. or_fails_left (is_mark m t) (more t) e)
      (λ u x d t e. or_fails_right (is_mark m t) (more t) e) (λ x u y d t e. or_fails_right (is_mark m t) (more t) e)

  some_solid : (x : Nothing) → (g.separated (mark m) h).reads [] x → ⊥
  some_solid x d = seq_solid h (λ _. phrase.folded both (λ _. phrase.◌>>◌ (phrase.one (mark m)) h) tt) solid x d

  -- in parentheses
  module _ (opens : (t : Sight) → first t ≡ true → r.is_no_close t ≡ true) (goes : (t : Sight) → more t ≡ true → r.is_no_close t ≡ true) (is_none : (t : Sight) → is_mark m t ≡ true → r.is_no_close t ≡ true) where
    listed_exact : Exact (r.parenthesised some) (g.listed_in (mark m) h) (is_mark p.OpenParen) no quiet
    listed_exact =
        led_exact (is_mark p.OpenParen)
        (closed_exact p.CloseParen (maybe_exact r.is_no_close some_exact some_solid opens (λ x t e. or_cases (is_mark m t) (more t) e (is_none t) (goes t))) (λ x t e. ap not e))

-- a mark that is no closing parenthesis, a name, a number
semicolon_stays : (t : Sight) → is_mark p.Semicolon t ≡ true → r.is_no_close t ≡ true
semicolon_stays t e = no_mark p.CloseParen t (mark_apart p.Semicolon p.CloseParen t refl e)

comma_stays : (t : Sight) → is_mark p.Comma t ≡ true → r.is_no_close t ≡ true
comma_stays t e = no_mark p.CloseParen t (mark_apart p.Comma p.CloseParen t refl e)

name_stays : (t : Sight) → is_name t ≡ true → r.is_no_close t ≡ true
name_stays t e = no_mark p.CloseParen t (name_apart p.CloseParen t e)

never_goes : {P : Type 0} → false ≡ true → P
never_goes e = absurd (true≢false (sym e))

terms_exact : Exact r.terms g.terms (is_mark p.OpenParen) no quiet
unfolding r.terms r.some_terms
terms_exact =
    listed_exact p.Semicolon (r.phrase 198) g.within (goes_on false) (goes_on false) (phrase_exact 198) (phrase_solid 198) semicolon_ends
    (goes_no_close false) (goes_no_close false) semicolon_stays

given_name : (t : Sight) → is_given t ≡ true → is_name t ≡ true
given_name t e = go (is_name t) refl
  where
    go : (b : Bool) → is_name t ≡ b → is_name t ≡ true
    go true h = h
    go false h = absurd (true≢false (sym e ∙ rw h refl))

given_exact : Exact r.given g.given is_given no quiet
unfolding r.given
given_exact = wants_exact is_given

given_solid : (x : Nothing) → g.given.reads [] x → ⊥
given_solid x d = token_solid (λ s. wants (is_given s)) x d

givens_exact : Exact r.givens g.givens (is_mark p.OpenParen) no quiet
unfolding r.givens r.some_givens
givens_exact =
    listed_exact p.Semicolon r.given g.given is_given no given_exact given_solid (λ t e. refl)
    (λ t e. name_stays t (given_name t e)) (λ t e. never_goes e) semicolon_stays

name_exact : Exact r.name g.name is_name no quiet
unfolding r.name
name_exact = wants_exact is_name

number_exact : Exact r.number g.number is_number no quiet
unfolding r.number
number_exact = wants_exact is_number

hypothesis_exact : Exact r.hypothesis g.hypothesis names_hypothesis no quiet
unfolding r.hypothesis
hypothesis_exact = wants_exact names_hypothesis

-- `[ mark ]` before what does not begin with it
marked_exact : {first : Sight → Bool} (m : Punctuator) {q : Parser Sight Nothing} {h : Phrase Sight Nothing} → Exact q h first no quiet → ((x : Nothing) → h.reads [] x → ⊥) → ((t : Sight) → first t ≡ true → is_mark m t ≡ false)
    → Exact (parse.◌>>◌ (r.maybe_mark m) q) (phrase.◌>>◌ (g.maybe (phrase.one (mark m))) h) any any quiet
unfolding r.maybe_mark
marked_exact m E solid apart =
    seq_open (maybe_exact (is_mark m) (wants_exact (is_mark m)) (λ x d. token_solid (mark m) x d) (λ t e. e) (λ x t e. never_goes e)) (λ _. E)
    (λ u x d t e. apart t e) (λ u x d t e. never_goes e) (λ u x y d d' t e. absurd (solid y d'))
    any any (λ t e. refl) (λ t e. refl) (λ x d t e. refl) (λ x d t e. refl)

abbrev is_weighed : Sight → Bool
is_weighed s = is_word (codes "N") s || names_hypothesis s

weighed_name : (t : Sight) → is_weighed t ≡ true → is_name t ≡ true
weighed_name t e = or_cases (is_word (codes "N") t) (names_hypothesis t) e (word_name (codes "N") t) (hypothesis_name t)
  where
    word_name : (text : List ℕ) (t : Sight) → is_word text t ≡ true → is_name t ≡ true
    word_name text t e = go (is_name t) refl
      where
        go : (b : Bool) → is_name t ≡ b → is_name t ≡ true
        go true h = h
        go false h = absurd (true≢false (sym e ∙ rw h refl))

weight_exact : Exact r.weight g.weight is_weighed no quiet
unfolding r.weight
weight_exact = led_exact is_weighed (led_exact (is_mark p.Colon) (marked_exact p.Minus number_exact (λ x d. token_solid (λ s. wants (is_number s)) x d) (number_apart p.Minus)))

weight_solid : (x : Nothing) → g.weight.reads [] x → ⊥
weight_solid x d = led_solid is_weighed (phrase.◌>>◌ (phrase.one (mark p.Colon)) (phrase.◌>>◌ (g.maybe (phrase.one (mark p.Minus))) g.number)) x d

weights_exact : Exact r.weights (g.listed_in (mark p.Comma) g.weight) (is_mark p.OpenParen) no quiet
unfolding r.weights r.some_weights
weights_exact =
    listed_exact p.Comma r.weight g.weight is_weighed no weight_exact weight_solid (λ t e. refl)
    (λ t e. name_stays t (weighed_name t e)) (λ t e. never_goes e) comma_stays

-- a list in parentheses, or an assertion, that may be absent
open_solid : (h : Phrase Sight Nothing) (x : Nothing) → (phrase.◌>>◌ (phrase.one (mark p.OpenParen)) h).reads [] x → ⊥
open_solid h x d = led_solid (is_mark p.OpenParen) h x d

enclosed_solid : (x : Nothing) → g.enclosed.reads [] x → ⊥
enclosed_solid x d = open_solid (phrase.◌>>◌ g.within (phrase.one (mark p.CloseParen))) x d

maybe_enclosed_exact : Exact r.maybe_enclosed (g.maybe g.enclosed) any any (λ x t. is_mark p.OpenParen t)
unfolding r.maybe_enclosed
maybe_enclosed_exact = maybe_exact (is_mark p.OpenParen) enclosed_exact enclosed_solid (λ t e. e) (λ x t e. never_goes e)

names_behind_exact : (b : Bool) → Exact (r.names_behind b) (g.names_behind b) any any (λ x t. is_mark p.OpenParen t)
unfolding r.names_behind
names_behind_exact true = maybe_exact (is_mark p.OpenParen) givens_exact (λ x d. open_solid (phrase.◌>>◌ (g.maybe (g.separated (mark p.Semicolon) g.given)) (phrase.one (mark p.CloseParen))) x d) (λ t e. e) (λ x t e. never_goes e)
names_behind_exact false = wider givens_exact any any (λ x t. is_mark p.OpenParen t) (λ t e. refl) (λ t e. refl) (λ x t e. never_goes e)

destructed_exact : Exact r.destructed (phrase.◌>>=◌ (phrase.one destructed_of) g.names_behind) any any (λ x t. is_mark p.OpenParen t)
unfolding r.destructed
destructed_exact = loose (token_then destructed_of names_behind_exact)

-- the assertions of a loop
behind_word_exact : (text : List ℕ) → Exact (r.behind_word text) (phrase.◌>>◌ (g.word text) g.enclosed) (is_word text) no quiet
unfolding r.behind_word r.word
behind_word_exact text = led_exact (is_word text) enclosed_exact

behind_word_solid : (text : List ℕ) (x : Nothing) → (phrase.◌>>◌ (g.word text) g.enclosed).reads [] x → ⊥
behind_word_solid text x d = led_solid (is_word text) g.enclosed x d

maybe_continue_exact : Exact r.maybe_continue (g.maybe (phrase.◌>>◌ (g.word (codes "continue")) g.enclosed)) any any (λ x t. is_word (codes "continue") t)
unfolding r.maybe_continue
maybe_continue_exact = maybe_exact (is_word (codes "continue")) (behind_word_exact (codes "continue")) (behind_word_solid (codes "continue")) (λ t e. e) (λ x t e. never_goes e)

loop_exact : Exact r.loop_assertions (g.arguments shape.Loop) any any quiet
unfolding r.loop_assertions
loop_exact =
    loose
    (seq enclosed_exact
    (λ _. seq_open maybe_continue_exact (λ _. behind_word_exact (codes "break"))
    (λ u x d t e. words_apart (codes "break") (codes "continue") t refl e) (λ u x d t e. never_goes e) (λ u x y d d' t e. absurd (behind_word_solid (codes "break") y d'))
    any any (λ t e. refl) (λ t e. refl) (λ x d t e. refl) (λ x d t e. refl))
    enclosed_solid (λ u x d t e. refl) (λ u x d t e. refl) (λ u x y d d' t e. refl))

-- names one after the other
all_given_exact : Exact r.all_given (g.arguments shape.Givens) any any (λ x t. is_given t)
unfolding r.all_given
all_given_exact =
    loose
    (repeat (λ _ t. is_given t) both (λ x t. is_given t) (λ _. given_exact) (λ _ y d. given_solid y d)
    (λ _ t e. e) (λ _ t e. never_goes e) (λ x u y d t e. refl) (λ x t e. e) (λ x u y d t e. refl) tt)

maybe_given_exact : Exact r.maybe_given (g.maybe g.given) any any (λ x t. is_given t)
unfolding r.maybe_given
maybe_given_exact = maybe_exact is_given given_exact given_solid (λ t e. e) (λ x t e. never_goes e)

either_exact : Exact r.number_or_hypothesis (g.arguments shape.NumberOrHypothesis) any any quiet
unfolding r.number_or_hypothesis
either_exact = loose (wants_exact (λ s. is_number s || names_hypothesis s))

-- No `;` goes on with what stands behind a word.
abbrev pub no_end : Sight → Bool
no_end t = not (is_mark p.Semicolon t)

settled : {q : Parser Sight Nothing} {h : Phrase Sight Nothing} {first bad : Sight → Bool} (more : Sight → Bool) → Exact q h first bad (λ x t. more t) → ((t : Sight) → more t ≡ true → is_mark p.Semicolon t ≡ false)
    → Exact q h any any (λ x t. no_end t)
settled more E apart = wider E any any (λ x t. no_end t) (λ t e. refl) (λ t e. refl) (λ x t e. no_mark p.Semicolon t (apart t e))

settled_quiet : {q : Parser Sight Nothing} {h : Phrase Sight Nothing} {first bad : Sight → Bool} → Exact q h first bad quiet → Exact q h any any (λ x t. no_end t)
settled_quiet E = settled no E (λ t e. never_goes e)

open_apart : (t : Sight) → is_mark p.OpenParen t ≡ true → is_mark p.Semicolon t ≡ false
open_apart t e = mark_apart p.OpenParen p.Semicolon t refl e

given_apart : (t : Sight) → is_given t ≡ true → is_mark p.Semicolon t ≡ false
given_apart t e = name_apart p.Semicolon t (given_name t e)

-- what is led by a name, a number or a hypothesis
named_exact : {q : Parser Sight Nothing} {h : Phrase Sight Nothing} {first : Sight → Bool} → Exact q h first no quiet → Exact (parse.◌>>◌ r.name q) (phrase.◌>>◌ g.name h) any any (λ x t. no_end t)
unfolding r.name
named_exact E = settled_quiet (led_exact is_name E)

numbered_exact : {q : Parser Sight Nothing} {h : Phrase Sight Nothing} {first : Sight → Bool} → Exact q h first no quiet → Exact (parse.◌>>◌ r.number q) (phrase.◌>>◌ g.number h) any any (λ x t. no_end t)
unfolding r.number
numbered_exact E = settled_quiet (led_exact is_number E)

supposed_exact : {q : Parser Sight Nothing} {h : Phrase Sight Nothing} {first : Sight → Bool} → Exact q h first no quiet → Exact (parse.◌>>◌ r.hypothesis q) (phrase.◌>>◌ g.hypothesis h) any any (λ x t. no_end t)
unfolding r.hypothesis
supposed_exact E = settled_quiet (led_exact names_hypothesis E)

twice_exact : Exact (parse.◌>>◌ r.terms r.terms) (phrase.◌>>◌ g.terms g.terms) (is_mark p.OpenParen) no quiet
twice_exact =
    seq terms_exact (λ _. terms_exact)
    (λ x d. open_solid (phrase.◌>>◌ (g.maybe (g.separated (mark p.Semicolon) g.within)) (phrase.one (mark p.CloseParen))) x d)
    (λ u x d t e. refl) (λ u x d t e. refl) (λ u x y d d' t e. refl)

rewriting_exact : Exact (parse.◌>>◌ (r.maybe_mark p.LeftArrow) r.hypothesis) (g.arguments shape.Rewriting) any any quiet
rewriting_exact = marked_exact p.LeftArrow hypothesis_exact (λ x d. token_solid (λ s. wants (names_hypothesis s)) x d) (λ t e. name_apart p.LeftArrow t (hypothesis_name t e))

pub arguments_exact : (s : Shape) → Exact (r.arguments s) (g.arguments s) any any (λ x t. no_end t)
arguments_exact shape.Nothing = loose (nothing tt (λ x t. no_end t))
arguments_exact shape.MaybeEnclosed = settled (is_mark p.OpenParen) maybe_enclosed_exact open_apart
arguments_exact shape.Enclosed = settled_quiet enclosed_exact
arguments_exact shape.Loop = settled_quiet loop_exact
arguments_exact shape.Terms = settled_quiet terms_exact
arguments_exact shape.NamedTerms = named_exact terms_exact
arguments_exact shape.NamedTwice = named_exact twice_exact
arguments_exact shape.Named = settled_quiet name_exact
arguments_exact shape.Givens = settled is_given all_given_exact given_apart
arguments_exact shape.MaybeGiven = settled is_given maybe_given_exact given_apart
arguments_exact shape.Bare = wider (phrase_exact 199) any any (λ x t. no_end t) (λ t e. refl) (λ t e. refl) (λ x t e. goes_no_end t e)
arguments_exact shape.Number = settled_quiet number_exact
arguments_exact shape.NumberOrHypothesis = settled_quiet either_exact
arguments_exact shape.NumberTerm = numbered_exact enclosed_exact
arguments_exact shape.TwoNumbers = numbered_exact number_exact
arguments_exact shape.Rewriting = settled_quiet rewriting_exact
arguments_exact shape.Destructing = settled (is_mark p.OpenParen) destructed_exact open_apart
arguments_exact shape.NamedGivens = named_exact givens_exact
arguments_exact shape.HypothesisTerm = supposed_exact enclosed_exact
arguments_exact shape.Hypothesis = settled_quiet hypothesis_exact
arguments_exact shape.Weights = settled_quiet weights_exact

-- loops take a token at each turn
pub next_term_eats : Eats r.next_term
next_term_eats = exact_eats (led_exact (is_mark p.Semicolon) (phrase_exact 198)) (led_solid (is_mark p.Semicolon) g.within)

pub next_given_eats : Eats r.next_given
next_given_eats = exact_eats (led_exact (is_mark p.Semicolon) given_exact) (led_solid (is_mark p.Semicolon) g.given)

pub next_weight_eats : Eats r.next_weight
next_weight_eats = exact_eats (led_exact (is_mark p.Comma) weight_exact) (led_solid (is_mark p.Comma) g.weight)

pub given_eats : Eats r.given
given_eats = exact_eats given_exact given_solid
