-- The readers of terms, formulas and assertions as lists of tokens are exact for their grammar.
use Rattle.std.proofs.Common.{◌≡◌, ℕ, zero, suc, Bool, true, false, List, [], Err, refl, sym, subst, true≢false}
use Rattle.floyd_lex.specs.declared.kinds.Punctuator.{Punctuator}
use Rattle.floyd_lex.specs.declared.kinds.Punctuator.TheVariants as p
use Rattle.floyd_grammar.specs.Phrase.{Phrase}
use Rattle.floyd_grammar.specs.Phrase as phrase
use Rattle.floyd_grammar.specs.ParseClauses.{Parser, is_taken, is_blamed}
use Rattle.floyd_grammar.specs.ParseClauses as parse
use Rattle.floyd_grammar.proofs.Exact.{Exact, token, token_solid, nothing}
use Rattle.floyd_grammar.proofs.Seq.{seq, seq_open, seq_solid, token_then}
use Rattle.floyd_grammar.proofs.Repeat.{repeat}
use Rattle.floyd_grammar.proofs.Turns.{Turning, turning}
use Rattle.floyd_grammar.proofs.Wider.{wider, loose}
use Rattle.floyd_cparse_tokens.proofs.Shrinks.{Eats, exact_eats}
use Rattle.floyd_script_tokens.specs.Heads.{item_of}
use Rattle.floyd_script_tokens.specs.Sights.{Sight, is_mark, unexpected, wants, mark}
use Rattle.floyd_script_tokens.specs.SightClauses.{goes_on}
use Rattle.floyd_script_tokens.specs.declared.heads.Opening.{Opening}
use Rattle.floyd_script_tokens.specs.declared.heads.Opening.TheVariants.{Plain, Round, Square}
use Rattle.floyd_script_arguments.specs.Grammar.{Nothing, both}
use Rattle.floyd_script_arguments.specs.Grammar as g
use Rattle.floyd_script_arguments.specs.ArgumentClauses as r
use Rattle.floyd_script_arguments.proofs.TokenSets.{wants_taken, wants_mild, close_ends, bracket_ends, item_taken, item_blamed, item_mild}

-- every token, and none
abbrev pub any : Sight → Bool
any t = true

abbrev pub no : Sight → Bool
no t = false

abbrev pub quiet : {A : Type 0} → A → Sight → Bool
quiet x t = false

-- a token that is wanted
pub wants_exact : (f : Sight → Bool) → Exact (parse.one (λ s. wants (f s))) (phrase.one (λ s. wants (f s))) f no quiet
wants_exact f = wider (token (λ s. wants (f s))) f no quiet (λ t e. wants_taken (f t) e) (λ t e. wants_mild (f t) e) (λ x t e. e)

-- it stands before all else
pub led_exact : {B : Type 0} (f : Sight → Bool) {q : Parser Sight B} {h : Phrase Sight B} {first bad : Sight → Bool} {more : B → Sight → Bool} → Exact q h first bad more
    → Exact (parse.◌>>◌ (parse.one (λ s. wants (f s))) q) (phrase.◌>>◌ (phrase.one (λ s. wants (f s))) h) f no more
led_exact f {more = more} E = wider (token_then (λ s. wants (f s)) (λ _. E)) f no more (λ t e. wants_taken (f t) e) (λ t e. wants_mild (f t) e) (λ x t e. e)

pub led_solid : {B : Type 0} (f : Sight → Bool) (h : Phrase Sight B) (y : B) → (phrase.◌>>◌ (phrase.one (λ s. wants (f s))) h).reads [] y → ⊥
led_solid f h y d = seq_solid (phrase.one (λ s. wants (f s))) (λ _. h) (token_solid (λ s. wants (f s))) y d

-- it stands behind what does not go on with it
pub closed_exact : (m : Punctuator) {q : Parser Sight Nothing} {h : Phrase Sight Nothing} {first bad : Sight → Bool} {more : Nothing → Sight → Bool} → Exact q h first bad more
    → ((x : Nothing) (t : Sight) → is_mark m t ≡ true → more x t ≡ false)
    → Exact (parse.◌>>◌ q (parse.one (mark m))) (phrase.◌>>◌ h (phrase.one (mark m))) any any quiet
closed_exact m E apart =
    seq_open E (λ _. wants_exact (is_mark m)) (λ u x d t e. apart x t e) (λ u x d t e. absurd (true≢false (sym e)))
    (λ u x y d d' t e. absurd (token_solid (mark m) y d'))
    any any (λ t e. refl) (λ t e. refl) (λ x d t e. refl) (λ x d t e. refl)

-- items, where what stands in their brackets is read so
module _ (ip : Parser Sight Nothing) (ig : Phrase Sight Nothing) (I : Exact ip ig any any (λ x t. goes_on true t)) where
  after_opening_exact : (o : Opening) → Exact (r.after_opening ip o) (g.after_opening ig o) any any quiet
  unfolding r.after_opening
  after_opening_exact Plain = loose (nothing tt quiet)
  after_opening_exact Round = closed_exact p.CloseParen I (λ x t e. close_ends true t e)
  after_opening_exact Square = closed_exact p.CloseBracket I (λ x t e. bracket_ends true t e)

  pub item_exact : (inside room : Bool) → Exact (r.item ip inside room) (g.item ig inside room) (λ t. is_taken (item_of inside room t)) (λ t. is_blamed (item_of inside room t)) quiet
  unfolding r.item
  item_exact inside room = token_then (item_of inside room) (λ o. after_opening_exact o)

  pub item_solid : (inside room : Bool) (x : Nothing) → (g.item ig inside room).reads [] x → ⊥
  item_solid inside room x d = seq_solid (phrase.one (item_of inside room)) (g.after_opening ig) (token_solid (item_of inside room)) x d

  pub items_exact : (inside room : Bool) → Exact (r.items ip inside room) (g.items ig inside room) (λ t. is_taken (item_of inside room t)) (λ t. is_blamed (item_of inside room t)) (λ x t. goes_on inside t)
  unfolding r.items
  items_exact inside room =
      repeat (λ _ t. goes_on inside t) both (λ x t. goes_on inside t) (λ _. item_exact inside room) (λ _ y d. item_solid inside room y d)
      (λ _ t e. item_taken inside room t e) (λ _ t e. item_blamed inside room t e) (λ x u y d t e. refl) (λ x t e. e) (λ x u y d t e. refl) tt

-- no bracket more
never_exact : Exact (parse.never {A = Nothing} unexpected) (phrase.never unexpected) any any (λ x t. goes_on true t)
never_exact = wider (token (λ t. Err unexpected)) any any (λ x t. goes_on true t) (λ t e. refl) (λ t e. refl) (λ x t e. absurd (true≢false (sym e)))

pub contents_exact : (n : ℕ) → Exact (r.contents n) (g.contents n) any any (λ x t. goes_on true t)
unfolding r.contents g.contents
contents_exact zero = loose (items_exact (parse.never unexpected) (phrase.never unexpected) never_exact true false)
contents_exact (suc n) = loose (items_exact (r.contents n) (g.contents n) (contents_exact n) true true)

-- by the room that is left
pub inner_exact : (n : ℕ) → (ig : Phrase Sight Nothing) × Exact (r.inner_of n) ig any any (λ x t. goes_on true t)
inner_exact zero = (phrase.never unexpected, never_exact)
inner_exact (suc n) = (g.contents n, contents_exact n)

pub contents_is : (n : ℕ) → r.contents n ≡ r.items (r.inner_of n) true (r.has_room n)
unfolding r.contents
contents_is zero = refl
contents_is (suc n) = refl

pub phrase_exact : (n : ℕ) → Exact (r.phrase n) (g.phrase n) (goes_on false) no (λ x t. goes_on false t)
unfolding r.phrase r.item_out r.items
phrase_exact n =
    let item = item_exact (r.contents n) (g.contents n) (contents_exact n) false true in
    wider
    (seq item (λ _. items_exact (r.contents n) (g.contents n) (contents_exact n) false true) (item_solid (r.contents n) (g.contents n) (contents_exact n) false true)
    (λ u x d t e. refl) (λ u x d t e. refl) (λ u x y d d' t e. refl))
    (goes_on false) no (λ x t. goes_on false t)
    (λ t e. item_taken false true t e) (λ t e. item_mild false t e) (λ x t e. e)

pub phrase_solid : (n : ℕ) (x : Nothing) → (g.phrase n).reads [] x → ⊥
phrase_solid n x d = seq_solid (g.item (g.contents n) false true) (λ _. g.items (g.contents n) false true) (item_solid (r.contents n) (g.contents n) (contents_exact n) false true) x d

-- loops take a token at each turn
pub item_in_eats : (n : ℕ) → Eats (r.item_in n)
unfolding r.item_in
item_in_eats n = let I = inner_exact n in exact_eats (item_exact (r.inner_of n) I.0 I.1 true (r.has_room n)) (item_solid (r.inner_of n) I.0 I.1 true (r.has_room n))

pub item_out_eats : (n : ℕ) → Eats (r.item_out n)
unfolding r.item_out
item_out_eats n = exact_eats (item_exact (r.contents n) (g.contents n) (contents_exact n) false true) (item_solid (r.contents n) (g.contents n) (contents_exact n) false true)

-- a loop begins
pub contents_turns : (n : ℕ) (ts : List Sight) → Turning (λ _. goes_on true) both (λ _. r.item_in n) tt ts (r.contents n ts)
unfolding r.item_in r.items
contents_turns n ts = subst (λ (q : Parser Sight Nothing). Turning (λ _. goes_on true) both (λ _. r.item_in n) tt ts (q ts)) (sym (contents_is n)) (turning (λ _. goes_on true) both (λ _. r.item_in n) tt ts)
