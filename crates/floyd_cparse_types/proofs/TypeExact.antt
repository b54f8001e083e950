-- The readers of types are exact for their grammar.
use Rattle.std.proofs.Common.{◌≡◌, ℕ, ◌+◌, pred, Bool, true, false, not, ◌||◌, Result, List, [], ◌∷◌, length, refl, sym, ◌∙◌, ap, subst}
use Rattle.std.specs.Prelude.{Option, Some, None}
use Rattle.floyd_text.specs.declared.place.Place.{Place}
use Rattle.floyd_lex.specs.declared.kinds.TokenKind.TheVariants as k
use Rattle.floyd_lex.specs.declared.kinds.Punctuator.TheVariants as p
use Rattle.floyd_lex.specs.declared.kinds.Keyword.TheVariants as w
use Rattle.floyd_grammar.specs.Phrase.{Phrase}
use Rattle.floyd_grammar.specs.Phrase as phrase
use Rattle.floyd_grammar.specs.ParseClauses.{Parser, is_taken, is_blamed, is_meant}
use Rattle.floyd_grammar.specs.ParseClauses as parse
use Rattle.floyd_grammar.proofs.Exact.{Exact, nil_left, token, token_solid, nothing}
use Rattle.floyd_grammar.proofs.Seq.{seq, seq_open, seq_solid, seq_solid_right, token_then, made}
use Rattle.floyd_grammar.proofs.Either.{or_left, or_right}
use Rattle.floyd_grammar.proofs.Wider.{wider, loose}
use Rattle.floyd_grammar.proofs.Repeat.{repeat, folded_nil}
use Rattle.floyd_grammar.proofs.Lists.{separated, closed, closed_any}
use Rattle.floyd_cparse_trees.specs.declared.types.Base.TheVariants as b
use Rattle.floyd_cparse_trees.specs.declared.types.FieldDeclaration.{FieldDeclaration}
use Rattle.floyd_cparse_types.specs.declared.values.BaseStart.{BaseStart}
use Rattle.floyd_cparse_types.specs.declared.values.BaseStart.TheVariants as start
use Rattle.floyd_cparse_types.specs.declared.values.Declared.{Declared}
use Rattle.floyd_cparse_types.specs.declared.values.Declared.TheVariants as of
use Rattle.floyd_cparse_types.specs.declared.values.Declarators.{Declarators}
use Rattle.floyd_cparse_types.specs.declared.values.IntWords.{IntWords}
use Rattle.floyd_cparse_types.specs.declared.values.ReadBase.{ReadBase}
use Rattle.floyd_cparse_types.specs.declared.values.ReadDeclarator.{ReadDeclarator}
use Rattle.floyd_cparse_types.specs.declared.values.ReadSpecifiers.{ReadSpecifiers}
use Rattle.floyd_cparse_trees.specs.declared.types.Star.{Star}
use Rattle.floyd_cparse_types.specs.declared.values.Tag.{Tag}
use Rattle.floyd_cparse_types.specs.declared.values.Tag.TheVariants as tag
use Rattle.floyd_cparse_tokens.specs.Tokens.{is_there, Sight, Types, is_mark, is_word, is_mark_kind, is_word_kind, offer, found_or, place_if}
use Rattle.floyd_cparse_types.specs.Types as g
use Rattle.floyd_cparse_types.specs.Types.{TypePhrases, extends, with_word, goes_on_declarator, is_named}
use Rattle.floyd_cparse_types.specs.TypeClauses as r
use Rattle.floyd_cparse_types.specs.TypeClauses.{TypeReaders}
use Rattle.floyd_cparse_tokens.proofs.TokenLemmas.{or_cases, or_fails_left, or_fails_right, or_fails, not_false, mark_kind, word_kind, there_place, closing_meant, closing_taken, closing_unless_either, offered_meant}
use Rattle.floyd_cparse_types.proofs.TypeSets.{begins_specs, more_specs, begins_dtor, more_dtor, specifier_dtor, more_specifier, mark_ends, specs_brace, base_begins, base_const, base_brace}

-- what is taken or blamed is meant
pub meant_taken : {A : Type 0} (o : Result A ℕ) → is_taken o ≡ true → is_meant o ≡ true
meant_taken o e = or_left (is_taken o) (is_blamed o) e

pub meant_blamed : {A : Type 0} (o : Result A ℕ) → is_blamed o ≡ true → is_meant o ≡ true
meant_blamed o e = or_right (is_taken o) (is_blamed o) e

pub offered_place : (room count : ℕ) (test : Bool) (s : Sight) → is_meant (offer room count s (place_if test s)) ≡ true → test ≡ true
offered_place room count test s e = there_place test s (offered_meant room count s (place_if test s) e)

pub closing_place : (test : Bool) (s : Sight) → is_meant (found_or 0 (place_if test s)) ≡ true → test ≡ true
closing_place test s e = there_place test s (closing_meant (place_if test s) e)

-- what the readers one bracket further in keep to
pub record InnerExact (types : Types) (ri : TypeReaders) (gi : TypePhrases) : Type 0 where
  pub bad_specs : ℕ → Sight → Bool
  pub bad_dtor : Declared → ℕ → Sight → Bool
  pub specs : (count : ℕ) → Exact (ri.specs count) (gi.specs count) (begins_specs types) (bad_specs count) more_specs
  pub dtor : (declared : Declared) (count : ℕ) → Exact (ri.dtor declared count) (gi.dtor declared count) begins_dtor (bad_dtor declared count) (more_dtor declared)
  pub specs_solid : (count : ℕ) (x : ReadSpecifiers) → (gi.specs count).reads [] x → ⊥
  pub named_solid : (declared : Declared) → is_named declared ≡ true → (count : ℕ) (x : ReadDeclarator) → (gi.dtor declared count).reads [] x → ⊥
  pub bare : (declared : Declared) (count : ℕ) (x : ReadDeclarator) → (gi.dtor declared count).reads [] x → (x.end.bare ≡ true) × (x.end.stars ≡ 0)
  pub brace : (s : Sight) → bad_specs 0 s ≡ true → is_mark p.CloseBrace s ≡ false
  pub clear : (count : ℕ) (u : List Sight) (x : ReadSpecifiers) → (gi.specs count).reads u x → (declared : Declared) (s : Sight) → bad_dtor declared count s ≡ true → more_specs x s ≡ false

-- {"const"}
pub consts_exact : (room count : ℕ) (first : Option Place) → Exact (r.consts room count first) (g.consts room count first) (is_word w.Const) (is_word w.Const) (λ x s. is_word w.Const s)
unfolding r.consts
consts_exact room count first =
    let meant : (s : Sight) → is_meant (g.const_token room count s) ≡ true → is_word w.Const s ≡ true = λ s e. offered_place room count (is_word w.Const s) s e in
    wider
    (repeat (λ _. is_word w.Const) g.keep_first (λ x s. is_word w.Const s) (λ _. token (g.const_token room count)) (λ _ x d. token_solid (g.const_token room count) x d)
    (λ x s e. meant s (meant_taken (g.const_token room count s) e)) (λ x s e. meant s (meant_blamed (g.const_token room count s) e))
    (λ x u y d s e. refl) (λ x s e. e) (λ x u y d s e. refl) first)
    (is_word w.Const) (is_word w.Const) (λ x s. is_word w.Const s)
    (λ s e. meant s (meant_taken (g.const_token room count s) e)) (λ s e. meant s (meant_blamed (g.const_token room count s) e)) (λ x s e. e)

-- the words of an integer type
pub int_words_exact : (room count : ℕ) (words : IntWords) → Exact (r.int_words room count words) (g.int_words room count words) (λ s. true) (λ s. true) (λ x s. extends (Some x) s.token.kind)
unfolding r.int_words
int_words_exact room count words =
    let meant : (x : IntWords) (s : Sight) → is_meant (g.word_token room count x s) ≡ true → is_there (with_word s.token.kind x) ≡ true = λ x s e. offered_meant room count s (with_word s.token.kind x) e in
    loose
    (repeat (λ x s. is_there (with_word s.token.kind x)) g.latest (λ x s. extends (Some x) s.token.kind) (λ x. token (g.word_token room count x)) (λ x y d. token_solid (g.word_token room count x) y d)
    (λ x s e. meant x s (meant_taken (g.word_token room count x s) e)) (λ x s e. meant x s (meant_blamed (g.word_token room count x s) e))
    (λ x u y d s e. refl) (λ x s e. e) (λ x u y d s e. refl) words)

module _ (types : Types) (room : ℕ) (ri : TypeReaders) (gi : TypePhrases) (I : InnerExact types ri gi) where
  more_fields : Declarators → Sight → Bool
  more_fields xs s = is_mark p.Comma s || goes_on_declarator of.Field xs.end s

  field_declarators_exact : Exact (r.field_declarators types room ri) (g.field_declarators types room gi) begins_dtor (I.bad_dtor of.Field 0) more_fields
  unfolding r.field_declarators more_fields
  field_declarators_exact =
      separated (λ _. g.comma_token) (λ _. is_mark p.Comma) g.plus_declarator g.first_declarator more_fields
      (I.dtor of.Field 0) (λ _. I.dtor of.Field 0) (I.named_solid of.Field refl 0)
      (λ xs s e. closing_place (is_mark p.Comma s) s e)
      (λ u x d s e. mark_ends p.Comma of.Field x.end s refl e) (λ xs u y d s e. mark_ends p.Comma of.Field y.end s refl e)
      (λ xs s e. or_fails_left (is_mark p.Comma s) (goes_on_declarator of.Field xs.end s) e)
      (λ u x d s e. or_fails_right (is_mark p.Comma s) (goes_on_declarator of.Field x.end s) e) (λ xs u y d s e. or_fails_right (is_mark p.Comma s) (goes_on_declarator of.Field y.end s) e)

  fields_solid : (x : Declarators) → (g.field_declarators types room gi).reads [] x → ⊥
  fields_solid x d = seq_solid (gi.dtor of.Field 0) (λ first. phrase.folded g.plus_declarator (λ _. phrase.◌>>◌ (phrase.one g.comma_token) (gi.dtor of.Field 0)) (g.first_declarator first)) (I.named_solid of.Field refl 0) x d

  field_end_meant : (xs : Declarators) (s : Sight) → is_meant (g.field_end types (pred room) xs.end s) ≡ true → more_fields xs s ≡ false
  unfolding more_fields
  field_end_meant xs s e =
      or_cases (is_taken (g.field_end types (pred room) xs.end s)) (is_blamed (g.field_end types (pred room) xs.end s)) e
      (λ t.
      let semicolon = there_place (is_mark p.Semicolon s) s (closing_taken _ (place_if (is_mark p.Semicolon s) s) t) in
      or_fails (is_mark p.Comma s) (goes_on_declarator of.Field xs.end s)
      (ap (is_mark_kind p.Comma) (mark_kind p.Semicolon s.token.kind semicolon)) (mark_ends p.Semicolon of.Field xs.end s refl semicolon))
      (λ bl.
      let d = closing_unless_either (is_mark p.Comma s) (goes_on_declarator of.Field xs.end s) _ (place_if (is_mark p.Semicolon s) s) bl in
      or_fails (is_mark p.Comma s) (goes_on_declarator of.Field xs.end s) d.0 d.1)

  -- specs dtor {"," dtor} ";"
  pub field_exact : Exact (r.field types room ri) (g.field types room gi) (begins_specs types) (I.bad_specs 0) (λ x s. false)
  unfolding r.field
  field_exact =
      seq (I.specs 0)
      (λ x. closed (λ (all : Declarators). g.field_end types (pred room) all.end) (λ (all : Declarators). record { specifiers = x.tree; declarators = all.items }) (λ y s. false) field_declarators_exact fields_solid
      (λ u all d s e. field_end_meant all s e))
      (I.specs_solid 0)
      (λ u x d s e. more_specifier x s (specifier_dtor s e))
      (λ u x d s e. I.clear 0 u x d of.Field s e)
      (λ u x y d d' s e. absurd (seq_solid (g.field_declarators types room gi) (λ all. phrase.◌>>=◌ (phrase.one (g.field_end types (pred room) all.end)) (λ _. phrase.pure (record { specifiers = x.tree; declarators = all.items }))) fields_solid y d'))

  field_solid : (x : FieldDeclaration) → (g.field types room gi).reads [] x → ⊥
  field_solid x d = I.specs_solid 0 d.2 (subst (λ (u : List Sight). (gi.specs 0).reads u d.2) (nil_left d.0 d.1 (sym d.3)) d.4)

  field_list_exact : Exact (r.field_list types room ri) (g.field_list types room gi) (begins_specs types) (I.bad_specs 0) (λ xs s. not (is_mark p.CloseBrace s))
  unfolding r.field_list
  field_list_exact =
      let rest : (xs : List FieldDeclaration) → Exact (parse.folded (λ _ s. not (is_mark p.CloseBrace s)) g.plus_field (λ _. r.field types room ri) xs) (phrase.folded g.plus_field (λ _. g.field types room gi) xs) (begins_specs types) (I.bad_specs 0) (λ xs s. not (is_mark p.CloseBrace s)) =
      λ xs. repeat (λ _ s. not (is_mark p.CloseBrace s)) g.plus_field (λ xs s. not (is_mark p.CloseBrace s)) (λ _. field_exact) (λ _. field_solid)
      (λ ys s e. not_false (is_mark p.CloseBrace s) (specs_brace types s e)) (λ ys s e. not_false (is_mark p.CloseBrace s) (I.brace s e))
      (λ ys u y d s e. refl) (λ ys s e. e) (λ ys u y d s e. refl) xs in
      seq field_exact (λ x. rest (x ∷ [])) field_solid (λ u x d s e. refl) (λ u x d s e. refl) (λ u x y d d' s e. refl)

  fields_exact : Exact (r.fields types room ri) (g.fields types room gi) (λ s. true) (λ s. true) (λ x s. false)
  unfolding r.fields
  fields_exact =
      closed_any (λ _. g.brace_end) (λ (xs : List FieldDeclaration). xs) (λ y s. false) field_list_exact (λ u xs d s e. rw (closing_place (is_mark p.CloseBrace s) s e) refl)

  -- "struct" name, and its fields
  after_tag_exact : (count : ℕ) (x : Tag) → Exact (r.after_tag types room ri count x) (g.after_tag types room gi count x) (λ s. true) (λ s. true) (λ y s. false)
  unfolding r.after_tag
  after_tag_exact count (tag.Alone name) = loose (nothing (b.Struct name) (λ y s. false))
  after_tag_exact count (tag.WithFields name) = loose (token_then (g.fields_token types room count) (λ _. made (λ all. b.StructWith name all) (λ y s. false) fields_exact (λ u x d s e. refl)))

  more_base : ReadBase → Sight → Bool
  more_base x s = extends x.words s.token.kind

  after_base_exact : (count : ℕ) (x : BaseStart) → Exact (r.after_base_start types room ri count x) (g.after_base_start types room gi count x) (λ s. true) (λ s. true) more_base
  unfolding r.after_base_start more_base
  after_base_exact count start.Void = loose (nothing (record { tree = b.Void; words = None }) more_base)
  after_base_exact count (start.Typedef name) = loose (nothing (record { tree = b.Typedef name; words = None }) more_base)
  after_base_exact count (start.Word first) = made (λ words. record { tree = b.Int (g.kind_of_words words); words = Some words }) more_base (int_words_exact room count first) (λ u x d s e. e)
  after_base_exact count start.Struct = loose (token_then (g.tag_token types room count) (λ x. made (λ tree. record { tree = tree; words = None }) more_base (after_tag_exact count x) (λ u y d s e. refl)))

  -- base
  base_exact : (count : ℕ) → Exact (r.base types room ri count) (g.base types room gi count) (λ s. is_taken (g.base_token types room count s)) (λ s. is_blamed (g.base_token types room count s)) more_base
  unfolding r.base
  base_exact count = token_then (g.base_token types room count) (after_base_exact count)

  -- what specifiers say of their words
  words_of : (x : ReadBase) (before : Option Place) → (g.specifiers_of x before None).words ≡ x.words
  words_of x None = refl
  words_of x (Some place) = refl

  behind_exact : (count : ℕ) (before : Option Place) (x : ReadBase)
      → Exact (parse.◌>>=◌ (r.consts room count None) (λ behind. parse.pure (g.specifiers_of x before behind))) (phrase.◌>>=◌ (g.consts room count None) (λ behind. phrase.pure (g.specifiers_of x before behind))) (is_word w.Const) (is_word w.Const) more_specs
  behind_exact count before x =
      made (λ behind. g.specifiers_of x before behind) more_specs (consts_exact room count None)
      (λ u behind d s e. or_fails_left (is_word w.Const s) (extends (g.specifiers_of x before behind).words s.token.kind) e)

  const_word : (x : Option IntWords) (s : Sight) → is_word w.Const s ≡ true → extends x s.token.kind ≡ false
  const_word x s e = rw (word_kind w.Const s.token.kind e) (const_extends x)
    where
      const_extends : (x : Option IntWords) → extends x (k.Keyword w.Const) ≡ false
      const_extends None = refl
      const_extends (Some words) = refl

  unfoldable pub bad_specs : ℕ → Sight → Bool
  bad_specs count s = is_word w.Const s || is_blamed (g.base_token types room count s)

  based_exact : (count : ℕ) (before : Option Place)
      → Exact (parse.◌>>=◌ (r.base types room ri count) (λ x. parse.◌>>=◌ (r.consts room count None) (λ behind. parse.pure (g.specifiers_of x before behind)))) (phrase.◌>>=◌ (g.base types room gi count) (λ x. phrase.◌>>=◌ (g.consts room count None) (λ behind. phrase.pure (g.specifiers_of x before behind)))) (λ s. is_taken (g.base_token types room count s)) (λ s. is_blamed (g.base_token types room count s)) more_specs
  unfolding more_base
  based_exact count before =
      seq (base_exact count) (behind_exact count before)
      (λ x d. seq_solid (phrase.one (g.base_token types room count)) (g.after_base_start types room gi count) (token_solid (g.base_token types room count)) x d)
      (λ u x d s e. const_word x.words s e) (λ u x d s e. const_word x.words s e)
      (λ u x y d d' s e.
      let none : d'.2 ≡ None = folded_nil g.keep_first (λ _. (phrase.one (g.const_token room count)).reads) (λ _ z q. token_solid (g.const_token room count) z q) None d'.0 d'.2 d'.4 (nil_left d'.0 d'.1 (sym d'.3)) in
      let same : y ≡ g.specifiers_of x before None = d'.5.1 ∙ ap (λ (z : Option Place). g.specifiers_of x before z) none in
      let f = or_fails_right (is_word w.Const s) (extends y.words s.token.kind) e in
      subst (λ (z : Option IntWords). extends z s.token.kind ≡ false) (ap (λ (z : ReadSpecifiers). z.words) same ∙ words_of x before) f)

  -- specs
  pub specs_exact : (count : ℕ) → Exact (r.specs types room ri count) (g.specs types room gi count) (begins_specs types) (bad_specs count) more_specs
  unfolding r.specs bad_specs
  specs_exact count =
      seq_open (consts_exact room count None) (based_exact count)
      (λ u x d s e. base_const types room count s (meant_taken (g.base_token types room count s) e))
      (λ u x d s e. base_const types room count s (meant_blamed (g.base_token types room count s) e))
      (λ u x y d d' s e. or_fails_left (is_word w.Const s) (extends y.words s.token.kind) e)
      (begins_specs types) (bad_specs count)
      (λ s e. or_left (is_word w.Const s) _ e) (λ s e. or_left (is_word w.Const s) (is_blamed (g.base_token types room count s)) e)
      (λ x d s e. base_begins types room count s e) (λ x d s e. or_right (is_word w.Const s) (is_blamed (g.base_token types room count s)) e)

  pub bad_specs_brace : (s : Sight) → bad_specs 0 s ≡ true → is_mark p.CloseBrace s ≡ false
  unfolding bad_specs
  bad_specs_brace s e =
      or_cases (is_word w.Const s) (is_blamed (g.base_token types room 0 s)) e
      (λ c. ap (is_mark_kind p.CloseBrace) (word_kind w.Const s.token.kind c)) (λ c. base_brace types room s c)

  base_solid : (count : ℕ) (x : ReadBase) → (g.base types room gi count).reads [] x → ⊥
  base_solid count x d = seq_solid (phrase.one (g.base_token types room count)) (g.after_base_start types room gi count) (token_solid (g.base_token types room count)) x d

  pub specs_solid : (count : ℕ) (x : ReadSpecifiers) → (g.specs types room gi count).reads [] x → ⊥
  specs_solid count x d =
      seq_solid_right (g.consts room count None) (λ before. phrase.◌>>=◌ (g.base types room gi count) (λ x. phrase.◌>>=◌ (g.consts room count None) (λ behind. phrase.pure (g.specifiers_of x before behind))))
      (λ before y e. seq_solid (g.base types room gi count) (λ x. phrase.◌>>=◌ (g.consts room count None) (λ behind. phrase.pure (g.specifiers_of x before behind))) (base_solid count) y e) x d

  -- {"*" {"const"}}
  star_exact : (count : ℕ) → Exact (r.star room count) (g.star types room gi count) (λ s. is_taken (g.star_token room count s)) (λ s. is_blamed (g.star_token room count s)) (λ x s. is_word w.Const s)
  unfolding r.star
  star_exact count = token_then (g.star_token room count) (λ place. made (λ constant. record { place = place; constant = constant }) (λ x s. is_word w.Const s) (consts_exact room (count + 1) None) (λ u x d s e. e))

  unfoldable pub more_stars : List Star → Sight → Bool
  more_stars xs s = is_mark p.Star s || is_word w.Const s

  pub stars_exact : (count : ℕ) → Exact (r.stars room count) (g.stars types room gi count) (is_mark p.Star) (is_mark p.Star) more_stars
  unfolding r.stars more_stars
  stars_exact count =
      let meant : (xs : List Star) (s : Sight) → is_meant (g.star_token room (count + length xs) s) ≡ true → is_mark p.Star s ≡ true = λ xs s e. offered_place room (count + length xs) (is_mark p.Star s) s e in
      wider
      (repeat (λ _. is_mark p.Star) g.plus_star (λ xs s. is_mark p.Star s || is_word w.Const s) (λ all. star_exact (count + length all))
      (λ all x d. seq_solid (phrase.one (g.star_token room (count + length all))) (λ place. phrase.◌>>=◌ (g.consts room (count + length all + 1) None) (λ constant. phrase.pure (record { place = place; constant = constant }))) (token_solid (g.star_token room (count + length all))) x d)
      (λ xs s e. meant xs s (meant_taken (g.star_token room (count + length xs) s) e)) (λ xs s e. meant xs s (meant_blamed (g.star_token room (count + length xs) s) e))
      (λ xs u y d s e. ap (is_word_kind w.Const) (mark_kind p.Star s.token.kind e))
      (λ xs s e. or_fails_left (is_mark p.Star s) (is_word w.Const s) e)
      (λ xs u y d s e. or_fails_right (is_mark p.Star s) (is_word w.Const s) e) [])
      (is_mark p.Star) (is_mark p.Star) (λ xs s. is_mark p.Star s || is_word w.Const s)
      (λ s e. meant [] s (meant_taken (g.star_token room (count + 0) s) e)) (λ s e. meant [] s (meant_blamed (g.star_token room (count + 0) s) e)) (λ x s e. e)
