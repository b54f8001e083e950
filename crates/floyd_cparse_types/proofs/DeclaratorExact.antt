-- The readers of declarators are exact for their grammar, and so are those of types at each depth.
use Rattle.std.proofs.Common.{◌≡◌, ℕ, zero, suc, ◌+◌, pred, Bool, true, false, not, ◌&&◌, ◌||◌, inl, inr, Result, Err, List, [], length, refl, sym, ◌∙◌, ap, subst, true≢false}
use Rattle.std.specs.Prelude.{Some, None}
use Rattle.floyd_text.specs.declared.place.Place.{Place}
use Rattle.floyd_lex.specs.declared.kinds.TokenKind.{TokenKind}
use Rattle.floyd_lex.specs.declared.kinds.TokenKind.TheVariants as k
use Rattle.floyd_lex.specs.declared.kinds.Punctuator.TheVariants as p
use Rattle.floyd_lex.specs.declared.kinds.Keyword.TheVariants as w
use Rattle.floyd_grammar.specs.Phrase.{Phrase}
use Rattle.floyd_grammar.specs.Phrase as phrase
use Rattle.floyd_grammar.specs.ParseClauses.{Parser, is_taken, is_blamed, is_meant}
use Rattle.floyd_grammar.specs.ParseClauses as parse
use Rattle.floyd_grammar.proofs.Exact.{Exact, nil_left, nil_right, token, token_solid, nothing}
use Rattle.floyd_grammar.proofs.Seq.{seq, seq_open, seq_solid, token_then, made}
use Rattle.floyd_grammar.proofs.Either.{either, either_sure, or_left, or_right}
use Rattle.floyd_grammar.proofs.Wider.{wider, loose}
use Rattle.floyd_grammar.proofs.Repeat.{repeat, folded_nil}
use Rattle.floyd_grammar.proofs.Lists.{separated, closed, closed_any}
use Rattle.floyd_cparse_types.specs.declared.values.Declared.{Declared}
use Rattle.floyd_cparse_types.specs.declared.values.Declared.TheVariants as of
use Rattle.floyd_cparse_types.specs.declared.values.DeclaratorEnd.{DeclaratorEnd}
use Rattle.floyd_cparse_types.specs.declared.values.ReadDeclarator.{ReadDeclarator}
use Rattle.floyd_cparse_types.specs.declared.values.ReadSpecifiers.{ReadSpecifiers}
use Rattle.floyd_cparse_trees.specs.declared.types.Star.{Star}
use Rattle.floyd_cparse_tokens.specs.Tokens.{without_room, Sight, Types, is_mark, is_word, is_name, is_mark_kind, is_word_kind, is_name_kind}
use Rattle.floyd_cparse_types.specs.Types as g
use Rattle.floyd_cparse_types.specs.Types.{TypePhrases, extends, with_word, goes_on_declarator, is_named}
use Rattle.floyd_cparse_types.specs.TypeClauses as r
use Rattle.floyd_cparse_types.specs.TypeClauses.{TypeReaders}
use Rattle.floyd_cparse_tokens.proofs.TokenLemmas.{and_left, apart, or_cases, or_fails_left, or_fails_right, or_fails, not_true, not_false, mark_kind, there_place, closing_taken, closing_unless, closing_unless_either}
use Rattle.floyd_cparse_types.proofs.TypeSets.{is_specifier, begins_specs, more_specs, begins_dtor, more_dtor, more_core, specifier_dtor, more_specifier, mark_ends}
use Rattle.floyd_cparse_types.proofs.TypeSets.{unpreceded, unspecified, is_specifier_kind, begins_type_kind, begins_by_kind, core_begins, core_taken, core_blamed, core_unprecedes, absent_ends, suffix_core, suffix_goes_on, core_goes_on, suffix_meant, bare_specifier, bare_precedes}
use Rattle.floyd_cparse_types.proofs.TypeExact.{InnerExact, meant_taken, meant_blamed, offered_place, closing_place, specs_exact, specs_solid, bad_specs, bad_specs_brace, stars_exact, more_stars}
use Rattle.floyd_cparse_trees.specs.declared.types.Declarator.TheVariants as d
use Rattle.floyd_cparse_types.specs.declared.values.CoreStart.{CoreStart}
use Rattle.floyd_cparse_types.specs.declared.values.CoreStart.TheVariants as core_start
use Rattle.floyd_cparse_types.specs.declared.values.Parameters.{Parameters}
use Rattle.floyd_cparse_types.specs.declared.values.SizeStart.{SizeStart}
use Rattle.floyd_cparse_types.specs.declared.values.SizeStart.TheVariants as size_start
use Rattle.floyd_cparse_types.specs.declared.values.SuffixStart.{SuffixStart}
use Rattle.floyd_cparse_types.specs.declared.values.SuffixStart.TheVariants as suffix_start
use Rattle.floyd_cparse_trees.specs.declared.types.Star.{Star}

module _ (types : Types) (room : ℕ) (ri : TypeReaders) (gi : TypePhrases) (I : InnerExact types ri gi) where
  more_parameter : Parameters → Sight → Bool
  more_parameter xs s = goes_on_declarator of.Parameter xs.end s

  -- specs pdtor
  parameter_exact : (count : ℕ) → Exact (r.parameter types room ri count) (g.parameter types room gi count) (begins_specs types) (I.bad_specs count) more_parameter
  unfolding r.parameter more_parameter
  parameter_exact count =
      seq (I.specs count)
      (λ x. made (λ y. g.one_parameter x y) (λ (xs : Parameters) s. goes_on_declarator of.Parameter xs.end s) (I.dtor of.Parameter count) (λ u y d s e. e))
      (I.specs_solid count)
      (λ u x d s e. more_specifier x s (specifier_dtor s e))
      (λ u x d s e. I.clear count u x d of.Parameter s e)
      (λ u x y d d' s e.
      let empty = subst (λ (z : List Sight). (gi.dtor of.Parameter count).reads z d'.2) (nil_left d'.0 d'.1 (sym d'.3)) d'.4 in
      let end = I.bare of.Parameter count d'.2 empty in
      more_specifier x s (bare_specifier of.Parameter d'.2.end s end.0 end.1 (subst (λ (z : Parameters). goes_on_declarator of.Parameter z.end s ≡ false) d'.5.1 e)))

  parameter_solid : (count : ℕ) (x : Parameters) → (g.parameter types room gi count).reads [] x → ⊥
  parameter_solid count x d = seq_solid (gi.specs count) (λ x. phrase.◌>>=◌ (gi.dtor of.Parameter count) (λ y. phrase.pure (g.one_parameter x y))) (I.specs_solid count) x d

  more_parameters : Parameters → Sight → Bool
  more_parameters xs s = is_mark p.Comma s || goes_on_declarator of.Parameter xs.end s

  -- specs pdtor {"," specs pdtor}
  parameters_exact : (count : ℕ) → Exact (r.parameters types room ri count) (g.parameters types room gi count) (begins_specs types) (I.bad_specs count) more_parameters
  unfolding r.parameters more_parameter more_parameters
  parameters_exact count =
      separated (λ (all : Parameters). g.parameter_comma (pred room) all.end) (λ _. is_mark p.Comma) g.plus_parameter (λ x. x) (λ (xs : Parameters) s. is_mark p.Comma s || goes_on_declarator of.Parameter xs.end s)
      (parameter_exact count) (λ all. parameter_exact all.end.count) (parameter_solid count)
      (λ xs s e. offered_place (pred room) (xs.end.count + xs.end.stars) (is_mark p.Comma s) s e)
      (λ u x d s e. mark_ends p.Comma of.Parameter x.end s refl e) (λ xs u y d s e. mark_ends p.Comma of.Parameter y.end s refl e)
      (λ xs s e. or_fails_left (is_mark p.Comma s) (goes_on_declarator of.Parameter xs.end s) e)
      (λ u x d s e. or_fails_right (is_mark p.Comma s) (goes_on_declarator of.Parameter x.end s) e)
      (λ xs u y d s e. or_fails_right (is_mark p.Comma s) (goes_on_declarator of.Parameter y.end s) e)

  parameters_solid : (count : ℕ) (x : Parameters) → (g.parameters types room gi count).reads [] x → ⊥
  parameters_solid count x d = seq_solid (g.parameter types room gi count) (λ first. phrase.folded g.plus_parameter (λ all. phrase.◌>>◌ (phrase.one (g.parameter_comma (pred room) all.end)) (g.parameter types room gi all.end.count)) first) (parameter_solid count) x d

  parameters_end_meant : (xs : Parameters) (s : Sight) → is_meant (g.parameters_end types (pred room) xs.end s) ≡ true → more_parameters xs s ≡ false
  unfolding more_parameters
  parameters_end_meant xs s e =
      or_cases (is_taken (g.parameters_end types (pred room) xs.end s)) (is_blamed (g.parameters_end types (pred room) xs.end s)) e
      (λ t.
      let close = there_place (is_mark p.CloseParen s) s (closing_taken _ (g.close_token s) t) in
      or_fails (is_mark p.Comma s) (goes_on_declarator of.Parameter xs.end s)
      (ap (is_mark_kind p.Comma) (mark_kind p.CloseParen s.token.kind close)) (mark_ends p.CloseParen of.Parameter xs.end s refl close))
      (λ bl.
      let d = closing_unless_either (is_mark p.Comma s) (goes_on_declarator of.Parameter xs.end s) _ (g.close_token s) bl in
      or_fails (is_mark p.Comma s) (goes_on_declarator of.Parameter xs.end s) d.0 d.1)

  parameter_list_exact : (count : ℕ) → Exact (r.parameter_list types room ri count) (g.parameter_list types room gi count) (begins_specs types) (I.bad_specs count) (λ x s. false)
  unfolding r.parameter_list
  parameter_list_exact count =
      closed (λ (all : Parameters). g.parameters_end types (pred room) all.end) (λ all. record all { items = g.without_void all.items }) (λ y s. false) (parameters_exact count) (parameters_solid count)
      (λ u xs d s e. parameters_end_meant xs s e)

  empty_parameters_exact : (count : ℕ) → Exact (r.empty_parameters types room ri count) (g.empty_parameters types room gi count) (λ s. is_taken (g.no_parameters_end s)) (λ s. is_blamed (g.no_parameters_end s)) (λ x s. false)
  unfolding r.empty_parameters
  empty_parameters_exact count = token_then g.no_parameters_end (λ _. nothing (g.no_parameters count) (λ x s. false))

  type_close_kinds : (kind : TokenKind) → (begins_type_kind kind && is_mark_kind p.CloseParen kind) ≡ false
  type_close_kinds (k.Punctuator p.CloseParen) = refl
  type_close_kinds (k.Keyword w.Const) = refl
  type_close_kinds kind = refl

  -- [params] ")"
  params_exact : (count : ℕ) → Exact (r.params types room ri count) (g.params types room gi count) (λ s. true) (λ s. true) (λ x s. false)
  unfolding r.params
  params_exact count =
      loose
      (either_sure (is_mark p.CloseParen) (empty_parameters_exact count) (parameter_list_exact count)
      (λ x d. seq_solid (phrase.one g.no_parameters_end) (λ _. phrase.pure (g.no_parameters count)) (token_solid g.no_parameters_end) x d)
      (λ s e. closing_place (is_mark p.CloseParen s) s (meant_taken (g.no_parameters_end s) e)) (λ s e. closing_place (is_mark p.CloseParen s) s (meant_blamed (g.no_parameters_end s) e))
      (λ s e. inl (inr (s, s.token.place, refl, rw e refl)))
      (λ s e. apart (begins_type_kind s.token.kind) (is_mark p.CloseParen s) (type_close_kinds s.token.kind) (begins_by_kind types s e))
      (λ x d. absurd (seq_solid (g.parameters types room gi count) (λ all. phrase.◌>>=◌ (phrase.one (g.parameters_end types (pred room) all.end)) (λ _. phrase.pure (record all { items = g.without_void all.items }))) (parameters_solid count) x d)))

  inner_end_meant : (declared : Declared) (x : ReadDeclarator) (s : Sight) → is_meant (g.inner_end types declared (pred room) x.end s) ≡ true → more_dtor declared x s ≡ false
  inner_end_meant declared x s e =
      or_cases (is_taken (g.inner_end types declared (pred room) x.end s)) (is_blamed (g.inner_end types declared (pred room) x.end s)) e
      (λ t. mark_ends p.CloseParen declared x.end s refl (there_place (is_mark p.CloseParen s) s (closing_taken _ (g.close_token s) t)))
      (λ bl. closing_unless (goes_on_declarator declared x.end s) _ (g.close_token s) bl)

  -- core
  after_core_exact : (declared : Declared) (count : ℕ) (x : CoreStart) → Exact (r.after_core types room ri declared count x) (g.after_core types room gi declared count x) (λ s. true) (λ s. true) (more_core types declared)
  unfolding r.after_core
  after_core_exact declared count (core_start.Name name) = loose (nothing (g.named name count) (more_core types declared))
  after_core_exact declared count (core_start.Open place) =
      closed_any (λ (x : ReadDeclarator). g.inner_end types declared (pred room) x.end) (λ x. g.with_suffix x (d.Parenthesised place x.tree) x.end.count) (more_core types declared) (I.dtor declared count)
      (λ u x d s e. inner_end_meant declared x s e)

  first_core : Declared → ℕ → ℕ → Sight → Bool
  first_core declared count run s = is_taken (g.core_token types declared room count run s)

  bad_core : Declared → ℕ → ℕ → Sight → Bool
  bad_core declared count run s = is_blamed (g.core_token types declared room count run s)

  present_exact : (declared : Declared) (count run : ℕ) → Exact (r.present types room ri declared count run) (g.present types room gi declared count run) (first_core declared count run) (bad_core declared count run) (more_core types declared)
  unfolding r.present first_core bad_core
  present_exact declared count run = token_then (g.core_token types declared room count run) (after_core_exact declared count)

  present_solid : (declared : Declared) (count run : ℕ) (x : ReadDeclarator) → (g.present types room gi declared count run).reads [] x → ⊥
  present_solid declared count run x d = seq_solid (phrase.one (g.core_token types declared room count run)) (g.after_core types room gi declared count) (token_solid (g.core_token types declared room count run)) x d

  core_by_exact : (named : Bool) (declared : Declared) → is_named declared ≡ named → (count run : ℕ) → Exact (r.core_by types room ri named declared count run) (g.core_by types room gi named declared count run) (first_core declared count run) (bad_core declared count run) (more_core types declared)
  unfolding r.core_by first_core bad_core
  core_by_exact true declared n count run = present_exact declared count run
  core_by_exact false declared n count run =
      wider
      (either (r.begins_core types declared) (present_exact declared count run) (nothing (g.absent count run) (more_core types declared))
      (present_solid declared count run)
      (λ s e. core_blamed types declared room count run s n (meant_taken (g.core_token types declared room count run s) e))
      (λ s e. core_blamed types declared room count run s n (meant_blamed (g.core_token types declared room count run s) e))
      (λ s e. absurd (true≢false (sym e))) (λ s e. absurd (true≢false (sym e)))
      (λ x d s e. absent_ends types declared count run s n (subst (λ (z : ReadDeclarator). more_core types declared z s ≡ false) d.1 e)))
      (first_core declared count run) (bad_core declared count run) (more_core types declared)
      (λ s e. or_cases (first_core declared count run s) false e (λ h. h) (λ h. absurd (true≢false (sym h))))
      (λ s e. or_cases (bad_core declared count run s) false e (λ h. h) (λ h. absurd (true≢false (sym h))))
      (λ x s e. e)

  core_exact : (declared : Declared) (count run : ℕ) → Exact (r.core types room ri declared count run) (g.core types room gi declared count run) (first_core declared count run) (bad_core declared count run) (more_core types declared)
  unfolding r.core
  core_exact declared count run = core_by_exact (is_named declared) declared refl count run

  -- of nothing no core is read but an absent one, where none need stand there
  core_by_nil : (named : Bool) (declared : Declared) (count run : ℕ) (x : ReadDeclarator) → (g.core_by types room gi named declared count run).reads [] x → (named ≡ false) × (x ≡ g.absent count run)
  core_by_nil true declared count run x d = absurd (present_solid declared count run x d)
  core_by_nil false declared count run x (inl d) = absurd (present_solid declared count run x d)
  core_by_nil false declared count run x (inr d) = (refl, d.1)

  -- "[" [literal] "]" and "(" [params] ")"
  after_size_exact : (x : ReadDeclarator) (place : Place) (z : SizeStart) → Exact (r.after_size types room ri x place z) (g.after_size types room gi x place z) (λ s. true) (λ s. true) (λ y s. false)
  unfolding r.after_size
  after_size_exact x place size_start.End = loose (nothing (g.with_suffix x (d.Array x.tree place None) (x.end.count + 1)) (λ y s. false))
  after_size_exact x place (size_start.Size literal) = loose (token_then (g.size_end types (pred room) (x.end.count + 1)) (λ _. nothing (g.with_suffix x (d.Array x.tree place (Some literal)) (x.end.count + 1)) (λ y s. false)))

  after_suffix_exact : (x : ReadDeclarator) (z : SuffixStart) → Exact (r.after_suffix types room ri x z) (g.after_suffix types room gi x z) (λ s. true) (λ s. true) (λ y s. false)
  unfolding r.after_suffix
  after_suffix_exact x (suffix_start.Array place) = loose (token_then (g.size_token types (pred room) (x.end.count + 1)) (after_size_exact x place))
  after_suffix_exact x (suffix_start.Function place) = made (λ all. g.with_suffix x (d.Function x.tree place all.items) all.end.count) (λ y s. false) (params_exact (x.end.count + 1)) (λ u y d s e. refl)

  suffix_exact : (declared : Declared) (x : ReadDeclarator) → Exact (r.suffix types room ri declared x) (g.suffix types room gi declared x) (λ s. is_taken (g.suffix_token types declared room x.end s)) (λ s. is_blamed (g.suffix_token types declared room x.end s)) (λ y s. false)
  unfolding r.suffix
  suffix_exact declared x = token_then (g.suffix_token types declared room x.end) (after_suffix_exact x)

  suffix_solid : (declared : Declared) (x y : ReadDeclarator) → (g.suffix types room gi declared x).reads [] y → ⊥
  suffix_solid declared x y d = seq_solid (phrase.one (g.suffix_token types declared room x.end)) (g.after_suffix types room gi x) (token_solid (g.suffix_token types declared room x.end)) y d

  suffixes_exact : (declared : Declared) (x : ReadDeclarator) → Exact (parse.folded (r.begins_suffix types) g.latest (r.suffix types room ri declared) x) (phrase.folded g.latest (g.suffix types room gi declared) x) (r.begins_suffix types x) (r.begins_suffix types x) (more_dtor declared)
  suffixes_exact declared x =
      wider
      (repeat (r.begins_suffix types) g.latest (more_dtor declared) (suffix_exact declared) (suffix_solid declared)
      (λ y s e. suffix_meant types declared room y s (meant_taken (g.suffix_token types declared room y.end s) e)) (λ y s e. suffix_meant types declared room y s (meant_blamed (g.suffix_token types declared room y.end s) e))
      (λ y u z d s e. refl) (λ y s e. suffix_goes_on types declared y s e) (λ y u z d s e. refl) x)
      (r.begins_suffix types x) (r.begins_suffix types x) (more_dtor declared)
      (λ s e. suffix_meant types declared room x s (meant_taken (g.suffix_token types declared room x.end s) e)) (λ s e. suffix_meant types declared room x s (meant_blamed (g.suffix_token types declared room x.end s) e)) (λ y s e. e)

  suffixes_nil : (declared : Declared) (x y : ReadDeclarator) → (phrase.folded g.latest (g.suffix types room gi declared) x).reads [] y → y ≡ x
  suffixes_nil declared x y d = folded_nil g.latest (λ z. (g.suffix types room gi declared z).reads) (suffix_solid declared) x [] y d refl

  -- what stands behind the stars
  abbrev behind : List Star → Declared → ReadDeclarator → Parser Sight ReadDeclarator
  behind stars declared x = parse.◌>>=◌ (parse.folded (r.begins_suffix types) g.latest (r.suffix types room ri declared) x) (λ (all : ReadDeclarator). parse.pure (record all { tree = g.with_stars stars all.tree }))

  abbrev gbehind : List Star → Declared → ReadDeclarator → Phrase Sight ReadDeclarator
  gbehind stars declared x = phrase.◌>>=◌ (phrase.folded g.latest (g.suffix types room gi declared) x) (λ (all : ReadDeclarator). phrase.pure (record all { tree = g.with_stars stars all.tree }))

  abbrev rest : ℕ → Declared → List Star → Parser Sight ReadDeclarator
  rest count declared stars = parse.◌>>=◌ (r.core types room ri declared count (length stars)) (behind stars declared)

  abbrev grest : ℕ → Declared → List Star → Phrase Sight ReadDeclarator
  grest count declared stars = phrase.◌>>=◌ (g.core types room gi declared count (length stars)) (gbehind stars declared)

  behind_exact : (stars : List Star) (declared : Declared) (x : ReadDeclarator) → Exact (behind stars declared x) (gbehind stars declared x) (r.begins_suffix types x) (r.begins_suffix types x) (more_dtor declared)
  behind_exact stars declared x = made (λ (all : ReadDeclarator). record all { tree = g.with_stars stars all.tree }) (more_dtor declared) (suffixes_exact declared x) (λ u y d s e. e)

  -- of nothing it is read only where none need stand there, and it is bare
  rest_nil : (count : ℕ) (declared : Declared) (stars : List Star) (y : ReadDeclarator) → (grest count declared stars).reads [] y → (is_named declared ≡ false) × (y.end ≡ (g.absent count (length stars)).end)
  rest_nil count declared stars y d =
      let core = core_by_nil (is_named declared) declared count (length stars) d.2 (subst (λ (z : List Sight). (g.core types room gi declared count (length stars)).reads z d.2) (nil_left d.0 d.1 (sym d.3)) d.4) in
      let e = subst (λ (z : List Sight). (gbehind stars declared d.2).reads z y) (nil_right d.0 d.1 (sym d.3)) d.5 in
      let same = suffixes_nil declared d.2 e.2 (subst (λ (z : List Sight). (phrase.folded g.latest (g.suffix types room gi declared) d.2).reads z e.2) (nil_left e.0 e.1 (sym e.3)) e.4) in
      (core.0, ap (λ (z : ReadDeclarator). z.end) e.5.1 ∙ ap (λ (z : ReadDeclarator). z.end) (same ∙ core.1))

  begins_rest : ℕ → Declared → List Star → Sight → Bool
  begins_rest count declared stars s = is_mark p.OpenParen s || is_name s || is_mark p.OpenBracket s

  bad_rest : ℕ → Declared → List Star → Sight → Bool
  bad_rest count declared stars s = bad_core declared count (length stars) s || is_mark p.OpenParen s || is_mark p.OpenBracket s

  rest_exact : (count : ℕ) (declared : Declared) (stars : List Star) → Exact (rest count declared stars) (grest count declared stars) (begins_rest count declared stars) (bad_rest count declared stars) (more_dtor declared)
  unfolding first_core bad_core begins_rest bad_rest
  rest_exact count declared stars =
      seq_open (core_exact declared count (length stars)) (behind_exact stars declared)
      (λ u x d s e. suffix_core types declared x s e) (λ u x d s e. suffix_core types declared x s e)
      (λ u x y d d' s e.
      let same = suffixes_nil declared x d'.2 (subst (λ (z : List Sight). (phrase.folded g.latest (g.suffix types room gi declared) x).reads z d'.2) (nil_left d'.0 d'.1 (sym d'.3)) d'.4) in
      core_goes_on types declared x s (subst (λ (z : ReadDeclarator). goes_on_declarator declared z.end s ≡ false) same (subst (λ (z : ReadDeclarator). goes_on_declarator declared z.end s ≡ false) d'.5.1 e)))
      (begins_rest count declared stars) (bad_rest count declared stars)
      (λ s e. or_left (is_mark p.OpenParen s || is_name s) (is_mark p.OpenBracket s) (core_begins types declared s (core_taken types declared room count (length stars) s e)))
      (λ s e. or_left (bad_core declared count (length stars) s || is_mark p.OpenParen s) (is_mark p.OpenBracket s) (or_left (bad_core declared count (length stars) s) (is_mark p.OpenParen s) e))
      (λ x d s e. or_cases (is_mark p.OpenBracket s) _ e (λ h. or_right (is_mark p.OpenParen s || is_name s) (is_mark p.OpenBracket s) h) (λ h. or_left (is_mark p.OpenParen s || is_name s) (is_mark p.OpenBracket s) (or_left (is_mark p.OpenParen s) (is_name s) (and_left (is_mark p.OpenParen s) _ h))))
      (λ x d s e. or_cases (is_mark p.OpenBracket s) _ e (λ h. or_right (bad_core declared count (length stars) s || is_mark p.OpenParen s) (is_mark p.OpenBracket s) h) (λ h. or_left (bad_core declared count (length stars) s || is_mark p.OpenParen s) (is_mark p.OpenBracket s) (or_right (bad_core declared count (length stars) s) (is_mark p.OpenParen s) (and_left (is_mark p.OpenParen s) _ h))))

  rest_star_kinds : (kind : TokenKind) → ((is_mark_kind p.OpenParen kind || is_name_kind kind || is_mark_kind p.OpenBracket kind) && (is_mark_kind p.Star kind || is_word_kind w.Const kind)) ≡ false
  rest_star_kinds (k.Punctuator p.Star) = refl
  rest_star_kinds (k.Keyword w.Const) = refl
  rest_star_kinds kind = refl

  rest_clear : (count : ℕ) (declared : Declared) (stars : List Star) (s : Sight) → bad_rest count declared stars s ≡ true → (is_mark p.Star s || is_word w.Const s) ≡ false
  unfolding bad_rest bad_core
  rest_clear count declared stars s e =
      or_cases (bad_core declared count (length stars) s || is_mark p.OpenParen s) (is_mark p.OpenBracket s) e
      (λ h. or_cases (bad_core declared count (length stars) s) (is_mark p.OpenParen s) h
      (λ b. unpreceded (length stars) s (core_unprecedes types declared room count (length stars) s (meant_blamed (g.core_token types declared room count (length stars) s) b)))
      (λ b. ap (λ (z : TokenKind). is_mark_kind p.Star z || is_word_kind w.Const z) (mark_kind p.OpenParen s.token.kind b)))
      (λ b. ap (λ (z : TokenKind). is_mark_kind p.Star z || is_word_kind w.Const z) (mark_kind p.OpenBracket s.token.kind b))

  rest_unspecified : (count : ℕ) (declared : Declared) (stars : List Star) (s : Sight) → length stars ≡ 0 → bad_rest count declared stars s ≡ true → not (is_specifier s) ≡ true
  unfolding bad_rest bad_core
  rest_unspecified count declared stars s n e =
      or_cases (bad_core declared count (length stars) s || is_mark p.OpenParen s) (is_mark p.OpenBracket s) e
      (λ h. or_cases (bad_core declared count (length stars) s) (is_mark p.OpenParen s) h
      (λ b. not_false (is_specifier s) (unspecified (length stars) s n (core_unprecedes types declared room count (length stars) s (meant_blamed (g.core_token types declared room count (length stars) s) b))))
      (λ b. ap (λ (z : TokenKind). not (is_specifier_kind z)) (mark_kind p.OpenParen s.token.kind b)))
      (λ b. ap (λ (z : TokenKind). not (is_specifier_kind z)) (mark_kind p.OpenBracket s.token.kind b))

  stars_nil : (count : ℕ) (stars : List Star) → (g.stars types room gi count).reads [] stars → stars ≡ []
  stars_nil count stars d =
      folded_nil g.plus_star (λ all. (g.star types room gi (count + length all)).reads)
      (λ all x e. seq_solid (phrase.one (g.star_token room (count + length all))) (λ place. phrase.◌>>=◌ (g.consts room (count + length all + 1) None) (λ constant. phrase.pure (record { place = place; constant = constant }))) (token_solid (g.star_token room (count + length all))) x e)
      [] [] stars d refl

  unfoldable pub bad_dtor : Declared → ℕ → Sight → Bool
  bad_dtor declared count s = not (is_specifier s)

  -- dtor
  pub dtor_exact : (declared : Declared) (count : ℕ) → Exact (r.dtor types room ri declared count) (g.dtor types room gi declared count) begins_dtor (bad_dtor declared count) (more_dtor declared)
  unfolding r.dtor bad_dtor begins_rest bad_rest bad_core more_stars
  dtor_exact declared count =
      seq_open (stars_exact types room ri gi I count) (rest_exact count declared)
      (λ u stars d s e. apart (is_mark p.OpenParen s || is_name s || is_mark p.OpenBracket s) (is_mark p.Star s || is_word w.Const s) (rest_star_kinds s.token.kind) e)
      (λ u stars d s e. rest_clear count declared stars s e)
      (λ u stars y d d' s e.
      let nil = rest_nil count declared stars y d' in
      let clear = bare_precedes declared y.end s (ap (λ (z : DeclaratorEnd). z.bare) nil.1) e in
      or_fails (is_mark p.Star s) (is_word w.Const s) clear.0 clear.1)
      begins_dtor (bad_dtor declared count)
      (λ s e. or_left (is_mark p.Star s || is_name s || is_mark p.OpenParen s) (is_mark p.OpenBracket s) (or_left (is_mark p.Star s || is_name s) (is_mark p.OpenParen s) (or_left (is_mark p.Star s) (is_name s) e)))
      (λ s e. ap (λ (z : TokenKind). not (is_specifier_kind z)) (mark_kind p.Star s.token.kind e))
      (λ stars d s e. begun (is_mark p.OpenParen s) (is_name s) (is_mark p.OpenBracket s) (is_mark p.Star s) e)
      (λ stars d s e. rest_unspecified count declared stars s (ap length (stars_nil count stars d)) e)
    where
      begun : (a b c x : Bool) → (a || b || c) ≡ true → (x || b || a || c) ≡ true
      begun a b c true e = refl
      begun a true c false e = refl
      begun true false c false e = refl
      begun false false c false e = e

  -- laws of the grammar one bracket further out
  dtor_nil : (declared : Declared) (count : ℕ) (x : ReadDeclarator) → (g.dtor types room gi declared count).reads [] x → (is_named declared ≡ false) × (x.end ≡ (g.absent count 0).end)
  dtor_nil declared count x d =
      let none = stars_nil count d.2 (subst (λ (z : List Sight). (g.stars types room gi count).reads z d.2) (nil_left d.0 d.1 (sym d.3)) d.4) in
      let rest = rest_nil count declared d.2 x (subst (λ (z : List Sight). (grest count declared d.2).reads z x) (nil_right d.0 d.1 (sym d.3)) d.5) in
      (rest.0, rest.1 ∙ ap (λ (z : List Star). (g.absent count (length z)).end) none)

  pub named_solid : (declared : Declared) → is_named declared ≡ true → (count : ℕ) (x : ReadDeclarator) → (g.dtor types room gi declared count).reads [] x → ⊥
  named_solid declared n count x d = true≢false (sym n ∙ (dtor_nil declared count x d).0)

  pub bare : (declared : Declared) (count : ℕ) (x : ReadDeclarator) → (g.dtor types room gi declared count).reads [] x → (x.end.bare ≡ true) × (x.end.stars ≡ 0)
  bare declared count x d = let e = (dtor_nil declared count x d).1 in (ap (λ (z : DeclaratorEnd). z.bare) e, ap (λ (z : DeclaratorEnd). z.stars) e)

  pub clear : (x : ReadSpecifiers) (declared : Declared) (count : ℕ) (s : Sight) → bad_dtor declared count s ≡ true → more_specs x s ≡ false
  unfolding bad_dtor
  clear x declared count s e = more_specifier x s (not_true (is_specifier s) e)

-- The readers of types are exact at each depth.
bottom_brace : (s : Sight) → is_blamed (let r : Result ReadSpecifiers ℕ = Err (without_room 0 s) in r) ≡ true → is_mark p.CloseBrace s ≡ false
bottom_brace s e = go (is_mark p.CloseBrace s) refl
  where
    go : (c : Bool) → is_mark p.CloseBrace s ≡ c → c ≡ false
    go true f = absurd (true≢false (sym e ∙ rw (mark_kind p.CloseBrace s.token.kind f) refl))
    go false f = refl

pub within_exact : (types : Types) (n : ℕ) → InnerExact types (r.within types n) (g.within types n)
unfolding r.within g.within bad_specs r.nothing_left
within_exact types zero = record {
  bad_specs = λ count s. is_blamed (let o : Result ReadSpecifiers ℕ = Err (without_room count s) in o);
  bad_dtor = λ declared count s. true;
  specs = λ count. wider (token (λ s. Err (without_room count s))) (begins_specs types) (λ s. is_blamed (let o : Result ReadSpecifiers ℕ = Err (without_room count s) in o)) more_specs (λ s e. absurd (true≢false (sym e))) (λ s e. e) (λ x s e. absurd (true≢false (sym e)));
  dtor = λ declared count. wider (token (λ s. Err (without_room count s))) begins_dtor (λ s. true) (more_dtor declared) (λ s e. absurd (true≢false (sym e))) (λ s e. refl) (λ x s e. absurd (true≢false (sym e)));
  specs_solid = λ count x d. token_solid (λ s. Err (without_room count s)) x d;
  named_solid = λ declared n count x d. token_solid (λ s. Err (without_room count s)) x d;
  bare = λ declared count x d. absurd (token_solid (λ s. Err (without_room count s)) x d);
  brace = bottom_brace;
  clear = λ count u x d declared s e. absurd cc;
}
within_exact types (suc room) =
    let I = within_exact types room in
    record {
      bad_specs = bad_specs types room (r.within types room) (g.within types room) I;
      bad_dtor = bad_dtor types room (r.within types room) (g.within types room) I;
      specs = specs_exact types room (r.within types room) (g.within types room) I;
      dtor = dtor_exact types room (r.within types room) (g.within types room) I;
      specs_solid = specs_solid types room (r.within types room) (g.within types room) I;
      named_solid = named_solid types room (r.within types room) (g.within types room) I;
      bare = bare types room (r.within types room) (g.within types room) I;
      brace = bad_specs_brace types room (r.within types room) (g.within types room) I;
      clear = λ count u x d declared s e. clear types room (r.within types room) (g.within types room) I x declared count s e;
    }
