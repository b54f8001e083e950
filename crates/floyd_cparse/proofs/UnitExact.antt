-- The readers of sources are exact for their grammar.
use Rattle.std.proofs.Common.{◌≡◌, ℕ, zero, suc, pred, Bool, true, false, not, ◌&&◌, ◌||◌, inl, inr, Err, List, [], ◌∷◌, refl, sym, ◌∙◌, ap, subst, true≢false}
use Rattle.floyd_text.specs.declared.place.Place.{Place}
use Rattle.floyd_lex.specs.declared.kinds.TokenKind.{TokenKind}
use Rattle.floyd_lex.specs.declared.kinds.TokenKind.TheVariants as k
use Rattle.floyd_lex.specs.declared.kinds.Punctuator.TheVariants as p
use Rattle.floyd_lex.specs.declared.kinds.Keyword.TheVariants as w
use Rattle.floyd_grammar.specs.Phrase.{Phrase}
use Rattle.floyd_grammar.specs.Phrase as phrase
use Rattle.floyd_grammar.specs.ParseClauses.{Parser, is_taken, is_blamed, is_meant}
use Rattle.floyd_grammar.specs.ParseClauses as parse
use Rattle.floyd_grammar.proofs.Exact.{Exact, nil_left, nil_right, token, token_solid, nothing}
use Rattle.floyd_grammar.proofs.Seq.{seq, seq_open, seq_solid, seq_solid_right, token_then, made}
use Rattle.floyd_grammar.proofs.Either.{either, either_sure, or_left, or_right}
use Rattle.floyd_grammar.proofs.Wider.{wider, loose}
use Rattle.floyd_grammar.proofs.Repeat.{repeat, folded_nil}
use Rattle.floyd_grammar.proofs.Lists.{separated, closed, closed_open}
use Rattle.floyd_cparse_trees.specs.declared.declarations.External.{External}
use Rattle.floyd_cparse_trees.specs.declared.types.Identifier.{Identifier}
use Rattle.floyd_cparse_types.specs.declared.values.Declared.TheVariants as of
use Rattle.floyd_cparse.specs.declared.values.GlobalEnd.{GlobalEnd}
use Rattle.floyd_cparse.specs.declared.values.Globals.{Globals}
use Rattle.floyd_cparse.specs.declared.values.InitialiserStart.{InitialiserStart}
use Rattle.floyd_cparse.specs.declared.values.InitialiserStart.TheVariants as start
use Rattle.floyd_cparse.specs.declared.values.Initialisers.{Initialisers}
use Rattle.floyd_cparse_types.specs.declared.values.ReadDeclarator.{ReadDeclarator}
use Rattle.floyd_cparse.specs.declared.values.ReadGlobal.{ReadGlobal}
use Rattle.floyd_cparse.specs.declared.values.ReadInitialiser.{ReadInitialiser}
use Rattle.floyd_cparse_types.specs.declared.values.ReadSpecifiers.{ReadSpecifiers}
use Rattle.floyd_cparse.specs.declared.values.ValueEnd.{ValueEnd}
use Rattle.floyd_cparse_tokens.specs.Tokens.{without_room, Sight, Types, is_mark, is_word, is_word_kind, found_or, place_if}
use Rattle.floyd_cparse_types.specs.Types as tg
use Rattle.floyd_cparse_types.specs.Types.{goes_on_declarator}
use Rattle.floyd_cparse_types.specs.TypeClauses as tr
use Rattle.floyd_cparse_statements.specs.Statements as sg
use Rattle.floyd_cparse_statements.specs.StatementClauses as sr
use Rattle.floyd_cparse.specs.Units as g
use Rattle.floyd_cparse.specs.Units.{limit, is_last_comma, is_separator, ReadExternal, ReadUnit, Typedefs}
use Rattle.floyd_cparse.specs.UnitClauses as r
use Rattle.floyd_cparse.specs.UnitClauses.{begins_body}
use Rattle.floyd_cparse_tokens.proofs.TokenLemmas.{and_left, or_cases, or_fails_left, or_fails_right, not_true, not_false, mark_kind, word_kind}
use Rattle.floyd_cparse_types.proofs.TypeSets.{begins_specs, begins_dtor, begins_dtor_kind, specifier_dtor, more_specs, more_specifier, mark_ends, is_specifier_kind}
use Rattle.floyd_cparse_types.proofs.TypeExact.{InnerExact, meant_taken, meant_blamed, offered_place, closing_place}
use Rattle.floyd_cparse_types.proofs.DeclaratorExact.{within_exact}
use Rattle.floyd_cparse_statements.proofs.BlockExact.{block_items_exact}
use Rattle.floyd_cparse_statements.proofs.DepthExact.{statements_exact}
use Rattle.floyd_cparse.proofs.UnitSets.{more_value_end, more_init, more_values, separator_ends, last_comma_ends, values_end_last, values_end_last_blamed, values_end_meant, more_typedefs, typedefs_end_meant, more_global_end, more_global, more_globals, comma_ends_global, globals_end_taken, globals_end_meant, specs_words}

-- what the readers of initial data keep to
pub record InitExact (ri : Parser Sight ReadInitialiser) (gi : Phrase Sight ReadInitialiser) : Type 0 where
  pub exact : Exact ri gi (λ s. true) (λ s. true) more_init
  pub solid : (x : ReadInitialiser) → gi.reads [] x → ⊥

module _ (types : Types) (room : ℕ) (ri : Parser Sight ReadInitialiser) (gi : Phrase Sight ReadInitialiser) (I : InitExact ri gi) where
  -- "&" name "[" literal "]"
  element_exact : (name : Identifier) → Exact (r.element types room ri name) (g.element types room gi name) (λ s. is_taken (g.element_token room s)) (λ s. is_blamed (g.element_token room s)) more_init
  unfolding r.element
  element_exact name =
      token_then (g.element_token room)
      (λ place. token_then (g.literal_token types (pred room))
      (λ index. token_then (g.element_end types (pred room)) (λ _. nothing (g.element_of name place index) more_init)))

  element_solid : (name : Identifier) (x : ReadInitialiser) → (g.element types room gi name).reads [] x → ⊥
  element_solid name x d =
      seq_solid (phrase.one (g.element_token room))
      (λ place. phrase.◌>>=◌ (phrase.one (g.literal_token types (pred room))) (λ index. phrase.◌>>=◌ (phrase.one (g.element_end types (pred room))) (λ _. phrase.pure (g.element_of name place index))))
      (token_solid (g.element_token room)) x d

  element_meant : (s : Sight) → is_meant (g.element_token room s) ≡ true → is_mark p.OpenBracket s ≡ true
  element_meant s e = offered_place room 0 (is_mark p.OpenBracket s) s e

  address_exact : (name : Identifier) → Exact (r.address types room ri name) (g.address types room gi name) (λ s. true) (λ s. true) more_init
  unfolding r.address
  address_exact name =
      loose
      (either (is_mark p.OpenBracket) (element_exact name) (nothing (g.address_of name) more_init) (element_solid name)
      (λ s e. element_meant s (meant_taken (g.element_token room s) e)) (λ s e. element_meant s (meant_blamed (g.element_token room s) e))
      (λ s e. absurd (true≢false (sym e))) (λ s e. absurd (true≢false (sym e)))
      (λ x d s e. subst (λ (z : ReadInitialiser). more_init z s ≡ false) d.1 e))

  -- init {"," init} [","] "}"
  separator_meant : (s : Sight) → is_meant (g.separator_token s) ≡ true → is_separator s ≡ true
  separator_meant s e = closing_place (is_separator s) s e

  value_list_exact : Exact (r.value_list types room ri) (g.value_list types room gi) (λ s. true) (λ s. true) more_values
  unfolding r.value_list
  value_list_exact =
      separated (λ _. g.separator_token) (λ _. is_separator) g.plus_value g.first_value more_values
      I.exact (λ _. I.exact) I.solid
      (λ xs s e. separator_meant s e)
      (λ u x d s e. separator_ends x.end s e) (λ xs u x d s e. separator_ends x.end s e)
      (λ xs s e. or_fails_left (is_separator s) (more_value_end xs.end s) e)
      (λ u x d s e. or_fails_right (is_separator s) (more_value_end x.end s) e) (λ xs u x d s e. or_fails_right (is_separator s) (more_value_end x.end s) e)

  last_comma_exact : Exact (r.last_comma types room ri) (g.last_comma types room gi) (λ s. is_taken (g.last_comma_token s)) (λ s. is_blamed (g.last_comma_token s)) (λ x s. false)
  unfolding r.last_comma
  last_comma_exact = token_then g.last_comma_token (λ _. token sg.brace_end)

  last_comma_solid : (x : Place) → (g.last_comma types room gi).reads [] x → ⊥
  last_comma_solid x d = seq_solid (phrase.one g.last_comma_token) (λ _. phrase.one sg.brace_end) (token_solid g.last_comma_token) x d

  last_comma_meant : (s : Sight) → is_meant (g.last_comma_token s) ≡ true → is_last_comma s ≡ true
  last_comma_meant s e = closing_place (is_last_comma s) s e

  close_list_exact : (end : ValueEnd) → Exact (r.close_list types room ri end) (g.close_list types room gi end) (λ s. is_taken (g.last_comma_token s) || is_taken (g.values_end types (pred room) end s)) (λ s. is_blamed (g.last_comma_token s) || is_blamed (g.values_end types (pred room) end s)) (λ x s. false)
  unfolding r.close_list
  close_list_exact end =
      either is_last_comma last_comma_exact (token (g.values_end types (pred room) end)) last_comma_solid
      (λ s e. last_comma_meant s (meant_taken (g.last_comma_token s) e)) (λ s e. last_comma_meant s (meant_blamed (g.last_comma_token s) e))
      (λ s e. values_end_last types (pred room) end s e) (λ s e. values_end_last_blamed types (pred room) end s e)
      (λ x d. absurd (token_solid (g.values_end types (pred room) end) x d))

  close_list_solid : (end : ValueEnd) (x : Place) → (g.close_list types room gi end).reads [] x → ⊥
  close_list_solid end x (inl d) = last_comma_solid x d
  close_list_solid end x (inr d) = token_solid (g.values_end types (pred room) end) x d

  values_exact : Exact (r.values types room ri) (g.values types room gi) (λ s. true) (λ s. true) (λ x s. false)
  unfolding r.values
  values_exact =
      loose
      (seq value_list_exact (λ all. made (λ _. all.items) (λ x s. false) (close_list_exact all.end) (λ u x d s e. refl)) value_list_solid
      (λ u xs d s e. or_cases (is_taken (g.last_comma_token s)) (is_taken (g.values_end types (pred room) xs.end s)) e
      (λ h. last_comma_ends xs s (last_comma_meant s (meant_taken (g.last_comma_token s) h)))
      (λ h. values_end_meant types (pred room) xs s (meant_taken (g.values_end types (pred room) xs.end s) h)))
      (λ u xs d s e. or_cases (is_blamed (g.last_comma_token s)) (is_blamed (g.values_end types (pred room) xs.end s)) e
      (λ h. last_comma_ends xs s (last_comma_meant s (meant_blamed (g.last_comma_token s) h)))
      (λ h. values_end_meant types (pred room) xs s (meant_blamed (g.values_end types (pred room) xs.end s) h)))
      (λ u xs y d d' s e. absurd (seq_solid (g.close_list types room gi xs.end) (λ _. phrase.pure xs.items) (close_list_solid xs.end) y d')))
    where
      value_list_solid : (x : Initialisers) → (g.value_list types room gi).reads [] x → ⊥
      value_list_solid x d = seq_solid gi (λ first. phrase.folded g.plus_value (λ _. phrase.◌>>◌ (phrase.one g.separator_token) gi) (g.first_value first)) I.solid x d

  after_init_start_exact : (x : InitialiserStart) → Exact (r.after_init_start types room ri x) (g.after_init_start types room gi x) (λ s. true) (λ s. true) more_init
  unfolding r.after_init_start
  after_init_start_exact (start.List place) = made (g.list_of place) more_init values_exact (λ u x d s e. refl)
  after_init_start_exact start.Minus = loose (token_then (g.literal_token types room) (λ literal. nothing (g.literal_read true literal) more_init))
  after_init_start_exact start.Address = loose (token_then (g.name_token types room) address_exact)
  after_init_start_exact (start.Literal literal) = loose (nothing (g.literal_read false literal) more_init)
  after_init_start_exact (start.Name name) = loose (nothing (g.name_read name) more_init)

  pub init_exact : Exact (r.init types room ri) (g.init types room gi) (λ s. true) (λ s. true) more_init
  unfolding r.init
  init_exact = loose (token_then (g.init_token types room) after_init_start_exact)

  pub init_solid : (x : ReadInitialiser) → (g.init types room gi).reads [] x → ⊥
  init_solid x d = seq_solid (phrase.one (g.init_token types room)) (g.after_init_start types room gi) (token_solid (g.init_token types room)) x d

-- Initial data at each depth.
pub inits_exact : (types : Types) (n : ℕ) → InitExact (r.inits types n) (g.inits types n)
unfolding r.inits g.inits
inits_exact types zero = record {
  exact = wider (token (λ s. Err (without_room 0 s))) (λ s. true) (λ s. true) more_init (λ s e. refl) (λ s e. refl) (λ x s e. absurd (true≢false (sym e)));
  solid = λ x d. token_solid (λ s. Err (without_room 0 s)) x d;
}
inits_exact types (suc room) = record {
  exact = init_exact types room (r.inits types room) (g.inits types room) (inits_exact types room);
  solid = init_solid types room (r.inits types room) (g.inits types room) (inits_exact types room);
}

module _ (types : Types) where
  abbrev W : InnerExact types (tr.within types (suc limit)) (tg.within types (suc limit))
  W = within_exact types (suc limit)

  abbrev N : InitExact (r.inits types (suc limit)) (g.inits types (suc limit))
  N = inits_exact types (suc limit)

  comma_meant : (s : Sight) → is_meant (sg.comma_token s) ≡ true → is_mark p.Comma s ≡ true
  comma_meant s e = closing_place (is_mark p.Comma s) s e

  equal_meant : (s : Sight) → is_meant (sg.equal_token s) ≡ true → is_mark p.Equal s ≡ true
  equal_meant s e = closing_place (is_mark p.Equal s) s e

  -- "typedef" specs dtor {"," dtor} ";"
  typedefs_exact : Exact (r.typedefs types) (g.typedefs types) begins_dtor (W.bad_dtor of.Type 0) more_typedefs
  unfolding r.typedefs
  typedefs_exact =
      separated (λ _. sg.comma_token) (λ _. is_mark p.Comma) g.plus_typedef (g.first_typedef types) more_typedefs
      (W.dtor of.Type 0) (λ all. (within_exact all.types (suc limit)).dtor of.Type 0) (W.named_solid of.Type refl 0)
      (λ xs s e. comma_meant s e)
      (λ u x d s e. mark_ends p.Comma of.Type x.end s refl e) (λ xs u x d s e. mark_ends p.Comma of.Type x.end s refl e)
      (λ xs s e. or_fails_left (is_mark p.Comma s) (goes_on_declarator of.Type xs.end s) e)
      (λ u x d s e. or_fails_right (is_mark p.Comma s) (goes_on_declarator of.Type x.end s) e) (λ xs u x d s e. or_fails_right (is_mark p.Comma s) (goes_on_declarator of.Type x.end s) e)

  typedefs_solid : (x : Typedefs) → (g.typedefs types).reads [] x → ⊥
  typedefs_solid x d =
      seq_solid ((tg.within types (suc limit)).dtor of.Type 0) (λ first. phrase.folded g.plus_typedef (λ all. phrase.◌>>◌ (phrase.one sg.comma_token) ((tg.within all.types (suc limit)).dtor of.Type 0)) (g.first_typedef types first)) (W.named_solid of.Type refl 0) x d

  typedefs_of_exact : (x : ReadSpecifiers) → Exact (r.typedefs_of types x) (g.typedefs_of types x) begins_dtor (W.bad_dtor of.Type 0) (λ y s. false)
  unfolding r.typedefs_of
  typedefs_of_exact x = closed g.typedefs_end (g.typedef_of x) (λ y s. false) typedefs_exact typedefs_solid (λ u xs d s e. typedefs_end_meant xs s e)

  typedefs_of_solid : (x : ReadSpecifiers) (y : ReadExternal) → (g.typedefs_of types x).reads [] y → ⊥
  typedefs_of_solid x y d = seq_solid (g.typedefs types) (λ all. phrase.◌>>=◌ (phrase.one (g.typedefs_end all)) (λ _. phrase.pure (g.typedef_of x all))) typedefs_solid y d

  typedef_exact : Exact (r.typedef types) (g.typedef types) (λ s. is_taken (g.typedef_token s)) (λ s. is_blamed (g.typedef_token s)) (λ y s. false)
  unfolding r.typedef
  typedef_exact =
      token_then g.typedef_token
      (λ _. seq (W.specs 0) typedefs_of_exact (W.specs_solid 0)
      (λ u x d s e. more_specifier x s (specifier_dtor s e)) (λ u x d s e. W.clear 0 u x d of.Type s e)
      (λ u x y d d' s e. absurd (typedefs_of_solid x y d')))

  typedef_solid : (x : ReadExternal) → (g.typedef types).reads [] x → ⊥
  typedef_solid x d = seq_solid (phrase.one g.typedef_token) (λ _. phrase.◌>>=◌ ((tg.within types (suc limit)).specs 0) (g.typedefs_of types)) (token_solid g.typedef_token) x d

  -- dtor ["=" init]
  global_value_exact : (x : ReadDeclarator) → Exact (r.global_value types x) (g.global_value types x) (λ s. is_taken (sg.equal_token s)) (λ s. is_blamed (sg.equal_token s)) more_global
  unfolding r.global_value
  global_value_exact x = token_then sg.equal_token (λ place. made (g.global_with x place) more_global N.exact (λ u y d s e. e))

  global_value_solid : (x : ReadDeclarator) (y : ReadGlobal) → (g.global_value types x).reads [] y → ⊥
  global_value_solid x y d = seq_solid (phrase.one sg.equal_token) (λ place. phrase.◌>>=◌ (g.inits types (suc limit)) (λ z. phrase.pure (g.global_with x place z))) (token_solid sg.equal_token) y d

  global_rest_exact : (x : ReadDeclarator) → Exact (r.global_rest types x) (g.global_rest types x) (is_mark p.Equal) (is_mark p.Equal) more_global
  unfolding r.global_rest
  global_rest_exact x =
      wider
      (either (is_mark p.Equal) (global_value_exact x) (nothing (g.global_alone x) more_global) (global_value_solid x)
      (λ s e. equal_meant s (meant_taken (sg.equal_token s) e)) (λ s e. equal_meant s (meant_blamed (sg.equal_token s) e))
      (λ s e. absurd (true≢false (sym e))) (λ s e. absurd (true≢false (sym e)))
      (λ y d s e. or_fails_left (is_mark p.Equal s) (goes_on_declarator of.Object x.end s) (subst (λ (z : ReadGlobal). more_global z s ≡ false) d.1 e)))
      (is_mark p.Equal) (is_mark p.Equal) more_global
      (λ s e. or_cases (is_taken (sg.equal_token s)) false e (λ h. equal_meant s (meant_taken (sg.equal_token s) h)) (λ h. absurd (true≢false (sym h))))
      (λ s e. or_cases (is_blamed (sg.equal_token s)) false e (λ h. equal_meant s (meant_blamed (sg.equal_token s) h)) (λ h. absurd (true≢false (sym h))))
      (λ y s e. e)

  -- where nothing stands behind a declarator, it is alone
  global_rest_nil : (x : ReadDeclarator) (y : ReadGlobal) → (g.global_rest types x).reads [] y → y ≡ g.global_alone x
  global_rest_nil x y (inl d) = absurd (global_value_solid x y d)
  global_rest_nil x y (inr d) = d.1

  global_nil : (x : ReadDeclarator) (y : ReadGlobal) → (g.global_rest types x).reads [] y → (s : Sight) → more_global y s ≡ false → goes_on_declarator of.Object x.end s ≡ false
  global_nil x y d s e = or_fails_right (is_mark p.Equal s) (goes_on_declarator of.Object x.end s) (subst (λ (z : ReadGlobal). more_global z s ≡ false) (global_rest_nil x y d) e)

  global_exact : Exact (r.global types) (g.global types) begins_dtor (W.bad_dtor of.Object 0) more_global
  unfolding r.global
  global_exact =
      seq (W.dtor of.Object 0) global_rest_exact (W.named_solid of.Object refl 0)
      (λ u x d s e. mark_ends p.Equal of.Object x.end s refl e) (λ u x d s e. mark_ends p.Equal of.Object x.end s refl e)
      (λ u x y d d' s e. global_nil x y d' s e)

  pub next_global_exact : Exact (parse.◌>>◌ (parse.one sg.comma_token) (r.global types)) (phrase.◌>>◌ (phrase.one sg.comma_token) (g.global types)) (λ s. is_taken (sg.comma_token s)) (λ s. is_blamed (sg.comma_token s)) more_global
  next_global_exact = token_then sg.comma_token (λ _. global_exact)

  pub next_global_solid : (y : ReadGlobal) → (phrase.◌>>◌ (phrase.one sg.comma_token) (g.global types)).reads [] y → ⊥
  next_global_solid y d = seq_solid (phrase.one sg.comma_token) (λ _. g.global types) (token_solid sg.comma_token) y d

  -- ["=" init] {"," dtor ["=" init]}
  abbrev more_of_list : ReadGlobal → Phrase Sight Globals
  more_of_list first = phrase.folded g.plus_global (λ _. phrase.◌>>◌ (phrase.one sg.comma_token) (g.global types)) (g.first_global first)

  more_of_list_exact : (first : ReadGlobal) → Exact (parse.folded (λ _. is_mark p.Comma) g.plus_global (λ _. parse.◌>>◌ (parse.one sg.comma_token) (r.global types)) (g.first_global first)) (more_of_list first) (λ s. is_taken (sg.comma_token s)) (λ s. is_blamed (sg.comma_token s)) more_globals
  more_of_list_exact first =
      repeat (λ _. is_mark p.Comma) g.plus_global more_globals (λ _. next_global_exact) (λ _. next_global_solid)
      (λ xs s e. comma_meant s (meant_taken (sg.comma_token s) e)) (λ xs s e. comma_meant s (meant_blamed (sg.comma_token s) e))
      (λ xs u x d s e. comma_ends_global x.end s e)
      (λ xs s e. or_fails_left (is_mark p.Comma s) (more_global_end xs.end s) e)
      (λ xs u x d s e. or_fails_right (is_mark p.Comma s) (more_global_end x.end s) e) (g.first_global first)

  more_of_list_nil : (first : ReadGlobal) (xs : Globals) → (more_of_list first).reads [] xs → xs ≡ g.first_global first
  more_of_list_nil first xs d = folded_nil g.plus_global (λ _. (phrase.◌>>◌ (phrase.one sg.comma_token) (g.global types)).reads) (λ _ y e. next_global_solid y e) (g.first_global first) [] xs d refl

  abbrev begins_list : Sight → Bool
  begins_list s = is_mark p.Equal s || is_mark p.Comma s

  globals_exact : (x : ReadDeclarator) → Exact (r.globals types x) (g.globals types x) begins_list begins_list more_globals
  unfolding r.globals
  globals_exact x =
      seq_open (global_rest_exact x) more_of_list_exact
      (λ u y d s e. comma_ends_global y.end s (comma_meant s (meant_taken (sg.comma_token s) e)))
      (λ u y d s e. comma_ends_global y.end s (comma_meant s (meant_blamed (sg.comma_token s) e)))
      (λ u y xs d d' s e. or_fails_right (is_mark p.Comma s) (more_global_end y.end s) (subst (λ (z : Globals). more_globals z s ≡ false) (more_of_list_nil y xs d') e))
      begins_list begins_list
      (λ s e. or_left (is_mark p.Equal s) (is_mark p.Comma s) e) (λ s e. or_left (is_mark p.Equal s) (is_mark p.Comma s) e)
      (λ y d s e. or_right (is_mark p.Equal s) (is_mark p.Comma s) (comma_meant s (meant_taken (sg.comma_token s) e)))
      (λ y d s e. or_right (is_mark p.Equal s) (is_mark p.Comma s) (comma_meant s (meant_blamed (sg.comma_token s) e)))

  globals_nil : (x : ReadDeclarator) (xs : Globals) → (g.globals types x).reads [] xs → xs.end ≡ (g.global_alone x).end
  globals_nil x xs d =
      let first = global_rest_nil x d.2 (subst (λ (z : List Sight). (g.global_rest types x).reads z d.2) (nil_left d.0 d.1 (sym d.3)) d.4) in
      let all = more_of_list_nil d.2 xs (subst (λ (z : List Sight). (more_of_list d.2).reads z xs) (nil_right d.0 d.1 (sym d.3)) d.5) in
      ap (λ (z : Globals). z.end) all ∙ ap (λ (z : ReadGlobal). z.end) first

  -- with the ";" behind
  abbrev begins_declaration : Sight → Bool
  begins_declaration s = begins_list s || is_mark p.Semicolon s

  abbrev bad_declaration : ReadDeclarator → Sight → Bool
  bad_declaration x s = not (goes_on_declarator of.Object x.end s)

  list_ends : (x : ReadDeclarator) (s : Sight) → begins_list s ≡ true → goes_on_declarator of.Object x.end s ≡ false
  list_ends x s e = or_cases (is_mark p.Equal s) (is_mark p.Comma s) e (λ h. mark_ends p.Equal of.Object x.end s refl h) (λ h. mark_ends p.Comma of.Object x.end s refl h)

  declaration_exact : (external : Bool) (x : ReadSpecifiers) (y : ReadDeclarator) → Exact (r.declaration types external x y) (g.declaration types external x y) begins_declaration (bad_declaration y) (λ z s. false)
  unfolding r.declaration
  declaration_exact external x y =
      closed_open (λ (all : Globals). g.globals_end types all.end) (g.declaration_of external x) (λ z s. false) (globals_exact y)
      (λ u xs d s e. globals_end_meant types xs s e)
      begins_declaration (bad_declaration y)
      (λ s e. or_left (begins_list s) (is_mark p.Semicolon s) e) (λ s e. not_false (goes_on_declarator of.Object y.end s) (list_ends y s e))
      (λ xs d s e. or_right (begins_list s) (is_mark p.Semicolon s) (globals_end_taken types xs.end s e))
      (λ xs d s e. not_false (goes_on_declarator of.Object y.end s) (alone xs d s (globals_end_meant types xs s (meant_blamed (g.globals_end types xs.end s) e))))
    where
      alone : (xs : Globals) → (g.globals types y).reads [] xs → (s : Sight) → more_globals xs s ≡ false → goes_on_declarator of.Object y.end s ≡ false
      alone xs d s e = or_fails_right (is_mark p.Equal s) (goes_on_declarator of.Object y.end s) (subst (λ (z : GlobalEnd). more_global_end z s ≡ false) (globals_nil y xs d) (or_fails_right (is_mark p.Comma s) (more_global_end xs.end s) e))

  declaration_solid : (external : Bool) (x : ReadSpecifiers) (y : ReadDeclarator) (z : External) → (g.declaration types external x y).reads [] z → ⊥
  declaration_solid external x y z d =
      seq_solid_right (g.globals types y) (λ all. phrase.◌>>=◌ (phrase.one (g.globals_end types all.end)) (λ _. phrase.pure (g.declaration_of external x all)))
      (λ all z e. seq_solid (phrase.one (g.globals_end types all.end)) (λ _. phrase.pure (g.declaration_of external x all)) (token_solid (g.globals_end types all.end)) z e) z d

  -- block behind a declarator
  body_meant : (external : Bool) (s : Sight) → is_meant (g.body_token external s) ≡ true → begins_body external s ≡ true
  body_meant external s e = closing_place (begins_body external s) s e

  function_exact : (external : Bool) (x : ReadSpecifiers) (y : ReadDeclarator) → Exact (r.function types external x y) (g.function types external x y) (λ s. is_taken (g.body_token external s)) (λ s. is_blamed (g.body_token external s)) (λ z s. false)
  unfolding r.function
  function_exact external x y =
      token_then (g.body_token external)
      (λ _. made (g.function_of x y) (λ z s. false) (block_items_exact types (pred limit) limit (sr.statements types limit) (sg.statements types limit) (statements_exact types limit)) (λ u z d s e. refl))

  function_solid : (external : Bool) (x : ReadSpecifiers) (y : ReadDeclarator) (z : External) → (g.function types external x y).reads [] z → ⊥
  function_solid external x y z d =
      seq_solid (phrase.one (g.body_token external)) (λ _. phrase.◌>>=◌ (sg.block_items types (pred limit) (sg.statements types limit)) (λ items. phrase.pure (g.function_of x y items))) (token_solid (g.body_token external)) z d

  function_front : (external : Bool) (x : ReadSpecifiers) (y : ReadDeclarator) (s : Sight) → begins_body external s ≡ true → (g.function types external x y).front (s ∷ [])
  function_front external x y s e = inl (inr (s, s.token.place, refl, ap (λ (z : Bool). found_or 0 (place_if z s)) e))

  brace_begins : (external : Bool) (s : Sight) → begins_declaration s ≡ true → begins_body external s ≡ false
  brace_begins external s e = go (is_mark p.OpenBrace s) refl
    where
      never : s.token.kind ≡ k.Punctuator p.OpenBrace → begins_declaration s ≡ false
      never h = rw h refl

      go : (a : Bool) → is_mark p.OpenBrace s ≡ a → (a && not external) ≡ false
      go true f = absurd (true≢false (sym e ∙ never (mark_kind p.OpenBrace s.token.kind f)))
      go false f = refl

  begins_rest : Bool → Sight → Bool
  begins_rest external s = begins_body external s || begins_declaration s

  declared_rest_exact : (external : Bool) (x : ReadSpecifiers) (y : ReadDeclarator) → Exact (r.declared_rest types external x y) (g.declared_rest types external x y) (begins_rest external) (bad_declaration y) (λ z s. false)
  unfolding r.declared_rest begins_rest
  declared_rest_exact external x y =
      wider
      (either_sure (begins_body external) (function_exact external x y) (declaration_exact external x y) (function_solid external x y)
      (λ s e. body_meant external s (meant_taken (g.body_token external s) e)) (λ s e. body_meant external s (meant_blamed (g.body_token external s) e))
      (function_front external x y) (brace_begins external)
      (λ z d. absurd (declaration_solid external x y z d)))
      (begins_rest external) (bad_declaration y) (λ z s. false)
      (λ s e. or_cases (is_taken (g.body_token external s)) (begins_declaration s) e
      (λ h. or_left (begins_body external s) (begins_declaration s) (body_meant external s (meant_taken (g.body_token external s) h)))
      (λ h. or_right (begins_body external s) (begins_declaration s) h))
      (λ s e. or_cases (is_blamed (g.body_token external s)) (bad_declaration y s) e
      (λ h. not_false (goes_on_declarator of.Object y.end s) (mark_ends p.OpenBrace of.Object y.end s refl (and_left (is_mark p.OpenBrace s) (not external) (body_meant external s (meant_blamed (g.body_token external s) h)))))
      (λ h. h))
      (λ z s e. e)

  declared_rest_solid : (external : Bool) (x : ReadSpecifiers) (y : ReadDeclarator) (z : External) → (g.declared_rest types external x y).reads [] z → ⊥
  declared_rest_solid external x y z (inl d) = function_solid external x y z d
  declared_rest_solid external x y z (inr d) = declaration_solid external x y z d

  rest_ends : (external : Bool) (y : ReadDeclarator) (s : Sight) → begins_rest external s ≡ true → goes_on_declarator of.Object y.end s ≡ false
  unfolding begins_rest
  rest_ends external y s e =
      or_cases (begins_body external s) (begins_declaration s) e
      (λ h. mark_ends p.OpenBrace of.Object y.end s refl (and_left (is_mark p.OpenBrace s) (not external) h))
      (λ h. or_cases (begins_list s) (is_mark p.Semicolon s) h (list_ends y s) (λ i. mark_ends p.Semicolon of.Object y.end s refl i))

  some_declared_exact : (external : Bool) (x : ReadSpecifiers) → Exact (r.some_declared types external x) (g.some_declared types external x) begins_dtor (W.bad_dtor of.Object 0) (λ z s. false)
  unfolding r.some_declared
  some_declared_exact external x =
      seq (W.dtor of.Object 0) (declared_rest_exact external x) (W.named_solid of.Object refl 0)
      (λ u y d s e. rest_ends external y s e) (λ u y d s e. not_true (goes_on_declarator of.Object y.end s) e)
      (λ u y z d d' s e. absurd (declared_rest_solid external x y z d'))

  some_declared_solid : (external : Bool) (x : ReadSpecifiers) (z : External) → (g.some_declared types external x).reads [] z → ⊥
  some_declared_solid external x z d = seq_solid ((tg.within types (suc limit)).dtor of.Object 0) (g.declared_rest types external x) (W.named_solid of.Object refl 0) z d

  none_declared_exact : (external : Bool) (x : ReadSpecifiers) → Exact (r.none_declared types external x) (g.none_declared types external x) (λ s. is_taken (g.semicolon_end s)) (λ s. is_blamed (g.semicolon_end s)) (λ z s. false)
  unfolding r.none_declared
  none_declared_exact external x = token_then g.semicolon_end (λ _. nothing (g.declaration_alone external x) (λ z s. false))

  none_declared_solid : (external : Bool) (x : ReadSpecifiers) (z : External) → (g.none_declared types external x).reads [] z → ⊥
  none_declared_solid external x z d = seq_solid (phrase.one g.semicolon_end) (λ _. phrase.pure (g.declaration_alone external x)) (token_solid g.semicolon_end) z d

  semicolon_meant : (s : Sight) → is_meant (g.semicolon_end s) ≡ true → is_mark p.Semicolon s ≡ true
  semicolon_meant s e = closing_place (is_mark p.Semicolon s) s e

  none_declared_front : (external : Bool) (x : ReadSpecifiers) (s : Sight) → is_mark p.Semicolon s ≡ true → (g.none_declared types external x).front (s ∷ [])
  none_declared_front external x s e = inl (inr (s, s.token.place, refl, ap (λ (z : Bool). found_or 0 (place_if z s)) e))

  semicolon_dtor : (s : Sight) → begins_dtor s ≡ true → is_mark p.Semicolon s ≡ false
  semicolon_dtor s e = go (is_mark p.Semicolon s) refl
    where
      go : (a : Bool) → is_mark p.Semicolon s ≡ a → a ≡ false
      go true f = absurd (true≢false (sym e ∙ ap begins_dtor_kind (mark_kind p.Semicolon s.token.kind f)))
      go false f = refl

  abbrev begins_declared : Sight → Bool
  begins_declared s = is_mark p.Semicolon s || begins_dtor s

  abbrev bad_declared : Sight → Bool
  bad_declared s = is_mark p.Semicolon s || W.bad_dtor of.Object 0 s

  declared_exact : (external : Bool) (x : ReadSpecifiers) → Exact (r.declared types external x) (g.declared types external x) begins_declared bad_declared (λ z s. false)
  unfolding r.declared
  declared_exact external x =
      made (g.read_external types) (λ z s. false)
      (wider
      (either_sure (is_mark p.Semicolon) (none_declared_exact external x) (some_declared_exact external x) (none_declared_solid external x)
      (λ s e. semicolon_meant s (meant_taken (g.semicolon_end s) e)) (λ s e. semicolon_meant s (meant_blamed (g.semicolon_end s) e))
      (none_declared_front external x) semicolon_dtor
      (λ z d. absurd (some_declared_solid external x z d)))
      begins_declared bad_declared (λ z s. false)
      (λ s e. or_cases (is_taken (g.semicolon_end s)) (begins_dtor s) e
      (λ h. or_left (is_mark p.Semicolon s) (begins_dtor s) (semicolon_meant s (meant_taken (g.semicolon_end s) h))) (λ h. or_right (is_mark p.Semicolon s) (begins_dtor s) h))
      (λ s e. or_cases (is_blamed (g.semicolon_end s)) (W.bad_dtor of.Object 0 s) e
      (λ h. or_left (is_mark p.Semicolon s) (W.bad_dtor of.Object 0 s) (semicolon_meant s (meant_blamed (g.semicolon_end s) h))) (λ h. or_right (is_mark p.Semicolon s) (W.bad_dtor of.Object 0 s) h))
      (λ z s e. e))
      (λ u z d s e. refl)

  declared_solid : (external : Bool) (x : ReadSpecifiers) (z : ReadExternal) → (g.declared types external x).reads [] z → ⊥
  declared_solid external x z d = seq_solid (phrase.◌or◌ (g.none_declared types external x) (g.some_declared types external x)) (λ tree. phrase.pure (g.read_external types tree)) both z d
    where
      both : (y : External) → (phrase.◌or◌ (g.none_declared types external x) (g.some_declared types external x)).reads [] y → ⊥
      both y (inl e) = none_declared_solid external x y e
      both y (inr e) = some_declared_solid external x y e

  semicolon_specifier : (x : ReadSpecifiers) (s : Sight) → is_mark p.Semicolon s ≡ true → more_specs x s ≡ false
  semicolon_specifier x s e = more_specifier x s (ap is_specifier_kind (mark_kind p.Semicolon s.token.kind e))

  -- specs [..] ";" and specs dtor block
  specified_exact : (external : Bool) → Exact (r.specified types external) (g.specified types external) (begins_specs types) (W.bad_specs 0) (λ z s. false)
  unfolding r.specified
  specified_exact external =
      seq (W.specs 0) (declared_exact external) (W.specs_solid 0)
      (λ u x d s e. or_cases (is_mark p.Semicolon s) (begins_dtor s) e (semicolon_specifier x s) (λ h. more_specifier x s (specifier_dtor s h)))
      (λ u x d s e. or_cases (is_mark p.Semicolon s) (W.bad_dtor of.Object 0 s) e (semicolon_specifier x s) (λ h. W.clear 0 u x d of.Object s h))
      (λ u x z d d' s e. absurd (declared_solid external x z d'))

  specified_solid : (external : Bool) (z : ReadExternal) → (g.specified types external).reads [] z → ⊥
  specified_solid external z d = seq_solid ((tg.within types (suc limit)).specs 0) (g.declared types external) (W.specs_solid 0) z d

  extern_exact : Exact (r.extern types) (g.extern types) (λ s. is_taken (g.extern_token s)) (λ s. is_blamed (g.extern_token s)) (λ z s. false)
  extern_exact = token_then g.extern_token (λ _. specified_exact true)

  extern_solid : (z : ReadExternal) → (g.extern types).reads [] z → ⊥
  extern_solid z d = seq_solid (phrase.one g.extern_token) (λ _. g.specified types true) (token_solid g.extern_token) z d

  extern_meant : (s : Sight) → is_meant (g.extern_token s) ≡ true → is_word w.Extern s ≡ true
  extern_meant s e = closing_place (is_word w.Extern s) s e

  extern_front : (s : Sight) → is_word w.Extern s ≡ true → (g.extern types).front (s ∷ [])
  extern_front s e = inl (inr (s, s.token.place, refl, ap (λ (z : Bool). found_or 0 (place_if z s)) e))

  typedef_meant : (s : Sight) → is_meant (g.typedef_token s) ≡ true → is_word w.Typedef s ≡ true
  typedef_meant s e = closing_place (is_word w.Typedef s) s e

  typedef_front : (s : Sight) → is_word w.Typedef s ≡ true → (g.typedef types).front (s ∷ [])
  typedef_front s e = inl (inr (s, s.token.place, refl, ap (λ (z : Bool). found_or 0 (place_if z s)) e))

  extern_typedef : (s : Sight) → is_word w.Extern s ≡ true → is_word w.Typedef s ≡ false
  extern_typedef s e = ap (λ (z : TokenKind). is_word_kind w.Typedef z) (word_kind w.Extern s.token.kind e)

  abbrev not_typedef : Sight → Bool
  not_typedef s = is_taken (g.extern_token s) || begins_specs types s

  other_external_exact : Exact (parse.either (is_word w.Extern) (r.extern types) (r.specified types false)) (phrase.◌or◌ (g.extern types) (g.specified types false)) not_typedef (λ s. is_blamed (g.extern_token s) || W.bad_specs 0 s) (λ z s. false)
  other_external_exact =
      either_sure (is_word w.Extern) extern_exact (specified_exact false) extern_solid
      (λ s e. extern_meant s (meant_taken (g.extern_token s) e)) (λ s e. extern_meant s (meant_blamed (g.extern_token s) e))
      extern_front (λ s e. or_fails_right (is_word w.Typedef s) (is_word w.Extern s) (specs_words types s e))
      (λ z d. absurd (specified_solid false z d))

  other_external_solid : (z : ReadExternal) → (phrase.◌or◌ (g.extern types) (g.specified types false)).reads [] z → ⊥
  other_external_solid z (inl d) = extern_solid z d
  other_external_solid z (inr d) = specified_solid false z d

  pub external_exact : Exact (r.external types) (g.external types) (λ s. true) (λ s. true) (λ z s. false)
  unfolding r.external
  external_exact =
      loose
      (either_sure (is_word w.Typedef) typedef_exact other_external_exact typedef_solid
      (λ s e. typedef_meant s (meant_taken (g.typedef_token s) e)) (λ s e. typedef_meant s (meant_blamed (g.typedef_token s) e))
      typedef_front
      (λ s e. or_cases (is_taken (g.extern_token s)) (begins_specs types s) e
      (λ h. extern_typedef s (extern_meant s (meant_taken (g.extern_token s) h)))
      (λ h. or_fails_left (is_word w.Typedef s) (is_word w.Extern s) (specs_words types s h)))
      (λ z d. absurd (other_external_solid z d)))

  pub external_solid : (z : ReadExternal) → (g.external types).reads [] z → ⊥
  external_solid z (inl d) = typedef_solid z d
  external_solid z (inr d) = other_external_solid z d

pub externals_exact : (types : Types) → Exact (r.externals types) (g.externals types) (λ s. true) (λ s. true) (λ xs s. true)
unfolding r.externals
externals_exact types =
    repeat (λ _ _. true) g.plus_external (λ _ _. true) (λ (all : ReadUnit). external_exact all.types) (λ all. external_solid all.types)
    (λ xs s e. refl) (λ xs s e. refl) (λ xs u x d s e. refl) (λ xs s e. e) (λ xs u x d s e. refl) (g.no_externals types)

pub unit_exact : Exact r.unit g.unit (λ s. true) (λ s. true) (λ x s. true)
unfolding r.unit g.unit
unit_exact = made g.unit_of (λ x s. true) (externals_exact []) (λ u x d s e. e)
