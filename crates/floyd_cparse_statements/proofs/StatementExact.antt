-- The readers of effects, of declarations in a block and of statements are exact for their grammar.
use Rattle.std.proofs.Common.{◌≡◌, ℕ, suc, Bool, true, false, not, ◌||◌, if◌then◌else◌, inl, inr, [], ◌∷◌, refl, sym, ◌∙◌, ap, subst, true≢false}
use Rattle.std.specs.Prelude.{Option, Some, None}
use Rattle.floyd_text.specs.declared.place.Place.{Place}
use Rattle.floyd_lex.specs.declared.kinds.TokenKind.{TokenKind}
use Rattle.floyd_lex.specs.declared.kinds.TokenKind.TheVariants as k
use Rattle.floyd_lex.specs.declared.kinds.Punctuator.{Punctuator}
use Rattle.floyd_lex.specs.declared.kinds.Punctuator.TheVariants as p
use Rattle.floyd_grammar.specs.Phrase.{Phrase}
use Rattle.floyd_grammar.specs.Phrase as phrase
use Rattle.floyd_grammar.specs.ParseClauses.{is_taken, is_blamed, is_meant}
use Rattle.floyd_grammar.proofs.Exact.{Exact, token_solid, nothing}
use Rattle.floyd_grammar.proofs.Seq.{seq, seq_solid, token_then, made, barring}
use Rattle.floyd_grammar.proofs.Either.{either, either_sure}
use Rattle.floyd_grammar.proofs.Wider.{wider, loose}
use Rattle.floyd_grammar.proofs.Lists.{separated, closed, closed_any}
use Rattle.floyd_cparse_trees.specs.declared.expressions.CExpr.{CExpr}
use Rattle.floyd_cparse_trees.specs.declared.statements.LocalDeclaration.{LocalDeclaration}
use Rattle.floyd_cparse_expressions.specs.declared.values.Comma.{Comma}
use Rattle.floyd_cparse_expressions.specs.declared.values.Comma.TheVariants as comma
use Rattle.floyd_cparse_types.specs.declared.values.Declared.TheVariants as of
use Rattle.floyd_cparse_expressions.specs.declared.values.EffectNext.{EffectNext}
use Rattle.floyd_cparse_expressions.specs.declared.values.EffectNext.TheVariants as next
use Rattle.floyd_cparse_statements.specs.declared.values.Locals.{Locals}
use Rattle.floyd_cparse_expressions.specs.declared.values.Operand.{Operand}
use Rattle.floyd_cparse_types.specs.declared.values.ReadDeclarator.{ReadDeclarator}
use Rattle.floyd_cparse_statements.specs.declared.values.ReadItem.{ReadItem}
use Rattle.floyd_cparse_statements.specs.declared.values.ReadLocal.{ReadLocal}
use Rattle.floyd_cparse_types.specs.declared.values.ReadSpecifiers.{ReadSpecifiers}
use Rattle.floyd_cparse_tokens.specs.Tokens.{is_there, Sight, Types, is_mark, found_or}
use Rattle.floyd_cparse_types.specs.Types as tg
use Rattle.floyd_cparse_types.specs.Types.{goes_on_declarator}
use Rattle.floyd_cparse_types.specs.TypeClauses as tr
use Rattle.floyd_cparse_expressions.specs.Expressions as eg
use Rattle.floyd_cparse_expressions.specs.Expressions.{Level, Whole, Conditional, goes_on, goes_on_unary, is_separator, close_paren}
use Rattle.floyd_cparse_expressions.specs.ExpressionClauses as er
use Rattle.floyd_cparse_statements.specs.Statements as g
use Rattle.floyd_cparse_statements.specs.Statements.{semicolon, label, is_label, begins_declaration, no_declaration, start_of_statement, statement_token, is_taken_else, taken_else}
use Rattle.floyd_cparse_statements.specs.StatementClauses as r
use Rattle.floyd_cparse_statements.specs.StatementClauses.{begins_item, begins_started, begins_else, is_ending}
use Rattle.floyd_cparse_tokens.proofs.TokenLemmas.{and_left, or_cases, or_fails_left, or_fails_right, mark_kind, there_place, closing_meant, closing_taken, closing_unless}
use Rattle.floyd_cparse_types.proofs.TypeSets.{begins_specs, begins_dtor, specifier_dtor, more_specifier, mark_ends}
use Rattle.floyd_cparse_types.proofs.TypeExact.{InnerExact, meant_taken, meant_blamed, closing_place}
use Rattle.floyd_cparse_types.proofs.DeclaratorExact.{within_exact}
use Rattle.floyd_cparse_expressions.proofs.ExpressionSets.{begins_unary, is_unary_kind, is_postfix_kind, is_infix_kind, mark_ends_expression, mark_begins}
use Rattle.floyd_cparse_expressions.proofs.ExpressionExact.{NestedExact, nested_exact, unary_exact, unary_solid, bad_unary}
use Rattle.floyd_cparse_statements.proofs.StatementSets.{there_some, declaration_passes, declaration_blamed, declaration_none, specs_front, effect_meant, more_end, more_local, more_locals, mark_ends_local, locals_end_meant}

-- what ends a value is a mark that goes on with none and begins none
pub record Ends (ending : Sight → Option Place) : Type 0 where
  pub mark : Punctuator
  pub is_it : (s : Sight) → is_there (ending s) ≡ true → is_mark mark s ≡ true
  pub goes_on : (is_postfix_kind (k.Punctuator mark) || is_infix_kind (k.Punctuator mark)) ≡ false
  pub begins : is_unary_kind (k.Punctuator mark) ≡ false

pub semicolon_ends : Ends semicolon
semicolon_ends = record { mark = p.Semicolon; is_it = λ s e. there_place (is_mark p.Semicolon s) s e; goes_on = refl; begins = refl }

pub paren_ends : Ends close_paren
paren_ends = record { mark = p.CloseParen; is_it = λ s e. there_place (is_mark p.CloseParen s) s e; goes_on = refl; begins = refl }

-- what closes behind an expression
pub value_ends : (cause : ℕ) (ending : Sight → Option Place) → Ends ending → (other : Bool) (s : Sight) (x : Operand) → is_meant (found_or (if goes_on x.end s || other then 0 else cause) (ending s)) ≡ true → goes_on x.end s ≡ false
value_ends cause ending E other s x e =
    or_cases (is_taken (found_or (if goes_on x.end s || other then 0 else cause) (ending s))) (is_blamed (found_or (if goes_on x.end s || other then 0 else cause) (ending s))) e
    (λ t. mark_ends_expression E.mark x.end s E.goes_on (E.is_it s (closing_taken _ (ending s) t)))
    (λ b. or_fails_left (goes_on x.end s) other (closing_unless (goes_on x.end s || other) cause (ending s) b))

module _ (types : Types) (room : ℕ) where
  abbrev N : NestedExact types (er.nested types (suc room)) (eg.nested types (suc room))
  N = nested_exact types (suc room)

  abbrev M : NestedExact types (er.nested types room) (eg.nested types room)
  M = nested_exact types room

  abbrev W : InnerExact types (tr.within types (suc room)) (tg.within types (suc room))
  W = within_exact types (suc room)

  -- effects
  after_effect_exact : (c : Comma) (ending : Sight → Option Place) → Ends ending → (x : Operand) (n : EffectNext) → Exact (er.after_effect types room c ending x n) (eg.after_effect types room c ending x n) (λ s. true) (λ s. true) (λ y s. false)
  unfolding er.after_effect
  after_effect_exact c ending E x next.End = loose (nothing x.tree (λ y s. false))
  after_effect_exact c ending E x (next.Assign by) =
      closed_any (eg.effect_end_token types c room ending) (eg.assign x by) (λ y s. false) (N.exact Whole c x.end.count)
      (λ u y d s e. value_ends _ ending E (is_separator c s) s y e)

  pub effect_exact : (c : Comma) (ending : Sight → Option Place) → Ends ending → Exact (er.effect types room c ending) (eg.effect types room c ending) (begins_unary types) (bad_unary types room (er.nested types room) (eg.nested types room) M 0) (λ y s. false)
  unfolding er.effect
  effect_exact c ending E =
      seq (unary_exact types room (er.nested types room) (eg.nested types room) M 0)
      (λ x. token_then (eg.effect_token types c room ending x) (after_effect_exact c ending E x))
      (unary_solid types room (er.nested types room) (eg.nested types room) M 0)
      (λ u x d s e. meant x s (meant_taken (eg.effect_token types c room ending x s) e))
      (λ u x d s e. meant x s (meant_blamed (eg.effect_token types c room ending x s) e))
      (λ u x y d d' s e. absurd (seq_solid (phrase.one (eg.effect_token types c room ending x)) (eg.after_effect types room c ending x) (token_solid (eg.effect_token types c room ending x)) y d'))
    where
      meant : (x : Operand) (s : Sight) → is_meant (eg.effect_token types c room ending x s) ≡ true → goes_on_unary x.end s ≡ false
      meant x s e = effect_meant types c room ending x s (λ h. or_fails_left (is_postfix_kind s.token.kind) (is_infix_kind s.token.kind) (ap (λ (z : TokenKind). is_postfix_kind z || is_infix_kind z) (mark_kind E.mark s.token.kind (E.is_it s h)) ∙ E.goes_on)) e

  pub effect_solid : (c : Comma) (ending : Sight → Option Place) (x : CExpr) → (eg.effect types room c ending).reads [] x → ⊥
  effect_solid c ending x d = seq_solid (eg.unary types room (eg.nested types room) 0) (λ y. phrase.◌>>=◌ (phrase.one (eg.effect_token types c room ending y)) (eg.after_effect types room c ending y)) (unary_solid types room (er.nested types room) (eg.nested types room) M 0) x d

  -- "(" expr ")"
  value_end_meant : (c : Comma) (ending : Sight → Option Place) → Ends ending → (x : Operand) (s : Sight) → is_meant (g.value_end types c room ending x s) ≡ true → goes_on x.end s ≡ false
  value_end_meant c ending E x s e = value_ends _ ending E (is_separator c s) s x e

  pub inner_condition_exact : Exact (r.inner_condition types room) (g.inner_condition types room) (λ s. true) (λ s. true) (λ y s. false)
  unfolding r.inner_condition
  inner_condition_exact = closed_any (g.value_end types comma.LeftOut room close_paren) g.tree_of (λ y s. false) (N.exact Whole comma.LeftOut 0) (λ u x d s e. value_end_meant comma.LeftOut close_paren paren_ends x s e)

  -- [effect] and [expr], with the token behind
  no_value_exact : (ending : Sight → Option Place) → Exact (r.no_value types ending) (g.no_value types ending) (λ s. is_taken (g.ending_token ending s)) (λ s. is_blamed (g.ending_token ending s)) (λ y s. false)
  unfolding r.no_value
  no_value_exact ending = token_then (g.ending_token ending) (λ _. nothing None (λ y s. false))

  no_value_solid : (ending : Sight → Option Place) (x : Option CExpr) → (g.no_value types ending).reads [] x → ⊥
  no_value_solid ending x d = seq_solid (phrase.one (g.ending_token ending)) (λ _. phrase.pure None) (token_solid (g.ending_token ending)) x d

  ending_meant : (ending : Sight → Option Place) (s : Sight) → is_meant (g.ending_token ending s) ≡ true → is_ending ending s ≡ true
  ending_meant ending s e = closing_meant (ending s) e

  ending_sure : (ending : Sight → Option Place) (s : Sight) → is_ending ending s ≡ true → (g.no_value types ending).front (s ∷ [])
  ending_sure ending s e = let x = there_some (ending s) e in inl (inr (s, x.0, refl, ap (λ (z : Option Place). found_or 0 z) x.1))

  begins_ending : (ending : Sight → Option Place) → Ends ending → (s : Sight) → begins_unary types s ≡ true → is_ending ending s ≡ false
  begins_ending ending E s e = go (is_ending ending s) refl
    where
      go : (a : Bool) → is_ending ending s ≡ a → a ≡ false
      go true f = absurd (true≢false (sym (E.is_it s f) ∙ mark_begins types E.mark s E.begins e))
      go false f = refl

  some_effect_exact : (ending : Sight → Option Place) → Ends ending → Exact (r.some_effect types room ending) (g.some_effect types room ending) (begins_unary types) (bad_unary types room (er.nested types room) (eg.nested types room) M 0) (λ y s. false)
  unfolding r.some_effect
  some_effect_exact ending E = made (λ (x : CExpr). Some x) (λ y s. false) (effect_exact comma.LeftOut ending E) (λ u x d s e. refl)

  pub for_effect_exact : (ending : Sight → Option Place) → Ends ending → Exact (r.for_effect types room ending) (g.for_effect types room ending) (λ s. true) (λ s. true) (λ y s. false)
  unfolding r.for_effect
  for_effect_exact ending E =
      loose
      (either_sure (is_ending ending) (no_value_exact ending) (some_effect_exact ending E) (no_value_solid ending)
      (λ s e. ending_meant ending s (meant_taken (g.ending_token ending s) e)) (λ s e. ending_meant ending s (meant_blamed (g.ending_token ending s) e))
      (ending_sure ending) (begins_ending ending E)
      (λ x d. absurd (seq_solid (eg.effect types room comma.LeftOut ending) (λ y. phrase.pure (Some y)) (effect_solid comma.LeftOut ending) x d)))

  some_value_exact : (c : Comma) (ending : Sight → Option Place) → Ends ending → Exact (r.some_value types room c ending) (g.some_value types room c ending) (begins_unary types) (λ s. true) (λ y s. false)
  unfolding r.some_value
  some_value_exact c ending E = closed (g.value_end types c room ending) g.some_tree (λ y s. false) (N.exact Whole c 0) (N.solid Whole c 0) (λ u x d s e. value_end_meant c ending E x s e)

  pub value_exact : (c : Comma) (ending : Sight → Option Place) → Ends ending → Exact (r.value types room c ending) (g.value types room c ending) (λ s. true) (λ s. true) (λ y s. false)
  unfolding r.value
  value_exact c ending E =
      loose
      (either_sure (is_ending ending) (no_value_exact ending) (some_value_exact c ending E) (no_value_solid ending)
      (λ s e. ending_meant ending s (meant_taken (g.ending_token ending s) e)) (λ s e. ending_meant ending s (meant_blamed (g.ending_token ending s) e))
      (ending_sure ending) (begins_ending ending E)
      (λ x d. absurd (seq_solid (eg.nested types (suc room) Whole c 0) (λ y. phrase.◌>>=◌ (phrase.one (g.value_end types c room ending y)) (λ _. phrase.pure (g.some_tree y))) (N.solid Whole c 0) x d)))

  -- local declarations
  local_value_exact : (x : ReadDeclarator) → Exact (r.local_value types room x) (g.local_value types room x) (λ s. is_taken (g.equal_token s)) (λ s. is_blamed (g.equal_token s)) more_local
  unfolding r.local_value
  local_value_exact x =
      token_then g.equal_token
      (λ place. made (g.local_with x place) more_local (barring (g.list_of_values room) (N.exact Whole comma.Separates 0) (N.solid Whole comma.Separates 0)) (λ u y d s e. e))

  local_value_solid : (x : ReadDeclarator) (y : ReadLocal) → (g.local_value types room x).reads [] y → ⊥
  local_value_solid x y d = seq_solid (phrase.one g.equal_token) (λ place. phrase.◌>>=◌ (phrase.barring (g.list_of_values room) (eg.nested types (suc room) Whole comma.Separates 0)) (λ z. phrase.pure (g.local_with x place z))) (token_solid g.equal_token) y d

  equal_meant : (s : Sight) → is_meant (g.equal_token s) ≡ true → is_mark p.Equal s ≡ true
  equal_meant s e = closing_place (is_mark p.Equal s) s e

  local_rest_exact : (x : ReadDeclarator) → Exact (r.local_rest types room x) (g.local_rest types room x) (is_mark p.Equal) (is_mark p.Equal) more_local
  unfolding r.local_rest
  local_rest_exact x =
      wider
      (either (is_mark p.Equal) (local_value_exact x) (nothing (g.local_alone x) more_local) (local_value_solid x)
      (λ s e. equal_meant s (meant_taken (g.equal_token s) e)) (λ s e. equal_meant s (meant_blamed (g.equal_token s) e))
      (λ s e. absurd (true≢false (sym e))) (λ s e. absurd (true≢false (sym e)))
      (λ y d s e. or_fails_left (is_mark p.Equal s) (goes_on_declarator of.Object x.end s) (subst (λ (z : ReadLocal). more_local z s ≡ false) d.1 e)))
      (is_mark p.Equal) (is_mark p.Equal) more_local
      (λ s e. or_cases (is_taken (g.equal_token s)) false e (λ h. equal_meant s (meant_taken (g.equal_token s) h)) (λ h. absurd (true≢false (sym h))))
      (λ s e. or_cases (is_blamed (g.equal_token s)) false e (λ h. equal_meant s (meant_blamed (g.equal_token s) h)) (λ h. absurd (true≢false (sym h))))
      (λ y s e. e)

  pub local_exact : Exact (r.local types room) (g.local types room) begins_dtor (W.bad_dtor of.Object 0) more_local
  unfolding r.local
  local_exact =
      seq (W.dtor of.Object 0) local_rest_exact (W.named_solid of.Object refl 0)
      (λ u x d s e. mark_ends p.Equal of.Object x.end s refl e) (λ u x d s e. mark_ends p.Equal of.Object x.end s refl e)
      (λ u x y d d' s e. nil x y d' s e)
    where
      nil : (x : ReadDeclarator) (y : ReadLocal) → (g.local_rest types room x).reads [] y → (s : Sight) → more_local y s ≡ false → goes_on_declarator of.Object x.end s ≡ false
      nil x y (inl d) s e = absurd (local_value_solid x y d)
      nil x y (inr d) s e = or_fails_right (is_mark p.Equal s) (goes_on_declarator of.Object x.end s) (subst (λ (z : ReadLocal). more_local z s ≡ false) d.1 e)

  pub local_solid : (x : ReadLocal) → (g.local types room).reads [] x → ⊥
  local_solid x d = seq_solid ((tg.within types (suc room)).dtor of.Object 0) (g.local_rest types room) (W.named_solid of.Object refl 0) x d

  locals_exact : Exact (r.locals types room) (g.locals types room) begins_dtor (W.bad_dtor of.Object 0) more_locals
  unfolding r.locals
  locals_exact =
      separated (λ _. g.comma_token) (λ _. is_mark p.Comma) g.plus_local g.first_local more_locals
      local_exact (λ _. local_exact) local_solid
      (λ xs s e. closing_place (is_mark p.Comma s) s e)
      (λ u x d s e. mark_ends_local p.Comma x.end s refl refl refl e) (λ xs u x d s e. mark_ends_local p.Comma x.end s refl refl refl e)
      (λ xs s e. or_fails_left (is_mark p.Comma s) (more_end xs.end s) e)
      (λ u x d s e. or_fails_right (is_mark p.Comma s) (more_end x.end s) e) (λ xs u x d s e. or_fails_right (is_mark p.Comma s) (more_end x.end s) e)

  locals_solid : (x : Locals) → (g.locals types room).reads [] x → ⊥
  locals_solid x d = seq_solid (g.local types room) (λ first. phrase.folded g.plus_local (λ _. phrase.◌>>◌ (phrase.one g.comma_token) (g.local types room)) (g.first_local first)) local_solid x d

  locals_of_exact : (x : ReadSpecifiers) → Exact (r.locals_of types room x) (g.locals_of types room x) begins_dtor (W.bad_dtor of.Object 0) (λ y s. false)
  unfolding r.locals_of
  locals_of_exact x = closed (λ (xs : Locals). g.locals_end types room xs.end) (g.declared x) (λ y s. false) locals_exact locals_solid (λ u xs d s e. locals_end_meant types room xs s e)

  pub local_declaration_exact : Exact (r.local_declaration types room) (g.local_declaration types room) (begins_specs types) (W.bad_specs 0) (λ y s. false)
  unfolding r.local_declaration
  local_declaration_exact =
      seq (W.specs 0) locals_of_exact (W.specs_solid 0)
      (λ u x d s e. more_specifier x s (specifier_dtor s e)) (λ u x d s e. W.clear 0 u x d of.Object s e)
      (λ u x y d d' s e. absurd (seq_solid (g.locals types room) (λ all. phrase.◌>>=◌ (phrase.one (g.locals_end types room all.end)) (λ _. phrase.pure (g.declared x all))) locals_solid y d'))

  local_declaration_solid : (x : LocalDeclaration) → (g.local_declaration types room).reads [] x → ⊥
  local_declaration_solid x d = seq_solid ((tg.within types (suc room)).specs 0) (g.locals_of types room) (W.specs_solid 0) x d

  -- items of a block
  pub declared_item_exact : Exact (r.declared_item types room) (g.declared_item types room) (begins_declaration types) (begins_declaration types) (λ y s. false)
  unfolding r.declared_item
  declared_item_exact =
      wider
      (made g.declaration_item (λ y s. false) (barring (no_declaration types) local_declaration_exact local_declaration_solid) (λ u x d s e. refl))
      (begins_declaration types) (begins_declaration types) (λ y s. false)
      (λ s e. declaration_passes types s (begins_specs types s) e) (λ s e. declaration_blamed types s (W.bad_specs 0 s) e) (λ x s e. e)

  pub declared_item_solid : (x : ReadItem) → (g.declared_item types room).reads [] x → ⊥
  declared_item_solid x d = seq_solid (phrase.barring (no_declaration types) (g.local_declaration types room)) (λ y. phrase.pure (g.declaration_item y)) (λ y e. local_declaration_solid y e.1) x d

  pub declared_item_front : (s : Sight) → begins_declaration types s ≡ true → (g.declared_item types room).front (s ∷ [])
  unfolding tg.within
  declared_item_front s e = inl (declaration_none types s e, inl (specs_front types room (tg.within types room) s (and_left (begins_specs types s) (not (is_label s)) e)))
