-- The readers of the items of a block are exact for their grammar.
use Rattle.std.proofs.Common.{◌≡◌, ℕ, zero, suc, ◌+◌, ◌-◌, ◌≤◌, pred, Bool, true, false, not, ◌&&◌, ◌||◌, if◌then◌else◌, inl, inr, Result, Ok, Err, List, [], ◌∷◌, refl, sym, ◌∙◌, ap, subst, true≢false, zero-le, le-ltb, arith}
use Rattle.std.specs.Prelude.{Option, Some, None}
use Rattle.floyd_text.specs.declared.place.Place.{Place}
use Rattle.floyd_lex.specs.declared.kinds.TokenKind.{TokenKind}
use Rattle.floyd_lex.specs.declared.kinds.TokenKind.TheVariants as k
use Rattle.floyd_lex.specs.declared.kinds.Punctuator.TheVariants as p
use Rattle.floyd_lex.specs.declared.kinds.Keyword.TheVariants as w
use Rattle.floyd_grammar.specs.Phrase.{Phrase}
use Rattle.floyd_grammar.specs.Phrase as phrase
use Rattle.floyd_grammar.specs.ParseClauses.{Parser, is_taken, is_blamed, is_meant, passes_and, blamed_or}
use Rattle.floyd_grammar.specs.ParseClauses as parse
use Rattle.floyd_grammar.proofs.Exact.{Exact, token, token_solid, nothing}
use Rattle.floyd_grammar.proofs.Seq.{seq, seq_open, seq_solid, token_then, made, barring}
use Rattle.floyd_grammar.proofs.Either.{either, either_sure, or_left, or_right}
use Rattle.floyd_grammar.proofs.Wider.{wider, loose}
use Rattle.floyd_grammar.proofs.Repeat.{repeat}
use Rattle.floyd_grammar.proofs.Lists.{closed, closed_any}
use Rattle.floyd_cparse_trees.specs.declared.expressions.CExpr.{CExpr}
use Rattle.floyd_cparse_trees.specs.declared.statements.CStatement.TheVariants as s
use Rattle.floyd_cparse_statements.specs.declared.values.BlockItems.{BlockItems}
use Rattle.floyd_cparse_expressions.specs.declared.values.Comma.TheVariants as comma
use Rattle.floyd_cparse_statements.specs.declared.values.ReadItem.{ReadItem}
use Rattle.floyd_cparse_statements.specs.declared.values.ReadStatement.{ReadStatement}
use Rattle.floyd_cparse_statements.specs.declared.values.StatementStart.{StatementStart}
use Rattle.floyd_cparse_statements.specs.declared.values.StatementStart.TheVariants as start
use Rattle.floyd_cparse_tokens.specs.Tokens.{without_room, is_there, Sight, Types, is_mark, is_word, is_mark_kind, is_word_kind, is_deep, found_or}
use Rattle.floyd_cparse_expressions.specs.Expressions as eg
use Rattle.floyd_cparse_expressions.specs.Expressions.{Level, Whole, Conditional, goes_on, goes_on_unary, is_separator, close_paren}
use Rattle.floyd_cparse_expressions.specs.ExpressionClauses as er
use Rattle.floyd_cparse_statements.specs.Statements as g
use Rattle.floyd_cparse_statements.specs.Statements.{semicolon, label, is_label, begins_declaration, no_declaration, start_of_statement, statement_token, is_taken_else, taken_else}
use Rattle.floyd_cparse_statements.specs.StatementClauses as r
use Rattle.floyd_cparse_statements.specs.StatementClauses.{begins_item, begins_started, begins_else, is_ending}
use Rattle.floyd_cparse_tokens.proofs.TokenLemmas.{and_left, and_right, and_both, or_cases, or_fails_right, not_true, mark_kind, and-false_right, closing_meant}
use Rattle.floyd_cparse_types.proofs.TypeSets.{specs_brace, begins_specs}
use Rattle.floyd_cparse_types.proofs.TypeExact.{meant_taken, meant_blamed, closing_place}
use Rattle.floyd_cparse_expressions.proofs.ExpressionSets.{begins_unary, mark_begins}
use Rattle.floyd_cparse_expressions.proofs.ExpressionExact.{nested_exact, bad_unary}
use Rattle.floyd_cparse_statements.proofs.StatementSets.{closed_paren, double_not, is_start_kind, start_by_kind, there_some, begins_statement, more_statement, unary_start, statement_declares, passes_begins, while_meant}
use Rattle.floyd_cparse_tokens.proofs.Shrinks.{Eats, exact_eats}
use Rattle.floyd_cparse_statements.proofs.StatementExact.{semicolon_ends, paren_ends, effect_exact, effect_solid, inner_condition_exact, for_effect_exact, value_exact, declared_item_exact, declared_item_solid, declared_item_front}

-- what the readers of statements one word or brace further in keep to
pub record StatementExact (types : Types) (n : ℕ) (rs : Parser Sight ReadStatement) (gs : Phrase Sight ReadStatement) : Type 0 where
  pub bad : Sight → Bool
  pub exact : Exact rs gs (begins_statement types) bad more_statement
  pub solid : (x : ReadStatement) → gs.reads [] x → ⊥
  pub brace : (s : Sight) → bad s ≡ true → is_mark p.CloseBrace s ≡ false
  -- where one reads, room was left
  pub left : (u : List Sight) (x : ReadStatement) → gs.reads u x → 1 ≤ n

unfoldable pub more_item : ReadItem → Sight → Bool
more_item x s = is_taken_else x.takes_else s

module _ (types : Types) (room n : ℕ) (rs : Parser Sight ReadStatement) (gs : Phrase Sight ReadStatement) (S : StatementExact types n rs gs) where
  pub stated_item_exact : Exact (r.stated_item types rs) (g.stated_item types gs) (begins_statement types) S.bad more_item
  unfolding r.stated_item more_item
  stated_item_exact = made g.statement_item (λ (x : ReadItem) s. is_taken_else x.takes_else s) S.exact (λ u x d s e. e)

  pub stated_item_solid : (x : ReadItem) → (g.stated_item types gs).reads [] x → ⊥
  stated_item_solid x d = seq_solid gs (λ y. phrase.pure (g.statement_item y)) S.solid x d

  begins_block_item : Sight → Bool
  begins_block_item s = begins_declaration types s || begins_statement types s

  bad_block_item : Sight → Bool
  bad_block_item s = begins_declaration types s || S.bad s

  block_item_exact : Exact (r.block_item types room rs) (g.block_item types room gs) begins_block_item bad_block_item more_item
  unfolding r.block_item begins_block_item bad_block_item more_item
  block_item_exact =
      either_sure (begins_declaration types)
      (wider (declared_item_exact types room) (begins_declaration types) (begins_declaration types) (λ (x : ReadItem) s. is_taken_else x.takes_else s) (λ s e. e) (λ s e. e) (λ x s e. absurd (true≢false (sym e))))
      stated_item_exact (declared_item_solid types room) (λ s e. e) (λ s e. e) (declared_item_front types room)
      (λ s e. statement_declares types s e) (λ x d. absurd (stated_item_solid x d))

  block_item_solid : (x : ReadItem) → (g.block_item types room gs).reads [] x → ⊥
  block_item_solid x (inl d) = declared_item_solid types room x d
  block_item_solid x (inr d) = stated_item_solid x d

  pub block_item_eats : Eats (r.block_item types room rs)
  block_item_eats = exact_eats block_item_exact block_item_solid

  next_item_exact : (all : BlockItems) → Exact (r.next_item types room rs all) (g.next_item types room gs all) (λ s. passes_and (taken_else all.takes_else s) (begins_block_item s)) (λ s. blamed_or (taken_else all.takes_else s) (bad_block_item s)) more_item
  unfolding r.next_item
  next_item_exact all = barring (taken_else all.takes_else) block_item_exact block_item_solid

  declaration_brace : (s : Sight) → begins_declaration types s ≡ true → is_mark p.CloseBrace s ≡ false
  declaration_brace s e = specs_brace types s (and_left (begins_specs types s) (not (is_label s)) e)

  pub statement_brace : (s : Sight) → begins_statement types s ≡ true → is_mark p.CloseBrace s ≡ false
  statement_brace s e = go (is_mark p.CloseBrace s) refl
    where
      go : (a : Bool) → is_mark p.CloseBrace s ≡ a → a ≡ false
      go true f =
          or_cases (is_there (start_of_statement s)) (begins_unary types s) e
          (λ h. absurd (true≢false (sym (start_by_kind s h) ∙ ap is_start_kind (mark_kind p.CloseBrace s.token.kind f))))
          (λ h. absurd (true≢false (sym f ∙ mark_begins types p.CloseBrace s refl h)))
      go false f = refl

  first_brace : (s : Sight) → begins_block_item s ≡ true → is_mark p.CloseBrace s ≡ false
  unfolding begins_block_item
  first_brace s e = or_cases (begins_declaration types s) (begins_statement types s) e (declaration_brace s) (statement_brace s)

  bad_brace : (s : Sight) → bad_block_item s ≡ true → is_mark p.CloseBrace s ≡ false
  unfolding bad_block_item
  bad_brace s e = or_cases (begins_declaration types s) (S.bad s) e (declaration_brace s) (S.brace s)

  item_opens : (all : BlockItems) (s : Sight) → passes_and (taken_else all.takes_else s) (begins_block_item s) ≡ true → begins_item all s ≡ true
  item_opens all s e = go (is_taken_else all.takes_else s) e
    where
      go : (a : Bool) → passes_and (if a then Some 0 else None) (begins_block_item s) ≡ true → not (is_mark p.CloseBrace s || a) ≡ true
      go true h = absurd (true≢false (sym h))
      go false h = rw (first_brace s h) refl

  item_blames : (all : BlockItems) (s : Sight) → blamed_or (taken_else all.takes_else s) (bad_block_item s) ≡ true → begins_item all s ≡ true
  item_blames all s e = go (is_taken_else all.takes_else s) e
    where
      go : (a : Bool) → blamed_or (if a then Some 0 else None) (bad_block_item s) ≡ true → not (is_mark p.CloseBrace s || a) ≡ true
      go true h = absurd (true≢false (sym h))
      go false h = rw (bad_brace s h) refl

  pub block_items_exact : Exact (r.block_items types room rs) (g.block_items types room gs) (λ s. true) (λ s. true) (λ y s. false)
  unfolding r.block_items more_item
  block_items_exact =
      closed_any (λ _. g.brace_end) g.items_of (λ y s. false)
      (repeat begins_item g.plus_item (λ _ s. not (is_mark p.CloseBrace s)) next_item_exact (λ all x d. block_item_solid x d.1) item_opens item_blames
      (λ all u x d s e. or_fails_right (is_mark p.CloseBrace s) (is_taken_else x.takes_else s) (not_true (is_mark p.CloseBrace s || is_taken_else x.takes_else s) e))
      (λ all s e. rw (double_not (is_mark p.CloseBrace s) e) refl)
      (λ all u x d s e. subst (λ (z : TokenKind). (x.takes_else && is_word_kind w.Else z) ≡ false) (sym (mark_kind p.CloseBrace s.token.kind (double_not (is_mark p.CloseBrace s) e))) (and-false_right x.takes_else)) g.no_items)
      (λ u xs d s e. rw (closing_place (is_mark p.CloseBrace s) s e) refl)
