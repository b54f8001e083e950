-- The readers of statements are exact for their grammar at each depth.
use Rattle.std.proofs.Common.{◌≡◌, ℕ, zero, suc, ◌+◌, ◌-◌, ◌≤◌, pred, Bool, true, false, not, ◌&&◌, ◌||◌, if◌then◌else◌, inl, inr, Result, Ok, Err, List, [], ◌∷◌, refl, sym, ◌∙◌, ap, subst, true≢false, zero-le, le-ltb, arith}
use Rattle.std.specs.Prelude.{Option, Some, None}
use Rattle.floyd_text.specs.declared.place.Place.{Place}
use Rattle.floyd_lex.specs.declared.kinds.TokenKind.{TokenKind}
use Rattle.floyd_lex.specs.declared.kinds.TokenKind.TheVariants as k
use Rattle.floyd_lex.specs.declared.kinds.Punctuator.TheVariants as p
use Rattle.floyd_lex.specs.declared.kinds.Keyword.TheVariants as w
use Rattle.floyd_grammar.specs.Phrase.{Phrase}
use Rattle.floyd_grammar.specs.Phrase as phrase
use Rattle.floyd_grammar.specs.ParseClauses.{Parser, is_taken, is_blamed, is_meant, passes_and, blamed_or}
use Rattle.floyd_grammar.specs.ParseClauses as parse
use Rattle.floyd_grammar.proofs.Exact.{Exact, token, token_solid, nothing}
use Rattle.floyd_grammar.proofs.Seq.{seq, seq_open, seq_solid, token_then, made, barring}
use Rattle.floyd_grammar.proofs.Either.{either, either_sure, or_left, or_right}
use Rattle.floyd_grammar.proofs.Wider.{wider, loose}
use Rattle.floyd_grammar.proofs.Repeat.{repeat}
use Rattle.floyd_grammar.proofs.Lists.{closed, closed_any}
use Rattle.floyd_cparse_trees.specs.declared.expressions.CExpr.{CExpr}
use Rattle.floyd_cparse_trees.specs.declared.statements.CStatement.TheVariants as s
use Rattle.floyd_cparse_statements.specs.declared.values.BlockItems.{BlockItems}
use Rattle.floyd_cparse_expressions.specs.declared.values.Comma.TheVariants as comma
use Rattle.floyd_cparse_statements.specs.declared.values.ReadItem.{ReadItem}
use Rattle.floyd_cparse_statements.specs.declared.values.ReadStatement.{ReadStatement}
use Rattle.floyd_cparse_statements.specs.declared.values.StatementStart.{StatementStart}
use Rattle.floyd_cparse_statements.specs.declared.values.StatementStart.TheVariants as start
use Rattle.floyd_cparse_tokens.specs.Tokens.{without_room, is_there, Sight, Types, is_mark, is_word, is_mark_kind, is_word_kind, is_deep, found_or}
use Rattle.floyd_cparse_expressions.specs.Expressions as eg
use Rattle.floyd_cparse_expressions.specs.Expressions.{Level, Whole, Conditional, goes_on, goes_on_unary, is_separator, close_paren}
use Rattle.floyd_cparse_expressions.specs.ExpressionClauses as er
use Rattle.floyd_cparse_statements.specs.Statements as g
use Rattle.floyd_cparse_statements.specs.Statements.{semicolon, label, is_label, begins_declaration, no_declaration, start_of_statement, statement_token, is_taken_else, taken_else}
use Rattle.floyd_cparse_statements.specs.StatementClauses as r
use Rattle.floyd_cparse_statements.specs.StatementClauses.{begins_item, begins_started, begins_else, is_ending}
use Rattle.floyd_cparse_tokens.proofs.TokenLemmas.{and_left, and_right, and_both, or_cases, or_fails_right, not_true, mark_kind, and-false_right, closing_meant}
use Rattle.floyd_cparse_types.proofs.TypeSets.{specs_brace, begins_specs}
use Rattle.floyd_cparse_types.proofs.TypeExact.{meant_taken, meant_blamed, closing_place}
use Rattle.floyd_cparse_expressions.proofs.ExpressionSets.{begins_unary, mark_begins}
use Rattle.floyd_cparse_expressions.proofs.ExpressionExact.{nested_exact, bad_unary}
use Rattle.floyd_cparse_statements.proofs.StatementSets.{closed_paren, double_not, is_start_kind, start_by_kind, there_some, begins_statement, more_statement, unary_start, statement_declares, passes_begins, while_meant}
use Rattle.floyd_cparse_tokens.proofs.Shrinks.{Eats, exact_eats}
use Rattle.floyd_cparse_statements.proofs.StatementExact.{semicolon_ends, paren_ends, effect_exact, effect_solid, inner_condition_exact, for_effect_exact, value_exact, declared_item_exact, declared_item_solid, declared_item_front}
use Rattle.floyd_cparse_statements.proofs.BlockExact.{StatementExact, block_items_exact}
use Rattle.floyd_cparse_statements.proofs.SwitchExact.{switch_cases_exact}

-- `room` is left, and the readers one and two words further in are exact
module _ (types : Types) (room : ℕ) (ri rj : Parser Sight ReadStatement) (gi gj : Phrase Sight ReadStatement) (I : StatementExact types room ri gi) (J : (n : ℕ) × StatementExact types n rj gj) where
  parenthesised_exact : (count : ℕ) → Exact (r.parenthesised types room count) (g.parenthesised types room count) (λ s. is_taken (eg.open_token types room count s)) (λ s. is_blamed (eg.open_token types room count s)) (λ y s. false)
  unfolding r.parenthesised
  parenthesised_exact count = token_then (eg.open_token types room count) (λ _. inner_condition_exact types (room - (count + 1)))

  parenthesised_solid : (count : ℕ) (x : CExpr) → (g.parenthesised types room count).reads [] x → ⊥
  parenthesised_solid count x d = seq_solid (phrase.one (eg.open_token types room count)) (λ _. g.inner_condition types (room - (count + 1))) (token_solid (eg.open_token types room count)) x d

  -- if
  else_meant : (body : ReadStatement) (s : Sight) → is_meant (g.else_token body s) ≡ true → begins_else body s ≡ true
  else_meant body s e = closing_place (is_word w.Else s && not body.takes_else) s e

  with_else_exact : (place : Place) (condition : CExpr) (body : ReadStatement) → Exact (r.with_else types room ri rj place condition body) (g.with_else types room gi gj place condition body) (λ s. is_taken (g.else_token body s)) (λ s. is_blamed (g.else_token body s)) more_statement
  unfolding r.with_else
  with_else_exact place condition body = token_then (g.else_token body) (λ _. made (g.if_else place condition body) more_statement J.1.exact (λ u x d s e. e))

  with_else_solid : (place : Place) (condition : CExpr) (body x : ReadStatement) → (g.with_else types room gi gj place condition body).reads [] x → ⊥
  with_else_solid place condition body x d = seq_solid (phrase.one (g.else_token body)) (λ _. phrase.◌>>=◌ gj (λ y. phrase.pure (g.if_else place condition body y))) (token_solid (g.else_token body)) x d

  after_if_exact : (place : Place) (condition : CExpr) (body : ReadStatement) → Exact (r.after_if types room ri rj place condition body) (g.after_if types room gi gj place condition body) (begins_else body) (begins_else body) more_statement
  unfolding r.after_if
  after_if_exact place condition body =
      wider
      (either (begins_else body) (with_else_exact place condition body) (nothing (g.if_alone place condition body) more_statement) (with_else_solid place condition body)
      (λ s e. else_meant body s (meant_taken (g.else_token body s) e)) (λ s e. else_meant body s (meant_blamed (g.else_token body s) e))
      (λ s e. absurd (true≢false (sym e))) (λ s e. absurd (true≢false (sym e)))
      (λ x d s e. rw (subst (λ (z : ReadStatement). more_statement z s ≡ false) d.1 e) refl))
      (begins_else body) (begins_else body) more_statement
      (λ s e. or_cases (is_taken (g.else_token body s)) false e (λ h. else_meant body s (meant_taken (g.else_token body s) h)) (λ h. absurd (true≢false (sym h))))
      (λ s e. or_cases (is_blamed (g.else_token body s)) false e (λ h. else_meant body s (meant_blamed (g.else_token body s) h)) (λ h. absurd (true≢false (sym h))))
      (λ x s e. e)

  else_apart : (body : ReadStatement) (s : Sight) → begins_else body s ≡ true → more_statement body s ≡ false
  else_apart body s e = rw (not_true body.takes_else (and_right (is_word w.Else s) (not body.takes_else) e)) refl

  if_exact : (place : Place) → Exact (r.if_statement types room ri rj place) (g.if_statement types room gi gj place) (λ s. true) (λ s. true) more_statement
  unfolding r.if_statement
  if_exact place =
      loose
      (seq (parenthesised_exact 1)
      (λ condition. seq I.exact (after_if_exact place condition) I.solid (λ u x d s e. else_apart x s e) (λ u x d s e. else_apart x s e) (λ u x y d d' s e. nil condition x y d' s e))
      (parenthesised_solid 1) (λ u x d s e. refl) (λ u x d s e. refl) (λ u x y d d' s e. refl))
    where
      nil : (condition : CExpr) (x y : ReadStatement) → (g.after_if types room gi gj place condition x).reads [] y → (s : Sight) → more_statement y s ≡ false → more_statement x s ≡ false
      nil condition x y (inl d) s e = absurd (with_else_solid place condition x y d)
      nil condition x y (inr d) s e =
          let other : is_word w.Else s ≡ false = subst (λ (z : ReadStatement). more_statement z s ≡ false) d.1 e in
          rw other (and-false_right x.takes_else)

  while_exact : (place : Place) → Exact (r.while_statement types room ri rj place) (g.while_statement types room gi gj place) (λ s. true) (λ s. true) more_statement
  unfolding r.while_statement
  while_exact place =
      loose
      (seq (parenthesised_exact 1) (λ condition. made (g.while_of place condition) more_statement I.exact (λ u x d s e. e))
      (parenthesised_solid 1) (λ u x d s e. refl) (λ u x d s e. refl) (λ u x y d d' s e. refl))

  do_condition_exact : (body : ReadStatement) → Exact (r.do_condition types room ri rj body) (g.do_condition types room gi gj body) (λ s. is_taken (g.while_token types room 1 s)) (λ s. is_blamed (g.while_token types room 1 s)) more_statement
  unfolding r.do_condition
  do_condition_exact body =
      token_then (g.while_token types room 1)
      (λ place. closed (λ _. g.semicolon_token types room 1) (g.do_of body place) more_statement (parenthesised_exact 1) (parenthesised_solid 1) (λ u x d s e. refl))

  do_condition_solid : (body x : ReadStatement) → (g.do_condition types room gi gj body).reads [] x → ⊥
  do_condition_solid body x d = seq_solid (phrase.one (g.while_token types room 1)) (λ place. phrase.◌>>=◌ (g.parenthesised types room 1) (λ condition. phrase.◌>>=◌ (phrase.one (g.semicolon_token types room 1)) (λ _. phrase.pure (g.do_of body place condition)))) (token_solid (g.while_token types room 1)) x d

  do_exact : Exact (r.do_statement types room ri rj) (g.do_statement types room gi gj) (λ s. true) (λ s. true) more_statement
  unfolding r.do_statement
  do_exact =
      loose
      (seq I.exact do_condition_exact I.solid
      (λ u x d s e. while_meant types room x s (I.left u x d) (meant_taken (g.while_token types room 1 s) e))
      (λ u x d s e. while_meant types room x s (I.left u x d) (meant_blamed (g.while_token types room 1 s) e))
      (λ u x y d d' s e. absurd (do_condition_solid x y d')))

  for_exact : (place : Place) → Exact (r.for_statement types room ri rj place) (g.for_statement types room gi gj place) (λ s. true) (λ s. true) more_statement
  unfolding r.for_statement
  for_exact place =
      loose
      (token_then (eg.open_token types room 1)
      (λ _. behind (for_effect_exact types (room - 2) semicolon semicolon_ends)
      (λ first. behind (value_exact types (room - 2) comma.LeftOut semicolon semicolon_ends)
      (λ condition. behind (for_effect_exact types (room - 2) close_paren paren_ends)
      (λ third. loose (made (g.for_of place first condition third) more_statement I.exact (λ u x d s e. e)))))))
    where
      behind : {A B : Type 0} {pa : Parser Sight A} {ga : Phrase Sight A} {first bad : Sight → Bool} {q : A → Parser Sight B} {h : A → Phrase Sight B} {more : B → Sight → Bool}
          → Exact pa ga first bad (λ x s. false) → ((x : A) → Exact (q x) (h x) (λ s. true) (λ s. true) more) → Exact (parse.◌>>=◌ pa q) (phrase.◌>>=◌ ga h) (λ s. true) (λ s. true) more
      behind E F = seq_open E F (λ u x d s e. refl) (λ u x d s e. refl) (λ u x y d d' s e. refl) (λ s. true) (λ s. true) (λ s e. refl) (λ s e. refl) (λ x d s e. refl) (λ x d s e. refl)

  -- switch
  switch_exact : (place : Place) → Exact (r.switch_statement types room ri rj place) (g.switch_statement types room gi gj place) (λ s. true) (λ s. true) more_statement
  unfolding r.switch_statement
  switch_exact place =
      loose
      (seq (parenthesised_exact 1)
      (λ value. token_then (g.brace_token types room 1) (λ _. made (g.switch_of place value) more_statement (switch_cases_exact types (pred (pred room)) J.0 rj gj J.1) (λ u x d s e. refl)))
      (parenthesised_solid 1) (λ u x d s e. refl) (λ u x d s e. refl) (λ u x y d d' s e. refl))

  after_start_exact : (x : StatementStart) → Exact (r.after_start types room ri rj x) (g.after_start types room gi gj x) (λ s. true) (λ s. true) more_statement
  unfolding r.after_start
  after_start_exact start.Block = made g.block more_statement (block_items_exact types (pred room) room ri gi I) (λ u x d s e. refl)
  after_start_exact start.Empty = loose (nothing (g.whole_statement s.Empty) more_statement)
  after_start_exact (start.If place) = if_exact place
  after_start_exact (start.While place) = while_exact place
  after_start_exact start.Do = do_exact
  after_start_exact (start.For place) = for_exact place
  after_start_exact (start.Switch place) = switch_exact place
  after_start_exact start.Break = loose (token_then (g.semicolon_token types room 0) (λ _. nothing (g.whole_statement s.Break) more_statement))
  after_start_exact start.Continue = loose (token_then (g.semicolon_token types room 0) (λ _. nothing (g.whole_statement s.Continue) more_statement))
  after_start_exact (start.Return place) = made (g.return_of place) more_statement (value_exact types room comma.Plain semicolon semicolon_ends) (λ u x d s e. refl)

  started_exact : Exact (r.started types room ri rj) (g.started types room gi gj) (λ s. is_taken (statement_token room s)) (λ s. is_blamed (statement_token room s)) more_statement
  unfolding r.started
  started_exact = token_then (statement_token room) after_start_exact

  started_solid : (x : ReadStatement) → (g.started types room gi gj).reads [] x → ⊥
  started_solid x d = seq_solid (phrase.one (statement_token room)) (g.after_start types room gi gj) (token_solid (statement_token room)) x d

  started_meant : (s : Sight) → is_meant (statement_token room s) ≡ true → begins_started room s ≡ true
  started_meant s e = go (is_deep room 0 s) e
    where
      go : (a : Bool) → is_meant (if a then Err 0 else found_or 0 (start_of_statement s)) ≡ true → (is_there (start_of_statement s) && not a) ≡ true
      go true h = absurd (true≢false (sym h))
      go false h = and_both (is_there (start_of_statement s)) true (closing_meant (start_of_statement s) h) refl

  started_unblamed : (s : Sight) → is_blamed (statement_token room s) ≡ true → ⊥
  started_unblamed s e = go (is_deep room 0 s) (start_of_statement s) e
    where
      go : (a : Bool) (o : Option StatementStart) → is_blamed (if a then Err 0 else found_or 0 o) ≡ true → ⊥
      go true o h = true≢false (sym h)
      go false None h = true≢false (sym h)
      go false (Some x) h = true≢false (sym h)

  started_front : (s : Sight) → begins_started room s ≡ true → (g.started types room gi gj).front (s ∷ [])
  started_front s e =
      let x = there_some (start_of_statement s) (and_left (is_there (start_of_statement s)) (not (is_deep room 0 s)) e) in
      inl (inr (s, x.0, refl, taken (is_deep room 0 s) (not_true (is_deep room 0 s) (and_right (is_there (start_of_statement s)) (not (is_deep room 0 s)) e)) x.0 x.1))
    where
      taken : (a : Bool) → a ≡ false → (x : StatementStart) → start_of_statement s ≡ Some x → (if a then Err 0 else found_or 0 (start_of_statement s)) ≡ Ok x
      taken true n x f = absurd (true≢false n)
      taken false n x f = ap (λ (z : Option StatementStart). found_or 0 z) f

  abbrev bad_effect : Sight → Bool
  bad_effect s = blamed_or (label s) (bad_unary types room (er.nested types room) (eg.nested types room) (nested_exact types room) 0 s)

  effect_statement_exact : Exact (r.effect_statement types room ri rj) (g.effect_statement types room gi gj) (λ s. passes_and (label s) (begins_unary types s)) bad_effect more_statement
  unfolding r.effect_statement
  effect_statement_exact = made g.effect_of more_statement (barring label (effect_exact types room comma.Plain semicolon semicolon_ends) (effect_solid types room comma.Plain semicolon)) (λ u x d s e. refl)

  effect_statement_solid : (x : ReadStatement) → (g.effect_statement types room gi gj).reads [] x → ⊥
  effect_statement_solid x d = seq_solid (phrase.barring label (eg.effect types room comma.Plain semicolon)) (λ y. phrase.pure (g.effect_of y)) (λ y e. effect_solid types room comma.Plain semicolon y e.1) x d

  pub statement_exact : Exact (r.statement types room ri rj) (g.statement types room gi gj) (begins_statement types) bad_effect more_statement
  unfolding r.statement
  statement_exact =
      wider
      (either_sure (begins_started room) started_exact effect_statement_exact started_solid
      (λ s e. started_meant s (meant_taken (statement_token room s) e)) (λ s e. started_meant s (meant_blamed (statement_token room s) e))
      started_front
      (λ s e. rw (unary_start types s (passes_begins (label s) (begins_unary types s) e)) refl)
      (λ x d. absurd (effect_statement_solid x d)))
      (begins_statement types) bad_effect more_statement
      (λ s e. or_cases (is_taken (statement_token room s)) (passes_and (label s) (begins_unary types s)) e
      (λ h. or_left (is_there (start_of_statement s)) (begins_unary types s) (and_left (is_there (start_of_statement s)) (not (is_deep room 0 s)) (started_meant s (meant_taken (statement_token room s) h))))
      (λ h. or_right (is_there (start_of_statement s)) (begins_unary types s) (passes_begins (label s) (begins_unary types s) h)))
      (λ s e. or_cases (is_blamed (statement_token room s)) (bad_effect s) e (λ h. absurd (started_unblamed s h)) (λ h. h))
      (λ x s e. e)

  pub statement_solid : (x : ReadStatement) → (g.statement types room gi gj).reads [] x → ⊥
  statement_solid x (inl d) = started_solid x d
  statement_solid x (inr d) = effect_statement_solid x d

  pub effect_brace : (s : Sight) → bad_effect s ≡ true → is_mark p.CloseBrace s ≡ false
  unfolding bad_unary
  effect_brace s e = go (is_mark p.CloseBrace s) refl
    where
      never : s.token.kind ≡ k.Punctuator p.CloseBrace → bad_effect s ≡ false
      never h = rw (closed_paren types s.token s.behind (ap (is_mark_kind p.OpenParen) h), h, le-ltb (room + 1) 0 zero-le) refl

      go : (a : Bool) → is_mark p.CloseBrace s ≡ a → a ≡ false
      go true f = absurd (true≢false (sym e ∙ never (mark_kind p.CloseBrace s.token.kind f)))
      go false f = refl

-- Statements at each depth.
bottom_brace : (s : Sight) → is_blamed (let o : Result ReadStatement ℕ = Err (without_room 0 s) in o) ≡ true → is_mark p.CloseBrace s ≡ false
bottom_brace s e = go (is_mark p.CloseBrace s) refl
  where
    go : (c : Bool) → is_mark p.CloseBrace s ≡ c → c ≡ false
    go true f = absurd (true≢false (sym e ∙ rw (mark_kind p.CloseBrace s.token.kind f) refl))
    go false f = refl

no_statement_exact : (types : Types) → StatementExact types 0 (r.no_statement) (g.no_statement)
unfolding r.no_statement
no_statement_exact types = record {
  bad = λ s. is_blamed (let o : Result ReadStatement ℕ = Err (without_room 0 s) in o);
  exact = wider (token (λ s. Err (without_room 0 s))) (begins_statement types) (λ s. is_blamed (let o : Result ReadStatement ℕ = Err (without_room 0 s) in o)) more_statement (λ s e. absurd (true≢false (sym e))) (λ s e. e) (λ x s e. absurd (true≢false (sym e)));
  solid = λ x d. token_solid (λ s. Err (without_room 0 s)) x d;
  brace = bottom_brace;
  left = λ u x d. absurd cc;
}

statement_at : (types : Types) (room : ℕ) (ri rj : Parser Sight ReadStatement) (gi gj : Phrase Sight ReadStatement) → StatementExact types room ri gi → (n : ℕ) × StatementExact types n rj gj → StatementExact types (suc room) (r.statement types room ri rj) (g.statement types room gi gj)
statement_at types room ri rj gi gj I J = record {
  bad = bad_effect types room ri rj gi gj I J;
  exact = statement_exact types room ri rj gi gj I J;
  solid = statement_solid types room ri rj gi gj I J;
  brace = effect_brace types room ri rj gi gj I J;
  left = λ u x d. omega arith;
}

pub statements_exact : (types : Types) (n : ℕ) → StatementExact types n (r.statements types n) (g.statements types n)
unfolding r.statements g.statements
statements_exact types zero = no_statement_exact types
statements_exact types (suc zero) = statement_at types zero r.no_statement r.no_statement g.no_statement g.no_statement (no_statement_exact types) (0, no_statement_exact types)
statements_exact types (suc (suc room)) = statement_at types (suc room) (r.statements types (suc room)) (r.statements types room) (g.statements types (suc room)) (g.statements types room) (statements_exact types (suc room)) (room, statements_exact types room)
