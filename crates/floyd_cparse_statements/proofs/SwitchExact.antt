-- The readers of the cases of a switch are exact for their grammar.
use Rattle.std.proofs.Common.{◌≡◌, ℕ, Bool, true, false, not, ◌&&◌, ◌||◌, if◌then◌else◌, List, [], ◌∷◌, refl, sym, ◌∙◌, ap, subst, true≢false}
use Rattle.std.specs.Prelude.{Option, Some, None}
use Rattle.floyd_lex.specs.declared.kinds.TokenKind.{TokenKind}
use Rattle.floyd_lex.specs.declared.kinds.TokenKind.TheVariants as k
use Rattle.floyd_lex.specs.declared.kinds.Punctuator.TheVariants as p
use Rattle.floyd_lex.specs.declared.kinds.Keyword.TheVariants as w
use Rattle.floyd_grammar.specs.Phrase.{Phrase}
use Rattle.floyd_grammar.specs.Phrase as phrase
use Rattle.floyd_grammar.specs.ParseClauses.{Parser, is_taken, is_blamed, passes_and, blamed_or}
use Rattle.floyd_grammar.proofs.Exact.{Exact}
use Rattle.floyd_grammar.proofs.Seq.{seq, seq_solid, made, barring}
use Rattle.floyd_grammar.proofs.Repeat.{repeat}
use Rattle.floyd_grammar.proofs.Lists.{closed_any}
use Rattle.floyd_cparse_trees.specs.declared.statements.SwitchCase.{SwitchCase}
use Rattle.floyd_cparse_statements.specs.declared.values.BlockItems.{BlockItems}
use Rattle.floyd_cparse_statements.specs.declared.values.ReadItem.{ReadItem}
use Rattle.floyd_cparse_statements.specs.declared.values.ReadStatement.{ReadStatement}
use Rattle.floyd_cparse_tokens.specs.Tokens.{Sight, Types, is_mark, is_word, is_mark_kind, is_word_kind}
use Rattle.floyd_cparse_statements.specs.Labels.{is_label_word, label_token}
use Rattle.floyd_cparse_statements.specs.Labels as labels
use Rattle.floyd_cparse_statements.specs.Statements as g
use Rattle.floyd_cparse_statements.specs.Statements.{is_taken_else, no_case_item, is_first}
use Rattle.floyd_cparse_statements.specs.StatementClauses as r
use Rattle.floyd_cparse_statements.specs.StatementClauses.{begins_case_item, begins_case}
use Rattle.floyd_cparse_tokens.proofs.TokenLemmas.{apart, or_fails_right, not_true, and-false_right}
use Rattle.floyd_cparse_types.proofs.TypeExact.{closing_place}
use Rattle.floyd_cparse_statements.proofs.StatementSets.{double_not, begins_statement}
use Rattle.floyd_cparse_tokens.proofs.Shrinks.{Eats, exact_eats}
use Rattle.floyd_cparse_statements.proofs.LabelExact.{mark_no_label, not_first, case_opens, case_blames, label_exact, label_solid}
use Rattle.floyd_cparse_statements.proofs.BlockExact.{StatementExact, more_item, stated_item_exact, stated_item_solid, statement_brace}

-- what ends the statements behind a label
abbrev more_case : SwitchCase → Sight → Bool
more_case x s = not (is_mark p.CloseBrace s || is_label_word s)

ends_case : (a b c : Bool) → not (a || b) ≡ false → not (a || (b || c)) ≡ false
ends_case true b c e = refl
ends_case false true c e = refl
ends_case false false c e = absurd (true≢false e)

hides : (a b : Bool) → b ≡ true → not (a || b) ≡ false
hides true b e = refl
hides false b e = rw e refl

else_kinds : (kind : TokenKind) → ((is_mark_kind p.CloseBrace kind || (is_word_kind w.Case kind || is_word_kind w.Default kind)) && is_word_kind w.Else kind) ≡ false
else_kinds (k.Punctuator p.CloseBrace) = refl
else_kinds (k.Keyword w.Case) = refl
else_kinds kind = refl

no_else : (s : Sight) → not (is_mark p.CloseBrace s || is_label_word s) ≡ false → is_word w.Else s ≡ false
no_else s e = apart (is_mark p.CloseBrace s || is_label_word s) (is_word w.Else s) (else_kinds s.token.kind) (double_not _ e)

module _ (types : Types) (room n : ℕ) (rs : Parser Sight ReadStatement) (gs : Phrase Sight ReadStatement) (S : StatementExact types n rs gs) where
  next_case_item_exact : (all : BlockItems) → Exact (r.next_case_item types rs all) (g.next_case_item types gs all) (λ s. passes_and (no_case_item all.takes_else s) (begins_statement types s)) (λ s. blamed_or (no_case_item all.takes_else s) (S.bad s)) more_item
  unfolding r.next_case_item
  next_case_item_exact all = barring (no_case_item all.takes_else) (stated_item_exact types room n rs gs S) (stated_item_solid types room n rs gs S)

  next_case_item_solid : (all : BlockItems) (x : ReadItem) → (g.next_case_item types gs all).reads [] x → ⊥
  next_case_item_solid all x d = stated_item_solid types room n rs gs S x d.1

  pub next_case_item_eats : (all : BlockItems) → Eats (r.next_case_item types rs all)
  next_case_item_eats all = exact_eats (next_case_item_exact all) (next_case_item_solid all)

  case_item_opens : (all : BlockItems) (s : Sight) → passes_and (no_case_item all.takes_else s) (begins_statement types s) ≡ true → begins_case_item all s ≡ true
  case_item_opens all s e = go (is_label_word s || is_taken_else all.takes_else s) e
    where
      go : (a : Bool) → passes_and (if a then Some 0 else None) (begins_statement types s) ≡ true → not (is_mark p.CloseBrace s || a) ≡ true
      go true h = absurd (true≢false (sym h))
      go false h = rw (statement_brace types room n rs gs S s h) refl

  case_item_blames : (all : BlockItems) (s : Sight) → blamed_or (no_case_item all.takes_else s) (S.bad s) ≡ true → begins_case_item all s ≡ true
  case_item_blames all s e = go (is_label_word s || is_taken_else all.takes_else s) e
    where
      go : (a : Bool) → blamed_or (if a then Some 0 else None) (S.bad s) ≡ true → not (is_mark p.CloseBrace s || a) ≡ true
      go true h = absurd (true≢false (sym h))
      go false h = rw (S.brace s h) refl

  case_items_exact : Exact (r.case_items types rs) (g.case_items types gs) (λ s. passes_and (no_case_item false s) (begins_statement types s)) (λ s. blamed_or (no_case_item false s) (S.bad s)) (λ _ s. not (is_mark p.CloseBrace s || is_label_word s))
  unfolding more_item
  case_items_exact =
      repeat begins_case_item g.plus_item (λ _ s. not (is_mark p.CloseBrace s || is_label_word s)) next_case_item_exact next_case_item_solid case_item_opens case_item_blames
      (λ all u x d s e. or_fails_right (is_label_word s) (is_taken_else x.takes_else s) (or_fails_right (is_mark p.CloseBrace s) (is_label_word s || is_taken_else x.takes_else s) (not_true (is_mark p.CloseBrace s || (is_label_word s || is_taken_else x.takes_else s)) e)))
      (λ all s e. ends_case (is_mark p.CloseBrace s) (is_label_word s) (is_taken_else all.takes_else s) e)
      (λ all u x d s e. rw (no_else s e) (and-false_right x.takes_else)) g.no_items

  switch_case_exact : (first : Bool) → Exact (r.switch_case types room rs first) (g.switch_case types room gs first) (λ s. is_taken (label_token types room first s)) (λ s. is_blamed (label_token types room first s)) more_case
  unfolding r.switch_case
  switch_case_exact first = seq (label_exact types room first) (λ label. made (g.case_of label) more_case case_items_exact (λ u x d s e. e)) (label_solid types room first) (λ u x d s e. refl) (λ u x d s e. refl) (λ u x y d d' s e. refl)

  switch_case_solid : (first : Bool) (x : SwitchCase) → (g.switch_case types room gs first).reads [] x → ⊥
  switch_case_solid first x d = seq_solid (labels.switch_label types room first) (λ label. phrase.◌>>=◌ (g.case_items types gs) (λ all. phrase.pure (g.case_of label all))) (label_solid types room first) x d

  pub switch_case_eats : (first : Bool) → Eats (r.switch_case types room rs first)
  switch_case_eats first = exact_eats (switch_case_exact first) (switch_case_solid first)

  later_case : (all : List SwitchCase) (x : SwitchCase) (s : Sight) → begins_case (g.plus_case all x) s ≡ true → more_case x s ≡ false
  later_case all x s e = hides (is_mark p.CloseBrace s) (is_label_word s) (subst (λ (z : Bool). (if z then not (is_mark p.CloseBrace s) else is_label_word s) ≡ true) (not_first all x) e)

  case_stops : (all : List SwitchCase) (s : Sight) → is_mark p.CloseBrace s ≡ true → begins_case all s ≡ false
  case_stops [] s e = rw e refl
  case_stops (c ∷ cs) s e = mark_no_label s e

  pub switch_cases_exact : Exact (r.switch_cases types room rs) (g.switch_cases types room gs) (λ s. true) (λ s. true) (λ y s. false)
  unfolding r.switch_cases
  switch_cases_exact =
      closed_any (λ _. g.brace_end) (λ (all : List SwitchCase). all) (λ y s. false)
      (repeat begins_case g.plus_case (λ _ s. not (is_mark p.CloseBrace s)) (λ all. switch_case_exact (is_first all)) (λ all x d. switch_case_solid (is_first all) x d)
      (λ all s e. case_opens types room all s e) (λ all s e. case_blames types room all s e)
      (λ all u x d s e. later_case all x s e) (λ all s e. case_stops all s (double_not (is_mark p.CloseBrace s) e))
      (λ all u x d s e. rw (double_not (is_mark p.CloseBrace s) e) refl) [])
      (λ u xs d s e. rw (closing_place (is_mark p.CloseBrace s) s e) refl)
