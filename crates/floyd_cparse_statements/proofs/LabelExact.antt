-- The readers of the labels of a switch are exact for their grammar.
use Rattle.std.proofs.Common.{◌≡◌, ℕ, ◌+◌, Bool, true, false, not, ◌&&◌, ◌||◌, if◌then◌else◌, Result, List, [], ◌∷◌, ◌++◌, refl, sym, ◌∙◌, ap, true≢false, zero-le, le-ltb}
use Rattle.std.specs.Prelude.{Option, Some, None}
use Rattle.floyd_lex.specs.declared.kinds.TokenKind.{TokenKind}
use Rattle.floyd_lex.specs.declared.kinds.TokenKind.TheVariants as k
use Rattle.floyd_lex.specs.declared.kinds.Punctuator.TheVariants as p
use Rattle.floyd_lex.specs.declared.kinds.Keyword.TheVariants as w
use Rattle.floyd_grammar.specs.Phrase as phrase
use Rattle.floyd_grammar.specs.ParseClauses.{is_taken, is_blamed}
use Rattle.floyd_grammar.proofs.Exact.{Exact, token_solid, nothing}
use Rattle.floyd_grammar.proofs.Seq.{seq_solid, token_then}
use Rattle.floyd_grammar.proofs.Wider.{loose}
use Rattle.floyd_grammar.proofs.Lists.{closed}
use Rattle.floyd_cparse_trees.specs.declared.statements.SwitchCase.{SwitchCase}
use Rattle.floyd_cparse_trees.specs.declared.statements.SwitchLabel.{SwitchLabel}
use Rattle.floyd_cparse_trees.specs.declared.statements.SwitchLabel.TheVariants as switch
use Rattle.floyd_cparse_statements.specs.declared.values.CaseStart.{CaseStart}
use Rattle.floyd_cparse_statements.specs.declared.values.CaseStart.TheVariants as case
use Rattle.floyd_cparse_statements.specs.declared.values.LabelStart.{LabelStart}
use Rattle.floyd_cparse_statements.specs.declared.values.LabelStart.TheVariants as word
use Rattle.floyd_cparse_tokens.specs.Tokens.{is_there, Sight, Types, is_mark, is_word, is_mark_kind, is_word_kind}
use Rattle.floyd_cparse_statements.specs.Labels as g
use Rattle.floyd_cparse_statements.specs.Labels.{start_of_label, is_label_word}
use Rattle.floyd_cparse_statements.specs.LabelClauses as r
use Rattle.floyd_cparse_statements.specs.Statements.{is_first}
use Rattle.floyd_cparse_statements.specs.StatementClauses.{begins_case}
use Rattle.floyd_cparse_tokens.proofs.TokenLemmas.{apart, mark_kind, closing_taken, closing_blamed}

-- a label begins with one of its words, which are no marks
label_by_word : (s : Sight) → is_there (start_of_label s) ≡ true → is_label_word s ≡ true
label_by_word s e = go (is_word w.Case s) (is_word w.Default s) e
  where
    go : (a b : Bool) → is_there (if a then Some word.Case else if b then Some (word.Default s.token.place) else None) ≡ true → (a || b) ≡ true
    go true b h = refl
    go false true h = refl
    go false false h = absurd (true≢false (sym h))

label_mark_kinds : (kind : TokenKind) → ((is_word_kind w.Case kind || is_word_kind w.Default kind) && is_mark_kind p.CloseBrace kind) ≡ false
label_mark_kinds (k.Keyword w.Case) = refl
label_mark_kinds kind = refl

label_no_mark : (s : Sight) → is_label_word s ≡ true → is_mark p.CloseBrace s ≡ false
label_no_mark s e = apart (is_label_word s) (is_mark p.CloseBrace s) (label_mark_kinds s.token.kind) e

pub mark_no_label : (s : Sight) → is_mark p.CloseBrace s ≡ true → is_label_word s ≡ false
mark_no_label s e = ap (λ (z : TokenKind). is_word_kind w.Case z || is_word_kind w.Default z) (mark_kind p.CloseBrace s.token.kind e)

-- which cases begin with which tokens
pub not_first : (all : List SwitchCase) (x : SwitchCase) → is_first (all ++ x ∷ []) ≡ false
not_first [] x = refl
not_first (c ∷ cs) x = refl

module _ (types : Types) (room : ℕ) where
  pub case_opens : (all : List SwitchCase) (s : Sight) → is_taken (g.label_token types room (is_first all) s) ≡ true → begins_case all s ≡ true
  case_opens [] s e = rw (label_no_mark s (label_by_word s (closing_taken _ (start_of_label s) e))) refl
  case_opens (c ∷ cs) s e = label_by_word s (closing_taken _ (start_of_label s) e)

  pub case_blames : (all : List SwitchCase) (s : Sight) → is_blamed (g.label_token types room (is_first all) s) ≡ true → begins_case all s ≡ true
  case_blames [] s e = go (is_mark p.CloseBrace s) refl
    where
      never : s.token.kind ≡ k.Punctuator p.CloseBrace → is_blamed (g.label_token types room true s) ≡ false
      never h = rw (h, le-ltb (room + 1) 0 zero-le) refl

      go : (a : Bool) → is_mark p.CloseBrace s ≡ a → not (is_mark p.CloseBrace s) ≡ true
      go true f = absurd (true≢false (sym e ∙ never (mark_kind p.CloseBrace s.token.kind f)))
      go false f = rw f refl
  case_blames (c ∷ cs) s e = absurd (closing_blamed 0 (start_of_label s) e refl)

  -- labels
  after_case_exact : (x : CaseStart) → Exact (r.after_case types room x) (g.after_case types room x) (λ s. true) (λ s. true) (λ y s. false)
  unfolding r.after_case
  after_case_exact case.Minus = loose (token_then (g.literal_token types room) (λ x. nothing (g.case_label true x) (λ y s. false)))
  after_case_exact (case.Literal x) = loose (nothing (g.case_label false x) (λ y s. false))

  after_label_word_exact : (x : LabelStart) → Exact (r.after_label_word types room x) (g.after_label_word types room x) (λ s. true) (λ s. true) (λ y s. false)
  unfolding r.after_label_word
  after_label_word_exact word.Case = loose (token_then (g.case_token types room) after_case_exact)
  after_label_word_exact (word.Default place) = loose (nothing (switch.Default place) (λ y s. false))

  label_name_exact : (first : Bool) → Exact (r.label_name types room first) (g.label_name types room first) (λ s. is_taken (g.label_token types room first s)) (λ s. is_blamed (g.label_token types room first s)) (λ y s. false)
  unfolding r.label_name
  label_name_exact first = token_then (g.label_token types room first) after_label_word_exact

  label_name_solid : (first : Bool) (x : SwitchLabel) → (g.label_name types room first).reads [] x → ⊥
  label_name_solid first x d = seq_solid (phrase.one (g.label_token types room first)) (g.after_label_word types room) (token_solid (g.label_token types room first)) x d

  pub label_exact : (first : Bool) → Exact (r.switch_label types room first) (g.switch_label types room first) (λ s. is_taken (g.label_token types room first s)) (λ s. is_blamed (g.label_token types room first s)) (λ y s. false)
  unfolding r.switch_label
  label_exact first = closed (λ _. g.colon_token types room) (λ (x : SwitchLabel). x) (λ y s. false) (label_name_exact first) (label_name_solid first) (λ u x d s e. refl)

  pub label_solid : (first : Bool) (x : SwitchLabel) → (g.switch_label types room first).reads [] x → ⊥
  label_solid first x d = seq_solid (g.label_name types room first) (λ label. phrase.◌>>=◌ (phrase.one (g.colon_token types room)) (λ _. phrase.pure label)) (label_name_solid first) x d
