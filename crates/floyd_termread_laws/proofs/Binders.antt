-- Sorts and binders have one answer.
use Rattle.std.proofs.Common.{◌≡◌, ℕ, ◌+◌, ◌-◌, ◌≤◌, Bool, true, false, List, [], ◌∷◌, length, Ok, Err, sym, ◌∙◌, ap, arith}
use Rattle.floyd_text.specs.declared.refusal.Refusal.{Refusal}
use Rattle.floyd_lex.specs.declared.kinds.Punctuator.TheVariants as p
use Rattle.floyd_lex.specs.Token.{Token, TokenList}
use Rattle.floyd_grammar.specs.declared.stop.Fault.{Fault}
use Rattle.floyd_grammar.specs.Phrase.{Phrase}
use Rattle.floyd_grammar.specs.ParseClauses.{Parser}
use Rattle.floyd_grammar.specs.Refused.{IsRefused}
use Rattle.floyd_grammar.proofs.Exact.{Exact, Halts, same_value, same_rest}
use Rattle.floyd_grammar.proofs.OneFault.{one_refusal}
use Rattle.floyd_termread_tokens.specs.SeenClauses.{tokens_from}
use Rattle.floyd_termread_tokens.specs.Tokens.{is_mark}
use Rattle.floyd_termread_tokens.proofs.SeenLemmas.{count_from}
use Rattle.floyd_termread_sorts.specs.Sorts as g
use Rattle.floyd_termread_sorts.specs.SortClauses as r
use Rattle.floyd_termread_grammar.specs.Reading.{refusal_before}
use Rattle.floyd_termread_binders.specs.Binders.{Ends, ReadsBefore, refusal_of, IsReadAs, binder_list}
use Rattle.floyd_termread_binders.proofs.ReadingLemmas.{sort_reader, list_parser, list_reader}
use Rattle.floyd_termread_scope.specs.WrittenSorts.{written_sort}
use Rattle.floyd_termread_phrases.specs.Reads.{Answer, pure}
use Rattle.floyd_termread_phrases.specs.Laws.{OneAnswer}
use Rattle.floyd_termread_marks.specs.declared.words.AssertionWord.TheVariants as a
use Rattle.floyd_termread_marks.specs.Marks.{is_word, mark, word, place_at}
use Rattle.floyd_termread_parts.specs.Objects.{given}
use Rattle.floyd_termread_assertions.specs.Existentials.{unreadable, with_sorts, sort_row, sort, binder_rows, binders, existentials_behind, existentials}
use Rattle.floyd_termread_laws.proofs.Chains.{pure_once, in_turn, given_once, if_next_once, mark_once, word_once}

abbrev read_up_to : {A : Type 0} → A → ℕ → Answer A
read_up_to x n = Ok (x, n)

-- what an exact reader reads of a phrase
module _ {A : Type 0} (p : Parser Token A) (g : Phrase Token A) (more : Token → Bool) (E : Exact p g (λ t. true) (λ t. true) (λ x t. more t)) (bytes : List ℕ) (list : TokenList) (at : ℕ) where
  halts : (rest : List Token) → Ends more rest → Halts more rest
  halts [] e = tt
  halts (t ∷ ts) e = e

  answered : (rest : List Token) (x : A) → ReadsBefore g more (tokens_from bytes list at) rest x → p (tokens_from bytes list at) ≡ Ok (x, rest)
  answered rest x d = ap p d.cut ∙ E.reads d.front x rest d.reads (halts rest d.ends)

  same_number : (n m : ℕ) → n ≤ length list.items → m ≤ length list.items → tokens_from bytes list n ≡ tokens_from bytes list m → n ≡ m
  same_number n m a b e = omega (arith, a, b, count_from bytes list n, count_from bytes list m, ap length e)

  read_once : (x y : A) (n m : ℕ) → IsReadAs g more bytes list at (Ok (x, n)) → IsReadAs g more bytes list at (Ok (y, m)) → read_up_to x n ≡ read_up_to y m
  read_once x y n m d e =
      let one = sym (answered (tokens_from bytes list n) x d.2) ∙ answered (tokens_from bytes list m) y e.2 in
      ap (λ (z : A). read_up_to z n) (same_value x y (tokens_from bytes list n) (tokens_from bytes list m) one)
      ∙ ap (read_up_to y) (same_number n m d.1 e.1 (same_rest x y (tokens_from bytes list n) (tokens_from bytes list m) one))

  -- the refusal behind so many tokens
  abbrev said : ℕ → ℕ → Refusal
  said n cause = refusal_before list.file bytes (tokens_from bytes list (at + n)) cause

  said_of : (f : Fault) → refusal_of bytes list at f ≡ said (length (tokens_from bytes list at) - f.left) f.cause
  said_of f = sym (ap (λ (n : ℕ). said (n - f.left) f.cause) (count_from bytes list at))

  refused_once : (f h : Fault) → IsRefused g (tokens_from bytes list at) f → IsRefused g (tokens_from bytes list at) h → refusal_of bytes list at f ≡ refusal_of bytes list at h
  refused_once f h d e = said_of f ∙ one_refusal g (tokens_from bytes list at) said f h d e ∙ sym (said_of h)

  pub phrase_once : (a b : Answer A) → IsReadAs g more bytes list at a → IsReadAs g more bytes list at b → a ≡ b
  phrase_once (Ok x) (Ok y) d e = read_once x.0 y.0 x.1 y.1 d e
  phrase_once (Ok x) (Err s) d e = absurd (e.1 (tokens_from bytes list x.1) x.0 d.2)
  phrase_once (Err r) (Ok y) d e = absurd (d.1 (tokens_from bytes list y.1) y.0 e.2)
  phrase_once (Err r) (Err s) d e = ap (λ (z : Refusal). Err z) (d.3 ∙ refused_once d.0 e.0 d.2 e.2 ∙ sym e.3)

module _ (bytes : List ℕ) (list : TokenList) (depth : ℕ) where
  row_once : OneAnswer (sort_row bytes list depth)
  row_once at = phrase_once (r.sorts (201 - depth) 0) (g.sorts (201 - depth) 0) (λ t. false) (sort_reader depth) bytes list at

  pub sort_once : OneAnswer (sort bytes list depth)
  sort_once at = in_turn (sort_row bytes list depth) (λ row. given (unreadable (place_at bytes list at)) (written_sort row)) (λ row. given_once (unreadable (place_at bytes list at)) (written_sort row)) row_once at

  rows_once : OneAnswer (binder_rows bytes list depth)
  rows_once at = phrase_once (list_parser depth) (binder_list depth) (is_mark p.Comma) (list_reader depth) bytes list at

  pub binders_once : OneAnswer (binders bytes list depth)
  binders_once at = in_turn (binder_rows bytes list depth) (λ rows. given (unreadable (place_at bytes list at)) (with_sorts rows)) (λ rows. given_once (unreadable (place_at bytes list at)) (with_sorts rows)) rows_once at

  behind_once : OneAnswer (existentials_behind bytes list depth)
  behind_once =
      in_turn (word bytes list depth a.Exists) _ (λ x. in_turn (binders bytes list depth) _ (λ xs. in_turn (mark bytes list depth p.Dot) _ (λ y. pure_once xs) (mark_once bytes list depth p.Dot)) binders_once) (word_once bytes list depth a.Exists)

  pub existentials_once : OneAnswer (existentials bytes list depth)
  existentials_once = if_next_once bytes list (is_word a.Exists) (existentials_behind bytes list depth) (pure []) behind_once (pure_once [])
