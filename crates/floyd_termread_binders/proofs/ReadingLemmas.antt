-- What the tokens from one on are read as.
use Rattle.std.proofs.Common.{◌≡◌, ℕ, ◌+◌, ◌-◌, ◌≤◌, Bool, true, false, List, [], ◌∷◌, length, Ok, Err, refl, sym, ◌∙◌, ap, subst, length-append, arith}
use Rattle.floyd_text.specs.declared.refusal.Refusal.{Refusal}
use Rattle.floyd_lex.specs.declared.kinds.Punctuator.TheVariants as p
use Rattle.floyd_lex.specs.Token.{Token, TokenList}
use Rattle.floyd_grammar.specs.declared.stop.Fault.{Fault}
use Rattle.floyd_grammar.specs.Phrase.{Phrase}
use Rattle.floyd_grammar.specs.ParseClauses.{Parser, Read, leads, ended_read, folded}
use Rattle.floyd_grammar.specs.ParseClauses as parse
use Rattle.floyd_grammar.proofs.Exact.{Exact, Halts, answer≢fault, same_rest}
use Rattle.floyd_grammar.proofs.Seq.{made}
use Rattle.floyd_grammar.proofs.Whole.{all_refused}
use Rattle.floyd_grammar.proofs.Wider.{loose}
use Rattle.floyd_cparse_tokens.proofs.Shrinks.{bind_cases}
use Rattle.floyd_termread_trees.specs.declared.written.Binder.{Binder}
use Rattle.floyd_termread_trees.specs.declared.written.SortItem.{SortItem}
use Rattle.floyd_termread_tokens.specs.SeenClauses.{tokens_from}
use Rattle.floyd_termread_tokens.specs.Tokens.{is_mark}
use Rattle.floyd_termread_tokens.proofs.SeenLemmas.{count_from}
use Rattle.floyd_termread_sorts.specs.declared.values.Binders.{Binders}
use Rattle.floyd_termread_sorts.specs.Sorts as g
use Rattle.floyd_termread_sorts.specs.SortClauses as r
use Rattle.floyd_termread_sorts.proofs.SortExact.{sorts_exact, binders_exact}
use Rattle.floyd_termread_sorts.proofs.SortShrinks.{next_binder_eats}
use Rattle.floyd_termread_grammar.proofs.EndLemmas.{folded_end}
use Rattle.floyd_termread_grammar.proofs.ReadingLemmas.{next_of, rest_is}
use Rattle.floyd_termread_binders.specs.Binders.{Ends, ReadsBefore, refusal_of, IsReadAs, binder_list}

halts : (more : Token → Bool) (rest : List Token) → Ends more rest → Halts more rest
halts more [] e = tt
halts more (t ∷ ts) e = e

-- what an exact reader answers, where it stops before these tokens
module _ {A : Type 0} (p : Parser Token A) (g : Phrase Token A) (more : Token → Bool) (E : Exact p g (λ t. true) (λ t. true) (λ x t. more t)) (stops : (ts : List Token) (x : A) (rest : List Token) → p ts ≡ Ok (x, rest) → Ends more rest)
    (bytes : List ℕ) (list : TokenList) (at : ℕ) (within : at ≤ length list.items) (start : List Token) (same : start ≡ tokens_from bytes list at) where
  moved : {o : Read Token A} → p start ≡ o → p (tokens_from bytes list at) ≡ o
  moved e = sym (ap p same) ∙ e

  reads_before : (x : A) (rest : List Token) → p (tokens_from bytes list at) ≡ Ok (x, rest) → ReadsBefore g more (tokens_from bytes list at) rest x
  reads_before x rest e =
      let d = E.ok (tokens_from bytes list at) x rest e in
      record { front = d.0; cut = d.1; reads = d.2; ends = stops (tokens_from bytes list at) x rest e }

  never : (fault : Fault) → p (tokens_from bytes list at) ≡ Err fault → (rest : List Token) (x : A) → ReadsBefore g more (tokens_from bytes list at) rest x → ⊥
  never fault e rest x d =
      answer≢fault (p (tokens_from bytes list at)) x rest fault (ap p d.cut ∙ E.reads d.front x rest d.reads (halts more rest d.ends)) e

  pub left_small : (x : A) (rest : List Token) → p start ≡ Ok (x, rest) → length rest ≤ length list.items
  left_small x rest e =
      let d = reads_before x rest (moved e) in
      omega (arith, within, count_from bytes list at, ap length d.cut, length-append d.front rest)

  pub answer_ok : (x : A) (rest : List Token) (next : ℕ) → p start ≡ Ok (x, rest) → next ≡ length list.items - length rest → IsReadAs g more bytes list at (Ok (x, next))
  answer_ok x rest next e n =
      let d = reads_before x rest (moved e) in
      let number : next ≡ at + length d.front = n ∙ next_of bytes list at d.front rest within d.cut in
      let here : tokens_from bytes list next ≡ rest = ap (tokens_from bytes list) n ∙ rest_is bytes list at d.front rest within d.cut in
      (omega (arith, number), omega (arith, number, within, count_from bytes list at, ap length d.cut, length-append d.front rest), subst (λ (z : List Token). ReadsBefore g more (tokens_from bytes list at) z x) (sym here) d)

  pub answer_err : (fault : Fault) (refusal : Refusal) → p start ≡ Err fault → refusal ≡ refusal_of bytes list at fault → IsReadAs g more bytes list at (Err refusal)
  answer_err fault refusal e is = (fault, never fault (moved e), all_refused p g (λ t. true) (λ t. true) (λ x t. more t) E (tokens_from bytes list at) fault (ap ended_read (moved e)), is)

-- sorts
pub sort_reader : (depth : ℕ) → Exact (r.sorts (201 - depth) 0) (g.sorts (201 - depth) 0) (λ t. true) (λ t. true) (λ x t. false)
sort_reader depth = (sorts_exact (201 - depth)).exact 0

pub sort_stops : (depth : ℕ) (ts : List Token) (x : List SortItem) (rest : List Token) → r.sorts (201 - depth) 0 ts ≡ Ok (x, rest) → Ends (λ t. false) rest
sort_stops depth ts x [] e = tt
sort_stops depth ts x (t ∷ rest) e = refl

-- binders
abbrev pub list_parser : ℕ → Parser Token (List Binder)
list_parser depth = parse.◌>>=◌ (r.binders (200 - depth) 0 0) (λ (all : Binders). parse.pure all.items)

pub list_reader : (depth : ℕ) → Exact (list_parser depth) (binder_list depth) (λ t. true) (λ t. true) (λ x t. is_mark p.Comma t)
list_reader depth = loose (made (λ (all : Binders). all.items) (λ x t. is_mark p.Comma t) (binders_exact (200 - depth) 0 0) (λ u x d t e. e))

-- behind binders no comma stands
comma_ends : (rest : List Token) → leads (is_mark p.Comma) rest ≡ false → Ends (is_mark p.Comma) rest
comma_ends [] e = tt
comma_ends (t ∷ rest) e = e

binders_stop : (room : ℕ) (ts : List Token) (all : Binders) (rest : List Token) → r.binders room 0 0 ts ≡ Ok (all, rest) → leads (is_mark p.Comma) rest ≡ false
unfolding r.binders
binders_stop room ts all rest e =
    let d = bind_cases (r.binder room 0 0 [] ts) (λ first. folded (λ (all : Binders). is_mark p.Comma) g.plus_binder (r.next_binder room 0) (g.first_binder first)) all rest e in
    (folded_end (λ (all : Binders). is_mark p.Comma) g.plus_binder (r.next_binder room 0) (λ x ts. Unit {0}) (next_binder_eats room 0) (λ x ts y r e. tt) (g.first_binder d.0) d.1 tt all rest d.3).1

pub list_stops : (depth : ℕ) (ts : List Token) (x : List Binder) (rest : List Token) → list_parser depth ts ≡ Ok (x, rest) → Ends (is_mark p.Comma) rest
list_stops depth ts x rest e =
    let d = bind_cases (r.binders (200 - depth) 0 0 ts) (λ (all : Binders). parse.pure all.items) x rest e in
    comma_ends rest (ap (leads (is_mark p.Comma)) (sym (same_rest (d.0).items x d.1 rest d.3)) ∙ binders_stop (200 - depth) ts d.0 d.1 d.2)

-- the list of what is read
pub items_read : (depth : ℕ) (ts : List Token) (o : Read Token Binders) → r.binders (200 - depth) 0 0 ts ≡ o → list_parser depth ts ≡ parse.bind o (λ (all : Binders). parse.pure all.items)
items_read depth ts o e = ap (λ (z : Read Token Binders). parse.bind z (λ (all : Binders). parse.pure all.items)) e
