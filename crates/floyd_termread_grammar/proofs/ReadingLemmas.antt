-- What the tokens from one on are read as.
use Rattle.std.proofs.Common.{◌≡◌, ℕ, ◌+◌, ◌-◌, ◌≤◌, inl, inr, true, List, [], ◌∷◌, ◌++◌, length, drop, Result, Ok, Err, refl, sym, ◌∙◌, ap, subst, length-append, arith}
use Rattle.std.specs.Prelude.{Option, Some, None, slice_get, option_map}
use Rattle.std.proofs.Math.Seq.{drop-append_seam}
use Rattle.std.proofs.lemmas.List.{drop-drop}
use Rattle.floyd_text.specs.declared.place.Place.{Place}
use Rattle.floyd_text.specs.declared.refusal.Refusal.{Refusal}
use Rattle.floyd_text.specs.declared.refusal.Shown.TheVariants.{Nothing}
use Rattle.floyd_text.specs.Refusals.{refusal_at}
use Rattle.floyd_text.specs.Place.{place_at}
use Rattle.floyd_text.specs.declared.code.Code.TheVariants as c
use Rattle.floyd_lex.specs.Token.{Token, TokenList, Lexeme, tokens_in}
use Rattle.floyd_grammar.specs.declared.stop.Fault.{Fault}
use Rattle.floyd_grammar.specs.declared.stop.Stop.{Stop}
use Rattle.floyd_grammar.specs.declared.stop.Stop.TheVariants as stop
use Rattle.floyd_grammar.specs.GivesClauses.{Gives}
use Rattle.floyd_grammar.specs.ParseClauses.{Read, ended_read}
use Rattle.floyd_grammar.specs.Refused.{IsRefused}
use Rattle.floyd_grammar.proofs.Exact.{Exact, Halts, answer≢fault, same_value, same_rest}
use Rattle.floyd_grammar.proofs.OneFault.{one_refusal}
use Rattle.floyd_grammar.proofs.Whole.{all_refused}
use Rattle.floyd_cparse_tokens.proofs.SightLemmas.{there}
use Rattle.floyd_termread_trees.specs.declared.written.Written.{Written}
use Rattle.floyd_termread_trees.specs.declared.written.Written.TheVariants as written
use Rattle.floyd_termread_tokens.specs.SeenClauses.{tokens_from, tokens_until}
use Rattle.floyd_termread_tokens.proofs.SeenLemmas.{count_from}
use Rattle.floyd_termread_grammar.specs.declared.values.Operand.{Operand}
use Rattle.floyd_termread_tables.specs.declared.values.Want.{Want}
use Rattle.floyd_termread_grammar.specs.Reading.{Ends, ReadsUpTo, ReadsNever, cut_count, IsFront, refusal_before, refused_number, code_of, IsCutOff, IsRead, HasOneReading}
use Rattle.floyd_termread_grammar.specs.Terms as g
use Rattle.floyd_termread_grammar.specs.TermClauses as r
use Rattle.floyd_termread_grammar.proofs.TokenSets.{begins, more_chain}
use Rattle.floyd_termread_grammar.proofs.TermExact.{nested_exact, nested_chain}
use Rattle.floyd_termread_grammar.proofs.EndLemmas.{nested_end}
use Rattle.floyd_grammar.proofs.Wider.{wider}

module _ (bytes : List ℕ) (list : TokenList) where
  -- the tokens behind so many of those from one on
  pub behind_is : (at n : ℕ) → drop n (tokens_from bytes list at) ≡ tokens_from bytes list (at + n)
  behind_is at n = drop-drop n at (tokens_in bytes list)

  pub next_of : (at : ℕ) (u rest : List Token) → at ≤ length list.items → tokens_from bytes list at ≡ u ++ rest → length list.items - length rest ≡ at + length u
  next_of at u rest le cut = omega (arith, le, count_from bytes list at, ap length cut, length-append u rest)

  pub rest_is : (at : ℕ) (u rest : List Token) → at ≤ length list.items → tokens_from bytes list at ≡ u ++ rest → tokens_from bytes list (length list.items - length rest) ≡ rest
  rest_is at u rest le cut =
      ap (tokens_from bytes list) (next_of at u rest le cut) ∙ sym (behind_is at (length u)) ∙ ap (drop (length u)) cut ∙ drop-append_seam u rest

  same_number : (n m : ℕ) → n ≤ length list.items → m ≤ length list.items → tokens_from bytes list n ≡ tokens_from bytes list m → n ≡ m
  same_number n m a b e = omega (arith, a, b, count_from bytes list n, count_from bytes list m, ap length e)

  -- the refusal at a token, and at the end
  pub refusal_here : (file behind cause : ℕ) (place : Place) → option_map (λ (x : Lexeme). x.place) (slice_get list.items behind) ≡ Some place → refusal_before file bytes (tokens_from bytes list behind) cause ≡ refusal_at (code_of cause) place Nothing
  refusal_here file behind cause place e = go (slice_get list.items behind) refl
    where
      some_is : (x y : Place) → Some x ≡ Some y → x ≡ y
      some_is x y e = cc

      lexeme_is : (x y : Lexeme) → Some x ≡ Some y → x ≡ y
      lexeme_is x y e = cc

      go : (o : Option Lexeme) → slice_get list.items behind ≡ o → refusal_before file bytes (tokens_from bytes list behind) cause ≡ refusal_at (code_of cause) place Nothing
      go None h = absurd (let n = sym (ap (option_map (λ (z : Lexeme). z.place)) h) ∙ e in cc)
      go (Some x) h =
          let d = there bytes list behind x.kind (ap (option_map (λ (z : Lexeme). z.kind)) h) in
          let same : d.0 ≡ x = lexeme_is d.0 x (sym d.1 ∙ h) in
          let at : x.place ≡ place = some_is x.place place (sym (ap (option_map (λ (z : Lexeme). z.place)) h) ∙ e) in
          ap (λ (z : List Token). refusal_before file bytes z cause) d.3 ∙ ap (λ (z : Lexeme). refusal_at (code_of cause) z.place Nothing) same ∙ ap (λ (z : Place). refusal_at (code_of cause) z Nothing) at

  pub end_here : (behind : ℕ) → length list.items ≤ behind → tokens_from bytes list behind ≡ []
  end_here behind past = none (tokens_from bytes list behind) (omega (arith, past, count_from bytes list behind))
    where
      none : (ts : List Token) → length ts ≡ 0 → ts ≡ []
      none [] e = refl
      none (t ∷ ts) e = absurd (omega (arith, e))

  pub refusal_end : (file behind cause : ℕ) → length list.items ≤ behind → refusal_before file bytes (tokens_from bytes list behind) cause ≡ refusal_at c.UnexpectedInSpec (place_at file bytes (length bytes)) Nothing
  refusal_end file behind cause past = ap (λ (z : List Token). refusal_before file bytes z cause) (end_here behind past)

module _ (depth : ℕ) where
  whole_exact : (wanted : Want) → Exact (r.nested (201 - depth) wanted 0) (g.nested (201 - depth) wanted 0) (begins wanted) (λ t. true) more_chain
  whole_exact wanted = wider ((nested_exact (201 - depth)).exact wanted 0) (begins wanted) (λ t. true) more_chain (λ t e. e) (λ t e. e) (λ x t e. nested_chain wanted x t e)

  halts : (x : Operand) (rest : List Token) → Ends x rest → Halts (more_chain x) rest
  halts x [] e = tt
  halts x (t ∷ ts) e = e

  -- what reads so is answered
  answered : (wanted : Want) (ts rest : List Token) (tree : Written) (d : ReadsUpTo depth wanted ts rest tree) → r.nested (201 - depth) wanted 0 ts ≡ Ok (d.operand, rest)
  answered wanted ts rest tree d = ap (r.nested (201 - depth) wanted 0) d.cut ∙ (whole_exact wanted).reads d.front d.operand rest d.reads (halts d.operand rest d.ends)

  -- what is answered reads so
  pub reads_up_to : (wanted : Want) (ts rest : List Token) (x : Operand) → r.nested (201 - depth) wanted 0 ts ≡ Ok (x, rest) → ReadsUpTo depth wanted ts rest x.tree
  reads_up_to wanted ts rest x e =
      let d = (whole_exact wanted).ok ts x rest e in
      record { front = d.0; operand = x; cut = d.1; reads = d.2; ends = nested_end (201 - depth) wanted 0 ts x rest e; same = refl }

  -- what is refused does not, and is refused there
  pub no_reading : (wanted : Want) (ts : List Token) (fault : Fault) → r.nested (201 - depth) wanted 0 ts ≡ Err fault → ReadsNever depth wanted ts
  no_reading wanted ts fault e rest tree d = answer≢fault (r.nested (201 - depth) wanted 0 ts) d.operand rest fault (answered wanted ts rest tree d) e

  pub refuses : (wanted : Want) (ts : List Token) (fault : Fault) → r.nested (201 - depth) wanted 0 ts ≡ Err fault → IsRefused (g.nested (201 - depth) wanted 0) ts fault
  refuses wanted ts fault e = all_refused (r.nested (201 - depth) wanted 0) (g.nested (201 - depth) wanted 0) (begins wanted) (λ t. true) more_chain (whole_exact wanted) ts fault (ap ended_read e)

  -- a text that is cut off
  pub front_ok : (wanted : Want) (ts rest : List Token) (x : Operand) → r.nested (201 - depth) wanted 0 ts ≡ Ok (x, rest) → IsFront depth wanted ts x.tree
  front_ok wanted ts rest x e = inl (rest, reads_up_to wanted ts rest x e)

  front_err : (wanted : Want) (ts : List Token) (fault : Fault) → r.nested (201 - depth) wanted 0 ts ≡ Err fault → IsFront depth wanted ts written.Missing
  front_err wanted ts fault e = inr (no_reading wanted ts fault e, refl)

  pub front_fault : (wanted : Want) (ts rest : List Token) (s : Stop) {fault : Fault} (n : ℕ) → n ≡ 201 - depth → s ≡ stop.Fault fault → Gives {T = Token} {A = Operand} (Err s) rest (r.nested n wanted 0 ts) → IsFront depth wanted ts written.Missing
  front_fault wanted ts rest s {fault} n same is gives =
      let found : r.nested n wanted 0 ts ≡ Err fault = subst (λ (z : Stop). Gives {T = Token} {A = Operand} (Err z) rest (r.nested n wanted 0 ts)) is gives in
      front_err wanted ts fault (subst (λ (k : ℕ). r.nested k wanted 0 ts ≡ Err fault) same found)

  module _ (bytes : List ℕ) (list : TokenList) where
    -- the reader's answers
    module _ (at : ℕ) (wanted : Want) (within : at ≤ length list.items) (start : List Token) (same : start ≡ tokens_from bytes list at) where
      moved : {o : Read Token Operand} → r.nested (201 - depth) wanted 0 start ≡ o → r.nested (201 - depth) wanted 0 (tokens_from bytes list at) ≡ o
      moved e = sym (ap (r.nested (201 - depth) wanted 0) same) ∙ e

      pub left_small : (x : Operand) (rest : List Token) → r.nested (201 - depth) wanted 0 start ≡ Ok (x, rest) → length rest ≤ length list.items
      left_small x rest e =
          let d = reads_up_to wanted (tokens_from bytes list at) rest x (moved e) in
          omega (arith, within, count_from bytes list at, ap length d.cut, length-append d.front rest)

      pub answer_ok : (x : Operand) (rest : List Token) (next : ℕ) → r.nested (201 - depth) wanted 0 start ≡ Ok (x, rest) → next ≡ length list.items - length rest → IsRead bytes list at depth wanted x.tree (Ok next)
      answer_ok x rest next e n =
          let d = reads_up_to wanted (tokens_from bytes list at) rest x (moved e) in
          let number : next ≡ at + length d.front = n ∙ next_of bytes list at d.front rest within d.cut in
          let here : tokens_from bytes list next ≡ rest = ap (tokens_from bytes list) n ∙ rest_is bytes list at d.front rest within d.cut in
          (omega (arith, number), omega (arith, number, within, count_from bytes list at, ap length d.cut, length-append d.front rest), subst (λ (z : List Token). ReadsUpTo depth wanted (tokens_from bytes list at) z x.tree) (sym here) d)

      pub answer_err : (fault : Fault) (tree : Written) (refusal : Refusal) (end : ℕ) (cut : List Token) → r.nested (201 - depth) wanted 0 start ≡ Err fault → end ≡ refused_number list at fault
          → refusal ≡ refusal_before list.file bytes (tokens_from bytes list end) fault.cause → cut ≡ tokens_until bytes list at end cut_count → IsFront depth wanted cut tree → IsRead bytes list at depth wanted tree (Err refusal)
      answer_err fault tree refusal end cut e number same_refusal same_cut front = record {
        fault = fault;
        never = no_reading wanted (tokens_from bytes list at) fault (moved e);
        refused = refuses wanted (tokens_from bytes list at) fault (moved e);
        same = same_refusal ∙ ap (λ (n : ℕ). refusal_before list.file bytes (tokens_from bytes list n) fault.cause) number;
        front = subst (λ (l : List Token). IsFront depth wanted l tree) (same_cut ∙ ap (λ (n : ℕ). tokens_until bytes list at n cut_count) number) front;
      }

    -- one reading at most
    module _ (at : ℕ) (wanted : Want) where
      same_tree : (ts rest others : List Token) (x y : Written) → ReadsUpTo depth wanted ts rest x → ReadsUpTo depth wanted ts others y → (x ≡ y) × (rest ≡ others)
      same_tree ts rest others x y d e =
          let one = sym (answered wanted ts rest x d) ∙ answered wanted ts others y e in
          (sym d.same ∙ ap (λ (z : Operand). z.tree) (same_value d.operand e.operand rest others one) ∙ e.same, same_rest d.operand e.operand rest others one)

      same_front : (ts : List Token) (x y : Written) → IsFront depth wanted ts x → IsFront depth wanted ts y → x ≡ y
      same_front ts x y (inl d) (inl e) = (same_tree ts d.0 e.0 x y d.1 e.1).0
      same_front ts x y (inl d) (inr e) = absurd (e.0 d.0 x d.1)
      same_front ts x y (inr d) (inl e) = absurd (d.0 e.0 y e.1)
      same_front ts x y (inr d) (inr e) = d.1 ∙ sym e.1

      -- refusals are at one number, for one cause
      number_is : (f h : Fault) → IsRefused (g.nested (201 - depth) wanted 0) (tokens_from bytes list at) f → IsRefused (g.nested (201 - depth) wanted 0) (tokens_from bytes list at) h → refused_number list at f ≡ refused_number list at h
      number_is f h d e =
          sym (ap (λ (n : ℕ). at + (n - f.left)) (count_from bytes list at)) ∙ one_refusal (g.nested (201 - depth) wanted 0) (tokens_from bytes list at) (λ (n cause : ℕ). at + n) f h d e ∙ ap (λ (n : ℕ). at + (n - h.left)) (count_from bytes list at)

      cause_is : (f h : Fault) → IsRefused (g.nested (201 - depth) wanted 0) (tokens_from bytes list at) f → IsRefused (g.nested (201 - depth) wanted 0) (tokens_from bytes list at) h → f.cause ≡ h.cause
      cause_is f h d e = one_refusal (g.nested (201 - depth) wanted 0) (tokens_from bytes list at) (λ (n cause : ℕ). cause) f h d e

      same_cut : (x y : Written) (p q : Refusal) → IsCutOff bytes list at depth wanted x p → IsCutOff bytes list at depth wanted y q → (x ≡ y) × (p ≡ q)
      same_cut x y p q d e =
          let number = number_is d.fault e.fault d.refused e.refused in (
            same_front (tokens_until bytes list at (refused_number list at e.fault) cut_count) x y (subst (λ (n : ℕ). IsFront depth wanted (tokens_until bytes list at n cut_count) x) number d.front) e.front,
            d.same ∙ ap (λ (n : ℕ). refusal_before list.file bytes (tokens_from bytes list n) d.fault.cause) number
                ∙ ap (λ (k : ℕ). refusal_before list.file bytes (tokens_from bytes list (refused_number list at e.fault)) k) (cause_is d.fault e.fault d.refused e.refused) ∙ sym e.same,
          )

      same_reading : (x y : Written) (a b : Result ℕ Refusal) → IsRead bytes list at depth wanted x a → IsRead bytes list at depth wanted y b → (x ≡ y) × (a ≡ b)
      same_reading x y (Ok n) (Ok m) d e =
          let one = same_tree (tokens_from bytes list at) (tokens_from bytes list n) (tokens_from bytes list m) x y d.2 e.2 in
          (one.0, ap (λ (z : ℕ). Ok z) (same_number bytes list n m d.1 e.1 one.1))
      same_reading x y (Ok n) (Err q) d e = absurd (e.never (tokens_from bytes list n) x d.2)
      same_reading x y (Err p) (Ok m) d e = absurd (d.never (tokens_from bytes list m) y e.2)
      same_reading x y (Err p) (Err q) d e = let one = same_cut x y p q d e in (one.0, ap (λ (z : Refusal). Err z) one.1)

pub one_reading : HasOneReading
one_reading bytes list at depth wanted x y a b d e = same_reading depth bytes list at wanted x y a b d e
