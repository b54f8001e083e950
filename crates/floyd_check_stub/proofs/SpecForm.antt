-- What a specification reads as, both ways.
use Rattle.std.proofs.Common.{◌≡◌, ℕ, ◌≤◌, true, List, [], ◌∷◌, ◌++◌, refl, sym, ap, ◌∙◌, inl, inr, Option, Some, None}
use Rattle.std.specs.Fmt.{decimal}
use Rattle.std.proofs.lemmas.Bool.{cases_Bool, false≢true}
use Rattle.floyd_lex.specs.Token.{Token}
use Rattle.floyd_check_stub.specs.Forms.{ReadsAs, IsSpec, spec_texts, texts}
use Rattle.floyd_check_stub.specs.ReadingClauses.{after_all, spec_head, spec_end, is_end, spec_after, spec_of}
use Rattle.floyd_check_stub.proofs.Numerals.{int_read, int_given}
use Rattle.floyd_check_stub.proofs.Texts.{after_read, after_given, nil_is}

spec_of_texts : (n : ℕ) → n ≤ 2147483647 → spec_of (spec_texts n) ≡ Some n
spec_of_texts n h = ap spec_after (after_given spec_head (decimal n ∷ spec_end)) ∙ int_given n h

spec_of_read : (ts : List (List ℕ)) (n : ℕ) → spec_of ts ≡ Some n → (ts ≡ spec_texts n) × (n ≤ 2147483647)
spec_of_read ts n e = by_rest (after_all spec_head ts) refl e
  where
    by_end : (x : List ℕ) (us : List (List ℕ)) (o : Option (List (List ℕ))) → after_all spec_end us ≡ o → is_end o ≡ true → us ≡ spec_end
    by_end x us None is e = absurd (false≢true e)
    by_end x us (Some vs) is e = after_read spec_end us vs is ∙ ap (λ (vs : List (List ℕ)). spec_end ++ vs) (nil_is vs e)

    by_rest : (o : Option (List (List ℕ))) → after_all spec_head ts ≡ o → spec_after o ≡ Some n → (ts ≡ spec_texts n) × (n ≤ 2147483647)
    by_rest None is e = absurd cc
    by_rest (Some []) is e = absurd cc
    by_rest (Some (x ∷ us)) is e = elim (cases_Bool (is_end (after_all spec_end us))) [
      | inl k ↦
          let read = int_read x n (rw k at e) in
          let tail = by_end x us (after_all spec_end us) refl k in
          let whole = after_read spec_head ts (x ∷ us) is in
          let number = read.0 in
          (cc, read.1)
      | inr k ↦
          let wrong : None ≡ Some n = rw k at e in
          absurd cc
    ]

pub spec_reads : (ts : List Token) → ReadsAs (IsSpec ts) (spec_of (texts ts))
spec_reads ts = by_answer (spec_of (texts ts)) refl
  where
    by_answer : (o : Option ℕ) → spec_of (texts ts) ≡ o → ReadsAs (IsSpec ts) o
    by_answer None e = λ n h.
        let wrong : None ≡ Some n = sym e ∙ (ap spec_of h.0 ∙ spec_of_texts n h.1) in
        absurd cc
    by_answer (Some n) e = spec_of_read (texts ts) n e

pub same_spec : (ts : List Token) (m n : ℕ) → IsSpec ts m → IsSpec ts n → m ≡ n
same_spec ts m n h k =
    let one : spec_of (texts ts) ≡ Some m = ap spec_of h.0 ∙ spec_of_texts m h.1 in
    let two : spec_of (texts ts) ≡ Some n = ap spec_of k.0 ∙ spec_of_texts n k.1 in
    let both : Some m ≡ Some n = sym one ∙ two in
    cc
