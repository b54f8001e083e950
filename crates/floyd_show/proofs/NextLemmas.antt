-- The next statement among those that are left.
use Rattle.std.proofs.Common.{◌≡◌, ◌<◌, List, [], ◌∷◌, length, Option, Some, None, drop, refl, ap, sym, ◌∙◌, arith}
use Rattle.std.specs.Prelude.{slice_get}
use Rattle.std.proofs.lemmas.Option.{get_or_from_slice_get}
use Rattle.floyd_clight.specs.declared.syntax.Stmt.{Stmt, Seq, Seq', Row_of-Stmt, end_of-Stmt, more_of-Stmt}
use Rattle.floyd_clight.specs.Words.{Shown, Ends, either, first_word, first_in, first_of, next_word, or_end}
use Rattle.floyd_clight.proofs.WordLaws.{first_seq}
use Rattle.floyd_show.specs.NextClauses.{unless_end}

neither : (a b : Option Shown) → (a ≡ Some Ends → ⊥) → (b ≡ Some Ends → ⊥) → either a b ≡ Some Ends → ⊥
neither None b f g e = g e
neither (Some a) b f g e = f e

-- no statement has the word of an end
mutual
  no_end : (s : Stmt) → first_word s ≡ Some Ends → ⊥
  no_end (Seq' shape all) e = no_end_in all e
  no_end s e = cc

  no_end_in : {n : _} (all : Row_of-Stmt n) → first_in all ≡ Some Ends → ⊥
  no_end_in end_of-Stmt e = cc
  no_end_in (more_of-Stmt s rest) e = neither (first_word s) (first_in rest) (no_end s) (no_end_in rest) e

no_end_of : (ss : List Stmt) → first_of ss ≡ Some Ends → ⊥
no_end_of [] e = cc
no_end_of (s ∷ ss) e = neither (first_word s) (first_of ss) (no_end s) (no_end_of ss) e

kept_at : (o : Option Shown) → (o ≡ Some Ends → ⊥) → unless_end (or_end o) ≡ o
kept_at None n = refl
kept_at (Some Ends) n = absurd (n refl)
kept_at (Some w) n = refl

-- the word of a sequence
pub seq_word : (parts : List Stmt) → unless_end (next_word parts) ≡ first_word (Seq parts)
seq_word parts = kept_at (first_of parts) (no_end_of parts) ∙ sym (first_seq parts)

first_of_two : (left : List Stmt) (s : Stmt) → slice_get left 0 ≡ Some s → first_of left ≡ either (first_word s) (first_of (drop 1 left))
first_of_two [] s e = absurd cc
first_of_two (x ∷ xs) s e = ap (λ y. either (first_word y) (first_of xs)) (get_or_from_slice_get (x ∷ xs) 0 s s e)

-- a statement with a word is the next one
pub found : (left : List Stmt) (s : Stmt) (w : Shown) → slice_get left 0 ≡ Some s → Some w ≡ first_word s → next_word left ≡ w
found left s w e q = ap or_end (first_of_two left s e ∙ ap (λ o. either o (first_of (drop 1 left))) (sym q))

-- one without is passed over
pub passed : (left : List Stmt) (s : Stmt) → slice_get left 0 ≡ Some s → None ≡ first_word s → next_word (drop 1 left) ≡ next_word left
passed left s e q = sym (ap or_end (first_of_two left s e ∙ ap (λ o. either o (first_of (drop 1 left))) (sym q)))

pub none_left : (left : List Stmt) → slice_get left 0 ≡ None → next_word left ≡ Ends
none_left [] e = refl
none_left (x ∷ xs) e = absurd cc

pub fewer : (left : List Stmt) (s : Stmt) → slice_get left 0 ≡ Some s → length (drop 1 left) < length left
fewer [] s e = absurd cc
fewer (x ∷ xs) s e = omega arith
