-- What is read where one of two is chosen.
use Rattle.std.proofs.Common.{◌≡◌, ℕ, Bool, true, false, sym, subst}
use Rattle.floyd_termread_phrases.specs.Reads.{Answer, Reads}
use Rattle.floyd_termread_marks.specs.Marks.{chosen}

module _ {A : Type 0} (first second : Reads A) (t : Bool) (at : ℕ) (answer : Answer A) where
  pub is_first : t ≡ true → first at answer → chosen t first second at answer
  is_first e read = subst (λ (b : Bool). chosen b first second at answer) (sym e) read

  pub is_second : t ≡ false → second at answer → chosen t first second at answer
  is_second e read = subst (λ (b : Bool). chosen b first second at answer) (sym e) read
