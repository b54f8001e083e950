-- What a call answers behind statements that stood before, by what its steps answered.
use Rattle.std.proofs.Common.{◌≡◌, List, [], refl, ap, sym, ◌∙◌, subst}
use Rattle.std.specs.Prelude.{Result, Ok, Err}
use Rattle.std.specs.Result.{IsErrAnd}
use Rattle.floyd_text.specs.declared.refusal.Refusal.{Refusal}
use Rattle.floyd_text.specs.declared.refusal.Halt.{Halt}
use Rattle.floyd_text.specs.Gives.{Stops, Gives}
use Rattle.floyd_elab_names.specs.Refusing.{Refusing, and_then, ◌>>=◌}
use Rattle.floyd_clight.specs.declared.syntax.Stmt.{Stmt}
use Rattle.floyd_elab_expressions.specs.declared.translation.Translation.{Translation}
use Rattle.floyd_elab_expressions.specs.declared.progress.Progress.{Progress}
use Rattle.floyd_elab_expressions.specs.Clight.{Translated}
use Rattle.floyd_elab_expressions.specs.Progress.{Elaborating}
use Rattle.floyd_elab_expressions.specs.Behind.{behind, onto}
use Rattle.floyd_elab_expressions.proofs.Chains.{onto_followed}
use Rattle.floyd_elab_expressions.proofs.Naturals.{IsNatural, ArePlaced}
use Rattle.floyd_elab_expressions.proofs.Operations.{both, one_goes, one_stops, two_go, two_stop_first, two_stop_second}

abbrev pub Answers : Result Translation Halt → List Stmt → Progress → Result (Translated × Progress) Refusal → Type 0
Answers r out kept wanted = Gives (λ (a : Translation). (behind out a, kept)) r wanted

pub answers_as : (r : Result Translation Halt) (out : List Stmt) (kept : Progress) (v w : Result (Translated × Progress) Refusal) → v ≡ w → Answers r out kept w → Answers r out kept v
answers_as r out kept v w e h = subst (Answers r out kept) (sym e) h

pub answers_stopped : (r : Result Translation Halt) (h : Halt) (out : List Stmt) (kept : Progress) (w : Result (Translated × Progress) Refusal) → IsErrAnd r (λ x. x ≡ h) → Stops h w → Answers r out kept w
answers_stopped (Ok a) h out kept w e g = absurd e
answers_stopped (Err x) h out kept w e g = subst (λ (z : Halt). Stops z w) (sym e) g

-- One operand, and what is done with it.

pub one_answers : (v : Result (Translated × Progress) Refusal) (m : Elaborating Translated) (k : Translated → Elaborating Translated) → IsNatural k → (there : List Stmt) (p q : Progress) (a : Translated) (r : Result Translation Halt) (out : List Stmt) (kept : Progress) → v ≡ (m >>= k) p → onto there (m p) ≡ Ok (a, q) → Answers r out kept (k a q) → Answers r out kept (onto there v)
one_answers v m k natural there p q a r out kept is e h = answers_as r out kept (onto there v) (k a q) (ap (onto there) is ∙ one_goes m k natural there p q a e) h

pub one_halts : (v : Result (Translated × Progress) Refusal) (m : Elaborating Translated) (k : Translated → Elaborating Translated) → IsNatural k → (there : List Stmt) (p : Progress) (h : Halt) (r : Result Translation Halt) (out : List Stmt) (kept : Progress) → v ≡ (m >>= k) p → IsErrAnd r (λ x. x ≡ h) → Stops h (onto there (m p)) → Answers r out kept (onto there v)
one_halts v m k natural there p h r out kept is err e = answers_as r out kept (onto there v) (onto there ((m >>= k) p)) (ap (onto there) is) (answers_stopped r h out kept (onto there ((m >>= k) p)) err (one_stops m k natural there p h e))

-- Two operands.

pub two_answer : (v : Result (Translated × Progress) Refusal) (m n : Elaborating Translated) (k : Translated → Translated → Elaborating Translated) → ArePlaced k → (there : List Stmt) (p q s : Progress) (a b : Translated) (r : Result Translation Halt) (out : List Stmt) (kept : Progress) → v ≡ (m >>= both n k) p → onto there (m p) ≡ Ok (a, q) → onto a.before (n q) ≡ Ok (b, s) → Answers r out kept (k (record a { before = [] }) b s) → Answers r out kept (onto there v)
two_answer v m n k placed there p q s a b r out kept is e g h = answers_as r out kept (onto there v) (k (record a { before = [] }) b s) (ap (onto there) is ∙ two_go m n k placed there p q s a b e g) h

pub first_halts : (v : Result (Translated × Progress) Refusal) (m n : Elaborating Translated) (k : Translated → Translated → Elaborating Translated) → ArePlaced k → (there : List Stmt) (p : Progress) (h : Halt) (r : Result Translation Halt) (out : List Stmt) (kept : Progress) → v ≡ (m >>= both n k) p → IsErrAnd r (λ x. x ≡ h) → Stops h (onto there (m p)) → Answers r out kept (onto there v)
first_halts v m n k placed there p h r out kept is err e = answers_as r out kept (onto there v) (onto there ((m >>= both n k) p)) (ap (onto there) is) (answers_stopped r h out kept (onto there ((m >>= both n k) p)) err (two_stop_first m n k placed there p h e))

pub second_halts : (v : Result (Translated × Progress) Refusal) (m n : Elaborating Translated) (k : Translated → Translated → Elaborating Translated) → ArePlaced k → (there : List Stmt) (p q : Progress) (a : Translated) (h : Halt) (r : Result Translation Halt) (out : List Stmt) (kept : Progress) → v ≡ (m >>= both n k) p → onto there (m p) ≡ Ok (a, q) → IsErrAnd r (λ x. x ≡ h) → Stops h (onto a.before (n q)) → Answers r out kept (onto there v)
second_halts v m n k placed there p q a h r out kept is e err g = answers_as r out kept (onto there v) (onto there ((m >>= both n k) p)) (ap (onto there) is) (answers_stopped r h out kept (onto there ((m >>= both n k) p)) err (two_stop_second m n k placed there p q a h e g))

-- Two steps behind an operand.

pub in_two : {S A B C : Type 0} (r : Result (A × S) Refusal) (f : A → Refusing S B) (g : B → Refusing S C) → and_then (and_then r f) g ≡ and_then r (λ a. f a >>= g)
in_two (Ok r) f g = refl
in_two (Err refusal) f g = refl

pub natural_two : (f g : Translated → Elaborating Translated) → IsNatural f → IsNatural g → IsNatural (λ a. f a >>= g)
natural_two f g first second there a p =
    onto_followed there (f a p) g (λ b s. second there b s)
    ∙ ap (λ (r : Result (Translated × Progress) Refusal). and_then r g) (first there a p)
