-- What an expression of several steps is translated to, by what its steps gave.
use Rattle.std.proofs.Common.{◌≡◌, List, [], ◌++◌, refl, sym, ◌∙◌, subst}
use Rattle.std.specs.Prelude.{Result, Ok, Err}
use Rattle.floyd_text.specs.declared.refusal.Refusal.{Refusal}
use Rattle.floyd_text.specs.declared.refusal.Halt.{Halt}
use Rattle.floyd_text.specs.Gives.{Stops}
use Rattle.floyd_elab_names.specs.Refusing.{and_then, ◌>>=◌}
use Rattle.floyd_clight.specs.declared.syntax.Stmt.{Stmt}
use Rattle.floyd_elab_expressions.specs.declared.progress.Progress.{Progress}
use Rattle.floyd_elab_expressions.specs.Clight.{Translated}
use Rattle.floyd_elab_expressions.specs.Progress.{Elaborating}
use Rattle.floyd_elab_expressions.specs.Behind.{onto}
use Rattle.floyd_elab_expressions.proofs.Chains.{goes, stops, onto_through, onto_followed}
use Rattle.floyd_elab_expressions.proofs.Naturals.{IsNatural, ArePlaced}

-- One operand.

pub one_goes : (m : Elaborating Translated) (k : Translated → Elaborating Translated) → IsNatural k → (there : List Stmt) (p q : Progress) (a : Translated) → onto there (m p) ≡ Ok (a, q) → onto there ((m >>= k) p) ≡ k a q
one_goes m k natural there p q a e = onto_followed there (m p) k (λ b s. natural there b s) ∙ goes (onto there (m p)) k a q e

pub one_stops : (m : Elaborating Translated) (k : Translated → Elaborating Translated) → IsNatural k → (there : List Stmt) (p : Progress) (h : Halt) → Stops h (onto there (m p)) → Stops h (onto there ((m >>= k) p))
one_stops m k natural there p h e = subst (Stops h) (sym (onto_followed there (m p) k (λ b s. natural there b s))) (stops h (onto there (m p)) k e)

-- Two operands.

abbrev pub both : Elaborating Translated → (Translated → Translated → Elaborating Translated) → Translated → Elaborating Translated
both n k a = n >>= λ b. k a b

natural_both : (n : Elaborating Translated) (k : Translated → Translated → Elaborating Translated) → ArePlaced k → IsNatural (both n k)
natural_both n k placed there a p = onto_through there (n p) (k a) (k (record a { before = there ++ a.before })) (λ b s. placed.0 there a b s)

moved : (k : Translated → Translated → Elaborating Translated) → ArePlaced k → (a : Translated) (r : Result (Translated × Progress) Refusal) → and_then r (k a) ≡ and_then (onto a.before r) (k (record a { before = [] }))
moved k placed a (Ok r) = placed.1 a r.0 r.1
moved k placed a (Err refusal) = refl

pub two_go : (m n : Elaborating Translated) (k : Translated → Translated → Elaborating Translated) → ArePlaced k → (there : List Stmt) (p q r : Progress) (a b : Translated) → onto there (m p) ≡ Ok (a, q) → onto a.before (n q) ≡ Ok (b, r) → onto there ((m >>= both n k) p) ≡ k (record a { before = [] }) b r
two_go m n k placed there p q r a b e f =
    one_goes m (both n k) (natural_both n k placed) there p q a e
    ∙ moved k placed a (n q)
    ∙ goes (onto a.before (n q)) (k (record a { before = [] })) b r f

pub two_stop_first : (m n : Elaborating Translated) (k : Translated → Translated → Elaborating Translated) → ArePlaced k → (there : List Stmt) (p : Progress) (h : Halt) → Stops h (onto there (m p)) → Stops h (onto there ((m >>= both n k) p))
two_stop_first m n k placed there p h e = one_stops m (both n k) (natural_both n k placed) there p h e

pub two_stop_second : (m n : Elaborating Translated) (k : Translated → Translated → Elaborating Translated) → ArePlaced k → (there : List Stmt) (p q : Progress) (a : Translated) (h : Halt) → onto there (m p) ≡ Ok (a, q) → Stops h (onto a.before (n q)) → Stops h (onto there ((m >>= both n k) p))
two_stop_second m n k placed there p q a h e f =
    subst (Stops h) (sym (one_goes m (both n k) (natural_both n k placed) there p q a e ∙ moved k placed a (n q)))
    (stops h (onto a.before (n q)) (k (record a { before = [] })) f)
