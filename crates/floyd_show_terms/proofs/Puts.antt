-- What was put in several goes.
use Rattle.std.proofs.Common.{◌≡◌, ℕ, ◌++◌, List, Result, Ok, Err, OnOk, ap, sym, ◌∙◌}
use Rattle.std.proofs.lemmas.List.{append_assoc}
use Rattle.std.specs.declared.alloc.AllocError.{AllocError}

pub then_put : (r : Result (Unit {0}) AllocError) (new middle old first second whole : List ℕ)
    → OnOk r (new ≡ middle ++ second) → middle ≡ old ++ first → whole ≡ first ++ second → OnOk r (new ≡ old ++ whole)
then_put (Ok x) new middle old first second whole h m w = h ∙ ap (λ x. x ++ second) m ∙ append_assoc old first second ∙ ap (λ x. old ++ x) (sym w)
then_put (Err e) new middle old first second whole h m w = tt

-- what was put is known by another name
pub named : (r : Result (Unit {0}) AllocError) (new old text whole : List ℕ) → OnOk r (new ≡ old ++ text) → whole ≡ text → OnOk r (new ≡ old ++ whole)
named (Ok x) new old text whole h w = h ∙ ap (λ x. old ++ x) (sym w)
named (Err e) new old text whole h w = tt

pub piece : (new old text known : List ℕ) → new ≡ old ++ text → text ≡ known → new ≡ old ++ known
piece new old text known h k = h ∙ ap (λ x. old ++ x) k

pub two_put : (new middle old a b : List ℕ) → middle ≡ old ++ a → new ≡ middle ++ b → new ≡ old ++ (a ++ b)
two_put new middle old a b h k = k ∙ ap (λ x. x ++ b) h ∙ append_assoc old a b

pub three_put : (new third second old a b c whole : List ℕ) → second ≡ old ++ a → third ≡ second ++ b → new ≡ third ++ c → whole ≡ a ++ b ++ c → new ≡ old ++ whole
three_put new third second old a b c whole h k l w = two_put new third old (a ++ b) c (two_put third second old a b h k) l ∙ ap (λ x. old ++ x) (sym w)

pub four_put : (new fourth third second old a b c d whole : List ℕ)
    → second ≡ old ++ a → third ≡ second ++ b → fourth ≡ third ++ c → new ≡ fourth ++ d → whole ≡ a ++ b ++ c ++ d → new ≡ old ++ whole
four_put new fourth third second old a b c d whole h k l m w =
    two_put new fourth old (a ++ b ++ c) d (two_put fourth third old (a ++ b) c (two_put third second old a b h k) l) m ∙ ap (λ x. old ++ x) (sym w)

pub five_put : (new fifth fourth third second old a b c d e whole : List ℕ)
    → second ≡ old ++ a → third ≡ second ++ b → fourth ≡ third ++ c → fifth ≡ fourth ++ d → new ≡ fifth ++ e → whole ≡ a ++ b ++ c ++ d ++ e → new ≡ old ++ whole
five_put new fifth fourth third second old a b c d e whole h k l m n w =
    four_put new fifth fourth third old (a ++ b) c d e whole (two_put third second old a b h k) l m n w
