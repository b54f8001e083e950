-- What holds of each item of a list holds of one at a number or of a name.
use Rattle.std.proofs.Common.{◌≡◌, ℕ, zero, suc, ◌+◌, Bool, true, false, cond, List, [], ◌∷◌, ◌++◌, Some, sym, ap, subst, ◌∙◌}
use Rattle.std.specs.Prelude.{bytes_eq}
use Rattle.std.specs.List.{AllByRecursion}
use Rattle.std.specs.Map.{lookup}
use Rattle.std.proofs.lemmas.Option.{same_Some}
use Rattle.floyd_clight_memory.specs.Memory.{nth}
use Rattle.floyd_assert_trees.specs.declared.items.Lemma.{Lemma}
use Rattle.floyd_goal_meaning.specs.declared.linked.Linked.{Linked}
use Rattle.floyd_goal_meaning.specs.declared.linked.Module.{Module}
use Rattle.floyd_links.specs.Links.{Agree, AllAgree, ModuleLinks, ModulesLink}

pub each_nth : {A : Type 0} (P : A → Type 0) (xs : List A) (i : ℕ) (x : A) → AllByRecursion P xs → nth xs i ≡ Some x → P x
each_nth P [] i x h e = absurd cc
each_nth P (y ∷ xs) zero x h e = subst P (same_Some y x e) h.0
each_nth P (y ∷ xs) (suc i) x h e = each_nth P xs i x h.1 e

pub each_named : {A : Type 0} (P : A → Type 0) (table : List (List ℕ × A)) (name : List ℕ) (a : A) → AllByRecursion (λ q. P q.1) table → lookup (bytes_eq name) table ≡ Some a → P a
each_named P [] name a h e = absurd cc
each_named P (q ∷ table) name a h e = by (each_named P table name a h.1) (bytes_eq name q.0) e
  where
    by : (lookup (bytes_eq name) table ≡ Some a → P a) → (t : Bool) → cond t (Some q.1) (lookup (bytes_eq name) table) ≡ Some a → P a
    by go true k = subst P (same_Some q.1 a k) h.0
    by go false k = go k

pub each_and : {A : Type 0} (P : A → Type 0) (xs : List A) (x : A) → AllByRecursion P xs → P x → AllByRecursion P (xs ++ x ∷ [])
each_and P [] x h p = (p, tt)
each_and P (y ∷ xs) x h p = (h.0, each_and P xs x h.1 p)

pub module_at : (L : Linked) (number : ℕ) (modules : List Module) (i : ℕ) (m : Module) → ModulesLink L number modules → nth modules i ≡ Some m → (k : ℕ) × ModuleLinks L k m
module_at L number [] i m h e = absurd cc
module_at L number (a ∷ modules) zero m h e = (number, subst (ModuleLinks L number) (same_Some a m e) h.0)
module_at L number (a ∷ modules) (suc i) m h e = module_at L (number + 1) modules i m h.1 e

-- a lemma that two modules hold is the same in both
pub one_lemma : (modules : List Module) (i j : ℕ) (m n : Module) (x : List ℕ) (l k : Lemma) → AllAgree modules → nth modules i ≡ Some m → nth modules j ≡ Some n → lookup (bytes_eq x) m.defs.lemmas ≡ Some l → lookup (bytes_eq x) n.defs.lemmas ≡ Some k → l ≡ k
one_lemma [] i j m n x l k h e f p q = absurd cc
one_lemma (a ∷ modules) zero zero m n x l k h e f p q =
    let same : m ≡ n = sym (same_Some a m e) ∙ same_Some a n f in
    same_Some l k (sym p ∙ ap (λ (b : Module). lookup (bytes_eq x) b.defs.lemmas) same ∙ q)
one_lemma (a ∷ modules) zero (suc j) m n x l k h e f p q =
    let agree : Agree m n = subst (λ b. Agree b n) (same_Some a m e) (each_nth (Agree a) modules j n h.0 f) in
    agree.lemmas x l k p q
one_lemma (a ∷ modules) (suc i) zero m n x l k h e f p q =
    let agree : Agree n m = subst (λ b. Agree b m) (same_Some a n f) (each_nth (Agree a) modules i m h.0 e) in
    sym (agree.lemmas x k l q p)
one_lemma (a ∷ modules) (suc i) (suc j) m n x l k h e f p q = one_lemma modules i j m n x l k h.1 e f p q
