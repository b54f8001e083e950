-- Formulas that are equal up to bound names have one truth.
use Rattle.std.proofs.Common.{◌≡◌, ◌↔◌, ℕ, Bool, true, false, ◌&&◌, ◌||◌, List, [], ◌∷◌, Option, Some, None, refl, sym, ap, subst, ◌∙◌, ◌⊎◌, inl, inr}
use Rattle.std.specs.Prelude.{if◌then◌else◌, bytes_eq, option_and_then}
use Rattle.std.proofs.lemmas.Slice.Eq.{bytes_eq-Decides}
use Rattle.floyd_int.specs.declared.kinds.Value.{Value}
use Rattle.floyd_ctypes.specs.Structs.{Structs}
use Rattle.floyd_tree_sorts.specs.declared.connectives.FormulaHead.{FormulaHead}
use Rattle.floyd_tree_sorts.specs.declared.connectives.FormulaHead.TheVariants.{True, False, Implies, Or, And, Forall, Exists, Equal, AtMost, IsPtr, Defined, Hasty, Compatible, FuncPtr}
use Rattle.floyd_tree_sorts.specs.declared.heads.Head.{Head}
use Rattle.floyd_tree_sorts.specs.declared.heads.Head.TheVariants.{Variable, Fun}
use Rattle.floyd_tree_sorts.specs.declared.sorts.Sort.{Sort}
use Rattle.floyd_tree_sorts.specs.Table.{alone, sort_at}
use Rattle.floyd_tree.specs.Formulas.{PlainFormula, PlainFormulas, Says, NoFormula, MoreFormulas}
use Rattle.floyd_tree.specs.Plain.{Plain, Plains, At, Done, More}
use Rattle.floyd_tree.specs.WellSorted.{sort_of, sorts_of, with_first}
use Rattle.floyd_tree_values.specs.BuiltIns.{Env, applied}
use Rattle.floyd_tree_values.specs.Data.{Datum, HasSort}
use Rattle.floyd_tree_values.specs.Means.{Defs, Means, AllMean, built_in, call, none, more, is_fun}
use Rattle.floyd_tree_values.proofs.OneValue.{applies, calls, no_data, split}
use Rattle.floyd_truth.specs.Same.{Binders, same_variable, SameHead, SameTerm, SameTerms, SameUnder, AllSame, SameFormula}
use Rattle.floyd_truth.specs.Truth.{SaysOf, Truth, FirstTrue, SecondTrue}

-- the environment with these data for the variables
abbrev pub giving : Env → (List ℕ → Datum) → Env
giving env f = record env { variables = f }

abbrev pub put : (List ℕ → Datum) → List ℕ → Datum → List ℕ → Datum
put f x d y = if bytes_eq y x then d else f y

-- both give the same data to what is the same variable
abbrev pub Agree : Binders → (List ℕ → Datum) → (List ℕ → Datum) → Type 0
Agree around f g = (x y : List ℕ) → same_variable around x y ≡ true → f x ≡ g y

both : (a b rest : Bool) (p q d : Datum) → (if a || b then a && b else rest) ≡ true → (rest ≡ true → p ≡ q) → (if a then d else p) ≡ (if b then d else q)
both true true rest p q d h k = refl
both true false rest p q d h k = absurd cc
both false true rest p q d h k = absurd cc
both false false rest p q d h k = k h

pub agree_put : (around : Binders) (f g : List ℕ → Datum) → Agree around f g → (x y : List ℕ) (d : Datum) → Agree ((x, y) ∷ around) (put f x d) (put g y d)
agree_put around f g k x y d u v h = both (bytes_eq u x) (bytes_eq v y) (same_variable around u v) (f u) (g v) d h (k u v)

-- heads that are the same but for bound names
same_applied : (structs : Structs) (env : Env) (around : Binders) (f g : List ℕ → Datum) → Agree around f g → (a b : Head) → SameHead around a b → (s : Sort) (ds : List Datum) → applied structs (giving env f) a s ds ≡ applied structs (giving env g) b s ds
same_applied structs env around f g k (Variable x o) (Variable y p) h s ds = k x y h.0
same_applied structs env around f g k (Variable x o) b h s ds = absurd cc
same_applied structs env around f g k a b h s ds = ap (λ c. applied structs (giving env g) c s ds) h

same_fun : (around : Binders) (a b : Head) → SameHead around a b → is_fun a ≡ is_fun b
same_fun around (Variable x o) (Variable y p) h = refl
same_fun around (Variable x o) b h = absurd cc
same_fun around a b h = ap is_fun h

same_sort_at : (around : Binders) (a b : Head) → SameHead around a b → (sorts : List Sort) → sort_at a sorts ≡ sort_at b sorts
same_sort_at around (Variable x o) (Variable y p) h sorts = ap (λ s. alone s sorts) h.1
same_sort_at around (Variable x o) b h sorts = absurd cc
same_sort_at around a b h sorts = ap (λ c. sort_at c sorts) h

same_then : (around : Binders) (a b : Head) → SameHead around a b → (sorts : Option (List Sort)) → option_and_then (sort_at a) sorts ≡ option_and_then (sort_at b) sorts
same_then around a b h (Some sorts) = same_sort_at around a b h sorts
same_then around a b h None = refl

mutual
  same_sort : (around : Binders) (t u : Plain) → SameTerm around t u → sort_of t ≡ sort_of u
  same_sort around (At a ts) (At b us) h = ap (option_and_then (sort_at a)) (same_sorts around ts us h.1) ∙ same_then around a b h.0 (sorts_of us)

  same_sorts : (around : Binders) (ts us : Plains) → SameTerms around ts us → sorts_of ts ≡ sorts_of us
  same_sorts around Done Done h = refl
  same_sorts around Done (More u us) h = absurd h
  same_sorts around (More t ts) Done h = absurd h
  same_sorts around (More t ts) (More u us) h =
      ap (λ s. with_first s (sorts_of ts)) (same_sort around t u h.0) ∙ ap (with_first (sort_of u)) (same_sorts around ts us h.1)

or_map : {A B C D : Type 0} → (A → C) → (B → D) → A ⊎ B → C ⊎ D
or_map p q (inl a) = inl (p a)
or_map p q (inr b) = inr (q b)

module _ (defs : Defs) (specs : List ℕ → Value → Bool) (env : Env) where
  mutual
    pub means_same : (around : Binders) (f g : List ℕ → Datum) → Agree around f g → (t u : Plain) → SameTerm around t u → (d : Datum) → Means defs (giving env f) t d → Means defs (giving env g) u d
    means_same around f g k (At (Fun name sorts s) ts) (At b us) h d m =
        let p = calls m in
        subst (λ (c : Head). Means defs (giving env g) (At c us) d) h.0
        (call {bindings = p.opened.bindings} {term = p.opened.term} (all_same around f g k ts us h.1 p.data' p.mean) p.is p.term)
    means_same around f g k (At a ts) (At b us) h d m =
        let p = applies {head = a} refl m in
        subst (Means defs (giving env g) (At b us)) (sym (p.is ∙ same_applied defs.structs env around f g k a b h.0 p.sort p.data'))
        (built_in (sym (same_fun around a b h.0)) (sym (same_sort around (At a ts) (At b us) h) ∙ p.sorted) (all_same around f g k ts us h.1 p.data' p.mean))

    pub all_same : (around : Binders) (f g : List ℕ → Datum) → Agree around f g → (ts us : Plains) → SameTerms around ts us → (ds : List Datum) → AllMean defs (giving env f) ts ds → AllMean defs (giving env g) us ds
    all_same around f g k Done Done h ds m = subst (AllMean defs (giving env g) Done) (sym (no_data m)) none
    all_same around f g k Done (More u us) h ds m = absurd h
    all_same around f g k (More t ts) Done h ds m = absurd h
    all_same around f g k (More t ts) (More u us) h ds m =
        let p = split m in
        subst (AllMean defs (giving env g) (More u us)) (sym p.is)
        (more (means_same around f g k t u h.0 p.datum p.first) (all_same around f g k ts us h.1 p.data' p.rest))

  mutual
    pub means_back : (around : Binders) (f g : List ℕ → Datum) → Agree around f g → (t u : Plain) → SameTerm around t u → (d : Datum) → Means defs (giving env g) u d → Means defs (giving env f) t d
    means_back around f g k (At (Fun name sorts s) ts) (At b us) h d m =
        let p = calls (subst (λ (c : Head). Means defs (giving env g) (At c us) d) (sym h.0) m) in
        call {bindings = p.opened.bindings} {term = p.opened.term} (all_back around f g k ts us h.1 p.data' p.mean) p.is p.term
    means_back around f g k (At a ts) (At b us) h d m =
        let p = applies {head = b} (sym (same_fun around a b h.0)) m in
        subst (Means defs (giving env f) (At a ts)) (same_applied defs.structs env around f g k a b h.0 p.sort p.data' ∙ sym p.is)
        (built_in {head = a} refl (same_sort around (At a ts) (At b us) h ∙ p.sorted) (all_back around f g k ts us h.1 p.data' p.mean))

    pub all_back : (around : Binders) (f g : List ℕ → Datum) → Agree around f g → (ts us : Plains) → SameTerms around ts us → (ds : List Datum) → AllMean defs (giving env g) us ds → AllMean defs (giving env f) ts ds
    all_back around f g k Done Done h ds m = subst (AllMean defs (giving env f) Done) (sym (no_data m)) none
    all_back around f g k Done (More u us) h ds m = absurd h
    all_back around f g k (More t ts) Done h ds m = absurd h
    all_back around f g k (More t ts) (More u us) h ds m =
        let p = split m in
        subst (AllMean defs (giving env f) (More t ts)) (sym p.is)
        (more (means_back around f g k t u h.0 p.datum p.first) (all_back around f g k ts us h.1 p.data' p.rest))

  -- what a head says of terms that mean what others mean
  pub says_of : (f g : List ℕ → Datum) (head : FormulaHead) (ts us : Plains) → ((ds : List Datum) → AllMean defs (giving env f) ts ds → AllMean defs (giving env g) us ds) → SaysOf defs specs (giving env f) head ts → SaysOf defs specs (giving env g) head us
  says_of f g Equal ts us k p = (p.0, k _ p.1)
  says_of f g AtMost ts us k p = (p.0, p.1, k _ p.2, p.3)
  says_of f g IsPtr ts us k p = (p.0, p.1, k _ p.2)
  says_of f g Defined ts us k p = (p.0, k _ p.1, p.2)
  says_of f g (Hasty shape) ts us k p = (p.0, p.1, k _ p.2, p.3)
  says_of f g (Compatible shape steps) ts us k p = (p.0, p.1, p.2, p.3, k _ p.4, p.5)
  says_of f g (FuncPtr name) ts us k p = (p.0, k _ p.1, p.2)
  says_of f g head ts us k p = absurd p

  mutual
    pub same_truth : (around : Binders) (f g : List ℕ → Datum) → Agree around f g → (p q : PlainFormula) → SameUnder around p q → Truth defs specs (giving env f) p ↔ Truth defs specs (giving env g) q
    same_truth around f g k (Says (Forall x s) ts ps) (Says (Forall y o) us qs) h = (
      λ p d e. (first_same ((x, y) ∷ around) (put f x d) (put g y d) (agree_put around f g k x y d) ps qs h.2).0 (p d (subst (λ r. HasSort r d) (sym h.0) e)),
      λ p d e. (first_same ((x, y) ∷ around) (put f x d) (put g y d) (agree_put around f g k x y d) ps qs h.2).1 (p d (subst (λ r. HasSort r d) h.0 e)),
    )
    same_truth around f g k (Says (Forall x s) ts ps) (Says b us qs) h = let e : Forall x s ≡ b = h.0 in absurd cc
    same_truth around f g k (Says (Exists x s) ts ps) (Says (Exists y o) us qs) h = (
      λ p. (p.0, subst (λ r. HasSort r p.0) h.0 p.1, (first_same ((x, y) ∷ around) (put f x p.0) (put g y p.0) (agree_put around f g k x y p.0) ps qs h.2).0 p.2),
      λ p. (p.0, subst (λ r. HasSort r p.0) (sym h.0) p.1, (first_same ((x, y) ∷ around) (put f x p.0) (put g y p.0) (agree_put around f g k x y p.0) ps qs h.2).1 p.2),
    )
    same_truth around f g k (Says (Exists x s) ts ps) (Says b us qs) h = let e : Exists x s ≡ b = h.0 in absurd cc
    same_truth around f g k (Says True ts ps) (Says b us qs) h =
        subst (λ c. Unit {0} ↔ Truth defs specs (giving env g) (Says c us qs)) h.0 (λ p. tt, λ p. tt)
    same_truth around f g k (Says False ts ps) (Says b us qs) h =
        subst (λ c. ⊥ ↔ Truth defs specs (giving env g) (Says c us qs)) h.0 (λ p. p, λ p. p)
    same_truth around f g k (Says Implies ts ps) (Says b us qs) h =
        let first = first_same around f g k ps qs h.2 in
        let second = second_same around f g k ps qs h.2 in
        subst (λ c. Truth defs specs (giving env f) (Says Implies ts ps) ↔ Truth defs specs (giving env g) (Says c us qs)) h.0
        (λ p q. second.0 (p (first.1 q)), λ p q. second.1 (p (first.0 q)))
    same_truth around f g k (Says Or ts ps) (Says b us qs) h =
        let first = first_same around f g k ps qs h.2 in
        let second = second_same around f g k ps qs h.2 in
        subst (λ c. Truth defs specs (giving env f) (Says Or ts ps) ↔ Truth defs specs (giving env g) (Says c us qs)) h.0
        (or_map first.0 second.0, or_map first.1 second.1)
    same_truth around f g k (Says And ts ps) (Says b us qs) h =
        let first = first_same around f g k ps qs h.2 in
        let second = second_same around f g k ps qs h.2 in
        subst (λ c. Truth defs specs (giving env f) (Says And ts ps) ↔ Truth defs specs (giving env g) (Says c us qs)) h.0
        (λ p. (first.0 p.0, second.0 p.1), λ p. (first.1 p.0, second.1 p.1))
    same_truth around f g k (Says a ts ps) (Says b us qs) h =
        subst (λ c. SaysOf defs specs (giving env f) a ts ↔ Truth defs specs (giving env g) (Says c us qs)) h.0
        (says_of f g a ts us (all_same around f g k ts us h.1), says_of g f a us ts (all_back around f g k ts us h.1))

    first_same : (around : Binders) (f g : List ℕ → Datum) → Agree around f g → (ps qs : PlainFormulas) → AllSame around ps qs → FirstTrue defs specs (giving env f) ps ↔ FirstTrue defs specs (giving env g) qs
    first_same around f g k NoFormula NoFormula h = (λ p. p, λ p. p)
    first_same around f g k NoFormula (MoreFormulas q qs) h = absurd h
    first_same around f g k (MoreFormulas p ps) NoFormula h = absurd h
    first_same around f g k (MoreFormulas p ps) (MoreFormulas q qs) h = same_truth around f g k p q h.0

    second_same : (around : Binders) (f g : List ℕ → Datum) → Agree around f g → (ps qs : PlainFormulas) → AllSame around ps qs → SecondTrue defs specs (giving env f) ps ↔ SecondTrue defs specs (giving env g) qs
    second_same around f g k NoFormula NoFormula h = (λ p. p, λ p. p)
    second_same around f g k NoFormula (MoreFormulas q qs) h = absurd h
    second_same around f g k (MoreFormulas p ps) NoFormula h = absurd h
    second_same around f g k (MoreFormulas p ps) (MoreFormulas q qs) h = first_same around f g k ps qs h.1

pub same_free : (f : List ℕ → Datum) → Agree [] f f
same_free f x y h = ap f ((bytes_eq-Decides x y).0 h)

pub one_truth : (defs : Defs) (specs : List ℕ → Value → Bool) (env : Env) (p q : PlainFormula) → SameFormula p q → Truth defs specs env p ↔ Truth defs specs env q
one_truth defs specs env p q h = same_truth defs specs env [] env.variables env.variables (same_free env.variables) p q h
