-- Names for existentials: variables of a larger scope.
use Rattle.std.proofs.Common.{◌≡◌, ◌⊎◌, inl, inr, ⊎_elim, ℕ, Bool, true, false, cond, List, [], ◌∷◌, ◌++◌, length, Option, Some, None, refl, sym, ap, subst, ◌∙◌, arith, true≢false}
use Rattle.std.specs.Prelude.{bytes_eq, if◌then◌else◌}
use Rattle.std.specs.List.{list_any}
use Rattle.std.specs.Map.{lookup}
use Rattle.std.proofs.lemmas.Bool.{or_cases, or_left, or_parts, or_right}
use Rattle.std.proofs.lemmas.List.Folds.{list_any-append}
use Rattle.std.proofs.lemmas.Slice.Eq.{bytes_eq-Decides}
use Rattle.floyd_tree_sorts.specs.declared.heads.Head.TheVariants.{Variable}
use Rattle.floyd_tree_sorts.specs.declared.sorts.Sort.{Sort}
use Rattle.floyd_tree.specs.Plain.{At, Done}
use Rattle.floyd_tree_values.specs.Rules.{AreDistinct, IsOneOf, Scope}
use Rattle.floyd_truth.specs.Capture.{Becomes, Called, Put}
use Rattle.floyd_truth.specs.Replace.{puts}
use Rattle.floyd_assert_trees.specs.declared.binder.Binder.{Binder}
use Rattle.floyd_assert_trees.specs.declared.items.Defs.{Defs}
use Rattle.floyd_assert_changes.specs.Changed.{has_name}
use Rattle.floyd_goal_forms.specs.Terms.{TermFits, names_with, scope_with}
use Rattle.floyd_entail.specs.Intros.{by_names, first_taken, is_taken, new_variables}
use Rattle.floyd_formed_pure.proofs.Contexts.{AreIn}
use Rattle.floyd_formed_quantifiers.proofs.Leading.{Leads, LeadsBy, itself}

-- ---- names that are not taken

one_of_has : (vs : List Binder) (v : List ℕ) → IsOneOf (names_with vs) v → has_name v vs ≡ true
one_of_has [] v h = absurd h
one_of_has (b ∷ vs) v (inl e) = or_left (bytes_eq v b.name) (has_name v vs) ((bytes_eq-Decides v b.name).1 e)
one_of_has (b ∷ vs) v (inr h) = or_right (bytes_eq v b.name) (has_name v vs) (one_of_has vs v h)

has_one : (vs : List Binder) (v : List ℕ) → has_name v vs ≡ true → IsOneOf (names_with vs) v
has_one [] v h = absurd (true≢false (sym h))
has_one (b ∷ vs) v h = ⊎_elim (λ e. inl ((bytes_eq-Decides v b.name).0 e)) (λ e. inr (has_one vs v e)) (or_cases (bytes_eq v b.name) (has_name v vs) h)

-- the names are distinct, and each is none of the variables and none of those before
pub record AreFree (vars : List Binder) (before : List (List ℕ)) (vs : List Binder) : Type 0 where
  pub distinct : AreDistinct (names_with vs)
  pub free : (v : List ℕ) → has_name v vs ≡ true → (has_name v vars ≡ false) × (list_any (bytes_eq v) before ≡ false)

apart_from : (before : List (List ℕ)) (x v : List ℕ) → list_any (bytes_eq v) (before ++ x ∷ []) ≡ false → (list_any (bytes_eq v) before ≡ false) × (bytes_eq v x ≡ false)
apart_from before x v e =
    let p = or_parts (list_any (bytes_eq v) before) (list_any (bytes_eq v) (x ∷ [])) (sym (list_any-append (bytes_eq v) before (x ∷ [])) ∙ e) in
    (p.0, (or_parts (bytes_eq v x) false p.1).0)

one_more : (vars : List Binder) (before : List (List ℕ)) (b : Binder) (x : List ℕ) (vs : List Binder) → is_taken vars before x ≡ false → AreFree vars (before ++ x ∷ []) vs → AreFree vars before (record { name = x; sort = b.sort } ∷ vs)
one_more vars before b x vs e f =
    let p = or_parts (has_name x vars) (list_any (bytes_eq x) before) e in
    record {
      distinct = (λ h. true≢false (sym (itself x) ∙ (apart_from before x x (f.free x (one_of_has vs x h)).1).1), f.distinct);
      free = λ v h. by v p (or_cases (bytes_eq v x) (has_name v vs) h);
    }
  where
    by : (v : List ℕ) → (has_name x vars ≡ false) × (list_any (bytes_eq x) before ≡ false) → (bytes_eq v x ≡ true) ⊎ (has_name v vs ≡ true) → (has_name v vars ≡ false) × (list_any (bytes_eq v) before ≡ false)
    by v p (inl i) = subst (λ y. (has_name y vars ≡ false) × (list_any (bytes_eq y) before ≡ false)) (sym ((bytes_eq-Decides v x).0 i)) p
    by v p (inr i) =
        let q = f.free v i in
        (q.0, (apart_from before x v q.1).0)

pub names_free : (vars : List Binder) (before : List (List ℕ)) (bs : List Binder) (names : List (List ℕ)) → first_taken vars before names ≡ None → AreFree vars before (new_variables bs names)
names_free vars before [] names e = record { distinct = tt; free = λ v h. absurd (true≢false (sym h)) }
names_free vars before (b ∷ bs) [] e = record { distinct = tt; free = λ v h. absurd (true≢false (sym h)) }
names_free vars before (b ∷ bs) (x ∷ names) e = by (names_free vars (before ++ x ∷ []) bs names) (is_taken vars before x) refl e
  where
    by : (first_taken vars (before ++ x ∷ []) names ≡ None → AreFree vars (before ++ x ∷ []) (new_variables bs names)) → (t : Bool) → is_taken vars before x ≡ t → (if t then Some x else first_taken vars (before ++ x ∷ []) names) ≡ None →
        AreFree vars before (new_variables (b ∷ bs) (x ∷ names))
    by next true f g = absurd cc
    by next false f g = one_more vars before b x (new_variables bs names) f (next g)

-- ---- variables more

pub more_in : (vars bs : List Binder) → AreIn (scope_with vars) (scope_with (vars ++ bs))
more_in [] bs x s e = absurd cc
more_in (b ∷ vars) bs x s e = by (λ i. more_in vars bs x s i) (bytes_eq x b.name) e
  where
    by : (lookup (bytes_eq x) (scope_with vars) ≡ Some s → lookup (bytes_eq x) (scope_with (vars ++ bs)) ≡ Some s) → (t : Bool) → cond t (Some b.sort) (lookup (bytes_eq x) (scope_with vars)) ≡ Some s →
        cond t (Some b.sort) (lookup (bytes_eq x) (scope_with (vars ++ bs))) ≡ Some s
    by further true i = i
    by further false i = further i

-- what is none of the variables is looked for behind them
behind_found : (vars bs : List Binder) (x : List ℕ) → has_name x vars ≡ false → lookup (bytes_eq x) (scope_with (vars ++ bs)) ≡ lookup (bytes_eq x) (scope_with bs)
behind_found [] bs x e = refl
behind_found (b ∷ vars) bs x e =
    let p = or_parts (bytes_eq x b.name) (has_name x vars) e in
    ap (λ t. cond t (Some b.sort) (lookup (bytes_eq x) (scope_with (vars ++ bs)))) p.0 ∙ behind_found vars bs x p.1

one_of_both : (vars bs : List Binder) (x : List ℕ) → IsOneOf (names_with (vars ++ bs)) x → IsOneOf (names_with vars) x ⊎ IsOneOf (names_with bs) x
one_of_both [] bs x h = inr h
one_of_both (b ∷ vars) bs x (inl e) = inl (inl e)
one_of_both (b ∷ vars) bs x (inr k) = ⊎_elim (λ i. inl (inr i)) (λ i. inr i) (one_of_both vars bs x k)

pub distinct_both : (vars bs : List Binder) → AreDistinct (names_with vars) → AreDistinct (names_with bs) → ((v : List ℕ) → has_name v bs ≡ true → has_name v vars ≡ false) → AreDistinct (names_with (vars ++ bs))
distinct_both [] bs d e k = e
distinct_both (b ∷ vars) bs d e k =
    let other : IsOneOf (names_with bs) b.name → ⊥ = λ i. true≢false (sym (or_left (bytes_eq b.name b.name) (has_name b.name vars) (itself b.name)) ∙ k b.name (one_of_has bs b.name i)) in
    ((λ h. ⊎_elim d.0 other (one_of_both vars bs b.name h)), distinct_both vars bs d.1 e (λ v i. (or_parts (bytes_eq v b.name) (has_name v vars) (k v i)).1))

-- ---- each existential is the variable of its name

-- each name is a variable of the scope, of the sort of its existential
abbrev AreNamed : Scope → List Binder → List (List ℕ) → Type 0
AreNamed new [] names = Unit {0}
AreNamed new (b ∷ bs) [] = Unit {0}
AreNamed new (b ∷ bs) (x ∷ names) = (lookup (bytes_eq x) new ≡ Some b.sort) × AreNamed new bs names

named_further : (new : Scope) (c : Binder) (bs : List Binder) (names : List (List ℕ)) → ((v : List ℕ) → has_name v (new_variables bs names) ≡ true → bytes_eq v c.name ≡ false) → AreNamed new bs names → AreNamed ((c.name, c.sort) ∷ new) bs names
named_further new c [] names k h = tt
named_further new c (b ∷ bs) [] k h = tt
named_further new c (b ∷ bs) (x ∷ names) k h = (
  ap (λ t. cond t (Some c.sort) (lookup (bytes_eq x) new)) (k x (or_left (bytes_eq x x) (has_name x (new_variables bs names)) (itself x))) ∙ h.0,
  named_further new c bs names (λ v i. k v (or_right (bytes_eq v x) (has_name v (new_variables bs names)) i)) h.1,
)

named_own : (bs : List Binder) (names : List (List ℕ)) → AreDistinct (names_with (new_variables bs names)) → AreNamed (scope_with (new_variables bs names)) bs names
named_own [] names d = tt
named_own (b ∷ bs) [] d = tt
named_own (b ∷ bs) (x ∷ names) d = (
  ap (λ t. cond t (Some b.sort) (lookup (bytes_eq x) (scope_with (new_variables bs names)))) (itself x),
  named_further (scope_with (new_variables bs names)) (record { name = x; sort = b.sort }) bs names (λ v i. other v i (bytes_eq v x) refl) (named_own bs names d.1),
)
  where
    other : (v : List ℕ) → has_name v (new_variables bs names) ≡ true → (t : Bool) → bytes_eq v x ≡ t → bytes_eq v x ≡ false
    other v i true e = absurd (d.0 (subst (IsOneOf (names_with (new_variables bs names))) ((bytes_eq-Decides v x).0 e) (has_one (new_variables bs names) v i)))
    other v i false e = e

named_both : (vars bs more : List Binder) (names : List (List ℕ)) → ((v : List ℕ) → has_name v (new_variables bs names) ≡ true → has_name v vars ≡ false) → AreNamed (scope_with more) bs names → AreNamed (scope_with (vars ++ more)) bs names
named_both vars [] more names k h = tt
named_both vars (b ∷ bs) more [] k h = tt
named_both vars (b ∷ bs) more (x ∷ names) k h = (
  behind_found vars more x (k x (or_left (bytes_eq x x) (has_name x (new_variables bs names)) (itself x))) ∙ h.0,
  named_both vars bs more names (λ v i. k v (or_right (bytes_eq v x) (has_name v (new_variables bs names)) i)) h.1,
)

module _ (defs : Defs) (vars : List Binder) where
  leads_by_names : (new : Scope) → AreIn (scope_with vars) new → (bs : List Binder) (names : List (List ℕ)) → length names ≡ length bs → AreNamed new bs names → (v : List ℕ) (r : Sort) → lookup (bytes_eq v) (scope_with bs ++ scope_with vars) ≡ Some r →
      LeadsBy defs new (lookup (bytes_eq v) (puts (by_names bs names))) v r
  leads_by_names new k [] names l h v r e = k v r e
  leads_by_names new k (b ∷ bs) [] l h v r e = absurd (omega (arith, l))
  leads_by_names new k (b ∷ bs) (x ∷ names) l h v r e = by (λ i. leads_by_names new k bs names (omega (arith, l)) h.1 v r i) (bytes_eq v b.name) e
    where
      by : (lookup (bytes_eq v) (scope_with bs ++ scope_with vars) ≡ Some r → LeadsBy defs new (lookup (bytes_eq v) (puts (by_names bs names))) v r) → (t : Bool) →
          cond t (Some b.sort) (lookup (bytes_eq v) (scope_with bs ++ scope_with vars)) ≡ Some r → LeadsBy defs new (cond t (Some (Put (At (Variable x b.sort) Done))) (lookup (bytes_eq v) (puts (by_names bs names)))) v r
      by further true i =
          let same : b.sort ≡ r = cc in
          let own : TermFits defs new b.sort (At (Variable x b.sort) Done) = record { fits = record { sorted = refl; allowed = (h.0, tt) }; known = (tt, tt) } in
          subst (λ q. TermFits defs new q (At (Variable x b.sort) Done)) same own
      by further false i = further i

  -- the names lead to the scope with the new variables
  pub names_lead : (bs : List Binder) (names : List (List ℕ)) → length names ≡ length bs → AreFree vars [] (new_variables bs names) → (v : List ℕ) →
      Leads defs (puts (by_names bs names)) (scope_with bs ++ scope_with vars) (scope_with (vars ++ new_variables bs names)) v
  names_lead bs names l f v r e =
      leads_by_names (scope_with (vars ++ new_variables bs names)) (more_in vars (new_variables bs names)) bs names l
      (named_both vars bs (new_variables bs names) names (λ w i. (f.free w i).0) (named_own bs names f.distinct)) v r e

-- nothing is called otherwise
pub none_called : (bs : List Binder) (names : List (List ℕ)) (v z : List ℕ) → lookup (bytes_eq v) (puts (by_names bs names)) ≡ Some (Called z) → ⊥
none_called [] names v z e = cc
none_called (b ∷ bs) [] v z e = cc
none_called (b ∷ bs) (x ∷ names) v z e = by (none_called bs names v z) (bytes_eq v b.name) e
  where
    by : (lookup (bytes_eq v) (puts (by_names bs names)) ≡ Some (Called z) → ⊥) → (t : Bool) → ◌≡◌ {A = Option Becomes} (cond t (Some (Put (At (Variable x b.sort) Done))) (lookup (bytes_eq v) (puts (by_names bs names)))) (Some (Called z)) → ⊥
    by further true i = cc
    by further false i = further i
