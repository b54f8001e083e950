-- What becomes of variables is well formed in the new scope, and stays so below a binder with its new name.
use Rattle.std.proofs.Common.{◌≡◌, ℕ, ◌<◌, ◌^◌, Bool, true, false, not, ◌&&◌, ◌⊎◌, inl, inr, List, ◌∷◌, Option, Some, None, refl, sym, ◌∙◌, ap, subst, true≢false}
use Rattle.std.specs.Prelude.{bytes_eq, cond}
use Rattle.std.specs.Map.{lookup}
use Rattle.std.proofs.lemmas.Slice.Eq.{bytes_eq-Decides}
use Rattle.floyd_tree_sorts.specs.declared.heads.Head.TheVariants.{Variable, Default, Fun as FunHead}
use Rattle.floyd_tree_sorts.specs.declared.sorts.Sort.{Sort}
use Rattle.floyd_tree_sorts.specs.Heads.{is_variable}
use Rattle.floyd_tree.specs.Formulas.{PlainFormulas, formulas_mention}
use Rattle.floyd_tree.specs.Plain.{Plain, Plains, At, Done, More, mentions, mentions_in}
use Rattle.floyd_ctypes.specs.Structs.{Structs}
use Rattle.floyd_tree_values.specs.Rules.{AllAllowed, Calls, CallsOf, EachAllowed, Scope}
use Rattle.floyd_truth.specs.Capture.{Becomes, Put, Called, Changes, brings, marked, bound_in_some}
use Rattle.floyd_truth.proofs.Fresh.{IsNew, covers, at_found, not_true, or_left, or_right}
use Rattle.floyd_truth.proofs.Marks.{marked_stem}
use Rattle.floyd_assert_trees.specs.declared.items.Defs.{Defs}
use Rattle.floyd_assert_trees.specs.Meanings.{value_defs}
use Rattle.floyd_goal_forms.specs.Terms.{TermFits}

apart : (x y : List ℕ) → (x ≡ y → ⊥) → bytes_eq x y ≡ false
apart x y h = not_true (bytes_eq x y) (λ e. h ((bytes_eq-Decides x y).0 e))

pub itself : (x : List ℕ) → bytes_eq x x ≡ true
itself x = (bytes_eq-Decides x x).1 refl

unlike : (x y : List ℕ) → bytes_eq x y ≡ false → x ≡ y → ⊥
unlike x y h e = true≢false (sym ((bytes_eq-Decides x y).1 e) ∙ h)

-- a term is allowed in each scope in which its variables have their sorts
module _ (structs : Structs) (calls : Calls) (old new : Scope) where
  abbrev pub Stays : List ℕ → Type 0
  Stays v = (s : Sort) → lookup (bytes_eq v) old ≡ Some s → lookup (bytes_eq v) new ≡ Some s

  mutual
    pub term_stays : (t : Plain) → ((v : List ℕ) → mentions v t ≡ true → Stays v) → EachAllowed structs old calls t → EachAllowed structs new calls t
    term_stays (At (Variable x s) ts) k a = (k x (or_left (bytes_eq x x) (mentions_in x ts) (itself x)) s a.0, terms_stay ts (λ v i. k v (or_right (bytes_eq v x) (mentions_in v ts) i)) a.1)
    term_stays (At (Default shape s) ts) k a = (a.0, terms_stay ts (λ v i. k v i) a.1)
    term_stays (At (FunHead name arguments s) ts) k a = (a.0, terms_stay ts (λ v i. k v i) a.1)
    term_stays (At head ts) k a = (tt, terms_stay ts (λ v i. k v (or_right (is_variable v head) (mentions_in v ts) i)) a.1)

    pub terms_stay : (ts : Plains) → ((v : List ℕ) → mentions_in v ts ≡ true → Stays v) → AllAllowed structs old calls ts → AllAllowed structs new calls ts
    terms_stay Done k a = tt
    terms_stay (More t ts) k a =
        (term_stays t (λ v i. k v (or_left (mentions v t) (mentions_in v ts) i)) a.0, terms_stay ts (λ v i. k v (or_right (mentions v t) (mentions_in v ts) i)) a.1)

module _ (defs : Defs) where
  -- what becomes of a variable of that sort has it in the new scope
  abbrev pub LeadsBy : Scope → Option Becomes → List ℕ → Sort → Type 0
  LeadsBy new (Some (Put t)) v s = TermFits defs new s t
  LeadsBy new (Some (Called y)) v s = lookup (bytes_eq y) new ≡ Some s
  LeadsBy new None v s = lookup (bytes_eq v) new ≡ Some s

  abbrev pub Leads : Changes → Scope → Scope → List ℕ → Type 0
  Leads changes old new v = (s : Sort) → lookup (bytes_eq v) old ≡ Some s → LeadsBy new (lookup (bytes_eq v) changes) v s

-- a new name of a binder around is marked, and neither free nor bound
pub record IsApart (free bound : List ℕ → Bool) (v z : List ℕ) : Type 0 where
  pub number : ℕ
  pub small : number < 2 ^ 64
  pub is : z ≡ marked v number
  pub not_free : free z ≡ false
  pub not_bound : bound z ≡ false

-- the changes lead from the one scope to the other in what has these free and bound names
pub record Ready (defs : Defs) (changes : Changes) (old new : Scope) (free bound : List ℕ → Bool) : Type 0 where
  pub leads : (v : List ℕ) → free v ≡ true → Leads defs changes old new v
  pub kept : (v z : List ℕ) → lookup (bytes_eq v) changes ≡ Some (Called z) → (v ≡ z) ⊎ IsApart free bound v z

fewer_apart : (free bound less fewer : List ℕ → Bool) → ((v : List ℕ) → less v ≡ true → free v ≡ true) → ((v : List ℕ) → fewer v ≡ true → bound v ≡ true) → (v z : List ℕ) → (v ≡ z) ⊎ IsApart free bound v z → (v ≡ z) ⊎ IsApart less fewer v z
fewer_apart free bound less fewer h k v z (inl e) = inl e
fewer_apart free bound less fewer h k v z (inr a) =
    inr
    (record {
      number = a.number;
      small = a.small;
      is = a.is;
      not_free = not_true (less z) (λ e. true≢false (sym (h z e) ∙ a.not_free));
      not_bound = not_true (fewer z) (λ e. true≢false (sym (k z e) ∙ a.not_bound));
    })

module _ (defs : Defs) (changes : Changes) (old new : Scope) (free bound : List ℕ → Bool) (ready : Ready defs changes old new free bound) where
  -- so in a part of it
  pub ready_part : (less fewer : List ℕ → Bool) → ((v : List ℕ) → less v ≡ true → free v ≡ true) → ((v : List ℕ) → fewer v ≡ true → bound v ≡ true) → Ready defs changes old new less fewer
  ready_part less fewer h k = record { leads = λ v e. ready.leads v (h v e); kept = λ v z e. fewer_apart free bound less fewer h k v z (ready.kept v z e) }

  module _ (kids : PlainFormulas) (x y : List ℕ) (s : Sort) (is_new : IsNew changes kids x y) (frees : (v : List ℕ) → formulas_mention v kids ≡ true → bytes_eq v x ≡ false → free v ≡ true) (binds : (v : List ℕ) → bytes_eq v x ≡ true → bound v ≡ true) (bounds : (v : List ℕ) → bound_in_some v kids ≡ true → bound v ≡ true) where
    not_new : (v : List ℕ) → formulas_mention v kids ≡ true → bytes_eq v x ≡ false → bytes_eq v y ≡ false
    not_new v m e = by is_new
      where
        by : IsNew changes kids x y → bytes_eq v y ≡ false
        by (inl p) = subst (λ z. bytes_eq v z ≡ false) (sym p.0) e
        by (inr p) = apart v y (λ s. true≢false (sym (subst (λ z. formulas_mention z kids ≡ true) s m) ∙ p.free))

    not_around : (v z : List ℕ) → formulas_mention v kids ≡ true → bytes_eq v x ≡ false → (v ≡ z) ⊎ IsApart free bound v z → bytes_eq z y ≡ false
    not_around v z m e (inl s) = subst (λ n. bytes_eq n y ≡ false) s (not_new v m e)
    not_around v z m e (inr a) = apart z y (by is_new)
      where
        by : IsNew changes kids x y → z ≡ y → ⊥
        by (inl p) s = true≢false (sym (binds z ((bytes_eq-Decides z x).1 (s ∙ p.0))) ∙ a.not_bound)
        by (inr p) s = unlike v x e (marked_stem v x a.number p.number a.small p.small (sym a.is ∙ s ∙ p.is))

    not_in : (v : List ℕ) (t : Plain) → formulas_mention v kids ≡ true → bytes_eq v x ≡ false → lookup (bytes_eq v) changes ≡ Some (Put t) → mentions y t ≡ false
    not_in v t m e l = by is_new
      where
        not_left : (a b c : Bool) → (a && (b && c)) ≡ false → b ≡ true → c ≡ true → a ≡ false
        not_left true true true h k i = h
        not_left true true false h k i = absurd cc
        not_left true false c h k i = absurd cc
        not_left false b c h k i = refl

        other_way : bytes_eq x v ≡ false
        other_way = apart x v (λ s. unlike v x e (sym s))

        by : IsNew changes kids x y → mentions y t ≡ false
        by (inl p) =
            let h = at_found (λ (c : List ℕ × Becomes). brings x (lookup (bytes_eq c.0) changes) && (not (bytes_eq x c.0) && covers kids c.0)) changes v (Put t) p.1 l in
            subst (λ z. mentions z t ≡ false) (sym p.0)
            (ap (brings x) (sym l) ∙ not_left (brings x (lookup (bytes_eq v) changes)) (not (bytes_eq x v)) (covers kids v) h (ap not other_way) m)
        by (inr p) = at_found (λ (c : List ℕ × Becomes). brings y (Some c.1)) changes v (Put t) p.terms l

    abbrev inner : Scope
    inner = (y, s) ∷ new

    other : (v : List ℕ) (r : Sort) → bytes_eq v y ≡ false → lookup (bytes_eq v) new ≡ Some r → lookup (bytes_eq v) inner ≡ Some r
    other v r e k = ap (λ b. cond b (Some s) (lookup (bytes_eq v) new)) e ∙ k

    leads_below : (v : List ℕ) → formulas_mention v kids ≡ true → Leads defs ((x, Called y) ∷ changes) ((x, s) ∷ old) inner v
    leads_below v m r e = by (bytes_eq v x) refl e
      where
        found : (o : Option Becomes) → lookup (bytes_eq v) changes ≡ o → bytes_eq v x ≡ false → LeadsBy defs new o v r → LeadsBy defs inner o v r
        found (Some (Put t)) l q k =
            let new_name = not_in v t m q l in
            let stays : (w : List ℕ) → mentions w t ≡ true → (p : Sort) → lookup (bytes_eq w) new ≡ Some p → lookup (bytes_eq w) inner ≡ Some p = λ w i p j. other w p (apart w y (λ n. true≢false (sym (subst (λ z. mentions z t ≡ true) n i) ∙ new_name))) j in
            record { fits = record { sorted = k.fits.sorted; allowed = term_stays defs.structs (CallsOf (value_defs defs).funs) new inner t stays k.fits.allowed }; known = k.known }
        found (Some (Called z)) l q k = other z r (not_around v z m q (ready.kept v z l)) k
        found None l q k = other v r (not_new v m q) k

        by : (b : Bool) → bytes_eq v x ≡ b → cond b (Some s) (lookup (bytes_eq v) old) ≡ Some r → LeadsBy defs inner (cond b (Some (Called y)) (lookup (bytes_eq v) changes)) v r
        by true q j = ap (λ b. cond b (Some s) (lookup (bytes_eq y) new)) (itself y) ∙ j
        by false q j = found (lookup (bytes_eq v) changes) refl q (ready.leads v (frees v m q) r j)

    kept_below : (v z : List ℕ) → lookup (bytes_eq v) ((x, Called y) ∷ changes) ≡ Some (Called z) → (v ≡ z) ⊎ IsApart (covers kids) (λ n. bound_in_some n kids) v z
    kept_below v z l = by (bytes_eq v x) refl l
      where
        here : v ≡ x → y ≡ z → IsNew changes kids x y → (v ≡ z) ⊎ IsApart (covers kids) (λ n. bound_in_some n kids) v z
        here s e (inl p) = inl (s ∙ sym p.0 ∙ e)
        here s e (inr p) =
            inr
            (record {
              number = p.number;
              small = p.small;
              is = sym e ∙ p.is ∙ ap (λ n. marked n p.number) (sym s);
              not_free = subst (λ n. formulas_mention n kids ≡ false) e p.free;
              not_bound = subst (λ n. bound_in_some n kids ≡ false) e p.bound;
            })

        further : (v ≡ z) ⊎ IsApart free bound v z → (v ≡ z) ⊎ IsApart (covers kids) (λ n. bound_in_some n kids) v z
        further (inl s) = inl s
        further (inr a) =
            let other : bytes_eq z x ≡ false = not_true (bytes_eq z x) (λ s. true≢false (sym (binds z s) ∙ a.not_bound)) in
            inr
            (record {
              number = a.number;
              small = a.small;
              is = a.is;
              not_free = not_true (formulas_mention z kids) (λ s. true≢false (sym (frees z s other) ∙ a.not_free));
              not_bound = not_true (bound_in_some z kids) (λ s. true≢false (sym (bounds z s) ∙ a.not_bound));
            })

        by : (b : Bool) → bytes_eq v x ≡ b → cond b (Some (Called y)) (lookup (bytes_eq v) changes) ≡ Some (Called z) → (v ≡ z) ⊎ IsApart (covers kids) (λ n. bound_in_some n kids) v z
        by true s e = let q : y ≡ z = cc in here ((bytes_eq-Decides v x).0 s) q is_new
        by false s e = further (ready.kept v z e)

    -- below a binder with its new name
    pub ready_below : Ready defs ((x, Called y) ∷ changes) ((x, s) ∷ old) inner (covers kids) (λ n. bound_in_some n kids)
    ready_below = record { leads = leads_below; kept = kept_below }
