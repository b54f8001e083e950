-- Terms with holes: of the same sort, no larger and no higher, and the same where there is no occurrence.
use Rattle.std.proofs.Common.{◌≡◌, ◌≤◌, Bool, true, false, ◌&&◌, ◌||◌, cond, List, [], ◌∷◌, map, Some, None, refl, sym, ap, subst, ◌∙◌, arith, le-leb}
use Rattle.std.specs.Prelude.{is_some, nat_le, option_and_then, if◌then◌else◌}
use Rattle.std.specs.Option.{unwrap_or}
use Rattle.floyd_tree_sorts.specs.declared.sorts.Sort.{Sort}
use Rattle.floyd_tree_sorts.specs.Table.{sort_at}
use Rattle.floyd_tree.specs.declared.stop.MakeStop.TheVariants.{IllSorted, TooLarge}
use Rattle.floyd_tree.specs.Made.{fault_at, fits}
use Rattle.floyd_tree.specs.Plain.{Plain, Plains, At, Done, More, head_of, height, heights, kids_of, listed, plains, size, sizes}
use Rattle.floyd_tree.specs.WellSorted.{sort_of, sorts_of, with_first}
use Rattle.floyd_truth.proofs.Fresh.{neither}
use Rattle.floyd_arith.specs.Same.{same_term}
use Rattle.floyd_arith.proofs.SameLemmas.{differ, same_term_self, same_term_true}
use Rattle.floyd_rewriting.specs.Holes.{opened, opened_in}
use Rattle.floyd_rewriting.specs.HolesClauses.{IsHole, if_so, term_after, terms_after}
use Rattle.floyd_rewriting.specs.Occurrences.{occurs, occurs_in}

pub none_so : {T : Type 0} (b : Bool) (x : T) → None ≡ if_so b x → b ≡ false
none_so true x e = absurd cc
none_so false x e = refl

pub some_so : {T : Type 0} (b : Bool) (x y : T) → Some y ≡ if_so b x → (b ≡ true) × (y ≡ x)
some_so true x y e = (refl, cc)
some_so false x y e = absurd cc

pub plains_listed : (ts : Plains) → plains (listed ts) ≡ ts
plains_listed Done = refl
plains_listed (More t ts) = ap (More t) (plains_listed ts)

pub fine : (t : Plain) → is_some (sort_of t) ≡ true → size t ≤ 65536 → height t ≤ 256 → fault_at t ≡ None
fine t s l h =
    let small : nat_le (size t) 65536 ≡ true = le-leb (size t) 65536 l in
    let low : nat_le (height t) 256 ≡ true = le-leb (height t) 256 h in
    let both : fits t ≡ true = ap (λ c. c && nat_le (height t) 256) small ∙ low in
    ap (λ c. if c then (if fits t then None else Some TooLarge) else Some IllSorted) s ∙ ap (λ c. if c then None else Some TooLarge) both

module _ (from hole : Plain) where
  -- where there is no occurrence
  mutual
    pub same_term_kept : (t : Plain) → occurs from t ≡ false → opened from hole t ≡ t
    same_term_kept (At head kids) e =
        let p = neither (same_term (At head kids) from) (occurs_in from kids) e in
        ap (λ b. cond b hole (At head (opened_in from hole kids))) p.0 ∙ ap (At head) (same_terms_kept kids p.1)

    pub same_terms_kept : (ts : Plains) → occurs_in from ts ≡ false → opened_in from hole ts ≡ ts
    same_terms_kept Done e = refl
    same_terms_kept (More t ts) e =
        let p = neither (occurs from t) (occurs_in from ts) e in
        ap (λ u. More u (opened_in from hole ts)) (same_term_kept t p.0) ∙ ap (More t) (same_terms_kept ts p.1)

  pub opened_listed : (ts : Plains) → plains (map (opened from hole) (listed ts)) ≡ opened_in from hole ts
  opened_listed Done = refl
  opened_listed (More t ts) = ap (More (opened from hole t)) (opened_listed ts)

  pub opened_plains : (ts : List Plain) → opened_in from hole (plains ts) ≡ plains (map (opened from hole) ts)
  opened_plains [] = refl
  opened_plains (t ∷ ts) = ap (More (opened from hole t)) (opened_plains ts)

  pub all_kept : (ts : List Plain) → occurs_in from (plains ts) ≡ false → map (opened from hole) ts ≡ ts
  all_kept [] e = refl
  all_kept (t ∷ ts) e =
      let p = neither (occurs from t) (occurs_in from (plains ts)) e in
      ap (λ u. u ∷ map (opened from hole) ts) (same_term_kept t p.0) ∙ ap (λ us. t ∷ us) (all_kept ts p.1)

  term_or_by : (t : Plain) (b : Bool) → occurs from t ≡ b → unwrap_or (if_so b (opened from hole t)) t ≡ opened from hole t
  term_or_by t true e = refl
  term_or_by t false e = sym (same_term_kept t e)

  pub term_or : (t : Plain) → unwrap_or (term_after from hole t) t ≡ opened from hole t
  term_or t = term_or_by t (occurs from t) refl

  told_by : {T : Type 0} (b : Bool) (x : T) → is_some (if_so b x) ≡ b
  told_by true x = refl
  told_by false x = refl

  pub term_told : (t : Plain) → is_some (term_after from hole t) ≡ occurs from t
  term_told t = told_by (occurs from t) (opened from hole t)

  terms_or_by : (ts : List Plain) (b : Bool) → occurs_in from (plains ts) ≡ b → unwrap_or (if_so b (map (opened from hole) ts)) ts ≡ map (opened from hole) ts
  terms_or_by ts true e = refl
  terms_or_by ts false e = sym (all_kept ts e)

  pub terms_or : (ts : List Plain) → unwrap_or (terms_after from hole ts) ts ≡ map (opened from hole) ts
  terms_or ts = terms_or_by ts (occurs_in from (plains ts)) refl

  -- the term itself
  pub opened_here : (t : Plain) → t ≡ from → Some hole ≡ term_after from hole t
  opened_here (At head kids) e =
      let same : same_term (At head kids) from ≡ true = ap (λ u. same_term u from) e ∙ same_term_self from in
      sym (ap (λ b. if_so (b || occurs_in from kids) (cond b hole (At head (opened_in from hole kids)))) same)

  pub opened_none : (t : Plain) → ¬ (t ≡ from) → None ≡ terms_after from hole (kids_of t) → None ≡ term_after from hole t
  opened_none (At head kids) n e =
      let other : same_term (At head kids) from ≡ false = differ (At head kids) from n in
      let none : occurs_in from kids ≡ false = ap (occurs_in from) (sym (plains_listed kids)) ∙ none_so (occurs_in from (plains (listed kids))) (map (opened from hole) (listed kids)) e in
      sym (ap (λ b. if_so (b || occurs_in from kids) (opened from hole (At head kids))) other ∙ ap (λ b. if_so b (opened from hole (At head kids))) none)

  over_is : (t : Plain) (ks : List Plain) → ¬ (t ≡ from) → Some ks ≡ terms_after from hole (kids_of t) → (occurs from t ≡ true) × (At (head_of t) (plains ks) ≡ opened from hole t)
  over_is (At head kids) ks n e =
      let other : same_term (At head kids) from ≡ false = differ (At head kids) from n in
      let p = some_so (occurs_in from (plains (listed kids))) (map (opened from hole) (listed kids)) ks e in
      let there : occurs_in from kids ≡ true = ap (occurs_in from) (sym (plains_listed kids)) ∙ p.0 in (
        ap (λ b. b || occurs_in from kids) other ∙ there,
        ap (λ us. At head (plains us)) p.1 ∙ ap (At head) (opened_listed kids) ∙ sym (ap (λ b. cond b hole (At head (opened_in from hole kids))) other),
      )

  pub opened_over : (t : Plain) (ks : List Plain) → ¬ (t ≡ from) → Some ks ≡ terms_after from hole (kids_of t) → Some (At (head_of t) (plains ks)) ≡ term_after from hole t
  opened_over t ks n e =
      let p = over_is t ks n e in
      ap Some p.1 ∙ sym (ap (λ b. if_so b (opened from hole t)) p.0)

module _ (from hole : Plain) (is : IsHole from hole) where
  mutual
    pub sort_kept : (t : Plain) → sort_of (opened from hole t) ≡ sort_of t
    sort_kept (At head kids) = by (same_term (At head kids) from) refl (sorts_kept kids)
      where
        by : (b : Bool) → same_term (At head kids) from ≡ b → sorts_of (opened_in from hole kids) ≡ sorts_of kids → sort_of (cond b hole (At head (opened_in from hole kids))) ≡ sort_of (At head kids)
        by true e below = is.sort ∙ ap sort_of (sym (same_term_true (At head kids) from e))
        by false e below = ap (option_and_then (sort_at head)) below

    pub sorts_kept : (ts : Plains) → sorts_of (opened_in from hole ts) ≡ sorts_of ts
    sorts_kept Done = refl
    sorts_kept (More t ts) = ap (λ s. with_first s (sorts_of (opened_in from hole ts))) (sort_kept t) ∙ ap (with_first (sort_of t)) (sorts_kept ts)

  mutual
    pub size_less : (t : Plain) → size (opened from hole t) ≤ size t
    size_less (At head kids) = by (same_term (At head kids) from) (sizes_less kids)
      where
        by : (b : Bool) → sizes (opened_in from hole kids) ≤ sizes kids → size (cond b hole (At head (opened_in from hole kids))) ≤ size (At head kids)
        by true below = omega (arith, is.size)
        by false below = omega (arith, below)

    pub sizes_less : (ts : Plains) → sizes (opened_in from hole ts) ≤ sizes ts
    sizes_less Done = omega arith
    sizes_less (More t ts) = omega (arith, size_less t, sizes_less ts)

  mutual
    pub height_less : (t : Plain) → height (opened from hole t) ≤ height t
    height_less (At head kids) = by (same_term (At head kids) from) (heights_less kids)
      where
        by : (b : Bool) → heights (opened_in from hole kids) ≤ heights kids → height (cond b hole (At head (opened_in from hole kids))) ≤ height (At head kids)
        by true below = omega (arith, is.height)
        by false below = omega (arith, below)

    pub heights_less : (ts : Plains) → heights (opened_in from hole ts) ≤ heights ts
    heights_less Done = omega arith
    heights_less (More t ts) = omega (arith, height_less t, heights_less ts)

  -- a node with holes can be made
  pub node_fine : (t : Plain) (ks : List Plain) (s : Sort) → ¬ (t ≡ from) → Some ks ≡ terms_after from hole (kids_of t) → sort_of t ≡ Some s → size t ≤ 65536 → height t ≤ 256 → fault_at (At (head_of t) (plains ks)) ≡ None
  node_fine t ks s n e sorted small low =
      let made = (over_is from hole t ks n e).1 in
      subst (λ u. fault_at u ≡ None) (sym made)
      (fine (opened from hole t) (ap is_some (sort_kept t ∙ sorted)) (omega (arith, size_less t, small)) (omega (arith, height_less t, low)))
