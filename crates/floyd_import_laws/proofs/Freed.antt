-- An assertion whose existentials get other names says the same.
use Rattle.std.proofs.Common.{◌≡◌, ℕ, ◌+◌, ◌<◌, ◌^◌, Bool, true, false, ◌||◌, cond, ◌⊎◌, inl, inr, ⊎_elim, List, [], ◌∷◌, ◌++◌, length, Option, Some, None, refl, sym, ◌∙◌, ap, subst, arith, true≢false, append_assoc, append-nil}
use Rattle.std.specs.Prelude.{if◌then◌else◌, bytes_eq}
use Rattle.std.specs.List.{flat_map, list_any}
use Rattle.std.specs.Map.{lookup}
use Rattle.std.proofs.lemmas.Bool.{or_cases, or_left, or_right}
use Rattle.std.proofs.lemmas.List.{length-append}
use Rattle.std.proofs.lemmas.List.Folds.{list_any-append}
use Rattle.std.proofs.lemmas.Slice.Eq.{bytes_eq-Decides}
use Rattle.floyd_tree_sorts.specs.declared.connectives.FormulaHead.{FormulaHead}
use Rattle.floyd_tree_sorts.specs.declared.connectives.FormulaHead.TheVariants.{Forall, Exists}
use Rattle.floyd_tree_sorts.specs.declared.heads.Head.TheVariants.{Variable}
use Rattle.floyd_tree_sorts.specs.declared.sorts.Sort.{Sort}
use Rattle.floyd_tree.specs.Formulas.{PlainFormula, PlainFormulas, Says, NoFormula, MoreFormulas, formula_sizes, formulas, formulas_mention}
use Rattle.floyd_tree.specs.Plain.{Plain, Plains, At, Done, More, mentions_in, plains, sizes}
use Rattle.floyd_tree.specs.WellSorted.{sorts_of}
use Rattle.floyd_tree_values.specs.BuiltIns.{Env}
use Rattle.floyd_tree_values.specs.Data.{Datum, HaveSorts}
use Rattle.floyd_tree_values.specs.Means.{Defs}
use Rattle.floyd_truth.specs.Capture.{Becomes, Put, Called, Changes, bound_in_some, marked, most_marks, renamed, unmarked_from}
use Rattle.floyd_truth.specs.Replace.{AllSortsAgree, FormulaSortsAgree, FormulasSortsAgree, HasSortOf, SortsAgree, changes_below, replaced}
use Rattle.floyd_truth.proofs.Fresh.{neither, not_true, weight}
use Rattle.floyd_truth.proofs.Marks.{Found, finds}
use Rattle.floyd_truth.proofs.OneTruth.{put}
use Rattle.floyd_truth.proofs.Tracks.{IsApart, Ready, Tracks, TracksBy, ready_part}
use Rattle.floyd_assert_trees.specs.declared.assertion.Assertion.{Assertion}
use Rattle.floyd_assert_trees.specs.declared.binder.Binder.{Binder}
use Rattle.floyd_assert_changes.specs.Changed.{below_existentials, body_binds, body_mentions, has_name, local_terms, part_terms, terms_in}
use Rattle.floyd_assert_meaning.specs.Alike.{Alike, BodiesAlike, MeanAlike}
use Rattle.floyd_assert_meaning.specs.Settings.{Setting, AreFor, binder_sorts, with_each}
use Rattle.floyd_assert_laws.specs.InChanged.{IsSorted, body_nodes}
use Rattle.floyd_assert_laws.proofs.Agreeing.{each_append, parts_agree}
use Rattle.floyd_links.specs.Imports.{freed, fresh_from, fresh_name}
use Rattle.floyd_import_laws.proofs.Collected.{locals_mean, name_append, occurring, occurring_few, occurs, props_say, terms_mean, the_sorts}
use Rattle.floyd_import_laws.proofs.Distinct.{AreApart, renamed_by, stay_apart}

apart : (x y : List ℕ) → (x ≡ y → ⊥) → bytes_eq x y ≡ false
apart x y h = not_true (bytes_eq x y) (λ e. h ((bytes_eq-Decides x y).0 e))

both_false : (a b : Bool) → a ≡ false → b ≡ false → (a || b) ≡ false
both_false true b h k = absurd cc
both_false false b h k = k

-- ---- the new names

-- the new existentials behind those that are done
abbrev pub names_from : (List ℕ → Bool) → Assertion → List Binder → List Binder → List Binder
names_from avoided a done more = renamed_by (fresh_name avoided a) done more

fresh_is : (avoided : List ℕ → Bool) (a : Assertion) (done more : List Binder) → fresh_from avoided a done more ≡ done ++ names_from avoided a done more
fresh_is avoided a done [] = sym (append-nil done)
fresh_is avoided a done (b ∷ more) =
    let c : Binder = record { name = fresh_name avoided a (done ++ more) b.name; sort = b.sort } in
    fresh_is avoided a (done ++ c ∷ []) more ∙ append_assoc done (c ∷ []) (names_from avoided a (done ++ c ∷ []) more)

pub new_is : (avoided : List ℕ → Bool) (a : Assertion) → fresh_from avoided a [] a.existentials ≡ names_from avoided a [] a.existentials
new_is avoided a = fresh_is avoided a [] a.existentials

names_sorts : (avoided : List ℕ → Bool) (a : Assertion) (done more : List Binder) → binder_sorts (names_from avoided a done more) ≡ binder_sorts more
names_sorts avoided a done [] = refl
names_sorts avoided a done (b ∷ more) =
    ap (λ ss. b.sort ∷ ss) (names_sorts avoided a (done ++ record { name = fresh_name avoided a (done ++ more) b.name; sort = b.sort } ∷ []) more)

-- marked, not to be avoided, neither free nor bound in what stands below, and of no other existential
pub record IsFree (avoided : List ℕ → Bool) (a : Assertion) (others : List Binder) (x y : List ℕ) : Type 0 where
  pub number : ℕ
  pub small : number < 2 ^ 64
  pub is : y ≡ marked x number
  pub allowed : avoided y ≡ false
  pub free : body_mentions a y ≡ false
  pub bound : body_binds a y ≡ false
  pub other : has_name y others ≡ false

abbrev pub IsNew : (List ℕ → Bool) → Assertion → List Binder → List ℕ → List ℕ → Type 0
IsNew avoided a others x y = ((y ≡ x) × (avoided x ≡ false)) ⊎ IsFree avoided a others x y

abbrev taken : (List ℕ → Bool) → Assertion → List Binder → List ℕ → Bool
taken avoided a others name = avoided name || (body_mentions a name || (body_binds a name || has_name name others))

most_is : most_marks ≡ 2 ^ 63
unfolding most_marks
most_is = refl

weight_none : weight [] ≡ 0
weight_none = refl

free_name : (avoided : List ℕ → Bool) (a : Assertion) (others : List Binder) (x y : List ℕ) → Found (taken avoided a others) x y → IsFree avoided a others x y
free_name avoided a others x y found =
    let p = neither (avoided y) (body_mentions a y || (body_binds a y || has_name y others)) found.free in
    let q = neither (body_mentions a y) (body_binds a y || has_name y others) p.1 in
    let o = neither (body_binds a y) (has_name y others) q.1 in
    record { number = found.number; small = found.small; is = found.is; allowed = p.0; free = q.0; bound = o.0; other = o.1 }

module _ (avoided : List ℕ → Bool) (avoid : List (List ℕ)) (among : (y : List ℕ) → avoided y ≡ true → list_any (bytes_eq y) avoid ≡ true) (a : Assertion) where
  pub fresh_new : (others : List Binder) (x : List ℕ) → length avoid + formula_sizes (formulas a.props) + sizes (plains (terms_in a)) + length others < 2 ^ 63 → IsNew avoided a others x (fresh_name avoided a others x)
  fresh_new others x l = by (avoided x) refl
    where
      among_all : (y : List ℕ) → taken avoided a others y ≡ true → list_any (bytes_eq y) (avoid ++ occurring a others) ≡ true
      among_all y t =
          list_any-append (bytes_eq y) avoid (occurring a others)
          ∙ ⊎_elim
          (λ e. or_left (list_any (bytes_eq y) avoid) (list_any (bytes_eq y) (occurring a others)) (among y e))
          (λ e. or_right (list_any (bytes_eq y) avoid) (list_any (bytes_eq y) (occurring a others)) (occurs a others y e))
          (or_cases (avoided y) (body_mentions a y || (body_binds a y || has_name y others)) t)

      by : (b : Bool) → avoided x ≡ b → IsNew avoided a others x (if b then unmarked_from (taken avoided a others) x most_marks 1 else x)
      by true e =
          inr (free_name avoided a others x _
          (finds (taken avoided a others) x most_marks 1 (avoid ++ occurring a others)
          (omega (arith, most_is, l, occurring_few a others, length-append avoid (occurring a others)))
          (omega (arith, most_is))
          (λ j low high t. among_all (marked x j) t)))
      by false e = inl (refl, e)

  -- ---- no new name is one to be avoided

  new_allowed : (others : List Binder) (x y : List ℕ) → IsNew avoided a others x y → avoided y ≡ false
  new_allowed others x y (inl p) = subst (λ z. avoided z ≡ false) (sym p.0) p.1
  new_allowed others x y (inr p) = p.allowed

  pub names_allowed : (done more : List Binder) (v : List ℕ) → length avoid + formula_sizes (formulas a.props) + sizes (plains (terms_in a)) + (length done + length more) < 2 ^ 63 → has_name v (names_from avoided a done more) ≡ true → avoided v ≡ false
  names_allowed done [] v l h = absurd cc
  names_allowed done (b ∷ more) v l h =
      let c : Binder = record { name = fresh_name avoided a (done ++ more) b.name; sort = b.sort } in
      ⊎_elim
      (λ e. subst (λ z. avoided z ≡ false) (sym ((bytes_eq-Decides v c.name).0 e)) (new_allowed (done ++ more) b.name c.name (fresh_new (done ++ more) b.name (omega (arith, l, length-append done more)))))
      (λ e. names_allowed (done ++ c ∷ []) more v (omega (arith, l, length-append done (c ∷ []))) e)
      (or_cases (bytes_eq v c.name) (has_name v (names_from avoided a (done ++ c ∷ []) more)) h)

  new_apart : (others : List Binder) (x y : List ℕ) → IsNew avoided a others x y → (y ≡ x) ⊎ (has_name y others ≡ false)
  new_apart others x y (inl p) = inl p.0
  new_apart others x y (inr p) = inr p.other

  pub fresh_apart : length avoid + body_nodes a < 2 ^ 63 → AreApart a.existentials → AreApart (fresh_from avoided a [] a.existentials)
  fresh_apart l h =
      subst AreApart (sym (new_is avoided a))
      (stay_apart (fresh_name avoided a) (length a.existentials) (λ others x k. new_apart others x (fresh_name avoided a others x) (fresh_new others x (omega (arith, l, k)))) [] a.existentials (omega arith) h)

-- ---- what becomes of variables below existentials with new names

module _ (defs : Defs) (env : Env) (avoided : List ℕ → Bool) (a : Assertion) where
  abbrev Marked : List Binder → List ℕ → List ℕ → Type 0
  Marked more v z = IsApart defs env (body_mentions a) (body_binds a) v z × (has_name z more ≡ false)

  -- once some existentials have the names `done`, and `more` are left
  record State (done more : List Binder) (now : Changes) (f g : List ℕ → Datum) : Type 0 where
    pub tracks : (v : List ℕ) → body_mentions a v ≡ true → has_name v more ≡ false → Tracks defs env now f g v
    pub called : (v z : List ℕ) → lookup (bytes_eq v) now ≡ Some (Called z) → (has_name z done ≡ true) × ((v ≡ z) ⊎ Marked more v z)
    pub no_term : (v : List ℕ) (t : Plain) → lookup (bytes_eq v) now ≡ Some (Put t) → ⊥

  put_other : (h : List ℕ → Datum) (w v : List ℕ) (d : Datum) → bytes_eq v w ≡ false → put h w d v ≡ h v
  put_other h w v d e = ap (λ b. if b then d else h v) e

  module _ (done more : List Binder) (b : Binder) (c : List ℕ) (now : Changes) (f g : List ℕ → Datum) (d : Datum) (new : IsNew avoided a (done ++ more) b.name c) (s : State done (b ∷ more) now f g) where
    -- c is no variable that is free below, but b itself
    not_free : (v : List ℕ) → body_mentions a v ≡ true → bytes_eq v b.name ≡ false → bytes_eq v c ≡ false
    not_free v m e = by new
      where
        by : IsNew avoided a (done ++ more) b.name c → bytes_eq v c ≡ false
        by (inl p) = subst (λ z. bytes_eq v z ≡ false) (sym p.0) e
        by (inr p) = apart v c (λ q. true≢false (sym (subst (λ z. body_mentions a z ≡ true) q m) ∙ p.free))

    -- nor a name that was given before
    not_given : (v z : List ℕ) → bytes_eq v b.name ≡ false → has_name z done ≡ true → (v ≡ z) ⊎ Marked (b ∷ more) v z → bytes_eq z c ≡ false
    not_given v z e h k = by new k
      where
        by : IsNew avoided a (done ++ more) b.name c → (v ≡ z) ⊎ Marked (b ∷ more) v z → bytes_eq z c ≡ false
        by (inl p) (inl q) = subst (λ y. bytes_eq z y ≡ false) (sym p.0) (subst (λ y. bytes_eq y b.name ≡ false) q e)
        by (inl p) (inr q) = subst (λ y. bytes_eq z y ≡ false) (sym p.0) (neither (bytes_eq z b.name) (has_name z more) q.1).0
        by (inr p) q = apart z c (λ i. true≢false (sym (subst (λ y. has_name y done ≡ true) i h) ∙ (neither (has_name c done) (has_name c more) (sym (name_append c done more) ∙ p.other)).0))

    tracks_next : (v : List ℕ) → body_mentions a v ≡ true → has_name v more ≡ false → Tracks defs env ((b.name, Called c) ∷ now) (put f c d) (put g b.name d) v
    tracks_next v m n = by (bytes_eq v b.name) refl
      where
        found : (o : Option Becomes) → lookup (bytes_eq v) now ≡ o → bytes_eq v b.name ≡ false → TracksBy defs env f g o v → TracksBy defs env (put f c d) (put g b.name d) o v
        found (Some (Put t)) l e k = absurd (s.no_term v t l)
        found (Some (Called z)) l e k = let q = s.called v z l in put_other f c z d (not_given v z e q.0 q.1) ∙ k ∙ sym (put_other g b.name v d e)
        found None l e k = put_other f c v d (not_free v m e) ∙ k ∙ sym (put_other g b.name v d e)

        by : (t : Bool) → bytes_eq v b.name ≡ t → TracksBy defs env (put f c d) (put g b.name d) (cond t (Some (Called c)) (lookup (bytes_eq v) now)) v
        by true e = ap (λ t. if t then d else f c) ((bytes_eq-Decides c c).1 refl) ∙ ap (λ t. if t then d else g v) (sym e)
        by false e = found (lookup (bytes_eq v) now) refl e (s.tracks v m (both_false (bytes_eq v b.name) (has_name v more) e n))

    given : (c' : Binder) → c'.name ≡ c → has_name c (done ++ c' ∷ []) ≡ true
    given c' e = name_append c done (c' ∷ []) ∙ or_right (has_name c done) (bytes_eq c c'.name || false) (or_left (bytes_eq c c'.name) false ((bytes_eq-Decides c c'.name).1 (sym e)))

    still_given : (c' : Binder) (z : List ℕ) → has_name z done ≡ true → has_name z (done ++ c' ∷ []) ≡ true
    still_given c' z h = name_append z done (c' ∷ []) ∙ or_left (has_name z done) (has_name z (c' ∷ [])) h

    called_next : (c' : Binder) → c'.name ≡ c → (v z : List ℕ) → lookup (bytes_eq v) ((b.name, Called c) ∷ now) ≡ Some (Called z) → (has_name z (done ++ c' ∷ []) ≡ true) × ((v ≡ z) ⊎ Marked more v z)
    called_next c' i v z l = by (bytes_eq v b.name) refl l
      where
        here : v ≡ b.name → c ≡ z → IsNew avoided a (done ++ more) b.name c → (v ≡ z) ⊎ Marked more v z
        here q e (inl p) = inl (q ∙ sym p.0 ∙ e)
        here q e (inr p) =
            inr (
              record {
                number = p.number;
                small = p.small;
                is = sym e ∙ p.is ∙ ap (λ n. marked n p.number) (sym q);
                not_free = subst (λ n. body_mentions a n ≡ false) e p.free;
                not_bound = subst (λ n. body_binds a n ≡ false) e p.bound;
              },
              subst (λ n. has_name n more ≡ false) e (neither (has_name c done) (has_name c more) (sym (name_append c done more) ∙ p.other)).1,
            )

        further : (v ≡ z) ⊎ Marked (b ∷ more) v z → (v ≡ z) ⊎ Marked more v z
        further (inl q) = inl q
        further (inr q) = inr (q.0, (neither (bytes_eq z b.name) (has_name z more) q.1).1)

        by : (t : Bool) → bytes_eq v b.name ≡ t → cond t (Some (Called c)) (lookup (bytes_eq v) now) ≡ Some (Called z) → (has_name z (done ++ c' ∷ []) ≡ true) × ((v ≡ z) ⊎ Marked more v z)
        by true q e =
            let p : c ≡ z = cc in
            (subst (λ n. has_name n (done ++ c' ∷ []) ≡ true) p (given c' i), here ((bytes_eq-Decides v b.name).0 q) p new)
        by false q e = let k = s.called v z e in (still_given c' z k.0, further k.1)

    no_term_next : (v : List ℕ) (t : Plain) → lookup (bytes_eq v) ((b.name, Called c) ∷ now) ≡ Some (Put t) → ⊥
    no_term_next v t l = by (bytes_eq v b.name) l
      where
        by : (q : Bool) → cond q (Some (Called c)) (lookup (bytes_eq v) now) ≡ Some (Put t) → ⊥
        by true e = absurd cc
        by false e = s.no_term v t e

    next : (c' : Binder) → c'.name ≡ c → State (done ++ c' ∷ []) more ((b.name, Called c) ∷ now) (put f c d) (put g b.name d)
    next c' i = record { tracks = tracks_next; called = called_next c' i; no_term = no_term_next }

  all_done : (done : List Binder) (now : Changes) (f g : List ℕ → Datum) → State done [] now f g → Ready defs env now f g (body_mentions a) (body_binds a)
  all_done done now f g s = record { tracks = λ v e. s.tracks v e refl; kept = λ v z l. last v z (s.called v z l).1 }
    where
      last : (v z : List ℕ) → (v ≡ z) ⊎ Marked [] v z → (v ≡ z) ⊎ IsApart defs env (body_mentions a) (body_binds a) v z
      last v z (inl q) = inl q
      last v z (inr q) = inr q.0

  module _ (avoid : List (List ℕ)) (among : (y : List ℕ) → avoided y ≡ true → list_any (bytes_eq y) avoid ≡ true) where
    go : (done more : List Binder) (now : Changes) (f g : List ℕ → Datum) (ds : List Datum) → length avoid + formula_sizes (formulas a.props) + sizes (plains (terms_in a)) + (length done + length more) < 2 ^ 63 → AreFor more ds → State done more now f g → Ready defs env (below_existentials now more (names_from avoided a done more)) (with_each f (names_from avoided a done more) ds) (with_each g more ds) (body_mentions a) (body_binds a)
    go done [] now f g ds l k s = all_done done now f g s
    go done (b ∷ more) now f g [] l k s = absurd k
    go done (b ∷ more) now f g (d ∷ ds) l k s =
        let c : Binder = record { name = fresh_name avoided a (done ++ more) b.name; sort = b.sort } in
        go (done ++ c ∷ []) more ((b.name, Called c.name) ∷ now) (put f c.name d) (put g b.name d) ds
        (omega (arith, l, length-append done (c ∷ [])))
        k.1
        (next done more b c.name now f g d (fresh_new avoided avoid among a (done ++ more) b.name (omega (arith, l, length-append done more))) s c refl)

    ready_freed : (f : List ℕ → Datum) (ds : List Datum) → length avoid + formula_sizes (formulas a.props) + sizes (plains (terms_in a)) + length a.existentials < 2 ^ 63 → AreFor a.existentials ds → Ready defs env (below_existentials [] a.existentials (fresh_from avoided a [] a.existentials)) (with_each f (fresh_from avoided a [] a.existentials) ds) (with_each f a.existentials ds) (body_mentions a) (body_binds a)
    ready_freed f ds l k =
        subst (λ bs. Ready defs env (below_existentials [] a.existentials bs) (with_each f bs ds) (with_each f a.existentials ds) (body_mentions a) (body_binds a)) (sym (new_is avoided a))
        (go [] a.existentials [] f f ds (omega (arith, l)) k (record { tracks = λ v m e. refl; called = λ v z e. absurd cc; no_term = λ v t e. absurd cc }))

-- ---- changes that put no terms suit all sorts

abbrev NoTerm : Changes → Type 0
NoTerm ch = (v : List ℕ) (t : Plain) → lookup (bytes_eq v) ch ≡ Some (Put t) → ⊥

no_term_more : (ch : Changes) → NoTerm ch → (x y : List ℕ) → NoTerm ((x, Called y) ∷ ch)
no_term_more ch k x y v t l = by (bytes_eq v x) l
  where
    by : (q : Bool) → cond q (Some (Called y)) (lookup (bytes_eq v) ch) ≡ Some (Put t) → ⊥
    by true e = absurd cc
    by false e = k v t e

no_term_below : (ch : Changes) → NoTerm ch → (old new : List Binder) → NoTerm (below_existentials ch old new)
no_term_below ch k [] new = k
no_term_below ch k (b ∷ old) [] = k
no_term_below ch k (b ∷ old) (c ∷ new) = no_term_below ((b.name, Called c.name) ∷ ch) (no_term_more ch k b.name c.name) old new

no_term_under : (ch : Changes) → NoTerm ch → (head : FormulaHead) (kids : PlainFormulas) → NoTerm (changes_below ch head kids)
no_term_under ch k (Forall x s) kids = no_term_more ch k x (renamed ch kids x)
no_term_under ch k (Exists x s) kids = no_term_more ch k x (renamed ch kids x)
no_term_under ch k head kids = k

any_sort : (ch : Changes) → NoTerm ch → (x : List ℕ) (s : Sort) → HasSortOf (lookup (bytes_eq x) ch) s
any_sort ch k x s = by (lookup (bytes_eq x) ch) refl
  where
    by : (o : Option Becomes) → lookup (bytes_eq x) ch ≡ o → HasSortOf o s
    by (Some (Put t)) e = absurd (k x t e)
    by (Some (Called y)) e = tt
    by None e = tt

module _ (ch : Changes) (k : NoTerm ch) where
  mutual
    term_suits : (t : Plain) → SortsAgree ch t
    term_suits (At (Variable x s) ts) = (any_sort ch k x s, terms_suit ts)
    term_suits (At head ts) = (tt, terms_suit ts)

    terms_suit : (ts : Plains) → AllSortsAgree ch ts
    terms_suit Done = tt
    terms_suit (More t ts) = (term_suits t, terms_suit ts)

mutual
  formula_suits : (ch : Changes) → NoTerm ch → (p : PlainFormula) → FormulaSortsAgree ch p
  formula_suits ch k (Says head ts kids) = (terms_suit ch k ts, formulas_suit (changes_below ch head kids) (no_term_under ch k head kids) kids)

  formulas_suit : (ch : Changes) → NoTerm ch → (ps : PlainFormulas) → FormulasSortsAgree ch ps
  formulas_suit ch k NoFormula = tt
  formulas_suit ch k (MoreFormulas p ps) = (formula_suits ch k p, formulas_suit ch k ps)

-- ---- the law

weight_below : (ch : Changes) (old new : List Binder) → weight (below_existentials ch old new) ≡ weight ch
weight_below ch [] new = refl
weight_below ch (b ∷ old) [] = refl
weight_below ch (b ∷ old) (c ∷ new) = weight_below ((b.name, Called c.name) ∷ ch) old new

module _ (S : Setting) (env : Env) (avoided : List ℕ → Bool) (avoid : List (List ℕ)) (among : (y : List ℕ) → avoided y ≡ true → list_any (bytes_eq y) avoid ≡ true) (a : Assertion) (sorted : IsSorted a) (small : length avoid + body_nodes a < 2 ^ 63) where
  freed_bodies : (ds : List Datum) → AreFor a.existentials ds → BodiesAlike S env (with_each env.variables (fresh_from avoided a [] a.existentials) ds) (with_each env.variables a.existentials ds) (freed avoided a) a
  freed_bodies ds k =
      let new = fresh_from avoided a [] a.existentials in
      let ch = below_existentials [] a.existentials new in
      let f = with_each env.variables new ds in
      let g = with_each env.variables a.existentials ds in
      let o = ready_freed S.defs env avoided a avoid among env.variables ds (omega (arith, small)) k in
      let no_term = no_term_below [] (λ v t e. absurd cc) a.existentials new in
      let ss = the_sorts (sorts_of (plains (terms_in a))) sorted.terms in
      let means = terms_mean S env ch f g (terms_in a) ss.0 ss.1 (terms_suit ch no_term (plains (terms_in a))) (λ v i. o.tracks v (or_right (formulas_mention v (formulas a.props)) (mentions_in v (plains (terms_in a))) i)) in
      let split = each_append (λ u. MeanAlike S env f g (replaced ch u) u) (local_terms a.locals) (flat_map part_terms a.parts) means in
      record {
        props = props_say S env ch f g a.props sorted.props (omega (arith, small, weight_none, weight_below [] a.existentials new)) (formulas_suit ch no_term (formulas a.props))
            (ready_part S.defs env ch f g (body_mentions a) (body_binds a) (λ v. formulas_mention v (formulas a.props)) (λ v. bound_in_some v (formulas a.props))
            (λ v e. or_left (formulas_mention v (formulas a.props)) (mentions_in v (plains (terms_in a))) e) (λ v e. e) o);
        locals = locals_mean S env ch f g a.locals split.0;
        parts = parts_agree ch (MeanAlike S env f g) a.parts split.1;
      }

  new_sorts : binder_sorts (fresh_from avoided a [] a.existentials) ≡ binder_sorts a.existentials
  new_sorts = ap binder_sorts (new_is avoided a) ∙ names_sorts avoided a [] a.existentials

  pub freed_alike : Alike S env env.variables env.variables (freed avoided a) a
  freed_alike = record { sorts = new_sorts; bodies = λ ds k. freed_bodies ds (subst (λ ss. HaveSorts ss ds) new_sorts k) }

  -- and none of its existentials has a name to be avoided
  pub freed_allowed : (v : List ℕ) → has_name v (freed avoided a).existentials ≡ true → avoided v ≡ false
  freed_allowed v h = names_allowed avoided avoid among a [] a.existentials v (omega (arith, small)) (ap (has_name v) (sym (new_is avoided a)) ∙ h)

  -- they stay distinct
  pub freed_apart : AreApart a.existentials → AreApart (freed avoided a).existentials
  freed_apart h = fresh_apart avoided avoid among a small h
