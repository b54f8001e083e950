-- Below existentials with their new names, what becomes of each variable means what it meant.
use Rattle.std.proofs.Common.{◌≡◌, ℕ, ◌+◌, ◌<◌, ◌^◌, Bool, true, false, not, ◌&&◌, ◌||◌, ◌⊎◌, inl, inr, List, [], ◌∷◌, ◌++◌, length, Option, Some, None, refl, sym, ◌∙◌, ap, subst, arith, true≢false, append_assoc, append-nil}
use Rattle.std.specs.Prelude.{if◌then◌else◌, bytes_eq, cond}
use Rattle.std.specs.List.{list_any}
use Rattle.std.specs.Map.{lookup}
use Rattle.std.proofs.lemmas.List.{length-append}
use Rattle.std.proofs.lemmas.List.Folds.{list_any-append}
use Rattle.std.proofs.lemmas.Slice.Eq.{bytes_eq-Decides}
use Rattle.floyd_tree.specs.Formulas.{formulas, formula_sizes}
use Rattle.floyd_tree.specs.Plain.{Plain, mentions, plains, sizes}
use Rattle.floyd_tree_values.specs.BuiltIns.{Env}
use Rattle.floyd_tree_values.specs.Data.{Datum}
use Rattle.floyd_tree_values.specs.Means.{Defs, Means}
use Rattle.floyd_truth.specs.Capture.{Becomes, Put, Called, Changes, brings, in_new_terms, marked}
use Rattle.floyd_truth.proofs.Fresh.{at_found, neither, not_true, or_left, or_right, weight}
use Rattle.floyd_truth.proofs.OneTruth.{giving, put}
use Rattle.floyd_truth.proofs.Tracks.{IsApart, Ready, Tracks, TracksBy, means_like}
use Rattle.floyd_assert_trees.specs.declared.assertion.Assertion.{Assertion}
use Rattle.floyd_assert_trees.specs.declared.binder.Binder.{Binder}
use Rattle.floyd_assert_changes.specs.Changed.{below_existentials, body_binds, body_mentions, existential_name, has_name, inside, new_existentials, renamed_from, terms_in}
use Rattle.floyd_assert_meaning.specs.Settings.{AreFor, with_each}
use Rattle.floyd_assert_laws.proofs.NewNames.{covers, IsNewName, is_new_name}

apart : (x y : List ℕ) → (x ≡ y → ⊥) → bytes_eq x y ≡ false
apart x y h = not_true (bytes_eq x y) (λ e. h ((bytes_eq-Decides x y).0 e))

itself : (x : List ℕ) → bytes_eq x x ≡ true
itself x = (bytes_eq-Decides x x).1 refl

unlike : (x y : List ℕ) → bytes_eq x y ≡ false → x ≡ y → ⊥
unlike x y h e = true≢false (sym ((bytes_eq-Decides x y).1 e) ∙ h)

both_false : (a b : Bool) → a ≡ false → b ≡ false → (a || b) ≡ false
both_false true b h k = absurd cc
both_false false b h k = k

covered : (t o m : Bool) → t ≡ true → o ≡ false → m ≡ false → (t && not (o || m)) ≡ true
covered true true m h k i = absurd cc
covered true false true h k i = absurd cc
covered true false false h k i = refl
covered false o m h k i = absurd cc

not_left : (a b c : Bool) → (a && (b && c)) ≡ false → b ≡ true → c ≡ true → a ≡ false
not_left true true true h k i = h
not_left true true false h k i = absurd cc
not_left true false c h k i = absurd cc
not_left false b c h k i = refl

name_append : (v : List ℕ) (bs cs : List Binder) → has_name v (bs ++ cs) ≡ (has_name v bs || has_name v cs)
name_append v bs cs = list_any-append (λ (b : Binder). bytes_eq v b.name) bs cs

-- the new existentials behind those that are done
abbrev pub names_from : Changes → Assertion → List Binder → List Binder → List Binder
names_from ch a done [] = []
names_from ch a done (b ∷ more) =
    record { name = existential_name ch a (done ++ more) b.name; sort = b.sort } ∷ names_from ch a (done ++ record { name = existential_name ch a (done ++ more) b.name; sort = b.sort } ∷ []) more

renamed_is : (ch : Changes) (a : Assertion) (done more : List Binder) → renamed_from ch a done more ≡ done ++ names_from ch a done more
renamed_is ch a done [] = sym (append-nil done)
renamed_is ch a done (b ∷ more) =
    let c : Binder = record { name = existential_name ch a (done ++ more) b.name; sort = b.sort } in
    renamed_is ch a (done ++ c ∷ []) more ∙ append_assoc done (c ∷ []) (names_from ch a (done ++ c ∷ []) more)

pub new_is : (ch : Changes) (a : Assertion) → new_existentials ch a ≡ names_from ch a [] a.existentials
new_is ch a = renamed_is ch a [] a.existentials

module _ (defs : Defs) (env : Env) (ch : Changes) (a : Assertion) where
  abbrev Marked : List Binder → List ℕ → List ℕ → Type 0
  Marked more v z = IsApart defs env (body_mentions a) (body_binds a) v z × (has_name z more ≡ false)

  -- once the existentials `old` have the names `done`, and `more` are left
  record State (old done more : List Binder) (now : Changes) (f g : List ℕ → Datum) : Type 0 where
    pub tracks : (v : List ℕ) → body_mentions a v ≡ true → has_name v more ≡ false → Tracks defs env now f g v
    pub called : (v z : List ℕ) → lookup (bytes_eq v) now ≡ Some (Called z) → (has_name z done ≡ true) × ((v ≡ z) ⊎ Marked more v z)
    pub put' : (v : List ℕ) (t : Plain) → lookup (bytes_eq v) now ≡ Some (Put t) → (lookup (bytes_eq v) ch ≡ Some (Put t)) × (has_name v old ≡ false)

  put_other : (h : List ℕ → Datum) (w v : List ℕ) (d : Datum) → bytes_eq v w ≡ false → put h w d v ≡ h v
  put_other h w v d e = ap (λ b. if b then d else h v) e

  module _ (old done more : List Binder) (b : Binder) (c : List ℕ) (now : Changes) (f g : List ℕ → Datum) (d : Datum) (whole : a.existentials ≡ old ++ b ∷ more) (new : IsNewName ch a (done ++ more) b.name c) (s : State old done (b ∷ more) now f g) where
    -- c is no variable that is free below, but b itself
    not_free : (v : List ℕ) → body_mentions a v ≡ true → bytes_eq v b.name ≡ false → bytes_eq v c ≡ false
    not_free v m e = by new
      where
        by : IsNewName ch a (done ++ more) b.name c → bytes_eq v c ≡ false
        by (inl p) = subst (λ z. bytes_eq v z ≡ false) (sym p.0) e
        by (inr p) = apart v c (λ q. true≢false (sym (subst (λ z. body_mentions a z ≡ true) q m) ∙ p.free))

    -- nor a name that was given before
    not_given : (v z : List ℕ) → bytes_eq v b.name ≡ false → has_name z done ≡ true → (v ≡ z) ⊎ Marked (b ∷ more) v z → bytes_eq z c ≡ false
    not_given v z e h k = by new k
      where
        by : IsNewName ch a (done ++ more) b.name c → (v ≡ z) ⊎ Marked (b ∷ more) v z → bytes_eq z c ≡ false
        by (inl p) (inl q) = subst (λ y. bytes_eq z y ≡ false) (sym p.0) (subst (λ y. bytes_eq y b.name ≡ false) q e)
        by (inl p) (inr q) = subst (λ y. bytes_eq z y ≡ false) (sym p.0) (neither (bytes_eq z b.name) (has_name z more) q.1).0
        by (inr p) q = apart z c (λ i. true≢false (sym (subst (λ y. has_name y done ≡ true) i h) ∙ (neither (has_name c done) (has_name c more) (sym (name_append c done more) ∙ p.other)).0))

    -- nor free in a new term that is put for what is free below
    not_put : (v : List ℕ) (t : Plain) → body_mentions a v ≡ true → has_name v more ≡ false → bytes_eq v b.name ≡ false → (lookup (bytes_eq v) ch ≡ Some (Put t)) × (has_name v old ≡ false) → mentions c t ≡ false
    not_put v t m n e l = by new
      where
        other_way : bytes_eq b.name v ≡ false
        other_way = apart b.name v (λ q. unlike v b.name e (sym q))

        none : covers a v ≡ true
        none = ap (λ bs. body_mentions a v && not (has_name v bs)) whole ∙ ap (λ k. body_mentions a v && not k) (name_append v old (b ∷ more)) ∙ covered (body_mentions a v) (has_name v old) (has_name v (b ∷ more)) m l.1 (both_false (bytes_eq v b.name) (has_name v more) e n)

        by : IsNewName ch a (done ++ more) b.name c → mentions c t ≡ false
        by (inl p) =
            let h = at_found (λ (x : List ℕ × Becomes). brings b.name (lookup (bytes_eq x.0) ch) && (not (bytes_eq b.name x.0) && covers a x.0)) ch v (Put t) p.1 l.0 in
            subst (λ z. mentions z t ≡ false) (sym p.0)
            (ap (brings b.name) (sym l.0) ∙ not_left (brings b.name (lookup (bytes_eq v) ch)) (not (bytes_eq b.name v)) (covers a v) h (ap not other_way) none)
        by (inr p) = at_found (λ (x : List ℕ × Becomes). brings c (Some x.1)) ch v (Put t) p.terms l.0

    tracks_next : (v : List ℕ) → body_mentions a v ≡ true → has_name v more ≡ false → Tracks defs env ((b.name, Called c) ∷ now) (put f c d) (put g b.name d) v
    tracks_next v m n = by (bytes_eq v b.name) refl
      where
        found : (o : Option Becomes) → lookup (bytes_eq v) now ≡ o → bytes_eq v b.name ≡ false → TracksBy defs env f g o v → TracksBy defs env (put f c d) (put g b.name d) o v
        found (Some (Put t)) l e k =
            subst (Means defs (giving env (put f c d)) t) (sym (put_other g b.name v d e))
            (means_like defs env f (put f c d) t (λ w i. sym (put_other f c w d (apart w c (λ q. true≢false (sym (subst (λ y. mentions y t ≡ true) q i) ∙ not_put v t m n e (s.put' v t l)))))) (g v) k)
        found (Some (Called z)) l e k = let q = s.called v z l in put_other f c z d (not_given v z e q.0 q.1) ∙ k ∙ sym (put_other g b.name v d e)
        found None l e k = put_other f c v d (not_free v m e) ∙ k ∙ sym (put_other g b.name v d e)

        by : (t : Bool) → bytes_eq v b.name ≡ t → TracksBy defs env (put f c d) (put g b.name d) (cond t (Some (Called c)) (lookup (bytes_eq v) now)) v
        by true e = ap (λ t. if t then d else f c) (itself c) ∙ ap (λ t. if t then d else g v) (sym e)
        by false e = found (lookup (bytes_eq v) now) refl e (s.tracks v m (both_false (bytes_eq v b.name) (has_name v more) e n))

    given : (c' : Binder) → c'.name ≡ c → has_name c (done ++ c' ∷ []) ≡ true
    given c' e = name_append c done (c' ∷ []) ∙ or_right (has_name c done) (bytes_eq c c'.name || false) (or_left (bytes_eq c c'.name) false ((bytes_eq-Decides c c'.name).1 (sym e)))

    still_given : (c' : Binder) (z : List ℕ) → has_name z done ≡ true → has_name z (done ++ c' ∷ []) ≡ true
    still_given c' z h = name_append z done (c' ∷ []) ∙ or_left (has_name z done) (has_name z (c' ∷ [])) h

    called_next : (c' : Binder) → c'.name ≡ c → (v z : List ℕ) → lookup (bytes_eq v) ((b.name, Called c) ∷ now) ≡ Some (Called z) → (has_name z (done ++ c' ∷ []) ≡ true) × ((v ≡ z) ⊎ Marked more v z)
    called_next c' i v z l = by (bytes_eq v b.name) refl l
      where
        here : v ≡ b.name → c ≡ z → IsNewName ch a (done ++ more) b.name c → (v ≡ z) ⊎ Marked more v z
        here q e (inl p) = inl (q ∙ sym p.0 ∙ e)
        here q e (inr p) =
            inr (
              record {
                number = p.number;
                small = p.small;
                is = sym e ∙ p.is ∙ ap (λ n. marked n p.number) (sym q);
                not_free = subst (λ n. body_mentions a n ≡ false) e p.free;
                not_bound = subst (λ n. body_binds a n ≡ false) e p.bound;
              },
              subst (λ n. has_name n more ≡ false) e (neither (has_name c done) (has_name c more) (sym (name_append c done more) ∙ p.other)).1,
            )

        further : (v ≡ z) ⊎ Marked (b ∷ more) v z → (v ≡ z) ⊎ Marked more v z
        further (inl q) = inl q
        further (inr q) = inr (q.0, (neither (bytes_eq z b.name) (has_name z more) q.1).1)

        by : (t : Bool) → bytes_eq v b.name ≡ t → cond t (Some (Called c)) (lookup (bytes_eq v) now) ≡ Some (Called z) → (has_name z (done ++ c' ∷ []) ≡ true) × ((v ≡ z) ⊎ Marked more v z)
        by true q e =
            let p : c ≡ z = cc in
            (subst (λ n. has_name n (done ++ c' ∷ []) ≡ true) p (given c' i), here ((bytes_eq-Decides v b.name).0 q) p new)
        by false q e = let k = s.called v z e in (still_given c' z k.0, further k.1)

    put_next : (v : List ℕ) (t : Plain) → lookup (bytes_eq v) ((b.name, Called c) ∷ now) ≡ Some (Put t) → (lookup (bytes_eq v) ch ≡ Some (Put t)) × (has_name v (old ++ b ∷ []) ≡ false)
    put_next v t l = by (bytes_eq v b.name) refl l
      where
        by : (q : Bool) → bytes_eq v b.name ≡ q → cond q (Some (Called c)) (lookup (bytes_eq v) now) ≡ Some (Put t) → (lookup (bytes_eq v) ch ≡ Some (Put t)) × (has_name v (old ++ b ∷ []) ≡ false)
        by true q e = absurd cc
        by false q e =
            let k = s.put' v t e in
            (k.0, name_append v old (b ∷ []) ∙ both_false (has_name v old) (has_name v (b ∷ [])) k.1 (both_false (bytes_eq v b.name) false q refl))

    next : (c' : Binder) → c'.name ≡ c → State (old ++ b ∷ []) (done ++ c' ∷ []) more ((b.name, Called c) ∷ now) (put f c d) (put g b.name d)
    next c' i = record { tracks = tracks_next; called = called_next c' i; put' = put_next }

  all_done : (old done : List Binder) (now : Changes) (f g : List ℕ → Datum) → State old done [] now f g → Ready defs env now f g (body_mentions a) (body_binds a)
  all_done old done now f g s = record { tracks = λ v e. s.tracks v e refl; kept = λ v z l. last v z (s.called v z l).1 }
    where
      last : (v z : List ℕ) → (v ≡ z) ⊎ Marked [] v z → (v ≡ z) ⊎ IsApart defs env (body_mentions a) (body_binds a) v z
      last v z (inl q) = inl q
      last v z (inr q) = inr q.0

  go : (old done more : List Binder) (now : Changes) (f g : List ℕ → Datum) (ds : List Datum) → weight ch + formula_sizes (formulas a.props) + sizes (plains (terms_in a)) + (length done + length more) < 2 ^ 63 → a.existentials ≡ old ++ more → AreFor more ds → State old done more now f g → Ready defs env (below_existentials now more (names_from ch a done more)) (with_each f (names_from ch a done more) ds) (with_each g more ds) (body_mentions a) (body_binds a)
  go old done [] now f g ds l e k s = all_done old done now f g s
  go old done (b ∷ more) now f g [] l e k s = absurd k
  go old done (b ∷ more) now f g (d ∷ ds) l e k s =
      let c : Binder = record { name = existential_name ch a (done ++ more) b.name; sort = b.sort } in
      go (old ++ b ∷ []) (done ++ c ∷ []) more ((b.name, Called c.name) ∷ now) (put f c.name d) (put g b.name d) ds
      (omega (arith, l, length-append done (c ∷ [])))
      (e ∙ sym (append_assoc old (b ∷ []) more))
      k.1
      (next old done more b c.name now f g d e (is_new_name ch a (done ++ more) b.name (omega (arith, l, length-append done more))) s c refl)

  -- the changes below the existentials are ready for what stands there
  pub ready_inside : (f g : List ℕ → Datum) (ds : List Datum) → weight ch + formula_sizes (formulas a.props) + sizes (plains (terms_in a)) + length a.existentials < 2 ^ 63 → AreFor a.existentials ds → ((v : List ℕ) → Tracks defs env ch f g v) → ((v z : List ℕ) → lookup (bytes_eq v) ch ≡ Some (Called z) → ⊥) → Ready defs env (inside ch a) (with_each f (new_existentials ch a) ds) (with_each g a.existentials ds) (body_mentions a) (body_binds a)
  ready_inside f g ds l k t n =
      subst (λ bs. Ready defs env (below_existentials ch a.existentials bs) (with_each f bs ds) (with_each g a.existentials ds) (body_mentions a) (body_binds a)) (sym (new_is ch a))
      (go [] [] a.existentials ch f g ds (omega (arith, l)) refl k (record { tracks = λ v m e. t v; called = λ v z e. absurd (n v z e); put' = λ v u e. (e, refl) }))
