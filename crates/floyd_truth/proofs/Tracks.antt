-- The values of variables before and after changes, and below a binder with its new name.
use Rattle.std.proofs.Common.{◌≡◌, ℕ, ◌<◌, ◌^◌, Bool, true, false, not, ◌&&◌, ◌||◌, ◌⊎◌, inl, inr, List, [], ◌∷◌, Option, Some, None, refl, sym, ◌∙◌, ap, subst, true≢false}
use Rattle.std.specs.Prelude.{if◌then◌else◌, bytes_eq, cond}
use Rattle.std.specs.Map.{lookup}
use Rattle.std.proofs.lemmas.Slice.Eq.{bytes_eq-Decides}
use Rattle.floyd_ctypes.specs.Structs.{Structs}
use Rattle.floyd_tree_sorts.specs.declared.heads.Head.{Head}
use Rattle.floyd_tree_sorts.specs.declared.heads.Head.TheVariants.{Variable, Fun}
use Rattle.floyd_tree_sorts.specs.declared.sorts.Sort.{Sort}
use Rattle.floyd_tree_sorts.specs.Heads.{is_variable}
use Rattle.floyd_tree.specs.Formulas.{PlainFormulas, formulas_mention}
use Rattle.floyd_tree.specs.Plain.{Plain, Plains, At, Done, More, mentions, mentions_in}
use Rattle.floyd_tree_values.specs.BuiltIns.{Env, applied}
use Rattle.floyd_tree_values.specs.Data.{Datum}
use Rattle.floyd_tree_values.specs.Means.{Defs, Means, AllMean, built_in, call, none, more, is_fun}
use Rattle.floyd_tree_values.proofs.OneValue.{applies, calls, no_data, split}
use Rattle.floyd_truth.specs.Capture.{Becomes, Put, Called, Changes, brings, captures, marked, in_new_terms, bound_in_some}
use Rattle.floyd_truth.proofs.Fresh.{IsFresh, IsNew, covers, at_found, either, not_true, or_left, or_right}
use Rattle.floyd_truth.proofs.Marks.{marked_stem}
use Rattle.floyd_truth.proofs.OneTruth.{giving, put}

apart : (x y : List ℕ) → (x ≡ y → ⊥) → bytes_eq x y ≡ false
apart x y h = not_true (bytes_eq x y) (λ e. h ((bytes_eq-Decides x y).0 e))

itself : (x : List ℕ) → bytes_eq x x ≡ true
itself x = (bytes_eq-Decides x x).1 refl

unlike : (x y : List ℕ) → bytes_eq x y ≡ false → x ≡ y → ⊥
unlike x y h e = true≢false (sym ((bytes_eq-Decides x y).1 e) ∙ h)

-- a head that is no variable of another value makes the same of the same data
like_applied : (structs : Structs) (env : Env) (f g : List ℕ → Datum) (head : Head) → ((x : List ℕ) → is_variable x head ≡ true → f x ≡ g x) → (s : Sort) (ds : List Datum) → applied structs (giving env f) head s ds ≡ applied structs (giving env g) head s ds
like_applied structs env f g (Variable x o) k s ds = k x (itself x)
like_applied structs env f g head k s ds = refl

module _ (defs : Defs) (env : Env) where
  -- a term means the same where its variables do
  mutual
    pub means_like : (f g : List ℕ → Datum) (t : Plain) → ((x : List ℕ) → mentions x t ≡ true → f x ≡ g x) → (d : Datum) → Means defs (giving env f) t d → Means defs (giving env g) t d
    means_like f g (At (Fun name sorts s) ts) k d m =
        let p = calls m in
        call {bindings = p.opened.bindings} {term = p.opened.term} (all_like f g ts (λ x h. k x h) p.data' p.mean) p.is p.term
    means_like f g (At a ts) k d m =
        let p = applies {head = a} refl m in
        subst (Means defs (giving env g) (At a ts)) (sym (p.is ∙ like_applied defs.structs env f g a (λ x h. k x (or_left (is_variable x a) (mentions_in x ts) h)) p.sort p.data'))
        (built_in {head = a} refl p.sorted (all_like f g ts (λ x h. k x (or_right (is_variable x a) (mentions_in x ts) h)) p.data' p.mean))

    all_like : (f g : List ℕ → Datum) (ts : Plains) → ((x : List ℕ) → mentions_in x ts ≡ true → f x ≡ g x) → (ds : List Datum) → AllMean defs (giving env f) ts ds → AllMean defs (giving env g) ts ds
    all_like f g Done k ds m = subst (AllMean defs (giving env g) Done) (sym (no_data m)) none
    all_like f g (More t ts) k ds m =
        let p = split m in
        subst (AllMean defs (giving env g) (More t ts)) (sym p.is)
        (more (means_like f g t (λ x h. k x (or_left (mentions x t) (mentions_in x ts) h)) p.datum p.first) (all_like f g ts (λ x h. k x (or_right (mentions x t) (mentions_in x ts) h)) p.data' p.rest))

  -- what becomes of a variable means under f what the variable means under g
  abbrev pub TracksBy : (List ℕ → Datum) → (List ℕ → Datum) → Option Becomes → List ℕ → Type 0
  TracksBy f g (Some (Put t)) v = Means defs (giving env f) t (g v)
  TracksBy f g (Some (Called y)) v = f y ≡ g v
  TracksBy f g None v = f v ≡ g v

  abbrev pub Tracks : Changes → (List ℕ → Datum) → (List ℕ → Datum) → List ℕ → Type 0
  Tracks changes f g v = TracksBy f g (lookup (bytes_eq v) changes) v

  -- a new name of a binder around is marked, and neither free nor bound
  pub record IsApart (free bound : List ℕ → Bool) (v z : List ℕ) : Type 0 where
    pub number : ℕ
    pub small : number < 2 ^ 64
    pub is : z ≡ marked v number
    pub not_free : free z ≡ false
    pub not_bound : bound z ≡ false

  -- the changes are ready for what has these free and bound names
  pub record Ready (changes : Changes) (f g : List ℕ → Datum) (free bound : List ℕ → Bool) : Type 0 where
    pub tracks : (v : List ℕ) → free v ≡ true → Tracks changes f g v
    pub kept : (v z : List ℕ) → lookup (bytes_eq v) changes ≡ Some (Called z) → (v ≡ z) ⊎ IsApart free bound v z

  fewer_apart : (free bound less fewer : List ℕ → Bool) → ((v : List ℕ) → less v ≡ true → free v ≡ true) → ((v : List ℕ) → fewer v ≡ true → bound v ≡ true) → (v z : List ℕ) → (v ≡ z) ⊎ IsApart free bound v z → (v ≡ z) ⊎ IsApart less fewer v z
  fewer_apart free bound less fewer h k v z (inl e) = inl e
  fewer_apart free bound less fewer h k v z (inr a) =
      inr
      (record {
        number = a.number;
        small = a.small;
        is = a.is;
        not_free = not_true (less z) (λ e. true≢false (sym (h z e) ∙ a.not_free));
        not_bound = not_true (fewer z) (λ e. true≢false (sym (k z e) ∙ a.not_bound));
      })

  -- so for a part of it
  pub ready_part : (changes : Changes) (f g : List ℕ → Datum) (free bound less fewer : List ℕ → Bool) → ((v : List ℕ) → less v ≡ true → free v ≡ true) → ((v : List ℕ) → fewer v ≡ true → bound v ≡ true) → Ready changes f g free bound → Ready changes f g less fewer
  ready_part changes f g free bound less fewer h k r =
      record {
        tracks = λ v e. r.tracks v (h v e);
        kept = λ v z e. fewer_apart free bound less fewer h k v z (r.kept v z e);
      }

  module _ (changes : Changes) (f g : List ℕ → Datum) (free bound : List ℕ → Bool) (kids : PlainFormulas) (x y : List ℕ) (d : Datum) (new : IsNew changes kids x y) (ready : Ready changes f g free bound) (frees : (v : List ℕ) → formulas_mention v kids ≡ true → bytes_eq v x ≡ false → free v ≡ true) (binds : (v : List ℕ) → bytes_eq v x ≡ true → bound v ≡ true) (bounds : (v : List ℕ) → bound_in_some v kids ≡ true → bound v ≡ true) where
    not_new : (v : List ℕ) → formulas_mention v kids ≡ true → bytes_eq v x ≡ false → bytes_eq v y ≡ false
    not_new v m e = by new
      where
        by : IsNew changes kids x y → bytes_eq v y ≡ false
        by (inl p) = subst (λ z. bytes_eq v z ≡ false) (sym p.0) e
        by (inr p) = apart v y (λ s. true≢false (sym (subst (λ z. formulas_mention z kids ≡ true) s m) ∙ p.free))

    not_around : (v z : List ℕ) → formulas_mention v kids ≡ true → bytes_eq v x ≡ false → (v ≡ z) ⊎ IsApart free bound v z → bytes_eq z y ≡ false
    not_around v z m e (inl s) = subst (λ n. bytes_eq n y ≡ false) s (not_new v m e)
    not_around v z m e (inr a) = apart z y (by new)
      where
        by : IsNew changes kids x y → z ≡ y → ⊥
        by (inl p) s = true≢false (sym (binds z ((bytes_eq-Decides z x).1 (s ∙ p.0))) ∙ a.not_bound)
        by (inr p) s = unlike v x e (marked_stem v x a.number p.number a.small p.small (sym a.is ∙ s ∙ p.is))

    not_in : (v : List ℕ) (t : Plain) → formulas_mention v kids ≡ true → bytes_eq v x ≡ false → lookup (bytes_eq v) changes ≡ Some (Put t) → mentions y t ≡ false
    not_in v t m e l = by new
      where
        not_left : (a b c : Bool) → (a && (b && c)) ≡ false → b ≡ true → c ≡ true → a ≡ false
        not_left true true true h k i = h
        not_left true true false h k i = absurd cc
        not_left true false c h k i = absurd cc
        not_left false b c h k i = refl

        other_way : bytes_eq x v ≡ false
        other_way = apart x v (λ s. unlike v x e (sym s))

        by : IsNew changes kids x y → mentions y t ≡ false
        by (inl p) =
            let h = at_found (λ (c : List ℕ × Becomes). brings x (lookup (bytes_eq c.0) changes) && (not (bytes_eq x c.0) && covers kids c.0)) changes v (Put t) p.1 l in
            subst (λ z. mentions z t ≡ false) (sym p.0)
            (ap (brings x) (sym l) ∙ not_left (brings x (lookup (bytes_eq v) changes)) (not (bytes_eq x v)) (covers kids v) h (ap not other_way) m)
        by (inr p) = at_found (λ (c : List ℕ × Becomes). brings y (Some c.1)) changes v (Put t) p.terms l

    put_other : (h : List ℕ → Datum) (w v : List ℕ) → bytes_eq v w ≡ false → put h w d v ≡ h v
    put_other h w v e = ap (λ b. if b then d else h v) e

    tracks_below : (v : List ℕ) → formulas_mention v kids ≡ true → Tracks ((x, Called y) ∷ changes) (put f y d) (put g x d) v
    tracks_below v m = by (bytes_eq v x) refl
      where
        found : (o : Option Becomes) → lookup (bytes_eq v) changes ≡ o → bytes_eq v x ≡ false → TracksBy f g o v → TracksBy (put f y d) (put g x d) o v
        found (Some (Put t)) l e k =
            subst (Means defs (giving env (put f y d)) t) (sym (put_other g x v e))
            (means_like f (put f y d) t (λ w i. sym (put_other f y w (apart w y (λ s. true≢false (sym (subst (λ n. mentions n t ≡ true) s i) ∙ not_in v t m e l))))) (g v) k)
        found (Some (Called z)) l e k = put_other f y z (not_around v z m e (ready.kept v z l)) ∙ k ∙ sym (put_other g x v e)
        found None l e k = put_other f y v (not_new v m e) ∙ k ∙ sym (put_other g x v e)

        by : (b : Bool) → bytes_eq v x ≡ b → TracksBy (put f y d) (put g x d) (cond b (Some (Called y)) (lookup (bytes_eq v) changes)) v
        by true e = ap (λ b. if b then d else f y) (itself y) ∙ ap (λ b. if b then d else g v) (sym e)
        by false e = found (lookup (bytes_eq v) changes) refl e (ready.tracks v (frees v m e))

    kept_below : (v z : List ℕ) → lookup (bytes_eq v) ((x, Called y) ∷ changes) ≡ Some (Called z) → (v ≡ z) ⊎ IsApart (covers kids) (λ n. bound_in_some n kids) v z
    kept_below v z l = by (bytes_eq v x) refl l
      where
        here : v ≡ x → y ≡ z → IsNew changes kids x y → (v ≡ z) ⊎ IsApart (covers kids) (λ n. bound_in_some n kids) v z
        here s e (inl p) = inl (s ∙ sym p.0 ∙ e)
        here s e (inr p) =
            inr
            (record {
              number = p.number;
              small = p.small;
              is = sym e ∙ p.is ∙ ap (λ n. marked n p.number) (sym s);
              not_free = subst (λ n. formulas_mention n kids ≡ false) e p.free;
              not_bound = subst (λ n. bound_in_some n kids ≡ false) e p.bound;
            })

        further : (v ≡ z) ⊎ IsApart free bound v z → (v ≡ z) ⊎ IsApart (covers kids) (λ n. bound_in_some n kids) v z
        further (inl s) = inl s
        further (inr a) =
            let other : bytes_eq z x ≡ false = not_true (bytes_eq z x) (λ s. true≢false (sym (binds z s) ∙ a.not_bound)) in
            inr
            (record {
              number = a.number;
              small = a.small;
              is = a.is;
              not_free = not_true (formulas_mention z kids) (λ s. true≢false (sym (frees z s other) ∙ a.not_free));
              not_bound = not_true (bound_in_some z kids) (λ s. true≢false (sym (bounds z s) ∙ a.not_bound));
            })

        by : (b : Bool) → bytes_eq v x ≡ b → cond b (Some (Called y)) (lookup (bytes_eq v) changes) ≡ Some (Called z) → (v ≡ z) ⊎ IsApart (covers kids) (λ n. bound_in_some n kids) v z
        by true s e = let q : y ≡ z = cc in here ((bytes_eq-Decides v x).0 s) q new
        by false s e = further (ready.kept v z e)

    -- below a binder with its new name, where both are the same datum
    pub ready_below : Ready ((x, Called y) ∷ changes) (put f y d) (put g x d) (covers kids) (λ n. bound_in_some n kids)
    ready_below = record { tracks = tracks_below; kept = kept_below }
