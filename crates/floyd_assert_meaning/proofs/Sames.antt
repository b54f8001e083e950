-- What is equal up to bound names means the same.
use Rattle.std.proofs.Common.{◌≡◌, ◌↔◌, ℕ, List, [], ◌∷◌, map, Option, Some, None, refl, sym, subst}
use Rattle.floyd_int.specs.declared.kinds.Value.{Value}
use Rattle.floyd_tree.specs.Formulas.{PlainFormula}
use Rattle.floyd_tree.specs.Plain.{Plain, plains}
use Rattle.floyd_tree_values.specs.BuiltIns.{Env}
use Rattle.floyd_tree_values.specs.Data.{Datum, Val, HaveSorts}
use Rattle.floyd_tree_values.specs.Means.{Means, AllMean}
use Rattle.floyd_truth.specs.Same.{Binders, SameTerm, SameUnder}
use Rattle.floyd_truth.specs.Truth.{AllTrue}
use Rattle.floyd_truth.proofs.OneTruth.{giving, put, Agree, agree_put, means_same, means_back, same_truth, same_free}
use Rattle.floyd_clight_heap.specs.Heaplet.{Heaplet}
use Rattle.floyd_assert_trees.specs.declared.assertion.Assertion.{Assertion}
use Rattle.floyd_assert_trees.specs.declared.assertion.Local.{Local}
use Rattle.floyd_assert_trees.specs.declared.binder.Binder.{Binder}
use Rattle.floyd_assert_trees.specs.declared.sep.Sep.{Sep}
use Rattle.floyd_assert_trees.specs.declared.spec.Funspec.{Funspec}
use Rattle.floyd_assert_meaning.specs.Settings.{Setting, AreFor, bare_env, binder_sorts, with_data, with_each}
use Rattle.floyd_assert_meaning.specs.Parts.{PartHolds, PartsHold}
use Rattle.floyd_assert_meaning.specs.Assertions.{Holds, LocalsHold}
use Rattle.floyd_assert_meaning.specs.Specifications.{Pre, Post, PostHolds, Returns}
use Rattle.floyd_assert_meaning.specs.Same.{Pairwise, SamePart, SameLocal, SameAssertion, SameOption, SameFunspec, with_binders, withs}
use Rattle.floyd_assert_meaning.proofs.Related.{terms_go, part_goes, parts_go, flipped, Back, part_back, parts_back}

pub with_data_is : (env : Env) (f : List ℕ → Datum) (bs : List Binder) (ds : List Datum) → with_data (giving env f) bs ds ≡ giving env (with_each f bs ds)
with_data_is env f [] ds = refl
with_data_is env f (b ∷ bs) [] = refl
with_data_is env f (b ∷ bs) (d ∷ ds) = with_data_is env (put f b.name d) bs ds

pub agree_all : (around : Binders) (f g : List ℕ → Datum) → Agree around f g → (bs cs : List Binder) (ds : List Datum) → binder_sorts bs ≡ binder_sorts cs → AreFor bs ds → Agree (with_binders around bs cs) (with_each f bs ds) (with_each g cs ds)
agree_all around f g k [] [] ds e s = k
agree_all around f g k [] (c ∷ cs) ds e s = absurd cc
agree_all around f g k (b ∷ bs) [] ds e s = absurd cc
agree_all around f g k (b ∷ bs) (c ∷ cs) [] e s = absurd s
agree_all around f g k (b ∷ bs) (c ∷ cs) (d ∷ ds) e s =
    let rest : binder_sorts bs ≡ binder_sorts cs = cc in
    agree_all ((b.name, c.name) ∷ around) (put f b.name d) (put g c.name d) (agree_put around f g k b.name c.name d) bs cs ds rest s.1

module _ (S : Setting) (env : Env) (around : Binders) (f g : List ℕ → Datum) (k : Agree around f g) where
  forth : (t u : Plain) → SameTerm around t u → (d : Datum) → Means S.defs (giving env f) t d → Means S.defs (giving env g) u d
  forth t u e d m = means_same S.defs S.has_spec env around f g k t u e d m

  back : (t u : Plain) → Back (SameTerm around) t u → (d : Datum) → Means S.defs (giving env g) t d → Means S.defs (giving env f) u d
  back t u e d m = means_back S.defs S.has_spec env around f g k u t e d m

  pub same_part : (p q : Sep) (h : Heaplet) → SamePart around p q → PartHolds S (giving env f) p h ↔ PartHolds S (giving env g) q h
  same_part p q h e = (
    λ m. part_goes S env f g (SameTerm around) forth p q h e m,
    λ m. part_goes S env g f (Back (SameTerm around)) back q p h (part_back (SameTerm around) p q e) m,
  )

  pub same_parts : (ps qs : List Sep) (h : Heaplet) → Pairwise (SamePart around) ps qs → PartsHold S (giving env f) ps h ↔ PartsHold S (giving env g) qs h
  same_parts ps qs h e = (
    λ m. parts_go S env f g (SameTerm around) forth ps qs h e m,
    λ m. parts_go S env g f (Back (SameTerm around)) back qs ps h (parts_back (SameTerm around) ps qs e) m,
  )

  pub same_terms : (ts us : List Plain) (ds : List Datum) → Pairwise (SameTerm around) ts us → AllMean S.defs (giving env f) (plains ts) ds ↔ AllMean S.defs (giving env g) (plains us) ds
  same_terms ts us ds e = (
    λ m. terms_go S env f g (SameTerm around) forth ts us e ds m,
    λ m. terms_go S env g f (Back (SameTerm around)) back us ts (flipped (SameTerm around) (Back (SameTerm around)) (λ t u b. b) ts us e) ds m,
  )

  pub same_props : (ps qs : List PlainFormula) → Pairwise (SameUnder around) ps qs → AllTrue S.defs S.has_spec (giving env f) ps ↔ AllTrue S.defs S.has_spec (giving env g) qs
  same_props [] [] e = (λ m. m, λ m. m)
  same_props [] (q ∷ qs) e = absurd e
  same_props (p ∷ ps) [] e = absurd e
  same_props (p ∷ ps) (q ∷ qs) e =
      let one = same_truth S.defs S.has_spec env around f g k p q e.0 in
      let rest = same_props ps qs e.1 in
      (λ m. (one.0 m.0, rest.0 m.1), λ m. (one.1 m.0, rest.1 m.1))

  pub same_locals : (ls ms : List Local) (temps : List ℕ → Value) → Pairwise (SameLocal around) ls ms → LocalsHold S.defs (giving env f) temps ls ↔ LocalsHold S.defs (giving env g) temps ms
  same_locals [] [] temps e = (λ m. m, λ m. m)
  same_locals [] (l ∷ ls) temps e = absurd e
  same_locals (l ∷ ls) [] temps e = absurd e
  same_locals (l ∷ ls) (m ∷ ms) temps e =
      let rest = same_locals ls ms temps e.1 in (
        λ x. (subst (λ n. Means S.defs (giving env g) m.term (Val (temps n))) e.0.0 (forth l.term m.term e.0.1 (Val (temps l.name)) x.0), rest.0 x.1),
        λ x. (subst (λ n. Means S.defs (giving env f) l.term (Val (temps n))) (sym e.0.0) (back m.term l.term e.0.1 (Val (temps m.name)) x.0), rest.1 x.1),
      )

  pub same_value : (t u : Option Plain) (v : Value) → SameOption around t u → Returns S.defs (giving env f) t v ↔ Returns S.defs (giving env g) u v
  same_value None None v e = (λ m. m, λ m. m)
  same_value None (Some u) v e = absurd e
  same_value (Some t) None v e = absurd e
  same_value (Some t) (Some u) v e = (forth t u e (Val v), back u t e (Val v))

-- data of the sorts of the one are data of those of the other
pub other_sorts : (bs cs : List Binder) (ds : List Datum) → binder_sorts bs ≡ binder_sorts cs → AreFor bs ds → AreFor cs ds
other_sorts bs cs ds e s = subst (λ sorts. HaveSorts sorts ds) e s

-- across the two environments with data for existentials
module _ (env : Env) (f : List ℕ → Datum) (bs : List Binder) (ds : List Datum) where
  pub into : (P : Env → Type 0) → P (with_data (giving env f) bs ds) → P (giving env (with_each f bs ds))
  into P x = subst P (with_data_is env f bs ds) x

  pub out_of : (P : Env → Type 0) → P (giving env (with_each f bs ds)) → P (with_data (giving env f) bs ds)
  out_of P x = subst P (sym (with_data_is env f bs ds)) x

module _ (S : Setting) (env : Env) where
  pub same_assertion : (around : Binders) (f g : List ℕ → Datum) → Agree around f g → (a b : Assertion) (temps : List ℕ → Value) (h : Heaplet) → SameAssertion around a b → Holds S (giving env f) a temps h ↔ Holds S (giving env g) b temps h
  same_assertion around f g k a b temps h e = (
    λ x.
        let ds = x.witnesses in
        let in_a : (P : Env → Type 0) → P (with_data (giving env f) a.existentials ds) → P (giving env (with_each f a.existentials ds)) = into env f a.existentials ds in
        let out_b : (P : Env → Type 0) → P (giving env (with_each g b.existentials ds)) → P (with_data (giving env g) b.existentials ds) = out_of env g b.existentials ds in
        let l = agree_all around f g k a.existentials b.existentials ds e.sorts x.sorted in
        record {
          witnesses = ds;
          sorted = other_sorts a.existentials b.existentials ds e.sorts x.sorted;
          props = out_b (λ v. AllTrue S.defs S.has_spec v b.props) ((same_props S env _ _ _ l a.props b.props e.props).0 (in_a (λ v. AllTrue S.defs S.has_spec v a.props) x.props));
          locals = out_b (λ v. LocalsHold S.defs v temps b.locals) ((same_locals S env _ _ _ l a.locals b.locals temps e.locals).0 (in_a (λ v. LocalsHold S.defs v temps a.locals) x.locals));
          parts = out_b (λ v. PartsHold S v b.parts h) ((same_parts S env _ _ _ l a.parts b.parts h e.parts).0 (in_a (λ v. PartsHold S v a.parts h) x.parts));
        },
    λ x.
        let ds = x.witnesses in
        let in_b : (P : Env → Type 0) → P (with_data (giving env g) b.existentials ds) → P (giving env (with_each g b.existentials ds)) = into env g b.existentials ds in
        let out_a : (P : Env → Type 0) → P (giving env (with_each f a.existentials ds)) → P (with_data (giving env f) a.existentials ds) = out_of env f a.existentials ds in
        let s = other_sorts b.existentials a.existentials ds (sym e.sorts) x.sorted in
        let l = agree_all around f g k a.existentials b.existentials ds e.sorts s in
        record {
          witnesses = ds;
          sorted = s;
          props = out_a (λ v. AllTrue S.defs S.has_spec v a.props) ((same_props S env _ _ _ l a.props b.props e.props).1 (in_b (λ v. AllTrue S.defs S.has_spec v b.props) x.props));
          locals = out_a (λ v. LocalsHold S.defs v temps a.locals) ((same_locals S env _ _ _ l a.locals b.locals temps e.locals).1 (in_b (λ v. LocalsHold S.defs v temps b.locals) x.locals));
          parts = out_a (λ v. PartsHold S v a.parts h) ((same_parts S env _ _ _ l a.parts b.parts h e.parts).1 (in_b (λ v. PartsHold S v b.parts h) x.parts));
        },
  )

pub same_assertions : (S : Setting) (env : Env) (a b : Assertion) (temps : List ℕ → Value) (h : Heaplet) → SameAssertion [] a b → Holds S env a temps h ↔ Holds S env b temps h
same_assertions S env a b temps h e = same_assertion S env [] env.variables env.variables (same_free env.variables) a b temps h e

pub same_parts_hold : (S : Setting) (env : Env) (p q : Sep) (h : Heaplet) → SamePart [] p q → PartHolds S env p h ↔ PartHolds S env q h
same_parts_hold S env p q h e = same_part S env [] env.variables env.variables (same_free env.variables) p q h e

-- ---- specifications

-- the data of no variable
abbrev bare : Setting → List ℕ → Datum
bare S = (bare_env S).variables

module _ (S : Setting) (s t : Funspec) (ds : List Datum) (e : SameFunspec s t) where
  agree_withs : AreFor s.with ds → Agree (withs s t) (with_each (bare S) s.with ds) (with_each (bare S) t.with ds)
  agree_withs k = agree_all [] (bare S) (bare S) (same_free (bare S)) s.with t.with ds e.with_sorts k

  into_s : (P : Env → Type 0) → P (with_data (bare_env S) s.with ds) → P (giving (bare_env S) (with_each (bare S) s.with ds))
  into_s = into (bare_env S) (bare S) s.with ds

  into_t : (P : Env → Type 0) → P (with_data (bare_env S) t.with ds) → P (giving (bare_env S) (with_each (bare S) t.with ds))
  into_t = into (bare_env S) (bare S) t.with ds

  out_s : (P : Env → Type 0) → P (giving (bare_env S) (with_each (bare S) s.with ds)) → P (with_data (bare_env S) s.with ds)
  out_s = out_of (bare_env S) (bare S) s.with ds

  out_t : (P : Env → Type 0) → P (giving (bare_env S) (with_each (bare S) t.with ds)) → P (with_data (bare_env S) t.with ds)
  out_t = out_of (bare_env S) (bare S) t.with ds

  pub same_pre : (args : List Value) (h : Heaplet) → Pre S s ds args h ↔ Pre S t ds args h
  same_pre args h = (
    λ x.
        let l = agree_withs x.sorted in
        record {
          sorted = other_sorts s.with t.with ds e.with_sorts x.sorted;
          props = out_t (λ v. AllTrue S.defs S.has_spec v t.pre.props) ((same_props S (bare_env S) _ _ _ l s.pre.props t.pre.props e.pre_props).0 (into_s (λ v. AllTrue S.defs S.has_spec v s.pre.props) x.props));
          params = out_t (λ v. AllMean S.defs v (plains t.pre.params) (map Val args)) ((same_terms S (bare_env S) _ _ _ l s.pre.params t.pre.params (map Val args) e.pre_params).0 (into_s (λ v. AllMean S.defs v (plains s.pre.params) (map Val args)) x.params));
          parts = out_t (λ v. PartsHold S v t.pre.parts h) ((same_parts S (bare_env S) _ _ _ l s.pre.parts t.pre.parts h e.pre_parts).0 (into_s (λ v. PartsHold S v s.pre.parts h) x.parts));
        },
    λ x.
        let k = other_sorts t.with s.with ds (sym e.with_sorts) x.sorted in
        let l = agree_withs k in
        record {
          sorted = k;
          props = out_s (λ v. AllTrue S.defs S.has_spec v s.pre.props) ((same_props S (bare_env S) _ _ _ l s.pre.props t.pre.props e.pre_props).1 (into_t (λ v. AllTrue S.defs S.has_spec v t.pre.props) x.props));
          params = out_s (λ v. AllMean S.defs v (plains s.pre.params) (map Val args)) ((same_terms S (bare_env S) _ _ _ l s.pre.params t.pre.params (map Val args) e.pre_params).1 (into_t (λ v. AllMean S.defs v (plains t.pre.params) (map Val args)) x.params));
          parts = out_s (λ v. PartsHold S v s.pre.parts h) ((same_parts S (bare_env S) _ _ _ l s.pre.parts t.pre.parts h e.pre_parts).1 (into_t (λ v. PartsHold S v t.pre.parts h) x.parts));
        },
  )

  post_holds : (f g : List ℕ → Datum) → Agree (withs s t) f g → (v : Value) (h : Heaplet) → PostHolds S (giving (bare_env S) f) s.post v h ↔ PostHolds S (giving (bare_env S) g) t.post v h
  post_holds f g k v h = (
    λ x.
        let ws = x.witnesses in
        let in_a : (P : Env → Type 0) → P (with_data (giving (bare_env S) f) s.post.existentials ws) → P (giving (bare_env S) (with_each f s.post.existentials ws)) = into (bare_env S) f s.post.existentials ws in
        let out_b : (P : Env → Type 0) → P (giving (bare_env S) (with_each g t.post.existentials ws)) → P (with_data (giving (bare_env S) g) t.post.existentials ws) = out_of (bare_env S) g t.post.existentials ws in
        let l = agree_all (withs s t) f g k s.post.existentials t.post.existentials ws e.post_sorts x.sorted in
        record {
          witnesses = ws;
          sorted = other_sorts s.post.existentials t.post.existentials ws e.post_sorts x.sorted;
          props = out_b (λ y. AllTrue S.defs S.has_spec y t.post.props) ((same_props S (bare_env S) _ _ _ l s.post.props t.post.props e.post_props).0 (in_a (λ y. AllTrue S.defs S.has_spec y s.post.props) x.props));
          returned = out_b (λ y. Returns S.defs y t.post.value v) ((same_value S (bare_env S) _ _ _ l s.post.value t.post.value v e.value).0 (in_a (λ y. Returns S.defs y s.post.value v) x.returned));
          parts = out_b (λ y. PartsHold S y t.post.parts h) ((same_parts S (bare_env S) _ _ _ l s.post.parts t.post.parts h e.post_parts).0 (in_a (λ y. PartsHold S y s.post.parts h) x.parts));
        },
    λ x.
        let ws = x.witnesses in
        let in_b : (P : Env → Type 0) → P (with_data (giving (bare_env S) g) t.post.existentials ws) → P (giving (bare_env S) (with_each g t.post.existentials ws)) = into (bare_env S) g t.post.existentials ws in
        let out_a : (P : Env → Type 0) → P (giving (bare_env S) (with_each f s.post.existentials ws)) → P (with_data (giving (bare_env S) f) s.post.existentials ws) = out_of (bare_env S) f s.post.existentials ws in
        let k' = other_sorts t.post.existentials s.post.existentials ws (sym e.post_sorts) x.sorted in
        let l = agree_all (withs s t) f g k s.post.existentials t.post.existentials ws e.post_sorts k' in
        record {
          witnesses = ws;
          sorted = k';
          props = out_a (λ y. AllTrue S.defs S.has_spec y s.post.props) ((same_props S (bare_env S) _ _ _ l s.post.props t.post.props e.post_props).1 (in_b (λ y. AllTrue S.defs S.has_spec y t.post.props) x.props));
          returned = out_a (λ y. Returns S.defs y s.post.value v) ((same_value S (bare_env S) _ _ _ l s.post.value t.post.value v e.value).1 (in_b (λ y. Returns S.defs y t.post.value v) x.returned));
          parts = out_a (λ y. PartsHold S y s.post.parts h) ((same_parts S (bare_env S) _ _ _ l s.post.parts t.post.parts h e.post_parts).1 (in_b (λ y. PartsHold S y t.post.parts h) x.parts));
        },
  )

  pub same_post : (v : Value) (h : Heaplet) → AreFor s.with ds → Post S s ds v h ↔ Post S t ds v h
  same_post v h k =
      let l = agree_withs k in
      let both = post_holds (with_each (bare S) s.with ds) (with_each (bare S) t.with ds) l v h in (
        λ x. out_t (λ y. PostHolds S y t.post v h) (both.0 (into_s (λ y. PostHolds S y s.post v h) x)),
        λ x. out_s (λ y. PostHolds S y s.post v h) (both.1 (into_t (λ y. PostHolds S y t.post v h) x)),
      )
