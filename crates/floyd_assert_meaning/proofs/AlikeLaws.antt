-- Assertions that say the same hold of the same.
use Rattle.std.proofs.Common.{◌↔◌, ℕ, List, [], ◌∷◌, Option, Some, None, sym, subst}
use Rattle.floyd_int.specs.declared.kinds.Value.{Value}
use Rattle.floyd_tree.specs.Formulas.{PlainFormula}
use Rattle.floyd_tree.specs.Plain.{Plain}
use Rattle.floyd_tree_values.specs.BuiltIns.{Env}
use Rattle.floyd_tree_values.specs.Data.{Datum, Val}
use Rattle.floyd_tree_values.specs.Means.{Means}
use Rattle.floyd_truth.specs.Truth.{AllTrue}
use Rattle.floyd_truth.proofs.OneTruth.{giving}
use Rattle.floyd_clight_heap.specs.Heaplet.{Heaplet}
use Rattle.floyd_assert_trees.specs.declared.assertion.Assertion.{Assertion}
use Rattle.floyd_assert_trees.specs.declared.assertion.Local.{Local}
use Rattle.floyd_assert_trees.specs.declared.sep.Sep.{Sep}
use Rattle.floyd_assert_trees.specs.declared.spec.Postcondition.{Postcondition}
use Rattle.floyd_assert_meaning.specs.Settings.{Setting, with_each}
use Rattle.floyd_assert_meaning.specs.Parts.{BodyHolds, body, PartsHold}
use Rattle.floyd_assert_meaning.specs.Assertions.{Holds, LocalsHold}
use Rattle.floyd_assert_meaning.specs.Specifications.{PostHolds, Returns}
use Rattle.floyd_assert_meaning.specs.Same.{Pairwise, PartsAgree}
use Rattle.floyd_assert_meaning.proofs.Inversions.{body_of}
use Rattle.floyd_assert_meaning.proofs.Related.{parts_go, Back, parts_back}
use Rattle.floyd_assert_meaning.proofs.Sames.{into, other_sorts, out_of}
use Rattle.floyd_assert_meaning.specs.Alike.{SayAlike, MeanAlike, LocalsAlike, OptionAlike, Alike, PostsAlike}

module _ (S : Setting) (env : Env) (f g : List ℕ → Datum) where
  forth : (t u : Plain) → MeanAlike S env f g t u → (d : Datum) → Means S.defs (giving env f) t d → Means S.defs (giving env g) u d
  forth t u r d m = (r d).0 m

  back : (t u : Plain) → Back (MeanAlike S env f g) t u → (d : Datum) → Means S.defs (giving env g) t d → Means S.defs (giving env f) u d
  back t u r d m = (r d).1 m

  pub alike_parts : (ps qs : List Sep) (h : Heaplet) → Pairwise (PartsAgree (MeanAlike S env f g)) ps qs → PartsHold S (giving env f) ps h ↔ PartsHold S (giving env g) qs h
  alike_parts ps qs h e = (
    λ m. parts_go S env f g (MeanAlike S env f g) forth ps qs h e m,
    λ m. parts_go S env g f (Back (MeanAlike S env f g)) back qs ps h (parts_back (MeanAlike S env f g) ps qs e) m,
  )

  pub alike_props : (ps qs : List PlainFormula) → Pairwise (SayAlike S env f g) ps qs → AllTrue S.defs S.has_spec (giving env f) ps ↔ AllTrue S.defs S.has_spec (giving env g) qs
  alike_props [] [] e = (λ m. m, λ m. m)
  alike_props [] (q ∷ qs) e = absurd e
  alike_props (p ∷ ps) [] e = absurd e
  alike_props (p ∷ ps) (q ∷ qs) e =
      let rest = alike_props ps qs e.1 in
      (λ m. (e.0.0 m.0, rest.0 m.1), λ m. (e.0.1 m.0, rest.1 m.1))

  alike_locals : (ls ms : List Local) (temps : List ℕ → Value) → Pairwise (LocalsAlike S env f g) ls ms → LocalsHold S.defs (giving env f) temps ls ↔ LocalsHold S.defs (giving env g) temps ms
  alike_locals [] [] temps e = (λ m. m, λ m. m)
  alike_locals [] (m ∷ ms) temps e = absurd e
  alike_locals (l ∷ ls) [] temps e = absurd e
  alike_locals (l ∷ ls) (m ∷ ms) temps e =
      let rest = alike_locals ls ms temps e.1 in (
        λ x. (subst (λ n. Means S.defs (giving env g) m.term (Val (temps n))) e.0.0 ((e.0.1 (Val (temps l.name))).0 x.0), rest.0 x.1),
        λ x. (subst (λ n. Means S.defs (giving env f) l.term (Val (temps n))) (sym e.0.0) ((e.0.1 (Val (temps m.name))).1 x.0), rest.1 x.1),
      )

  alike_value : (t u : Option Plain) (v : Value) → OptionAlike S env f g t u → Returns S.defs (giving env f) t v ↔ Returns S.defs (giving env g) u v
  alike_value None None v e = (λ m. m, λ m. m)
  alike_value None (Some u) v e = absurd e
  alike_value (Some t) None v e = absurd e
  alike_value (Some t) (Some u) v e = e (Val v)

module _ (S : Setting) (env : Env) (f g : List ℕ → Datum) (a b : Assertion) (e : Alike S env f g a b) where
  pub alike_holds : (temps : List ℕ → Value) (h : Heaplet) → Holds S (giving env f) a temps h ↔ Holds S (giving env g) b temps h
  alike_holds temps h = (
    λ x.
        let ds = x.witnesses in
        let fa = with_each f a.existentials ds in
        let gb = with_each g b.existentials ds in
        let k = e.bodies ds x.sorted in
        record {
          witnesses = ds;
          sorted = other_sorts a.existentials b.existentials ds e.sorts x.sorted;
          props = out_of env g b.existentials ds (λ v. AllTrue S.defs S.has_spec v b.props) ((alike_props S env fa gb a.props b.props k.props).0 (into env f a.existentials ds (λ v. AllTrue S.defs S.has_spec v a.props) x.props));
          locals = out_of env g b.existentials ds (λ v. LocalsHold S.defs v temps b.locals) ((alike_locals S env fa gb a.locals b.locals temps k.locals).0 (into env f a.existentials ds (λ v. LocalsHold S.defs v temps a.locals) x.locals));
          parts = out_of env g b.existentials ds (λ v. PartsHold S v b.parts h) ((alike_parts S env fa gb a.parts b.parts h k.parts).0 (into env f a.existentials ds (λ v. PartsHold S v a.parts h) x.parts));
        },
    λ x.
        let ds = x.witnesses in
        let fa = with_each f a.existentials ds in
        let gb = with_each g b.existentials ds in
        let s = other_sorts b.existentials a.existentials ds (sym e.sorts) x.sorted in
        let k = e.bodies ds s in
        record {
          witnesses = ds;
          sorted = s;
          props = out_of env f a.existentials ds (λ v. AllTrue S.defs S.has_spec v a.props) ((alike_props S env fa gb a.props b.props k.props).1 (into env g b.existentials ds (λ v. AllTrue S.defs S.has_spec v b.props) x.props));
          locals = out_of env f a.existentials ds (λ v. LocalsHold S.defs v temps a.locals) ((alike_locals S env fa gb a.locals b.locals temps k.locals).1 (into env g b.existentials ds (λ v. LocalsHold S.defs v temps b.locals) x.locals));
          parts = out_of env f a.existentials ds (λ v. PartsHold S v a.parts h) ((alike_parts S env fa gb a.parts b.parts h k.parts).1 (into env g b.existentials ds (λ v. PartsHold S v b.parts h) x.parts));
        },
  )

  pub alike_bodies : (h : Heaplet) → BodyHolds S (giving env f) a h ↔ BodyHolds S (giving env g) b h
  alike_bodies h = (
    λ y.
        let x = body_of y in
        let ds = x.witnesses in
        let fa = with_each f a.existentials ds in
        let gb = with_each g b.existentials ds in
        let k = e.bodies ds x.sorted in
        body ds (other_sorts a.existentials b.existentials ds e.sorts x.sorted)
        (out_of env g b.existentials ds (λ v. AllTrue S.defs S.has_spec v b.props) ((alike_props S env fa gb a.props b.props k.props).0 (into env f a.existentials ds (λ v. AllTrue S.defs S.has_spec v a.props) x.props)))
        (out_of env g b.existentials ds (λ v. PartsHold S v b.parts h) ((alike_parts S env fa gb a.parts b.parts h k.parts).0 (into env f a.existentials ds (λ v. PartsHold S v a.parts h) x.parts))),
    λ y.
        let x = body_of y in
        let ds = x.witnesses in
        let fa = with_each f a.existentials ds in
        let gb = with_each g b.existentials ds in
        let s = other_sorts b.existentials a.existentials ds (sym e.sorts) x.sorted in
        let k = e.bodies ds s in
        body ds s
        (out_of env f a.existentials ds (λ v. AllTrue S.defs S.has_spec v a.props) ((alike_props S env fa gb a.props b.props k.props).1 (into env g b.existentials ds (λ v. AllTrue S.defs S.has_spec v b.props) x.props)))
        (out_of env f a.existentials ds (λ v. PartsHold S v a.parts h) ((alike_parts S env fa gb a.parts b.parts h k.parts).1 (into env g b.existentials ds (λ v. PartsHold S v b.parts h) x.parts))),
  )

module _ (S : Setting) (env : Env) (f g : List ℕ → Datum) (a b : Postcondition) (e : PostsAlike S env f g a b) where
  pub alike_posts : (v : Value) (h : Heaplet) → PostHolds S (giving env f) a v h ↔ PostHolds S (giving env g) b v h
  alike_posts v h = (
    λ x.
        let ds = x.witnesses in
        let fa = with_each f a.existentials ds in
        let gb = with_each g b.existentials ds in
        let k = e.bodies ds x.sorted in
        record {
          witnesses = ds;
          sorted = other_sorts a.existentials b.existentials ds e.sorts x.sorted;
          props = out_of env g b.existentials ds (λ w. AllTrue S.defs S.has_spec w b.props) ((alike_props S env fa gb a.props b.props k.props).0 (into env f a.existentials ds (λ w. AllTrue S.defs S.has_spec w a.props) x.props));
          returned = out_of env g b.existentials ds (λ w. Returns S.defs w b.value v) ((alike_value S env fa gb a.value b.value v k.value).0 (into env f a.existentials ds (λ w. Returns S.defs w a.value v) x.returned));
          parts = out_of env g b.existentials ds (λ w. PartsHold S w b.parts h) ((alike_parts S env fa gb a.parts b.parts h k.parts).0 (into env f a.existentials ds (λ w. PartsHold S w a.parts h) x.parts));
        },
    λ x.
        let ds = x.witnesses in
        let fa = with_each f a.existentials ds in
        let gb = with_each g b.existentials ds in
        let s = other_sorts b.existentials a.existentials ds (sym e.sorts) x.sorted in
        let k = e.bodies ds s in
        record {
          witnesses = ds;
          sorted = s;
          props = out_of env f a.existentials ds (λ w. AllTrue S.defs S.has_spec w a.props) ((alike_props S env fa gb a.props b.props k.props).1 (into env g b.existentials ds (λ w. AllTrue S.defs S.has_spec w b.props) x.props));
          returned = out_of env f a.existentials ds (λ w. Returns S.defs w a.value v) ((alike_value S env fa gb a.value b.value v k.value).1 (into env g b.existentials ds (λ w. Returns S.defs w b.value v) x.returned));
          parts = out_of env f a.existentials ds (λ w. PartsHold S w a.parts h) ((alike_parts S env fa gb a.parts b.parts h k.parts).1 (into env g b.existentials ds (λ w. PartsHold S w b.parts h) x.parts));
        },
  )
