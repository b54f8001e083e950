-- What speaks of no local variable means the same wherever these lie.
use Rattle.std.proofs.Common.{◌≡◌, ◌⊎◌, inl, inr, ℕ, ℤ, Bool, true, false, ◌||◌, List, [], ◌∷◌, ◌++◌, map, Option, Some, None, refl, sym, ap, subst, ◌∙◌}
use Rattle.std.specs.Prelude.{IsTrue}
use Rattle.std.specs.List.{flat_map}
use Rattle.floyd_int.specs.declared.kinds.Value.{Value}
use Rattle.floyd_ctypes.specs.Structs.{Structs}
use Rattle.floyd_tree_sorts.specs.declared.connectives.FormulaHead.{FormulaHead}
use Rattle.floyd_tree_sorts.specs.declared.connectives.FormulaHead.TheVariants.{True, False, Implies, Or, And, Forall, Exists, Equal, AtMost, IsPtr, Defined, Hasty, Compatible, FuncPtr}
use Rattle.floyd_tree_sorts.specs.declared.heads.Head.{Head}
use Rattle.floyd_tree_sorts.specs.declared.heads.Head.TheVariants.{Lv}
use Rattle.floyd_tree_sorts.specs.declared.sorts.Sort.{Sort}
use Rattle.floyd_tree.specs.declared.paths.PathStep.{PathStep}
use Rattle.floyd_tree.specs.declared.paths.PathStep.TheVariants.{Field, Subscript}
use Rattle.floyd_tree.specs.Formulas.{PlainFormula, PlainFormulas, Says, NoFormula, MoreFormulas, formulas}
use Rattle.floyd_tree.specs.Locals.{is_local, has_local, have_local, formula_has_local, formulas_have_local}
use Rattle.floyd_tree.specs.Plain.{Plain, Plains, At, Done, More, plains}
use Rattle.floyd_tree_values.specs.BuiltIns.{Env, applied}
use Rattle.floyd_tree_values.specs.Data.{Datum, Number, Val}
use Rattle.floyd_tree_values.specs.Means.{Defs, Means, AllMean, built_in, call, none, more}
use Rattle.floyd_truth.specs.Truth.{SaysOf, Truth, FirstTrue, SecondTrue, AllTrue, with_datum}
use Rattle.floyd_clight_heap.specs.Heaplet.{Heaplet}
use Rattle.floyd_assert_cells.specs.Types.{Step, Dot, At as Subscripted}
use Rattle.floyd_assert_trees.specs.declared.assertion.Assertion.{Assertion}
use Rattle.floyd_assert_trees.specs.declared.assertion.Local.{Local}
use Rattle.floyd_assert_trees.specs.declared.binder.Binder.{Binder}
use Rattle.floyd_assert_trees.specs.declared.sep.Region.{Region}
use Rattle.floyd_assert_trees.specs.declared.sep.Sep.{Sep}
use Rattle.floyd_assert_trees.specs.declared.sep.Sep.TheVariants.{FieldAt, Padding, Valid, Anything, Predicate}
use Rattle.floyd_assert_trees.specs.declared.spec.Postcondition.{Postcondition}
use Rattle.floyd_assert_changes.specs.Changed.{local_terms, part_terms, region_terms, step_terms, terms_in}
use Rattle.floyd_assert_meaning.specs.Assertions.{Holds, LocalsHold}
use Rattle.floyd_assert_meaning.specs.Parts.{ObjectHolds, PaddingHolds, PathMeans, RegionMeans, PartHolds, object, gap, address, anything, predicate, BodyHolds, body, PartsHold}
use Rattle.floyd_assert_meaning.specs.Parts as p
use Rattle.floyd_assert_meaning.specs.Settings.{Setting, with_data}
use Rattle.floyd_assert_meaning.specs.Specifications.{PostHolds, Returns}
use Rattle.floyd_assert_laws.specs.Bare.{IsBare, assertion_has_local, option_terms, post_has_local, with_local}

neither : (a b : Bool) → (a || b) ≡ false → (a ≡ false) × (b ≡ false)
neither true b h = absurd cc
neither false b h = (refl, h)

have_append : (ts us : List Plain) → have_local (plains (ts ++ us)) ≡ false → (have_local (plains ts) ≡ false) × (have_local (plains us) ≡ false)
have_append [] us h = (refl, h)
have_append (t ∷ ts) us h =
    let first = neither (has_local t) (have_local (plains (ts ++ us))) h in
    let rest = have_append ts us first.1 in
    (ap (λ b. b || have_local (plains ts)) first.0 ∙ rest.0, rest.1)

-- a head that is no local variable's looks at none
same_applied : (structs : Structs) (env : Env) (local : List ℕ → ℕ) (head : Head) → is_local head ≡ false → (s : Sort) (ds : List Datum) → applied structs env head s ds ≡ applied structs (with_local env local) head s ds
same_applied structs env local (Lv x) h s ds = absurd cc
same_applied structs env local head h s ds = refl

with_data_local : (env : Env) (local : List ℕ → ℕ) (bs : List Binder) (ds : List Datum) → with_data (with_local env local) bs ds ≡ with_local (with_data env bs ds) local
with_data_local env local [] ds = refl
with_data_local env local (b ∷ bs) [] = refl
with_data_local env local (b ∷ bs) (d ∷ ds) = with_data_local (with_datum env b.name d) local bs ds

module _ (S : Setting) (bare : IsBare S) where
  mutual
    pub means_bare : {env : Env} {t : Plain} {d : Datum} → Means S.defs env t d → (local : List ℕ → ℕ) → has_local t ≡ false → Means S.defs (with_local env local) t d
    means_bare (built_in {env = env} {head = head} {kids = kids} {s = s} {ds = ds} f e m) local h =
        let k = neither (is_local head) (have_local kids) h in
        subst (Means S.defs (with_local env local) (At head kids)) (sym (same_applied S.defs.structs env local head k.0 s ds)) (built_in {head = head} {s = s} f e (all_bare m local k.1))
    means_bare (call {name = name} {arguments = arguments} {s = s} {kids = kids} {ds = ds} {bindings = bindings} {term = term} m e n) local h =
        call {bindings = bindings} {term = term} (all_bare m local h) e (means_bare n local (bare.funs name ds (record { bindings = bindings; term = term }) e))

    pub all_bare : {env : Env} {ts : Plains} {ds : List Datum} → AllMean S.defs env ts ds → (local : List ℕ → ℕ) → have_local ts ≡ false → AllMean S.defs (with_local env local) ts ds
    all_bare none local h = none
    all_bare (more {t = t} {ts = ts} m n) local h = let k = neither (has_local t) (have_local ts) h in more (means_bare m local k.0) (all_bare n local k.1)

  says_bare : (env : Env) (local : List ℕ → ℕ) (head : FormulaHead) (ts : Plains) → have_local ts ≡ false → SaysOf S.defs S.has_spec env head ts → SaysOf S.defs S.has_spec (with_local env local) head ts
  says_bare env local Equal ts h x = (x.0, all_bare x.1 local h)
  says_bare env local AtMost ts h x = (x.0, x.1, all_bare x.2 local h, x.3)
  says_bare env local IsPtr ts h x = (x.0, x.1, all_bare x.2 local h)
  says_bare env local Defined ts h x = (x.0, all_bare x.1 local h, x.2)
  says_bare env local (Hasty shape) ts h x = (x.0, x.1, all_bare x.2 local h, x.3)
  says_bare env local (Compatible shape steps) ts h x = (x.0, x.1, x.2, x.3, all_bare x.4 local h, x.5)
  says_bare env local (FuncPtr name) ts h x = (x.0, all_bare x.1 local h, x.2)
  says_bare env local head ts h x = absurd x

  or_map : {A B C D : Type 0} → (A → C) → (B → D) → A ⊎ B → C ⊎ D
  or_map f g (inl a) = inl (f a)
  or_map f g (inr b) = inr (g b)

  mutual
    pub truth_bare : (env : Env) (local : List ℕ → ℕ) (f : PlainFormula) → formula_has_local f ≡ false → Truth S.defs S.has_spec env f → Truth S.defs S.has_spec (with_local env local) f
    truth_bare env local (Says True ts fs) h x = tt
    truth_bare env local (Says False ts fs) h x = x
    truth_bare env local (Says Implies ts fs) h x =
        let k = (neither (have_local ts) (formulas_have_local fs) h).1 in
        λ q. second_bare env local fs k (x (first_bare (with_local env local) env.local fs k q))
    truth_bare env local (Says Or ts fs) h x =
        let k = (neither (have_local ts) (formulas_have_local fs) h).1 in
        or_map (first_bare env local fs k) (second_bare env local fs k) x
    truth_bare env local (Says And ts fs) h x =
        let k = (neither (have_local ts) (formulas_have_local fs) h).1 in
        (first_bare env local fs k x.0, second_bare env local fs k x.1)
    truth_bare env local (Says (Forall v s) ts fs) h x =
        let k = (neither (have_local ts) (formulas_have_local fs) h).1 in
        λ d e. first_bare (with_datum env v d) local fs k (x d e)
    truth_bare env local (Says (Exists v s) ts fs) h x =
        let k = (neither (have_local ts) (formulas_have_local fs) h).1 in
        (x.0, x.1, first_bare (with_datum env v x.0) local fs k x.2)
    truth_bare env local (Says head ts fs) h x = says_bare env local head ts (neither (have_local ts) (formulas_have_local fs) h).0 x

    first_bare : (env : Env) (local : List ℕ → ℕ) (fs : PlainFormulas) → formulas_have_local fs ≡ false → FirstTrue S.defs S.has_spec env fs → FirstTrue S.defs S.has_spec (with_local env local) fs
    first_bare env local NoFormula h x = x
    first_bare env local (MoreFormulas f fs) h x = truth_bare env local f (neither (formula_has_local f) (formulas_have_local fs) h).0 x

    second_bare : (env : Env) (local : List ℕ → ℕ) (fs : PlainFormulas) → formulas_have_local fs ≡ false → SecondTrue S.defs S.has_spec env fs → SecondTrue S.defs S.has_spec (with_local env local) fs
    second_bare env local NoFormula h x = x
    second_bare env local (MoreFormulas f fs) h x = first_bare env local fs (neither (formula_has_local f) (formulas_have_local fs) h).1 x

  pub props_bare : (env : Env) (local : List ℕ → ℕ) (fs : List PlainFormula) → formulas_have_local (formulas fs) ≡ false → AllTrue S.defs S.has_spec env fs → AllTrue S.defs S.has_spec (with_local env local) fs
  props_bare env local [] h x = tt
  props_bare env local (f ∷ fs) h x =
      let k = neither (formula_has_local f) (formulas_have_local (formulas fs)) h in
      (truth_bare env local f k.0 x.0, props_bare env local fs k.1 x.1)

  path_bare : (env : Env) (local : List ℕ → ℕ) (path : List PathStep) (steps : List Step) → have_local (plains (flat_map step_terms path)) ≡ false → PathMeans S.defs env path steps → PathMeans S.defs (with_local env local) path steps
  path_bare env local [] [] h x = tt
  path_bare env local [] (s ∷ steps) h x = absurd x
  path_bare env local (Field n ∷ path) [] h x = absurd x
  path_bare env local (Field n ∷ path) (Dot y ∷ steps) h x = (x.0, path_bare env local path steps h x.1)
  path_bare env local (Field n ∷ path) (Subscripted i ∷ steps) h x = absurd x
  path_bare env local (Subscript t ∷ path) [] h x = absurd x
  path_bare env local (Subscript t ∷ path) (Dot y ∷ steps) h x = absurd x
  path_bare env local (Subscript t ∷ path) (Subscripted i ∷ steps) h x =
      let k = neither (has_local t) (have_local (plains (flat_map step_terms path))) h in
      (means_bare x.0 local k.0, path_bare env local path steps k.1 x.1)

  -- the place is the same
  region_bare : (env : Env) (local : List ℕ → ℕ) (r : Region) → have_local (plains (region_terms r)) ≡ false → RegionMeans S.defs env r → RegionMeans S.defs (with_local env local) r
  region_bare env local r h m =
      let a = neither (has_local r.share) (have_local (plains (r.ty.sizes ++ (flat_map step_terms r.path ++ r.root ∷ [])))) h in
      let b = have_append r.ty.sizes (flat_map step_terms r.path ++ r.root ∷ []) a.1 in
      let c = have_append (flat_map step_terms r.path) (r.root ∷ []) b.1 in
      record {
        share = m.share;
        sizes = m.sizes;
        path = m.path;
        root = m.root;
        of_share = means_bare m.of_share local a.0;
        of_sizes = all_bare m.of_sizes local b.0;
        of_path = path_bare env local r.path m.path c.0 m.of_path;
        of_root = means_bare m.of_root local (neither (has_local r.root) false c.1).0;
      }

  object_bare : (env : Env) (local : List ℕ → ℕ) (r : Region) (value : Plain) (h : Heaplet) → have_local (plains (region_terms r ++ value ∷ [])) ≡ false → ObjectHolds S env r value h → ObjectHolds S (with_local env local) r value h
  unfolding region_bare
  object_bare env local r value h k x =
      let q = have_append (region_terms r) (value ∷ []) k in
      (region_bare env local r q.0 x.0, x.1, means_bare x.2 local (neither (has_local value) false q.1).0, x.3)

  padding_bare : (env : Env) (local : List ℕ → ℕ) (r : Region) (h : Heaplet) → have_local (plains (region_terms r)) ≡ false → PaddingHolds S env r h → PaddingHolds S (with_local env local) r h
  unfolding region_bare
  padding_bare env local r h k x = (region_bare env local r k x.0, x.1)

  mutual
    pub part_bare : {env : Env} {part : Sep} {h : Heaplet} → PartHolds S env part h → (local : List ℕ → ℕ) → have_local (plains (part_terms part)) ≡ false → PartHolds S (with_local env local) part h
    part_bare (object {env = env} {r = r} {value = value} {h = h} x) local k = object (object_bare env local r value h k x)
    part_bare (gap {env = env} {r = r} {h = h} x) local k = gap (padding_bare env local r h k x)
    part_bare (address {t = t} x) local k = address (x.0, means_bare x.1 local (neither (has_local t) false k).0, x.2)
    part_bare anything local k = anything
    part_bare (predicate {name = name} {ds = ds} {o = o} m e b) local k = predicate {ds = ds} {o = o} (all_bare m local k) e (body_bare b local (bare.preds name ds o e))

    pub body_bare : {env : Env} {a : Assertion} {h : Heaplet} → BodyHolds S env a h → (local : List ℕ → ℕ) → assertion_has_local a ≡ false → BodyHolds S (with_local env local) a h
    body_bare (body {env = env} {a = a} {h = h} ds s t q) local k =
        let both = neither (formulas_have_local (formulas a.props)) (have_local (plains (terms_in a))) k in
        let split = have_append (local_terms a.locals) (flat_map part_terms a.parts) both.1 in
        body ds s
        (subst (λ v. AllTrue S.defs S.has_spec v a.props) (sym (with_data_local env local a.existentials ds)) (props_bare (with_data env a.existentials ds) local a.props both.0 t))
        (subst (λ v. PartsHold S v a.parts h) (sym (with_data_local env local a.existentials ds)) (parts_bare q local split.1))

    pub parts_bare : {env : Env} {parts : List Sep} {h : Heaplet} → PartsHold S env parts h → (local : List ℕ → ℕ) → have_local (plains (flat_map part_terms parts)) ≡ false → PartsHold S (with_local env local) parts h
    parts_bare (p.none e) local k = p.none e
    parts_bare (p.more {p = part} {ps = parts} j m n) local k =
        let q = have_append (part_terms part) (flat_map part_terms parts) k in
        p.more j (part_bare m local q.0) (parts_bare n local q.1)

  locals_bare : (env : Env) (local : List ℕ → ℕ) (temps : List ℕ → Value) (ls : List Local) → have_local (plains (local_terms ls)) ≡ false → LocalsHold S.defs env temps ls → LocalsHold S.defs (with_local env local) temps ls
  locals_bare env local temps [] h x = tt
  locals_bare env local temps (l ∷ ls) h x =
      let k = neither (has_local l.term) (have_local (plains (local_terms ls))) h in
      (means_bare x.0 local k.0, locals_bare env local temps ls k.1 x.1)

  value_bare : (env : Env) (local : List ℕ → ℕ) (t : Option Plain) (v : Value) → have_local (plains (option_terms t)) ≡ false → Returns S.defs env t v → Returns S.defs (with_local env local) t v
  value_bare env local None v h x = tt
  value_bare env local (Some t) v h x = means_bare x local (neither (has_local t) false h).0

  pub holds_bare : (env : Env) (local : List ℕ → ℕ) (a : Assertion) (temps : List ℕ → Value) (h : Heaplet) → assertion_has_local a ≡ false → Holds S env a temps h → Holds S (with_local env local) a temps h
  holds_bare env local a temps h k x =
      let both = neither (formulas_have_local (formulas a.props)) (have_local (plains (terms_in a))) k in
      let split = have_append (local_terms a.locals) (flat_map part_terms a.parts) both.1 in
      let e = with_data_local env local a.existentials x.witnesses in
      record {
        witnesses = x.witnesses;
        sorted = x.sorted;
        props = subst (λ v. AllTrue S.defs S.has_spec v a.props) (sym e) (props_bare (with_data env a.existentials x.witnesses) local a.props both.0 x.props);
        locals = subst (λ v. LocalsHold S.defs v temps a.locals) (sym e) (locals_bare (with_data env a.existentials x.witnesses) local temps a.locals split.0 x.locals);
        parts = subst (λ v. PartsHold S v a.parts h) (sym e) (parts_bare x.parts local split.1);
      }

  pub post_bare : (env : Env) (local : List ℕ → ℕ) (a : Postcondition) (v : Value) (h : Heaplet) → post_has_local a ≡ false → PostHolds S env a v h → PostHolds S (with_local env local) a v h
  post_bare env local a v h k x =
      let both = neither (formulas_have_local (formulas a.props)) (have_local (plains (option_terms a.value ++ flat_map part_terms a.parts))) k in
      let split = have_append (option_terms a.value) (flat_map part_terms a.parts) both.1 in
      let e = with_data_local env local a.existentials x.witnesses in
      record {
        witnesses = x.witnesses;
        sorted = x.sorted;
        props = subst (λ w. AllTrue S.defs S.has_spec w a.props) (sym e) (props_bare (with_data env a.existentials x.witnesses) local a.props both.0 x.props);
        returned = subst (λ w. Returns S.defs w a.value v) (sym e) (value_bare (with_data env a.existentials x.witnesses) local a.value v split.0 x.returned);
        parts = subst (λ w. PartsHold S w a.parts h) (sym e) (parts_bare x.parts local split.1);
      }
