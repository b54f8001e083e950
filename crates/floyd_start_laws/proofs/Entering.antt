-- What an activation has when a function is entered: its parameters, and the places of its local variables.
use Rattle.std.proofs.Common.{◌≡◌, inl, inr, ℕ, Bool, true, false, List, [], ◌∷◌, ◌++◌, map, length, Some, refl, sym, ◌∙◌, ap, subst, arith}
use Rattle.std.specs.Prelude.{bytes_eq, if◌then◌else◌}
use Rattle.std.specs.List.{AllByRecursion}
use Rattle.std.proofs.lemmas.Slice.Eq.{bytes_eq-Decides}
use Rattle.floyd_int.specs.declared.kinds.Value.{Value}
use Rattle.floyd_ctypes.specs.Structs.{Structs}
use Rattle.floyd_clight.specs.declared.unit.Local.{Local}
use Rattle.floyd_clight_heap.specs.Heaplet.{Heaplet}
use Rattle.floyd_clight_machine.specs.Evaluation.{Temps, with_temp}
use Rattle.floyd_clight_machine.specs.Machine.{LocalBlock, bind_params}
use Rattle.floyd_clight_runs.specs.Calls.{AreBlocksOf, AreFresh}
use Rattle.floyd_clight_typing.specs.Bodies.{IsObject, local_names}
use Rattle.floyd_tree.specs.Plain.{Plain, Plains, plains}
use Rattle.floyd_tree_values.specs.BuiltIns.{Env}
use Rattle.floyd_tree_values.specs.Data.{Datum, Val}
use Rattle.floyd_tree_values.specs.Means.{AllMean, Defs, Means}
use Rattle.floyd_tree_values.specs.Rules.{AreDistinct, IsOneOf}
use Rattle.floyd_tree_values.proofs.OneValue.{Split, no_data, split}
use Rattle.floyd_assert_laws.specs.Bare.{with_local}
use Rattle.floyd_assert_meaning.specs.Assertions.{LocalsHold}
use Rattle.floyd_assert_meaning.specs.Parts.{PartsHold, none, more}
use Rattle.floyd_assert_meaning.specs.Settings.{Setting}
use Rattle.floyd_goal_forms.specs.Starts.{block_part, parameters_are}
use Rattle.floyd_goal_meaning.specs.GoalHolds.{StandAt}
use Rattle.floyd_start_laws.proofs.BlockParts.{block_holds}

-- ---- parameters

-- after a name was set
set_again : (x : List ℕ) (v : Value) (temps : Temps) → with_temp x v temps x ≡ v
set_again x v temps = ap (λ t. if t then v else temps x) ((bytes_eq-Decides x x).1 refl)

set_other : (x y : List ℕ) (v : Value) (temps : Temps) → (y ≡ x → ⊥) → with_temp x v temps y ≡ temps y
set_other x y v temps ne = by (bytes_eq y x) refl
  where
    by : (t : Bool) → bytes_eq y x ≡ t → with_temp x v temps y ≡ temps y
    by true e = absurd (ne ((bytes_eq-Decides y x).0 e))
    by false e = ap (λ t. if t then v else temps y) e

pub record Bound (defs : Defs) (env : Env) (ps : List Local) (ts : List Plain) (vs : List Value) (before : Temps) : Type 0 where
  pub temps : Temps
  pub is : bind_params ps vs before ≡ Some temps
  pub holds : LocalsHold defs env temps (parameters_are ps ts)
  pub others : (y : List ℕ) → (IsOneOf (local_names ps) y → ⊥) → temps y ≡ before y

same_head : {A : Type 0} (x y : A) (xs ys : List A) → x ∷ xs ≡ y ∷ ys → x ≡ y
same_head x y xs ys e = cc

same_tail : {A : Type 0} (x y : A) (xs ys : List A) → x ∷ xs ≡ y ∷ ys → xs ≡ ys
same_tail x y xs ys e = cc

some_none : {A : Type 0} (x : A) (xs : List A) → x ∷ xs ≡ [] → ⊥
some_none x xs e = cc

module _ (defs : Defs) (env : Env) where
  heads : (t : Plain) (ts : Plains) (a : Datum) (rest : List Datum) → Split defs env t ts (a ∷ rest) → Means defs env t a × AllMean defs env ts rest
  heads t ts a rest s = (
    subst (Means defs env t) (sym (same_head a s.datum rest s.data' s.is)) s.first,
    subst (AllMean defs env ts) (sym (same_tail a s.datum rest s.data' s.is)) s.rest,
  )

  none_left : (t : Plain) (ts : Plains) → Split defs env t ts [] → ⊥
  none_left t ts s = some_none s.datum s.data' (sym s.is)

  -- as many arguments as parameters, with the values of their terms
  pub bound : (ps : List Local) (ts : List Plain) (vs : List Value) (before : Temps) → AreDistinct (local_names ps) → length ps ≡ length ts → AllMean defs env (plains ts) (map Val vs) → Bound defs env ps ts vs before
  bound [] [] [] before d n m = record { temps = before; is = refl; holds = tt; others = λ y ne. refl }
  bound [] [] (v ∷ vs) before d n m = absurd (some_none (Val v) (map Val vs) (no_data m))
  bound [] (t ∷ ts) vs before d n m = absurd (omega arith)
  bound (p ∷ ps) [] vs before d n m = absurd (omega arith)
  bound (p ∷ ps) (t ∷ ts) [] before d n m = absurd (none_left t (plains ts) (split m))
  bound (p ∷ ps) (t ∷ ts) (v ∷ vs) before d n m =
      let s = heads t (plains ts) (Val v) (map Val vs) (split m) in
      let r = bound ps ts vs (with_temp p.name v before) d.1 (omega arith) s.1 in
      record {
        temps = r.temps;
        is = r.is;
        holds = (subst (λ w. Means defs env t (Val w)) (sym (r.others p.name d.0 ∙ set_again p.name v before)) s.0, r.holds);
        others = λ y ne. r.others y (λ k. ne (inr k)) ∙ set_other p.name y v before (λ e. ne (inl e));
      }

-- ---- local variables

abbrev pub block_names : List LocalBlock → List (List ℕ)
block_names bs = map (λ (b : LocalBlock). b.name) bs

-- the block of each name
abbrev pub local_of : List LocalBlock → List ℕ → ℕ
local_of [] y = 0
local_of (b ∷ bs) y = if bytes_eq y b.name then b.block else local_of bs y

at_other : (b : LocalBlock) (g : List ℕ → ℕ) (y : List ℕ) → (y ≡ b.name → ⊥) → (if bytes_eq y b.name then b.block else g y) ≡ g y
at_other b g y ne = by (bytes_eq y b.name) refl
  where
    by : (t : Bool) → bytes_eq y b.name ≡ t → (if bytes_eq y b.name then b.block else g y) ≡ g y
    by true e = absurd (ne ((bytes_eq-Decides y b.name).0 e))
    by false e = ap (λ t. if t then b.block else g y) e

module _ (env : Env) where
  stand_later : (b : LocalBlock) (g : List ℕ → ℕ) (bs : List LocalBlock) → (IsOneOf (block_names bs) b.name → ⊥) → StandAt (with_local env g) bs → StandAt (with_local env (λ y. if bytes_eq y b.name then b.block else g y)) bs
  stand_later b g [] ne h = tt
  stand_later b g (c ∷ bs) ne h = (h.0 ∙ sym (at_other b g c.name (λ e. ne (inl (sym e)))), stand_later b g bs (λ k. ne (inr k)) h.1)

  pub stand : (bs : List LocalBlock) → AreDistinct (block_names bs) → StandAt (with_local env (local_of bs)) bs
  stand [] d = tt
  stand (b ∷ bs) d =
      (sym (ap (λ t. if t then b.block else local_of bs b.name) ((bytes_eq-Decides b.name b.name).1 refl)), stand_later b (local_of bs) bs d.0 (stand bs d.1))

pub same_names : (structs : Structs) (ls : List Local) (bs : List LocalBlock) → AreBlocksOf structs ls bs → block_names bs ≡ local_names ls
same_names structs [] [] h = refl
same_names structs [] (b ∷ bs) h = absurd h
same_names structs (l ∷ ls) [] h = absurd h
same_names structs (l ∷ ls) (b ∷ bs) h = ap (λ x. x ∷ block_names bs) h.0 ∙ ap (λ xs. l.name ∷ xs) (same_names structs ls bs h.2)

-- new blocks hold the parts of a start goal
pub blocks_hold : (S : Setting) (env : Env) (ls : List Local) (bs : List LocalBlock) (h : Heaplet) → AreBlocksOf S.defs.structs ls bs → AllByRecursion (λ (l : Local). IsObject S.defs.structs l.ctype) ls → StandAt env bs → AreFresh bs h → PartsHold S env (map (block_part S.defs.structs) ls) h
blocks_hold S env [] [] h b o p f = none f
blocks_hold S env [] (b ∷ bs) h w o p f = absurd w
blocks_hold S env (l ∷ ls) [] h w o p f = absurd w
blocks_hold S env (l ∷ ls) (b ∷ bs) h w o p f =
    more f.1 (block_holds S env l b w.0 w.1 o.0 p.0) (blocks_hold S env ls bs f.0 w.2 o.1 p.1 f.2)

-- ---- names that are distinct

one_front : (xs ys : List (List ℕ)) (x : List ℕ) → IsOneOf xs x → IsOneOf (xs ++ ys) x
one_front [] ys x k = absurd k
one_front (y ∷ xs) ys x (inl e) = inl e
one_front (y ∷ xs) ys x (inr k) = inr (one_front xs ys x k)

pub distinct_front : (xs ys : List (List ℕ)) → AreDistinct (xs ++ ys) → AreDistinct xs
distinct_front [] ys d = tt
distinct_front (x ∷ xs) ys d = (λ k. d.0 (one_front xs ys x k), distinct_front xs ys d.1)

pub distinct_back : (xs ys : List (List ℕ)) → AreDistinct (xs ++ ys) → AreDistinct ys
distinct_back [] ys d = d
distinct_back (x ∷ xs) ys d = distinct_back xs ys d.1
