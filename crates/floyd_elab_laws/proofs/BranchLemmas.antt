-- Tests, and what is set in branches.
use Rattle.std.proofs.Common.{◌≡◌, ℕ, ◌<◌, ◌≤◌, Bool, true, false, not, ℤ, pos, List, [], ◌∷◌, ◌++◌, Option, Some, None, if◌then◌else◌, refl, sym, ◌∙◌, ap, ap₂, subst, arith}
use Rattle.std.specs.Int.{from_bool}
use Rattle.std.specs.Ordering.{int_eq}
use Rattle.std.proofs.lemmas.Int.{ints}
use Rattle.std.specs.Prelude.{IfSome, option_map, option_and_then}
use Rattle.floyd_int.specs.declared.kinds.IntKind.{IntKind}
use Rattle.floyd_int.specs.declared.kinds.IntKind.TheVariants.{I8, U8, I16, U16, I32, U32, I64, U64}
use Rattle.floyd_int.specs.declared.kinds.IntOp.TheVariants.{Ne}
use Rattle.floyd_int.specs.declared.kinds.Value.{Value}
use Rattle.floyd_int.specs.declared.kinds.Value.TheVariants.{Vint}
use Rattle.floyd_int.specs.Kind.{InRange, repr_of, value_of}
use Rattle.floyd_int.specs.Operation.{operation_of}
use Rattle.floyd_int.proofs.KindLaws.{value-repr}
use Rattle.floyd_ctypes.specs.declared.ctype.CType.{Int}
use Rattle.floyd_cparse_trees.specs.declared.expressions.CExpr as e
use Rattle.floyd_ctyping.specs.declared.operand.Standing.{Standing}
use Rattle.floyd_elab_names.specs.Types.{promote, usual, int_type}
use Rattle.floyd_clight.specs.declared.syntax.Expr.{Expr, Temp}
use Rattle.floyd_clight.specs.declared.syntax.Stmt.{Stmt, Set, If}
use Rattle.floyd_clight_machine.specs.Evaluation.{Temps, with_temp, eval_by}
use Rattle.floyd_clight_machine.specs.Machine.{is_true}
use Rattle.floyd_elab_expressions.specs.Clight.{Translated, is_truth, test_of, combine, literal_zero, sequence, pulled_name}
use Rattle.floyd_elab_expressions.specs.Clight as clight
use Rattle.floyd_elab_laws.specs.Conversions.{converted}
use Rattle.floyd_elab_laws.specs.Numbers.{Number, of_both, truth, is_zero, operation}
use Rattle.floyd_elab_laws.specs.Running.{run, run_all}
use Rattle.floyd_elab_laws.specs.Laws.{value_as, Holds}
use Rattle.floyd_elab_laws.proofs.KindLemmas.{converted_same, promotion_range}
use Rattle.floyd_elab_laws.proofs.ValueLemmas.{usual_wide}
use Rattle.floyd_elab_laws.proofs.EvaluationLemmas.{Evals, arithmetic_evals, truth_range}
use Rattle.floyd_elab_laws.proofs.RunLemmas.{set_same, then_some, run_sequence, run_append, run_if}
use Rattle.floyd_elab_laws.proofs.FactLemmas.{Setting, Kept, kept_same, kept_on, kept_set, Ends, stuck, goes, Facts, evals}

-- ---- truths

-- 0 or 1, of type int
pub record IsTruth (n : Number) : Type 0 where
  pub kind : n.kind ≡ I32
  pub value : IfSome n.value (λ z. z ≡ truth (not (is_zero z)))

pub truth_again : (t : Bool) → truth t ≡ truth (not (is_zero (truth t)))
truth_again true = refl
truth_again false = refl

pub truth_value : (t : Bool) → value_of I32 (from_bool t) ≡ truth t
unfolding value_of
truth_value true = refl
truth_value false = refl

truth_tested : (t : Bool) → is_true (value_as I32 (truth t)) ≡ Some t
unfolding repr_of
truth_tested true = refl
truth_tested false = refl

pub zero_as : Vint 0 ≡ value_as I32 (truth false)
unfolding repr_of
zero_as = refl

pub one_as : Vint 1 ≡ value_as I32 (truth true)
unfolding repr_of
one_as = refl

usual_int : (k : IntKind) → usual k I32 ≡ promote k
usual_int I8 = refl
usual_int U8 = refl
usual_int I16 = refl
usual_int U16 = refl
usual_int I32 = refl
usual_int U32 = refl
usual_int I64 = refl
usual_int U64 = refl

zero_range : (k : IntKind) → InRange k (pos 0)
zero_range I8 = record { from_least = omega (arith, ints); to_greatest = omega (arith, ints) }
zero_range U8 = record { from_least = omega (arith, ints); to_greatest = omega (arith, ints) }
zero_range I16 = record { from_least = omega (arith, ints); to_greatest = omega (arith, ints) }
zero_range U16 = record { from_least = omega (arith, ints); to_greatest = omega (arith, ints) }
zero_range I32 = record { from_least = omega (arith, ints); to_greatest = omega (arith, ints) }
zero_range U32 = record { from_least = omega (arith, ints); to_greatest = omega (arith, ints) }
zero_range I64 = record { from_least = omega (arith, ints); to_greatest = omega (arith, ints) }
zero_range U64 = record { from_least = omega (arith, ints); to_greatest = omega (arith, ints) }

differs : (k : IntKind) (z : ℤ) → InRange k z → operation Ne k z (pos 0) ≡ Some (truth (not (is_zero z)))
unfolding operation_of
differs k z h =
    ap₂ (λ x y. Some (value_of I32 (from_bool (not (int_eq x y))))) (value-repr k z h) (value-repr k (pos 0) (zero_range k))
    ∙ ap Some (truth_value (not (is_zero z)))

compared : (k : IntKind) (v : Option ℤ) → IfSome v (InRange k) → of_both (operation Ne k) (option_map (converted k) v) (Some (converted k (pos 0))) ≡ option_map (λ z. truth (not (is_zero z))) v
compared k None h = refl
compared k (Some z) h = ap₂ (operation Ne k) (converted_same k z h) (converted_same k (pos 0) (zero_range k)) ∙ differs k z h

promoted_still : (k : IntKind) (v : Option ℤ) → IfSome v (InRange k) → IfSome v (InRange (promote k))
promoted_still k None h = tt
promoted_still k (Some z) h = promotion_range k z h

as_truth : (v : Option ℤ) → IfSome v (λ z. z ≡ truth (not (is_zero z))) → option_map (value_as I32) v ≡ option_map (value_as I32) (option_map (λ z. truth (not (is_zero z))) v)
as_truth None h = refl
as_truth (Some z) h = ap (λ y. Some (value_as I32 y)) h

-- ---- tests

pub test_evals : (W : Setting) (c : e.CExpr) (n : Number) (before : List Stmt) (x : Expr) (st : Standing) (w : Temps) → (is_truth c ≡ true → IsTruth n) → Evals W.structs W.look w x n.kind n.value →
    eval_by W.structs W.look w (test_of c (record { before = before; expr = x; operand = record { ctype = Int n.kind; standing = st } })) ≡ option_map (value_as I32) (option_map (λ z. truth (not (is_zero z))) n.value)
test_evals W c n before x st w f h = by (is_truth c) refl
  where
    a : Translated
    a = record { before = before; expr = x; operand = record { ctype = Int n.kind; standing = st } }

    zero_evals : Evals W.structs W.look w clight.zero I32 (Some (pos 0))
    zero_evals = record { ctype = refl; range = truth_range false; value = ap Some zero_as }

    by : (t : Bool) → is_truth c ≡ t → eval_by W.structs W.look w (if t then x else combine Ne a literal_zero int_type) ≡ option_map (value_as I32) (option_map (λ z. truth (not (is_zero z))) n.value)
    by true q = h.value ∙ ap (λ k. option_map (value_as k) n.value) (f q).kind ∙ as_truth n.value (f q).value
    by false q =
        (arithmetic_evals W.structs W.look w Ne (λ k l a b. refl) x clight.zero n.kind I32 (usual n.kind I32) n.value (Some (pos 0)) (usual_wide n.kind I32) h zero_evals).value
        ∙ ap (λ k. option_map (value_as I32) (of_both (operation Ne k) (option_map (converted k) n.value) (Some (converted k (pos 0))))) (usual_int n.kind)
        ∙ ap (option_map (value_as I32)) (compared (promote n.kind) n.value (promoted_still n.kind n.value h.range))

-- the branch that a test takes
if_runs : (W : Setting) (x : Expr) (a b : Stmt) (s : Temps) (v : Option Value) → eval_by W.structs W.look s x ≡ v → run_all W.structs W.look (If x a b ∷ []) s ≡ option_and_then (λ t. if t then run W.structs W.look a s else run W.structs W.look b s) (option_and_then is_true v)
if_runs W x a b s v h =
    sym (then_some (run W.structs W.look (If x a b) s)) ∙ run_if W.structs W.look x a b s
    ∙ ap (λ v. option_and_then (λ t. if t then run W.structs W.look a s else run W.structs W.look b s) (option_and_then is_true v)) h

taken : (W : Setting) (x : Expr) (a b : Stmt) (s : Temps) (t : Bool) → eval_by W.structs W.look s x ≡ Some (value_as I32 (truth t)) → run_all W.structs W.look (If x a b ∷ []) s ≡ (if t then run W.structs W.look a s else run W.structs W.look b s)
taken W x a b s t h =
    if_runs W x a b s (Some (value_as I32 (truth t))) h
    ∙ ap (option_and_then (λ t. if t then run W.structs W.look a s else run W.structs W.look b s)) (truth_tested t)

-- ---- ends of runs

pub ends_from : {W : Setting} {c d e : ℕ} {s t : Temps} {k : IntKind} {v : Option ℤ} {x : Expr} {o : Option Temps} → c ≤ d → Kept W c s t → Ends W d e t k v x o → Ends W c e s k v x o
ends_from l n (stuck i) = stuck i
ends_from l n (goes u a h) = goes u (kept_on l n a) h

pub ends_later : {W : Setting} {d e f : ℕ} {s : Temps} {k : IntKind} {v : Option ℤ} {x : Expr} {o : Option Temps} → e ≤ f → Ends W d e s k v x o → Ends W d f s k v x o
ends_later l (stuck i) = stuck i
ends_later {W = W} {e = e} l (goes u a h) = goes u a (λ w b. h w (kept_on l (kept_same W e u) b))

-- the number that is drawn is not used again
set_kept : (W : Setting) (e j : ℕ) (v : Value) (s w : Temps) → W.first < j → j ≤ e → e ≤ W.last → Kept W e (with_temp (pulled_name j) v s) w → w (pulled_name j) ≡ v
set_kept W e j v s w f l b h =
    h.at (pulled_name j) (λ k i m q. let same : j ≡ k = W.distinct j k f (omega (arith, l, b)) (omega (arith, f, l, i)) m q in omega (arith, same, l, i))
    ∙ set_same (pulled_name j) v s

-- an expression, and a temporary set to what is made of it
set_at : (W : Setting) (d e j : ℕ) (s t : Temps) (l : IntKind) (z : Option ℤ) (y : Expr) → W.first ≤ d → d < j → j ≤ e → e ≤ W.last → Kept W d s t → eval_by W.structs W.look t y ≡ option_map (value_as l) z →
    Ends W d e s l z (Temp (pulled_name j) (Int l)) (run_all W.structs W.look (Set (pulled_name j) y ∷ []) t)
set_at W d e j s t l z y f a b c n h =
    subst (λ o. Ends W d e s l z (Temp (pulled_name j) (Int l)) (option_and_then (λ u. Some u) (option_map (λ v. with_temp (pulled_name j) v t) o))) (sym h) (by z)
  where
    by : (z : Option ℤ) → Ends W d e s l z (Temp (pulled_name j) (Int l)) (option_and_then (λ u. Some u) (option_map (λ v. with_temp (pulled_name j) v t) (option_map (value_as l) z)))
    by None = stuck refl
    by (Some i) =
        goes (with_temp (pulled_name j) (value_as l i) t) (kept_on (omega arith) n (kept_set W d j (value_as l i) t a (omega (arith, b, c))))
        (λ w m. ap Some (set_kept W e j (value_as l i) t w (omega (arith, f, a)) b c m))

set_ends : {W : Setting} {d e : ℕ} {s : Temps} {k : IntKind} {v : Option ℤ} {x : Expr} {o : Option Temps} (j : ℕ) (l : IntKind) (z : Option ℤ) (y : Expr) → W.first ≤ d → d < j → j ≤ e → e ≤ W.last → Ends W d e s k v x o → (v ≡ None → z ≡ None) →
    ((w : Temps) → eval_by W.structs W.look w x ≡ option_map (value_as k) v → eval_by W.structs W.look w y ≡ option_map (value_as l) z) → Ends W d e s l z (Temp (pulled_name j) (Int l)) (option_and_then (run_all W.structs W.look (Set (pulled_name j) y ∷ [])) o)
set_ends j l z y f a b c (stuck i) g h = stuck (g i)
set_ends {W} {d} {e} {s} j l z y f a b c (goes t n i) g h = set_at W d e j s t l z y f a b c n (h t (i t (kept_same W e t)))

-- a branch that ends with setting the temporary
pub part_ends : (W : Setting) (straight : Bool) (n : Number) (lo hi d e j : ℕ) (before : List Stmt) (x y : Expr) (l : IntKind) (z : Option ℤ) (t : Temps) → Facts W straight n lo hi before x → W.first ≤ d → d < j → d ≤ lo → hi ≤ e → j ≤ e → e ≤ W.last → Holds W.among W.scopes W.variables t → (n.value ≡ None → z ≡ None) →
    ((w : Temps) → Evals W.structs W.look w x n.kind n.value → eval_by W.structs W.look w y ≡ option_map (value_as l) z) → Ends W d e t l z (Temp (pulled_name j) (Int l)) (run W.structs W.look (sequence (before ++ Set (pulled_name j) y ∷ [])) t)
part_ends W straight n lo hi d e j before x y l z t f a b c m p q held g h =
    subst (Ends W d e t l z (Temp (pulled_name j) (Int l))) (sym (run_sequence W.structs W.look (before ++ Set (pulled_name j) y ∷ []) t ∙ run_append W.structs W.look before (Set (pulled_name j) y ∷ []) t))
    (set_ends j l z y a b p q (ends_later m (ends_from c (kept_same W d t) (f.runs (omega (arith, a, c)) (omega (arith, m, q)) t held))) g (λ w i. h w (evals W straight n lo hi before x f w i)))

-- a branch that sets it to 0 or 1
pub flag_ends : (W : Setting) (d e j : ℕ) (y : Expr) (z : ℤ) (t : Temps) → W.first ≤ d → d < j → j ≤ e → e ≤ W.last → eval_by W.structs W.look t y ≡ Some (value_as I32 z) → Ends W d e t I32 (Some z) (Temp (pulled_name j) int_type) (run W.structs W.look (Set (pulled_name j) y) t)
flag_ends W d e j y z t a b p q h =
    subst (Ends W d e t I32 (Some z) (Temp (pulled_name j) int_type)) (sym (then_some (run W.structs W.look (Set (pulled_name j) y) t)))
    (set_at W d e j t t I32 (Some z) y a b p q (kept_same W d t) h)

branch_at : (W : Setting) (c d e : ℕ) (s t : Temps) (v z : Option ℤ) (k : IntKind) (x r : Expr) (a b : Stmt) → c ≤ d → Kept W c s t → (v ≡ None → z ≡ None) → eval_by W.structs W.look t x ≡ option_map (value_as I32) (option_map (λ z. truth (not (is_zero z))) v) →
    ((i : ℤ) → v ≡ Some i → is_zero i ≡ false → Ends W d e t k z r (run W.structs W.look a t)) → ((i : ℤ) → v ≡ Some i → is_zero i ≡ true → Ends W d e t k z r (run W.structs W.look b t)) →
    Ends W c e s k z r (run_all W.structs W.look (If x a b ∷ []) t)
branch_at W c d e s t None z k x r a b l n g h f m = subst (Ends W c e s k z r) (sym (if_runs W x a b t None h)) (stuck (g refl))
branch_at W c d e s t (Some i) z k x r a b l n g h f m = by (is_zero i) refl
  where
    by : (q : Bool) → is_zero i ≡ q → Ends W c e s k z r (run_all W.structs W.look (If x a b ∷ []) t)
    by true q = subst (Ends W c e s k z r) (sym (taken W x a b t false (h ∙ ap (λ p. Some (value_as I32 (truth (not p)))) q))) (ends_from l n (m i refl q))
    by false q = subst (Ends W c e s k z r) (sym (taken W x a b t true (h ∙ ap (λ p. Some (value_as I32 (truth (not p)))) q))) (ends_from l n (f i refl q))

-- a test, and one of two branches
pub branch_ends : {W : Setting} {c d : ℕ} {s : Temps} {j : IntKind} {v : Option ℤ} {y : Expr} {o : Option Temps} (e : ℕ) (z : Option ℤ) (k : IntKind) (x r : Expr) (a b : Stmt) → c ≤ d → Ends W c d s j v y o → (v ≡ None → z ≡ None) →
    ((w : Temps) → eval_by W.structs W.look w y ≡ option_map (value_as j) v → eval_by W.structs W.look w x ≡ option_map (value_as I32) (option_map (λ z. truth (not (is_zero z))) v)) →
    ((t : Temps) → Kept W c s t → (i : ℤ) → v ≡ Some i → is_zero i ≡ false → Ends W d e t k z r (run W.structs W.look a t)) → ((t : Temps) → Kept W c s t → (i : ℤ) → v ≡ Some i → is_zero i ≡ true → Ends W d e t k z r (run W.structs W.look b t)) →
    Ends W c e s k z r (option_and_then (run_all W.structs W.look (If x a b ∷ [])) o)
branch_ends e z k x r a b l (stuck i) g h f m = stuck (g i)
branch_ends {W} {c} {d} {s} {j} {v} e z k x r a b l (goes t n i) g h f m = branch_at W c d e s t v z k x r a b l n g (h t (i t (kept_same W d t))) (f t n) (m t n)
