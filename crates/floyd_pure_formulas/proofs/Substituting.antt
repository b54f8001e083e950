-- Terms that may stand for a variable, and what the instance says.
use Rattle.std.proofs.Common.{◌≡◌, ◌↔◌, ℕ, ◌+◌, ◌<◌, ◌≤◌, ◌^◌, Bool, true, false, ◌&&◌, List, [], ◌∷◌, length, Option, Some, None, Result, Ok, Err, refl, ap, subst, ◌∙◌, cond, arith, leb-true}
use Rattle.std.specs.Prelude.{bytes_eq, option_and_then, nat_le}
use Rattle.std.specs.Map.{lookup}
use Rattle.floyd_int.specs.declared.kinds.Value.{Value}
use Rattle.floyd_text.specs.declared.code.Code.TheVariants as c
use Rattle.floyd_text.specs.declared.refusal.No.{No}
use Rattle.floyd_ctypes.specs.Structs.{Structs}
use Rattle.floyd_tree_sorts.specs.declared.connectives.FormulaHead.{FormulaHead}
use Rattle.floyd_tree_sorts.specs.declared.connectives.FormulaHead.TheVariants.{Forall, Exists}
use Rattle.floyd_tree_sorts.specs.declared.heads.Head.{Head}
use Rattle.floyd_tree_sorts.specs.declared.heads.Head.TheVariants.{Variable}
use Rattle.floyd_tree_sorts.specs.declared.sorts.Sort.{Sort}
use Rattle.floyd_tree_sorts.specs.Table.{alone, sort_at}
use Rattle.floyd_tree_sorts.proofs.SortLemmas.{both_true, same_sort_true}
use Rattle.floyd_tree.specs.Formulas.{PlainFormula, PlainFormulas, Says, NoFormula, MoreFormulas, listed_formulas, formula_height, formula_size, formula_sizes, takes_all, well_sorted, all_well_sorted}
use Rattle.floyd_tree.specs.Made.{fits}
use Rattle.floyd_tree.specs.MadeFormulas.{formula_fits}
use Rattle.floyd_tree.specs.Plain.{Plain, Plains, At, Done, More, height, size, sizes}
use Rattle.floyd_tree.specs.WellSorted.{sort_of, sorts_of}
use Rattle.floyd_tree_values.specs.BuiltIns.{Env}
use Rattle.floyd_tree_values.specs.Data.{Datum}
use Rattle.floyd_tree_values.specs.Means.{Defs, Means}
use Rattle.floyd_tree_values.specs.Rules.{Scope, Calls, CallsOf, EachAllowed, AllAllowed}
use Rattle.floyd_truth.specs.Capture.{Becomes, Put, Called, Changes, renamed}
use Rattle.floyd_truth.specs.Laws.{Changed, IsAfter, nodes}
use Rattle.floyd_truth.specs.Replace.{HasSortOf, SortsAgree, AllSortsAgree, FormulaSortsAgree, FormulasSortsAgree, changes_below, puts, replaced, replaced_in, replaced_formula, replaced_formulas, variable_as}
use Rattle.floyd_truth.specs.Truth.{Truth, with_datum}
use Rattle.floyd_truth.proofs.InChanged.{true_in_changed}
use Rattle.floyd_assert_changes.specs.Substituted.{formula_with}
use Rattle.floyd_goal.specs.Goals.{refusal}
use Rattle.floyd_goal_formulas.specs.Fits.{Fits, IsAllowed, AreAllowed, scope_below}
use Rattle.floyd_goal_formulas.proofs.Values.{first_some, sorted}
use Rattle.floyd_pure_formulas.specs.Instances.{instance_at, is_sort}
use Rattle.floyd_pure_formulas.specs.InstancesClauses.{Takes}

-- the terms have the sorts that the variables have in the scope
abbrev pub Suiting : Changes → Scope → Type 0
Suiting changes scope = (v : List ℕ) (r : Sort) → lookup (bytes_eq v) scope ≡ Some r → HasSortOf (lookup (bytes_eq v) changes) r

bound_suits : (changes : Changes) (scope : Scope) → Suiting changes scope → (x y : List ℕ) (s : Sort) → Suiting ((x, Called y) ∷ changes) ((x, s) ∷ scope)
bound_suits changes scope h x y s v r e = by (bytes_eq v x) e
  where
    by : (b : Bool) → cond b (Some s) (lookup (bytes_eq v) scope) ≡ Some r → HasSortOf (cond b (Some (Called y)) (lookup (bytes_eq v) changes)) r
    by true e = tt
    by false e = h v r e

below_suits : (changes : Changes) (scope : Scope) → Suiting changes scope → (head : FormulaHead) (kids : PlainFormulas) → Suiting (changes_below changes head kids) (scope_below head scope)
below_suits changes scope h (Forall x s) kids = bound_suits changes scope h x (renamed changes kids x) s
below_suits changes scope h (Exists x s) kids = bound_suits changes scope h x (renamed changes kids x) s
below_suits changes scope h head kids = h

module _ (structs : Structs) (calls : Calls) (changes : Changes) (scope : Scope) (h : Suiting changes scope) where
  mutual
    term_agrees : (t : Plain) → EachAllowed structs scope calls t → SortsAgree changes t
    term_agrees (At (Variable x s) ts) a = (h x s a.0, terms_agree ts a.1)
    term_agrees (At head ts) a = (tt, terms_agree ts a.1)

    terms_agree : (ts : Plains) → AllAllowed structs scope calls ts → AllSortsAgree changes ts
    terms_agree Done a = tt
    terms_agree (More t ts) a = (term_agrees t a.0, terms_agree ts a.1)

module _ (defs : Defs) where
  mutual
    pub formula_agrees : (changes : Changes) (scope : Scope) → Suiting changes scope → (a : PlainFormula) → IsAllowed defs scope a → FormulaSortsAgree changes a
    formula_agrees changes scope h (Says head terms kids) k =
        (terms_agree defs.structs (CallsOf defs.funs) changes scope h terms k.0, formulas_agree (changes_below changes head kids) (scope_below head scope) (below_suits changes scope h head kids) kids k.1)

    formulas_agree : (changes : Changes) (scope : Scope) → Suiting changes scope → (fs : PlainFormulas) → AreAllowed defs scope fs → FormulasSortsAgree changes fs
    formulas_agree changes scope h NoFormula k = tt
    formulas_agree changes scope h (MoreFormulas a fs) k = (formula_agrees changes scope h a k.0, formulas_agree changes scope h fs k.1)

  one_suits : (scope : Scope) (x : List ℕ) (s : Sort) (t : Plain) → sort_of t ≡ Some s → Suiting (puts ((x, t) ∷ [])) ((x, s) ∷ scope)
  one_suits scope x s t e v r i = by (bytes_eq v x) i
    where
      by : (b : Bool) → cond b (Some s) (lookup (bytes_eq v) scope) ≡ Some r → HasSortOf (cond b (Some (Put t)) None) r
      by true i = e ∙ i
      by false i = tt

  -- a body that is well formed where x has the sort takes terms of the sort for x
  pub body_takes : (scope : Scope) (x : List ℕ) (s : Sort) (body : PlainFormula) → Fits defs ((x, s) ∷ scope) body → Takes x s body
  body_takes scope x s body fit t e = formula_agrees (puts ((x, t) ∷ [])) ((x, s) ∷ scope) (one_suits scope x s t e) body fit.allowed

-- a tree is as large as it was at least
no_alone : (s r : Sort) (t : Plain) (ts : Plains) → option_and_then (alone s) (sorts_of (More t ts)) ≡ Some r → ⊥
no_alone s r t ts e = by (sorts_of (More t ts)) refl e
  where
    by : (o : Option (List Sort)) → sorts_of (More t ts) ≡ o → option_and_then (alone s) o ≡ Some r → ⊥
    by None i e = cc
    by (Some ss) i e =
        let p = first_some (sort_of t) (sorts_of ts) ss i in
        let q : option_and_then (alone s) (Some (p.0 ∷ p.1)) ≡ Some r = subst (λ x. option_and_then (alone s) (Some x) ≡ Some r) p.4 e in
        cc

sorts_there : (head : Head) (o : Option (List Sort)) (s : Sort) → option_and_then (sort_at head) o ≡ Some s → (ss : List Sort) × (o ≡ Some ss)
sorts_there head (Some ss) s e = (ss, refl)
sorts_there head None s e = absurd cc

one_node : (t : Plain) → 1 ≤ size t
one_node (At head kids) = omega arith

variable_size : (o : Option Becomes) (x : List ℕ) (s : Sort) → 1 ≤ size (variable_as o x s Done)
variable_size (Some (Put t)) x s = one_node t
variable_size (Some (Called y)) x s = omega arith
variable_size None x s = omega arith

mutual
  size_kept : (changes : Changes) (t : Plain) (s : Sort) → sort_of t ≡ Some s → size t ≤ size (replaced changes t)
  size_kept changes (At (Variable x o) Done) s e = variable_size (lookup (bytes_eq x) changes) x o
  size_kept changes (At (Variable x o) (More t ts)) s e = absurd (no_alone o s t ts e)
  size_kept changes (At head ts) s e =
      let ss = sorts_there head (sorts_of ts) s e in
      omega (arith, sizes_kept changes ts ss.0 ss.1)

  sizes_kept : (changes : Changes) (ts : Plains) (ss : List Sort) → sorts_of ts ≡ Some ss → sizes ts ≤ sizes (replaced_in changes ts)
  sizes_kept changes Done ss e = omega arith
  sizes_kept changes (More t ts) ss e =
      let p = first_some (sort_of t) (sorts_of ts) ss e in
      omega (arith, size_kept changes t p.0 p.2, sizes_kept changes ts p.1 p.3)

mutual
  pub formula_size_kept : (changes : Changes) (a : PlainFormula) → well_sorted a ≡ true → formula_size a ≤ formula_size (replaced_formula changes a)
  formula_size_kept changes (Says head terms kids) w =
      let s = sorted head terms kids w in
      let k = (both_true (takes_all head (sorts_of terms) (length (listed_formulas kids))) (all_well_sorted kids) w).1 in
      omega (arith, sizes_kept changes terms s.sorts s.are, formula_sizes_kept (changes_below changes head kids) kids k)

  formula_sizes_kept : (changes : Changes) (fs : PlainFormulas) → all_well_sorted fs ≡ true → formula_sizes fs ≤ formula_sizes (replaced_formulas changes fs)
  formula_sizes_kept changes NoFormula w = omega arith
  formula_sizes_kept changes (MoreFormulas a fs) w =
      let k = both_true (well_sorted a) (all_well_sorted fs) w in
      omega (arith, formula_size_kept changes a k.0, formula_sizes_kept changes fs k.1)

within : (m n : ℕ) → (nat_le m 65536 && nat_le n 256) ≡ true → m ≤ 65536
within m n h = leb-true m 65536 (both_true (nat_le m 65536) (nat_le n 256) h).0

-- the limits of what is made
made_is : (a : PlainFormula) (b : Bool) (refused : No) (made : PlainFormula) → formula_fits a ≡ b → ◌≡◌ {A = Result PlainFormula No} (cond b (Ok a) (Err refused)) (Ok made) → (a ≡ made) × (formula_fits a ≡ true)
made_is a true refused made h e = (cc, h)
made_is a false refused made h e = absurd cc

pub record Instantiated (x : List ℕ) (s : Sort) (body : PlainFormula) (t : Plain) (made : PlainFormula) : Type 0 where
  pub sort : sort_of t ≡ Some s
  pub is : replaced_formula (puts ((x, t) ∷ [])) body ≡ made
  pub within : formula_fits (replaced_formula (puts ((x, t) ∷ [])) body) ≡ true

pub is_sort_is : (s : Sort) (o : Option Sort) → is_sort s o ≡ true → o ≡ Some s
is_sort_is s None h = absurd cc
is_sort_is s (Some r) h = ap (λ q. Some q) (same_sort_true r s h)

pub instantiated : (x : List ℕ) (s : Sort) (body : PlainFormula) (t : Plain) (made : PlainFormula) → instance_at x s body t ≡ Ok made → Instantiated x s body t made
instantiated x s body t made e = by (is_sort s (sort_of t)) refl e
  where
    by : (b : Bool) → is_sort s (sort_of t) ≡ b → cond b (formula_with ((x, t) ∷ []) body) (Err (refusal c.IllSorted)) ≡ Ok made → Instantiated x s body t made
    by true h e =
        let p = made_is (replaced_formula (puts ((x, t) ∷ [])) body) (formula_fits (replaced_formula (puts ((x, t) ∷ [])) body)) _ made refl e in
        record { sort = is_sort_is s (sort_of t) h; is = p.0; within = p.1 }
    by false h e = absurd cc

module _ (defs : Defs) (specs : List ℕ → Value → Bool) (env : Env) where
  changed : (x : List ℕ) (t : Plain) (d : Datum) → Means defs env t d → Changed defs env ((x, t) ∷ []) (with_datum env x d).variables
  changed x t d m v = by (bytes_eq v x)
    where
      by : (b : Bool) → IsAfter defs env (cond b (Some t) None) (env.variables v) (cond b d (env.variables v))
      by true = m
      by false = refl

  -- the instance is true where the body is with the term's value for the variable
  pub instance_true : (scope : Scope) (x : List ℕ) (s : Sort) (body : PlainFormula) (t : Plain) (made : PlainFormula) (d : Datum) → Fits defs ((x, s) ∷ scope) body → Instantiated x s body t made → fits t ≡ true → Means defs env t d → Truth defs specs env made ↔ Truth defs specs (with_datum env x d) body
  instance_true scope x s body t made d fit i small m =
      let big : formula_size body ≤ 65536 = omega (arith, formula_size_kept (puts ((x, t) ∷ [])) body fit.sorted, within (formula_size (replaced_formula (puts ((x, t) ∷ [])) body)) (formula_height (replaced_formula (puts ((x, t) ∷ [])) body)) i.within) in
      let few : nodes ((x, t) ∷ []) + formula_size body < 2 ^ 63 = omega (arith, within (size t) (height t) small, big) in
      subst (λ a. Truth defs specs env a ↔ Truth defs specs (with_datum env x d) body) i.is
      (true_in_changed defs env ((x, t) ∷ []) (with_datum env x d).variables (changed x t d m) specs body fit.sorted few (body_takes defs scope x s body fit t i.sort))
