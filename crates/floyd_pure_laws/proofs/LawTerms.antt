-- What a law says of well-formed terms is well formed.
use Rattle.std.proofs.Common.{◌≡◌, ℕ, zero, suc, Bool, true, false, cond, List, [], ◌∷◌, ◌++◌, map, Option, Some, None, Result, Ok, Err, All, refl, sym, ap, subst, ◌∙◌}
use Rattle.std.specs.Prelude.{nat_eq, length, option_and_then, get_or, pos}
use Rattle.std.specs.Option.{option_or}
use Rattle.std.proofs.lemmas.List.Elements.{All-cons, All-nil, All-head, All-tail}
use Rattle.floyd_text.specs.declared.refusal.No.{No}
use Rattle.floyd_tree_sorts.specs.declared.heads.Head.TheVariants as h
use Rattle.floyd_tree_sorts.specs.declared.sorts.Sort.{Sort}
use Rattle.floyd_tree.specs.declared.stop.MakeStop.{MakeStop}
use Rattle.floyd_tree.specs.declared.stop.MakeStop.TheVariants as m
use Rattle.floyd_tree.specs.Formulas.{PlainFormula, Says, formulas, well_sorted}
use Rattle.floyd_tree.specs.Made.{faults}
use Rattle.floyd_tree.specs.MadeFormulas.{formula_fits, formula_fault, formula_faults, formula_fault_at}
use Rattle.floyd_tree.specs.Plain.{Plain, Plains, At, Done, plains}
use Rattle.floyd_tree.specs.WellSorted.{sorts_of}
use Rattle.floyd_tree_values.specs.Means.{Defs}
use Rattle.floyd_tree_values.specs.Rules.{Scope, CallsOf, EachAllowed, AllAllowed, IsAllowed as IsAllowedHead}
use Rattle.floyd_goal_formulas.specs.Fits.{Fits, IsAllowed, AreAllowed, scope_below}
use Rattle.floyd_listlaw.specs.declared.heads.LawForm.{LawForm}
use Rattle.floyd_listlaw.specs.declared.heads.LawForm.TheVariants as lf
use Rattle.floyd_listlaw.specs.declared.heads.LawHead.{LawHead}
use Rattle.floyd_listlaw.specs.declared.heads.LawHead.TheVariants as lh
use Rattle.floyd_listlaw.specs.declared.instance.Law.{Law}
use Rattle.floyd_listlaw.specs.declared.list_law.ListLaw.{ListLaw}
use Rattle.floyd_listlaw.specs.Instances.{instance, by_law, in_sort, within, says, formulas_in, fixed_by}
use Rattle.floyd_listlaw.specs.Laws.{IsTerm}
use Rattle.floyd_listlaw.specs.Names.{law_named}
use Rattle.floyd_listlaw.specs.Table.{row}
use Rattle.floyd_listlaw.specs.Terms.{LawTerm, LawTerms, Argument, Node, NoTerm, Terms, LawFormula, LawFormulas, Claim, NoClaim, Claims, form_head, formula_with, formulas_with, head_with, term_with, terms_with}

module _ (defs : Defs) (scope : Scope) where
  same_scope : (form : LawForm) → scope_below (form_head form) scope ≡ scope
  same_scope lf.False = refl
  same_scope lf.Equal = refl
  same_scope lf.AtMost = refl
  same_scope lf.IsPtr = refl
  same_scope lf.Or = refl
  same_scope lf.Implies = refl

  module _ (s : Sort) (ts : List Plain) (fit : All (IsTerm defs scope) ts) where
    abbrev IsFine : Plain → Type 0
    IsFine t = EachAllowed defs.structs scope (CallsOf defs.funs) t

    at : (us : List Plain) → All (IsTerm defs scope) us → (place : ℕ) → IsFine (get_or us place (At (h.Literal (pos 0)) Done))
    at [] all place = (tt, tt)
    at (u ∷ us) all zero = (All-head (IsTerm defs scope) u us all).1.allowed
    at (u ∷ us) all (suc place) = at us (All-tail (IsTerm defs scope) u us all) place

    head_fine : (head : LawHead) (kids : Plains) → IsAllowedHead defs.structs scope (CallsOf defs.funs) (head_with s head) kids
    head_fine (lh.Literal z) kids = tt
    head_fine (lh.Nil form) kids = tt
    head_fine (lh.Signed w) kids = tt
    head_fine (lh.Unsigned w) kids = tt
    head_fine (lh.Operator operator) kids = tt

    mutual
      term_fine : (t : LawTerm) → IsFine (term_with s ts t)
      term_fine (Argument place) = at ts fit place
      term_fine (Node head kids) = (head_fine head (terms_with s ts kids), terms_fine kids)

      terms_fine : (us : LawTerms) → AllAllowed defs.structs scope (CallsOf defs.funs) (terms_with s ts us)
      terms_fine NoTerm = tt
      terms_fine (Terms t us) = (term_fine t, terms_fine us)

    mutual
      formula_fine : (a : LawFormula) → IsAllowed defs scope (formula_with s ts a)
      formula_fine (Claim form own kids) =
          (terms_fine own, subst (λ x. AreAllowed defs x (formulas_with s ts kids)) (sym (same_scope form)) (formulas_fine kids))

      formulas_fine : (fs : LawFormulas) → AreAllowed defs scope (formulas_with s ts fs)
      formulas_fine NoClaim = tt
      formulas_fine (Claims a fs) = (formula_fine a, formulas_fine fs)

    pub all_fit : (fs : List LawFormula) → All (λ a. well_sorted a ≡ true) (map (formula_with s ts) fs) → All (Fits defs scope) (map (formula_with s ts) fs)
    all_fit [] w = All-nil (Fits defs scope)
    all_fit (a ∷ fs) w =
        let first = All-head (λ b. well_sorted b ≡ true) (formula_with s ts a) (map (formula_with s ts) fs) w in
        let rest = All-tail (λ b. well_sorted b ≡ true) (formula_with s ts a) (map (formula_with s ts) fs) w in
        All-cons (Fits defs scope) (formula_with s ts a) (map (formula_with s ts) fs) (record { sorted = first; allowed = formula_fine a }) (all_fit fs rest)

-- formulas that can be made are well sorted
both_none : (p q : Option MakeStop) → option_or p q ≡ None → (p ≡ None) × (q ≡ None)
both_none None q e = (refl, e)
both_none (Some stop) q e = absurd cc

made_sorted : (b c : Bool) → cond b (cond c None (Some m.TooLarge)) (Some m.IllSorted) ≡ None → b ≡ true
made_sorted true c e = refl
made_sorted false c e = absurd cc

sorted_one : (a : PlainFormula) → formula_fault a ≡ None → well_sorted a ≡ true
sorted_one (Says head terms kids) e =
    let p = both_none (faults terms) (option_or (formula_faults kids) (formula_fault_at (Says head terms kids))) e in
    let q = both_none (formula_faults kids) (formula_fault_at (Says head terms kids)) p.1 in
    made_sorted (well_sorted (Says head terms kids)) (formula_fits (Says head terms kids)) q.1

pub sorted_each : (fs gs : List PlainFormula) → formula_faults (formulas (fs ++ gs)) ≡ None → All (λ a. well_sorted a ≡ true) fs
sorted_each [] gs e = All-nil (λ a. well_sorted a ≡ true)
sorted_each (a ∷ fs) gs e =
    let p = both_none (formula_fault a) (formula_faults (formulas (fs ++ gs))) e in
    All-cons (λ b. well_sorted b ≡ true) a fs (sorted_one a p.0) (sorted_each fs gs p.1)

-- an instance that a row gives, and that can be made
record Given (ts : List Plain) (law : Law) : Type 0 where
  pub row' : ListLaw
  pub sort : Sort
  pub is : says (row row') sort ts ≡ law
  pub made : formula_faults (formulas (formulas_in law)) ≡ None

in_limits : (l : ListLaw) (s : Sort) (ts : List Plain) (law w : Law) (o : Option MakeStop) → says (row l) s ts ≡ w → formula_faults (formulas (formulas_in w)) ≡ o → within o w ≡ Ok law → Given ts law
in_limits l s ts law w None d f e =
    let same : w ≡ law = cc in
    record { row' = l; sort = s; is = d ∙ same; made = ap (λ x. formula_faults (formulas (formulas_in x))) (sym same) ∙ f }
in_limits l s ts law w (Some stop) d f e = absurd cc

of_sort : (l : ListLaw) (ts : List Plain) (law : Law) (o : Option Sort) → in_sort (row l) ts o ≡ Ok law → Given ts law
of_sort l ts law None e = absurd cc
of_sort l ts law (Some s) e =
    in_limits l s ts law (says (row l) s ts) (formula_faults (formulas (formulas_in (says (row l) s ts)))) refl refl e

counted : (law : Law) (b : Bool) (x : Result Law No) (refusal : No) → cond b x (Err refusal) ≡ Ok law → x ≡ Ok law
counted law true x refusal e = e
counted law false x refusal e = absurd cc

of_law : (name : List ℕ) (ts : List Plain) (law : Law) (o : Option ListLaw) → by_law name ts o ≡ Ok law → Given ts law
of_law name ts law None e = absurd cc
of_law name ts law (Some l) e =
    let fixing = option_and_then (fixed_by (row l).arguments) (sorts_of (plains ts)) in
    of_sort l ts law fixing (counted law (nat_eq (length ts) (length (row l).arguments)) (in_sort (row l) ts fixing) _ e)

pub premises_fit : (defs : Defs) (scope : Scope) (name : List ℕ) (ts : List Plain) (law : Law) → instance name ts ≡ Ok law → All (IsTerm defs scope) ts → All (Fits defs scope) law.premises
premises_fit defs scope name ts law e fit =
    let p = of_law name ts law (law_named name) e in
    let w = sorted_each law.premises (law.conclusion ∷ []) p.made in
    let same : map (formula_with p.sort ts) (row p.row').premises ≡ law.premises = ap (λ (x : Law). x.premises) p.is in
    subst (All (Fits defs scope)) same (all_fit defs scope p.sort ts fit (row p.row').premises (subst (All (λ a. well_sorted a ≡ true)) (sym same) w))
