-- What a law says of well-formed terms is well formed, and so are the goals of its use.
use Rattle.std.proofs.Common.{◌≡◌, ℕ, zero, suc, Bool, true, false, cond, List, [], ◌∷◌, ◌++◌, map, Option, Some, None, Result, Ok, Err, All, refl, sym, ap, subst, ◌∙◌, append-nil}
use Rattle.std.specs.Prelude.{nat_eq, length, option_and_then, get_or, pos}
use Rattle.std.specs.List.{AllByRecursion}
use Rattle.std.proofs.lemmas.List.Elements.{All-cons, All-nil, All-head, All-tail}
use Rattle.floyd_text.specs.declared.refusal.No.{No}
use Rattle.floyd_tree_sorts.specs.declared.heads.Head.TheVariants as h
use Rattle.floyd_tree_sorts.specs.declared.sorts.Sort.{Sort}
use Rattle.floyd_tree.specs.declared.stop.MakeStop.{MakeStop}
use Rattle.floyd_tree.specs.Formulas.{PlainFormula, formulas, well_sorted}
use Rattle.floyd_tree.specs.MadeFormulas.{formula_faults}
use Rattle.floyd_tree.specs.Plain.{Plain, At, Done, plains}
use Rattle.floyd_tree.specs.WellSorted.{sorts_of}
use Rattle.floyd_tree_values.specs.Rules.{Scope}
use Rattle.floyd_assert_trees.specs.declared.items.Defs.{Defs}
use Rattle.floyd_assert_trees.specs.declared.spec.SpecTable.{SpecTable}
use Rattle.floyd_assert_trees.specs.Meanings.{value_defs}
use Rattle.floyd_goal.specs.Goals.{intros_first, is_pending}
use Rattle.floyd_goal_formulas.specs.Fits.{Fits}
use Rattle.floyd_goal_trees.specs.Contexts.{context_of, scope_of}
use Rattle.floyd_goal_trees.specs.declared.args.Args.{Args}
use Rattle.floyd_goal_trees.specs.declared.goal.Goal.{Goal}
use Rattle.floyd_goal_forms.specs.Goals.{IsWellFormed}
use Rattle.floyd_goal_forms.specs.Terms.{AllHeadsFit, AllKnown, FormulaFits, FormulasFit, GlobalsKnown, HeadFits, HeadsFit, IsKnown}
use Rattle.floyd_listlaw.specs.declared.heads.LawForm.{LawForm}
use Rattle.floyd_listlaw.specs.declared.heads.LawForm.TheVariants as lf
use Rattle.floyd_listlaw.specs.declared.heads.LawHead.{LawHead}
use Rattle.floyd_listlaw.specs.declared.heads.LawHead.TheVariants as lh
use Rattle.floyd_listlaw.specs.declared.instance.Law.{Law}
use Rattle.floyd_listlaw.specs.declared.list_law.ListLaw.{ListLaw}
use Rattle.floyd_listlaw.specs.Instances.{instance, by_law, in_sort, within, says, formulas_in, fixed_by}
use Rattle.floyd_listlaw.specs.Laws.{IsTerm}
use Rattle.floyd_listlaw.specs.Names.{law_named}
use Rattle.floyd_listlaw.specs.Table.{row}
use Rattle.floyd_listlaw.specs.Terms.{LawTerm, LawTerms, Argument, Node, NoTerm, Terms, LawFormula, LawFormulas, Claim, NoClaim, Claims, form_head, formula_with, formulas_with, head_with, term_with, terms_with}
use Rattle.floyd_pure_laws.specs.ByLaw.{ByLaw, LawRow}
use Rattle.floyd_pure_laws.proofs.LawTerms.{all_fit, sorted_each}
use Rattle.floyd_pure_formulas.proofs.Rowing.{no_goals, passed}
use Rattle.floyd_formed_pure.specs.Rows.{AreWellFormed, GivenTerm, KeepsForms}
use Rattle.floyd_formed_pure.proofs.Premises.{concludes_formed}

-- an instance that a row gives, and that can be made
record Given (ts : List Plain) (law : Law) : Type 0 where
  pub row' : ListLaw
  pub sort : Sort
  pub is : says (row row') sort ts ≡ law
  pub made : formula_faults (formulas (formulas_in law)) ≡ None

in_limits : (l : ListLaw) (s : Sort) (ts : List Plain) (law w : Law) (o : Option MakeStop) → says (row l) s ts ≡ w → formula_faults (formulas (formulas_in w)) ≡ o → within o w ≡ Ok law → Given ts law
in_limits l s ts law w None d f e =
    let same : w ≡ law = cc in
    record { row' = l; sort = s; is = d ∙ same; made = ap (λ x. formula_faults (formulas (formulas_in x))) (sym same) ∙ f }
in_limits l s ts law w (Some stop) d f e = absurd cc

of_sort : (l : ListLaw) (ts : List Plain) (law : Law) (o : Option Sort) → in_sort (row l) ts o ≡ Ok law → Given ts law
of_sort l ts law None e = absurd cc
of_sort l ts law (Some s) e = in_limits l s ts law (says (row l) s ts) (formula_faults (formulas (formulas_in (says (row l) s ts)))) refl refl e

counted : (law : Law) (b : Bool) (x : Result Law No) (refusal : No) → cond b x (Err refusal) ≡ Ok law → x ≡ Ok law
counted law true x refusal e = e
counted law false x refusal e = absurd cc

of_law : (name : List ℕ) (ts : List Plain) (law : Law) (o : Option ListLaw) → by_law name ts o ≡ Ok law → Given ts law
of_law name ts law None e = absurd cc
of_law name ts law (Some l) e =
    let fixing = option_and_then (fixed_by (row l).arguments) (sorts_of (plains ts)) in
    of_sort l ts law fixing (counted law (nat_eq (length ts) (length (row l).arguments)) (in_sort (row l) ts fixing) _ e)

-- a law writes no names of the file or of SPECs
module _ (defs : Defs) (specs : SpecTable) (s : Sort) (ts : List Plain) (known : AllByRecursion (GlobalsKnown defs) ts) where
  at : (us : List Plain) → AllByRecursion (GlobalsKnown defs) us → (place : ℕ) → GlobalsKnown defs (get_or us place (At (h.Literal (pos 0)) Done))
  at [] all place = (tt, tt)
  at (u ∷ us) all zero = all.0
  at (u ∷ us) all (suc place) = at us all.1 place

  head_known : (head : LawHead) → IsKnown defs (head_with s head)
  head_known (lh.Literal z) = tt
  head_known (lh.Nil form) = tt
  head_known (lh.Signed w) = tt
  head_known (lh.Unsigned w) = tt
  head_known (lh.Operator operator) = tt

  mutual
    term_known : (t : LawTerm) → GlobalsKnown defs (term_with s ts t)
    term_known (Argument place) = at ts known place
    term_known (Node head kids) = (head_known head, terms_known kids)

    terms_known : (us : LawTerms) → AllKnown defs (terms_with s ts us)
    terms_known NoTerm = tt
    terms_known (Terms t us) = (term_known t, terms_known us)

  form_known : (form : LawForm) → HeadFits defs specs (form_head form)
  form_known lf.False = tt
  form_known lf.Equal = tt
  form_known lf.AtMost = tt
  form_known lf.IsPtr = tt
  form_known lf.Or = tt
  form_known lf.Implies = tt

  mutual
    formula_known : (a : LawFormula) → HeadsFit defs specs (formula_with s ts a)
    formula_known (Claim form own kids) = (form_known form, terms_known own, formulas_known kids)

    formulas_known : (fs : LawFormulas) → AllHeadsFit defs specs (formulas_with s ts fs)
    formulas_known NoClaim = tt
    formulas_known (Claims a fs) = (formula_known a, formulas_known fs)

  module _ (scope : Scope) where
    each_formed : (fs : List LawFormula) → All (Fits (value_defs defs) scope) (map (formula_with s ts) fs) → FormulasFit defs specs scope (map (formula_with s ts) fs)
    each_formed [] k = tt
    each_formed (a ∷ fs) k = (
      record { fits = All-head (Fits (value_defs defs) scope) (formula_with s ts a) (map (formula_with s ts) fs) k; known = formula_known a },
      each_formed fs (All-tail (Fits (value_defs defs) scope) (formula_with s ts a) (map (formula_with s ts) fs) k),
    )

-- ---- the command

behind : (fs gs : List PlainFormula) → All (λ a. well_sorted a ≡ true) (fs ++ gs) → All (λ a. well_sorted a ≡ true) gs
behind [] gs k = k
behind (a ∷ fs) gs k = behind fs gs (All-tail (λ b. well_sorted b ≡ true) a (fs ++ gs) k)

module _ (defs : Defs) (specs : SpecTable) (scope : Scope) where
  terms_fit : (ts : List Plain) → AllByRecursion (GivenTerm defs scope) ts → All (IsTerm (value_defs defs) scope) ts
  terms_fit [] k = All-nil (IsTerm (value_defs defs) scope)
  terms_fit (t ∷ ts) k = All-cons (IsTerm (value_defs defs) scope) t ts (k.0.0.0, k.0.0.1.fits) (terms_fit ts k.1)

  names_known : (ts : List Plain) → AllByRecursion (GivenTerm defs scope) ts → AllByRecursion (GlobalsKnown defs) ts
  names_known [] k = tt
  names_known (t ∷ ts) k = (k.0.0.1.known, names_known ts k.1)

  abbrev Formed : Law → Type 0
  Formed law = FormulasFit defs specs scope law.premises × FormulaFits defs specs scope law.conclusion

  law_formed : (name : List ℕ) (ts : List Plain) (law : Law) → AllByRecursion (GivenTerm defs scope) ts → instance name ts ≡ Ok law → Formed law
  law_formed name ts law k e =
      let p = of_law name ts law (law_named name) e in
      let r = row p.row' in
      let known = names_known ts k in
      let written = says r p.sort ts in
      let made : formula_faults (formulas (formulas_in written)) ≡ None = ap (λ x. formula_faults (formulas (formulas_in x))) p.is ∙ p.made in
      let premises = all_fit (value_defs defs) scope p.sort ts (terms_fit ts k) r.premises (sorted_each (map (formula_with p.sort ts) r.premises) (formula_with p.sort ts r.conclusion ∷ []) made) in
      let both = sorted_each (written.premises ++ written.conclusion ∷ []) [] (ap (λ fs. formula_faults (formulas fs)) (append-nil (formulas_in written)) ∙ made) in
      let last = all_fit (value_defs defs) scope p.sort ts (terms_fit ts k) (r.conclusion ∷ []) (behind written.premises (formula_with p.sort ts r.conclusion ∷ []) both) in
      subst Formed p.is (each_formed defs specs p.sort ts known scope r.premises premises, (each_formed defs specs p.sort ts known scope (r.conclusion ∷ []) last).0)

module _ (defs : Defs) (specs : SpecTable) (goal : Goal) (formed : IsWellFormed defs specs goal) (args : Args) (given : AllByRecursion (GivenTerm defs (scope_of (context_of goal))) args.terms) (goals : List Goal) where
  by_formed : (answer : Result Law No) → instance args.name args.terms ≡ answer → ByLaw goal answer (Ok goals) → AreWellFormed defs specs goals
  by_formed (Err refusal) is row = absurd (no_goals goals _ row)
  by_formed (Ok law) is row =
      let k = law_formed defs specs (scope_of (context_of goal)) args.name args.terms law given is in
      concludes_formed defs specs goal formed law.conclusion k.1 goals law.premises k.0 row

pub law_forms : KeepsForms LawRow
law_forms defs specs goal args goals formed given row =
    by_formed defs specs goal formed args given.terms goals (instance args.name args.terms) refl (passed (is_pending goal) intros_first (ByLaw goal (instance args.name args.terms)) goals row)
