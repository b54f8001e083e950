use Rattle.std.proofs.Common.{ap, sym, ◌∙◌}
use Rattle.floyd_tree.specs.Plain.{plains}
use Rattle.floyd_show_terms.specs.Formulas.{compatible_text, hasty_text}
use Rattle.floyd_show_terms.specs.Terms.{term_texts}
use Rattle.floyd_show_terms.proofs.FormulaLemmas.{formula_of}
use Rattle.floyd_show_terms.proofs.Puts.{named, then_put}
use Rattle.floyd_show_terms.proofs.formulas.+formulas.Goals as goal

pub put_formula-returns-in-Implies : goal.put_formula-returns-in-Implies
put_formula-returns-in-Implies t c =
    named c.put_inners.result _ _ _ _ c.put_inners.ensures
    (formula_of c.args.formula.now _ _ _ _ c.formula_head.ensures c.in-Implies.is (c.as_slice-terms.ensures ∙ c.formula_terms.ensures) (c.as_slice-kids.ensures ∙ c.formula_kids.ensures))

pub put_formula-returns-in-Or : goal.put_formula-returns-in-Or
put_formula-returns-in-Or t c =
    named c.put_inners-in-Or.result _ _ _ _ c.put_inners-in-Or.ensures
    (formula_of c.args.formula.now _ _ _ _ c.formula_head.ensures c.in-Or.is (c.as_slice-terms.ensures ∙ c.formula_terms.ensures) (c.as_slice-kids.ensures ∙ c.formula_kids.ensures))

pub put_formula-returns-in-And : goal.put_formula-returns-in-And
put_formula-returns-in-And t c =
    named c.put_inners-in-And.result _ _ _ _ c.put_inners-in-And.ensures
    (formula_of c.args.formula.now _ _ _ _ c.formula_head.ensures c.in-And.is (c.as_slice-terms.ensures ∙ c.formula_terms.ensures) (c.as_slice-kids.ensures ∙ c.formula_kids.ensures))

pub put_formula-returns-in_ok-put_quantifier-in-Forall : goal.put_formula-returns-in_ok-put_quantifier-in-Forall
put_formula-returns-in_ok-put_quantifier-in-Forall t c =
    then_put c.put_inners-in-Forall.result _ _ _ _ _ _ c.put_inners-in-Forall.ensures c.in_ok-put_quantifier-in-Forall.ensures
    (formula_of c.args.formula.now _ _ _ _ c.formula_head.ensures c.in-Forall.is (c.as_slice-terms.ensures ∙ c.formula_terms.ensures) (c.as_slice-kids.ensures ∙ c.formula_kids.ensures))

pub put_formula-returns-in_ok-put_quantifier-in-Exists : goal.put_formula-returns-in_ok-put_quantifier-in-Exists
put_formula-returns-in_ok-put_quantifier-in-Exists t c =
    then_put c.put_inners-in-Exists.result _ _ _ _ _ _ c.put_inners-in-Exists.ensures c.in_ok-put_quantifier-in-Exists.ensures
    (formula_of c.args.formula.now _ _ _ _ c.formula_head.ensures c.in-Exists.is (c.as_slice-terms.ensures ∙ c.formula_terms.ensures) (c.as_slice-kids.ensures ∙ c.formula_kids.ensures))

pub put_formula-returns-in-Equal : goal.put_formula-returns-in-Equal
put_formula-returns-in-Equal t c =
    named c.put_kids.result _ _ _ _ c.put_kids.ensures
    (formula_of c.args.formula.now _ _ _ _ c.formula_head.ensures c.in-Equal.is (c.as_slice-terms.ensures ∙ c.formula_terms.ensures) (c.as_slice-kids.ensures ∙ c.formula_kids.ensures))

pub put_formula-returns-in-AtMost : goal.put_formula-returns-in-AtMost
put_formula-returns-in-AtMost t c =
    named c.put_kids-in-AtMost.result _ _ _ _ c.put_kids-in-AtMost.ensures
    (formula_of c.args.formula.now _ _ _ _ c.formula_head.ensures c.in-AtMost.is (c.as_slice-terms.ensures ∙ c.formula_terms.ensures) (c.as_slice-kids.ensures ∙ c.formula_kids.ensures))

pub put_formula-returns-in-IsPtr : goal.put_formula-returns-in-IsPtr
put_formula-returns-in-IsPtr t c =
    named c.put_said.result _ _ _ _ c.put_said.ensures
    (formula_of c.args.formula.now _ _ _ _ c.formula_head.ensures c.in-IsPtr.is (c.as_slice-terms.ensures ∙ c.formula_terms.ensures) (c.as_slice-kids.ensures ∙ c.formula_kids.ensures))

pub put_formula-returns-in-Defined : goal.put_formula-returns-in-Defined
put_formula-returns-in-Defined t c =
    named c.put_said-in-Defined.result _ _ _ _ c.put_said-in-Defined.ensures
    (formula_of c.args.formula.now _ _ _ _ c.formula_head.ensures c.in-Defined.is (c.as_slice-terms.ensures ∙ c.formula_terms.ensures) (c.as_slice-kids.ensures ∙ c.formula_kids.ensures))

pub put_formula-returns-in-Hasty : goal.put_formula-returns-in-Hasty
put_formula-returns-in-Hasty t c =
    named c.put_hasty.result _ _ _ _ c.put_hasty.ensures
    (formula_of c.args.formula.now _ _ _ _ c.formula_head.ensures c.in-Hasty.is (c.as_slice-terms.ensures ∙ c.formula_terms.ensures) (c.as_slice-kids.ensures ∙ c.formula_kids.ensures)
    ∙ ap (λ s. hasty_text s (term_texts (plains c.as_slice-terms.result.now))) (sym c.get.ensures))

pub put_formula-returns-in-Compatible : goal.put_formula-returns-in-Compatible
put_formula-returns-in-Compatible t c =
    named c.put_compatible.result _ _ _ _ c.put_compatible.ensures
    (formula_of c.args.formula.now _ _ _ _ c.formula_head.ensures c.in-Compatible.is (c.as_slice-terms.ensures ∙ c.formula_terms.ensures) (c.as_slice-kids.ensures ∙ c.formula_kids.ensures)
    ∙ ap (λ s. compatible_text s c.in-Compatible.path (term_texts (plains c.as_slice-terms.result.now))) (sym c.get-in-Compatible.ensures)
    ∙ ap (λ p. compatible_text c.get-in-Compatible.result.now p (term_texts (plains c.as_slice-terms.result.now))) (sym (c.as_slice.ensures ∙ c.get-in-Compatible-2.ensures)))

pub put_formula-returns-in-FuncPtr : goal.put_formula-returns-in-FuncPtr
put_formula-returns-in-FuncPtr t c =
    named c.put_func_ptr.result _ _ _ _ c.put_func_ptr.ensures
    (formula_of c.args.formula.now _ _ _ _ c.formula_head.ensures c.in-FuncPtr.is (c.as_slice-terms.ensures ∙ c.formula_terms.ensures) (c.as_slice-kids.ensures ∙ c.formula_kids.ensures))
