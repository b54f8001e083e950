-- Terms and formulas that a law writes. Its arguments stand in them by their places, from 0.
use Rattle.std.specs.Prelude.{ℕ, List, get_or, pos}
use Rattle.floyd_tree_sorts.specs.declared.connectives.FormulaHead.{FormulaHead}
use Rattle.floyd_tree_sorts.specs.declared.connectives.FormulaHead.TheVariants as f
use Rattle.floyd_tree_sorts.specs.declared.heads.Head.{Head}
use Rattle.floyd_tree_sorts.specs.declared.heads.Head.TheVariants as h
use Rattle.floyd_tree_sorts.specs.declared.sorts.Sort.{Sort, Z}
use Rattle.floyd_tree_sorts.specs.Table.{written}
use Rattle.floyd_tree.specs.Formulas.{PlainFormula, PlainFormulas, Says, NoFormula, MoreFormulas}
use Rattle.floyd_tree.specs.Plain.{Plain, Plains, At, Done, More}
use Rattle.floyd_listlaw.specs.declared.heads.LawForm.{LawForm}
use Rattle.floyd_listlaw.specs.declared.heads.LawForm.TheVariants.{False, Equal, AtMost, IsPtr, Or, Implies}
use Rattle.floyd_listlaw.specs.declared.heads.LawHead.{LawHead}
use Rattle.floyd_listlaw.specs.declared.heads.LawHead.TheVariants.{Literal, Nil, Signed, Unsigned, Operator}

mutual
  pub data LawTerm : Type 0 where
    Argument : (place : ℕ) → LawTerm
    Node : (head : LawHead) → (kids : LawTerms) → LawTerm

  pub data LawTerms : Type 0 where
    NoTerm : LawTerms
    Terms : (first : LawTerm) → (rest : LawTerms) → LawTerms

mutual
  pub data LawFormula : Type 0 where
    Claim : (form : LawForm) → (terms : LawTerms) → (kids : LawFormulas) → LawFormula

  pub data LawFormulas : Type 0 where
    NoClaim : LawFormulas
    Claims : (first : LawFormula) → (rest : LawFormulas) → LawFormulas

-- Instances, where `s` stands for S, and these terms for the arguments.
abbrev pub head_with : Sort → LawHead → Head
head_with s (Literal z) = h.Literal z
head_with s (Nil form) = h.Nil (written s Z form)
head_with s (Signed w) = h.Signed w
head_with s (Unsigned w) = h.Unsigned w
head_with s (Operator operator) = h.Operator operator

-- a law has no place beyond its arguments
abbrev pub argument : List Plain → ℕ → Plain
argument terms place = get_or terms place (At (h.Literal (pos 0)) Done)

abbrev mutual
  pub term_with : Sort → List Plain → LawTerm → Plain
  term_with s terms (Argument place) = argument terms place
  term_with s terms (Node head kids) = At (head_with s head) (terms_with s terms kids)

  pub terms_with : Sort → List Plain → LawTerms → Plains
  terms_with s terms NoTerm = Done
  terms_with s terms (Terms first rest) = More (term_with s terms first) (terms_with s terms rest)

abbrev pub form_head : LawForm → FormulaHead
form_head False = f.False
form_head Equal = f.Equal
form_head AtMost = f.AtMost
form_head IsPtr = f.IsPtr
form_head Or = f.Or
form_head Implies = f.Implies

abbrev mutual
  pub formula_with : Sort → List Plain → LawFormula → PlainFormula
  formula_with s terms (Claim form own kids) = Says (form_head form) (terms_with s terms own) (formulas_with s terms kids)

  pub formulas_with : Sort → List Plain → LawFormulas → PlainFormulas
  formulas_with s terms NoClaim = NoFormula
  formulas_with s terms (Claims first rest) = MoreFormulas (formula_with s terms first) (formulas_with s terms rest)
