-- Formulas that rules write.
use Rattle.std.specs.Prelude.{List, [], ◌∷◌, ◌++◌, is_some, if◌then◌else◌, Result, Ok, Err}
use Rattle.floyd_text.specs.declared.refusal.No.{No}
use Rattle.floyd_tree_sorts.specs.declared.connectives.FormulaHead.TheVariants.{False, Implies, Or, Equal, AtMost, IsPtr, Hasty}
use Rattle.floyd_tree.specs.Formulas.{PlainFormula, Says, NoFormula, MoreFormulas}
use Rattle.floyd_tree.specs.MadeFormulas.{formula_fault_at}
use Rattle.floyd_tree.specs.Plain.{Plain, Done, More, plains}
use Rattle.floyd_tree.specs.Types.{SizedType}
use Rattle.floyd_fieldpath.specs.Written.{too_large, on_ok}

abbrev pub at_most : Plain → Plain → PlainFormula
at_most a b = Says AtMost (More a (More b Done)) NoFormula

abbrev pub equal : Plain → Plain → PlainFormula
equal a b = Says Equal (More a (More b Done)) NoFormula

abbrev pub absurd_formula : PlainFormula
absurd_formula = Says False Done NoFormula

-- `a <> b`, which is `a = b -> False`
abbrev pub different : Plain → Plain → PlainFormula
different a b = Says Implies Done (MoreFormulas (equal a b) (MoreFormulas absurd_formula NoFormula))

abbrev pub either : PlainFormula → PlainFormula → PlainFormula
either f g = Says Or Done (MoreFormulas f (MoreFormulas g NoFormula))

abbrev pub is_pointer : Plain → PlainFormula
is_pointer v = Says IsPtr (More v Done) NoFormula

-- the value is one of the type: after the sizes of the type's arrays stands the value
abbrev pub of_type : SizedType → Plain → PlainFormula
of_type t v = Says (Hasty t.shape) (plains (t.sizes ++ v ∷ [])) NoFormula

-- the formula, unless it is beyond the limits; then nothing that it is a part of is within them
abbrev pub said : PlainFormula → Result PlainFormula No
said f = if is_some (formula_fault_at f) then Err too_large else Ok f

-- formulas behind others, unless one is beyond the limits
abbrev pub saying : List PlainFormula → List PlainFormula → Result (List PlainFormula) No
saying all [] = Ok all
saying all (f ∷ fs) = on_ok (said f) (λ g. saying (all ++ g ∷ []) fs)
