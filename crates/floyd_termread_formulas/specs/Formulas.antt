-- Formulas and paths, as the tree of their text has them.
use Rattle.std.specs.Prelude.{ℕ, zero, suc, List, [], ◌∷◌, Option, Some, None, Ok}
use Rattle.floyd_text.specs.declared.place.Place.{Place}
use Rattle.floyd_cparse_trees.specs.declared.types.Identifier.{Identifier}
use Rattle.floyd_tree_sorts.specs.declared.connectives.FormulaHead.{FormulaHead}
use Rattle.floyd_tree_sorts.specs.declared.connectives.FormulaHead.TheVariants as f
use Rattle.floyd_tree_sorts.specs.declared.sorts.Sort.{Z, Val}
use Rattle.floyd_tree.specs.declared.paths.PathStep.{PathStep}
use Rattle.floyd_tree.specs.declared.paths.PathStep.TheVariants as step
use Rattle.floyd_tree.specs.Formulas.{PlainFormula}
use Rattle.floyd_tree.specs.Plain.{Plain}
use Rattle.floyd_tree.specs.Types.{SizedType}
use Rattle.floyd_tree.specs.WellSorted.{sort_of}
use Rattle.floyd_termread_trees.specs.declared.words.Word.{Word}
use Rattle.floyd_termread_trees.specs.declared.words.Word.TheVariants as word
use Rattle.floyd_termread_trees.specs.declared.words.FormulaWord.{FormulaWord}
use Rattle.floyd_termread_trees.specs.declared.words.FormulaWord.TheVariants as fw
use Rattle.floyd_termread_trees.specs.declared.written.Infix.{Infix}
use Rattle.floyd_termread_trees.specs.declared.written.Opening.{Opening}
use Rattle.floyd_termread_trees.specs.declared.written.Opening.TheVariants as opens
use Rattle.floyd_termread_trees.specs.declared.written.Prefix.{Prefix}
use Rattle.floyd_termread_trees.specs.declared.written.Prefix.TheVariants as before
use Rattle.floyd_termread_groups.specs.declared.grouped.Grouped as g
use Rattle.floyd_termread_groups.specs.declared.grouped.GroupedLink.{GroupedLink}
use Rattle.floyd_termread_groups.specs.declared.grouped.Strength.{Strength}
use Rattle.floyd_termread_groups.specs.declared.grouped.Strength.TheVariants as group
use Rattle.floyd_assert_trees.specs.declared.spec.Funspec.{Funspec}
use Rattle.floyd_termread_scope.specs.Scopes.{Env, Named, is_among}
use Rattle.floyd_termread_wants.specs.declared.wants.Wanted.TheVariants as w
use Rattle.floyd_termread_wants.specs.Judging.{Judged, ◌>>=◌, ◌>>◌, cut_off, there, unless}
use Rattle.floyd_termread_wants.specs.Refusals.{unknown}
use Rattle.floyd_termread_brackets.specs.declared.slots.Goal.{Goal}
use Rattle.floyd_termread_brackets.specs.declared.slots.Goal.TheVariants as goal
use Rattle.floyd_termread_brackets.specs.declared.slots.Part.{Part}
use Rattle.floyd_termread_brackets.specs.declared.slots.Part.TheVariants as part
use Rattle.floyd_termread_terms.specs.Brackets.{part_of}
use Rattle.floyd_termread_terms.specs.Senses.{Sense}
use Rattle.floyd_termread_terms.specs.Terms.{missing, sense_of}
use Rattle.floyd_termread_forms.specs.declared.sides.Side.{Side}
use Rattle.floyd_termread_forms.specs.Making.{written, on_terms, same_wanted, first_wanted, related, hasty, compatible}
use Rattle.floyd_termread_forms.specs.Frames.{prefixed}
use Rattle.floyd_termread_forms.specs.Joining.{joined_sides}

-- What a phrase is besides a term or a type: a step of a path, a path, and what it reads as where a formula is wanted.
pub record Reading : Type 0 where
  pub sense : Sense
  pub step : Env → Judged PathStep
  pub path : Env → Judged (List PathStep)
  pub formula : Env → Judged PlainFormula

pub record LinkReading : Type 0 where
  pub op : Infix
  pub operand : Reading

abbrev pub no_step : Env → Judged PathStep
no_step env = cut_off

abbrev pub no_path : Env → Judged (List PathStep)
no_path env = cut_off

-- A term where a formula is wanted is the left side of a relation that the text cuts off.
abbrev pub lone : Sense → Env → Judged PlainFormula
lone sense env = sense.term env (w.Any None) >> cut_off

abbrev pub of_formula : Sense → (Env → Judged PlainFormula) → Reading
of_formula sense formula = record { sense = sense; step = no_step; path = no_path; formula = formula }

abbrev pub of_term : Sense → Reading
of_term sense = of_formula sense (lone sense)

-- the item of that number, unless the text is cut off before it
abbrev pub item : ℕ → List Reading → Reading
item n [] = of_term missing
item zero (x ∷ xs) = x
item (suc n) (x ∷ xs) = item n xs

-- Words.
abbrev pub truth_of : Word → Option FormulaHead
truth_of (word.Formula fw.True) = Some f.True
truth_of (word.Formula fw.False) = Some f.False
truth_of x = None

abbrev pub truth_or_lone : Option FormulaHead → Place → Sense → Env → Judged PlainFormula
truth_or_lone (Some head) place sense env = written place (on_terms head [])
truth_or_lone None place sense env = lone sense env

abbrev pub word_formula : Word → Place → Sense → Env → Judged PlainFormula
word_formula x place sense env = truth_or_lone (truth_of x) place sense env

-- Paths.
abbrev pub field_step : Identifier → Env → Judged PathStep
field_step name env = Ok (step.Field name.name)

abbrev pub bracket_step : Opening → List Reading → Option Place → Env → Judged PathStep
bracket_step opens.Subscript items close env = do
  t ← (item 0 items).sense.term env (w.This Z)
  end ← there close
  Ok (step.Subscript t)
bracket_step opening items close env = cut_off

abbrev pub steps_of : Env → List Reading → Judged (List PathStep)
steps_of env [] = Ok []
steps_of env (x ∷ xs) = do
  y ← x.step env
  ys ← steps_of env xs
  Ok (y ∷ ys)

abbrev pub bracket_path : Opening → List Reading → Option Place → Env → Judged (List PathStep)
bracket_path opens.Path items close env = do
  steps ← steps_of env items
  end ← there close
  Ok steps
bracket_path opening items close env = cut_off

-- Formulas in brackets. What stands in them is judged in turn.
abbrev pub value_at : ℕ → List Reading → Env → Judged Plain
value_at n items env = (item n items).sense.term env (w.This Val)

abbrev pub one_value : FormulaHead → Place → List Reading → Option Place → Env → Judged PlainFormula
one_value head place items close env = do
  v ← value_at 0 items env
  end ← there close
  written place (on_terms head (v ∷ []))

-- a type that was judged
abbrev pub type_in : Part → Judged SizedType
type_in (part.Type x) = Ok x
type_in (part.Valued x s) = Ok x
type_in x = cut_off

abbrev pub first_type : Env → Goal → List Reading → Judged SizedType
first_type env wanted items = part_of env wanted (item 0 items).sense >>= type_in

abbrev pub path_at : ℕ → List Reading → Env → Judged (List PathStep)
path_at n items env = (item n items).path env

abbrev pub hasty_formula : Place → List Reading → Option Place → Env → Judged PlainFormula
hasty_formula place items close env = do
  t ← first_type env goal.ScalarType items
  v ← value_at 1 items env
  end ← there close
  hasty place t v

abbrev pub compatible_formula : Place → List Reading → Option Place → Env → Judged PlainFormula
compatible_formula place items close env = do
  t ← first_type env goal.ValueType items
  path ← path_at 1 items env
  v ← value_at 2 items env
  end ← there close
  compatible place t path v

-- the name of a SPEC that is visible
abbrev pub spec_name_in : Named Funspec → Option Identifier → Judged (List ℕ)
spec_name_in specs None = cut_off
spec_name_in specs (Some i) = unless (unknown i) (is_among specs i.name) >> Ok i.name

abbrev pub func_ptr_formula : Place → List Reading → Option Place → Env → Judged PlainFormula
func_ptr_formula place items close env = do
  spec ← spec_name_in env.specs (item 0 items).sense.name
  v ← value_at 1 items env
  end ← there close
  written place (on_terms (f.FuncPtr spec) (v ∷ []))

abbrev pub word_bracket : FormulaWord → Place → List Reading → Option Place → Env → Judged PlainFormula
word_bracket fw.IsPtr place items close env = one_value f.IsPtr place items close env
word_bracket fw.Defined place items close env = one_value f.Defined place items close env
word_bracket fw.Hasty place items close env = hasty_formula place items close env
word_bracket fw.Compatible place items close env = compatible_formula place items close env
word_bracket fw.FuncPtr place items close env = func_ptr_formula place items close env
word_bracket x place items close env = cut_off

-- what was read, unless the text is cut off behind it
abbrev pub closed : Option Place → PlainFormula → Judged PlainFormula
closed close x = there close >>= λ end. Ok x

-- One item in a parenthesis is read as a formula.
abbrev pub in_parentheses : Sense → List Reading → Option Place → Env → Judged PlainFormula
in_parentheses sense (x ∷ []) close env = x.formula env >>= closed close
in_parentheses sense items close env = lone sense env

abbrev pub bracket_formula : Opening → Sense → List Reading → Option Place → Env → Judged PlainFormula
bracket_formula opens.Parenthesis sense items close env = in_parentheses sense items close env
bracket_formula (opens.Word (word.Formula x) place) sense items close env = word_bracket x place items close env
bracket_formula opening sense items close env = lone sense env

abbrev pub bracket_reading : Opening → Sense → List Reading → Option Place → Reading
bracket_reading opening sense items close = record {
  sense = sense;
  step = bracket_step opening items close;
  path = bracket_path opening items close;
  formula = bracket_formula opening sense items close;
}

-- A minus stands before a term.
abbrev pub prefixed_formula : List Prefix → Sense → (Env → Judged PlainFormula) → Env → Judged PlainFormula
prefixed_formula (before.Minus place ∷ ps) sense inner env = lone sense env
prefixed_formula ps sense inner env = prefixed ps inner env

-- Connectives: the sides are read in turn, and then they are joined.
abbrev pub connective : Strength → Option FormulaHead
connective group.Implies = Some f.Implies
connective group.Or = Some f.Or
connective group.And = Some f.And
connective stronger = None

abbrev pub side_of : Env → Reading → Judged Side
side_of env x = x.formula env >>= λ y. Ok (record { place = x.sense.place; formula = y })

abbrev pub sides_of : Env → List LinkReading → Judged (List Side)
sides_of env [] = Ok []
sides_of env (link ∷ links) = do
  x ← side_of env link.operand
  xs ← sides_of env links
  Ok (x ∷ xs)

abbrev pub joined : FormulaHead → Env → Reading → List LinkReading → Judged PlainFormula
joined head env first links = do
  x ← side_of env first
  xs ← sides_of env links
  joined_sides head (x ∷ xs)

-- A relation of two terms. The first fixes the sort of the second.
abbrev pub relation : Infix → Sense → Sense → Env → Judged PlainFormula
relation op a b env = do
  wanted ← there (first_wanted op)
  t ← a.term env wanted
  u ← b.term env (same_wanted (sort_of t))
  related op a.place b.place t u

-- One relation stands alone.
abbrev pub relation_row : Reading → List LinkReading → Env → Judged PlainFormula
relation_row first (link ∷ []) env = relation link.op first.sense link.operand.sense env
relation_row first links env = cut_off

-- A row of terms is a term.
abbrev pub joined_or_lone : Option FormulaHead → Sense → Reading → List LinkReading → Env → Judged PlainFormula
joined_or_lone None sense first links env = lone sense env
joined_or_lone (Some head) sense first links env = joined head env first links

abbrev pub row_formula : Strength → Sense → Reading → List LinkReading → Env → Judged PlainFormula
row_formula group.Relation sense first links env = relation_row first links env
row_formula strength sense first links env = joined_or_lone (connective strength) sense first links env

-- What a phrase is, by what its parts are.
abbrev mutual
  pub reading_of : g.Grouped → Reading
  reading_of g.Missing = of_term missing
  reading_of (g.Literal minus n place) = of_term (sense_of (g.Literal minus n place))
  reading_of (g.Name x) = of_term (sense_of (g.Name x))
  reading_of (g.Word x place) = of_formula (sense_of (g.Word x place)) (word_formula x place (sense_of (g.Word x place)))
  reading_of (g.Struct place tag) = of_term (sense_of (g.Struct place tag))
  reading_of (g.Field place x) = record { sense = sense_of (g.Field place x); step = field_step x; path = no_path; formula = lone (sense_of (g.Field place x)) }
  reading_of (g.Bracket' opening place shape items close) = bracket_reading opening (sense_of (g.Bracket' opening place shape items close)) (readings_of items) close
  reading_of (g.Prefixed' ps p (g.more_of-Grouped operand g.end_of-Grouped)) =
      of_formula (sense_of (g.Prefixed' ps p (g.more_of-Grouped operand g.end_of-Grouped)))
      (prefixed_formula ps (sense_of (g.Prefixed' ps p (g.more_of-Grouped operand g.end_of-Grouped))) (reading_of operand).formula)
  reading_of (g.Row' strength p (g.more_of-Grouped first g.end_of-Grouped) shape links) =
      of_formula (sense_of (g.Row' strength p (g.more_of-Grouped first g.end_of-Grouped) shape links))
      (row_formula strength (sense_of (g.Row' strength p (g.more_of-Grouped first g.end_of-Grouped) shape links)) (reading_of first) (link_readings links))

  pub readings_of : {n : _} → g.Row_of-Grouped n → List Reading
  readings_of g.end_of-Grouped = []
  readings_of (g.more_of-Grouped x rest) = reading_of x ∷ readings_of rest

  pub link_readings : {n : _} → g.Row_of-GroupedLink n → List LinkReading
  link_readings g.end_of-GroupedLink = []
  link_readings (g.more_of-GroupedLink op place operand rest) = record { op = op; operand = reading_of operand } ∷ link_readings rest

-- an operator and its operand, as the tree has them
abbrev pub link_reading : GroupedLink → LinkReading
link_reading link = record { op = link.«infix»; operand = reading_of link.operand }
