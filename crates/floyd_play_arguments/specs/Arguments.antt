-- The arguments of a command that are no terms, formulas or assertions, from the token of a number on. They mean the same in
-- every goal.
--
--   givens  = "(" [name {";" name}] ")"
--   weights = "(" [weight {"," weight}] ")"
--   weight  = ("N" | hypothesis) ":" ["-"] number
use Rattle.std.specs.Prelude.{◌≡◌, ℕ, Bool, true, false, List, [], ◌∷◌, ◌++◌, None, Ok, Err}
use Rattle.floyd_text.specs.declared.refusal.Refusal.{Refusal}
use Rattle.floyd_lex.specs.declared.kinds.Punctuator.TheVariants as p
use Rattle.floyd_lex.specs.Token.{TokenList}
use Rattle.floyd_tree.specs.declared.weights.Weight.{Weight}
use Rattle.floyd_goal_trees.specs.declared.args.Args.{Args}
use Rattle.floyd_goal_trees.specs.declared.args.Target.{Target}
use Rattle.floyd_goal_trees.specs.declared.args.Target.TheVariants as t
use Rattle.floyd_script_trees.specs.declared.shapes.Shape.{Shape}
use Rattle.floyd_script_trees.specs.declared.shapes.Shape.TheVariants as shape
use Rattle.floyd_termread_tokens.specs.Tokens.{is_mark}
use Rattle.floyd_termread_phrases.specs.Reads.{Answer, Reads, pure, ◌>>=◌, ◌>>◌}
use Rattle.floyd_termread_marks.specs.Lists.{listed}
use Rattle.floyd_termread_marks.specs.Marks.{if_next, is_next, mark, one}
use Rattle.floyd_play_arguments.specs.Numbers as n

-- what a command without arguments is given
abbrev pub no_args : Args
no_args = record {
  name = [];
  terms = [];
  more = [];
  names = [];
  formula = None;
  assertions = [];
  target = t.Nothing;
  other = 0;
  back = false;
  weights = [];
}

abbrev pub on : Target → Args
on target = record no_args { target = target }

abbrev pub on_part : ℕ → Args
on_part k = on (t.Part k)

abbrev pub on_hypothesis : ℕ → Args
on_hypothesis k = on (t.Hypothesis k)

abbrev pub on_both : ℕ → ℕ → Args
on_both k j = record (on_part k) { other = j }

abbrev pub rewriting : Bool → ℕ → Args
rewriting back k = record (on_hypothesis k) { back = back }

abbrev pub named : List ℕ → Args
named x = record no_args { name = x }

abbrev pub naming : List (List ℕ) → Args
naming xs = record no_args { names = xs }

abbrev pub cases_of : List ℕ → List (List ℕ) → Args
cases_of x xs = record (naming xs) { name = x }

abbrev pub cases_on : ℕ → List (List ℕ) → Args
cases_on k xs = record (naming xs) { target = t.Hypothesis k }

abbrev pub weighing : List Weight → Args
weighing ws = record no_args { weights = ws }

abbrev pub weight_of : ℕ → Bool → ℕ → Weight
weight_of k minus value = record { hypothesis = k; weight = n.signed minus value }

module _ (bytes : List ℕ) (list : TokenList) where
  -- ---- outside parentheses
  abbrev pub name : Reads (List ℕ)
  name = one bytes list 0 n.name_of

  abbrev pub number : Reads ℕ
  number = one bytes list 0 n.part_number

  abbrev pub hypothesis : Reads ℕ
  hypothesis = one bytes list 0 n.hypothesis_number

  abbrev pub variable : Reads (List ℕ)
  variable = one bytes list 0 n.variable_of

  -- whether the arrow stands there that turns an equation around
  abbrev pub arrow : Reads Bool
  arrow = if_next bytes list (is_mark p.LeftArrow) (mark bytes list 0 p.LeftArrow >> pure true) (pure false)

  -- names of variables, one after another, behind those that were read
  pub data Variables : List (List ℕ) → ℕ → Answer (List (List ℕ)) → Type 0 where
    ends : {xs : List (List ℕ)} {at : ℕ} → is_next bytes list n.is_variable at ≡ false → Variables xs at (Ok (xs, at))
    goes_on : {xs : List (List ℕ)} {x : List ℕ} {at next : ℕ} {answer : Answer (List (List ℕ))} → is_next bytes list n.is_variable at ≡ true → variable at (Ok (x, next)) → Variables (xs ++ x ∷ []) next answer → Variables xs at answer
    stops : {xs : List (List ℕ)} {at : ℕ} {refusal : Refusal} → is_next bytes list n.is_variable at ≡ true → variable at (Err refusal) → Variables xs at (Err refusal)

  -- ---- in parentheses
  abbrev pub given : List (List ℕ) → Reads (List ℕ)
  given xs = one bytes list 1 n.variable_of

  abbrev pub givens : Reads (List (List ℕ))
  givens = listed bytes list 0 p.Semicolon given

  abbrev pub minus : Reads Bool
  minus = if_next bytes list (is_mark p.Minus) (mark bytes list 1 p.Minus >> pure true) (pure false)

  abbrev pub weight : List Weight → Reads Weight
  weight ws = do
    k ← one bytes list 1 n.weighed_number
    _ ← mark bytes list 1 p.Colon
    negative ← minus
    value ← one bytes list 1 n.weight_number
    pure (weight_of k negative value)

  abbrev pub weights : Reads (List Weight)
  weights = listed bytes list 0 p.Comma weight

  -- ---- by what stands behind the command's word
  abbrev pub one_part : Reads Args
  one_part = number >>= λ k. pure (on_part k)

  abbrev pub one_hypothesis : Reads Args
  one_hypothesis = hypothesis >>= λ k. pure (on_hypothesis k)

  abbrev pub one_name : Reads Args
  one_name = name >>= λ x. pure (named x)

  abbrev pub one_variable : Reads Args
  one_variable = variable >>= λ x. pure (naming (x ∷ []))

  abbrev pub maybe_variable : Reads Args
  maybe_variable = if_next bytes list n.is_variable one_variable (pure no_args)

  abbrev pub all_variables : Reads Args
  all_variables = Variables [] >>= λ xs. pure (naming xs)

  abbrev pub part_or_hypothesis : Reads Args
  part_or_hypothesis = if_next bytes list n.is_literal one_part one_hypothesis

  abbrev pub two_parts : Reads Args
  two_parts = number >>= λ k. number >>= λ j. pure (on_both k j)

  abbrev pub rewritten : Reads Args
  rewritten = arrow >>= λ back. hypothesis >>= λ k. pure (rewriting back k)

  abbrev pub name_with_givens : Reads Args
  name_with_givens = name >>= λ x. givens >>= λ xs. pure (cases_of x xs)

  -- names may be absent behind a hypothesis
  abbrev pub maybe_givens : Reads (List (List ℕ))
  maybe_givens = if_next bytes list (is_mark p.OpenParen) givens (pure [])

  abbrev pub hypothesis_with_givens : Reads Args
  hypothesis_with_givens = hypothesis >>= λ k. maybe_givens >>= λ xs. pure (cases_on k xs)

  abbrev pub destructed : Reads Args
  destructed = if_next bytes list n.names_hypothesis hypothesis_with_givens name_with_givens

  abbrev pub certificate : Reads Args
  certificate = weights >>= λ ws. pure (weighing ws)

  -- what stands behind the word, where that has no terms, formulas or assertions
  abbrev pub plain_arguments : Shape → Reads Args
  plain_arguments shape.Named = one_name
  plain_arguments shape.Givens = all_variables
  plain_arguments shape.MaybeGiven = maybe_variable
  plain_arguments shape.Number = one_part
  plain_arguments shape.NumberOrHypothesis = part_or_hypothesis
  plain_arguments shape.TwoNumbers = two_parts
  plain_arguments shape.Rewriting = rewritten
  plain_arguments shape.Destructing = destructed
  plain_arguments shape.NamedGivens = name_with_givens
  plain_arguments shape.Hypothesis = one_hypothesis
  plain_arguments shape.Weights = certificate
  plain_arguments other = pure no_args
