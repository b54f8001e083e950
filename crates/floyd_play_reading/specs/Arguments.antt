-- The arguments of a command, read in the context of a goal, from the token of a number on of the command's own tokens.
use Rattle.std.specs.Prelude.{◌≡◌, ℕ, List, [], ◌∷◌, Some, Result, Ok, Err}
use Rattle.floyd_text.specs.declared.refusal.Refusal.{Refusal}
use Rattle.floyd_text.specs.declared.rule.Rule.{Rule}
use Rattle.floyd_text.specs.declared.rule.Rule.TheVariants as rule
use Rattle.floyd_lex.specs.declared.kinds.Punctuator.TheVariants as p
use Rattle.floyd_lex.specs.Token.{TokenList}
use Rattle.floyd_clight.specs.declared.unit.Local.{Local}
use Rattle.floyd_tree_sorts.specs.declared.sorts.Sort.{Z}
use Rattle.floyd_tree.specs.Formulas.{PlainFormula}
use Rattle.floyd_tree.specs.Plain.{Plain}
use Rattle.floyd_assert_trees.specs.declared.items.Defs.{Defs}
use Rattle.floyd_assert_trees.specs.declared.spec.SpecTable.{SpecTable}
use Rattle.floyd_goal_trees.specs.declared.args.Args.{Args}
use Rattle.floyd_goal_trees.specs.declared.goal.Goal.{Goal}
use Rattle.floyd_goal.specs.Goals.{number_of}
use Rattle.floyd_script_trees.specs.Arguments.{shape_of}
use Rattle.floyd_script_trees.specs.declared.shapes.Shape.{Shape}
use Rattle.floyd_script_trees.specs.declared.shapes.Shape.TheVariants as shape
use Rattle.floyd_termread_scope.specs.Scopes.{Env}
use Rattle.floyd_termread_phrases.specs.Reads.{Answer, Reads, pure, ◌>>=◌}
use Rattle.floyd_termread_phrases.specs.Phrases as phrase
use Rattle.floyd_termread_marks.specs.Lists.{listed}
use Rattle.floyd_termread_marks.specs.Marks.{mark}
use Rattle.floyd_play_arguments.specs.Arguments as plain
use Rattle.floyd_play_terms.specs.Terms.{enclosed}
use Rattle.floyd_play_reading.specs.Assertions as assertions
use Rattle.floyd_play_reading.specs.Expected as of
use Rattle.floyd_play_reading.specs.Names.{local_names}

abbrev pub with_terms : List ℕ → List Plain → List Plain → Args
with_terms x ts us = record plain.no_args { name = x; terms = ts; more = us }

-- on what these arguments have it tried
abbrev pub with_term : Args → Plain → Args
with_term on t = record on { terms = t ∷ [] }

abbrev pub with_formula : PlainFormula → Args
with_formula f = record plain.no_args { formula = Some f }

module _ (bytes : List ℕ) (list : TokenList) (env : Env) where
  -- a number of a part, and a number in parentheses
  abbrev pub part_and_term : Reads Args
  part_and_term = do
    on ← plain.one_part bytes list
    t ← enclosed bytes list env (Some Z)
    pure (with_term on t)

  -- the formula of `cut`, up to the end
  abbrev pub one_formula : Reads Args
  one_formula = phrase.formula bytes list 0 env >>= λ f. pure (with_formula f)

  module _ (goal : Goal) where
    abbrev pub hypothesis_and_term : Reads Args
    hypothesis_and_term = do
      on ← plain.one_hypothesis bytes list
      t ← enclosed bytes list env (of.instance_sort goal (number_of on.target))
      pure (with_term on t)

    -- the term of `Exists`, up to the end
    abbrev pub witness : Reads Args
    witness = phrase.term bytes list 0 env (of.witness_sort goal) >>= λ t. pure (with_term plain.no_args t)

    -- what stands alone: the formula of `cut`, and the term of `Exists`
    abbrev pub bare : Rule → Reads Args
    bare rule.Cut = one_formula
    bare other = witness

module _ (bytes : List ℕ) (list : TokenList) (defs : Defs) (specs : SpecTable) (env : Env) (goal : Goal) (command : Rule) where
  -- the first list of terms of a command that names this, and the second one
  abbrev pub first_terms : List ℕ → Reads (List Plain)
  first_terms x = listed bytes list 0 p.Semicolon (λ ts. phrase.term bytes list 1 env (of.expected defs specs command goal x ts))

  abbrev pub second_terms : List ℕ → List Plain → Reads (List Plain)
  second_terms x ts = listed bytes list 0 p.Semicolon (λ us. phrase.term bytes list 1 env (of.expected_more defs x ts us))

  abbrev pub unnamed_terms : Reads Args
  unnamed_terms = first_terms [] >>= λ ts. pure (with_terms [] ts [])

  abbrev pub named_terms : Reads Args
  named_terms = do
    x ← plain.name bytes list
    ts ← first_terms x
    pure (with_terms x ts [])

  abbrev pub named_twice : Reads Args
  named_twice = do
    x ← plain.name bytes list
    ts ← first_terms x
    us ← second_terms x ts
    pure (with_terms x ts us)

  -- what stands behind the command's word
  abbrev pub shaped : Shape → Reads Args
  shaped shape.MaybeEnclosed = assertions.maybe_assertion bytes list env
  shaped shape.Enclosed = assertions.enclosed_assertion bytes list env
  shaped shape.Loop = assertions.loop_assertions bytes list env
  shaped shape.Terms = unnamed_terms
  shaped shape.NamedTerms = named_terms
  shaped shape.NamedTwice = named_twice
  shaped shape.Bare = bare bytes list env goal command
  shaped shape.NumberTerm = part_and_term bytes list env
  shaped shape.HypothesisTerm = hypothesis_and_term bytes list env goal
  shaped other = plain.plain_arguments bytes list other

  -- up to and with the `;`
  abbrev pub arguments : Reads Args
  arguments = do
    a ← shaped (shape_of command)
    _ ← mark bytes list 0 p.Semicolon
    pure a

-- without the number of the token behind them
abbrev pub value_of : {A : Type 0} → Answer A → Result A Refusal
value_of (Ok read) = Ok read.0
value_of (Err refusal) = Err refusal

-- The arguments of a command are these, or their first refusal is this: what is read from the token behind its word on.
-- `lv` may take the names of the local variables that have these blocks.
abbrev pub AreRead : List ℕ → TokenList → Defs → SpecTable → List Local → Goal → Rule → Result Args Refusal → Type 0
AreRead bytes list defs specs blocks goal command answer =
    (read : Answer Args) × arguments bytes list defs specs (of.goal_env goal defs specs (local_names blocks)) goal command 1 read × (answer ≡ value_of read)
