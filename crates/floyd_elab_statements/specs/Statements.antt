-- Elaboration of statements.
use Rattle.std.specs.Prelude.{not, List, [], ◌∷◌, ◌++◌, Option, Some, None}
use Rattle.floyd_text.specs.declared.place.Place.{Place}
use Rattle.floyd_int.specs.declared.kinds.IntKind.{IntKind}
use Rattle.floyd_ctypes.specs.declared.ctype.CType.{CType, Int}
use Rattle.floyd_cparse_trees.specs.declared.expressions.CExpr.{CExpr}
use Rattle.floyd_cparse_trees.specs.declared.statements.BlockItem as i
use Rattle.floyd_cparse_trees.specs.declared.statements.CStatement as c
use Rattle.floyd_elab_names.specs.Refusals.{ill_typed}
use Rattle.floyd_elab_names.specs.Refusing.{◌>>=◌, ◌>>◌, pure, unless}
use Rattle.floyd_elab_names.specs.Scopes.{Scopes}
use Rattle.floyd_elab_names.specs.Types.{is_void}
use Rattle.floyd_ctyping.specs.Operators as o
use Rattle.floyd_elab_names.specs.Declarators.{base_type}
use Rattle.floyd_ctyping.specs.Expressions.{check_test}
use Rattle.floyd_ctyping.specs.Switches.{Labels, no_labels, with_label, next_label, switch_kind}
use Rattle.floyd_clight.specs.declared.syntax.Case.{Case}
use Rattle.floyd_clight.specs.declared.syntax.Expr.{Expr}
use Rattle.floyd_clight.specs.declared.syntax.Stmt as s
use Rattle.floyd_clight.specs.declared.syntax.Stmt.{Stmt}
use Rattle.floyd_elab_expressions.specs.Clight.{cast_into, test_of, sequence}
use Rattle.floyd_elab_expressions.specs.Progress.{Elaborating, typing}
use Rattle.floyd_elab_expressions.specs.Expressions.{rvalue}
use Rattle.floyd_elab_effects.specs.Effects.{right_side, effect}
use Rattle.floyd_elab_addresses.specs.Addresses.{in_items}
use Rattle.floyd_elab_statements.specs.Locals.{nowhere, declarators}

-- a test: the statements before it, and the test itself, which is ill typed at the word of its statement
abbrev pub test : Scopes → Place → CExpr → Elaborating (List Stmt × Expr)
test scopes place e = do
  a ← rvalue scopes e
  typing (check_test place a.operand)
  pure (a.before, test_of e a)

-- the test of a loop, which breaks where it fails
abbrev pub loop_test : Scopes → Place → CExpr → Elaborating (List Stmt)
loop_test scopes place e = do
  t ← test scopes place e
  pure (t.0 ++ s.If t.1 s.Skip s.Break ∷ [])

abbrev pub optional_test : Scopes → Place → Option CExpr → Elaborating (List Stmt)
optional_test scopes place None = pure []
optional_test scopes place (Some e) = loop_test scopes place e

abbrev pub optional_effect : Scopes → Option CExpr → Elaborating (List Stmt)
optional_effect scopes None = pure []
optional_effect scopes (Some e) = effect scopes e

-- what a switch looks at: the statements before it, its value at the promoted kind, and that kind
abbrev pub selector : Scopes → Place → CExpr → Elaborating (List Stmt × (Expr × IntKind))
selector scopes place e = do
  a ← rvalue scopes e
  kind ← typing (switch_kind place a.operand)
  pure (a.before, (cast_into (Int kind) a, kind))

-- `return` in a function of that result: a value where there is one, and none in a void function
abbrev pub return_statement : Scopes → CType → Place → Option CExpr → Elaborating (List Stmt)
return_statement scopes result place None = do
  unless (ill_typed place) (is_void result)
  pure (s.Return None ∷ [])
return_statement scopes result place (Some e) = do
  unless (ill_typed place) (not (is_void result))
  a ← right_side scopes e
  unless (ill_typed place) (o.fits_into result a.operand)
  pure (a.before ++ s.Return (Some (cast_into result a)) ∷ [])

-- `result` is that of the function. The numbers of reads are drawn in the order of the text.
module _ (result : CType) where
  abbrev mutual
    pub statement : Scopes → c.CStatement → Elaborating (List Stmt)
    statement scopes (c.Block' shape rows) = items ([] ∷ scopes) rows
    statement scopes c.Empty = pure []
    statement scopes (c.Effect e) = effect scopes e
    statement scopes (c.If' place e p (c.more_of-CStatement a c.end_of-CStatement)) = do
      t ← test scopes place e
      first ← statement scopes a
      pure (t.0 ++ s.If t.1 (sequence first) s.Skip ∷ [])
    statement scopes (c.IfElse' place e p (c.more_of-CStatement a c.end_of-CStatement) q (c.more_of-CStatement b c.end_of-CStatement)) = do
      t ← test scopes place e
      first ← statement scopes a
      second ← statement scopes b
      pure (t.0 ++ s.If t.1 (sequence first) (sequence second) ∷ [])
    statement scopes (c.While' place e p (c.more_of-CStatement body c.end_of-CStatement)) = do
      t ← loop_test scopes place e
      inner ← statement scopes body
      pure (s.Loop (sequence (t ++ inner)) s.Skip ∷ [])
    statement scopes (c.Do' p (c.more_of-CStatement body c.end_of-CStatement) place e) = do
      inner ← statement scopes body
      t ← loop_test scopes place e
      pure (s.Loop (sequence inner) (sequence t) ∷ [])
    statement scopes (c.For' place first e third p (c.more_of-CStatement body c.end_of-CStatement)) = do
      before ← optional_effect scopes first
      t ← optional_test scopes place e
      behind ← optional_effect scopes third
      inner ← statement scopes body
      pure (before ++ s.Loop (sequence (t ++ inner)) (sequence behind) ∷ [])
    statement scopes (c.Switch' place e shape rows) = do
      t ← selector scopes place e
      made ← cases t.1.1 no_labels scopes rows
      pure (t.0 ++ s.Switch t.1.0 made ∷ [])
    statement scopes c.Break = pure (s.Break ∷ [])
    statement scopes c.Continue = pure (s.Continue ∷ [])
    statement scopes (c.Return place e) = return_statement scopes result place e

    -- the items of a block, whose scope is the innermost one
    pub items : {m : _} → Scopes → c.Row_of-BlockItem m → Elaborating (List Stmt)
    items scopes c.end_of-BlockItem = pure []
    items scopes (c.more_of-BlockItem (i.Declaration d) rest) = do
      base ← typing (base_type scopes nowhere d.specifiers.base)
      made ← declarators scopes base d.declarators (λ x. in_items x rest)
      more ← items made.1 rest
      pure (made.0 ++ more)
    items scopes (c.more_of-BlockItem (i.Statement a) rest) = do
      first ← statement scopes a
      more ← items scopes rest
      pure (first ++ more)

    -- the cases of a switch of that kind, behind those labels
    pub cases : {m : _} → IntKind → Labels → Scopes → c.Row_of-SwitchCase m → Elaborating (List Case)
    cases kind before scopes c.end_of-SwitchCase = pure []
    cases kind before scopes (c.more_of-SwitchCase label p (c.more_of-CStatement body c.end_of-CStatement) rest) = do
      bits ← typing (next_label kind before label)
      first ← statement scopes body
      more ← cases kind (with_label before bits) scopes rest
      pure (record { label = bits; body = sequence first } ∷ more)

  -- the body of a function, whose items stand in the scope of its parameters
  abbrev pub body : Scopes → c.CStatement → Elaborating (List Stmt)
  body scopes (c.Block' shape rows) = items scopes rows
  body scopes a = statement scopes a
