-- Whether `&` is applied to a variable where it is in scope. A variable of the same name hides it to the end of the
-- block that declares that one.
use Rattle.std.specs.Prelude.{ℕ, Bool, true, false, ◌&&◌, ◌||◌, List, [], ◌∷◌, Option, Some, None, if◌then◌else◌, bytes_eq}
use Rattle.floyd_text.specs.declared.place.Place.{Place}
use Rattle.floyd_cparse_trees.specs.declared.types.Identifier.{Identifier}
use Rattle.floyd_cparse_trees.specs.declared.expressions.CExpr as e
use Rattle.floyd_cparse_trees.specs.declared.expressions.Prefix.{Prefix}
use Rattle.floyd_cparse_trees.specs.declared.expressions.Prefix.TheVariants as before
use Rattle.floyd_cparse_trees.specs.declared.expressions.PrefixOp.TheVariants.{Address}
use Rattle.floyd_cparse_trees.specs.declared.statements.BlockItem as i
use Rattle.floyd_cparse_trees.specs.declared.statements.CStatement as c
use Rattle.floyd_cparse_trees.specs.declared.statements.LocalDeclarator.{LocalDeclarator}
use Rattle.floyd_elab_names.specs.Declarators.{name_of}

-- the prefix that binds first is `&`
abbrev pub ends_in_address : List Prefix → Bool
ends_in_address [] = false
ends_in_address (before.Op Address place ∷ []) = true
ends_in_address (p ∷ rest) = ends_in_address rest

abbrev pub is_named : List ℕ → Option Identifier → Bool
is_named x None = false
is_named x (Some i) = bytes_eq x i.name

module _ (x : List ℕ) where
  -- the variable, in parentheses or not
  abbrev pub is_variable : e.CExpr → Bool
  is_variable (e.Name i) = bytes_eq x i.name
  is_variable (e.Parenthesised' p (e.more_of-CExpr inner e.end_of-CExpr)) = is_variable inner
  is_variable e = false

  abbrev mutual
    pub in_expression : e.CExpr → Bool
    in_expression (e.Name i) = false
    in_expression (e.Literal l) = false
    in_expression (e.SizeOf place n) = false
    in_expression (e.Parenthesised' p (e.more_of-CExpr inner e.end_of-CExpr)) = in_expression inner
    in_expression (e.Prefixed' prefixes p (e.more_of-CExpr operand e.end_of-CExpr)) =
        ends_in_address prefixes && is_variable operand || in_expression operand
    in_expression (e.PostfixStep' p (e.more_of-CExpr operand e.end_of-CExpr) op place) = in_expression operand
    in_expression (e.Index' p (e.more_of-CExpr array e.end_of-CExpr) place q (e.more_of-CExpr index e.end_of-CExpr)) = in_expression array || in_expression index
    in_expression (e.Call' p (e.more_of-CExpr function e.end_of-CExpr) place shape arguments) = in_expression function || in_arguments arguments
    in_expression (e.Member' p (e.more_of-CExpr operand e.end_of-CExpr) op place field) = in_expression operand
    in_expression (e.Binary' p (e.more_of-CExpr left e.end_of-CExpr) op place q (e.more_of-CExpr right e.end_of-CExpr)) = in_expression left || in_expression right
    in_expression (e.Conditional' p (e.more_of-CExpr test e.end_of-CExpr) place q (e.more_of-CExpr then_part e.end_of-CExpr) r (e.more_of-CExpr else_part e.end_of-CExpr)) =
        in_expression test || in_expression then_part || in_expression else_part
    in_expression (e.Assign' p (e.more_of-CExpr target e.end_of-CExpr) op place q (e.more_of-CExpr value e.end_of-CExpr)) = in_expression target || in_expression value

    pub in_arguments : {m : _} → e.Row_of-CExpr m → Bool
    in_arguments e.end_of-CExpr = false
    in_arguments (e.more_of-CExpr argument rest) = in_expression argument || in_arguments rest

  abbrev pub in_option : Option e.CExpr → Bool
  in_option None = false
  in_option (Some e) = in_expression e

  abbrev pub in_initialiser : Option (Place × e.CExpr) → Bool
  in_initialiser None = false
  in_initialiser (Some right) = in_expression right.1

  -- in declarators and in what comes behind them, `rest`
  abbrev pub in_declarators : List LocalDeclarator → Bool → Bool
  in_declarators [] rest = rest
  in_declarators (d ∷ ds) rest = if is_named x (name_of d.declarator) then false else in_initialiser d.initialiser || in_declarators ds rest

  abbrev mutual
    pub in_statement : c.CStatement → Bool
    in_statement (c.Block' shape items) = in_items items
    in_statement c.Empty = false
    in_statement (c.Effect e) = in_expression e
    in_statement (c.If' place e p (c.more_of-CStatement a c.end_of-CStatement)) = in_expression e || in_statement a
    in_statement (c.IfElse' place e p (c.more_of-CStatement a c.end_of-CStatement) q (c.more_of-CStatement b c.end_of-CStatement)) =
        in_expression e || in_statement a || in_statement b
    in_statement (c.While' place e p (c.more_of-CStatement body c.end_of-CStatement)) = in_expression e || in_statement body
    in_statement (c.Do' p (c.more_of-CStatement body c.end_of-CStatement) place e) = in_statement body || in_expression e
    in_statement (c.For' place first e third p (c.more_of-CStatement body c.end_of-CStatement)) =
        in_option first || in_option e || in_option third || in_statement body
    in_statement (c.Switch' place e shape cases) = in_expression e || in_cases cases
    in_statement c.Break = false
    in_statement c.Continue = false
    in_statement (c.Return place e) = in_option e

    pub in_items : {m : _} → c.Row_of-BlockItem m → Bool
    in_items c.end_of-BlockItem = false
    in_items (c.more_of-BlockItem (i.Declaration d) rest) = in_declarators d.declarators (in_items rest)
    in_items (c.more_of-BlockItem (i.Statement s) rest) = in_statement s || in_items rest

    pub in_cases : {m : _} → c.Row_of-SwitchCase m → Bool
    in_cases c.end_of-SwitchCase = false
    in_cases (c.more_of-SwitchCase label p (c.more_of-CStatement body c.end_of-CStatement) rest) = in_statement body || in_cases rest
