-- The names of the file that a source mentions: in a body, or in the contents of a variable.
use Rattle.std.specs.Prelude.{Bool, false, ◌||◌, ℕ, List, bytes_eq}
use Rattle.std.specs.List.{list_any}
use Rattle.std.specs.Option.{option_map_or}
use Rattle.floyd_clight.specs.declared.initial.Initial.{Initial, Absent, Null, Address, Element, Parts', Row_of-Initial, end_of-Initial, more_of-Initial}
use Rattle.floyd_clight.specs.declared.initial.Initial as i
use Rattle.floyd_clight.specs.declared.syntax.Binding.{Binding}
use Rattle.floyd_clight.specs.declared.syntax.Binding.TheVariants.{Block, File}
use Rattle.floyd_clight.specs.declared.syntax.Expr.{Expr, Const, Temp, Var, Deref', AddrOf', Unary', Binary', Cast', Field', SizeOf, Row_of-Expr, end_of-Expr, more_of-Expr}
use Rattle.floyd_clight.specs.declared.syntax.Stmt.{Stmt, Skip, Set, Assign, Call, Seq', If', Loop', Break, Continue, Return, Switch', Row_of-Stmt, end_of-Stmt, more_of-Stmt, Row_of-Case, end_of-Case, more_of-Case}
use Rattle.floyd_clight.specs.declared.unit.ClightUnit.{ClightUnit}
use Rattle.floyd_clight.specs.declared.unit.Defined.{Defined}
use Rattle.floyd_clight.specs.declared.unit.Variable.{Variable}

module _ (x : List ℕ) where
  abbrev pub is_of_file : Binding → List ℕ → Bool
  is_of_file Block y = false
  is_of_file File y = bytes_eq x y

  abbrev mutual
    pub in_expression : Expr → Bool
    in_expression (Const v t) = false
    in_expression (Temp y t) = false
    in_expression (Var binding y t) = is_of_file binding y
    in_expression (Deref' p e t) = in_row e
    in_expression (AddrOf' p e t) = in_row e
    in_expression (Unary' op p e t) = in_row e
    in_expression (Binary' op p a q b t) = in_row a || in_row b
    in_expression (Cast' p e t) = in_row e
    in_expression (Field' p e y t) = in_row e
    in_expression (SizeOf u t) = false

    pub in_row : {n : _} → Row_of-Expr n → Bool
    in_row end_of-Expr = false
    in_row (more_of-Expr e rest) = in_expression e || in_row rest

  abbrev mutual
    pub in_statement : Stmt → Bool
    in_statement Skip = false
    in_statement (Set y e) = in_expression e
    in_statement (Assign p e) = in_expression p || in_expression e
    in_statement (Call to f es) = in_expression f || list_any in_expression es
    in_statement (Seq' shape all) = in_statements all
    in_statement (If' e p a q b) = in_expression e || (in_statements a || in_statements b)
    in_statement (Loop' p a q b) = in_statements a || in_statements b
    in_statement Break = false
    in_statement Continue = false
    in_statement (Return e) = option_map_or in_expression e false
    in_statement (Switch' e shape cases) = in_expression e || in_cases cases

    pub in_statements : {n : _} → Row_of-Stmt n → Bool
    in_statements end_of-Stmt = false
    in_statements (more_of-Stmt s rest) = in_statement s || in_statements rest

    pub in_cases : {n : _} → Row_of-Case n → Bool
    in_cases end_of-Case = false
    in_cases (more_of-Case label p s rest) = in_statements s || in_cases rest

  abbrev mutual
    pub in_contents : Initial → Bool
    in_contents Absent = false
    in_contents (i.Int k bits) = false
    in_contents Null = false
    in_contents (Address y) = bytes_eq x y
    in_contents (Element y offset) = bytes_eq x y
    in_contents (Parts' shape rows) = in_parts rows

    pub in_parts : {n : _} → Row_of-Initial n → Bool
    in_parts end_of-Initial = false
    in_parts (more_of-Initial part rest) = in_contents part || in_parts rest

  abbrev pub mentions : ClightUnit → Bool
  mentions u = list_any (λ (f : Defined). in_statement f.body) u.defined || list_any (λ (v : Variable). option_map_or in_contents v.contents false) u.variables
