-- Tables to which the names are added that something mentions.
use Rattle.std.specs.Prelude.{ℕ, List, [], ◌∷◌, Option, Some, None}
use Rattle.floyd_clight.specs.declared.initial.Initial.{Initial, Absent, Null, Address, Element, Parts', Row_of-Initial, end_of-Initial, more_of-Initial}
use Rattle.floyd_clight.specs.declared.initial.Initial as i
use Rattle.floyd_clight.specs.declared.syntax.Binding.{Binding}
use Rattle.floyd_clight.specs.declared.syntax.Binding.TheVariants.{Block, File}
use Rattle.floyd_clight.specs.declared.syntax.Case.{Case}
use Rattle.floyd_clight.specs.declared.syntax.Expr.{Expr, Const, Temp, Var, Deref', AddrOf', Unary', Binary', Cast', Field', SizeOf, Row_of-Expr, end_of-Expr, more_of-Expr}
use Rattle.floyd_clight.specs.declared.syntax.Stmt.{Stmt, Skip, Set, Assign, Call, Seq', If', Loop', Break, Continue, Return, Switch', Row_of-Stmt, end_of-Stmt, more_of-Stmt, Row_of-Case, end_of-Case, more_of-Case}
use Rattle.floyd_clight.specs.declared.unit.ClightUnit.{ClightUnit}
use Rattle.floyd_clight.specs.declared.unit.Defined.{Defined}
use Rattle.floyd_clight.specs.declared.unit.Variable.{Variable}
use Rattle.floyd_specread_sources.specs.Tables.{put_new}
use Rattle.floyd_termread_scope.specs.Scopes.{Named}

abbrev pub Names : Type 0
Names = Named (Unit {0})

abbrev pub with_binding : Binding → List ℕ → Names → Names
with_binding Block y names = names
with_binding File y names = put_new y tt names

abbrev mutual
  pub with_expression : Expr → Names → Names
  with_expression (Const v t) names = names
  with_expression (Temp y t) names = names
  with_expression (Var binding y t) names = with_binding binding y names
  with_expression (Deref' p e t) names = with_row e names
  with_expression (AddrOf' p e t) names = with_row e names
  with_expression (Unary' op p e t) names = with_row e names
  with_expression (Binary' op p a q b t) names = with_row b (with_row a names)
  with_expression (Cast' p e t) names = with_row e names
  with_expression (Field' p e y t) names = with_row e names
  with_expression (SizeOf u t) names = names

  pub with_row : {n : _} → Row_of-Expr n → Names → Names
  with_row end_of-Expr names = names
  with_row (more_of-Expr e rest) names = with_row rest (with_expression e names)

abbrev pub with_expressions : List Expr → Names → Names
with_expressions [] names = names
with_expressions (e ∷ es) names = with_expressions es (with_expression e names)

abbrev pub with_value : Option Expr → Names → Names
with_value None names = names
with_value (Some e) names = with_expression e names

abbrev mutual
  pub with_statement : Stmt → Names → Names
  with_statement Skip names = names
  with_statement (Set y e) names = with_expression e names
  with_statement (Assign p e) names = with_expression e (with_expression p names)
  with_statement (Call to f es) names = with_expressions es (with_expression f names)
  with_statement (Seq' shape all) names = with_statements all names
  with_statement (If' e p a q b) names = with_statements b (with_statements a (with_expression e names))
  with_statement (Loop' p a q b) names = with_statements b (with_statements a names)
  with_statement Break names = names
  with_statement Continue names = names
  with_statement (Return e) names = with_value e names
  with_statement (Switch' e shape cases) names = with_cases cases (with_expression e names)

  pub with_statements : {n : _} → Row_of-Stmt n → Names → Names
  with_statements end_of-Stmt names = names
  with_statements (more_of-Stmt s rest) names = with_statements rest (with_statement s names)

  pub with_cases : {n : _} → Row_of-Case n → Names → Names
  with_cases end_of-Case names = names
  with_cases (more_of-Case label p s rest) names = with_cases rest (with_statements s names)

abbrev pub with_list : List Stmt → Names → Names
with_list [] names = names
with_list (s ∷ ss) names = with_list ss (with_statement s names)

abbrev pub with_bodies : List Case → Names → Names
with_bodies [] names = names
with_bodies (c ∷ cs) names = with_bodies cs (with_statement c.body names)

abbrev mutual
  pub with_contents : Initial → Names → Names
  with_contents Absent names = names
  with_contents (i.Int k bits) names = names
  with_contents Null names = names
  with_contents (Address y) names = put_new y tt names
  with_contents (Element y offset) names = put_new y tt names
  with_contents (Parts' shape rows) names = with_parts rows names

  pub with_parts : {n : _} → Row_of-Initial n → Names → Names
  with_parts end_of-Initial names = names
  with_parts (more_of-Initial part rest) names = with_parts rest (with_contents part names)

abbrev pub with_items : List Initial → Names → Names
with_items [] names = names
with_items (part ∷ parts) names = with_items parts (with_contents part names)

abbrev pub with_initial : Option Initial → Names → Names
with_initial None names = names
with_initial (Some contents) names = with_contents contents names

abbrev pub with_functions : List Defined → Names → Names
with_functions [] names = names
with_functions (f ∷ fs) names = with_functions fs (with_statement f.body names)

abbrev pub with_variables : List Variable → Names → Names
with_variables [] names = names
with_variables (v ∷ vs) names = with_variables vs (with_initial v.contents names)

abbrev pub with_unit : ClightUnit → Names → Names
with_unit u names = with_variables u.variables (with_functions u.defined names)
