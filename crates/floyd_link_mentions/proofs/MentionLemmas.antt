-- The names in the tables are those that are mentioned.
use Rattle.std.proofs.Common.{◌≡◌, ℕ, Bool, false, ◌||◌, List, [], ◌∷◌, Option, Some, None, sym, ap, ◌∙◌, is_some, bytes_eq}
use Rattle.std.specs.List.{list_any}
use Rattle.std.specs.Map.{lookup}
use Rattle.std.specs.Option.{option_map_or}
use Rattle.floyd_clight.specs.declared.initial.Initial.{Initial, Absent, Null, Address, Element, Parts', Row_of-Initial, end_of-Initial, more_of-Initial}
use Rattle.floyd_clight.specs.declared.initial.Initial as i
use Rattle.floyd_clight.specs.declared.syntax.Binding.{Binding}
use Rattle.floyd_clight.specs.declared.syntax.Binding.TheVariants.{Block, File}
use Rattle.floyd_clight.specs.declared.syntax.Expr.{Expr, Const, Temp, Var, Deref', AddrOf', Unary', Binary', Cast', Field', SizeOf, Row_of-Expr, end_of-Expr, more_of-Expr}
use Rattle.floyd_clight.specs.declared.syntax.Stmt.{Stmt, Skip, Set, Assign, Call, Seq', If', Loop', Break, Continue, Return, Switch', Row_of-Stmt, end_of-Stmt, more_of-Stmt, Row_of-Case, end_of-Case, more_of-Case}
use Rattle.floyd_clight.specs.declared.unit.ClightUnit.{ClightUnit}
use Rattle.floyd_clight.specs.declared.unit.Defined.{Defined}
use Rattle.floyd_clight.specs.declared.unit.Variable.{Variable}
use Rattle.floyd_termread_scope.specs.Scopes.{is_among}
use Rattle.floyd_link_mentions.specs.Mentions.{in_cases, in_contents, in_expression, in_parts, in_row, in_statement, in_statements, is_of_file, mentions}
use Rattle.floyd_link_mentions.specs.MentionClauses.{Names, with_binding, with_cases, with_contents, with_expression, with_expressions, with_functions, with_initial, with_parts, with_row, with_statement, with_statements, with_unit, with_value, with_variables}
use Rattle.floyd_link_mentions.proofs.TableLemmas.{among_put, or_assoc, or_false}

module _ (x : List ℕ) where
  abbrev In : Names → Bool
  In names = is_among names x

  none : (names : Names) → In names ≡ In names || false
  none names = sym (or_false (In names))

  -- one after the other
  two : (names first both : Names) (a b : Bool) → In first ≡ In names || a → In both ≡ In first || b → In both ≡ In names || (a || b)
  two names first both a b e f = f ∙ ap (λ c. c || b) e ∙ or_assoc (In names) a b

  binding_in : (binding : Binding) (y : List ℕ) (names : Names) → In (with_binding binding y names) ≡ In names || is_of_file x binding y
  binding_in Block y names = none names
  binding_in File y names = among_put x y names

  mutual
    expression_in : (e : Expr) (names : Names) → In (with_expression e names) ≡ In names || in_expression x e
    expression_in (Const v t) names = none names
    expression_in (Temp y t) names = none names
    expression_in (Var binding y t) names = binding_in binding y names
    expression_in (Deref' p e t) names = row_in e names
    expression_in (AddrOf' p e t) names = row_in e names
    expression_in (Unary' op p e t) names = row_in e names
    expression_in (Binary' op p a q b t) names = two names (with_row a names) (with_row b (with_row a names)) (in_row x a) (in_row x b) (row_in a names) (row_in b (with_row a names))
    expression_in (Cast' p e t) names = row_in e names
    expression_in (Field' p e y t) names = row_in e names
    expression_in (SizeOf u t) names = none names

    row_in : {n : _} (row : Row_of-Expr n) (names : Names) → In (with_row row names) ≡ In names || in_row x row
    row_in end_of-Expr names = none names
    row_in (more_of-Expr e rest) names = two names (with_expression e names) (with_row rest (with_expression e names)) (in_expression x e) (in_row x rest) (expression_in e names) (row_in rest (with_expression e names))

  expressions_in : (es : List Expr) (names : Names) → In (with_expressions es names) ≡ In names || list_any (in_expression x) es
  expressions_in [] names = none names
  expressions_in (e ∷ es) names = two names (with_expression e names) (with_expressions es (with_expression e names)) (in_expression x e) (list_any (in_expression x) es) (expression_in e names) (expressions_in es (with_expression e names))

  value_in : (e : Option Expr) (names : Names) → In (with_value e names) ≡ In names || option_map_or (in_expression x) e false
  value_in None names = none names
  value_in (Some e) names = expression_in e names

  mutual
    statement_in : (s : Stmt) (names : Names) → In (with_statement s names) ≡ In names || in_statement x s
    statement_in Skip names = none names
    statement_in (Set y e) names = expression_in e names
    statement_in (Assign p e) names = two names (with_expression p names) (with_expression e (with_expression p names)) (in_expression x p) (in_expression x e) (expression_in p names) (expression_in e (with_expression p names))
    statement_in (Call to f es) names = two names (with_expression f names) (with_expressions es (with_expression f names)) (in_expression x f) (list_any (in_expression x) es) (expression_in f names) (expressions_in es (with_expression f names))
    statement_in (Seq' shape all) names = statements_in all names
    statement_in (If' e p a q b) names =
        let first = with_expression e names in
        let second = with_statements a first in
        two names first (with_statements b second) (in_expression x e) (in_statements x a || in_statements x b) (expression_in e names) (two first second (with_statements b second) (in_statements x a) (in_statements x b) (statements_in a first) (statements_in b second))
    statement_in (Loop' p a q b) names = two names (with_statements a names) (with_statements b (with_statements a names)) (in_statements x a) (in_statements x b) (statements_in a names) (statements_in b (with_statements a names))
    statement_in Break names = none names
    statement_in Continue names = none names
    statement_in (Return e) names = value_in e names
    statement_in (Switch' e shape cases) names = two names (with_expression e names) (with_cases cases (with_expression e names)) (in_expression x e) (in_cases x cases) (expression_in e names) (cases_in cases (with_expression e names))

    statements_in : {n : _} (row : Row_of-Stmt n) (names : Names) → In (with_statements row names) ≡ In names || in_statements x row
    statements_in end_of-Stmt names = none names
    statements_in (more_of-Stmt s rest) names = two names (with_statement s names) (with_statements rest (with_statement s names)) (in_statement x s) (in_statements x rest) (statement_in s names) (statements_in rest (with_statement s names))

    cases_in : {n : _} (row : Row_of-Case n) (names : Names) → In (with_cases row names) ≡ In names || in_cases x row
    cases_in end_of-Case names = none names
    cases_in (more_of-Case label p s rest) names = two names (with_statements s names) (with_cases rest (with_statements s names)) (in_statements x s) (in_cases x rest) (statements_in s names) (cases_in rest (with_statements s names))

  mutual
    contents_in : (c : Initial) (names : Names) → In (with_contents c names) ≡ In names || in_contents x c
    contents_in Absent names = none names
    contents_in (i.Int k bits) names = none names
    contents_in Null names = none names
    contents_in (Address y) names = among_put x y names
    contents_in (Element y offset) names = among_put x y names
    contents_in (Parts' shape rows) names = parts_in rows names

    parts_in : {n : _} (row : Row_of-Initial n) (names : Names) → In (with_parts row names) ≡ In names || in_parts x row
    parts_in end_of-Initial names = none names
    parts_in (more_of-Initial part rest) names = two names (with_contents part names) (with_parts rest (with_contents part names)) (in_contents x part) (in_parts x rest) (contents_in part names) (parts_in rest (with_contents part names))

  initial_in : (c : Option Initial) (names : Names) → In (with_initial c names) ≡ In names || option_map_or (in_contents x) c false
  initial_in None names = none names
  initial_in (Some c) names = contents_in c names

  abbrev in_body : Defined → Bool
  in_body f = in_statement x f.body

  abbrev in_variable : Variable → Bool
  in_variable v = option_map_or (in_contents x) v.contents false

  functions_in : (fs : List Defined) (names : Names) → In (with_functions fs names) ≡ In names || list_any in_body fs
  functions_in [] names = none names
  functions_in (f ∷ fs) names = two names (with_statement f.body names) (with_functions fs (with_statement f.body names)) (in_body f) (list_any in_body fs) (statement_in f.body names) (functions_in fs (with_statement f.body names))

  variables_in : (vs : List Variable) (names : Names) → In (with_variables vs names) ≡ In names || list_any in_variable vs
  variables_in [] names = none names
  variables_in (v ∷ vs) names = two names (with_initial v.contents names) (with_variables vs (with_initial v.contents names)) (in_variable v) (list_any in_variable vs) (initial_in v.contents names) (variables_in vs (with_initial v.contents names))

pub unit_mentions : (u : ClightUnit) (x : List ℕ) → is_some (lookup (bytes_eq x) (with_unit u [])) ≡ mentions x u
unit_mentions u x = two x [] (with_functions u.defined []) (with_unit u []) (list_any (in_body x) u.defined) (list_any (in_variable x) u.variables) (functions_in x u.defined []) (variables_in x u.variables (with_functions u.defined []))
