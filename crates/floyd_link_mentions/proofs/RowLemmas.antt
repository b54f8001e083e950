-- Rows of parts say what their lists say.
use Rattle.std.proofs.Common.{◌≡◌, ℕ, List, refl, ap, sym, ◌∙◌}
use denote.Hole.Carrier.{hidden, shown}
use Rattle.floyd_int.specs.declared.kinds.IntOp.{IntOp}
use Rattle.floyd_ctypes.specs.declared.ctype.CType.{CType}
use Rattle.floyd_clight.specs.declared.syntax.Case.{Case}
use Rattle.floyd_clight.specs.declared.syntax.UnaryOp.{UnaryOp}
use Rattle.floyd_clight.specs.declared.syntax.Expr.{Expr, Deref, AddrOf, Unary, Binary, Cast, Field}
use Rattle.floyd_clight.specs.declared.syntax.Expr.TheBlock.{hidden-the_row-Expr-0, shape-the_row-Expr-0}
use Rattle.floyd_clight.specs.declared.initial.Initial.{Initial, Parts, Row_of-Initial, end_of-Initial, more_of-Initial, items-the_row-Initial, items_hidden-the_row-Initial-0}
use Rattle.floyd_clight.specs.declared.initial.Initial.TheBlock.{hidden-the_row-Initial-0}
use Rattle.floyd_clight.specs.declared.syntax.Stmt.{Stmt, If, Loop, Seq, Switch, Row_of-Stmt, end_of-Stmt, more_of-Stmt, Row_of-Case, end_of-Case, more_of-Case, items-the_row-Stmt, items-the_row-Case, items_hidden-the_row-Stmt-0, items_hidden-the_row-Case-2}
use Rattle.floyd_clight.specs.declared.syntax.Stmt.TheBlock.{hidden-the_row-Stmt-0, hidden-the_row-Stmt-1, hidden-the_row-Case-2, shape-the_row-Stmt-1, shown-the_row-Stmt-1}
use Rattle.floyd_link_mentions.specs.MentionClauses.{Names, with_bodies, with_cases, with_contents, with_expression, with_items, with_list, with_parts, with_statement, with_statements}

statements_items : {n : _} (row : Row_of-Stmt n) (names : Names) → with_statements row names ≡ with_list (items-the_row-Stmt n row) names
statements_items end_of-Stmt names = refl
statements_items (more_of-Stmt s rest) names = statements_items rest (with_statement s names)

pub statements_seq : (parts : List Stmt) (names : Names) → with_statement (Seq parts) names ≡ with_list parts names
statements_seq parts names = statements_items (hidden-the_row-Stmt-0 parts) names ∙ ap (λ (ss : List Stmt). with_list ss names) (items_hidden-the_row-Stmt-0 parts)

parts_items : {n : _} (row : Row_of-Initial n) (names : Names) → with_parts row names ≡ with_items (items-the_row-Initial n row) names
parts_items end_of-Initial names = refl
parts_items (more_of-Initial part rest) names = parts_items rest (with_contents part names)

pub parts_seq : (parts : List Initial) (names : Names) → with_contents (Parts parts) names ≡ with_items parts names
parts_seq parts names = parts_items (hidden-the_row-Initial-0 parts) names ∙ ap (λ (ss : List Initial). with_items ss names) (items_hidden-the_row-Initial-0 parts)

cases_items : {n : _} (row : Row_of-Case n) (names : Names) → with_cases row names ≡ with_bodies (items-the_row-Case n row) names
unfolding shown-the_row-Stmt-1 shown
cases_items end_of-Case names = refl
cases_items (more_of-Case label p (more_of-Stmt body end_of-Stmt) rest) names = cases_items rest (with_statement body names)

cases_seq : (e : Expr) (cases : List Case) (names : Names) → with_statement (Switch e cases) names ≡ with_bodies cases (with_expression e names)
cases_seq e cases names = cases_items (hidden-the_row-Case-2 cases) (with_expression e names) ∙ ap (λ (cs : List Case). with_bodies cs (with_expression e names)) (items_hidden-the_row-Case-2 cases)

-- ---- parts that are shared

in_deref : (a : Expr) (t : CType) (names : Names) → with_expression (Deref a t) names ≡ with_expression a names
unfolding shape-the_row-Expr-0 hidden-the_row-Expr-0 hidden
in_deref a t names = refl

pub at_deref : (e a b : Expr) (t : CType) (names : Names) → e ≡ Deref a t → b ≡ a → with_expression e names ≡ with_expression b names
at_deref e a b t names is same = ap (λ (z : Expr). with_expression z names) is ∙ in_deref a t names ∙ ap (λ (z : Expr). with_expression z names) (sym same)

in_address : (a : Expr) (t : CType) (names : Names) → with_expression (AddrOf a t) names ≡ with_expression a names
unfolding shape-the_row-Expr-0 hidden-the_row-Expr-0 hidden
in_address a t names = refl

pub at_address : (e a b : Expr) (t : CType) (names : Names) → e ≡ AddrOf a t → b ≡ a → with_expression e names ≡ with_expression b names
at_address e a b t names is same = ap (λ (z : Expr). with_expression z names) is ∙ in_address a t names ∙ ap (λ (z : Expr). with_expression z names) (sym same)

in_unary : (a : Expr) (op : UnaryOp) (t : CType) (names : Names) → with_expression (Unary op a t) names ≡ with_expression a names
unfolding shape-the_row-Expr-0 hidden-the_row-Expr-0 hidden
in_unary a op t names = refl

pub at_unary : (e a b : Expr) (op : UnaryOp) (t : CType) (names : Names) → e ≡ Unary op a t → b ≡ a → with_expression e names ≡ with_expression b names
at_unary e a b op t names is same = ap (λ (z : Expr). with_expression z names) is ∙ in_unary a op t names ∙ ap (λ (z : Expr). with_expression z names) (sym same)

in_cast : (a : Expr) (t : CType) (names : Names) → with_expression (Cast a t) names ≡ with_expression a names
unfolding shape-the_row-Expr-0 hidden-the_row-Expr-0 hidden
in_cast a t names = refl

pub at_cast : (e a b : Expr) (t : CType) (names : Names) → e ≡ Cast a t → b ≡ a → with_expression e names ≡ with_expression b names
at_cast e a b t names is same = ap (λ (z : Expr). with_expression z names) is ∙ in_cast a t names ∙ ap (λ (z : Expr). with_expression z names) (sym same)

in_field : (a : Expr) (y : List ℕ) (t : CType) (names : Names) → with_expression (Field a y t) names ≡ with_expression a names
unfolding shape-the_row-Expr-0 hidden-the_row-Expr-0 hidden
in_field a y t names = refl

pub at_field : (e a b : Expr) (y : List ℕ) (t : CType) (names : Names) → e ≡ Field a y t → b ≡ a → with_expression e names ≡ with_expression b names
at_field e a b y t names is same = ap (λ (z : Expr). with_expression z names) is ∙ in_field a y t names ∙ ap (λ (z : Expr). with_expression z names) (sym same)

in_binary : (op : IntOp) (a b : Expr) (t : CType) (names : Names) → with_expression (Binary op a b t) names ≡ with_expression b (with_expression a names)
unfolding shape-the_row-Expr-0 hidden-the_row-Expr-0 hidden
in_binary op a b t names = refl

pub at_binary : (e a b p q : Expr) (op : IntOp) (t : CType) (names : Names) → e ≡ Binary op a b t → p ≡ a → q ≡ b → with_expression e names ≡ with_expression q (with_expression p names)
at_binary e a b p q op t names is first second =
    ap (λ (z : Expr). with_expression z names) is ∙ in_binary op a b t names
    ∙ ap (λ (z : Expr). with_expression b (with_expression z names)) (sym first)
    ∙ ap (λ (z : Expr). with_expression z (with_expression p names)) (sym second)

in_if : (e : Expr) (a b : Stmt) (names : Names) → with_statement (If e a b) names ≡ with_statement b (with_statement a (with_expression e names))
unfolding hidden-the_row-Stmt-1 shape-the_row-Stmt-1 hidden
in_if e a b names = refl

pub at_if : (s : Stmt) (e : Expr) (a b p q : Stmt) (names : Names) → s ≡ If e a b → p ≡ a → q ≡ b → with_statement s names ≡ with_statement q (with_statement p (with_expression e names))
at_if s e a b p q names is first second =
    ap (λ (z : Stmt). with_statement z names) is ∙ in_if e a b names
    ∙ ap (λ (z : Stmt). with_statement b (with_statement z (with_expression e names))) (sym first)
    ∙ ap (λ (z : Stmt). with_statement z (with_statement p (with_expression e names))) (sym second)

in_loop : (a b : Stmt) (names : Names) → with_statement (Loop a b) names ≡ with_statement b (with_statement a names)
unfolding hidden-the_row-Stmt-1 shape-the_row-Stmt-1 hidden
in_loop a b names = refl

pub at_loop : (s a b p q : Stmt) (names : Names) → s ≡ Loop a b → p ≡ a → q ≡ b → with_statement s names ≡ with_statement q (with_statement p names)
at_loop s a b p q names is first second =
    ap (λ (z : Stmt). with_statement z names) is ∙ in_loop a b names
    ∙ ap (λ (z : Stmt). with_statement b (with_statement z names)) (sym first)
    ∙ ap (λ (z : Stmt). with_statement z (with_statement p names)) (sym second)

pub at_switch : (s : Stmt) (e : Expr) (cases all : List Case) (names : Names) → s ≡ Switch e cases → all ≡ cases → with_statement s names ≡ with_bodies all (with_expression e names)
at_switch s e cases all names is same =
    ap (λ (z : Stmt). with_statement z names) is ∙ cases_seq e cases names ∙ ap (λ (z : List Case). with_bodies z (with_expression e names)) (sym same)
