-- Small sources, and what the definitions make of them.
use Rattle.std.proofs.Common.{◌≡◌, refl, ℕ, List, [], ◌∷◌, Some, None, false}
use Rattle.std.specs.Prelude.{codes, Result, Ok, Err}
use Rattle.floyd_text.specs.declared.place.Place.{Place}
use Rattle.floyd_text.specs.declared.refusal.Refusal.{Refusal}
use Rattle.floyd_int.specs.declared.kinds.IntKind.TheVariants.{I32}
use Rattle.floyd_int.specs.declared.kinds.IntOp.TheVariants as op
use Rattle.floyd_ctypes.specs.declared.ctype.CType.{Void}
use Rattle.floyd_cparse_trees.specs.declared.types.Identifier.{Identifier}
use Rattle.floyd_cparse_trees.specs.declared.types.Base as b
use Rattle.floyd_cparse_trees.specs.declared.types.Specifiers.{Specifiers}
use Rattle.floyd_cparse_trees.specs.declared.declarations.InitDeclarator.{InitDeclarator}
use Rattle.floyd_elab_names.specs.Refusals.{redeclared, left_out}
use Rattle.floyd_ctypes.specs.declared.ctype.CType.TheBlock.{shape-the_row-CType-0, hidden-the_row-CType-0, shape-the_row-CType-1, hidden-the_row-CType-1}
use Rattle.floyd_cparse_trees.specs.declared.statements.BlockItem.TheBlock.{shape-the_row-BlockItem-0, hidden-the_row-BlockItem-0}
use denote.Hole.Carrier.{hidden}
use Rattle.floyd_cparse_trees.specs.declared.types.Declarator as d
use Rattle.floyd_cparse_trees.specs.declared.expressions.BinaryOp.TheVariants as binary
use Rattle.floyd_cparse_trees.specs.declared.expressions.CExpr as e
use Rattle.floyd_cparse_trees.specs.declared.expressions.Prefix.TheVariants as before
use Rattle.floyd_cparse_trees.specs.declared.expressions.PrefixOp.TheVariants as p
use Rattle.floyd_cparse_trees.specs.declared.statements.BlockItem as i
use Rattle.floyd_cparse_trees.specs.declared.statements.CStatement as c
use Rattle.floyd_cparse_trees.specs.declared.declarations.External.TheVariants as external
use Rattle.floyd_elab_names.specs.declared.meaning.Meaning.TheVariants as m
use Rattle.floyd_elab_names.specs.declared.meaning.Storage.TheVariants as kept
use Rattle.floyd_elab_names.specs.Refusals.{ill_typed, nested_effect, undeclared}
use Rattle.floyd_elab_names.specs.Scopes.{Scopes}
use Rattle.floyd_elab_names.specs.Types.{int_type, pointer_to}
use Rattle.floyd_clight.specs.declared.syntax.Binding.TheVariants as bound
use Rattle.floyd_clight.specs.declared.syntax.Expr.{Expr, Temp, Var}
use Rattle.floyd_clight.specs.declared.syntax.Stmt.{Stmt, Set, Assign, If, Loop, Skip, Break, Seq, Return}
use Rattle.floyd_elab_expressions.specs.Clight.{pulled_name, kth_name, deref_of, address_of, binary_of, zero, one}
use Rattle.floyd_elab_expressions.specs.declared.progress.Progress.{Progress}
use Rattle.floyd_elab_effects.specs.Effects.{effect}
use Rattle.floyd_elab_statements.specs.Statements.{statement}
use Rattle.floyd_elab.specs.Units.{elaboration, first_progress}

abbrev ident : List ℕ → ℕ → Identifier
ident x n = record { name = x; place = record { file = 1; line = 1; column = n } }

abbrev var : List ℕ → e.CExpr
var x = e.Name (ident x 1)

abbrev bin : binary.the_data → e.CExpr → e.CExpr → e.CExpr
bin o a b = e.Binary' tt (e.more_of-CExpr a e.end_of-CExpr) o (record { file = 1; line = 1; column = 2 }) tt (e.more_of-CExpr b e.end_of-CExpr)

abbrev assign : e.CExpr → e.CExpr → e.CExpr
assign a b = e.Assign' tt (e.more_of-CExpr a e.end_of-CExpr) None (record { file = 1; line = 1; column = 3 }) tt (e.more_of-CExpr b e.end_of-CExpr)

abbrev update : e.CExpr → e.CExpr → e.CExpr
update a b = e.Assign' tt (e.more_of-CExpr a e.end_of-CExpr) (Some op.Add) (record { file = 1; line = 1; column = 3 }) tt (e.more_of-CExpr b e.end_of-CExpr)

abbrev choose : e.CExpr → e.CExpr → e.CExpr → e.CExpr
choose a b c = e.Conditional' tt (e.more_of-CExpr a e.end_of-CExpr) (record { file = 1; line = 1; column = 4 }) tt (e.more_of-CExpr b e.end_of-CExpr) tt (e.more_of-CExpr c e.end_of-CExpr)

abbrev one_literal : e.CExpr
one_literal = e.Literal (record { kind = I32; value = 1; place = record { file = 1; line = 1; column = 5 } })

-- temporaries a, b, x, and globals g, h, all of type int, and an int pointer q
abbrev scopes : Scopes
scopes = ((codes "a", m.Variable (codes "a") int_type kept.Temporary) ∷ (codes "b", m.Variable (codes "b") int_type kept.Temporary) ∷ (codes "x", m.Variable (codes "x") int_type kept.Temporary) ∷ [])
    ∷ ((codes "g", m.Variable (codes "g") int_type kept.Global) ∷ (codes "h", m.Variable (codes "h") int_type kept.Global) ∷ []) ∷ []

abbrev start : Progress
start = first_progress (record { structs = []; completed = [] }) []

abbrev statements : Result (List Stmt × Progress) Refusal → Result (List Stmt) Refusal
statements (Ok r) = Ok r.0
statements (Err refusal) = Err refusal

abbrev a : Expr
a = Temp (codes "a") int_type

abbrev b' : Expr
b' = Temp (codes "b") int_type

abbrev t : ℕ → Expr
t k = Temp (pulled_name k) int_type

abbrev g : Expr
g = Var bound.File (codes "g") int_type

abbrev h : Expr
h = Var bound.File (codes "h") int_type

abbrev not_zero : Expr → Expr
not_zero e = binary_of op.Ne e zero int_type

-- x = a && b;
conjunction : statements (effect scopes (assign (var (codes "x")) (bin binary.And (var (codes "a")) (var (codes "b")))) start)
    ≡ Ok (If (not_zero a) (Set (pulled_name 1) (not_zero b')) (Set (pulled_name 1) zero) ∷ Set (codes "x") (t 1) ∷ [])
conjunction = refl

-- x = g ? g : a;
choice : statements (effect scopes (assign (var (codes "x")) (choose (var (codes "g")) (var (codes "g")) (var (codes "a")))) start)
    ≡ Ok (Set (pulled_name 1) g
    ∷ If (not_zero (t 1)) (Seq (Set (pulled_name 3) g ∷ Set (pulled_name 2) (t 3) ∷ [])) (Set (pulled_name 2) a)
    ∷ Set (codes "x") (t 2) ∷ [])
choice = refl

-- g += h;
addition : statements (effect scopes (update (var (codes "g")) (var (codes "h"))) start)
    ≡ Ok (Set (pulled_name 1) g ∷ Set (pulled_name 2) h ∷ Assign g (binary_of op.Add (t 1) (t 2) int_type) ∷ [])
addition = refl

-- x = (b = 1) without parentheses
nested : statements (effect scopes (assign (var (codes "x")) (assign (var (codes "b")) one_literal)) start) ≡ Err (nested_effect (record { file = 1; line = 1; column = 3 }))
nested = refl

-- 1 = u;
no_target : statements (effect scopes (assign one_literal (var (codes "u"))) start) ≡ Err (ill_typed (record { file = 1; line = 1; column = 3 }))
no_target = refl

-- x = a + u;
unknown : statements (effect scopes (assign (var (codes "x")) (bin (binary.Int op.Add) (var (codes "a")) (var (codes "u")))) start) ≡ Err (undeclared (ident (codes "u") 1))
unknown = refl

-- for (; x; g = g + 1) x = g;
numbers : statements (statement Void scopes
    (c.For' (record { file = 1; line = 1; column = 6 }) None (Some (var (codes "x"))) (Some (assign (var (codes "g")) (bin (binary.Int op.Add) (var (codes "g")) one_literal)))
    tt (c.more_of-CStatement (c.Effect (assign (var (codes "x")) (var (codes "g")))) c.end_of-CStatement)) start)
    ≡ Ok (Loop (Seq (If (not_zero (Temp (codes "x") int_type)) Skip Break ∷ Set (pulled_name 2) g ∷ Set (codes "x") (t 2) ∷ []))
    (Seq (Set (pulled_name 1) g ∷ Assign g (binary_of op.Add (t 1) one int_type) ∷ [])) ∷ [])
numbers = refl

-- Whole files.

abbrev place : ℕ → Place
place n = record { file = 1; line = 1; column = n }

abbrev int_words : Specifiers
int_words = record { constant = None; base = b.Int I32 }

abbrev void_words : Specifiers
void_words = record { constant = None; base = b.Void }

abbrev declarator_name : List ℕ → ℕ → d.Declarator
declarator_name x n = d.Name (ident x n)

abbrev no_parameters : d.Declarator → d.Declarator
no_parameters inner = d.Function' tt (d.more_of-Declarator inner d.end_of-Declarator) (place 9) [] d.end_of-Parameter

abbrev declares : d.Declarator → InitDeclarator
declares d = record { declarator = d; initialiser = None }

-- int f; int f(void x);
void_parameter : elaboration (record {
  externals =
      external.Declaration (record { external = false; specifiers = int_words; declarators = declares (declarator_name (codes "f") 5) ∷ [] })
      ∷ external.Declaration (record {
        external = false;
        specifiers = int_words;
        declarators =
            declares (d.Function' tt (d.more_of-Declarator (declarator_name (codes "f") 12) d.end_of-Declarator) (place 13) (tt ∷ []) (d.more_of-Parameter None b.Void (declarator_name (codes "x") 19) d.end_of-Parameter)) ∷ [];
      })
      ∷ [];
})
    ≡ Err (ill_typed (place 19))
void_parameter = refl

-- int f; int f(void);
another_type : elaboration (record {
  externals =
      external.Declaration (record { external = false; specifiers = int_words; declarators = declares (declarator_name (codes "f") 5) ∷ [] })
      ∷ external.Declaration (record { external = false; specifiers = int_words; declarators = declares (no_parameters (declarator_name (codes "f") 12)) ∷ [] })
      ∷ [];
})
    ≡ Err (redeclared (ident (codes "f") 12))
unfolding shape-the_row-CType-0 hidden-the_row-CType-0 shape-the_row-CType-1 hidden-the_row-CType-1 hidden
another_type = refl

-- const int x;
constant_variable : elaboration (record {
  externals =
      external.Declaration (record { external = false; specifiers = record { constant = Some (place 1); base = b.Int I32 }; declarators = declares (declarator_name (codes "x") 11) ∷ [] }) ∷ [];
})
    ≡ Err (left_out (record { place = place 1; text = codes "const" }))
constant_variable = refl

abbrev address : e.CExpr → e.CExpr
address x = e.Prefixed' (before.Op p.Address (place 20) ∷ []) tt (e.more_of-CExpr x e.end_of-CExpr)

abbrev content : e.CExpr → e.CExpr
content x = e.Prefixed' (before.Op p.Dereference (place 21) ∷ []) tt (e.more_of-CExpr x e.end_of-CExpr)

abbrev local : d.Declarator → i.BlockItem
local d = i.Declaration (record { specifiers = int_words; declarators = record { declarator = d; initialiser = None } ∷ [] })

abbrev does : e.CExpr → i.BlockItem
does e = i.Statement (c.Effect e)

abbrev pointer_named : List ℕ → d.Declarator
pointer_named x = d.Pointer' (record { place = place 30; constant = None } ∷ []) tt (d.more_of-Declarator (declarator_name x 31) d.end_of-Declarator)

-- int main(void) { int x; int *p; p = &x; *p = 1; { int x; x = 1; } return x; }
memory : elaboration (record {
  externals =
      external.Function (record {
        specifiers = int_words;
        declarator = no_parameters (declarator_name (codes "main") 5);
        body =
            local (declarator_name (codes "x") 22) ∷ local (pointer_named (codes "p"))
            ∷ does (assign (var (codes "p")) (address (var (codes "x")))) ∷ does (assign (content (var (codes "p"))) one_literal)
            ∷ i.Statement (c.Block' (tt ∷ tt ∷ []) (c.more_of-BlockItem (local (declarator_name (codes "x") 40)) (c.more_of-BlockItem (does (assign (var (codes "x")) one_literal)) c.end_of-BlockItem)))
            ∷ i.Statement (c.Return (place 50) (Some (var (codes "x")))) ∷ [];
      })
      ∷ [];
})
    ≡ Ok (record {
      structs = [];
      variables = [];
      declared = record { name = codes "main"; place = place 5; parameters = []; result = int_type } ∷ [];
      defined = record {
        name = codes "main";
        place = place 5;
        result = int_type;
        parameters = [];
        blocks = record { name = codes "x"; ctype = int_type } ∷ [];
        temporaries = record { name = codes "p"; ctype = pointer_to int_type } ∷ record { name = kth_name (codes "x") 2; ctype = int_type } ∷ record { name = pulled_name 1; ctype = int_type } ∷ [];
        body = Seq (
            Set (codes "p") (address_of (Var bound.Block (codes "x") int_type) (pointer_to int_type))
            ∷ Assign (deref_of (Temp (codes "p") (pointer_to int_type)) int_type) one
            ∷ Set (kth_name (codes "x") 2) one
            ∷ Set (pulled_name 1) (Var bound.Block (codes "x") int_type)
            ∷ Return (Some (Temp (pulled_name 1) int_type)) ∷ []);
      } ∷ [];
    })
unfolding shape-the_row-CType-0 hidden-the_row-CType-0 shape-the_row-CType-1 hidden-the_row-CType-1 shape-the_row-BlockItem-0 hidden-the_row-BlockItem-0 hidden
memory = refl
