-- Calls, pointers, structs and initial data, and what the definitions make of them.
use Rattle.std.proofs.Common.{◌≡◌, refl, ℕ, List, [], ◌∷◌, Some, None, false}
use Rattle.std.specs.Prelude.{codes, Result, Ok, Err}
use Rattle.floyd_text.specs.declared.place.Place.{Place}
use Rattle.floyd_text.specs.declared.refusal.Refusal.{Refusal}
use Rattle.floyd_int.specs.declared.kinds.IntKind.TheVariants.{I32, I64}
use Rattle.floyd_int.specs.declared.kinds.IntOp.TheVariants as op
use Rattle.floyd_ctypes.specs.declared.ctype.CType.{CType, Int, Void, Struct, Function', more_of-CType, end_of-CType}
use Rattle.floyd_cparse_trees.specs.declared.types.Identifier.{Identifier}
use Rattle.floyd_cparse_trees.specs.declared.expressions.BinaryOp.TheVariants as binary
use Rattle.floyd_cparse_trees.specs.declared.expressions.CExpr as e
use Rattle.floyd_cparse_trees.specs.declared.expressions.MemberOp.TheVariants.{Arrow}
use Rattle.floyd_cparse_trees.specs.declared.declarations.Constant.TheVariants as constant
use Rattle.floyd_cparse_trees.specs.declared.declarations.Initialiser as i
use Rattle.floyd_elab_names.specs.declared.meaning.Meaning.TheVariants as m
use Rattle.floyd_elab_names.specs.declared.meaning.Storage.TheVariants as kept
use Rattle.floyd_elab_names.specs.declared.tags.Tags.{Tags}
use Rattle.floyd_elab_names.specs.Refusals.{ill_typed, undeclared}
use Rattle.floyd_elab_names.specs.Scopes.{Scopes}
use Rattle.floyd_elab_names.specs.Types.{int_type, pointer_to, array_of}
use Rattle.floyd_clight.specs.declared.initial.Initial as initial
use Rattle.floyd_clight.specs.declared.initial.Initial.{Initial}
use Rattle.floyd_clight.specs.declared.syntax.Binding.TheVariants as bound
use Rattle.floyd_clight.specs.declared.syntax.Expr.{Expr, Temp, Var}
use Rattle.floyd_clight.specs.declared.syntax.Stmt.{Stmt, Set, Call}
use Rattle.floyd_elab_expressions.specs.Clight.{pulled_name, deref_of, binary_of, cast_of, field_of, zero}
use Rattle.floyd_elab_expressions.specs.declared.progress.Progress.{Progress}
use Rattle.floyd_elab_effects.specs.Effects.{effect}
use Rattle.floyd_elab_data.specs.Contents.{contents}
use Rattle.floyd_elab.specs.Units.{first_progress}

abbrev place : ℕ → Place
place n = record { file = 1; line = 1; column = n }

abbrev ident : List ℕ → ℕ → Identifier
ident x n = record { name = x; place = place n }

abbrev var : List ℕ → e.CExpr
var x = e.Name (ident x 1)

abbrev number : ℕ → e.CExpr
number n = e.Literal (record { kind = I32; value = n; place = place 5 })

abbrev bin : binary.the_data → e.CExpr → e.CExpr → e.CExpr
bin o a b = e.Binary' tt (e.more_of-CExpr a e.end_of-CExpr) o (place 2) tt (e.more_of-CExpr b e.end_of-CExpr)

abbrev assign : e.CExpr → e.CExpr → e.CExpr
assign a b = e.Assign' tt (e.more_of-CExpr a e.end_of-CExpr) None (place 3) tt (e.more_of-CExpr b e.end_of-CExpr)

abbrev call : e.CExpr → e.CExpr → e.CExpr
call f a = e.Call' tt (e.more_of-CExpr f e.end_of-CExpr) (place 7) (tt ∷ []) (e.more_of-CExpr a e.end_of-CExpr)

abbrev call_two : e.CExpr → e.CExpr → e.CExpr → e.CExpr
call_two f a b = e.Call' tt (e.more_of-CExpr f e.end_of-CExpr) (place 7) (tt ∷ tt ∷ []) (e.more_of-CExpr a (e.more_of-CExpr b e.end_of-CExpr))

-- a function of one parameter
abbrev function_type : CType → CType → CType
function_type t r = Function' (tt ∷ []) (more_of-CType t end_of-CType) tt (more_of-CType r end_of-CType)

abbrev long : CType
long = Int I64

-- temporaries: int x, long n, int pointer p, struct pointer q; functions: long f(long), void v(int)
abbrev scopes : Scopes
scopes = ((codes "x", m.Variable (codes "x") int_type kept.Temporary) ∷ (codes "n", m.Variable (codes "n") long kept.Temporary)
    ∷ (codes "p", m.Variable (codes "p") (pointer_to int_type) kept.Temporary) ∷ (codes "q", m.Variable (codes "q") (pointer_to (Struct (codes "s"))) kept.Temporary) ∷ [])
    ∷ ((codes "f", m.Function (function_type long long)) ∷ (codes "v", m.Function (function_type int_type Void))
    ∷ (codes "a", m.Variable (codes "a") (array_of int_type 2) kept.Global) ∷ []) ∷ []

-- struct s { int first; };
abbrev tags : Tags
tags = record { structs = (codes "s", Some (record { name = codes "first"; ty = int_type } ∷ [])) ∷ []; completed = [] }

abbrev start : Progress
start = first_progress tags []

abbrev statements : Result (List Stmt × Progress) Refusal → Result (List Stmt) Refusal
statements (Ok r) = Ok r.0
statements (Err refusal) = Err refusal

abbrev x : Expr
x = Temp (codes "x") int_type

abbrev n : Expr
n = Temp (codes "n") long

abbrev p : Expr
p = Temp (codes "p") (pointer_to int_type)

abbrev q : Expr
q = Temp (codes "q") (pointer_to (Struct (codes "s")))

-- x = f(x);
call_with_casts : statements (effect scopes (assign (var (codes "x")) (call (var (codes "f")) (var (codes "x")))) start)
    ≡ Ok (Call (Some (pulled_name 1)) (Var bound.File (codes "f") (function_type long long)) (cast_of x long ∷ [])
    ∷ Set (codes "x") (cast_of (Temp (pulled_name 1) long) int_type) ∷ [])
call_with_casts = refl

-- x = v(x);
no_result : statements (effect scopes (assign (var (codes "x")) (call (var (codes "v")) (var (codes "x")))) start) ≡ Err (ill_typed (place 3))
no_result = refl

-- f(x, u);
too_many : statements (effect scopes (call_two (var (codes "f")) (var (codes "x")) (var (codes "u"))) start) ≡ Err (ill_typed (place 7))
too_many = refl

-- x = n + x;
usual_kind : statements (effect scopes (assign (var (codes "x")) (bin (binary.Int op.Add) (var (codes "n")) (var (codes "x")))) start)
    ≡ Ok (Set (codes "x") (cast_of (binary_of op.Add n (cast_of x long) long) int_type) ∷ [])
usual_kind = refl

-- x = p == 0;
null_pointer : statements (effect scopes (assign (var (codes "x")) (bin (binary.Int op.Eq) (var (codes "p")) (number 0))) start)
    ≡ Ok (Set (codes "x") (binary_of op.Eq p (cast_of zero (pointer_to int_type)) int_type) ∷ [])
null_pointer = refl

-- p = a;
array_value : statements (effect scopes (assign (var (codes "p")) (var (codes "a"))) start) ≡ Ok (Set (codes "p") (Var bound.File (codes "a") (array_of int_type 2)) ∷ [])
array_value = refl

-- p = q;
another_pointer : statements (effect scopes (assign (var (codes "p")) (var (codes "q"))) start) ≡ Err (ill_typed (place 3))
another_pointer = refl

abbrev arrow : e.CExpr → List ℕ → e.CExpr
arrow a name = e.Member' tt (e.more_of-CExpr a e.end_of-CExpr) Arrow (place 8) (ident name 9)

-- x = q->first;
field_read : statements (effect scopes (assign (var (codes "x")) (arrow (var (codes "q")) (codes "first"))) start)
    ≡ Ok (Set (pulled_name 1) (field_of (deref_of q (Struct (codes "s"))) (codes "first") int_type) ∷ Set (codes "x") (Temp (pulled_name 1) int_type) ∷ [])
field_read = refl

-- x = q->second;
no_field : statements (effect scopes (assign (var (codes "x")) (arrow (var (codes "q")) (codes "second"))) start) ≡ Err (undeclared (ident (codes "second") 9))
no_field = refl

-- x = p->first;
no_struct : statements (effect scopes (assign (var (codes "x")) (arrow (var (codes "p")) (codes "first"))) start) ≡ Err (ill_typed (place 8))
no_struct = refl

-- Initial data, whose `=` stands at 4 and whose brace at 6.

abbrev value : Result (Initial × Tags) Refusal → Result Initial Refusal
value (Ok r) = Ok r.0
value (Err refusal) = Err refusal

abbrev item : ℕ → i.Initialiser
item k = i.Constant (constant.Literal false (record { kind = I32; value = k; place = place 5 }))

abbrev unknown : i.Initialiser
unknown = i.Constant (constant.Name (ident (codes "u") 8))

-- int y = {1};
braces : value (contents scopes (place 4) int_type (i.List' (place 6) (tt ∷ []) (i.more_of-Initialiser (item 1) i.end_of-Initialiser)) tags) ≡ Err (ill_typed (place 4))
braces = refl

-- int y[1] = {1, u};
one_too_many : value (contents scopes (place 4) (array_of int_type 1) (i.List' (place 6) (tt ∷ tt ∷ []) (i.more_of-Initialiser (item 1) (i.more_of-Initialiser unknown i.end_of-Initialiser))) tags)
    ≡ Err (ill_typed (place 6))
one_too_many = refl

-- int y[2][2] = {1, 2};
no_braces : value (contents scopes (place 4) (array_of (array_of int_type 2) 2) (i.List' (place 6) (tt ∷ tt ∷ []) (i.more_of-Initialiser (item 1) (i.more_of-Initialiser (item 2) i.end_of-Initialiser))) tags)
    ≡ Err (ill_typed (place 6))
no_braces = refl

-- int *y = &a[1];
element : value (contents scopes (place 4) (pointer_to int_type) (i.Constant (constant.Element (ident (codes "a") 8) (place 9) (record { kind = I32; value = 1; place = place 10 }))) tags)
    ≡ Ok (initial.Element (codes "a") 4)
element = refl

-- int *y = 0;
null : value (contents scopes (place 4) (pointer_to int_type) (item 0) tags) ≡ Ok initial.Null
null = refl
