-- Expressions that are no effect, and right sides that are no calls.
use Rattle.std.proofs.Common.{◌≡◌, List, [], ◌∷◌, length, refl, ap, arith}
use denote.Hole.Carrier.{hidden}
use Rattle.std.specs.Prelude.{Result, Ok, Option}
use Rattle.std.proofs.lemmas.List.{append-nil}
use Rattle.floyd_text.specs.declared.place.Place.{Place}
use Rattle.floyd_text.specs.declared.refusal.Refusal.{Refusal}
use Rattle.floyd_int.specs.declared.kinds.IntOp.{IntOp}
use Rattle.floyd_cparse_trees.specs.declared.types.Identifier.{Identifier}
use Rattle.floyd_cparse_trees.specs.declared.types.Literal.{Literal}
use Rattle.floyd_cparse_trees.specs.declared.types.TypeName.{TypeName}
use Rattle.floyd_cparse_trees.specs.declared.expressions.BinaryOp.{BinaryOp}
use Rattle.floyd_cparse_trees.specs.declared.expressions.MemberOp.{MemberOp}
use Rattle.floyd_cparse_trees.specs.declared.expressions.StepOp.{StepOp}
use Rattle.floyd_cparse_trees.specs.declared.expressions.PrefixOp.{PrefixOp}
use Rattle.floyd_cparse_trees.specs.declared.expressions.Prefix.{Prefix}
use Rattle.floyd_cparse_trees.specs.declared.expressions.Prefix.TheVariants as before
use Rattle.floyd_cparse_trees.specs.declared.expressions.CExpr.{CExpr, Name, Literal as LiteralOf, Parenthesised, Prefixed, SizeOf, PostfixStep, Index, Member, Binary, Conditional, Assign}
use Rattle.floyd_cparse_trees.specs.declared.expressions.CExpr.TheBlock.{shape-the_row-CExpr-0, hidden-the_row-CExpr-0}
use Rattle.floyd_clight.specs.declared.syntax.Stmt.{Stmt}
use Rattle.floyd_elab_names.specs.Scopes.{Scopes}
use Rattle.floyd_elab_expressions.specs.declared.progress.Progress.{Progress}
use Rattle.floyd_elab_expressions.specs.Behind.{put_behind}
use Rattle.floyd_elab_expressions.specs.Expressions.{rvalue}
use Rattle.floyd_elab_effects.specs.Effects.{right_side, effect}
use Rattle.floyd_elab_effects.specs.CallClauses.{prefix_step}

pub empty : {A : Type 0} (l : List A) → length l ≡ 0 → l ≡ []
empty [] e = refl
empty (x ∷ l) e = absurd (omega (arith, e))

nothing : (there : List Stmt) (p : Progress) → put_behind there (Ok ([], p)) ≡ Ok (there, p)
nothing there p = ap (λ (l : List Stmt). let done : Result (List Stmt × Progress) Refusal = Ok (l, p) in done) (append-nil there)

pub name_does : (s : Scopes) (i : Identifier) → (there : List Stmt) (p : Progress) → put_behind there (effect s (Name i) p) ≡ Ok (there, p)
name_does s i there p = nothing there p

pub literal_does : (s : Scopes) (l : Literal) → (there : List Stmt) (p : Progress) → put_behind there (effect s (LiteralOf l) p) ≡ Ok (there, p)
literal_does s l there p = nothing there p

pub parenthesised_does : (s : Scopes) (e : CExpr) → (there : List Stmt) (p : Progress) → put_behind there (effect s (Parenthesised e) p) ≡ Ok (there, p)
unfolding shape-the_row-CExpr-0 hidden-the_row-CExpr-0 hidden
parenthesised_does s e there p = nothing there p

pub size_does : (s : Scopes) (place : Place) (n : TypeName) → (there : List Stmt) (p : Progress) → put_behind there (effect s (SizeOf place n) p) ≡ Ok (there, p)
size_does s place n there p = nothing there p

pub index_does : (s : Scopes) (a : CExpr) (place : Place) (i : CExpr) → (there : List Stmt) (p : Progress) → put_behind there (effect s (Index a place i) p) ≡ Ok (there, p)
unfolding shape-the_row-CExpr-0 hidden-the_row-CExpr-0 hidden
index_does s a place i there p = nothing there p

pub member_does : (s : Scopes) (e : CExpr) (op : MemberOp) (place : Place) (field : Identifier) → (there : List Stmt) (p : Progress) → put_behind there (effect s (Member e op place field) p) ≡ Ok (there, p)
unfolding shape-the_row-CExpr-0 hidden-the_row-CExpr-0 hidden
member_does s e op place field there p = nothing there p

pub binary_does : (s : Scopes) (a : CExpr) (op : BinaryOp) (place : Place) (b : CExpr) → (there : List Stmt) (p : Progress) → put_behind there (effect s (Binary a op place b) p) ≡ Ok (there, p)
unfolding shape-the_row-CExpr-0 hidden-the_row-CExpr-0 hidden
binary_does s a op place b there p = nothing there p

pub conditional_does : (s : Scopes) (test : CExpr) (place : Place) (one other : CExpr) → (there : List Stmt) (p : Progress) → put_behind there (effect s (Conditional test place one other) p) ≡ Ok (there, p)
unfolding shape-the_row-CExpr-0 hidden-the_row-CExpr-0 hidden
conditional_does s test place one other there p = nothing there p

-- Prefixes.

pub bare_does : (s : Scopes) (e : CExpr) → (there : List Stmt) (p : Progress) → put_behind there (effect s (Prefixed [] e) p) ≡ Ok (there, p)
unfolding shape-the_row-CExpr-0 hidden-the_row-CExpr-0 hidden
bare_does s e there p = nothing there p

pub operator_does : (s : Scopes) (op : PrefixOp) (place : Place) (rest : List Prefix) (e : CExpr) → (there : List Stmt) (p : Progress) → put_behind there (effect s (Prefixed (before.Op op place ∷ rest) e) p) ≡ Ok (there, p)
unfolding shape-the_row-CExpr-0 hidden-the_row-CExpr-0 hidden
operator_does s op place rest e there p = nothing there p

pub cast_does : (s : Scopes) (n : TypeName) (place : Place) (rest : List Prefix) (e : CExpr) → (there : List Stmt) (p : Progress) → put_behind there (effect s (Prefixed (before.Cast n place ∷ rest) e) p) ≡ Ok (there, p)
unfolding shape-the_row-CExpr-0 hidden-the_row-CExpr-0 hidden
cast_does s n place rest e there p = nothing there p

pub step_does : (s : Scopes) (op : StepOp) (place : Place) (rest : List Prefix) (e : CExpr) (p : Progress) → effect s (Prefixed (before.Step op place ∷ rest) e) p ≡ prefix_step s op place rest e p
unfolding shape-the_row-CExpr-0 hidden-the_row-CExpr-0 hidden
step_does s op place rest e p = refl

-- Right sides.

pub name_valued : (s : Scopes) (i : Identifier) → (p : Progress) → right_side s (Name i) p ≡ rvalue s (Name i) p
name_valued s i p = refl

pub literal_valued : (s : Scopes) (l : Literal) → (p : Progress) → right_side s (LiteralOf l) p ≡ rvalue s (LiteralOf l) p
literal_valued s l p = refl

pub parenthesised_valued : (s : Scopes) (e : CExpr) → (p : Progress) → right_side s (Parenthesised e) p ≡ rvalue s (Parenthesised e) p
unfolding shape-the_row-CExpr-0 hidden-the_row-CExpr-0 hidden
parenthesised_valued s e p = refl

pub prefixed_valued : (s : Scopes) (prefixes : List Prefix) (e : CExpr) → (p : Progress) → right_side s (Prefixed prefixes e) p ≡ rvalue s (Prefixed prefixes e) p
unfolding shape-the_row-CExpr-0 hidden-the_row-CExpr-0 hidden
prefixed_valued s prefixes e p = refl

pub size_valued : (s : Scopes) (place : Place) (n : TypeName) → (p : Progress) → right_side s (SizeOf place n) p ≡ rvalue s (SizeOf place n) p
size_valued s place n p = refl

pub step_valued : (s : Scopes) (e : CExpr) (op : StepOp) (place : Place) → (p : Progress) → right_side s (PostfixStep e op place) p ≡ rvalue s (PostfixStep e op place) p
unfolding shape-the_row-CExpr-0 hidden-the_row-CExpr-0 hidden
step_valued s e op place p = refl

pub index_valued : (s : Scopes) (a : CExpr) (place : Place) (i : CExpr) → (p : Progress) → right_side s (Index a place i) p ≡ rvalue s (Index a place i) p
unfolding shape-the_row-CExpr-0 hidden-the_row-CExpr-0 hidden
index_valued s a place i p = refl

pub member_valued : (s : Scopes) (e : CExpr) (op : MemberOp) (place : Place) (field : Identifier) → (p : Progress) → right_side s (Member e op place field) p ≡ rvalue s (Member e op place field) p
unfolding shape-the_row-CExpr-0 hidden-the_row-CExpr-0 hidden
member_valued s e op place field p = refl

pub binary_valued : (s : Scopes) (a : CExpr) (op : BinaryOp) (place : Place) (b : CExpr) → (p : Progress) → right_side s (Binary a op place b) p ≡ rvalue s (Binary a op place b) p
unfolding shape-the_row-CExpr-0 hidden-the_row-CExpr-0 hidden
binary_valued s a op place b p = refl

pub conditional_valued : (s : Scopes) (test : CExpr) (place : Place) (one other : CExpr) → (p : Progress) → right_side s (Conditional test place one other) p ≡ rvalue s (Conditional test place one other) p
unfolding shape-the_row-CExpr-0 hidden-the_row-CExpr-0 hidden
conditional_valued s test place one other p = refl

pub assign_valued : (s : Scopes) (e : CExpr) (op : Option IntOp) (place : Place) (value : CExpr) → (p : Progress) → right_side s (Assign e op place value) p ≡ rvalue s (Assign e op place value) p
unfolding shape-the_row-CExpr-0 hidden-the_row-CExpr-0 hidden
assign_valued s e op place value p = refl
