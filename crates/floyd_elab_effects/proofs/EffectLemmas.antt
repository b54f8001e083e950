-- Effects and right sides as the program sees them.
use Rattle.std.proofs.Common.{◌≡◌, ℕ, List, [], ◌∷◌, ◌++◌, refl, ap, sym, ◌∙◌, subst}
use denote.Hole.Carrier.{hidden}
use Rattle.std.specs.Prelude.{Result, Ok, Err, Option, Some, None}
use Rattle.std.proofs.lemmas.List.{append_assoc}
use Rattle.floyd_text.specs.declared.place.Place.{Place}
use Rattle.floyd_text.specs.declared.refusal.Refusal.{Refusal}
use Rattle.floyd_text.specs.declared.refusal.Halt.{Halt}
use Rattle.floyd_text.specs.Gives.{Stops}
use Rattle.floyd_int.specs.declared.kinds.IntOp.{IntOp}
use Rattle.floyd_cparse_trees.specs.declared.expressions.Prefix.{Prefix}
use Rattle.floyd_cparse_trees.specs.declared.expressions.Prefix.TheVariants as before
use Rattle.floyd_cparse_trees.specs.declared.expressions.StepOp.{StepOp}
use Rattle.floyd_cparse_trees.specs.declared.expressions.CExpr.{CExpr, Prefixed, PostfixStep, Call, Assign}
use Rattle.floyd_cparse_trees.specs.declared.expressions.CExpr.TheBlock.{shape-the_row-CExpr-0, hidden-the_row-CExpr-0, shape-the_row-CExpr-1, hidden-the_row-CExpr-1}
use Rattle.floyd_elab_names.specs.Refusing.{and_then, pure}
use Rattle.floyd_elab_names.specs.Scopes.{Scopes}
use Rattle.floyd_ctyping.specs.Operators as o
use Rattle.floyd_clight.specs.declared.syntax.Expr.{Expr, Temp}
use Rattle.floyd_clight.specs.declared.syntax.Stmt as st
use Rattle.floyd_clight.specs.declared.syntax.Stmt.{Stmt}
use Rattle.floyd_ctyping.specs.declared.operand.Operand.{Operand}
use Rattle.floyd_elab_expressions.specs.declared.progress.Progress.{Progress}
use Rattle.floyd_elab_expressions.specs.declared.translation.Translation.{Translation}
use Rattle.floyd_elab_expressions.specs.Clight.{Translated}
use Rattle.floyd_elab_expressions.specs.Progress.{Elaborating, pull}
use Rattle.floyd_elab_expressions.specs.Expressions.{with_prefixes, expression}
use Rattle.floyd_elab_expressions.specs.Behind.{behind, onto, put_behind}
use Rattle.floyd_elab_effects.specs.Effects.{Calling, call_result, step_effect, right_side, assignment, effect}
use Rattle.floyd_elab_effects.specs.CallClauses.{call_of, call_behind, on_target, prefix_step}
use Rattle.floyd_elab_expressions.proofs.Chains.{goes, stops}
use Rattle.floyd_elab_effects.proofs.CallLemmas.{call_row}
use Rattle.floyd_elab_effects.proofs.Leading.{regrouped, effect_goes, effect_stops, leading_assign, leading_stepped}

pub effect_of_assign : (s : Scopes) (target : CExpr) (op : Option IntOp) (place : Place) (r : CExpr) (p : Progress) → effect s (Assign target op place r) p ≡ and_then (expression s target p) (on_target place (assignment s place op r))
unfolding shape-the_row-CExpr-0 hidden-the_row-CExpr-0 hidden
effect_of_assign s target op place r p = regrouped (expression s target p) _ _

pub effect_of_step : (s : Scopes) (e : CExpr) (op : StepOp) (place : Place) (p : Progress) → effect s (PostfixStep e op place) p ≡ and_then (expression s e p) (step_effect op place)
unfolding shape-the_row-CExpr-0 hidden-the_row-CExpr-0 hidden
effect_of_step s e op place p = refl

pub effect_of_prefix : (s : Scopes) (op : StepOp) (place : Place) (rest : List Prefix) (e : CExpr) (p : Progress) → effect s (Prefixed (before.Step op place ∷ rest) e) p ≡ and_then (with_prefixes s rest (expression s e) p) (step_effect op place)
unfolding shape-the_row-CExpr-0 hidden-the_row-CExpr-0 hidden
effect_of_prefix s op place rest e p = refl

pub assign_goes : (s : Scopes) (target : CExpr) (op : Option IntOp) (place : Place) (r : CExpr) (there : List Stmt) (a : Translated) (p q : Progress) → onto there (expression s target p) ≡ Ok (a, q) → put_behind there (effect s (Assign target op place r) p) ≡ on_target place (assignment s place op r) a q
assign_goes s target op place r there a p q e =
    ap (put_behind there) (effect_of_assign s target op place r p)
    ∙ effect_goes (expression s target p) (on_target place (assignment s place op r)) (leading_assign s place op r) there a q e

pub assign_stops : (s : Scopes) (target : CExpr) (op : Option IntOp) (place : Place) (r : CExpr) (there : List Stmt) (p : Progress) (h : Halt) → Stops h (onto there (expression s target p)) → Stops h (put_behind there (effect s (Assign target op place r) p))
assign_stops s target op place r there p h e =
    subst (λ x. Stops h (put_behind there x)) (sym (effect_of_assign s target op place r p))
    (effect_stops (expression s target p) (on_target place (assignment s place op r)) (leading_assign s place op r) there h e)

pub postfix_goes : (s : Scopes) (e : CExpr) (op : StepOp) (place : Place) (there : List Stmt) (a : Translated) (p q : Progress) → onto there (expression s e p) ≡ Ok (a, q) → put_behind there (effect s (PostfixStep e op place) p) ≡ step_effect op place a q
postfix_goes s e op place there a p q f =
    ap (put_behind there) (effect_of_step s e op place p)
    ∙ effect_goes (expression s e p) (step_effect op place) (leading_stepped op place) there a q f

pub postfix_stops : (s : Scopes) (e : CExpr) (op : StepOp) (place : Place) (there : List Stmt) (p : Progress) (h : Halt) → Stops h (onto there (expression s e p)) → Stops h (put_behind there (effect s (PostfixStep e op place) p))
postfix_stops s e op place there p h f =
    subst (λ x. Stops h (put_behind there x)) (sym (effect_of_step s e op place p))
    (effect_stops (expression s e p) (step_effect op place) (leading_stepped op place) there h f)

pub prefix_goes : (s : Scopes) (op : StepOp) (place : Place) (rest : List Prefix) (e : CExpr) (there : List Stmt) (a : Translated) (p q : Progress) → onto there (with_prefixes s rest (expression s e) p) ≡ Ok (a, q) → put_behind there (prefix_step s op place rest e p) ≡ step_effect op place a q
prefix_goes s op place rest e there a p q f = effect_goes (with_prefixes s rest (expression s e) p) (step_effect op place) (leading_stepped op place) there a q f

pub prefix_stops : (s : Scopes) (op : StepOp) (place : Place) (rest : List Prefix) (e : CExpr) (there : List Stmt) (p : Progress) (h : Halt) → Stops h (onto there (with_prefixes s rest (expression s e) p)) → Stops h (put_behind there (prefix_step s op place rest e p))
prefix_stops s op place rest e there p h f = effect_stops (with_prefixes s rest (expression s e) p) (step_effect op place) (leading_stepped op place) there h f

-- A call without its result.

abbrev pub alone : Calling → Elaborating (List Stmt)
alone call = pure (call.before ++ st.Call None call.callee call.arguments ∷ [])

pub effect_of_call : (s : Scopes) (f : CExpr) (place : Place) (arguments : List CExpr) (p : Progress) → effect s (Call f place arguments) p ≡ and_then (call_of s f place arguments p) alone
unfolding shape-the_row-CExpr-0 hidden-the_row-CExpr-0 shape-the_row-CExpr-1 hidden-the_row-CExpr-1 hidden
effect_of_call s f place arguments p = ap (λ (r : Result (Calling × Progress) Refusal). and_then r alone) (call_row s f place arguments p)

alone_leads : (there : List Stmt) (r : Result (Calling × Progress) Refusal) → put_behind there (and_then r alone) ≡ and_then (call_behind there r) alone
alone_leads there (Ok r) = ap (λ (l : List Stmt). let done : Result (List Stmt × Progress) Refusal = Ok (l, r.1) in done) (sym (append_assoc there r.0.before (st.Call None r.0.callee r.0.arguments ∷ [])))
alone_leads there (Err refusal) = refl

pub alone_goes : (s : Scopes) (f : CExpr) (place : Place) (arguments : List CExpr) (there : List Stmt) (call : Calling) (p q : Progress) → call_behind there (call_of s f place arguments p) ≡ Ok (call, q) → put_behind there (effect s (Call f place arguments) p) ≡ Ok (call.before ++ st.Call None call.callee call.arguments ∷ [], q)
alone_goes s f place arguments there call p q e =
    ap (put_behind there) (effect_of_call s f place arguments p)
    ∙ alone_leads there (call_of s f place arguments p)
    ∙ goes (call_behind there (call_of s f place arguments p)) alone call q e

pub alone_stops : (s : Scopes) (f : CExpr) (place : Place) (arguments : List CExpr) (there : List Stmt) (p : Progress) (h : Halt) → Stops h (call_behind there (call_of s f place arguments p)) → Stops h (put_behind there (effect s (Call f place arguments) p))
alone_stops s f place arguments there p h e =
    subst (Stops h) (sym (ap (put_behind there) (effect_of_call s f place arguments p) ∙ alone_leads there (call_of s f place arguments p)))
    (stops h (call_behind there (call_of s f place arguments p)) alone e)

-- A call with its result.

pub right_side_of_call : (s : Scopes) (f : CExpr) (place : Place) (arguments : List CExpr) (p : Progress) → right_side s (Call f place arguments) p ≡ and_then (call_of s f place arguments p) (call_result s)
unfolding shape-the_row-CExpr-0 hidden-the_row-CExpr-0 shape-the_row-CExpr-1 hidden-the_row-CExpr-1 hidden
right_side_of_call s f place arguments p = ap (λ (r : Result (Calling × Progress) Refusal). and_then r (call_result s)) (call_row s f place arguments p)

result_leads : (s : Scopes) (there : List Stmt) (r : Result (Calling × Progress) Refusal) → onto there (and_then r (call_result s)) ≡ and_then (call_behind there r) (call_result s)
result_leads s there (Ok r) = by (pull r.0.result r.1)
  where
    by : (y : Result (List ℕ × Progress) Refusal) →
        onto there (and_then y (λ x. pure (let made : Translated = record { before = r.0.before ++ st.Call (Some x) r.0.callee r.0.arguments ∷ []; expr = Temp x r.0.result; operand = o.value_of_type r.0.result } in made)))
        ≡ and_then y (λ x. pure (let made : Translated = record { before = (there ++ r.0.before) ++ st.Call (Some x) r.0.callee r.0.arguments ∷ []; expr = Temp x r.0.result; operand = o.value_of_type r.0.result } in made))
    by (Ok y) = ap (λ (l : List Stmt). let done : Result (Translated × Progress) Refusal = Ok (record { before = l; expr = Temp y.0 r.0.result; operand = o.value_of_type r.0.result }, y.1) in done) (sym (append_assoc there r.0.before (st.Call (Some y.0) r.0.callee r.0.arguments ∷ [])))
    by (Err refusal) = refl
result_leads s there (Err refusal) = refl

pub result_goes : (s : Scopes) (f : CExpr) (place : Place) (arguments : List CExpr) (there : List Stmt) (call : Calling) (p q : Progress) → call_behind there (call_of s f place arguments p) ≡ Ok (call, q) → onto there (right_side s (Call f place arguments) p) ≡ call_result s call q
result_goes s f place arguments there call p q e =
    ap (onto there) (right_side_of_call s f place arguments p)
    ∙ result_leads s there (call_of s f place arguments p)
    ∙ goes (call_behind there (call_of s f place arguments p)) (call_result s) call q e

pub result_stops : (s : Scopes) (f : CExpr) (place : Place) (arguments : List CExpr) (there : List Stmt) (p : Progress) (h : Halt) → Stops h (call_behind there (call_of s f place arguments p)) → Stops h (onto there (right_side s (Call f place arguments) p))
result_stops s f place arguments there p h e =
    subst (Stops h) (sym (ap (onto there) (right_side_of_call s f place arguments p) ∙ result_leads s there (call_of s f place arguments p)))
    (stops h (call_behind there (call_of s f place arguments p)) (call_result s) e)

-- what was translated, by its parts
pub translated_as : (before : List Stmt) (a : Translation) (e : Expr) (t : Operand) → a.expr ≡ e → a.operand ≡ t → behind before a ≡ record { before = before; expr = e; operand = t }
translated_as before a e t same other =
    ap (λ (x : Expr). let made : Translated = record { before = before; expr = x; operand = a.operand } in made) same
    ∙ ap (λ (y : Operand). let made : Translated = record { before = before; expr = e; operand = y } in made) other

pub result_made : (s : Scopes) (call : Calling) (x : List ℕ) (p q : Progress) (out : List Stmt) (a : Translation) → pull call.result p ≡ Ok (x, q) → out ≡ call.before ++ st.Call (Some x) call.callee call.arguments ∷ [] → a.expr ≡ Temp x call.result → a.operand ≡ o.value_of_type call.result → call_result s call p ≡ Ok (behind out a, q)
result_made s call x p q out a e is same other =
    goes (pull call.result p) (λ y. pure {S = Progress} (let made : Translated = record { before = call.before ++ st.Call (Some y) call.callee call.arguments ∷ []; expr = Temp y call.result; operand = o.value_of_type call.result } in made)) x q e
    ∙ ap (λ (l : List Stmt). let done : Result (Translated × Progress) Refusal = Ok (record { before = l; expr = Temp x call.result; operand = o.value_of_type call.result }, q) in done) (sym is)
    ∙ ap (λ (b : Translated). let done : Result (Translated × Progress) Refusal = Ok (b, q) in done) (sym (translated_as out a (Temp x call.result) (o.value_of_type call.result) same other))

pub result_refused : (s : Scopes) (call : Calling) (p : Progress) (h : Halt) → Stops h (pull call.result p) → Stops h (call_result s call p)
result_refused s call p h e = stops h (pull call.result p) (λ y. pure {S = Progress} (let made : Translated = record { before = call.before ++ st.Call (Some y) call.callee call.arguments ∷ []; expr = Temp y call.result; operand = o.value_of_type call.result } in made)) e
