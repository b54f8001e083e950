-- What `forward` makes of a goal: the goals in its place, or the first condition that fails.
use Rattle.std.specs.Prelude.{◌^◌, nat_lt, List, [], ◌∷◌, ◌++◌, Some, Result, Ok, Err, if◌then◌else◌}
use Rattle.floyd_text.specs.declared.code.Code.TheVariants.{UnknownTemp}
use Rattle.floyd_text.specs.declared.refusal.No.{No}
use Rattle.floyd_text.specs.declared.refusal.Shown.TheVariants.{Name}
use Rattle.floyd_int.specs.declared.kinds.Value.TheVariants.{Vint as VintValue}
use Rattle.floyd_clight.specs.declared.syntax.Expr.{Expr, Const, Temp}
use Rattle.floyd_clight.specs.declared.syntax.Stmt.{Stmt, Set, Return as ReturnStmt}
use Rattle.floyd_stub_machine.specs.Evaluation.{Ident}
use Rattle.floyd_stub_assert.specs.declared.term.Term.{Term, Number, Vint}
use Rattle.floyd_stub_assert.specs.LocalTerms.{Locals, term_of, with_local}
use Rattle.floyd_stub_assert.specs.declared.formula.Formula.{Equal, Hasty}
use Rattle.floyd_stub_assert.specs.declared.assertion.Assertion.{Assertion}
use Rattle.floyd_stub_goal.specs.declared.goal.Context.{Context}
use Rattle.floyd_stub_goal.specs.declared.goal.Exits.{Exits}
use Rattle.floyd_stub_goal.specs.declared.goal.Goal.{Goal}
use Rattle.floyd_stub_goal.specs.declared.goal.Goal.TheVariants.{Run, Entail}
use Rattle.floyd_stub_goal.specs.Sides.{wrong_goal, and_then, or_refused, kept, conjunction, side_goals, with_hypotheses, run_goal}

abbrev pub no_temp : Ident → No
no_temp x = record { code = UnknownTemp; shown = Name x }

-- the term of an expression: an int constant's number, or a temporary's term; no other is built yet
abbrev pub evaluate : Locals → Expr → Result Term No
evaluate locals (Const (VintValue n) t) = if nat_lt n (2 ^ 32) then Ok (Vint (Number n)) else Err wrong_goal
evaluate locals (Temp x t) = or_refused (no_temp x) (term_of x locals)
evaluate locals e = Err wrong_goal

abbrev pub with_source_local : Assertion → Ident → Term → Assertion
with_source_local a x t = record { prop = a.prop; local = with_local x t a.local; sep = a.sep }

-- the postcondition with the equation of the returned value
abbrev pub returned_post : Exits → Term → Assertion
returned_post exits v = record { prop = exits.ret.post.prop ++ Equal v exits.ret.value ∷ []; local = exits.ret.post.local; sep = exits.ret.post.sep }

-- a set: what is left runs with the temporary set
abbrev pub forward_set : Context → Assertion → Exits → List Stmt → Ident → Term → List Goal
forward_set context source exits rest x t = run_goal context (with_source_local source x t) rest exits ∷ []

-- a return: the value is one of the result's type, and the postcondition holds of it
abbrev pub forward_return : Context → Assertion → Exits → Term → List Goal
forward_return context source exits v =
    let sides = kept (Hasty exits.ret.result v ∷ []) in
    side_goals context (conjunction sides)
    ++ Entail (record { context = with_hypotheses context sides; source = source; target = returned_post exits v }) ∷ []

abbrev pub forward : Context → Assertion → Exits → List Stmt → Result (List Goal) No
forward context source exits (Set x e ∷ rest) = and_then (evaluate source.local e) (λ t. Ok (forward_set context source exits rest x t))
forward context source exits (ReturnStmt (Some e) ∷ rest) = and_then (evaluate source.local e) (λ v. Ok (forward_return context source exits v))
forward context source exits rest = Err wrong_goal

-- the row of `forward`
abbrev pub forward_row : Goal → Result (List Goal) No
forward_row (Run r) = forward r.context r.source r.exits r.rest
forward_row goal = Err wrong_goal
