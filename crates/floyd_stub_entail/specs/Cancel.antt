-- What `cancel` makes of a goal: the goals in its place, or the first condition that fails.
use Rattle.std.specs.Prelude.{Bool, true, false, List, [], ◌∷◌, ◌++◌, Result, Ok, Err, if◌then◌else◌}
use Rattle.floyd_text.specs.declared.code.Code.TheVariants.{LocalMissing, PartLeft}
use Rattle.floyd_text.specs.declared.refusal.No.{No}
use Rattle.floyd_text.specs.declared.refusal.Shown.TheVariants.{Name, Part}
use Rattle.floyd_stub_machine.specs.Evaluation.{Ident}
use Rattle.floyd_stub_assert.specs.declared.term.Term.{Term}
use Rattle.floyd_stub_assert.specs.LocalTerms.{Locals, term_of}
use Rattle.floyd_stub_assert.specs.declared.formula.Formula.{Formula, Equal}
use Rattle.floyd_stub_assert.specs.declared.assertion.Sep.{Sep}
use Rattle.floyd_stub_assert.specs.declared.assertion.Sep.TheVariants.{TT}
use Rattle.floyd_stub_assert.specs.declared.assertion.Assertion.{Assertion}
use Rattle.floyd_stub_goal.specs.declared.goal.Context.{Context}
use Rattle.floyd_stub_goal.specs.declared.goal.Goal.{Goal}
use Rattle.floyd_stub_goal.specs.declared.goal.Goal.TheVariants.{Entail}
use Rattle.floyd_stub_goal.specs.Sides.{wrong_goal, and_then, or_refused, kept, conjunction, side_goals}

abbrev pub no_local : Ident → No
no_local x = record { code = LocalMissing; shown = Name x }

abbrev pub part_left : No
part_left = record { code = PartLeft; shown = Part 1 }

-- that the source's term for a temporary is this one
abbrev pub equation : Locals → Ident → Term → Result Formula No
equation source x t = and_then (or_refused (no_local x) (term_of x source)) (λ s. Ok (Equal s t))

abbrev pub and_more : Result Formula No → Result (List Formula) No → Result (List Formula) No
and_more (Err e) fs = Err e
and_more (Ok f) (Err e) = Err e
and_more (Ok f) (Ok fs) = Ok (f ∷ fs)

-- for each temporary of the target's LOCAL, that the source's term for it is the target's
abbrev pub equations : Locals → Locals → Result (List Formula) No
equations source [] = Ok []
equations source (l ∷ ls) = and_more (equation source l.0 l.1) (equations source ls)

-- the source has a part that the target has not
abbrev pub has_left : List Sep → List Sep → Bool
has_left source (TT ∷ ps) = false
has_left [] [] = false
has_left (p ∷ ps) [] = true

abbrev pub cancel : Context → Assertion → Assertion → Result (List Goal) No
cancel context source target =
    and_then (equations source.local target.local)
    (λ es. if has_left source.sep target.sep then Err part_left else Ok (side_goals context (conjunction (kept (target.prop ++ es)))))

-- the row of `cancel`
abbrev pub cancel_row : Goal → Result (List Goal) No
cancel_row (Entail e) = cancel e.context e.source e.target
cancel_row goal = Err wrong_goal
