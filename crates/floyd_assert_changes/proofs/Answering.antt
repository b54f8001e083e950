-- What the calls answer.
use Rattle.std.proofs.Common.{◌≡◌, Bool, true, Ok, Err, sym, ◌∙◌, ap, subst}
use Rattle.std.specs.Prelude.{if◌then◌else◌}
use Rattle.floyd_text.specs.Gives.{RuleStops}
use Rattle.floyd_text.specs.declared.code.Code.TheVariants.{TermTooLarge}
use Rattle.floyd_text.specs.declared.refusal.Shown.TheVariants.{Nothing}
use Rattle.floyd_tree.specs.declared.stop.MakeStop.{MakeStop}
use Rattle.floyd_tree.specs.declared.stop.MakeStop.TheVariants.{IllSorted, TooLarge, Memory}
use Rattle.floyd_assert_changes.specs.ChangesClauses.{refusal_of}
use Rattle.floyd_assert_changes.specs.FittingClauses.{StopsWhere}
use Rattle.floyd_assert_changes.specs.Substituted.{within_limits}

pub refused_is : {T : Type 0} (fit : T → Bool) (x : T) (stop : MakeStop) → StopsWhere stop (fit x) → RuleStops (refusal_of stop) (within_limits fit x)
refused_is fit x IllSorted h = absurd h
refused_is fit x TooLarge h = ap (λ b. if b then Ok x else Err (record { code = TermTooLarge; shown = Nothing })) h
refused_is fit x Memory h = tt

pub fitting_is : {T : Type 0} (fit : T → Bool) (x made : T) → made ≡ x → fit x ≡ true → within_limits fit x ≡ Ok made
fitting_is fit x made e h = ap (λ b. if b then Ok x else Err (record { code = TermTooLarge; shown = Nothing })) h ∙ ap Ok (sym e)

pub never_ill : (stop : MakeStop) (fit : Bool) → StopsWhere stop fit → ¬ (stop ≡ IllSorted)
never_ill stop fit h e = subst (λ s. StopsWhere s fit) e h
