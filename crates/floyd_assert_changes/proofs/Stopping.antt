-- What stopped a part of the work stops the whole.
use Rattle.std.proofs.Common.{◌≡◌, Bool, true, false, Ok, Err, sym, subst}
use Rattle.std.specs.Prelude.{Result, IfOk, OnOk, IfErr}
use Rattle.std.specs.Result.{IsErrAnd}
use Rattle.floyd_tree.specs.declared.stop.MakeStop.{MakeStop}
use Rattle.floyd_tree.specs.declared.stop.MakeStop.TheVariants.{IllSorted, TooLarge, Memory}
use Rattle.floyd_assert_changes.specs.FittingClauses.{StopsWhere}

pub stops_whole : (stop : MakeStop) (part whole : Bool) → (part ≡ false → whole ≡ false) → StopsWhere stop part → StopsWhere stop whole
stops_whole IllSorted part whole f h = absurd h
stops_whole TooLarge part whole f h = f h
stops_whole Memory part whole f h = tt

-- what a call answers where x should be made
abbrev pub Tells : {T : Type 0} → Result T MakeStop → T → Bool → Type 0
Tells r x fit = IfOk r (λ y. y ≡ x) × OnOk r (fit ≡ true) × IfErr r (λ stop. StopsWhere stop fit)

pub stopped : {T : Type 0} (r : Result T MakeStop) (x : T) (stop : MakeStop) (part fit : Bool) → IsErrAnd r (λ s. s ≡ stop) → (part ≡ false → fit ≡ false) → StopsWhere stop part → Tells r x fit
stopped (Ok y) x stop part fit e f h = absurd e
stopped (Err s) x stop part fit e f h = (tt, tt, subst (λ s. StopsWhere s fit) (sym e) (stops_whole stop part fit f h))
