-- What follows a judgement, by what it gave.
use Rattle.std.proofs.Common.{◌≡◌, Result, Ok, Err, sym, subst}
use Rattle.std.specs.Result.{IsErrAnd}
use Rattle.floyd_termread_wants.specs.declared.stop.JudgeStop.{JudgeStop}
use Rattle.floyd_termread_wants.specs.Judging.{Judged, ◌>>=◌, JudgeStops, Judges}
use Rattle.floyd_termread_wants.proofs.JudgedLists.{judges_as, stops}

stopped : {X Y : Type 0} (view : X → Y) (r : Result X JudgeStop) (stop : JudgeStop) (w : Judged Y) → IsErrAnd r (λ x. x ≡ stop) → JudgeStops stop w → Judges view r w
stopped view (Ok a) stop w e h = absurd e
stopped view (Err x) stop w e h = subst (λ (s : JudgeStop). JudgeStops s w) (sym e) h

-- one that stops, and one that goes on
pub judges_stop : {X Y : Type 0} (view : X → Y) (r : Result X JudgeStop) (stop : JudgeStop) (total w : Judged Y) → total ≡ w → IsErrAnd r (λ x. x ≡ stop) → JudgeStops stop w → Judges view r total
judges_stop view r stop total w e is h = judges_as view r total w e (stopped view r stop w is h)

pub one_stops : {A X Y : Type 0} (view : X → Y) (r : Result X JudgeStop) (stop : JudgeStop) (total : Judged Y) (first : Judged A) (next : A → Judged Y) → total ≡ (first >>= next) → IsErrAnd r (λ x. x ≡ stop) → JudgeStops stop first
    → Judges view r total
one_stops view r stop total first next e is h = judges_stop view r stop total (first >>= next) e is (stops stop first next h)

pub one_goes : {A X Y : Type 0} (view : X → Y) (r : Result X JudgeStop) (total : Judged Y) (first : Judged A) (next : A → Judged Y) (a : A) → total ≡ (first >>= next) → first ≡ Ok a → Judges view r (next a) → Judges view r total
one_goes view r total first next a e is h =
    judges_as view r total (first >>= next) e (subst (λ (j : Judged _). Judges view r (j >>= next)) (sym is) h)
