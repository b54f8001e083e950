-- Lists that are judged item by item.
use Rattle.std.proofs.Common.{◌≡◌, List, [], ◌∷◌, ◌++◌, Result, Ok, Err, refl, ap, sym, subst, append_assoc}
use Rattle.floyd_termread_wants.specs.declared.stop.JudgeStop.{JudgeStop}
use Rattle.floyd_termread_wants.specs.declared.stop.JudgeStop.TheVariants.{Refused, CutOff, Memory}
use Rattle.floyd_termread_wants.specs.Judging.{Judged, ◌>>=◌, JudgeStops, Judges}

-- what was read so far, and what the rest gives
abbrev pub after : {A : Type 0} → List A → Judged (List A) → Judged (List A)
after so_far (Ok xs) = Ok (so_far ++ xs)
after so_far (Err stop) = Err stop

pub after_one : {A : Type 0} (all : List A) (x : A) (rest : Judged (List A)) → after (all ++ x ∷ []) rest ≡ after all (rest >>= λ xs. Ok (x ∷ xs))
after_one all x (Ok xs) = ap (λ (ys : List _). Ok ys) (append_assoc all (x ∷ []) xs)
after_one all x (Err stop) = refl

-- what stops the first step stops all
pub stops : {A B : Type 0} (stop : JudgeStop) (first : Judged A) (next : A → Judged B) → JudgeStops stop first → JudgeStops stop (first >>= next)
stops (Refused refusal) first next e = ap (λ r. r >>= next) e
stops CutOff first next e = ap (λ r. r >>= next) e
stops Memory first next e = tt

pub after_stops : {A : Type 0} (stop : JudgeStop) (all : List A) (rest : Judged (List A)) → JudgeStops stop rest → JudgeStops stop (after all rest)
after_stops (Refused refusal) all rest e = ap (after all) e
after_stops CutOff all rest e = ap (after all) e
after_stops Memory all rest e = tt

pub same_stop : {A : Type 0} (stop : JudgeStop) (a b : Judged A) → a ≡ b → JudgeStops stop a → JudgeStops stop b
same_stop stop a b e h = subst (λ (r : Judged _). JudgeStops stop r) e h

-- an answer that is that of the same judgement
pub judges_as : {X Y : Type 0} (view : X → Y) (r : Result X JudgeStop) (a b : Judged Y) → a ≡ b → Judges view r b → Judges view r a
judges_as view r a b e h = subst (λ (j : Judged _). Judges view r j) (sym e) h
