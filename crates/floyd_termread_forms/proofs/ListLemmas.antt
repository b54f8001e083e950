-- Lists that are judged item by item behind others, and that are made from their end.
use Rattle.std.proofs.Common.{◌≡◌, ℕ, zero, suc, Bool, ◌+◌, ◌<◌, List, [], ◌∷◌, ◌++◌, drop, length, get_or, Result, Ok, Err, refl, ap, sym, subst, ◌∙◌, append_assoc}
use Rattle.std.proofs.lemmas.List.{drop_more}
use Rattle.floyd_text.specs.declared.place.Place.{Place}
use Rattle.floyd_tree.specs.Formulas.{PlainFormula}
use Rattle.floyd_termread_trees.specs.declared.written.Binder.{Binder}
use Rattle.floyd_termread_trees.specs.declared.written.Prefix.{Prefix}
use Rattle.floyd_termread_wants.specs.declared.stop.JudgeStop.{JudgeStop}
use Rattle.floyd_termread_wants.specs.declared.stop.JudgeStop.TheVariants.{Refused, CutOff, Memory}
use Rattle.std.specs.Result.{IsErrAnd}
use Rattle.floyd_termread_wants.specs.Judging.{Judged, ◌>>=◌, JudgeStops, Judges}
use Rattle.floyd_termread_wants.proofs.JudgedLists.{stops, same_stop}
use Rattle.floyd_termread_forms.specs.declared.frames.Frame.{Frame}
use Rattle.floyd_termread_forms.specs.FrameClauses.{behind}
use Rattle.floyd_termread_forms.specs.Frames.{binder_frame, binder_frames, prefix_frames, frames, framed, wrapped}

pub behind_one : {A : Type 0} (all : List A) (x : A) (rest : Judged (List A)) → behind (all ++ x ∷ []) rest ≡ behind all (rest >>= λ xs. Ok (x ∷ xs))
behind_one all x (Ok xs) = ap (λ (ys : List _). Ok ys) (append_assoc all (x ∷ []) xs)
behind_one all x (Err stop) = refl

behind_all : {A : Type 0} (all xs : List A) (rest : Judged (List A)) → behind (all ++ xs) rest ≡ behind all (rest >>= λ more. Ok (xs ++ more))
behind_all all xs (Ok ys) = ap (λ (zs : List _). Ok zs) (append_assoc all xs ys)
behind_all all xs (Err stop) = refl

pub behind_stops : {A : Type 0} (stop : JudgeStop) (all : List A) (rest : Judged (List A)) → JudgeStops stop rest → JudgeStops stop (behind all rest)
behind_stops (Refused refusal) all rest e = ap (behind all) e
behind_stops CutOff all rest e = ap (behind all) e
behind_stops Memory all rest e = tt

-- what stops behind others stops by itself
stops_behind : {A : Type 0} (stop : JudgeStop) (all : List A) (r : Judged (List A)) → JudgeStops stop (behind all r) → JudgeStops stop r
stops_behind (Refused refusal) all (Ok xs) e = absurd cc
stops_behind (Refused refusal) all (Err s) e = cc
stops_behind CutOff all (Ok xs) e = absurd cc
stops_behind CutOff all (Err s) e = cc
stops_behind Memory all r e = tt

ok_is : {A : Type 0} (r : Judged A) (x y : A) → r ≡ Ok x → r ≡ Ok y → x ≡ y
ok_is r x y p q = cc

-- an answer that stops
pub halts : {X Y : Type 0} (view : X → Y) (r : Result X JudgeStop) (stop : JudgeStop) (w : Judged Y) → IsErrAnd r (λ x. x ≡ stop) → JudgeStops stop w → Judges view r w
halts view (Ok a) stop w e h = absurd e
halts view (Err x) stop w e h = subst (λ (s : JudgeStop). JudgeStops s w) (sym e) h

-- the next binder of a quantifier
module _ (all : Bool) (place : Place) (put : List Frame) (rest more : List Binder) (one : Binder) (total : Judged (List Frame)) (is : rest ≡ one ∷ more) (done : behind put (binder_frames all place rest) ≡ total) where
  rest_binders : Frame → Judged (List Frame)
  rest_binders x = binder_frames all place more >>= λ xs. Ok (x ∷ xs)

  binder_here : behind put (binder_frame all place one >>= rest_binders) ≡ total
  unfolding rest_binders
  binder_here = sym (ap (λ (bs : List Binder). behind put (binder_frames all place bs)) is) ∙ done

  pub binder_stops : (stop : JudgeStop) → JudgeStops stop (binder_frame all place one) → JudgeStops stop total
  binder_stops stop h = same_stop stop _ _ binder_here (behind_stops stop put _ (stops stop _ rest_binders h))

  pub binder_next : (x : Frame) (next : List Frame) → binder_frame all place one ≡ Ok x → next ≡ put ++ x ∷ [] → behind next (binder_frames all place more) ≡ total
  unfolding rest_binders
  binder_next x next read next_is =
      ap (λ (fs : List Frame). behind fs (binder_frames all place more)) next_is
      ∙ behind_one put x (binder_frames all place more)
      ∙ sym (ap (λ (r : Judged Frame). behind put (r >>= rest_binders)) read)
      ∙ binder_here

-- the next of operators
module _ (put : List Frame) (rest more : List Prefix) (one : Prefix) (total : Judged (List Frame)) (is : rest ≡ one ∷ more) (done : behind put (frames rest) ≡ total) where
  rest_prefixes : List Frame → Judged (List Frame)
  rest_prefixes xs = frames more >>= λ ys. Ok (xs ++ ys)

  prefix_here : behind put (prefix_frames one >>= rest_prefixes) ≡ total
  unfolding rest_prefixes
  prefix_here = sym (ap (λ (ps : List Prefix). behind put (frames ps)) is) ∙ done

  pub prefix_stops : (stop : JudgeStop) → JudgeStops stop (behind put (prefix_frames one)) → JudgeStops stop total
  prefix_stops stop h = same_stop stop _ _ prefix_here (behind_stops stop put _ (stops stop _ rest_prefixes (stops_behind stop put (prefix_frames one) h)))

  put_more : (r : Judged (List Frame)) (next : List Frame) → behind put r ≡ Ok next → behind next (frames more) ≡ behind put (r >>= rest_prefixes)
  unfolding rest_prefixes
  put_more (Ok xs) next e = ap (λ (fs : List Frame). behind fs (frames more)) (sym (ok_is (behind put (Ok xs)) (put ++ xs) next refl e)) ∙ behind_all put xs (frames more)
  put_more (Err s) next e = absurd cc

  pub prefix_next : (next : List Frame) → behind put (prefix_frames one) ≡ Ok next → behind next (frames more) ≡ total
  prefix_next next e = put_more (prefix_frames one) next e ∙ prefix_here

-- what stops a rest of the operators stops all
wrapped_all : (stop : JudgeStop) (x : PlainFormula) (j : ℕ) (fs : List Frame) → JudgeStops stop (wrapped (drop j fs) x) → JudgeStops stop (wrapped fs x)
wrapped_all stop x zero fs h = h
wrapped_all stop x (suc j) [] h = h
wrapped_all stop x (suc j) (f ∷ fs) h = stops stop (wrapped fs x) (framed f) (wrapped_all stop x j fs h)

pub wrapped_stop : (stop : JudgeStop) (x : PlainFormula) (fs : List Frame) (k j : ℕ) (one : Frame) (y : PlainFormula) → j + 1 ≡ k → j < length fs → one ≡ get_or fs j one → wrapped (drop k fs) x ≡ Ok y
    → JudgeStops stop (framed one y) → JudgeStops stop (wrapped fs x)
wrapped_stop stop x fs k j one y step within is so_far h =
    wrapped_all stop x j fs
    (same_stop stop _ _
    (sym (ap (λ (r : Judged PlainFormula). r >>= framed one) (ap (λ n. wrapped (drop n fs) x) step ∙ so_far))
    ∙ sym (ap (λ (v : List Frame). wrapped v x) (drop_more fs j one within ∙ ap (λ (v : Frame). v ∷ drop (j + 1) fs) (sym is))))
    h)
