-- The next item of a bracket.
use Rattle.std.proofs.Common.{◌≡◌, ℕ, ◌+◌, List, [], ◌∷◌, ◌++◌, map, length, length-append, Ok, ap, sym, ◌∙◌}
use Rattle.floyd_termread_groups.specs.declared.grouped.Grouped.{Grouped}
use Rattle.floyd_termread_scope.specs.Scopes.{Env}
use Rattle.floyd_termread_wants.specs.declared.stop.JudgeStop.{JudgeStop}
use Rattle.floyd_termread_wants.specs.declared.wants.Known.{Known}
use Rattle.floyd_termread_wants.specs.Judging.{Judged, ◌>>=◌, JudgeStops}
use Rattle.floyd_termread_wants.proofs.JudgedLists.{after, after_one, after_stops, stops, same_stop}
use Rattle.floyd_termread_brackets.specs.declared.slots.Goal.{Goal}
use Rattle.floyd_termread_brackets.specs.declared.slots.Part.{Part}
use Rattle.floyd_termread_brackets.specs.declared.slots.Slot.{Slot}
use Rattle.floyd_termread_brackets.specs.declared.slots.Slots.{Slots}
use Rattle.floyd_termread_brackets.specs.Slots.{goal_of, slot_at, learn_part}
use Rattle.floyd_termread_terms.specs.Brackets.{part_of, parts_of}
use Rattle.floyd_termread_terms.specs.Terms.{sense_of}

module _ (e : Env) (slots : Slots) (known : Known) (all : List Part) (rest behind : List Grouped) (one : Grouped) (total : Judged (List Part)) (is : rest ≡ one ∷ behind)
    (done : after all (parts_of e slots (length all) known (map sense_of rest)) ≡ total) where
  rest_of : Part → Judged (List Part)
  rest_of x = parts_of e slots (length all + 1) (learn_part known (slot_at slots (length all)) x) (map sense_of behind) >>= λ xs. Ok (x ∷ xs)

  module _ (n : ℕ) (goal : Goal) (count : n ≡ length all) (goal_is : goal ≡ goal_of known slots.above (slot_at slots n)) where
    here : after all (part_of e goal (sense_of one) >>= rest_of) ≡ total
    unfolding rest_of
    here =
        ap (λ (g : Goal). after all (part_of e g (sense_of one) >>= rest_of)) (goal_is ∙ ap (λ k. goal_of known slots.above (slot_at slots k)) count)
        ∙ sym (ap (λ (its : List Grouped). after all (parts_of e slots (length all) known (map sense_of its))) is)
        ∙ done

    pub part_stops : (stop : JudgeStop) → JudgeStops stop (part_of e goal (sense_of one)) → JudgeStops stop total
    part_stops stop h = same_stop stop _ _ here (after_stops stop all _ (stops stop _ rest_of h))

    pub part_next : (x : Part) (m : ℕ) (slot : Slot) (next : Known) (more : List Part) → part_of e goal (sense_of one) ≡ Ok x → m ≡ length all → slot ≡ slot_at slots m → next ≡ learn_part known slot x → more ≡ all ++ x ∷ []
        → after more (parts_of e slots (length more) next (map sense_of behind)) ≡ total
    unfolding rest_of
    part_next x m slot next more read m_is slot_is next_is more_is =
        ap (λ (ps : List Part). after ps (parts_of e slots (length ps) next (map sense_of behind))) more_is
        ∙ ap (λ k. after (all ++ x ∷ []) (parts_of e slots k next (map sense_of behind))) (length-append all (x ∷ []))
        ∙ ap (λ (k : Known). after (all ++ x ∷ []) (parts_of e slots (length all + 1) k (map sense_of behind))) (next_is ∙ ap (λ (s : Slot). learn_part known s x) (slot_is ∙ ap (slot_at slots) m_is))
        ∙ after_one all x (parts_of e slots (length all + 1) (learn_part known (slot_at slots (length all)) x) (map sense_of behind))
        ∙ sym (ap (λ (r : Judged Part). after all (r >>= rest_of)) read)
        ∙ here
