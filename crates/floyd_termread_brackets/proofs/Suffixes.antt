-- Lists that are made from their end: what stops a rest of them stops all.
use Rattle.std.proofs.Common.{◌≡◌, ℕ, zero, suc, ◌+◌, ◌<◌, List, [], ◌∷◌, drop, length, get_or, Ok, ap, sym, ◌∙◌}
use Rattle.std.proofs.lemmas.List.{drop_more}
use Rattle.floyd_text.specs.declared.place.Place.{Place}
use Rattle.floyd_tree_sorts.specs.declared.sorts.Sort.{Sort}
use Rattle.floyd_tree.specs.Plain.{Plain}
use Rattle.floyd_termread_wants.specs.declared.stop.JudgeStop.{JudgeStop}
use Rattle.floyd_termread_wants.specs.Judging.{Judged, ◌>>=◌, JudgeStops}
use Rattle.floyd_termread_wants.proofs.JudgedLists.{stops, same_stop}
use Rattle.floyd_termread_brackets.specs.Brackets.{consed, one_more}

consed_all : (stop : JudgeStop) (place : Place) (s : Sort) (j : ℕ) (xs : List Plain) → JudgeStops stop (consed place s (drop j xs)) → JudgeStops stop (consed place s xs)
consed_all stop place s zero xs h = h
consed_all stop place s (suc j) [] h = h
consed_all stop place s (suc j) (x ∷ xs) h = stops stop (consed place s xs) (one_more place x) (consed_all stop place s j xs h)

pub consed_stop : (stop : JudgeStop) (place : Place) (s : Sort) (xs : List Plain) (k j : ℕ) (one list : Plain) → j + 1 ≡ k → j < length xs → one ≡ get_or xs j one → consed place s (drop k xs) ≡ Ok list
    → JudgeStops stop (one_more place one list) → JudgeStops stop (consed place s xs)
consed_stop stop place s xs k j one list step within is so_far h =
    consed_all stop place s j xs
    (same_stop stop _ _
    (sym (ap (λ (r : Judged Plain). r >>= one_more place one) (ap (λ n. consed place s (drop n xs)) step ∙ so_far))
    ∙ sym (ap (consed place s) (drop_more xs j one within ∙ ap (λ (v : Plain). v ∷ drop (j + 1) xs) (sym is))))
    h)
