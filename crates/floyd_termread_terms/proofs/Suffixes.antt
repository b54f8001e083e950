-- Operators before a term, the last of which binds first: what stops a rest of them stops all.
use Rattle.std.proofs.Common.{◌≡◌, ℕ, zero, suc, ◌+◌, ◌<◌, List, [], ◌∷◌, drop, length, get_or, Ok, ap, sym, ◌∙◌}
use Rattle.std.proofs.lemmas.List.{drop_more}
use Rattle.floyd_tree_sorts.specs.declared.sorts.Sort.{Z}
use Rattle.floyd_tree.specs.Plain.{Plain}
use Rattle.floyd_termread_trees.specs.declared.written.Prefix.{Prefix}
use Rattle.floyd_termread_wants.specs.declared.stop.JudgeStop.{JudgeStop}
use Rattle.floyd_termread_wants.specs.declared.wants.Wanted.TheVariants as w
use Rattle.floyd_termread_wants.specs.Judging.{Judged, ◌>>=◌, JudgeStops}
use Rattle.floyd_termread_wants.proofs.JudgedLists.{stops, same_stop}
use Rattle.floyd_termread_terms.specs.Rows.{negated, negated_inside}

negated_whole : (stop : JudgeStop) (t : Plain) (j : ℕ) (ps : List Prefix) → JudgeStops stop (negated_inside (drop j ps) t) → JudgeStops stop (negated_inside ps t)
negated_whole stop t zero ps h = h
negated_whole stop t (suc j) [] h = h
negated_whole stop t (suc j) (p ∷ ps) h = stops stop (negated_inside ps t) (negated (w.This Z) p) (negated_whole stop t j ps h)

pub negated_stop : (stop : JudgeStop) (t : Plain) (ps : List Prefix) (k j : ℕ) (one : Prefix) (u : Plain) → j + 1 ≡ k → j < length ps → one ≡ get_or ps j one → negated_inside (drop k ps) t ≡ Ok u
    → JudgeStops stop (negated (w.This Z) one u) → JudgeStops stop (negated_inside ps t)
negated_stop stop t ps k j one u step within is so_far h =
    negated_whole stop t j ps
    (same_stop stop _ _
    (sym (ap (λ (r : Judged Plain). r >>= negated (w.This Z) one) (ap (λ n. negated_inside (drop n ps) t) step ∙ so_far))
    ∙ sym (ap (λ (v : List Prefix). negated_inside v t) (drop_more ps j one within ∙ ap (λ (v : Prefix). v ∷ drop (j + 1) ps) (sym is))))
    h)
