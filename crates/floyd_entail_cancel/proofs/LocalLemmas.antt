-- Equations of temporaries, one after the other.
use Rattle.std.proofs.Common.{◌≡◌, ℕ, ◌+◌, ◌<◌, ◌≤◌, Bool, true, false, ◌||◌, List, [], ◌∷◌, ◌++◌, length, drop, get_or, Option, Result, Ok, Err, refl, sym, ap, subst, ◌∙◌, append_assoc, append-nil}
use Rattle.std.specs.List.{list_any}
use Rattle.std.proofs.lemmas.List.{drop_all, drop_more}
use Rattle.std.proofs.lemmas.List.Folds.{list_any-append}
use Rattle.floyd_text.specs.declared.refusal.RuleStop.{RuleStop}
use Rattle.floyd_text.specs.declared.refusal.RuleStop.TheVariants as r
use Rattle.floyd_text.specs.Gives.{RuleStops}
use Rattle.floyd_tree.specs.Formulas.{PlainFormula}
use Rattle.floyd_tree.specs.Plain.{Plain}
use Rattle.floyd_assert_trees.specs.declared.assertion.Local.{Local}
use Rattle.floyd_goal_parts.specs.Writing.{StopsAs, all_written, is_faulty}
use Rattle.floyd_goal_plans.proofs.WritingLemmas.{unwritten, written}
use Rattle.floyd_entail_cancel.specs.Cancel.{equation_to, equations, value_of}

next_local : (source target : List Local) (i : ℕ) (l : Local) → i < length target → l ≡ get_or target i l → equations source (drop i target) ≡ equation_to (value_of source l.name) l.term ++ equations source (drop (i + 1) target)
next_local source target i l within is =
    ap (equations source) (drop_more target i l within ∙ ap (λ y. y ∷ drop (i + 1) target) (sym is))

-- those so far, and those from the next one on
here_first : (source target : List Local) (i : ℕ) (l : Local) (value : Option Plain) (done : List PlainFormula) → i < length target → l ≡ get_or target i l → value ≡ value_of source l.name → done ++ (equation_to value l.term ++ equations source (drop (i + 1) target)) ≡ done ++ equations source (drop i target)
here_first source target i l value done within is v =
    ap (λ (o : Option Plain). done ++ (equation_to o l.term ++ equations source (drop (i + 1) target))) v
    ∙ ap (λ fs. done ++ fs) (sym (next_local source target i l within is))

pub equations_more : (source target : List Local) (i : ℕ) (l : Local) (value : Option Plain) (done all : List PlainFormula) → i < length target → l ≡ get_or target i l → value ≡ value_of source l.name → all ≡ done ++ equation_to value l.term → all ++ equations source (drop (i + 1) target) ≡ done ++ equations source (drop i target)
equations_more source target i l value done all within is v e =
    ap (λ fs. fs ++ equations source (drop (i + 1) target)) e
    ∙ append_assoc done (equation_to value l.term) (equations source (drop (i + 1) target))
    ∙ here_first source target i l value done within is v

pub fine_more : (done es all : List PlainFormula) → list_any is_faulty done ≡ false → list_any is_faulty es ≡ false → all ≡ done ++ es → list_any is_faulty all ≡ false
fine_more done es all a b e =
    ap (list_any is_faulty) e ∙ list_any-append is_faulty done es ∙ ap (λ x. x || list_any is_faulty es) a ∙ b

stops_amid : (stop : RuleStop) (done es rest whole : List PlainFormula) → done ++ (es ++ rest) ≡ whole → list_any is_faulty done ≡ false → StopsAs stop (list_any is_faulty es) → RuleStops stop (all_written whole)
stops_amid (r.No why) done es rest whole e fine h =
    unwritten (r.No why) whole (
      h.0,
      ap (list_any is_faulty) (sym e) ∙ list_any-append is_faulty done (es ++ rest) ∙ ap (λ x. x || list_any is_faulty (es ++ rest)) fine
          ∙ list_any-append is_faulty es rest ∙ ap (λ x. x || list_any is_faulty rest) h.1,
    )
stops_amid r.Memory done es rest whole e fine h = tt

pub equations_stop : (stop : RuleStop) (source target : List Local) (i : ℕ) (l : Local) (value : Option Plain) (done : List PlainFormula) → i < length target → l ≡ get_or target i l → value ≡ value_of source l.name → done ++ equations source (drop i target) ≡ equations source target → list_any is_faulty done ≡ false → StopsAs stop (list_any is_faulty (equation_to value l.term)) → RuleStops stop (all_written (equations source target))
equations_stop stop source target i l value done within is v so fine h =
    stops_amid stop done (equation_to value l.term) (equations source (drop (i + 1) target)) (equations source target)
    (here_first source target i l value done within is v ∙ so) fine h

pub equations_end : (source target : List Local) (i : ℕ) (all : List PlainFormula) → length target ≤ i → all ++ equations source (drop i target) ≡ equations source target → list_any is_faulty all ≡ false → all_written (equations source target) ≡ Ok all
equations_end source target i all past so fine =
    let whole : all ≡ equations source target = sym (append-nil all) ∙ ap (λ ls. all ++ equations source ls) (sym (drop_all i target past)) ∙ so in
    subst (λ fs. all_written fs ≡ Ok all) whole (written all fine)
