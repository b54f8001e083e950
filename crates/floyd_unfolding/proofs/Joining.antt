-- Terms of which some change.
use Rattle.std.proofs.Common.{◌≡◌, ℕ, Bool, true, false, ◌||◌, List, [], ◌∷◌, ◌++◌, Option, Some, None, Result, Ok, Err, refl, sym, ap, ◌∙◌, append_assoc}
use Rattle.std.specs.Prelude.{if◌then◌else◌, is_some}
use Rattle.std.specs.Option.{unwrap_or}
use Rattle.floyd_text.specs.declared.refusal.No.{No}
use Rattle.floyd_text.specs.declared.refusal.RuleStop.{RuleStop}
use Rattle.floyd_text.specs.declared.refusal.RuleStop.TheVariants as r
use Rattle.floyd_text.specs.Gives.{RuleStops}
use Rattle.floyd_tree_sorts.specs.declared.heads.Head.{Head}
use Rattle.floyd_tree.specs.Plain.{Plain, Plains, At, More, head_of, kids_of, listed, plains}
use Rattle.floyd_assert_trees.specs.declared.items.Fun.{Fun}
use Rattle.floyd_fieldpath.specs.Written.{written}
use Rattle.floyd_simplifying.specs.Simplified.{both, some_of}
use Rattle.floyd_simplifying.specs.SimplifiedClauses.{as_list, joined}
use Rattle.floyd_simplifying.proofs.Joining.{changed_to, join_end, join_start, listed_plains, plains_listed}
use Rattle.floyd_unfolding.specs.Unfolded.{node_over, or_node, over_kids, step, unfolded, unfolded_in}
use Rattle.floyd_unfolding.specs.UnfoldedClauses.{terms_unfolded}

-- what becomes of one, as the list in which it stands first
as_first : (o : Option Plain) (t : Plain) (ts : List Plain) (x : Result (Option Plains) No) (made : List Plain) (changed : Bool) → joined changed made (t ∷ ts) (as_list listed (both More t (plains ts) (Ok o) x)) ≡ joined (changed || is_some o) (made ++ unwrap_or o t ∷ []) ts (as_list listed x)
as_first None t ts (Ok None) made true = ap changed_to (sym (append_assoc made (t ∷ []) ts))
as_first None t ts (Ok None) made false = refl
as_first None t ts (Ok (Some us)) made true = ap changed_to (sym (append_assoc made (t ∷ []) (listed us)))
as_first None t ts (Ok (Some us)) made false = ap changed_to (sym (append_assoc made (t ∷ []) (listed us)))
as_first None t ts (Err refusal) made changed = refl
as_first (Some u) t ts (Ok (Some us)) made true = ap changed_to (sym (append_assoc made (u ∷ []) (listed us)))
as_first (Some u) t ts (Ok (Some us)) made false = ap changed_to (sym (append_assoc made (u ∷ []) (listed us)))
as_first (Some u) t ts (Ok None) made true = ap (λ us. changed_to (made ++ u ∷ us)) (listed_plains ts) ∙ ap changed_to (sym (append_assoc made (u ∷ []) ts))
as_first (Some u) t ts (Ok None) made false = ap (λ us. changed_to (made ++ u ∷ us)) (listed_plains ts) ∙ ap changed_to (sym (append_assoc made (u ∷ []) ts))
as_first (Some u) t ts (Err refusal) made changed = refl

-- a term by what becomes of its kids
kids_none : (x : Result (Option Plains) No) → as_list listed x ≡ Ok None → x ≡ Ok None
kids_none (Ok None) e = refl
kids_none (Ok (Some us)) e = absurd cc
kids_none (Err refusal) e = absurd cc

kids_some : (x : Result (Option Plains) No) (us : List Plain) → as_list listed x ≡ Ok (Some us) → x ≡ Ok (Some (plains us))
kids_some (Ok (Some ws)) us e =
    let same : listed ws ≡ us = cc in
    ap (λ (ts : Plains). Ok (Some ts)) (sym (plains_listed ws) ∙ ap plains same)
kids_some (Ok None) us e = absurd cc
kids_some (Err refusal) us e = absurd cc

refused_kids : (x : Result (Option Plains) No) (refusal : No) → as_list listed x ≡ Err refusal → x ≡ Err refusal
refused_kids (Err other) refusal e = let same : other ≡ refusal = cc in ap (λ (q : No). Err q) same
refused_kids (Ok None) refusal e = absurd cc
refused_kids (Ok (Some us)) refusal e = absurd cc

module _ (name : List ℕ) (own : Fun) where
  pub terms_on : (o : Option Plain) (t : Plain) (ts : List Plain) (made : List Plain) (changed : Bool) → (unfolded name own) t ≡ Ok o → joined changed made (t ∷ ts) ((terms_unfolded name own) (t ∷ ts)) ≡ joined (changed || is_some o) (made ++ unwrap_or o t ∷ []) ts ((terms_unfolded name own) ts)
  terms_on o t ts made changed e =
      ap (λ x. joined changed made (t ∷ ts) (as_list listed (both More t (plains ts) x ((unfolded_in name own) (plains ts))))) e
      ∙ as_first o t ts ((unfolded_in name own) (plains ts)) made changed

  pub terms_start : (ts : List Plain) → joined false [] ts ((terms_unfolded name own) ts) ≡ (terms_unfolded name own) ts
  terms_start ts = join_start ts ((terms_unfolded name own) ts)

  pub terms_end : (changed : Bool) (made : List Plain) → joined changed made [] ((terms_unfolded name own) []) ≡ Ok (if changed then Some made else None)
  terms_end changed made = join_end changed made

  -- where one is refused, all are
  pub terms_stop : (stop : RuleStop) (t : Plain) (ts : List Plain) (made : List Plain) (changed : Bool) → RuleStops stop ((unfolded name own) t) → RuleStops stop (joined changed made (t ∷ ts) ((terms_unfolded name own) (t ∷ ts)))
  terms_stop (r.No refusal) t ts made changed e = ap (λ x. joined changed made (t ∷ ts) (as_list listed (both More t (plains ts) x ((unfolded_in name own) (plains ts))))) e
  terms_stop r.Memory t ts made changed e = tt

  pub term_none : (t : Plain) → (terms_unfolded name own) (kids_of t) ≡ Ok None → step name own (head_of t) (kids_of t) ≡ (unfolded name own) t
  term_none (At head kids) e =
      let is = kids_none ((unfolded_in name own) (plains (listed kids))) e in
      sym (ap (λ ts. (over_kids name own) head kids ((unfolded_in name own) ts)) (sym (plains_listed kids)) ∙ ap ((over_kids name own) head kids) is)

  pub term_some : (t : Plain) (us : List Plain) → (terms_unfolded name own) (kids_of t) ≡ Ok (Some us) → (node_over name own) (head_of t) (plains us) ≡ (unfolded name own) t
  term_some (At head kids) us e =
      let is = kids_some ((unfolded_in name own) (plains (listed kids))) us e in
      sym (ap (λ ts. (over_kids name own) head kids ((unfolded_in name own) ts)) (sym (plains_listed kids)) ∙ ap ((over_kids name own) head kids) is)

  pub term_stops : (stop : RuleStop) (t : Plain) → RuleStops stop ((terms_unfolded name own) (kids_of t)) → RuleStops stop ((unfolded name own) t)
  term_stops (r.No refusal) (At head kids) e =
      let is = refused_kids ((unfolded_in name own) (plains (listed kids))) refusal e in
      ap (λ ts. (over_kids name own) head kids ((unfolded_in name own) ts)) (sym (plains_listed kids)) ∙ ap ((over_kids name own) head kids) is
  term_stops r.Memory (At head kids) e = tt

  -- a node over other kids
  node_is : (head : Head) (kids : List Plain) → node_over name own head (plains kids) ≡ or_node (At head (plains kids)) (step name own head kids)
  node_is head kids = ap (λ ts. or_node (At head (plains kids)) (step name own head ts)) (listed_plains kids)

  pub node_meant : (head : Head) (kids : List Plain) (made : Plain) → step name own head kids ≡ Ok (Some made) → node_over name own head (plains kids) ≡ Ok (Some made)
  node_meant head kids made e = node_is head kids ∙ ap (or_node (At head (plains kids))) e

  pub node_kept : (head : Head) (kids : List Plain) (made : Plain) → step name own head kids ≡ Ok None → written (At head (plains kids)) ≡ Ok made → node_over name own head (plains kids) ≡ Ok (Some made)
  node_kept head kids made e i = node_is head kids ∙ ap (or_node (At head (plains kids))) e ∙ ap some_of i

  pub node_stops : (stop : RuleStop) (head : Head) (kids : List Plain) → RuleStops stop (step name own head kids) → RuleStops stop (node_over name own head (plains kids))
  node_stops (r.No refusal) head kids e = node_is head kids ∙ ap (or_node (At head (plains kids))) e
  node_stops r.Memory head kids e = tt

  pub node_large : (stop : RuleStop) (head : Head) (kids : List Plain) → step name own head kids ≡ Ok None → RuleStops stop (written (At head (plains kids))) → RuleStops stop (node_over name own head (plains kids))
  node_large (r.No refusal) head kids e i = node_is head kids ∙ ap (or_node (At head (plains kids))) e ∙ ap some_of i
  node_large r.Memory head kids e i = tt
