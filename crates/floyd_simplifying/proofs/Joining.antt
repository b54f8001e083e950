-- Terms of which some change.
use Rattle.std.proofs.Common.{◌≡◌, Bool, true, false, ◌||◌, List, [], ◌∷◌, ◌++◌, Option, Some, None, Result, Ok, Err, refl, sym, ap, ◌∙◌, append_assoc}
use Rattle.std.specs.Prelude.{if◌then◌else◌, is_some}
use Rattle.std.specs.Option.{unwrap_or}
use Rattle.std.proofs.lemmas.List.{append-nil}
use Rattle.floyd_text.specs.declared.refusal.No.{No}
use Rattle.floyd_text.specs.declared.refusal.RuleStop.{RuleStop}
use Rattle.floyd_text.specs.declared.refusal.RuleStop.TheVariants as r
use Rattle.floyd_text.specs.Gives.{RuleStops}
use Rattle.floyd_tree.specs.Plain.{Plain, Plains, At, Done, More, head_of, kids_of, listed, plains}
use Rattle.floyd_simplifying.specs.Simplified.{both, node_over, over_kids, simplified, simplified_in, step}
use Rattle.floyd_simplifying.specs.SimplifiedClauses.{as_list, joined, terms_simplified}

pub listed_plains : (ts : List Plain) → listed (plains ts) ≡ ts
listed_plains [] = refl
listed_plains (t ∷ ts) = ap (λ us. t ∷ us) (listed_plains ts)

pub plains_listed : (ts : Plains) → plains (listed ts) ≡ ts
plains_listed Done = refl
plains_listed (More t ts) = ap (More t) (plains_listed ts)

-- whether something changed, as the program keeps it
pub or_then : (old made new : Bool) → old ≡ true → new ≡ true → new ≡ (old || made)
or_then true made new e i = i
or_then false made new e i = absurd cc

pub or_else : (old made new : Bool) → old ≡ false → new ≡ made → new ≡ (old || made)
or_else false made new e i = i
or_else true made new e i = absurd cc

abbrev pub changed_to : {T : Type 0} → List T → Result (Option (List T)) No
changed_to ts = Ok (Some ts)

pub join_start : {T : Type 0} (ts : List T) (x : Result (Option (List T)) No) → joined false [] ts x ≡ x
join_start ts (Ok None) = refl
join_start ts (Ok (Some us)) = refl
join_start ts (Err refusal) = refl

pub join_end : {T : Type 0} (changed : Bool) (made : List T) → joined changed made [] (Ok None) ≡ Ok (if changed then Some made else None)
join_end true made = ap changed_to (append-nil made)
join_end false made = refl

-- what becomes of one, as the list in which it stands first
as_first : (o : Option Plain) (t : Plain) (ts : List Plain) (x : Result (Option Plains) No) (made : List Plain) (changed : Bool) → joined changed made (t ∷ ts) (as_list listed (both More t (plains ts) (Ok o) x)) ≡ joined (changed || is_some o) (made ++ unwrap_or o t ∷ []) ts (as_list listed x)
as_first None t ts (Ok None) made true = ap changed_to (sym (append_assoc made (t ∷ []) ts))
as_first None t ts (Ok None) made false = refl
as_first None t ts (Ok (Some us)) made true = ap changed_to (sym (append_assoc made (t ∷ []) (listed us)))
as_first None t ts (Ok (Some us)) made false = ap changed_to (sym (append_assoc made (t ∷ []) (listed us)))
as_first None t ts (Err refusal) made changed = refl
as_first (Some u) t ts (Ok (Some us)) made true = ap changed_to (sym (append_assoc made (u ∷ []) (listed us)))
as_first (Some u) t ts (Ok (Some us)) made false = ap changed_to (sym (append_assoc made (u ∷ []) (listed us)))
as_first (Some u) t ts (Ok None) made true = ap (λ us. changed_to (made ++ u ∷ us)) (listed_plains ts) ∙ ap changed_to (sym (append_assoc made (u ∷ []) ts))
as_first (Some u) t ts (Ok None) made false = ap (λ us. changed_to (made ++ u ∷ us)) (listed_plains ts) ∙ ap changed_to (sym (append_assoc made (u ∷ []) ts))
as_first (Some u) t ts (Err refusal) made changed = refl

pub terms_on : (o : Option Plain) (t : Plain) (ts : List Plain) (made : List Plain) (changed : Bool) → simplified t ≡ Ok o → joined changed made (t ∷ ts) (terms_simplified (t ∷ ts)) ≡ joined (changed || is_some o) (made ++ unwrap_or o t ∷ []) ts (terms_simplified ts)
terms_on o t ts made changed e =
    ap (λ x. joined changed made (t ∷ ts) (as_list listed (both More t (plains ts) x (simplified_in (plains ts))))) e
    ∙ as_first o t ts (simplified_in (plains ts)) made changed

pub terms_start : (ts : List Plain) → joined false [] ts (terms_simplified ts) ≡ terms_simplified ts
terms_start ts = join_start ts (terms_simplified ts)

pub terms_end : (changed : Bool) (made : List Plain) → joined changed made [] (terms_simplified []) ≡ Ok (if changed then Some made else None)
terms_end changed made = join_end changed made

-- where one is refused, all are
pub terms_stop : (stop : RuleStop) (t : Plain) (ts : List Plain) (made : List Plain) (changed : Bool) → RuleStops stop (simplified t) → RuleStops stop (joined changed made (t ∷ ts) (terms_simplified (t ∷ ts)))
terms_stop (r.No refusal) t ts made changed e = ap (λ x. joined changed made (t ∷ ts) (as_list listed (both More t (plains ts) x (simplified_in (plains ts))))) e
terms_stop r.Memory t ts made changed e = tt

-- a term by what becomes of its kids
kids_none : (x : Result (Option Plains) No) → as_list listed x ≡ Ok None → x ≡ Ok None
kids_none (Ok None) e = refl
kids_none (Ok (Some us)) e = absurd cc
kids_none (Err refusal) e = absurd cc

kids_some : (x : Result (Option Plains) No) (us : List Plain) → as_list listed x ≡ Ok (Some us) → x ≡ Ok (Some (plains us))
kids_some (Ok (Some ws)) us e =
    let same : listed ws ≡ us = cc in
    ap (λ (ts : Plains). Ok (Some ts)) (sym (plains_listed ws) ∙ ap plains same)
kids_some (Ok None) us e = absurd cc
kids_some (Err refusal) us e = absurd cc

pub term_none : (t : Plain) → terms_simplified (kids_of t) ≡ Ok None → step t ≡ simplified t
term_none (At head kids) e =
    let is = kids_none (simplified_in (plains (listed kids))) e in
    sym (ap (λ ts. over_kids head kids (simplified_in ts)) (sym (plains_listed kids)) ∙ ap (over_kids head kids) is)

pub term_some : (t : Plain) (us : List Plain) → terms_simplified (kids_of t) ≡ Ok (Some us) → node_over (head_of t) (plains us) ≡ simplified t
term_some (At head kids) us e =
    let is = kids_some (simplified_in (plains (listed kids))) us e in
    sym (ap (λ ts. over_kids head kids (simplified_in ts)) (sym (plains_listed kids)) ∙ ap (over_kids head kids) is)

refused_kids : (x : Result (Option Plains) No) (refusal : No) → as_list listed x ≡ Err refusal → x ≡ Err refusal
refused_kids (Err other) refusal e = let same : other ≡ refusal = cc in ap (λ (q : No). Err q) same
refused_kids (Ok None) refusal e = absurd cc
refused_kids (Ok (Some us)) refusal e = absurd cc

pub term_stops : (stop : RuleStop) (t : Plain) → RuleStops stop (terms_simplified (kids_of t)) → RuleStops stop (simplified t)
term_stops (r.No refusal) (At head kids) e =
    let is = refused_kids (simplified_in (plains (listed kids))) refusal e in
    ap (λ ts. over_kids head kids (simplified_in ts)) (sym (plains_listed kids)) ∙ ap (over_kids head kids) is
term_stops r.Memory (At head kids) e = tt
