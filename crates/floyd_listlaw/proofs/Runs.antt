-- Laws in postfix form are run to what they say.
use Rattle.std.proofs.Common.{◌≡◌, ℕ, ◌+◌, ◌-◌, refl, ap, ap₂, sym, subst, ◌∙◌, List, [], ◌∷◌, ◌++◌, length, map, take, drop, Option, Some, None, Result, Ok, Err, arith}
use Rattle.std.specs.Option.{option_or}
use Rattle.std.proofs.lemmas.List.{append-nil, append_assoc, length-append, length-drop, map-append, take_all}
use Rattle.std.proofs.Math.Seq.{drop-append_seam, take-append_seam}
use Rattle.floyd_tree_sorts.specs.declared.sorts.Sort.{Sort}
use Rattle.floyd_tree_sorts.specs.declared.heads.Head.{Head}
use Rattle.floyd_tree.specs.declared.stop.MakeStop.{MakeStop}
use Rattle.floyd_tree.specs.declared.stop.MakeStop.TheVariants.{IllSorted, TooLarge, Memory}
use Rattle.floyd_tree.specs.Code.{plains-listed}
use Rattle.floyd_tree.specs.FormulaCode.{formulas-listed}
use Rattle.floyd_tree.specs.Formulas.{PlainFormula, Says, formulas, listed_formulas}
use Rattle.floyd_tree.specs.Made.{Gives, fault, fault_at, faults, made, unless}
use Rattle.floyd_tree.specs.MadeFormulas.{formula_fault, formula_fault_at, formula_faults}
use Rattle.floyd_tree.specs.Plain.{Plain, At, plains, listed}
use Rattle.floyd_tree.proofs.Parts.{unless_ok}
use Rattle.floyd_listlaw.specs.declared.heads.LawForm.{LawForm}
use Rattle.floyd_listlaw.specs.declared.heads.LawHead.{LawHead}
use Rattle.floyd_listlaw.specs.declared.postfix.Postfix.{Postfix}
use Rattle.floyd_listlaw.specs.declared.postfix.Postfix.TheVariants as p
use Rattle.floyd_listlaw.specs.Instances.{formulas_in, says}
use Rattle.floyd_listlaw.specs.PostfixClauses.{IsStop, Stacks, but_last, claim_count, claims_items, count, formula_items, formulas_items, formulas_run, last_of, node, on, row_items, run, term_items, terms_items, with_claim, with_node}
use Rattle.floyd_listlaw.specs.Table.{Row}
use Rattle.floyd_listlaw.specs.Terms.{LawTerm, LawTerms, Argument, Node, NoTerm, Terms, LawFormula, LawFormulas, Claim, NoClaim, Claims, argument, form_head, formula_with, formulas_with, head_with, term_with, terms_with}

-- an answer, unless there was a fault before
abbrev after : {T : Type 0} → Option MakeStop → Result T MakeStop → Result T MakeStop
after None r = r
after (Some stop) r = Err stop

on_unless : {T U : Type 0} (f : T → Result U MakeStop) (o : Option MakeStop) (x : T) → on f (unless o x) ≡ after o (f x)
on_unless f None x = refl
on_unless f (Some stop) x = refl

on_on_unless : {T U V : Type 0} (f : U → Result V MakeStop) (g : T → U) (o : Option MakeStop) (x : T) → on f (on (λ y. Ok (g y)) (unless o x)) ≡ after o (f (g x))
on_on_unless f g None x = refl
on_on_unless f g (Some stop) x = refl

on_after : {T U : Type 0} (g : T → U) (o : Option MakeStop) (x : T) → on (λ y. Ok (g y)) (after o (Ok x)) ≡ unless o (g x)
on_after g None x = refl
on_after g (Some stop) x = refl

after_or : {T : Type 0} (o p : Option MakeStop) (r : Result T MakeStop) → after (option_or o p) r ≡ after o (after p r)
after_or None p r = refl
after_or (Some stop) p r = refl

-- the last of a list are what was put at its end
seam : {T : Type 0} (xs ys : List T) (n : ℕ) → n ≡ length ys → length (xs ++ ys) - n ≡ length xs
seam xs ys n e = ap₂ (λ k m. k - m) (length-append xs ys) e ∙ omega arith

pub last_put : {T : Type 0} (xs ys : List T) (n : ℕ) → n ≡ length ys → last_of n (xs ++ ys) ≡ ys
last_put xs ys n e = ap (λ k. drop k (xs ++ ys)) (seam xs ys n e) ∙ drop-append_seam xs ys

pub but_last_put : {T : Type 0} (xs ys : List T) (n : ℕ) → n ≡ length ys → but_last n (xs ++ ys) ≡ xs
but_last_put xs ys n e = ap (λ k. take k (xs ++ ys)) (seam xs ys n e) ∙ take-append_seam xs ys

-- the last terms, as the program cuts them
cut : (n from : ℕ) (ts : List Plain) → from ≡ length ts - n → take (length ts - from) (drop from ts) ≡ last_of n ts
cut n from ts e = take_all (length ts - from) (drop from ts) (omega (arith, length-drop from ts)) ∙ ap (λ k. drop k ts) e

node_is : (s : Sort) (head : LawHead) (n : ℕ) (ts : List Plain) (h : Head) (from : ℕ) → h ≡ head_with s head → from ≡ length ts - n → At h (plains (take (length ts - from) (drop from ts))) ≡ node s head n ts
node_is s head n ts h from e f = ap₂ (λ u us. At u (plains us)) e (cut n from ts f)

pub node_ok : (s : Sort) (head : LawHead) (n : ℕ) (ts : List Plain) (h : Head) (from : ℕ) (term : Plain) (all : List Plain) → h ≡ head_with s head → from ≡ length ts - n → made h (take (length ts - from) (drop from ts)) ≡ Ok term → all ≡ take from ts ++ term ∷ [] → with_node s head n ts ≡ Ok all
node_ok s head n ts h from term all e f m a =
    let t = node_is s head n ts h from e f in
    let p = unless_ok (fault_at (node s head n ts)) (node s head n ts) term (ap (λ u. unless (fault_at u) u) (sym t) ∙ m) in
    ap (λ o. unless o (but_last n ts ++ node s head n ts ∷ [])) p.1
    ∙ ap Ok (ap₂ (λ us u. us ++ u ∷ []) (ap (λ k. take k ts) (sym f)) (sym p.0) ∙ sym a)

same_stop : (stop : MakeStop) (o : Option MakeStop) (t : Plain) (ts : List Plain) → Gives (Err stop) (unless o t) → IsStop stop (unless o ts)
same_stop IllSorted None t ts e = absurd cc
same_stop IllSorted (Some other) t ts e = cc
same_stop TooLarge None t ts e = absurd cc
same_stop TooLarge (Some other) t ts e = cc
same_stop Memory o t ts e = tt

pub node_err : (s : Sort) (head : LawHead) (n : ℕ) (ts : List Plain) (h : Head) (from : ℕ) (stop : MakeStop) → h ≡ head_with s head → from ≡ length ts - n → Gives (Err stop) (made h (take (length ts - from) (drop from ts))) → IsStop stop (with_node s head n ts)
node_err s head n ts h from stop e f m =
    same_stop stop (fault_at (node s head n ts)) (node s head n ts) (but_last n ts ++ node s head n ts ∷ [])
    (subst (λ u. Gives (Err stop) (unless (fault_at u) u)) (node_is s head n ts h from e f) m)

module _ (s : Sort) (given : List Plain) where
  counted : (ts : LawTerms) → count ts ≡ length (listed (terms_with s given ts))
  counted NoTerm = refl
  counted (Terms first rest) = ap (λ n. n + 1) (counted rest) ∙ omega arith

  claims_counted : (fs : LawFormulas) → claim_count fs ≡ length (listed_formulas (formulas_with s given fs))
  claims_counted NoClaim = refl
  claims_counted (Claims first rest) = ap (λ n. n + 1) (claims_counted rest) ∙ omega arith

  node_put : (head : LawHead) (kids : LawTerms) (xs : List Plain) → with_node s head (count kids) (xs ++ listed (terms_with s given kids)) ≡ unless (fault_at (term_with s given (Node head kids))) (xs ++ term_with s given (Node head kids) ∷ [])
  node_put head kids xs =
      let own = listed (terms_with s given kids) in
      ap₂ (λ ls bs. unless (fault_at (At (head_with s head) (plains ls))) (bs ++ At (head_with s head) (plains ls) ∷ [])) (last_put xs own (count kids) (counted kids)) (but_last_put xs own (count kids) (counted kids))
      ∙ ap (λ ks. unless (fault_at (At (head_with s head) ks)) (xs ++ At (head_with s head) ks ∷ [])) (plains-listed (terms_with s given kids))

  node_run : (head : LawHead) (kids : LawTerms) (rest : List Postfix) (xs : List Plain) (fs : List PlainFormula) → run s given (p.Node head (count kids) ∷ rest) (xs ++ listed (terms_with s given kids), fs) ≡ after (fault_at (term_with s given (Node head kids))) (run s given rest (xs ++ term_with s given (Node head kids) ∷ [], fs))
  node_run head kids rest xs fs =
      ap (λ r. on (run s given rest) (on (λ made. Ok (made, fs)) r)) (node_put head kids xs)
      ∙ on_on_unless (run s given rest) (λ made. (made, fs)) (fault_at (term_with s given (Node head kids))) (xs ++ term_with s given (Node head kids) ∷ [])

  mutual
    term_run : (t : LawTerm) (rest : List Postfix) (xs : List Plain) (fs : List PlainFormula) → run s given (term_items t ++ rest) (xs, fs) ≡ after (fault (term_with s given t)) (run s given rest (xs ++ term_with s given t ∷ [], fs))
    term_run (Argument place) rest xs fs = on_unless (run s given rest) (fault (argument given place)) (xs ++ argument given place ∷ [], fs)
    term_run (Node head kids) rest xs fs =
        let t = term_with s given (Node head kids) in
        ap (λ is. run s given is (xs, fs)) (append_assoc (terms_items kids) (p.Node head (count kids) ∷ []) rest)
        ∙ terms_run kids (p.Node head (count kids) ∷ rest) xs fs
        ∙ ap (after (faults (terms_with s given kids))) (node_run head kids rest xs fs)
        ∙ sym (after_or (faults (terms_with s given kids)) (fault_at t) (run s given rest (xs ++ t ∷ [], fs)))

    terms_run : (ts : LawTerms) (rest : List Postfix) (xs : List Plain) (fs : List PlainFormula) → run s given (terms_items ts ++ rest) (xs, fs) ≡ after (faults (terms_with s given ts)) (run s given rest (xs ++ listed (terms_with s given ts), fs))
    terms_run NoTerm rest xs fs = ap (λ ys. run s given rest (ys, fs)) (sym (append-nil xs))
    terms_run (Terms first others) rest xs fs =
        let t = term_with s given first in
        let us = terms_with s given others in
        ap (λ is. run s given is (xs, fs)) (append_assoc (term_items first) (terms_items others) rest)
        ∙ term_run first (terms_items others ++ rest) xs fs
        ∙ ap (after (fault t)) (terms_run others rest (xs ++ t ∷ []) fs ∙ ap (λ ys. after (faults us) (run s given rest (ys, fs))) (append_assoc xs (t ∷ []) (listed us)))
        ∙ sym (after_or (fault t) (faults us) (run s given rest (xs ++ t ∷ listed us, fs)))

  claim_put : (form : LawForm) (terms : LawTerms) (kids : LawFormulas) (xs : List Plain) (fs : List PlainFormula) → with_claim form (count terms) (claim_count kids) (xs ++ listed (terms_with s given terms)) (fs ++ listed_formulas (formulas_with s given kids)) ≡ unless (formula_fault_at (formula_with s given (Claim form terms kids))) (xs, fs ++ formula_with s given (Claim form terms kids) ∷ [])
  claim_put form terms kids xs fs =
      let own = listed (terms_with s given terms) in
      let below = listed_formulas (formulas_with s given kids) in
      ap₂ (λ ls bs. unless (formula_fault_at (Says (form_head form) (plains ls) (formulas (last_of (claim_count kids) (fs ++ below))))) (bs, but_last (claim_count kids) (fs ++ below) ++ Says (form_head form) (plains ls) (formulas (last_of (claim_count kids) (fs ++ below))) ∷ [])) (last_put xs own (count terms) (counted terms)) (but_last_put xs own (count terms) (counted terms))
      ∙ ap₂ (λ ls bs. unless (formula_fault_at (Says (form_head form) (plains own) (formulas ls))) (xs, bs ++ Says (form_head form) (plains own) (formulas ls) ∷ [])) (last_put fs below (claim_count kids) (claims_counted kids)) (but_last_put fs below (claim_count kids) (claims_counted kids))
      ∙ ap₂ (λ ts ks. unless (formula_fault_at (Says (form_head form) ts ks)) (xs, fs ++ Says (form_head form) ts ks ∷ [])) (plains-listed (terms_with s given terms)) (formulas-listed (formulas_with s given kids))

  claim_run : (form : LawForm) (terms : LawTerms) (kids : LawFormulas) (rest : List Postfix) (xs : List Plain) (fs : List PlainFormula) → run s given (p.Claim form (count terms) (claim_count kids) ∷ rest) (xs ++ listed (terms_with s given terms), fs ++ listed_formulas (formulas_with s given kids)) ≡ after (formula_fault_at (formula_with s given (Claim form terms kids))) (run s given rest (xs, fs ++ formula_with s given (Claim form terms kids) ∷ []))
  claim_run form terms kids rest xs fs =
      ap (on (run s given rest)) (claim_put form terms kids xs fs)
      ∙ on_unless (run s given rest) (formula_fault_at (formula_with s given (Claim form terms kids))) (xs, fs ++ formula_with s given (Claim form terms kids) ∷ [])

  mutual
    formula_run : (f : LawFormula) (rest : List Postfix) (xs : List Plain) (fs : List PlainFormula) → run s given (formula_items f ++ rest) (xs, fs) ≡ after (formula_fault (formula_with s given f)) (run s given rest (xs, fs ++ formula_with s given f ∷ []))
    formula_run (Claim form terms kids) rest xs fs =
        let last = p.Claim form (count terms) (claim_count kids) in
        let own = terms_with s given terms in
        let below = formulas_with s given kids in
        let whole = formula_with s given (Claim form terms kids) in
        let then = run s given rest (xs, fs ++ whole ∷ []) in
        ap (λ is. run s given is (xs, fs)) (append_assoc (terms_items terms ++ claims_items kids) (last ∷ []) rest ∙ append_assoc (terms_items terms) (claims_items kids) (last ∷ rest))
        ∙ terms_run terms (claims_items kids ++ last ∷ rest) xs fs
        ∙ ap (after (faults own)) (claims_run kids (last ∷ rest) (xs ++ listed own) fs ∙ ap (after (formula_faults below)) (claim_run form terms kids rest xs fs))
        ∙ sym (after_or (faults own) (option_or (formula_faults below) (formula_fault_at whole)) then ∙ ap (after (faults own)) (after_or (formula_faults below) (formula_fault_at whole) then))

    claims_run : (ks : LawFormulas) (rest : List Postfix) (xs : List Plain) (fs : List PlainFormula) → run s given (claims_items ks ++ rest) (xs, fs) ≡ after (formula_faults (formulas_with s given ks)) (run s given rest (xs, fs ++ listed_formulas (formulas_with s given ks)))
    claims_run NoClaim rest xs fs = ap (λ ys. run s given rest (xs, ys)) (sym (append-nil fs))
    claims_run (Claims first others) rest xs fs =
        let f = formula_with s given first in
        let gs = formulas_with s given others in
        ap (λ is. run s given is (xs, fs)) (append_assoc (formula_items first) (claims_items others) rest)
        ∙ formula_run first (claims_items others ++ rest) xs fs
        ∙ ap (after (formula_fault f)) (claims_run others rest xs (fs ++ f ∷ []) ∙ ap (λ ys. after (formula_faults gs) (run s given rest (xs, ys))) (append_assoc fs (f ∷ []) (listed_formulas gs)))
        ∙ sym (after_or (formula_fault f) (formula_faults gs) (run s given rest (xs, fs ++ f ∷ listed_formulas gs)))

  all_run : (ls : List LawFormula) (xs : List Plain) (fs : List PlainFormula) → run s given (formulas_items ls) (xs, fs) ≡ after (formula_faults (formulas (map (formula_with s given) ls))) (Ok (xs, fs ++ map (formula_with s given) ls))
  all_run [] xs fs = ap (λ ys. Ok (xs, ys)) (sym (append-nil fs))
  all_run (l ∷ ls) xs fs =
      let f = formula_with s given l in
      let gs = map (formula_with s given) ls in
      formula_run l (formulas_items ls) xs fs
      ∙ ap (after (formula_fault f)) (all_run ls xs (fs ++ f ∷ []) ∙ ap (λ ys. after (formula_faults (formulas gs)) (Ok (xs, ys))) (append_assoc fs (f ∷ []) gs))
      ∙ sym (after_or (formula_fault f) (formula_faults (formulas gs)) (Ok (xs, fs ++ f ∷ gs)))

  -- a row is run to its premises and its conclusion, or to the first fault in them
  pub row_run : (r : Row) → formulas_run s given (row_items r) ≡ unless (formula_faults (formulas (formulas_in (says r s given)))) (formulas_in (says r s given))
  row_run r =
      let ls = r.premises ++ r.conclusion ∷ [] in
      ap (on (λ stacks. Ok stacks.1)) (all_run ls [] [])
      ∙ on_after (λ (stacks : Stacks). stacks.1) (formula_faults (formulas (map (formula_with s given) ls))) ([], map (formula_with s given) ls)
      ∙ ap (λ fs. unless (formula_faults (formulas fs)) fs) (map-append (formula_with s given) r.premises (r.conclusion ∷ []))
