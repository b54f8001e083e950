-- Laws in postfix form: what a node is made of stands before it, in order. How they are run over terms and formulas that are
-- made and are not yet part of another.
use Rattle.std.specs.Prelude.{◌≡◌, ℕ, ◌+◌, ◌-◌, Bool, true, ◌&&◌, nat_lt, List, [], ◌∷◌, ◌++◌, length, take, drop, Result, Ok, Err}
use Rattle.floyd_tree_sorts.specs.declared.sorts.Sort.{Sort}
use Rattle.floyd_tree.specs.declared.stop.MakeStop.{MakeStop}
use Rattle.floyd_tree.specs.declared.stop.MakeStop.TheVariants.{IllSorted, TooLarge, Memory}
use Rattle.floyd_tree.specs.Formulas.{PlainFormula, Says, formulas}
use Rattle.floyd_tree.specs.Made.{fault, fault_at, unless}
use Rattle.floyd_tree.specs.MadeFormulas.{formula_fault_at}
use Rattle.floyd_tree.specs.Plain.{Plain, At, plains}
use Rattle.floyd_listlaw.specs.declared.heads.LawForm.{LawForm}
use Rattle.floyd_listlaw.specs.declared.heads.LawHead.{LawHead}
use Rattle.floyd_listlaw.specs.declared.postfix.Postfix.{Postfix}
use Rattle.floyd_listlaw.specs.declared.postfix.Postfix.TheVariants as p
use Rattle.floyd_listlaw.specs.Table.{Row}
use Rattle.floyd_listlaw.specs.Terms.{LawTerm, LawTerms, Argument, Node, NoTerm, Terms, LawFormula, LawFormulas, Claim, NoClaim, Claims, argument, head_with, form_head}

abbrev pub count : LawTerms → ℕ
count NoTerm = 0
count (Terms first rest) = count rest + 1

abbrev pub claim_count : LawFormulas → ℕ
claim_count NoClaim = 0
claim_count (Claims first rest) = claim_count rest + 1

abbrev mutual
  pub term_items : LawTerm → List Postfix
  term_items (Argument place) = p.Argument place ∷ []
  term_items (Node head kids) = terms_items kids ++ p.Node head (count kids) ∷ []

  pub terms_items : LawTerms → List Postfix
  terms_items NoTerm = []
  terms_items (Terms first rest) = term_items first ++ terms_items rest

abbrev mutual
  pub formula_items : LawFormula → List Postfix
  formula_items (Claim form terms kids) = terms_items terms ++ claims_items kids ++ p.Claim form (count terms) (claim_count kids) ∷ []

  pub claims_items : LawFormulas → List Postfix
  claims_items NoClaim = []
  claims_items (Claims first rest) = formula_items first ++ claims_items rest

abbrev pub formulas_items : List LawFormula → List Postfix
formulas_items [] = []
formulas_items (f ∷ fs) = formula_items f ++ formulas_items fs

-- the premises in order, then the conclusion
abbrev pub row_items : Row → List Postfix
row_items r = formulas_items (r.premises ++ r.conclusion ∷ [])

-- whether each argument has one of the first n places
abbrev pub is_within : ℕ → Postfix → Bool
is_within n (p.Argument place) = nat_lt place n
is_within n item = true

abbrev pub all_within : ℕ → List Postfix → Bool
all_within n [] = true
all_within n (item ∷ rest) = is_within n item && all_within n rest

-- how many nodes are made at most
abbrev pub nodes : Postfix → ℕ
nodes (p.Argument place) = 0
nodes item = 1

abbrev pub nodes_in : List Postfix → ℕ
nodes_in [] = 0
nodes_in (item ∷ rest) = nodes item + nodes_in rest

-- the last items, as many as these, and those before them
abbrev pub last_of : {T : Type 0} → ℕ → List T → List T
last_of n xs = drop (length xs - n) xs

abbrev pub but_last : {T : Type 0} → ℕ → List T → List T
but_last n xs = take (length xs - n) xs

abbrev pub node : Sort → LawHead → ℕ → List Plain → Plain
node s head n terms = At (head_with s head) (plains (last_of n terms))

abbrev pub claim : LawForm → ℕ → ℕ → List Plain → List PlainFormula → PlainFormula
claim form n m terms kids = Says (form_head form) (plains (last_of n terms)) (formulas (last_of m kids))

-- the terms and the formulas that are made
abbrev pub Stacks : Type 0
Stacks = List Plain × List PlainFormula

-- a term, or a formula, is made of the last ones, in their place
abbrev pub with_node : Sort → LawHead → ℕ → List Plain → Result (List Plain) MakeStop
with_node s head n terms = unless (fault_at (node s head n terms)) (but_last n terms ++ node s head n terms ∷ [])

abbrev pub with_claim : LawForm → ℕ → ℕ → List Plain → List PlainFormula → Result Stacks MakeStop
with_claim form n m terms kids = unless (formula_fault_at (claim form n m terms kids)) (but_last n terms, but_last m kids ++ claim form n m terms kids ∷ [])

abbrev pub on : {T U : Type 0} → (T → Result U MakeStop) → Result T MakeStop → Result U MakeStop
on f (Ok x) = f x
on f (Err stop) = Err stop

abbrev pub next : Sort → List Plain → Postfix → List Plain → List PlainFormula → Result Stacks MakeStop
next s given (p.Argument place) terms kids = unless (fault (argument given place)) (terms ++ argument given place ∷ [], kids)
next s given (p.Node head n) terms kids = on (λ made. Ok (made, kids)) (with_node s head n terms)
next s given (p.Claim form n m) terms kids = with_claim form n m terms kids

abbrev pub run : Sort → List Plain → List Postfix → Stacks → Result Stacks MakeStop
run s given [] stacks = Ok stacks
run s given (item ∷ rest) stacks = on (run s given rest) (next s given item stacks.0 stacks.1)

-- the formulas that are made from nothing
abbrev pub formulas_run : Sort → List Plain → List Postfix → Result (List PlainFormula) MakeStop
formulas_run s given items = on (λ stacks. Ok stacks.1) (run s given items ([], []))

-- what stopped a call is what should, unless memory ran out
abbrev pub IsStop : {T : Type 0} → MakeStop → Result T MakeStop → Type 0
IsStop IllSorted should = should ≡ Err IllSorted
IsStop TooLarge should = should ≡ Err TooLarge
IsStop Memory should = Unit {0}
