-- Statements that stood before an effect stay before it.
use Rattle.std.proofs.Common.{◌≡◌, Bool, true, false, List, [], ◌∷◌, ◌++◌, refl, ap, sym, ◌∙◌, subst}
use Rattle.std.specs.Prelude.{Result, Ok, Err, Option, Some, None}
use Rattle.std.proofs.lemmas.List.{append_assoc, append-nil}
use Rattle.floyd_text.specs.declared.place.Place.{Place}
use Rattle.floyd_text.specs.declared.refusal.Refusal.{Refusal}
use Rattle.floyd_text.specs.declared.refusal.Halt.{Halt}
use Rattle.floyd_text.specs.Gives.{Stops}
use Rattle.floyd_int.specs.declared.kinds.IntOp.{IntOp}
use Rattle.floyd_cparse_trees.specs.declared.expressions.CExpr.{CExpr}
use Rattle.floyd_cparse_trees.specs.declared.expressions.StepOp.{StepOp}
use Rattle.floyd_elab_names.specs.Refusals.{ill_typed}
use Rattle.floyd_elab_names.specs.Refusing.{Refusing, and_then, ◌>>=◌, pure, unless}
use Rattle.floyd_elab_names.specs.Scopes.{Scopes}
use Rattle.floyd_ctyping.specs.Operators as o
use Rattle.floyd_clight.specs.declared.syntax.Stmt.{Stmt}
use Rattle.floyd_elab_expressions.specs.declared.progress.Progress.{Progress}
use Rattle.floyd_elab_expressions.specs.Clight.{Translated, cast_into, store}
use Rattle.floyd_elab_expressions.specs.Progress.{Elaborating}
use Rattle.floyd_elab_expressions.specs.Expressions.{read, binary_operator, rvalue}
use Rattle.floyd_elab_expressions.specs.Behind.{onto, put_behind}
use Rattle.floyd_elab_effects.specs.Effects.{send_to, as_target, update, step_op, literal_one, step_effect, right_side, assignment, first_assignment}
use Rattle.floyd_elab_effects.specs.CallClauses.{send_operation, on_target}
use Rattle.floyd_elab_expressions.proofs.Chains.{goes, stops}
use Rattle.floyd_elab_expressions.proofs.Naturals.{natural_read, placed_binary}

-- Chains that end in statements.

pub appended_through : {S A : Type 0} (there : List Stmt) (r : Result (A × S) Refusal) (k l : A → Refusing S (List Stmt)) → ((a : A) (s : S) → put_behind there (k a s) ≡ l a s) → put_behind there (and_then r k) ≡ and_then r l
appended_through there (Ok r) k l more = more r.0 r.1
appended_through there (Err refusal) k l more = refl

pub appended_followed : {S : Type 0} (there : List Stmt) (r : Result (Translated × S) Refusal) (k : Translated → Refusing S (List Stmt)) → ((a : Translated) (s : S) → put_behind there (k a s) ≡ k (record a { before = there ++ a.before }) s) → put_behind there (and_then r k) ≡ and_then (onto there r) k
appended_followed there (Ok r) k more = more r.0 r.1
appended_followed there (Err refusal) k more = refl

pub regrouped : {S A B C : Type 0} (r : Result (A × S) Refusal) (k : A → Refusing S B) (l : B → Refusing S C) → and_then (and_then r k) l ≡ and_then r (λ a. k a >>= l)
regrouped (Ok r) k l = refl
regrouped (Err refusal) k l = refl

abbrev pub IsLeading : (Translated → Elaborating (List Stmt)) → Type 0
IsLeading k = (there : List Stmt) (a : Translated) (p : Progress) → put_behind there (k a p) ≡ k (record a { before = there ++ a.before }) p

pub effect_goes : (r : Result (Translated × Progress) Refusal) (k : Translated → Elaborating (List Stmt)) → IsLeading k → (there : List Stmt) (a : Translated) (q : Progress) → onto there r ≡ Ok (a, q) → put_behind there (and_then r k) ≡ k a q
effect_goes r k lead there a q e = appended_followed there r k (λ b s. lead there b s) ∙ goes (onto there r) k a q e

pub effect_stops : (r : Result (Translated × Progress) Refusal) (k : Translated → Elaborating (List Stmt)) → IsLeading k → (there : List Stmt) (h : Halt) → Stops h (onto there r) → Stops h (put_behind there (and_then r k))
effect_stops r k lead there h e = subst (Stops h) (sym (appended_followed there r k (λ b s. lead there b s))) (stops h (onto there r) k e)

-- What is judged first.

pub targeted_goes : (place : Place) (k : Translated → Elaborating (List Stmt)) (a : Translated) (u : Unit {0}) (p : Progress) → unless (ill_typed place) (o.is_target a.operand) p ≡ Ok (u, p) → on_target place k a p ≡ k a p
targeted_goes place k a u p e = ap (λ (r : Result (Unit {0} × Progress) Refusal). and_then (and_then r (λ v. pure {S = Progress} a)) k) e

pub targeted_stops : (place : Place) (k : Translated → Elaborating (List Stmt)) (a : Translated) (p : Progress) (h : Halt) → Stops h (unless (ill_typed place) (o.is_target a.operand) p) → Stops h (on_target place k a p)
targeted_stops place k a p h e = stops h (as_target place a p) k (stops h (unless (ill_typed place) (o.is_target a.operand) p) (λ v. pure {S = Progress} a) e)

leading_targeted : (place : Place) (k : Translated → Elaborating (List Stmt)) → IsLeading k → IsLeading (on_target place k)
leading_targeted place k lead there a p = by (o.is_target a.operand)
  where
    by : (b : Bool) → put_behind there (and_then (and_then (unless (ill_typed place) b p) (λ v. pure {S = Progress} a)) k) ≡ and_then (and_then (unless (ill_typed place) b p) (λ v. pure {S = Progress} (let c : Translated = record a { before = there ++ a.before } in c))) k
    by true = lead there a p
    by false = refl

-- Assignments.

leading_sent : (place : Place) (target value : Translated) (there before : List Stmt) (p : Progress) → put_behind there (send_to place target value before p) ≡ send_to place target value (there ++ before) p
leading_sent place target value there before p =
    appended_through there (unless (ill_typed place) (o.fits_into target.operand.ctype value.operand) p) _ _ (λ u s.
    ap (λ (l : List Stmt). let made : Result (List Stmt × Progress) Refusal = Ok (l, s) in made)
    (sym (append_assoc there before (store target.expr (cast_into target.operand.ctype value) ∷ []))))

leading_assigned : (s : Scopes) (place : Place) (r : CExpr) → IsLeading (assignment s place None r)
leading_assigned s place r there a p =
    appended_through there (right_side s r p) _ _ (λ v q.
    leading_sent place a v there (a.before ++ v.before) q
    ∙ ap (λ (l : List Stmt). send_to place a v l q) (sym (append_assoc there a.before v.before)))

leading_operation : (op : IntOp) (place : Place) (target a b : Translated) (there : List Stmt) (p : Progress) → put_behind there (send_operation op place target a b p) ≡ send_operation op place target (record a { before = there ++ a.before }) b p
leading_operation op place target a b there p =
    appended_followed there (binary_operator op place a b p) (λ sum. send_to place target sum sum.before) (λ sum q. leading_sent place target sum there sum.before q)
    ∙ ap (λ r. and_then r (λ sum. send_to place target sum sum.before)) ((placed_binary op place).0 there a b p)

leading_updated : (op : IntOp) (place : Place) (value : Elaborating Translated) → IsLeading (λ target. update op place target value)
leading_updated op place value there target p =
    appended_followed there (read target p) (λ a. value >>= λ b. send_operation op place target a b) (λ a q.
    appended_through there (value q) _ _ (λ b s. leading_operation op place target a b there s))
    ∙ ap (λ r. and_then r (λ a. value >>= λ b. send_operation op place target a b)) (natural_read there target p)

pub leading_stepped : (op : StepOp) (place : Place) → IsLeading (step_effect op place)
leading_stepped op place there target p = by (o.is_target target.operand)
  where
    by : (b : Bool) → put_behind there (and_then (and_then (unless (ill_typed place) b p) (λ v. pure {S = Progress} target)) (λ t. update (step_op op) place target (pure literal_one))) ≡ and_then (and_then (unless (ill_typed place) b p) (λ v. pure {S = Progress} (let c : Translated = record target { before = there ++ target.before } in c))) (λ t. update (step_op op) place (record target { before = there ++ target.before }) (pure literal_one))
    by true = leading_updated (step_op op) place (pure literal_one) there target p
    by false = refl

leading_assignment : (s : Scopes) (place : Place) (op : Option IntOp) (r : CExpr) → IsLeading (assignment s place op r)
leading_assignment s place None r there a p = leading_assigned s place r there a p
leading_assignment s place (Some op) r there a p = leading_updated op place (rvalue s r) there a p

pub leading_assign : (s : Scopes) (place : Place) (op : Option IntOp) (r : CExpr) → IsLeading (on_target place (assignment s place op r))
leading_assign s place op r = leading_targeted place (assignment s place op r) (leading_assignment s place op r)

-- an initial value, behind statements that were there before
pub first_leads : (s : Scopes) (place : Place) (r : CExpr) (there : List Stmt) (target : Translated) (p : Progress) → put_behind there (first_assignment s place r (record target { before = [] }) p) ≡ on_target place (assignment s place None r) (record target { before = there }) p
first_leads s place r there target p =
    leading_assign s place None r there (record target { before = [] }) p
    ∙ ap (λ (l : List Stmt). on_target place (assignment s place None r) (record target { before = l }) p) (append-nil there)

-- What the program does in turn.

assigned_through : (place : Place) (target : Translated) (x : Result (Translated × Progress) Refusal) → and_then x (λ w. send_to place target w (target.before ++ w.before)) ≡ and_then (onto target.before x) (λ w. send_to place target w w.before)
assigned_through place target (Ok x) = refl
assigned_through place target (Err refusal) = refl

pub assigned_goes : (s : Scopes) (place : Place) (r : CExpr) (target v : Translated) (p q : Progress) → onto target.before (right_side s r p) ≡ Ok (v, q) → assignment s place None r target p ≡ send_to place target v v.before q
assigned_goes s place r target v p q e = assigned_through place target (right_side s r p) ∙ goes (onto target.before (right_side s r p)) (λ w. send_to place target w w.before) v q e

pub assigned_stops : (s : Scopes) (place : Place) (r : CExpr) (target : Translated) (p : Progress) (h : Halt) → Stops h (onto target.before (right_side s r p)) → Stops h (assignment s place None r target p)
assigned_stops s place r target p h e = subst (Stops h) (sym (assigned_through place target (right_side s r p))) (stops h (onto target.before (right_side s r p)) (λ w. send_to place target w w.before) e)

moved : (op : IntOp) (place : Place) (target a : Translated) (x : Result (Translated × Progress) Refusal) → and_then x (λ b. send_operation op place target a b) ≡ and_then (onto a.before x) (λ b. send_operation op place target (record a { before = [] }) b)
moved op place target a (Ok x) = refl
moved op place target a (Err refusal) = refl

pub updated_goes : (op : IntOp) (place : Place) (target a b : Translated) (value : Elaborating Translated) (p q r : Progress) → read target p ≡ Ok (a, q) → onto a.before (value q) ≡ Ok (b, r) → update op place target value p ≡ send_operation op place target (record a { before = [] }) b r
updated_goes op place target a b value p q r e f =
    goes (read target p) (λ x. value >>= λ y. send_operation op place target x y) a q e
    ∙ moved op place target a (value q)
    ∙ goes (onto a.before (value q)) (λ y. send_operation op place target (record a { before = [] }) y) b r f

pub updated_stops : (op : IntOp) (place : Place) (target : Translated) (value : Elaborating Translated) (p : Progress) (h : Halt) → Stops h (read target p) → Stops h (update op place target value p)
updated_stops op place target value p h e = stops h (read target p) (λ x. value >>= λ y. send_operation op place target x y) e

pub updated_stops_later : (op : IntOp) (place : Place) (target a : Translated) (value : Elaborating Translated) (p q : Progress) (h : Halt) → read target p ≡ Ok (a, q) → Stops h (onto a.before (value q)) → Stops h (update op place target value p)
updated_stops_later op place target a value p q h e f =
    subst (Stops h) (sym (goes (read target p) (λ x. value >>= λ y. send_operation op place target x y) a q e ∙ moved op place target a (value q)))
    (stops h (onto a.before (value q)) (λ y. send_operation op place target (record a { before = [] }) y) f)

pub stepped_goes : (op : StepOp) (place : Place) (target a : Translated) (u : Unit {0}) (p q : Progress) → unless (ill_typed place) (o.is_target target.operand) p ≡ Ok (u, p) → read target p ≡ Ok (a, q) → step_effect op place target p ≡ send_operation (step_op op) place target (record a { before = [] }) (record literal_one { before = a.before }) q
stepped_goes op place target a u p q e f =
    targeted_goes place (λ t. update (step_op op) place target (pure literal_one)) target u p e
    ∙ updated_goes (step_op op) place target a (record literal_one { before = a.before }) (pure literal_one) p q q f
    (ap (λ (l : List Stmt). let made : Result (Translated × Progress) Refusal = Ok (record literal_one { before = l }, q) in made) (append-nil a.before))

pub stepped_stops : (op : StepOp) (place : Place) (target : Translated) (p : Progress) (h : Halt) → Stops h (unless (ill_typed place) (o.is_target target.operand) p) → Stops h (step_effect op place target p)
stepped_stops op place target p h e = targeted_stops place (λ t. update (step_op op) place target (pure literal_one)) target p h e

pub stepped_stops_later : (op : StepOp) (place : Place) (target : Translated) (u : Unit {0}) (p : Progress) (h : Halt) → unless (ill_typed place) (o.is_target target.operand) p ≡ Ok (u, p) → Stops h (read target p) → Stops h (step_effect op place target p)
stepped_stops_later op place target u p h e f =
    subst (Stops h) (sym (targeted_goes place (λ t. update (step_op op) place target (pure literal_one)) target u p e))
    (updated_stops (step_op op) place target (pure literal_one) p h f)
