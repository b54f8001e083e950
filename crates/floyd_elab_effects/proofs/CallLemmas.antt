-- Calls as the program makes them.
use Rattle.std.proofs.Common.{◌≡◌, ℕ, Bool, true, false, List, [], ◌∷◌, ◌++◌, length, refl, ap, sym, ◌∙◌, subst}
use denote.Hole.Carrier.{hidden}
use Rattle.std.specs.Prelude.{Result, Ok, Err, Option, Some, None, option_and_then}
use Rattle.std.proofs.lemmas.Bool.{eq-eqb}
use Rattle.std.proofs.lemmas.List.{append_assoc, append-nil}
use Rattle.floyd_text.specs.declared.place.Place.{Place}
use Rattle.floyd_text.specs.declared.refusal.Refusal.{Refusal}
use Rattle.floyd_text.specs.declared.refusal.Halt.{Halt}
use Rattle.floyd_text.specs.Gives.{Stops}
use Rattle.floyd_ctypes.specs.declared.ctype.CType.{CType, Function}
use Rattle.floyd_ctypes.specs.declared.ctype.CType.TheBlock.{shape-the_row-CType-0, hidden-the_row-CType-0, shape-the_row-CType-1, hidden-the_row-CType-1, items_hidden-the_row-CType-1}
use Rattle.floyd_cparse_trees.specs.declared.expressions.CExpr.{CExpr, Row_of-CExpr, end_of-CExpr, more_of-CExpr, items-the_row-CExpr}
use Rattle.floyd_cparse_trees.specs.declared.expressions.CExpr.TheBlock.{shape-the_row-CExpr-1, hidden-the_row-CExpr-1, items_hidden-the_row-CExpr-1}
use Rattle.floyd_elab_names.specs.Refusals.{ill_typed}
use Rattle.floyd_elab_names.specs.Refusing.{and_then, ◌>>=◌, pure, unless, or_refuse}
use Rattle.floyd_elab_names.specs.Scopes.{Scopes}
use Rattle.floyd_ctyping.specs.Operators as o
use Rattle.floyd_ctyping.specs.Operators.{signature_of}
use Rattle.floyd_clight.specs.declared.syntax.Expr.{Expr}
use Rattle.floyd_clight.specs.declared.syntax.Stmt.{Stmt}
use Rattle.floyd_elab_expressions.specs.declared.progress.Progress.{Progress}
use Rattle.floyd_elab_expressions.specs.Clight.{Translated, cast_into}
use Rattle.floyd_elab_expressions.specs.Progress.{Elaborating}
use Rattle.floyd_elab_expressions.specs.Expressions.{rvalue}
use Rattle.floyd_elab_expressions.specs.Behind.{onto}
use Rattle.floyd_elab_effects.specs.Effects.{Calling, argument_row, parts_of_call}
use Rattle.floyd_elab_effects.specs.CallClauses.{fit_then, one_argument, all_arguments, arguments_to, signature_in, whole_call, callee_then, call_of, one_behind, all_behind, to_behind, call_behind}
use Rattle.floyd_elab_expressions.proofs.Chains.{goes, stops}
use Rattle.floyd_elab_expressions.proofs.Bridges.{shape_length}
use Rattle.floyd_elab_effects.proofs.Leading.{regrouped}

pub signature_of_function : (ps : List CType) (r : CType) → signature_of (Function ps r) ≡ Some (ps, r)
unfolding shape-the_row-CType-0 hidden-the_row-CType-0 shape-the_row-CType-1 hidden-the_row-CType-1 hidden
signature_of_function ps r = ap (λ (xs : List CType). Some (xs, r)) (items_hidden-the_row-CType-1 ps)

pub function_counted : (n : ℕ) (t : CType) (ps qs : List CType) (r u : CType) → t ≡ Function ps r → qs ≡ ps → u ≡ r → length ps ≡ n → option_and_then (o.with_count n) (signature_of t) ≡ Some (qs, u)
function_counted n t ps qs r u is first second counted =
    ap (λ (x : CType). option_and_then (o.with_count n) (signature_of x)) is
    ∙ ap (λ (x : Option (List CType × CType)). option_and_then (o.with_count n) x) (signature_of_function ps r)
    ∙ ap (λ (b : Bool). o.when b (ps, r)) (eq-eqb _ _ counted)
    ∙ ap (λ (xs : List CType). let found : Option (List CType × CType) = Some (xs, r) in found) (sym first)
    ∙ ap (λ (x : CType). let found : Option (List CType × CType) = Some (qs, x) in found) (sym second)

-- Rows of arguments are lists.

-- behind one argument
abbrev pub rest_then : Elaborating (List Stmt × List Expr) → Translated → CType → Elaborating (List Stmt × List Expr)
rest_then rest a t = rest >>= λ more. pure (a.before ++ more.0, cast_into t a ∷ more.1)

passed_next : (place : Place) (t : CType) (rest others : Elaborating (List Stmt × List Expr)) → ((q : Progress) → rest q ≡ others q) → (r : Result (Translated × Progress) Refusal) →
    and_then r (λ a. unless (ill_typed place) (o.fits_into t a.operand) >>= λ v. rest_then rest a t)
    ≡ and_then (and_then r (fit_then place t)) (λ one. others >>= λ more. pure (one.0 ++ more.0, one.1 ∷ more.1))
passed_next place t rest others same (Ok r) = judged (unless (ill_typed place) (o.fits_into t r.0.operand) r.1)
  where
    judged : (x : Result (Unit {0} × Progress) Refusal) → and_then x (λ v. rest_then rest r.0 t) ≡ and_then (and_then {A = Unit {0}} {B = List Stmt × Expr} x (λ v. pure (r.0.before, cast_into t r.0))) (λ one. others >>= λ more. pure (one.0 ++ more.0, one.1 ∷ more.1))
    judged (Ok x) = ap (λ (y : Result ((List Stmt × List Expr) × Progress) Refusal). and_then {B = List Stmt × List Expr} y (λ more. pure (r.0.before ++ more.0, cast_into t r.0 ∷ more.1))) (same x.1)
    judged (Err refusal) = refl
passed_next place t rest others same (Err refusal) = refl

passed_row : {m : _} (s : Scopes) (place : Place) (ts : List CType) (row : Row_of-CExpr m) (p : Progress) → argument_row s place ts row p ≡ all_arguments s place ts (items-the_row-CExpr m row) p
passed_row s place [] row p = refl
passed_row s place (t ∷ ts) end_of-CExpr p = refl
passed_row s place (t ∷ ts) (more_of-CExpr e rest) p = passed_next place t (argument_row s place ts rest) (all_arguments s place ts (items-the_row-CExpr _ rest)) (λ q. passed_row s place ts rest q) (rvalue s e p)

flat_call : {m : _} (s : Scopes) (place : Place) (row : Row_of-CExpr m) (a : Translated) (found : Option (List CType × CType)) (q : Progress) →
    and_then (or_refuse (ill_typed place) found q) (λ signature. argument_row s place signature.0 row >>= λ all. pure (whole_call a (all, signature.1)))
    ≡ and_then (and_then (or_refuse (ill_typed place) found q) (λ signature. all_arguments s place signature.0 (items-the_row-CExpr m row) >>= λ all. pure (all, signature.1))) (λ all. pure (whole_call a all))
flat_call {m} s place row a (Some signature) q =
    ap (λ (x : Result ((List Stmt × List Expr) × Progress) Refusal). and_then x (λ all. pure (whole_call a (all, signature.1)))) (passed_row s place signature.0 row q)
    ∙ sym (regrouped (all_arguments s place signature.0 (items-the_row-CExpr m row) q) (λ all. pure (all, signature.1)) (λ all. pure (whole_call a all)))
flat_call s place row a None q = refl

flat_callee : {m : _} (s : Scopes) (place : Place) (row : Row_of-CExpr m) (r : Result (Translated × Progress) Refusal) →
    and_then r (λ a. or_refuse (ill_typed place) (o.callee_signature (length (items-the_row-CExpr m row)) a.operand) >>= λ signature. argument_row s place signature.0 row >>= λ all. pure (whole_call a (all, signature.1)))
    ≡ and_then r (callee_then s place (items-the_row-CExpr m row))
flat_callee {m} s place row (Ok r) = flat_call s place row r.0 (o.callee_signature (length (items-the_row-CExpr m row)) r.0.operand) r.1
flat_callee s place row (Err refusal) = refl

parts_of_call_row : {m : _} (s : Scopes) (f : CExpr) (place : Place) (n : ℕ) (row : Row_of-CExpr m) (p : Progress) → n ≡ length (items-the_row-CExpr m row) → parts_of_call s f place n row p ≡ call_of s f place (items-the_row-CExpr m row) p
parts_of_call_row {m} s f place n row p e = ap (λ k. parts_of_call s f place k row p) e ∙ flat_callee s place row (rvalue s f p)

pub call_row : (s : Scopes) (f : CExpr) (place : Place) (arguments : List CExpr) (p : Progress) → parts_of_call s f place (length (shape-the_row-CExpr-1 arguments)) (hidden-the_row-CExpr-1 arguments) p ≡ call_of s f place arguments p
call_row s f place arguments p =
    let same = items_hidden-the_row-CExpr-1 arguments in
    parts_of_call_row s f place (length (shape-the_row-CExpr-1 arguments)) (hidden-the_row-CExpr-1 arguments) p (shape_length arguments ∙ sym (ap (λ (es : List CExpr). length es) same)) ∙ ap (λ (es : List CExpr). call_of s f place es p) same

-- One argument.

argument_leads : (place : Place) (t : CType) (there : List Stmt) (r : Result (Translated × Progress) Refusal) → one_behind there (and_then r (fit_then place t)) ≡ and_then (onto there r) (fit_then place t)
argument_leads place t there (Ok r) = by (o.fits_into t r.0.operand)
  where
    by : (b : Bool) → one_behind there (and_then (unless (ill_typed place) b r.1) (λ v. pure (r.0.before, cast_into t r.0))) ≡ and_then (unless (ill_typed place) b r.1) (λ v. pure (there ++ r.0.before, cast_into t r.0))
    by true = refl
    by false = refl
argument_leads place t there (Err refusal) = refl

pub argument_goes : (s : Scopes) (place : Place) (t : CType) (e : CExpr) (there : List Stmt) (a : Translated) (p q : Progress) → onto there (rvalue s e p) ≡ Ok (a, q) → one_behind there (one_argument s place t e p) ≡ fit_then place t a q
argument_goes s place t e there a p q f =
    argument_leads place t there (rvalue s e p)
    ∙ goes (onto there (rvalue s e p)) (fit_then place t) a q f

pub argument_stops : (s : Scopes) (place : Place) (t : CType) (e : CExpr) (there : List Stmt) (p : Progress) (h : Halt) → Stops h (onto there (rvalue s e p)) → Stops h (one_behind there (one_argument s place t e p))
argument_stops s place t e there p h f = subst (Stops h) (sym (argument_leads place t there (rvalue s e p))) (stops h (onto there (rvalue s e p)) (fit_then place t) f)

-- One argument after the other.

turned : (s : Scopes) (place : Place) (ts : List CType) (es : List CExpr) (there : List Stmt) (all : List Expr) (r : Result ((List Stmt × Expr) × Progress) Refusal) →
    all_behind there all (and_then r (λ one. all_arguments s place ts es >>= λ more. pure (one.0 ++ more.0, one.1 ∷ more.1)))
    ≡ and_then (one_behind there r) (λ one. λ q. all_behind one.0 (all ++ one.1 ∷ []) (all_arguments s place ts es q))
turned s place ts es there all (Ok r) = by (all_arguments s place ts es r.1)
  where
    by : (x : Result ((List Stmt × List Expr) × Progress) Refusal) → all_behind there all (and_then x (λ more. pure (r.0.0 ++ more.0, r.0.1 ∷ more.1))) ≡ all_behind (there ++ r.0.0) (all ++ r.0.1 ∷ []) x
    by (Ok x) =
        ap (λ (l : List Stmt). let done : Result ((List Stmt × List Expr) × Progress) Refusal = Ok ((l, all ++ r.0.1 ∷ x.0.1), x.1) in done) (sym (append_assoc there r.0.0 x.0.0))
        ∙ ap (λ (l : List Expr). let done : Result ((List Stmt × List Expr) × Progress) Refusal = Ok (((there ++ r.0.0) ++ x.0.0, l), x.1) in done) (sym (append_assoc all (r.0.1 ∷ []) x.0.1))
    by (Err refusal) = refl
turned s place ts es there all (Err refusal) = refl

pub turn : (s : Scopes) (place : Place) (t : CType) (ts : List CType) (e : CExpr) (es : List CExpr) (there : List Stmt) (all : List Expr) (one : List Stmt × Expr) (p q : Progress) → one_behind there (one_argument s place t e p) ≡ Ok (one, q) → all_behind there all (all_arguments s place (t ∷ ts) (e ∷ es) p) ≡ all_behind one.0 (all ++ one.1 ∷ []) (all_arguments s place ts es q)
turn s place t ts e es there all one p q f =
    turned s place ts es there all (one_argument s place t e p)
    ∙ goes (one_behind there (one_argument s place t e p)) (λ one. λ q. all_behind one.0 (all ++ one.1 ∷ []) (all_arguments s place ts es q)) one q f

pub turn_stops : (s : Scopes) (place : Place) (t : CType) (ts : List CType) (e : CExpr) (es : List CExpr) (there : List Stmt) (all : List Expr) (p : Progress) (h : Halt) → Stops h (one_behind there (one_argument s place t e p)) → Stops h (all_behind there all (all_arguments s place (t ∷ ts) (e ∷ es) p))
turn_stops s place t ts e es there all p h f =
    subst (Stops h) (sym (turned s place ts es there all (one_argument s place t e p)))
    (stops h (one_behind there (one_argument s place t e p)) (λ one. λ q. all_behind one.0 (all ++ one.1 ∷ []) (all_arguments s place ts es q)) f)

both_empty : (there : List Stmt) (all : List Expr) (p : Progress) → all_behind {S = Progress} there all (Ok (([], []), p)) ≡ Ok ((there, all), p)
both_empty there all p =
    ap (λ (l : List Stmt). let done : Result ((List Stmt × List Expr) × Progress) Refusal = Ok ((l, all ++ []), p) in done) (append-nil there)
    ∙ ap (λ (l : List Expr). let done : Result ((List Stmt × List Expr) × Progress) Refusal = Ok ((there, l), p) in done) (append-nil all)

pub no_argument : (s : Scopes) (place : Place) (ts : List CType) (there : List Stmt) (all : List Expr) (p : Progress) → all_behind there all (all_arguments s place ts [] p) ≡ Ok ((there, all), p)
no_argument s place [] there all p = both_empty there all p
no_argument s place (t ∷ ts) there all p = both_empty there all p

pub no_parameter : (s : Scopes) (place : Place) (es : List CExpr) (there : List Stmt) (all : List Expr) (p : Progress) → all_behind there all (all_arguments s place [] es p) ≡ Ok ((there, all), p)
no_parameter s place es there all p = both_empty there all p

-- The call.

calls_lead : (s : Scopes) (place : Place) (arguments : List CExpr) (there : List Stmt) (r : Result (Translated × Progress) Refusal) → call_behind there (and_then r (callee_then s place arguments)) ≡ and_then (onto there r) (callee_then s place arguments)
calls_lead s place arguments there (Ok r) = by (arguments_to s place (o.value_type r.0.operand) arguments r.1)
  where
    by : (x : Result (((List Stmt × List Expr) × CType) × Progress) Refusal) → call_behind there (and_then x (λ all. pure (whole_call r.0 all))) ≡ and_then x (λ all. pure (whole_call (record r.0 { before = there ++ r.0.before }) all))
    by (Ok x) = ap (λ (l : List Stmt). let done : Result (Calling × Progress) Refusal = Ok (record { before = l; callee = r.0.expr; arguments = x.0.0.1; result = x.0.1 }, x.1) in done) (sym (append_assoc there r.0.before x.0.0.0))
    by (Err refusal) = refl
calls_lead s place arguments there (Err refusal) = refl

pub call_goes : (s : Scopes) (f : CExpr) (place : Place) (arguments : List CExpr) (there : List Stmt) (a : Translated) (p q : Progress) → onto there (rvalue s f p) ≡ Ok (a, q) → call_behind there (call_of s f place arguments p) ≡ callee_then s place arguments a q
call_goes s f place arguments there a p q e = calls_lead s place arguments there (rvalue s f p) ∙ goes (onto there (rvalue s f p)) (callee_then s place arguments) a q e

pub call_stops : (s : Scopes) (f : CExpr) (place : Place) (arguments : List CExpr) (there : List Stmt) (p : Progress) (h : Halt) → Stops h (onto there (rvalue s f p)) → Stops h (call_behind there (call_of s f place arguments p))
call_stops s f place arguments there p h e = subst (Stops h) (sym (calls_lead s place arguments there (rvalue s f p))) (stops h (onto there (rvalue s f p)) (callee_then s place arguments) e)

collected : (a : Translated) (x : Result (((List Stmt × List Expr) × CType) × Progress) Refusal) → and_then x (λ all. pure (whole_call a all)) ≡ and_then (to_behind a.before x) (λ all. pure (whole_call (record a { before = [] }) all))
collected a (Ok x) = refl
collected a (Err refusal) = refl

pub callee_goes : (s : Scopes) (place : Place) (arguments : List CExpr) (a : Translated) (all : (List Stmt × List Expr) × CType) (q r : Progress) → to_behind a.before (arguments_to s place (o.value_type a.operand) arguments q) ≡ Ok (all, r) → callee_then s place arguments a q ≡ Ok (whole_call (record a { before = [] }) all, r)
callee_goes s place arguments a all q r e =
    collected a (arguments_to s place (o.value_type a.operand) arguments q)
    ∙ goes (to_behind a.before (arguments_to s place (o.value_type a.operand) arguments q)) (λ x. pure (whole_call (record a { before = [] }) x)) all r e

pub callee_stops : (s : Scopes) (place : Place) (arguments : List CExpr) (a : Translated) (q : Progress) (h : Halt) → Stops h (to_behind a.before (arguments_to s place (o.value_type a.operand) arguments q)) → Stops h (callee_then s place arguments a q)
callee_stops s place arguments a q h e =
    subst (Stops h) (sym (collected a (arguments_to s place (o.value_type a.operand) arguments q)))
    (stops h (to_behind a.before (arguments_to s place (o.value_type a.operand) arguments q)) (λ x. pure (whole_call (record a { before = [] }) x)) e)

to_leads : (s : Scopes) (place : Place) (arguments : List CExpr) (there : List Stmt) (t : CType) (x : Result ((List Stmt × List Expr) × Progress) Refusal) → to_behind there (and_then x (λ all. pure (all, t))) ≡ and_then (all_behind there [] x) (λ all. pure (all, t))
to_leads s place arguments there t (Ok x) = refl
to_leads s place arguments there t (Err refusal) = refl

pub signature_goes : (s : Scopes) (place : Place) (arguments : List CExpr) (there : List Stmt) (t : CType) (signature : List CType × CType) (q : Progress) → signature_in (length arguments) t ≡ Some signature → to_behind there (arguments_to s place t arguments q) ≡ and_then (all_behind there [] (all_arguments s place signature.0 arguments q)) (λ all. pure (all, signature.1))
signature_goes s place arguments there t signature q e =
    ap (λ (found : Option (List CType × CType)). to_behind there (and_then (or_refuse (ill_typed place) found q) (λ signature. all_arguments s place signature.0 arguments >>= λ all. pure (all, signature.1)))) e
    ∙ to_leads s place arguments there signature.1 (all_arguments s place signature.0 arguments q)

pub signature_is_none : (s : Scopes) (place : Place) (arguments : List CExpr) (there : List Stmt) (t : CType) (q : Progress) → signature_in (length arguments) t ≡ None → to_behind there (arguments_to s place t arguments q) ≡ Err (ill_typed place)
signature_is_none s place arguments there t q e =
    ap (λ (found : Option (List CType × CType)). to_behind there (and_then (or_refuse (ill_typed place) found q) (λ signature. all_arguments s place signature.0 arguments >>= λ all. pure (all, signature.1)))) e

pub signature_stops : (s : Scopes) (place : Place) (arguments : List CExpr) (there : List Stmt) (t : CType) (signature : List CType × CType) (q : Progress) (h : Halt) → signature_in (length arguments) t ≡ Some signature → Stops h (all_behind there [] (all_arguments s place signature.0 arguments q)) → Stops h (to_behind there (arguments_to s place t arguments q))
signature_stops s place arguments there t signature q h e f =
    subst (Stops h) (sym (signature_goes s place arguments there t signature q e))
    (stops h (all_behind there [] (all_arguments s place signature.0 arguments q)) (λ all. pure (all, signature.1)) f)

pub signature_found : (s : Scopes) (place : Place) (arguments : List CExpr) (there : List Stmt) (t : CType) (signature : List CType × CType) (all : List Stmt × List Expr) (q r : Progress) → signature_in (length arguments) t ≡ Some signature → all_behind there [] (all_arguments s place signature.0 arguments q) ≡ Ok (all, r) → to_behind there (arguments_to s place t arguments q) ≡ Ok ((all, signature.1), r)
signature_found s place arguments there t signature all q r e f =
    signature_goes s place arguments there t signature q e
    ∙ goes (all_behind there [] (all_arguments s place signature.0 arguments q)) (λ x. pure (x, signature.1)) all r f
