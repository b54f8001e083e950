-- Formulas that are put behind others, some after the other.
use Rattle.std.proofs.Common.{◌≡◌, List, [], ◌∷◌, ◌++◌, Result, Ok, Err, ap, sym, subst, ◌∙◌, refl}
use Rattle.std.specs.Result.{IsErrAnd}
use Rattle.floyd_text.specs.declared.refusal.No.{No}
use Rattle.floyd_text.specs.declared.refusal.RuleStop.{RuleStop}
use Rattle.floyd_text.specs.declared.refusal.RuleStop.TheVariants as r
use Rattle.floyd_text.specs.Gives.{RuleGives, RuleStops}
use Rattle.floyd_tree.specs.Formulas.{PlainFormula}
use Rattle.floyd_fieldpath.specs.Written.{on_ok}
use Rattle.floyd_symexpr_rows.specs.Formulas.{said, saying}

-- what follows once something is there
pub goes_on : {A B C : Type 0} (view : C → B) (d : Result A No) (f : A → Result B No) (a : A) (x : Result C RuleStop) → d ≡ Ok a → RuleGives view x (f a) → RuleGives view x (on_ok d f)
goes_on view d f a x e h = subst (λ y. RuleGives view x (on_ok y f)) (sym e) h

pub stops : {A B : Type 0} (stop : RuleStop) (d : Result A No) (f : A → Result B No) → RuleStops stop d → RuleStops stop (on_ok d f)
stops (r.No refusal) d f e = ap (λ y. on_ok y f) e
stops r.Memory d f e = tt

-- formulas behind others, and then more
append_step : (all fs gs : List PlainFormula) (d : Result PlainFormula No) → ((behind : List PlainFormula) → saying behind (fs ++ gs) ≡ on_ok (saying behind fs) (λ more. saying more gs)) → on_ok d (λ g. saying (all ++ g ∷ []) (fs ++ gs)) ≡ on_ok (on_ok d (λ g. saying (all ++ g ∷ []) fs)) (λ more. saying more gs)
append_step all fs gs (Ok g) rest = rest (all ++ g ∷ [])
append_step all fs gs (Err refusal) rest = refl

pub saying_append : (all fs gs : List PlainFormula) → saying all (fs ++ gs) ≡ on_ok (saying all fs) (λ more. saying more gs)
saying_append all [] gs = refl
saying_append all (f ∷ fs) gs = append_step all fs gs (said f) (λ behind. saying_append behind fs gs)

pub more_said : {C : Type 0} (view : C → List PlainFormula) (all fs gs more : List PlainFormula) (x : Result C RuleStop) → saying all fs ≡ Ok more → RuleGives view x (saying more gs) → RuleGives view x (saying all (fs ++ gs))
more_said view all fs gs more x e h = subst (RuleGives view x) (sym (saying_append all fs gs)) (goes_on view (saying all fs) (λ more. saying more gs) more x e h)

pub said_stops : (stop : RuleStop) (all fs gs : List PlainFormula) → RuleStops stop (saying all fs) → RuleStops stop (saying all (fs ++ gs))
said_stops stop all fs gs e = subst (RuleStops stop) (sym (saying_append all fs gs)) (stops stop (saying all fs) (λ more. saying more gs) e)

-- the same of one formula before others
pub one_more : {C : Type 0} (view : C → List PlainFormula) (all : List PlainFormula) (f : PlainFormula) (gs more : List PlainFormula) (x : Result C RuleStop) → saying all (f ∷ []) ≡ Ok more → RuleGives view x (saying more gs) → RuleGives view x (saying all (f ∷ gs))
one_more view all f gs more x e h = more_said view all (f ∷ []) gs more x e h

pub one_stops : (stop : RuleStop) (all : List PlainFormula) (f : PlainFormula) (gs : List PlainFormula) → RuleStops stop (saying all (f ∷ [])) → RuleStops stop (saying all (f ∷ gs))
one_stops stop all f gs e = said_stops stop all (f ∷ []) gs e

-- where the program stops, what it answers is why
pub stopped : {B C : Type 0} (view : C → B) (x : Result C RuleStop) (stop : RuleStop) (d : Result B No) → IsErrAnd x (λ y. y ≡ stop) → RuleStops stop d → RuleGives view x d
stopped view (Ok c) stop d e h = absurd e
stopped view (Err y) stop d e h = subst (λ (z : RuleStop). RuleStops z d) (sym e) h
