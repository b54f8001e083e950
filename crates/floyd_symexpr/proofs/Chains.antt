-- What follows an operand, by what the operand gave.
use Rattle.std.proofs.Common.{◌≡◌, Result, Ok, Err, refl, sym, subst}
use Rattle.std.specs.Result.{IsErrAnd}
use Rattle.floyd_text.specs.declared.refusal.No.{No}
use Rattle.floyd_text.specs.declared.refusal.RuleStop.{RuleStop}
use Rattle.floyd_text.specs.Gives.{RuleGives, RuleStops}
use Rattle.floyd_fieldpath.specs.Written.{on_ok}
use Rattle.floyd_symexpr_rows.proofs.SayingLemmas.{stops}

-- an answer that is that of an equal definition
pub gives_as : {B C : Type 0} (view : C → B) (r : Result C RuleStop) (d w : Result B No) → d ≡ w → RuleGives view r w → RuleGives view r d
gives_as view r d w e h = subst (RuleGives view r) (sym e) h

pub stopped : {B C : Type 0} (view : C → B) (r : Result C RuleStop) (h : RuleStop) (w : Result B No) → IsErrAnd r (λ x. x ≡ h) → RuleStops h w → RuleGives view r w
stopped view (Ok a) h w e g = absurd e
stopped view (Err x) h w e g = subst (λ (z : RuleStop). RuleStops z w) (sym e) g

-- an operand that stops, and one that goes on
pub one_stops : {A B C : Type 0} (view : C → B) (r : Result C RuleStop) (h : RuleStop) (d : Result B No) (m : Result A No) (f : A → Result B No) → d ≡ on_ok m f → IsErrAnd r (λ x. x ≡ h) → RuleStops h m → RuleGives view r d
one_stops view r h d m f e is g = gives_as view r d (on_ok m f) e (stopped view r h (on_ok m f) is (stops h m f g))

pub one_goes : {A B C : Type 0} (view : C → B) (r : Result C RuleStop) (d : Result B No) (m : Result A No) (f : A → Result B No) (a : A) → d ≡ on_ok m f → m ≡ Ok a → RuleGives view r (f a) → RuleGives view r d
one_goes view r d m f a e is g = gives_as view r d (on_ok m f) e (subst (λ (z : Result _ No). RuleGives view r (on_ok z f)) (sym is) g)

-- the second of two operands, once the first is there
pub two_stops : {A B C D : Type 0} (view : C → B) (r : Result C RuleStop) (h : RuleStop) (d : Result B No) (m : Result A No) (a : A) (k : A → Result D No) (f : A → D → Result B No) → d ≡ on_ok m (λ x. on_ok (k x) (f x)) → m ≡ Ok a → IsErrAnd r (λ x. x ≡ h) → RuleStops h (k a) → RuleGives view r d
two_stops view r h d m a k f e is err g = one_goes view r d m (λ x. on_ok (k x) (f x)) a e is (stopped view r h (on_ok (k a) (f a)) err (stops h (k a) (f a) g))

pub two_go : {A B C D : Type 0} (view : C → B) (r : Result C RuleStop) (d : Result B No) (m : Result A No) (a : A) (k : A → Result D No) (b : D) (f : A → D → Result B No) → d ≡ on_ok m (λ x. on_ok (k x) (f x)) → m ≡ Ok a → k a ≡ Ok b → RuleGives view r (f a b) → RuleGives view r d
two_go view r d m a k b f e is too g = one_goes view r d m (λ x. on_ok (k x) (f x)) a e is (one_goes view r (on_ok (k a) (f a)) (k a) (f a) b refl too g)

-- what is only seen otherwise may be seen so at once
pub seen_so : {A B D : Type 0} (m : Result A No) (g : A → D) (f : D → Result B No) → on_ok (on_ok m (λ x. Ok (g x))) f ≡ on_ok m (λ x. f (g x))
seen_so (Ok a) g f = refl
seen_so (Err refusal) g f = refl
