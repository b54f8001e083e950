-- The levels of a value along a path, one step on.
use Rattle.std.proofs.Common.{◌≡◌, ℕ, zero, suc, ◌+◌, ◌<◌, ◌≤◌, List, [], ◌∷◌, ◌++◌, length, drop, Option, Some, None, Result, Ok, Err, refl, ap, sym, ◌∙◌, subst, arith, append-nil, append_assoc}
use Rattle.std.specs.Prelude.{slice_get}
use Rattle.floyd_text.specs.declared.refusal.No.{No}
use Rattle.floyd_text.specs.declared.refusal.RuleStop.{RuleStop}
use Rattle.floyd_text.specs.Gives.{RuleStops}
use Rattle.floyd_ctypes.specs.Structs.{Structs}
use Rattle.floyd_tree.specs.declared.paths.PathStep.{PathStep}
use Rattle.floyd_tree.specs.Plain.{Plain}
use Rattle.floyd_tree.specs.Types.{SizedType}
use Rattle.floyd_fieldpath.specs.declared.updates.Level.{Level}
use Rattle.floyd_fieldpath.specs.Addresses.{on_type}
use Rattle.floyd_fieldpath.specs.Nested.{path_illegal, type_after}
use Rattle.floyd_fieldpath.specs.Projections.{item}
use Rattle.floyd_fieldpath.specs.UpdateClauses.{inside_one, level, levels}
use Rattle.floyd_fieldpath.specs.Written.{on_ok}
use Rattle.floyd_fieldpath.proofs.AddressLemmas.{dropped_all}
use Rattle.floyd_fieldpath.proofs.PathLemmas.{drop_step}
use Rattle.floyd_fieldpath.proofs.WrittenLemmas.{stops}

-- levels, with those that stand around them
abbrev pub inside : List Level → Result (List Level) No → Result (List Level) No
inside ls r = on_ok r (λ more. Ok (ls ++ more))

pub inside_none : (r : Result (List Level) No) → inside [] r ≡ r
inside_none (Ok ls) = refl
inside_none (Err refusal) = refl

inside_more : (ls : List Level) (l : Level) (r : Result (List Level) No) → inside (ls ++ l ∷ []) r ≡ inside ls (on_ok r (inside_one l))
inside_more ls l (Ok more) = ap Ok (append_assoc ls (l ∷ []) more)
inside_more ls l (Err refusal) = refl

pub inside_stops : (ls : List Level) (r : Result (List Level) No) (stop : RuleStop) → RuleStops stop r → RuleStops stop (inside ls r)
inside_stops ls r stop h = stops stop r (λ more. Ok (ls ++ more)) h

pub no_level : (structs : Structs) (inner : SizedType) (path : List PathStep) (k : ℕ) (v : Plain) (ls : List Level) → length path ≤ k → inside ls (levels structs inner (drop k path) v) ≡ Ok ls
no_level structs inner path k v ls h = ap (λ p. inside ls (levels structs inner p v)) (dropped_all k path h) ∙ ap Ok (append-nil ls)

-- what stands at a step
last : (structs : Structs) (inner : SizedType) (path : List PathStep) (k : ℕ) (step : PathStep) (v : Plain) → slice_get path k ≡ Some step → k + 1 ≡ length path → levels structs inner (drop k path) v ≡ on_type (type_after structs inner step) (λ after. Ok (level inner.shape step v ∷ []))
last structs inner path k step v get e =
    let none : length path ≤ k + 1 = omega arith in
    ap (λ p. levels structs inner p v) (drop_step path k step get ∙ ap (λ p. step ∷ p) (dropped_all (k + 1) path none))

pub last_level : (structs : Structs) (inner after : SizedType) (path : List PathStep) (k : ℕ) (step : PathStep) (v : Plain) (ls : List Level) → slice_get path k ≡ Some step → Some after ≡ type_after structs inner step → k + 1 ≡ length path → inside ls (levels structs inner (drop k path) v) ≡ Ok (ls ++ level inner.shape step v ∷ [])
last_level structs inner after path k step v ls get e f =
    ap (inside ls) (last structs inner path k step v get f ∙ ap (λ o. on_type o (λ u. Ok (level inner.shape step v ∷ []))) (sym e))

-- a list with an item is that item and others
split : {A : Type 0} (xs : List A) (k : ℕ) → k < length xs → (x : A) × (drop k xs ≡ x ∷ drop (suc k) xs)
split [] k l = absurd (omega arith)
split (x ∷ xs) zero l = (x, refl)
split (x ∷ xs) (suc k) l = split xs k (omega arith)

next : (structs : Structs) (inner : SizedType) (path : List PathStep) (k : ℕ) (step : PathStep) (v : Plain) (o : Option SizedType) → slice_get path k ≡ Some step → o ≡ type_after structs inner step → k + 1 < length path → levels structs inner (drop k path) v ≡ on_type o (λ after. on_ok (item structs inner after step v) (λ w. on_ok (levels structs after (drop (k + 1) path) w) (inside_one (level inner.shape step v))))
next structs inner path k step v o get e l =
    let s = split path (k + 1) l in
    ap (λ p. levels structs inner p v) (drop_step path k step get ∙ ap (λ p. step ∷ p) s.1)
    ∙ ap (λ q. on_type q (λ after. on_ok (item structs inner after step v) (λ w. on_ok (levels structs after (s.0 ∷ drop (suc (k + 1)) path) w) (inside_one (level inner.shape step v))))) (sym e)
    ∙ ap (λ p. on_type o (λ after. on_ok (item structs inner after step v) (λ w. on_ok (levels structs after p w) (inside_one (level inner.shape step v))))) (sym s.1)

pub level_on : (structs : Structs) (inner after : SizedType) (path : List PathStep) (k : ℕ) (step : PathStep) (v w : Plain) (ls : List Level) → slice_get path k ≡ Some step → Some after ≡ type_after structs inner step → k + 1 < length path → item structs inner after step v ≡ Ok w →
    inside (ls ++ level inner.shape step v ∷ []) (levels structs after (drop (k + 1) path) w) ≡ inside ls (levels structs inner (drop k path) v)
level_on structs inner after path k step v w ls get e l f =
    inside_more ls (level inner.shape step v) (levels structs after (drop (k + 1) path) w)
    ∙ ap (inside ls) (sym (next structs inner path k step v (Some after) get e l ∙ ap (λ r. on_ok r (λ x. on_ok (levels structs after (drop (k + 1) path) x) (inside_one (level inner.shape step v)))) f))

pub level_off : (structs : Structs) (inner : SizedType) (path : List PathStep) (k : ℕ) (step : PathStep) (v : Plain) (ls : List Level) → slice_get path k ≡ Some step → None ≡ type_after structs inner step → k < length path → inside ls (levels structs inner (drop k path) v) ≡ Err path_illegal
level_off structs inner path k step v ls get e l = ap (inside ls) (off (drop (k + 1) path) refl)
  where
    off : (more : List PathStep) → drop (k + 1) path ≡ more → levels structs inner (drop k path) v ≡ Err path_illegal
    off [] f = ap (λ p. levels structs inner p v) (drop_step path k step get ∙ ap (λ p. step ∷ p) f) ∙ ap (λ o. on_type o (λ u. Ok (level inner.shape step v ∷ []))) (sym e)
    off (s ∷ more) f = ap (λ p. levels structs inner p v) (drop_step path k step get ∙ ap (λ p. step ∷ p) f) ∙ ap (λ o. on_type o (λ after. on_ok (item structs inner after step v) (λ w. on_ok (levels structs after (s ∷ more) w) (inside_one (level inner.shape step v))))) (sym e)

pub level_stops : (structs : Structs) (inner after : SizedType) (path : List PathStep) (k : ℕ) (step : PathStep) (v : Plain) (ls : List Level) (stop : RuleStop) → slice_get path k ≡ Some step → Some after ≡ type_after structs inner step → k + 1 < length path → RuleStops stop (item structs inner after step v) →
    RuleStops stop (inside ls (levels structs inner (drop k path) v))
level_stops structs inner after path k step v ls stop get e l h =
    inside_stops ls (levels structs inner (drop k path) v) stop
    (subst (RuleStops stop) (sym (next structs inner path k step v (Some after) get e l))
    (stops stop (item structs inner after step v) (λ w. on_ok (levels structs after (drop (k + 1) path) w) (inside_one (level inner.shape step v))) h))
