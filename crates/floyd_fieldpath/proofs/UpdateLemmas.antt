-- An update, as the program makes it: first the levels along the path, and then the value within them.
use Rattle.std.proofs.Common.{◌≡◌, ℕ, List, [], ◌∷◌, Option, Some, None, Result, Ok, Err, refl, ap, sym, ◌∙◌, subst}
use Rattle.floyd_text.specs.declared.refusal.No.{No}
use Rattle.floyd_text.specs.declared.refusal.RuleStop.{RuleStop}
use Rattle.floyd_text.specs.Gives.{RuleGives, RuleStops}
use Rattle.floyd_ctypes.specs.Structs.{Structs}
use Rattle.floyd_tree_sorts.specs.declared.shape.Shape.{Shape, Pointer, Array, Function}
use Rattle.floyd_tree_sorts.specs.declared.shape.Shape.TheBlock as sh
use Rattle.floyd_tree.specs.declared.paths.PathStep.{PathStep}
use Rattle.floyd_tree.specs.Plain.{Plain}
use Rattle.floyd_tree.specs.Types.{SizedType}
use Rattle.floyd_fieldpath.specs.declared.updates.Level.{Level}
use Rattle.floyd_fieldpath.specs.Addresses.{on_type}
use Rattle.floyd_fieldpath.specs.Nested.{or_illegal, path_illegal, type_after, type_at}
use Rattle.floyd_fieldpath.specs.Projections.{item}
use Rattle.floyd_fieldpath.specs.Updates.{update, updated_at, with_field, with_item}
use Rattle.floyd_fieldpath.specs.UpdateClauses.{around, inside_one, level, levels, within_levels}
use Rattle.floyd_fieldpath.specs.Written.{on_ok}
use Rattle.floyd_fieldpath.proofs.AddressLemmas.{typed, typed_stops}
use Rattle.floyd_fieldpath.proofs.WrittenLemmas.{goes_on, stops}
use denote.Hole.Carrier.{hidden}

pub no_field_of_pointer : (structs : Structs) (a : Shape) (x : List ℕ) (v u : Plain) → with_field structs (Pointer a) x v u ≡ Err path_illegal
unfolding sh.shape-the_row-Shape-0 sh.hidden-the_row-Shape-0 hidden
no_field_of_pointer structs a x v u = refl

pub no_field_of_array : (structs : Structs) (a : Shape) (x : List ℕ) (v u : Plain) → with_field structs (Array a) x v u ≡ Err path_illegal
unfolding sh.shape-the_row-Shape-0 sh.hidden-the_row-Shape-0 hidden
no_field_of_array structs a x v u = refl

pub no_field_of_function : (structs : Structs) (ps : List Shape) (r : Shape) (x : List ℕ) (v u : Plain) → with_field structs (Function ps r) x v u ≡ Err path_illegal
unfolding sh.shape-the_row-Shape-0 sh.hidden-the_row-Shape-0 hidden
no_field_of_function structs ps r x v u = refl

-- one thing after another, and then a third
pub in_turn : {A B C : Type 0} (d : Result A No) (f : A → Result B No) (g : B → Result C No) → on_ok d (λ a. on_ok (f a) g) ≡ on_ok (on_ok d f) g
in_turn (Ok a) f g = refl
in_turn (Err refusal) f g = refl

-- with a level around them
one_around : (structs : Structs) (l : Level) (d : Result (List Level) No) (u : Plain) → on_ok (on_ok d (λ ls. within_levels structs ls u)) (around structs l) ≡ on_ok (on_ok d (inside_one l)) (λ ls. within_levels structs ls u)
one_around structs l (Ok ls) u = refl
one_around structs l (Err refusal) u = refl

one_level : (structs : Structs) (t : SizedType) (step : PathStep) (v u : Plain) (o : Option SizedType) →
    on_type o (λ after. with_item structs t.shape step v u) ≡ on_ok (on_type o (λ after. Ok (level t.shape step v ∷ []))) (λ ls. within_levels structs ls u)
one_level structs t step v u (Some after) = refl
one_level structs t step v u None = refl

module _ (structs : Structs) (t : SizedType) (step : PathStep) (path : List PathStep) (v u : Plain) (inner : (after : SizedType) (w : Plain) → updated_at structs after path w u ≡ on_ok (levels structs after path w) (λ ls. within_levels structs ls u)) where
  after_item : (after : SizedType) (d : Result Plain No) →
      on_ok d (λ w. on_ok (updated_at structs after path w u) (λ x. with_item structs t.shape step v x))
      ≡ on_ok (on_ok d (λ w. on_ok (levels structs after path w) (inside_one (level t.shape step v)))) (λ ls. within_levels structs ls u)
  after_item after (Ok w) =
      ap (λ r. on_ok r (λ x. with_item structs t.shape step v x)) (inner after w) ∙ one_around structs (level t.shape step v) (levels structs after path w) u
  after_item after (Err refusal) = refl

  more_levels : (o : Option SizedType) →
      on_type o (λ after. on_ok (item structs t after step v) (λ w. on_ok (updated_at structs after path w u) (λ x. with_item structs t.shape step v x)))
      ≡ on_ok (on_type o (λ after. on_ok (item structs t after step v) (λ w. on_ok (levels structs after path w) (inside_one (level t.shape step v))))) (λ ls. within_levels structs ls u)
  more_levels (Some after) = after_item after (item structs t after step v)
  more_levels None = refl

by_levels : (structs : Structs) (t : SizedType) (path : List PathStep) (v u : Plain) → updated_at structs t path v u ≡ on_ok (levels structs t path v) (λ ls. within_levels structs ls u)
by_levels structs t [] v u = refl
by_levels structs t (step ∷ []) v u = one_level structs t step v u (type_after structs t step)
by_levels structs t (step ∷ next ∷ path) v u = more_levels structs t step (next ∷ path) v u (λ after w. by_levels structs after (next ∷ path) w u) (type_after structs t step)

pub update_stops : (structs : Structs) (t u : SizedType) (path : List PathStep) (v new : Plain) (stop : RuleStop) → or_illegal (type_at structs t path) ≡ Ok u → RuleStops stop (levels structs t path v) → RuleStops stop (update structs t path v new)
update_stops structs t u path v new stop e h =
    subst (RuleStops stop) (sym (by_levels structs t path v new) ∙ typed structs t u path (updated_at structs t path v new) e)
    (stops stop (levels structs t path v) (λ ls. within_levels structs ls new) h)

pub path_stops : (structs : Structs) (t : SizedType) (path : List PathStep) (v new : Plain) (stop : RuleStop) → RuleStops stop (or_illegal (type_at structs t path)) → RuleStops stop (update structs t path v new)
path_stops structs t path v new stop h = typed_stops structs t path (updated_at structs t path v new) stop h

pub update_gives : (structs : Structs) (t u : SizedType) (path : List PathStep) (v new : Plain) (ls : List Level) (x : Result Plain RuleStop) → or_illegal (type_at structs t path) ≡ Ok u → levels structs t path v ≡ Ok ls → RuleGives (λ a. a) x (within_levels structs ls new) → RuleGives (λ a. a) x (update structs t path v new)
update_gives structs t u path v new ls x e f h =
    subst (RuleGives (λ a. a) x) (sym (by_levels structs t path v new) ∙ typed structs t u path (updated_at structs t path v new) e)
    (goes_on (levels structs t path v) (λ all. within_levels structs all new) ls x f h)
