-- Items along a path, as the program takes them.
use Rattle.std.proofs.Common.{◌≡◌, ℕ, zero, suc, ◌+◌, ◌<◌, ◌≤◌, Bool, true, false, List, [], ◌∷◌, length, drop, get_or, Option, Some, None, Result, Ok, Err, refl, ap, sym, ◌∙◌, subst, arith, add-one, bytes_eq}
use Rattle.std.specs.Prelude.{slice_get, if◌then◌else◌}
use Rattle.floyd_text.specs.declared.refusal.No.{No}
use Rattle.floyd_text.specs.declared.refusal.RuleStop.{RuleStop}
use Rattle.floyd_text.specs.Gives.{RuleGives, RuleStops}
use Rattle.floyd_ctypes.specs.declared.field.Field.{Field}
use Rattle.floyd_ctypes.specs.Structs.{Structs}
use Rattle.floyd_tree_sorts.specs.declared.shape.Shape.{Shape, Pointer, Array, Function}
use Rattle.floyd_tree_sorts.specs.declared.shape.Shape.TheBlock as sh
use Rattle.floyd_tree.specs.declared.paths.PathStep.{PathStep}
use Rattle.floyd_tree.specs.Plain.{Plain, head_of}
use Rattle.floyd_tree.specs.Types.{SizedType}
use Rattle.floyd_fieldpath.specs.Nested.{or_illegal, path_illegal, type_after, type_at}
use Rattle.floyd_fieldpath.specs.Written.{on_ok}
use Rattle.floyd_fieldpath.specs.Addresses.{on_type}
use Rattle.floyd_fieldpath.specs.Projections.{component, default_of, field_item, first_of, is_default, item, item_at, project, second_of}
use Rattle.floyd_fieldpath.proofs.AddressLemmas.{dropped_all, typed, typed_stops}
use Rattle.floyd_fieldpath.proofs.PathLemmas.{drop_step}
use Rattle.floyd_fieldpath.proofs.WrittenLemmas.{stops}
use denote.Hole.Carrier.{hidden}

pub no_field_of_pointer : (structs : Structs) (a : Shape) (after : SizedType) (x : List ℕ) (v : Plain) → field_item structs (Pointer a) after x v ≡ Err path_illegal
unfolding sh.shape-the_row-Shape-0 sh.hidden-the_row-Shape-0 hidden
no_field_of_pointer structs a after x v = refl

pub no_field_of_array : (structs : Structs) (a : Shape) (after : SizedType) (x : List ℕ) (v : Plain) → field_item structs (Array a) after x v ≡ Err path_illegal
unfolding sh.shape-the_row-Shape-0 sh.hidden-the_row-Shape-0 hidden
no_field_of_array structs a after x v = refl

pub no_field_of_function : (structs : Structs) (ps : List Shape) (r : Shape) (after : SizedType) (x : List ℕ) (v : Plain) → field_item structs (Function ps r) after x v ≡ Err path_illegal
unfolding sh.shape-the_row-Shape-0 sh.hidden-the_row-Shape-0 hidden
no_field_of_function structs ps r after x v = refl

-- ---- the whole

pub project_stops : (structs : Structs) (t : SizedType) (path : List PathStep) (v : Plain) (stop : RuleStop) → RuleStops stop (or_illegal (type_at structs t path)) → RuleStops stop (project structs t path v)
project_stops structs t path v stop h = typed_stops structs t path (item_at structs t path v) stop h

pub project_gives : (structs : Structs) (t u : SizedType) (path : List PathStep) (v : Plain) (x : Result Plain RuleStop) → or_illegal (type_at structs t path) ≡ Ok u → RuleGives (λ a. a) x (item_at structs t path v) → RuleGives (λ a. a) x (project structs t path v)
project_gives structs t u path v x e h = subst (RuleGives (λ a. a) x) (typed structs t u path (item_at structs t path v) e) h

-- ---- along a path

pub item_end : (structs : Structs) (inner : SizedType) (path : List PathStep) (k : ℕ) (v : Plain) → length path ≤ k → item_at structs inner (drop k path) v ≡ Ok v
item_end structs inner path k v h = ap (λ p. item_at structs inner p v) (dropped_all k path h)

at_step : (structs : Structs) (inner : SizedType) (path : List PathStep) (k : ℕ) (step : PathStep) (v : Plain) (o : Option SizedType) → slice_get path k ≡ Some step → o ≡ type_after structs inner step → item_at structs inner (drop k path) v ≡ on_type o (λ after. on_ok (item structs inner after step v) (item_at structs after (drop (k + 1) path)))
at_step structs inner path k step v o get e =
    ap (λ p. item_at structs inner p v) (drop_step path k step get)
    ∙ ap (λ q. on_type q (λ after. on_ok (item structs inner after step v) (item_at structs after (drop (k + 1) path)))) (sym e)

pub item_on : (structs : Structs) (inner after : SizedType) (path : List PathStep) (k : ℕ) (step : PathStep) (v w : Plain) → slice_get path k ≡ Some step → Some after ≡ type_after structs inner step → item structs inner after step v ≡ Ok w → item_at structs after (drop (k + 1) path) w ≡ item_at structs inner (drop k path) v
item_on structs inner after path k step v w get e f =
    sym (at_step structs inner path k step v (Some after) get e ∙ ap (λ y. on_ok y (item_at structs after (drop (k + 1) path))) f)

pub item_off : (structs : Structs) (inner : SizedType) (path : List PathStep) (k : ℕ) (step : PathStep) (v : Plain) → slice_get path k ≡ Some step → None ≡ type_after structs inner step → item_at structs inner (drop k path) v ≡ Err path_illegal
item_off structs inner path k step v get e = at_step structs inner path k step v None get e

pub item_stops : (structs : Structs) (inner after : SizedType) (path : List PathStep) (k : ℕ) (step : PathStep) (v : Plain) (stop : RuleStop) → slice_get path k ≡ Some step → Some after ≡ type_after structs inner step → RuleStops stop (item structs inner after step v) → RuleStops stop (item_at structs inner (drop k path) v)
item_stops structs inner after path k step v stop get e h =
    subst (RuleStops stop) (sym (at_step structs inner path k step v (Some after) get e)) (stops stop (item structs inner after step v) (item_at structs after (drop (k + 1) path)) h)

-- ---- among the fields of a struct

choose : Structs → SizedType → Bool → Bool → Plain → (Plain → Result Plain No) → Result Plain No
choose structs after a b v f = if a then default_of structs after else if b then first_of v else on_ok (second_of v) f

component_at : (structs : Structs) (after : SizedType) (x : List ℕ) (fields : List Field) (k : ℕ) (f : Field) (v : Plain) → suc k < length fields → f ≡ get_or fields k f → component structs after (drop k fields) x v ≡ choose structs after (is_default (head_of v)) (bytes_eq x f.name) v (component structs after (drop (suc k) fields) x)
unfolding choose
component_at structs after x [] k f v l e = absurd (omega arith)
component_at structs after x (g ∷ []) k f v l e = absurd (omega arith)
component_at structs after x (g ∷ h ∷ more) zero f v l e = ap (λ (y : Field). choose structs after (is_default (head_of v)) (bytes_eq x y.name) v (component structs after (h ∷ more) x)) (sym e)
component_at structs after x (g ∷ h ∷ more) (suc k) f v l e = component_at structs after x (h ∷ more) k f v (omega arith) e

item_there : (fields : List Field) (k : ℕ) → k < length fields → (f : Field) × (f ≡ get_or fields k f)
item_there [] k l = absurd (omega arith)
item_there (g ∷ fields) zero l = (g, refl)
item_there (g ∷ fields) (suc k) l = item_there fields k (omega arith)

-- the last field has the whole value
pub last_component : (structs : Structs) (after : SizedType) (x : List ℕ) (fields : List Field) (k : ℕ) (v : Plain) → k < length fields → k + 1 ≡ length fields → component structs after (drop k fields) x v ≡ Ok v
last_component structs after x [] k v l e = absurd (omega arith)
last_component structs after x (f ∷ []) zero v l e = refl
last_component structs after x (f ∷ []) (suc k) v l e = absurd (omega arith)
last_component structs after x (f ∷ g ∷ more) zero v l e = absurd (omega arith)
last_component structs after x (f ∷ g ∷ more) (suc k) v l e = last_component structs after x (g ∷ more) k v (omega arith) (omega arith)

pub default_component : (structs : Structs) (after : SizedType) (x : List ℕ) (fields : List Field) (k : ℕ) (u v : Plain) (r : Result Plain RuleStop) → suc k < length fields → is_default (head_of u) ≡ true → component structs after (drop k fields) x u ≡ component structs after fields x v → RuleGives (λ a. a) r (default_of structs after) → RuleGives (λ a. a) r (component structs after fields x v)
unfolding choose
default_component structs after x fields k u v r l d held h =
    let f = item_there fields k (omega arith) in
    subst (RuleGives (λ a. a) r)
    (sym (component_at structs after x fields k f.0 u l f.1 ∙ ap (λ b. choose structs after b (bytes_eq x f.0.name) u (component structs after (drop (suc k) fields) x)) d) ∙ held) h

pub first_component : (structs : Structs) (after : SizedType) (x : List ℕ) (fields : List Field) (k : ℕ) (f : Field) (u v : Plain) (r : Result Plain RuleStop) → suc k < length fields → is_default (head_of u) ≡ false → f ≡ get_or fields k f → bytes_eq x f.name ≡ true → component structs after (drop k fields) x u ≡ component structs after fields x v → RuleGives (λ a. a) r (first_of u) → RuleGives (λ a. a) r (component structs after fields x v)
unfolding choose
first_component structs after x fields k f u v r l d e n held h =
    subst (RuleGives (λ a. a) r)
    (sym (component_at structs after x fields k f u l e
    ∙ ap (λ b. choose structs after b (bytes_eq x f.name) u (component structs after (drop (suc k) fields) x)) d
    ∙ ap (λ b. choose structs after false b u (component structs after (drop (suc k) fields) x)) n) ∙ held) h

other_component : (structs : Structs) (after : SizedType) (x : List ℕ) (fields : List Field) (k : ℕ) (f : Field) (u : Plain) → suc k < length fields → is_default (head_of u) ≡ false → f ≡ get_or fields k f → bytes_eq x f.name ≡ false → component structs after (drop k fields) x u ≡ on_ok (second_of u) (component structs after (drop (k + 1) fields) x)
unfolding choose
other_component structs after x fields k f u l d e n =
    rw add-one
    (component_at structs after x fields k f u l e
    ∙ ap (λ b. choose structs after b (bytes_eq x f.name) u (component structs after (drop (suc k) fields) x)) d
    ∙ ap (λ b. choose structs after false b u (component structs after (drop (suc k) fields) x)) n)

pub component_on : (structs : Structs) (after : SizedType) (x : List ℕ) (fields : List Field) (k : ℕ) (f : Field) (u w : Plain) → suc k < length fields → is_default (head_of u) ≡ false → f ≡ get_or fields k f → bytes_eq x f.name ≡ false → second_of u ≡ Ok w → component structs after (drop (k + 1) fields) x w ≡ component structs after (drop k fields) x u
component_on structs after x fields k f u w l d e n s =
    sym (other_component structs after x fields k f u l d e n ∙ ap (λ y. on_ok y (component structs after (drop (k + 1) fields) x)) s)

pub component_stops : (structs : Structs) (after : SizedType) (x : List ℕ) (fields : List Field) (k : ℕ) (f : Field) (u v : Plain) (stop : RuleStop) → suc k < length fields → is_default (head_of u) ≡ false → f ≡ get_or fields k f → bytes_eq x f.name ≡ false → component structs after (drop k fields) x u ≡ component structs after fields x v → RuleStops stop (second_of u) → RuleStops stop (component structs after fields x v)
component_stops structs after x fields k f u v stop l d e n held h =
    subst (RuleStops stop) (sym (other_component structs after x fields k f u l d e n) ∙ held)
    (stops stop (second_of u) (component structs after (drop (k + 1) fields) x) h)

pub component_end : (structs : Structs) (after : SizedType) (x : List ℕ) (fields : List Field) (k : ℕ) (v : Plain) → length fields ≤ k → component structs after (drop k fields) x v ≡ Err path_illegal
component_end structs after x fields k v h = ap (λ fs. component structs after fs x v) (dropped_all k fields h)
