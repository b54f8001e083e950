-- Structs and their fields.
use Rattle.std.proofs.Common.{◌≡◌, ℕ, ◌+◌, ◌<◌, ◌≤◌, List, [], ◌∷◌, ◌++◌, length, drop, get_or, Result, Ok, Err, refl, sym, ap, subst, ◌∙◌, append_assoc}
use Rattle.std.proofs.lemmas.List.{drop_all, drop_more}
use Rattle.floyd_text.specs.declared.refusal.No.{No}
use Rattle.floyd_text.specs.declared.refusal.RuleStop.{RuleStop}
use Rattle.floyd_text.specs.declared.refusal.RuleStop.TheVariants as r
use Rattle.floyd_text.specs.Gives.{RuleStops}
use Rattle.floyd_ctypes.specs.declared.field.Field.{Field}
use Rattle.floyd_ctypes.specs.Structs.{Structs}
use Rattle.floyd_tree_sorts.specs.declared.shape.Shape.{Shape, Pointer, Array, Function}
use Rattle.floyd_tree_sorts.specs.declared.shape.Shape.TheBlock as sh
use Rattle.floyd_tree.specs.Plain.{Plain}
use Rattle.floyd_tree.specs.Types.{SizedType}
use Rattle.floyd_assert_trees.specs.declared.sep.Region.{Region}
use Rattle.floyd_assert_trees.specs.declared.sep.Sep.{Sep}
use Rattle.floyd_fieldpath.specs.Written.{on_ok}
use Rattle.floyd_goal.specs.Goals.{wrong_goal}
use Rattle.floyd_arrays_structs.specs.declared.structs.StructPart.{StructPart}
use Rattle.floyd_arrays_structs.specs.SplitStruct.{field_part, field_parts}
use Rattle.floyd_arrays_structs.specs.StructParts.{with_shape}
use Rattle.floyd_arrays_structs.specs.SplitStructClauses.{ahead}
use denote.Hole.Carrier.{hidden}

pub pointer_is_no_struct : (region : Region) (value : Plain) (t : SizedType) (a : Shape) → with_shape region value t (Pointer a) ≡ Err wrong_goal
unfolding sh.shape-the_row-Shape-0 sh.hidden-the_row-Shape-0 hidden
pointer_is_no_struct region value t a = refl

pub array_is_no_struct : (region : Region) (value : Plain) (t : SizedType) (a : Shape) → with_shape region value t (Array a) ≡ Err wrong_goal
unfolding sh.shape-the_row-Shape-0 sh.hidden-the_row-Shape-0 hidden
array_is_no_struct region value t a = refl

pub function_is_no_struct : (region : Region) (value : Plain) (t : SizedType) (ps : List Shape) (r : Shape) → with_shape region value t (Function ps r) ≡ Err wrong_goal
unfolding sh.shape-the_row-Shape-0 sh.hidden-the_row-Shape-0 hidden
function_is_no_struct region value t ps r = refl

-- fields one after the other: the rest of them
next_field : (structs : Structs) (s : StructPart) (behind : List Sep) (fields : List Field) (i : ℕ) (f : Field) → i < length fields → f ≡ get_or fields i f → field_parts structs s behind (drop i fields) ≡ on_ok (field_part structs s f.name) (λ p. on_ok (field_parts structs s behind (drop (i + 1) fields)) (λ more. Ok (p ∷ more)))
next_field structs s behind fields i f within is =
    ap (field_parts structs s behind) (drop_more fields i f within ∙ ap (λ y. y ∷ drop (i + 1) fields) (sym is))

pub ahead_none : (d : Result (List Sep) No) → ahead [] d ≡ d
ahead_none (Ok more) = refl
ahead_none (Err why) = refl

ahead_stops : (all : List Sep) (d more : Result (List Sep) No) (stop : RuleStop) → ahead all d ≡ more → RuleStops stop d → RuleStops stop more
ahead_stops all d more (r.No why) so e = sym so ∙ ap (ahead all) e
ahead_stops all d more r.Memory so e = tt

field_stops : (stop : RuleStop) (d : Result Sep No) (f : Sep → Result (List Sep) No) → RuleStops stop d → RuleStops stop (on_ok d f)
field_stops (r.No why) d f e = ap (λ (y : Result Sep No). on_ok y f) e
field_stops r.Memory d f e = tt

pub parts_stop : (structs : Structs) (s : StructPart) (behind : List Sep) (fields : List Field) (i : ℕ) (f : Field) (all : List Sep) (stop : RuleStop) → i < length fields → f ≡ get_or fields i f → ahead all (field_parts structs s behind (drop i fields)) ≡ field_parts structs s behind fields → RuleStops stop (field_part structs s f.name) → RuleStops stop (field_parts structs s behind fields)
parts_stop structs s behind fields i f all stop within is so h =
    ahead_stops all (field_parts structs s behind (drop i fields)) (field_parts structs s behind fields) stop so
    (subst (RuleStops stop) (sym (next_field structs s behind fields i f within is))
    (field_stops stop (field_part structs s f.name) (λ p. on_ok (field_parts structs s behind (drop (i + 1) fields)) (λ more. Ok (p ∷ more))) h))

one_more : (p : Sep) (all : List Sep) (d : Result (List Sep) No) → ahead (all ++ p ∷ []) d ≡ ahead all (on_ok d (λ more. Ok (p ∷ more)))
one_more p all (Ok more) = ap (λ (ps : List Sep). Ok ps) (append_assoc all (p ∷ []) more)
one_more p all (Err why) = refl

pub parts_step : (structs : Structs) (s : StructPart) (behind : List Sep) (fields : List Field) (i : ℕ) (f : Field) (p : Sep) (done all : List Sep) → i < length fields → f ≡ get_or fields i f → field_part structs s f.name ≡ Ok p → all ≡ done ++ p ∷ [] → ahead all (field_parts structs s behind (drop (i + 1) fields)) ≡ ahead done (field_parts structs s behind (drop i fields))
parts_step structs s behind fields i f p done all within is e more =
    ap (λ ps. ahead ps (field_parts structs s behind (drop (i + 1) fields))) more
    ∙ one_more p done (field_parts structs s behind (drop (i + 1) fields))
    ∙ sym (ap (ahead done) (next_field structs s behind fields i f within is)
    ∙ ap (λ (d : Result Sep No). ahead done (on_ok d (λ q. on_ok (field_parts structs s behind (drop (i + 1) fields)) (λ more. Ok (q ∷ more))))) e)

pub parts_end : (structs : Structs) (s : StructPart) (behind : List Sep) (fields : List Field) (i : ℕ) (done all : List Sep) → length fields ≤ i → ahead done (field_parts structs s behind (drop i fields)) ≡ field_parts structs s behind fields → all ≡ done ++ behind → field_parts structs s behind fields ≡ Ok all
parts_end structs s behind fields i done all past so e =
    sym so ∙ ap (λ fs. ahead done (field_parts structs s behind fs)) (drop_all i fields past) ∙ ap (λ (ps : List Sep). Ok ps) (sym e)
