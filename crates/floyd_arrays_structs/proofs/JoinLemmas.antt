-- What `join_struct` answers, step by step.
use Rattle.std.proofs.Common.{◌≡◌, ◌↔◌, IsTrue, ℕ, Bool, true, false, List, [], ◌∷◌, Option, Some, Result, Ok, Err, sym, ap, subst, ◌∙◌, inl, inr}
use Rattle.floyd_text.specs.declared.refusal.No.{No}
use Rattle.floyd_text.specs.declared.refusal.RuleStop.{RuleStop}
use Rattle.floyd_text.specs.declared.refusal.RuleStop.TheVariants as r
use Rattle.floyd_text.specs.Gives.{RuleGives, RuleStops}
use Rattle.floyd_ctypes.specs.declared.field.Field.{Field}
use Rattle.floyd_ctypes.specs.Structs.{Structs}
use Rattle.floyd_tree.specs.Plain.{Plain}
use Rattle.floyd_assert.specs.Removal.{Difference, GivesDifference}
use Rattle.floyd_assert_trees.specs.declared.assertion.Assertion.{Assertion}
use Rattle.floyd_assert_trees.specs.declared.sep.Region.{Region}
use Rattle.floyd_assert_trees.specs.declared.sep.Sep.{Sep}
use Rattle.floyd_goal_trees.specs.declared.goal.Goal.{Goal}
use Rattle.floyd_goal.specs.Answers.{IsAnswer}
use Rattle.floyd_goal.specs.Goals.{wrong_goal}
use Rattle.floyd_goal_parts.specs.Sources.{in_place}
use Rattle.floyd_shares.proofs.ChainLemmas.{after_goes, after_stops, then_goes, then_stops, when_not, when_so}
use Rattle.floyd_arrays_structs.specs.declared.join_struct.Joined.{Joined}
use Rattle.floyd_arrays_structs.specs.declared.objects.Found.{Found}
use Rattle.floyd_arrays_structs.specs.declared.structs.StructPart.{StructPart}
use Rattle.floyd_arrays_structs.specs.JoinStruct.{IsPutFor, LacksFirst, Leaves, OfFields, OfFound, OfName, OfTag, OfWhole, around, is_first, whole_of}
use Rattle.floyd_arrays_structs.specs.StructParts.{struct_at}

false_is_true : false ≡ true → ⊥
false_is_true e = absurd cc

-- the padding is not there, or is
pub padding_lacks : (s : StructPart) (seen padding parts : List Sep) (found : Found) (b : Bool) (why : No) → seen ≡ padding → (IsTrue b ↔ LacksFirst seen parts) → b ≡ true → why ≡ wrong_goal → IsAnswer (OfFound s padding parts found) (Err (r.No why))
padding_lacks s seen padding parts found b why e h so is = inl (subst (λ ps. LacksFirst ps parts) e (h.0 so), ap (λ (w : No). Err w) is)

pub padding_there : (s : StructPart) (seen padding parts : List Sep) (found : Found) (b : Bool) (x : Result Joined RuleStop) → seen ≡ padding → (IsTrue b ↔ LacksFirst seen parts) → b ≡ false → RuleGives (λ j. j) x (whole_of s padding found) → IsAnswer (OfFound s padding parts found) x
padding_there s seen padding parts found b x e h so is =
    by x is (λ (l : LacksFirst padding parts). false_is_true (sym so ∙ h.1 (subst (λ ps. LacksFirst ps parts) (sym e) l)))
  where
    by : (y : Result Joined RuleStop) → RuleGives (λ j. j) y (whole_of s padding found) → (LacksFirst padding parts → ⊥) → IsAnswer (OfFound s padding parts found) y
    by (Ok j) g n = inr (n, sym g)
    by (Err (r.No why)) g n = inr (n, sym g)
    by (Err r.Memory) g n = tt

-- the name is that of the first field, or not
pub other_name : (structs : Structs) (parts : List Sep) (s : StructPart) (x : List ℕ) (o : Option (List Field)) (fields seen : List Field) (why : No) → Some fields ≡ o → seen ≡ fields → is_first seen x ≡ false → why ≡ wrong_goal → IsAnswer (OfTag structs parts s x o) (Err (r.No why))
other_name structs parts s x o fields seen why e same so is =
    subst (λ (y : Option (List Field)). IsAnswer (OfTag structs parts s x y) (Err (r.No why))) e
    (subst (λ fs. IsAnswer (OfTag structs parts s x (Some fs)) (Err (r.No why))) same
    (when_not (is_first seen x) (OfFields structs parts s seen) why so is))

pub first_name : (structs : Structs) (parts : List Sep) (s : StructPart) (x : List ℕ) (o : Option (List Field)) (fields seen : List Field) (answer : Result Joined RuleStop) → Some fields ≡ o → seen ≡ fields → is_first seen x ≡ true → IsAnswer (OfFields structs parts s seen) answer → IsAnswer (OfTag structs parts s x o) answer
first_name structs parts s x o fields seen answer e same so h =
    subst (λ (y : Option (List Field)). IsAnswer (OfTag structs parts s x y) answer) e
    (subst (λ fs. IsAnswer (OfTag structs parts s x (Some fs)) answer) same
    (when_so (is_first seen x) (OfFields structs parts s seen) answer so h))

-- the struct around
pub named_stops : (structs : Structs) (parts : List Sep) (region outer : Region) (value : Plain) (x : List ℕ) (o : Option (List ℕ)) (stop : RuleStop) → Some x ≡ o → outer ≡ around region → RuleStops stop (struct_at structs outer value) → IsAnswer (OfName structs parts region value o) (Err stop)
named_stops structs parts region outer value x o stop e at h =
    subst (λ (y : Option (List ℕ)). IsAnswer (OfName structs parts region value y) (Err stop)) e
    (then_stops (struct_at structs (around region) value) (OfWhole structs parts x) stop (subst (λ (p : Region). RuleStops stop (struct_at structs p value)) at h))

pub named_goes : (structs : Structs) (parts : List Sep) (region outer : Region) (value : Plain) (x : List ℕ) (o : Option (List ℕ)) (s : StructPart) (answer : Result Joined RuleStop) → Some x ≡ o → outer ≡ around region → struct_at structs outer value ≡ Ok s → IsAnswer (OfWhole structs parts x s) answer → IsAnswer (OfName structs parts region value o) answer
named_goes structs parts region outer value x o s answer e at h is =
    subst (λ (y : Option (List ℕ)). IsAnswer (OfName structs parts region value y) answer) e
    (then_goes (struct_at structs (around region) value) s (OfWhole structs parts x) answer (subst (λ (p : Region). struct_at structs p value ≡ Ok s) at h) is)

-- the parts that go
left_stops : (parts gone : List Sep) (stop : RuleStop) → GivesDifference (Err stop) parts gone → IsAnswer (Difference parts 1 gone) (Err stop)
left_stops parts gone (r.No why) h = h
left_stops parts gone r.Memory h = tt

pub put_stops : (goal : Goal) (k : ℕ) (source : Assertion) (j : Joined) (parts : List Sep) (stop : RuleStop) → parts ≡ in_place k (j.whole ∷ []) source.parts → GivesDifference (Err stop) parts j.gone → IsAnswer (IsPutFor goal k source j) (Err stop)
put_stops goal k source j parts stop e h =
    after_stops (Difference (in_place k (j.whole ∷ []) source.parts) 1 j.gone) (Leaves goal source) stop
    (left_stops (in_place k (j.whole ∷ []) source.parts) j.gone stop (subst (λ ps. GivesDifference (Err stop) ps j.gone) e h))

pub put_goes : (goal : Goal) (k : ℕ) (source : Assertion) (j : Joined) (parts rest : List Sep) (goals : List Goal) → parts ≡ in_place k (j.whole ∷ []) source.parts → Difference parts 1 j.gone (Ok rest) → Leaves goal source rest (Ok goals) → IsAnswer (IsPutFor goal k source j) (Ok goals)
put_goes goal k source j parts rest goals e h is =
    after_goes (Difference (in_place k (j.whole ∷ []) source.parts) 1 j.gone) rest (Leaves goal source) (Ok goals)
    (subst (λ ps. Difference ps 1 j.gone (Ok rest)) e h) is
