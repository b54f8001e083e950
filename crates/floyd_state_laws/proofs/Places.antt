-- Names in their blocks.
use Rattle.std.proofs.Common.{◌≡◌, ℕ, ◌⊎◌, inl, inr, Bool, true, false, List, [], ◌∷◌, ◌++◌, map, Option, Some, None, refl, sym, ap, ◌∙◌, bytes_eq, cond, find, option_map}
use Rattle.std.specs.List.{AllByRecursion}
use Rattle.std.proofs.lemmas.Option.{same_Some}
use Rattle.std.proofs.lemmas.Slice.Eq.{bytes_eq-Decides}
use Rattle.floyd_ctypes.specs.declared.ctype.CType.{CType}
use Rattle.floyd_ctypes.specs.Structs.{Structs}
use Rattle.floyd_clight.specs.declared.unit.Local.{Local}
use Rattle.floyd_clight_machine.specs.Machine.{FunctionBlock, GlobalBlock, LocalBlock, file_block, local_block}
use Rattle.floyd_clight_machine.specs.Programs.{block_of_function, function_named, variable_named, variable_or}
use Rattle.floyd_clight_runs.specs.Calls.{AreBlocksOf}
use Rattle.floyd_clight_typing.specs.Expressions.{local_type}
use Rattle.floyd_tree_values.specs.BuiltIns.{Env}
use Rattle.floyd_tree_values.specs.Rules.{IsOneOf}
use Rattle.floyd_goal_meaning.specs.declared.linked.Linked.{Linked}
use Rattle.floyd_goal_meaning.specs.declared.linked.LinkedFunction.{LinkedFunction}
use Rattle.floyd_goal_meaning.specs.declared.linked.LinkedVariable.{LinkedVariable}
use Rattle.floyd_goal_meaning.specs.GoalHolds.{StandAt}
use Rattle.floyd_goal_meaning.specs.Links.{names_of}
use Rattle.floyd_goal_meaning.specs.Programs.{Further, Places, function_block, further_block, program, variable_block}

-- ---- local variables

pub local_stands : (structs : Structs) (env : Env) (ls : List Local) (bs : List LocalBlock) (x : List ℕ) (t : CType) → AreBlocksOf structs ls bs → StandAt env bs → local_type ls x ≡ Some t → local_block bs x ≡ Some (env.local x)
local_stands structs env [] bs x t a s e = absurd cc
local_stands structs env (l ∷ ls) [] x t a s e = absurd a
local_stands structs env (l ∷ ls) (b ∷ bs) x t a s e = by (bytes_eq x l.name) refl e (λ f. local_stands structs env ls bs x t a.2 s.1 f)
  where
    first : (u : Bool) → bytes_eq x l.name ≡ u → local_block (b ∷ bs) x ≡ option_map (λ (k : LocalBlock). k.block) (cond u (Some b) (find (λ (k : LocalBlock). bytes_eq x k.name) bs))
    first u f = ap (λ v. option_map (λ (k : LocalBlock). k.block) (cond v (Some b) (find (λ (k : LocalBlock). bytes_eq x k.name) bs))) (ap (bytes_eq x) a.0 ∙ f)

    by : (u : Bool) → bytes_eq x l.name ≡ u → option_map (λ (k : Local). k.ctype) (cond u (Some l) (find (λ (k : Local). bytes_eq x k.name) ls)) ≡ Some t → (local_type ls x ≡ Some t → local_block bs x ≡ Some (env.local x)) → local_block (b ∷ bs) x ≡ Some (env.local x)
    by true f g later = first true f ∙ ap Some (s.0 ∙ ap env.local (a.0 ∙ sym ((bytes_eq-Decides x l.name).0 f)))
    by false f g later = first false f ∙ later g

-- ---- names of the file

module _ {A : Type 0} (name : A → List ℕ) (block : A → ℕ) (place : Places) (x : List ℕ) where
  -- what is found by the name has the name's block
  block_found : (all : List A) (a : A) → AllByRecursion (λ b. block b ≡ place (name b)) all → find (λ b. bytes_eq x (name b)) all ≡ Some a → block a ≡ place x
  block_found [] a k e = absurd cc
  block_found (b ∷ all) a k e = by (bytes_eq x (name b)) refl e (λ f. block_found all a k.1 f)
    where
      by : (u : Bool) → bytes_eq x (name b) ≡ u → cond u (Some b) (find (λ c. bytes_eq x (name c)) all) ≡ Some a → (find (λ c. bytes_eq x (name c)) all ≡ Some a → block a ≡ place x) → block a ≡ place x
      by true f g later = ap block (sym (same_Some b a g)) ∙ k.0 ∙ ap place (sym ((bytes_eq-Decides x (name b)).0 f))
      by false f g later = later g

  -- a name that is there is found
  some_found : (all : List A) → IsOneOf (map name all) x → (a : A) × (find (λ b. bytes_eq x (name b)) all ≡ Some a)
  some_found [] k = absurd k
  some_found (b ∷ all) (inl e) = (b, ap (λ u. cond u (Some b) (find (λ c. bytes_eq x (name c)) all)) ((bytes_eq-Decides x (name b)).1 e))
  some_found (b ∷ all) (inr k) = by (bytes_eq x (name b)) refl (some_found all k)
    where
      by : (u : Bool) → bytes_eq x (name b) ≡ u → ((a : A) × (find (λ c. bytes_eq x (name c)) all ≡ Some a)) → (a : A) × (find (λ c. bytes_eq x (name c)) (b ∷ all) ≡ Some a)
      by true f r = (b, ap (λ u. cond u (Some b) (find (λ c. bytes_eq x (name c)) all)) f)
      by false f r = (r.0, ap (λ u. cond u (Some b) (find (λ c. bytes_eq x (name c)) all)) f ∙ r.1)

one_of_both : (xs ys : List (List ℕ)) (x : List ℕ) → IsOneOf (xs ++ ys) x → IsOneOf xs x ⊎ IsOneOf ys x
one_of_both [] ys x k = inr k
one_of_both (y ∷ xs) ys x (inl e) = inl (inl e)
one_of_both (y ∷ xs) ys x (inr k) = by (one_of_both xs ys x k)
  where
    by : IsOneOf xs x ⊎ IsOneOf ys x → IsOneOf (y ∷ xs) x ⊎ IsOneOf ys x
    by (inl l) = inl (inr l)
    by (inr l) = inr l

variable_blocks : (structs : Structs) (place : Places) (vs : List LinkedVariable) → AllByRecursion (λ (g : GlobalBlock). g.block ≡ place g.name) (map (variable_block structs place) vs)
variable_blocks structs place [] = tt
variable_blocks structs place (v ∷ vs) = (refl, variable_blocks structs place vs)

function_blocks : (place : Places) (fs : List LinkedFunction) (more : List Further) → AllByRecursion (λ (g : FunctionBlock). g.block ≡ place g.name) (map (function_block place) fs ++ map (further_block place) more)
function_blocks place [] [] = tt
function_blocks place [] (g ∷ more) = (refl, function_blocks place [] more)
function_blocks place (f ∷ fs) more = (refl, function_blocks place fs more)

variable_one : (structs : Structs) (place : Places) (vs : List LinkedVariable) (x : List ℕ) → IsOneOf (map (λ (v : LinkedVariable). v.name) vs) x → IsOneOf (map (λ (g : GlobalBlock). g.name) (map (variable_block structs place) vs)) x
variable_one structs place [] x k = k
variable_one structs place (v ∷ vs) x (inl e) = inl e
variable_one structs place (v ∷ vs) x (inr k) = inr (variable_one structs place vs x k)

function_one : (place : Places) (fs : List LinkedFunction) (more : List Further) (x : List ℕ) → IsOneOf (map (λ (f : LinkedFunction). f.name) fs) x → IsOneOf (map (λ (g : FunctionBlock). g.name) (map (function_block place) fs ++ map (further_block place) more)) x
function_one place [] more x k = absurd k
function_one place (f ∷ fs) more x (inl e) = inl e
function_one place (f ∷ fs) more x (inr k) = inr (function_one place fs more x k)

-- each name of the program is in its block
pub file_stands : (L : Linked) (more : List Further) (place : Places) (x : List ℕ) → IsOneOf (names_of L) x → file_block (program L more place) x ≡ Some (place x)
file_stands L more place x k = by (variable_named (program L more place) x) refl (one_of_both (map (λ (v : LinkedVariable). v.name) L.variables) (map (λ (f : LinkedFunction). f.name) L.functions) x k)
  where
    of_function : IsOneOf (map (λ (f : LinkedFunction). f.name) L.functions) x → block_of_function (function_named (program L more place) x) ≡ Some (place x)
    of_function l =
        let all = map (function_block place) L.functions ++ map (further_block place) more in
        let f = some_found (λ (g : FunctionBlock). g.name) (λ (g : FunctionBlock). g.block) place x all (function_one place L.functions more x l) in
        ap block_of_function f.1 ∙ ap Some (block_found (λ (g : FunctionBlock). g.name) (λ (g : FunctionBlock). g.block) place x all f.0 (function_blocks place L.functions more) f.1)

    by : (o : Option GlobalBlock) → variable_named (program L more place) x ≡ o → IsOneOf (map (λ (v : LinkedVariable). v.name) L.variables) x ⊎ IsOneOf (map (λ (f : LinkedFunction). f.name) L.functions) x → file_block (program L more place) x ≡ Some (place x)
    by (Some g) e l =
        ap (λ o. variable_or o (block_of_function (function_named (program L more place) x))) e
        ∙ ap Some (block_found (λ (b : GlobalBlock). b.name) (λ (b : GlobalBlock). b.block) place x (map (variable_block L.structs place) L.variables) g (variable_blocks L.structs place L.variables) e)
    by None e (inl l) =
        let f = some_found (λ (b : GlobalBlock). b.name) (λ (b : GlobalBlock). b.block) place x (map (variable_block L.structs place) L.variables) (variable_one L.structs place L.variables x l) in
        let never : None ≡ Some f.0 = sym e ∙ f.1 in
        absurd cc
    by None e (inr l) = ap (λ o. variable_or o (block_of_function (function_named (program L more place) x))) e ∙ of_function l
