-- The functions of a linked program are those of the machine's program, and how their specifications are used.
use Rattle.std.proofs.Common.{◌≡◌, ℕ, zero, suc, Bool, true, false, cond, List, [], ◌∷◌, ◌++◌, map, Option, Some, None, refl, sym, ap, ◌∙◌}
use Rattle.std.specs.Prelude.{IsSomeAnd, bytes_eq, find}
use Rattle.std.proofs.lemmas.Option.{same_Some}
use Rattle.floyd_clight.specs.declared.unit.Defined.{Defined}
use Rattle.floyd_clight_memory.specs.Memory.{nth}
use Rattle.floyd_clight_machine.specs.Looking.{Ident}
use Rattle.floyd_clight_machine.specs.Machine.{Fun, FunctionBlock, Own, function_named}
use Rattle.floyd_assert_trees.specs.declared.spec.Funspec.{Funspec}
use Rattle.floyd_goal_meaning.specs.declared.linked.Linked.{Linked}
use Rattle.floyd_goal_meaning.specs.declared.linked.LinkedFunction.{LinkedFunction}
use Rattle.floyd_goal_meaning.specs.Programs.{Places, def_of, function_block, linked_function, program}
use Rattle.floyd_goal_meaning.specs.Worlds.{listed, own_or, own_specs}

module _ (place : Places) (more : List FunctionBlock) where
  abbrev in_blocks : List LinkedFunction → Ident → Option FunctionBlock
  in_blocks functions f = find (λ (g : FunctionBlock). bytes_eq f g.name) (map (function_block place) functions ++ more)

  abbrev in_functions : List LinkedFunction → Ident → Option LinkedFunction
  in_functions functions f = find (λ (g : LinkedFunction). bytes_eq f g.name) functions

  block_found : (functions : List LinkedFunction) (f : Ident) (g : LinkedFunction) → in_functions functions f ≡ Some g → in_blocks functions f ≡ Some (function_block place g)
  block_found [] f g e = absurd cc
  block_found (h ∷ functions) f g e = by (block_found functions f g) (bytes_eq f h.name) refl e
    where
      by : (in_functions functions f ≡ Some g → in_blocks functions f ≡ Some (function_block place g)) → (t : Bool) → bytes_eq f h.name ≡ t → cond t (Some h) (in_functions functions f) ≡ Some g → cond (bytes_eq f h.name) (Some (function_block place h)) (in_blocks functions f) ≡ Some (function_block place g)
      by go true i q = ap (λ t. cond t (Some (function_block place h)) (in_blocks functions f)) i ∙ ap (λ (k : LinkedFunction). Option.Some (function_block place k)) (same_Some h g q)
      by go false i q = ap (λ t. cond t (Some (function_block place h)) (in_blocks functions f)) i ∙ go q

pub record Found (place : Places) (functions : List LinkedFunction) (f : Ident) (b : FunctionBlock) : Type 0 where
  pub function : LinkedFunction
  pub is : find (λ (g : LinkedFunction). bytes_eq f g.name) functions ≡ Some function
  pub block : b ≡ function_block place function

function_found : (place : Places) (functions : List LinkedFunction) (f : Ident) (b : FunctionBlock) → in_blocks place [] functions f ≡ Some b → Found place functions f b
function_found place [] f b e = absurd cc
function_found place (h ∷ functions) f b e = by (function_found place functions f b) (bytes_eq f h.name) refl e
  where
    by : (in_blocks place [] functions f ≡ Some b → Found place functions f b) → (t : Bool) → bytes_eq f h.name ≡ t → cond t (Some (function_block place h)) (in_blocks place [] functions f) ≡ Some b → Found place (h ∷ functions) f b
    by go true i q = record {
      function = h;
      is = ap (λ t. cond t (Some h) (in_functions place [] functions f)) i;
      block = sym (same_Some (function_block place h) b q);
    }
    by go false i q =
        let r = go q in
        record { function = r.function; is = ap (λ t. cond t (Some h) (in_functions place [] functions f)) i ∙ r.is; block = r.block }

module _ (L : Linked) (place : Places) where
  -- a function of the linked program is one of the machine's
  pub is_named : (f : Ident) (g : LinkedFunction) → linked_function L f ≡ Some g → function_named (program L [] place) f ≡ Some (function_block place g)
  is_named f g e = block_found place [] L.functions f g e

  -- and back
  pub named_is : (f : Ident) (b : FunctionBlock) → function_named (program L [] place) f ≡ Some b → Found place L.functions f b
  named_is f b e = function_found place L.functions f b e

pub record HasBody (g : LinkedFunction) (fn : Fun) : Type 0 where
  pub body : Defined
  pub is : g.body ≡ Some body
  pub same : record { params = body.parameters; result = body.result; locals = body.blocks; body = body.body } ≡ fn

own_same : (a b : Fun) → Own a ≡ Own b → a ≡ b
own_same a b e = cc

no_own : (g : LinkedFunction) (fn : Fun) → def_of g None ≡ Own fn → ⊥
no_own g fn e = cc

-- one that is not external has a body
pub has_body : (g : LinkedFunction) (fn : Fun) → def_of g g.body ≡ Own fn → HasBody g fn
has_body g fn e = by g.body refl e
  where
    by : (o : Option Defined) → g.body ≡ o → def_of g o ≡ Own fn → HasBody g fn
    by None k q = absurd (no_own g fn q)
    by (Some d) k q = record { body = d; is = k; same = own_same (record { params = d.parameters; result = d.result; locals = d.blocks; body = d.body }) fn q }

-- ---- specifications of their own

pub own_alone : (L : Linked) (f : Ident) (g : LinkedFunction) (own : Funspec) → linked_function L f ≡ Some g → g.own ≡ Some own → own_specs L [] f ≡ own ∷ []
own_alone L f g own e k = ap (λ o. own_or o []) e ∙ ap listed k

pub none_unless_own : (L : Linked) (f : Ident) (g : LinkedFunction) → linked_function L f ≡ Some g → g.own ≡ None → own_specs L [] f ≡ []
none_unless_own L f g e k = ap (λ o. own_or o []) e ∙ ap listed k

pub none_unless_linked : (L : Linked) (f : Ident) → linked_function L f ≡ None → own_specs L [] f ≡ []
none_unless_linked L f e = ap (λ o. own_or o []) e

-- there is one way to use one specification
pub one_way : (own : Funspec) (way : ℕ) (P : Funspec → Type 0) → IsSomeAnd (nth (own ∷ []) way) P → P own × ((Q : Funspec → Type 0) → Q own → IsSomeAnd (nth (own ∷ []) way) Q)
one_way own zero P p = (p, λ Q q. q)
one_way own (suc way) P p = absurd p

pub no_way : (way : ℕ) (P : Funspec → Type 0) → IsSomeAnd (nth [] way) P → ⊥
no_way way P p = p
