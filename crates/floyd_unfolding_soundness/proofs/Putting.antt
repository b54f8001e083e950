-- The FUN of a name among those before it, and its term with terms in the place of its variables.
use Rattle.std.proofs.Common.{◌≡◌, inl, inr, ℕ, Bool, true, false, cond, List, [], ◌∷◌, ◌++◌, Option, Some, None, refl, ◌∙◌, ap, subst, append_assoc}
use Rattle.std.specs.Prelude.{bytes_eq}
use Rattle.std.specs.List.{AllByRecursion}
use Rattle.std.specs.Map.{lookup}
use Rattle.floyd_ctypes.specs.Structs.{Structs}
use Rattle.floyd_tree_sorts.specs.declared.heads.Head.{Head}
use Rattle.floyd_tree_sorts.specs.declared.heads.Head.TheVariants.{Variable, Default, Fun as FunHead}
use Rattle.floyd_tree_sorts.specs.declared.sorts.Sort.{Sort}
use Rattle.floyd_tree.specs.Plain.{At, Done, More, Plain, Plains, kids_of, listed}
use Rattle.floyd_tree_values.specs.Funs.{Fun, fun_of}
use Rattle.floyd_tree_values.specs.Rules.{AllAllowed, AllKeep, CallsFrom, CallsOf, EachAllowed, IsAllowed, KeepsRules, Scope}
use Rattle.floyd_truth.specs.Capture.{Becomes, Called, Put}
use Rattle.floyd_truth.specs.Replace.{puts, replaced, replaced_in, variable_as}
use Rattle.floyd_assert_trees.specs.declared.pattern.Pattern.{Pattern}
use Rattle.floyd_assert_trees.specs.declared.pattern.Pattern.TheVariants.{Nil, Cons, Leaf, Node}
use Rattle.floyd_clauses.specs.Patterns.{named_parts}

-- ---- the FUN of a name

find_front : (n : List ℕ) (before more : List Fun) (g : Fun) → fun_of before n ≡ Some g → fun_of (before ++ more) n ≡ Some g
find_front n [] more g e = absurd cc
find_front n (f ∷ before) more g e = by (find_front n before more g) (bytes_eq n f.name) e
  where
    by : (fun_of before n ≡ Some g → fun_of (before ++ more) n ≡ Some g) → (c : Bool) → cond c (Some f) (fun_of before n) ≡ Some g → cond c (Some f) (fun_of (before ++ more) n) ≡ Some g
    by go true i = i
    by go false i = go i

-- it keeps the rules behind those before it, which are among all
pub record Placed (structs : Structs) (all : List Fun) (it : Fun) : Type 0 where
  pub before : List Fun
  pub keeps : KeepsRules structs before it
  pub known : (n : List ℕ) (g : Fun) → fun_of before n ≡ Some g → fun_of all n ≡ Some g

module _ (structs : Structs) (name : List ℕ) (it : Fun) (all : List Fun) where
  placed_among : (before funs : List Fun) → AllKeep structs before funs → before ++ funs ≡ all → fun_of funs name ≡ Some it → Placed structs all it
  placed_among before [] h whole e = absurd cc
  placed_among before (g ∷ funs) h whole e = by (placed_among (before ++ g ∷ []) funs h.1 (append_assoc before (g ∷ []) funs ∙ whole)) (bytes_eq name g.name) e
    where
      by : (fun_of funs name ≡ Some it → Placed structs all it) → (c : Bool) → cond c (Some g) (fun_of funs name) ≡ Some it → Placed structs all it
      by go true i =
          let same : g ≡ it = cc in
          record { before = before; keeps = subst (KeepsRules structs before) same h.0; known = λ n f k. subst (λ fs. fun_of fs n ≡ Some f) whole (find_front n before (g ∷ funs) f k) }
      by go false i = go i

  pub placed : AllKeep structs [] all → fun_of all name ≡ Some it → Placed structs all it
  placed h e = placed_among [] all h refl e

-- ---- nodes that are allowed

module _ (structs : Structs) (scope : Scope) (funs : List Fun) where
  abbrev pub Allowed : Plain → Type 0
  Allowed t = EachAllowed structs scope (CallsOf funs) t

  abbrev pub AreAllowed : Plains → Type 0
  AreAllowed ts = AllAllowed structs scope (CallsOf funs) ts

  pub list_allowed : (ts : Plains) → AreAllowed ts → AllByRecursion Allowed (listed ts)
  list_allowed Done a = tt
  list_allowed (More t ts) a = (a.0, list_allowed ts a.1)

  pub kids_allowed : (t : Plain) → Allowed t → AllByRecursion Allowed (kids_of t)
  kids_allowed (At head kids) a = list_allowed kids a.1

  abbrev pub PutAllowed : List (List ℕ × Plain) → Type 0
  PutAllowed by = AllByRecursion (λ p. EachAllowed structs scope (CallsOf funs) p.1) by

  pub both_allowed : (xs ys : List (List ℕ × Plain)) → PutAllowed xs → PutAllowed ys → PutAllowed (xs ++ ys)
  both_allowed [] ys h k = k
  both_allowed (x ∷ xs) ys h k = (h.0, both_allowed xs ys h.1 k)

  pub parts_allowed : (q : Pattern) (ts : List Plain) → AllByRecursion Allowed ts → PutAllowed (named_parts q ts)
  parts_allowed Nil ts h = tt
  parts_allowed (Cons x r) [] h = tt
  parts_allowed (Cons x r) (t ∷ []) h = tt
  parts_allowed (Cons x r) (t ∷ u ∷ more) h = (h.0, (h.1.0, tt))
  parts_allowed Leaf ts h = tt
  parts_allowed (Node l x r) [] h = tt
  parts_allowed (Node l x r) (t ∷ []) h = tt
  parts_allowed (Node l x r) (t ∷ u ∷ []) h = tt
  parts_allowed (Node l x r) (t ∷ u ∷ v ∷ more) h = (h.0, (h.1.0, (h.1.1.0, tt)))

  -- a node over other kids
  pub head_allowed : (head : Head) (ts us : Plains) → IsAllowed structs scope (CallsOf funs) head ts → IsAllowed structs scope (CallsOf funs) head us
  head_allowed (Variable x s) ts us a = a
  head_allowed (Default shape s) ts us a = a
  head_allowed (FunHead name sorts s) ts us a = a
  head_allowed head ts us a = tt

  -- what becomes of a variable is an allowed term
  abbrev pub IsPut : Option Becomes → Type 0
  IsPut (Some (Put t)) = EachAllowed structs scope (CallsOf funs) t
  IsPut (Some (Called y)) = ⊥
  IsPut None = ⊥

-- ---- terms in the place of variables

module _ (structs : Structs) (old new : Scope) (before funs : List Fun) (it : Fun) (parts : List (List ℕ)) (known : (n : List ℕ) (g : Fun) → fun_of before n ≡ Some g → fun_of funs n ≡ Some g) (there : fun_of funs it.name ≡ Some it) (by : List (List ℕ × Plain)) (leads : (v : List ℕ) (s : Sort) → lookup (bytes_eq v) old ≡ Some s → IsPut structs new funs (lookup (bytes_eq v) (puts by))) where
  call_put : (name : List ℕ) (sorts : List Sort) (s : Sort) (kids : Plains) → CallsFrom before it parts name sorts s kids → CallsOf funs name sorts s kids
  call_put name sorts s kids (inl c) = (c.0, known name c.0 c.1, c.2, c.3)
  call_put name sorts s kids (inr c) = (it, ap (fun_of funs) c.0 ∙ there, c.1, c.2)

  variable_put : (o : Option Becomes) (x : List ℕ) (s : Sort) (ts : Plains) → IsPut structs new funs o → Allowed structs new funs (variable_as o x s ts)
  variable_put (Some (Put t)) x s ts k = k
  variable_put (Some (Called y)) x s ts k = absurd k
  variable_put None x s ts k = absurd k

  mutual
    pub term_put : (t : Plain) → EachAllowed structs old (CallsFrom before it parts) t → Allowed structs new funs (replaced (puts by) t)
    term_put (At (Variable x s) ts) a = variable_put (lookup (bytes_eq x) (puts by)) x s (replaced_in (puts by) ts) (leads x s a.0)
    term_put (At (Default shape s) ts) a = (a.0, terms_put ts a.1)
    term_put (At (FunHead name sorts s) ts) a = (call_put name sorts s ts a.0, terms_put ts a.1)
    term_put (At head ts) a = (tt, terms_put ts a.1)

    terms_put : (ts : Plains) → AllAllowed structs old (CallsFrom before it parts) ts → AreAllowed structs new funs (replaced_in (puts by) ts)
    terms_put Done a = tt
    terms_put (More t ts) a = (term_put t a.0, terms_put ts a.1)
