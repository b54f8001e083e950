-- Parameters as the program has them.
use Rattle.std.proofs.Common.{◌≡◌, ℕ, zero, suc, ◌+◌, ◌<◌, ◌≤◌, slice_get, List, [], ◌∷◌, ◌++◌, length, get_or, drop, Option, Some, None, if◌then◌else◌, append_assoc, refl, ap, sym, ◌∙◌}
use Rattle.std.specs.Option.{unwrap_or}
use Rattle.std.proofs.lemmas.List.{append-nil, drop_more}
use Rattle.std.proofs.Math.ListN.{drop_of_length-le}
use Rattle.std.proofs.lemmas.Option.{slice_get_within, get_or_from_slice_get}
use denote.Hole.Carrier.{hidden}
use Rattle.floyd_text.specs.declared.place.Place.{Place}
use Rattle.floyd_ctypes.specs.declared.ctype.CType.{CType, Void, Function}
use Rattle.floyd_ctypes.specs.declared.ctype.CType.TheBlock.{shape-the_row-CType-0, hidden-the_row-CType-0, items_hidden-the_row-CType-1}
use Rattle.floyd_cparse_trees.specs.declared.types.Base.TheBlock.{shape-the_row-Declarator-2, hidden-the_row-Declarator-2, hidden-the_row-Parameter-3, items_hidden-the_row-Parameter-3}
use Rattle.floyd_cparse_trees.specs.declared.types.Declarator as d
use Rattle.floyd_cparse_trees.specs.declared.types.Identifier.{Identifier}
use Rattle.floyd_cparse_trees.specs.declared.types.Literal.{Literal}
use Rattle.floyd_cparse_trees.specs.declared.types.Parameter.{Parameter}
use Rattle.floyd_cparse_trees.specs.declared.types.Star.{Star}
use Rattle.floyd_clight.specs.declared.unit.Declared.{Declared}
use Rattle.floyd_clight.specs.declared.unit.Local.{Local}
use Rattle.floyd_ctyping.specs.Operators.{signature_of}
use Rattle.floyd_elab_names.specs.Declarators.{name_of, is_bare}
use Rattle.floyd_elab.specs.Files.{declaration_of}
use Rattle.floyd_elab.specs.Units.{parameter_names, own_parameters, pair, parameters_of, result_of}
use Rattle.floyd_elab.specs.UnitClauses.{names_of, local_of, with_function}

-- The types of a function.

pub signature_of_function : (ps : List CType) (r : CType) → signature_of (Function ps r) ≡ Some (ps, r)
unfolding shape-the_row-CType-0 hidden-the_row-CType-0 hidden
signature_of_function ps r = ap (λ (l : List CType). Some (l, r)) (items_hidden-the_row-CType-1 ps)

-- The names of parameters, in rows and in lists.

names_are : {m : _} (row : d.Row_of-Parameter m) → parameter_names row ≡ names_of (d.items-the_row-Parameter m row)
names_are d.end_of-Parameter = refl
names_are (d.more_of-Parameter constant base d rest) = ap (λ (ns : List (Option Identifier)). name_of d ∷ ns) (names_are rest)

module _ (inner : d.Declarator) where
  pub own_in_parentheses : (place : Place) → own_parameters (d.Parenthesised place inner) ≡ own_parameters inner
  unfolding shape-the_row-Declarator-2 hidden-the_row-Declarator-2 hidden
  own_in_parentheses place = refl

  pub own_in_pointer : (stars : List Star) → own_parameters (d.Pointer stars inner) ≡ own_parameters inner
  unfolding shape-the_row-Declarator-2 hidden-the_row-Declarator-2 hidden
  own_in_pointer stars = refl

  pub own_in_array : (place : Place) (size : Option Literal) → own_parameters (d.Array inner place size) ≡ own_parameters inner
  unfolding shape-the_row-Declarator-2 hidden-the_row-Declarator-2 hidden
  own_in_array place size = refl

  pub own_in_function : (place : Place) (ps : List Parameter) → own_parameters (d.Function inner place ps) ≡ (if is_bare inner then Some (names_of ps) else own_parameters inner)
  unfolding shape-the_row-Declarator-2 hidden-the_row-Declarator-2 hidden
  own_in_function place ps =
      ap (λ ns. if is_bare inner then Some ns else own_parameters inner)
      (names_are (hidden-the_row-Parameter-3 ps) ∙ ap names_of (items_hidden-the_row-Parameter-3 ps))

-- Parameters with their types.

drop_some : (ts : List CType) (k : ℕ) (t : CType) → slice_get ts k ≡ Some t → drop k ts ≡ t ∷ drop (k + 1) ts
drop_some ts k t e = drop_more ts k t (slice_get_within ts k t e) ∙ ap (λ (u : CType). u ∷ drop (k + 1) ts) (get_or_from_slice_get ts k t t e)

drop_none : (ts : List CType) (k : ℕ) → slice_get ts k ≡ None → drop k ts ≡ []
drop_none [] zero e = refl
drop_none [] (suc k) e = refl
drop_none (t ∷ ts) zero e = cc
drop_none (t ∷ ts) (suc k) e = drop_none ts k e

pub paired_none : (names : List (Option Identifier)) → pair names [] ≡ []
paired_none [] = refl
paired_none (None ∷ names) = refl
paired_none (Some i ∷ names) = refl

pub paired_some : (name : Option Identifier) (names : List (Option Identifier)) (ts : List CType) (k : ℕ) (l : Local) → local_of name (slice_get ts k) ≡ Some l
    → pair (name ∷ names) (drop k ts) ≡ l ∷ pair names (drop (k + 1) ts)
paired_some None names ts k l e = cc
paired_some (Some i) names ts k l e = by (slice_get ts k) refl e
  where
    by : (o : Option CType) → slice_get ts k ≡ o → local_of (Some i) o ≡ Some l → pair (Some i ∷ names) (drop k ts) ≡ l ∷ pair names (drop (k + 1) ts)
    by None there e = cc
    by (Some t) there e = ap (pair (Some i ∷ names)) (drop_some ts k t there) ∙ ap (λ (m : Local). m ∷ pair names (drop (k + 1) ts)) (let same : record { name = i.name; ctype = t } ≡ l = cc in same)

pub paired_end : (name : Option Identifier) (names : List (Option Identifier)) (ts : List CType) (k : ℕ) → local_of name (slice_get ts k) ≡ None → pair (name ∷ names) (drop k ts) ≡ []
paired_end None names ts k e = refl
paired_end (Some i) names ts k e = by (slice_get ts k) refl e
  where
    by : (o : Option CType) → slice_get ts k ≡ o → local_of (Some i) o ≡ None → pair (Some i ∷ names) (drop k ts) ≡ []
    by None there e = ap (pair (Some i ∷ names)) (drop_none ts k there)
    by (Some t) there e = cc

-- of the parameters from one on
pub names_from : (ps : List Parameter) (k : ℕ) (p : Parameter) → k < length ps → p ≡ get_or ps k p → names_of (drop k ps) ≡ name_of p.declarator ∷ names_of (drop (k + 1) ps)
names_from ps k p within is = ap names_of (drop_more ps k p within) ∙ ap (λ (q : Parameter). name_of q.declarator ∷ names_of (drop (k + 1) ps)) (sym is)

module _ (ps : List Parameter) (ts : List CType) (k : ℕ) (locals whole : List Local) (held : locals ++ pair (names_of (drop k ps)) (drop k ts) ≡ whole) where
  pub next_paired : (p : Parameter) (l : Local) (now : List Local) → k < length ps → p ≡ get_or ps k p → Some l ≡ local_of (name_of p.declarator) (slice_get ts k) → now ≡ locals ++ l ∷ []
      → now ++ pair (names_of (drop (k + 1) ps)) (drop (k + 1) ts) ≡ whole
  next_paired p l now within is found put =
      ap (λ (ls : List Local). ls ++ pair (names_of (drop (k + 1) ps)) (drop (k + 1) ts)) put
      ∙ append_assoc locals (l ∷ []) (pair (names_of (drop (k + 1) ps)) (drop (k + 1) ts))
      ∙ sym (ap (λ (ls : List Local). locals ++ ls)
      (ap (λ (ns : List (Option Identifier)). pair ns (drop k ts)) (names_from ps k p within is)
      ∙ paired_some (name_of p.declarator) (names_of (drop (k + 1) ps)) ts k l (sym found)))
      ∙ held

  pub end_paired : (p : Parameter) → k < length ps → p ≡ get_or ps k p → None ≡ local_of (name_of p.declarator) (slice_get ts k) → locals ≡ whole
  end_paired p within is found =
      sym (append-nil locals)
      ∙ sym (ap (λ (ls : List Local). locals ++ ls)
      (ap (λ (ns : List (Option Identifier)). pair ns (drop k ts)) (names_from ps k p within is)
      ∙ paired_end (name_of p.declarator) (names_of (drop (k + 1) ps)) ts k (sym found)))
      ∙ held

  pub all_paired : length ps ≤ k → locals ≡ whole
  all_paired past =
      sym (append-nil locals)
      ∙ sym (ap (λ (qs : List Parameter). locals ++ pair (names_of qs) (drop k ts)) (drop_of_length-le ps past))
      ∙ held

-- What a function's type says.

pub result_of_function : (ps : List CType) (r : CType) → result_of (Function ps r) ≡ r
result_of_function ps r = ap (λ (s : Option (List CType × CType)). (unwrap_or s ([], Void)).1) (signature_of_function ps r)

pub parameters_of_function : (d : d.Declarator) (ps : List CType) (r : CType) → parameters_of d (Function ps r) ≡ pair (unwrap_or (own_parameters d) []) ps
parameters_of_function d ps r = ap (λ (s : Option (List CType × CType)). pair (unwrap_or (own_parameters d) []) (unwrap_or s ([], Void)).0) (signature_of_function ps r)

pub no_parameters : (d : d.Declarator) (t : CType) → signature_of t ≡ None → [] ≡ parameters_of d t
no_parameters d t none =
    sym (ap (λ (s : Option (List CType × CType)). pair (unwrap_or (own_parameters d) []) (unwrap_or s ([], Void)).0) none ∙ paired_none (unwrap_or (own_parameters d) []))

pub parameters_of_own : (d : d.Declarator) (t : CType) (ps : List CType) (r : CType) (own : List Parameter) → t ≡ Function ps r → Some (names_of own) ≡ own_parameters d
    → pair (names_of own) ps ≡ parameters_of d t
parameters_of_own d t ps r own is has =
    sym (ap (λ (u : CType). parameters_of d u) is
    ∙ parameters_of_function d ps r
    ∙ ap (λ (o : Option (List (Option Identifier))). pair (unwrap_or o []) ps) (sym has))

pub is_none : {A : Type 0} (o : Option A) → ((a : A) → o ≡ Some a → ⊥) → o ≡ None
is_none None never = refl
is_none (Some a) never = absurd (never a refl)

pub without_function : (functions : List Declared) (i : Identifier) (t : CType) → signature_of t ≡ None → functions ≡ with_function functions i t
without_function functions i t none =
    sym (ap (λ (s : Option (List CType × CType)). functions ++ declaration_of i s) none ∙ append-nil functions)

pub with_function_of : (functions : List Declared) (i : Identifier) (ps : List CType) (r : CType)
    → with_function functions i (Function ps r) ≡ functions ++ record { name = i.name; place = i.place; parameters = ps; result = r } ∷ []
with_function_of functions i ps r = ap (λ (s : Option (List CType × CType)). functions ++ declaration_of i s) (signature_of_function ps r)
