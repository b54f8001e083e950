-- Names of a table, and what a derivation claims.
use Rattle.std.proofs.Common.{◌≡◌, ◌+◌, ℕ, zero, suc, List, [], ◌∷◌, ◌++◌, map, take, Some, None, refl, ap, sym, subst, ◌∙◌, arith}
use Rattle.std.specs.Map.{keys_of}
use Rattle.std.specs.Prelude.{slice_get}
use Rattle.std.specs.List.{AllByRecursion}
use Rattle.std.proofs.lemmas.Option.{same_Some}
use Rattle.floyd_assert_trees.specs.declared.items.Defs.{Defs}
use Rattle.floyd_assert_trees.specs.declared.spec.SpecTable.{SpecTable}
use Rattle.floyd_goal_meaning.specs.GoalHolds.{HoldsFor}
use Rattle.floyd_goal_trees.specs.declared.goal.Goal.{Goal}
use Rattle.floyd_play_laws.proofs.Deriving.{holding}
use Rattle.floyd_play_laws.specs.Laws.{AreLawful}
use Rattle.floyd_play_steps.specs.declared.state.Start.{Start}
use Rattle.floyd_play_steps.specs.Derivations.{HasDerivation}
use Rattle.floyd_play_steps.specs.Forms.{AreWellFormed}
use Rattle.floyd_program_soundness.specs.Proofs.{with_proved}

-- ---- names

abbrev pub Table : Type 0
Table = List (List ℕ × Unit {0})

pub one_more : (names : Table) (i : ℕ) (p : List ℕ × Unit {0}) → slice_get names i ≡ Some p → keys_of (take (i + 1) names) ≡ keys_of (take i names) ++ p.0 ∷ []
one_more [] i p e = absurd cc
one_more (q ∷ names) zero p e = ap (λ (r : List ℕ × Unit {0}). r.0 ∷ []) (same_Some q p e)
one_more (q ∷ names) (suc i) p e =
    let next : suc i + 1 ≡ suc (i + 1) = omega arith in
    ap (λ (n : ℕ). keys_of (take n (q ∷ names))) next ∙ ap (λ (xs : List (List ℕ)). q.0 ∷ xs) (one_more names i p e)

-- none is there from the end on
pub none_more : (names : Table) (i : ℕ) → slice_get names i ≡ None → keys_of (take (i + 1) names) ≡ keys_of (take i names)
none_more [] zero e = refl
none_more [] (suc i) e =
    let next : suc i + 1 ≡ suc (i + 1) = omega arith in
    let none : Table = [] in
    ap (λ (n : ℕ). keys_of (take n none)) next
none_more (q ∷ names) zero e = absurd cc
none_more (q ∷ names) (suc i) e =
    let next : suc i + 1 ≡ suc (i + 1) = omega arith in
    ap (λ (n : ℕ). keys_of (take n (q ∷ names))) next ∙ ap (λ (xs : List (List ℕ)). q.0 ∷ xs) (none_more names i e)

-- one more is there
pub pushed : (names : Table) (i : ℕ) (x value : List ℕ) (u : Unit {0}) (all new : List (List ℕ)) → Some (x, u) ≡ slice_get names i → value ≡ x → new ≡ all ++ value ∷ [] → all ≡ keys_of (take i names) → new ≡ keys_of (take (i + 1) names)
pushed names i x value u all new there is put so_far =
    put ∙ ap (λ (xs : List (List ℕ)). xs ++ value ∷ []) so_far ∙ ap (λ (v : List ℕ). keys_of (take i names) ++ v ∷ []) is ∙ sym (one_more names i (x, u) (sym there))

same_names : (names : Table) → map (λ (x : List ℕ). (x, tt)) (keys_of names) ≡ names
same_names [] = refl
same_names (q ∷ names) = ap (λ (xs : Table). q ∷ xs) (same_names names)

-- ---- claims

abbrev pub StartsHold : Defs → SpecTable → List (List ℕ) → List Goal → Type 0
StartsHold defs specs before start = (n : ℕ) → AllByRecursion (HoldsFor (with_proved defs before) specs n) start

own_proved : (defs : Defs) → with_proved defs (keys_of defs.proved) ≡ defs
own_proved defs = ap (λ (names : Table). record defs { proved = names }) (same_names defs.proved)

pub starts_hold : (defs : Defs) (specs : SpecTable) (start : Start) → AreLawful defs specs → AreWellFormed defs specs start.goals → HasDerivation defs specs start → StartsHold defs specs (keys_of defs.proved) start.goals
starts_hold defs specs start lawful formed derived n = subst (λ (d : Defs). AllByRecursion (HoldsFor d specs n) start.goals) (sym (own_proved defs)) (holding defs specs start lawful formed derived n)

-- ---- the same things

pub back : (P : Defs → SpecTable → Type 0) (d e : Defs) (s t : SpecTable) → d ≡ e → s ≡ t → P e t → P d s
back P d e s t same other h = subst (λ (x : Defs). P x s) (sym same) (subst (P e) (sym other) h)

pub forth : (P : Defs → SpecTable → Type 0) (d e : Defs) (s t : SpecTable) → d ≡ e → s ≡ t → P d s → P e t
forth P d e s t same other h = subst (λ (x : Defs). P x t) same (subst (P d) other h)

pub starts_as : (d e : Defs) (s t : SpecTable) (before names : List (List ℕ)) (goals : List Goal) → d ≡ e → s ≡ t → before ≡ names → StartsHold e t names goals → StartsHold d s before goals
starts_as d e s t before names goals same other are h = back (λ x y. StartsHold x y before goals) d e s t same other (subst (λ (ns : List (List ℕ)). StartsHold e t ns goals) (sym are) h)
