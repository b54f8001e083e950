-- Goals from which nothing is left hold.
use Rattle.std.proofs.Common.{◌≡◌, ℕ, List, [], ◌∷◌, ◌++◌, sym, subst}
use Rattle.std.specs.List.{AllByRecursion}
use Rattle.floyd_goal_forms.specs.Goals.{IsWellFormed}
use Rattle.floyd_goal_meaning.specs.GoalHolds.{HoldsFor}
use Rattle.floyd_formed_pure.proofs.Contexts.{both_all}
use Rattle.floyd_row_laws.specs.Laws.{Asking, Meets, Row}
use Rattle.floyd_row_laws.specs.Derivations.{DerivedGoalsHold}

apart : {A : Type 0} (P : A → Type 0) (xs ys : List A) → AllByRecursion P (xs ++ ys) → AllByRecursion P xs × AllByRecursion P ys
apart P [] ys h = (tt, h)
apart P (x ∷ xs) ys h = let p = apart P xs ys h.1 in ((h.0, p.0), p.1)

pub derived_hold : (Command : Type 0) (row : Command → Row) (asks : Command → Asking) → DerivedGoalsHold Command row asks
derived_hold Command row asks laws defs specs [] goals formed d n = subst (AllByRecursion (HoldsFor defs specs n)) (sym d) tt
derived_hold Command row asks laws defs specs (s ∷ steps) [] formed d n = absurd d
derived_hold Command row asks laws defs specs (s ∷ steps) (goal ∷ left) formed d n =
    let both = laws s.command in
    let meets : Meets (asks s.command) defs specs goal s.args = record { formed = formed.0; small = d.0; given = d.1; asked = d.2 } in
    let made = both.forms defs specs goal s.args s.made meets d.3 in
    let rest = derived_hold Command row asks laws defs specs steps (s.made ++ left) (both_all (IsWellFormed defs specs) s.made left made formed.1) d.4 n in
    let two = apart (HoldsFor defs specs n) s.made left rest in
    (both.sound defs specs n goal s.args s.made meets d.3 two.0, two.1)
