-- Words of the clauses of the functions that add and scale.
use Rattle.std.specs.Prelude.{◌≡◌, ℕ, ◌+◌, Bool, true, false, if◌then◌else◌, List, [], ◌∷◌, Option, Some, None, ℤ}
use Rattle.floyd_tree.specs.Plain.{Plain}
use Rattle.floyd_arith.specs.declared.unknowns.Unknown.{Unknown}
use Rattle.floyd_arith.specs.Linear.{is_small, all_small}
use Rattle.floyd_arith.specs.Same.{same_term}

abbrev pub small : ℤ → Option ℤ
small z = if is_small z then Some z else None

abbrev pub small_unknown : Unknown → Option Unknown
small_unknown u = if is_small u.coefficient then Some u else None

abbrev pub small_unknowns : List Unknown → Option (List Unknown)
small_unknowns us = if all_small us then Some us else None

-- the place of the first unknown that is this term, where the first one of all stands at place n
abbrev pub place_from : ℕ → List Unknown → Plain → Option ℕ
place_from n [] t = None
place_from n (u ∷ us) t = if same_term u.term t then Some n else place_from (n + 1) us t

-- what is left, where the call says that it is of use
abbrev pub kept : {T : Type 0} → Bool → T → Option T
kept true x = Some x
kept false x = None

-- no unknown is that term
abbrev pub Lacks : Plain → List Unknown → Type 0
Lacks t [] = Unit {0}
Lacks t (u ∷ us) = ¬ (u.term ≡ t) × Lacks t us

-- no term stands twice
abbrev pub AreApart : List Unknown → Type 0
AreApart [] = Unit {0}
AreApart (u ∷ us) = Lacks u.term us × AreApart us
