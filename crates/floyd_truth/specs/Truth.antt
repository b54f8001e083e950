-- The truth of a formula under an environment.
use Rattle.std.specs.Prelude.{◌≡◌, ℕ, List, [], ◌∷◌, ◌++◌, map, Bool, bytes_eq, if◌then◌else◌, ◌⊎◌, IsTrue, ℤ, int_le}
use Rattle.floyd_int.specs.declared.kinds.Value.{Value}
use Rattle.floyd_int.specs.declared.kinds.Value.TheVariants.{Vundef, Vptr}
use Rattle.floyd_tree_sorts.specs.declared.connectives.FormulaHead.{FormulaHead}
use Rattle.floyd_tree_sorts.specs.declared.connectives.FormulaHead.TheVariants.{True, False, Implies, Or, And, Forall, Exists, Equal, AtMost, IsPtr, Defined, Hasty, Compatible, FuncPtr}
use Rattle.floyd_tree.specs.Formulas.{PlainFormula, PlainFormulas, Says, NoFormula, MoreFormulas}
use Rattle.floyd_tree.specs.Plain.{Plains}
use Rattle.floyd_tree_values.specs.BuiltIns.{Env}
use Rattle.floyd_tree_values.specs.Data.{Datum, Number, Val, HasSort}
use Rattle.floyd_tree_values.specs.Means.{Defs, AllMean}
use Rattle.floyd_truth.specs.Compatible.{IsCompatible}
use Rattle.floyd_truth.specs.Types.{has_shape}

-- with that datum for the variable
abbrev pub with_datum : Env → List ℕ → Datum → Env
with_datum env x d = record env { variables = λ y. if bytes_eq y x then d else env.variables y }

-- of numbers, and of the value last
abbrev pub numbers_then : List ℤ → Datum → List Datum
numbers_then ns d = map Number ns ++ d ∷ []

-- `specs` tells which values are functions that were declared with the SPEC of a name
module _ (defs : Defs) (specs : List ℕ → Value → Bool) where
  -- what a head says of the data of its terms; an equation says that some datum is the value of both
  abbrev pub SaysOf : Env → FormulaHead → Plains → Type 0
  SaysOf env Equal terms = (d : Datum) × AllMean defs env terms (d ∷ d ∷ [])
  SaysOf env AtMost terms = (m : ℤ) × (n : ℤ) × AllMean defs env terms (Number m ∷ Number n ∷ []) × IsTrue (int_le m n)
  SaysOf env IsPtr terms = (block : ℕ) × (offset : ℕ) × AllMean defs env terms (Val (Vptr block offset) ∷ [])
  SaysOf env Defined terms = (v : Value) × AllMean defs env terms (Val v ∷ []) × ¬ (v ≡ Vundef)
  SaysOf env (Hasty shape) terms = (sizes : List ℤ) × (v : Value) × AllMean defs env terms (numbers_then sizes (Val v)) × IsTrue (has_shape shape v)
  SaysOf env (Compatible shape steps) terms =
      (sizes : List ℤ) × (subscripts : List ℤ) × (block : ℕ) × (offset : ℕ)
      × AllMean defs env terms (numbers_then (sizes ++ subscripts) (Val (Vptr block offset)))
      × IsCompatible defs.structs shape sizes steps subscripts offset
  SaysOf env (FuncPtr name) terms = (v : Value) × AllMean defs env terms (Val v ∷ []) × IsTrue (specs name v)
  SaysOf env head terms = ⊥

  abbrev mutual
    pub Truth : Env → PlainFormula → Type 0
    Truth env (Says True terms kids) = Unit {0}
    Truth env (Says False terms kids) = ⊥
    Truth env (Says Implies terms kids) = FirstTrue env kids → SecondTrue env kids
    Truth env (Says Or terms kids) = FirstTrue env kids ⊎ SecondTrue env kids
    Truth env (Says And terms kids) = FirstTrue env kids × SecondTrue env kids
    Truth env (Says (Forall x s) terms kids) = (d : Datum) → HasSort s d → FirstTrue (with_datum env x d) kids
    Truth env (Says (Exists x s) terms kids) = (d : Datum) × HasSort s d × FirstTrue (with_datum env x d) kids
    Truth env (Says head terms kids) = SaysOf env head terms

    -- of the first formula
    pub FirstTrue : Env → PlainFormulas → Type 0
    FirstTrue env NoFormula = ⊥
    FirstTrue env (MoreFormulas f fs) = Truth env f

    -- of the second
    pub SecondTrue : Env → PlainFormulas → Type 0
    SecondTrue env NoFormula = ⊥
    SecondTrue env (MoreFormulas f fs) = FirstTrue env fs

  -- each of them is true
  abbrev pub AllTrue : Env → List PlainFormula → Type 0
  AllTrue env [] = Unit {0}
  AllTrue env (f ∷ fs) = Truth env f × AllTrue env fs
