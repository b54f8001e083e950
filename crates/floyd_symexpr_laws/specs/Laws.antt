-- What the term of a row means. Where the formulas that the row needs are true, the machine's operator gives a value of the
-- values of the operands, and the term has that value.
use Rattle.std.specs.Prelude.{◌≡◌, ℕ, Bool, List, Option, Some, Ok}
use Rattle.floyd_int.specs.declared.kinds.IntKind.{IntKind}
use Rattle.floyd_int.specs.declared.kinds.IntOp.{IntOp}
use Rattle.floyd_int.specs.declared.kinds.Value.{Value}
use Rattle.floyd_clight.specs.declared.syntax.UnaryOp.{UnaryOp}
use Rattle.floyd_clight_machine.specs.Integers as machine
use Rattle.floyd_tree.specs.Plain.{Plain}
use Rattle.floyd_tree_values.specs.BuiltIns.{Env}
use Rattle.floyd_tree_values.specs.Data.{Val}
use Rattle.floyd_tree_values.specs.Means.{Defs, Means}
use Rattle.floyd_truth.specs.Truth.{AllTrue}
use Rattle.floyd_symexpr_rows.specs.declared.needs.Needs.{Needs}
use Rattle.floyd_symexpr_rows.specs.declared.needs.Number.{Number}
use Rattle.floyd_symexpr_rows.specs.Rows.{number, number_cast}
use Rattle.floyd_symexpr_pointers.specs.Operators.{on_number, on_numbers}

-- the machine finds a value, and it is the term's
pub record Agrees (defs : Defs) (env : Env) (t : Plain) (found : Option Value) : Type 0 where
  pub value : Value
  pub is : found ≡ Some value
  pub means : Means defs env t (Val value)

-- an operator on two numbers
abbrev pub TwoNumbersAgree : Type 0
TwoNumbersAgree =
    (defs : Defs) (specs : List ℕ → Value → Bool) (env : Env) (op : IntOp) (j k : IntKind) (t u r : Plain) (v w : Value) (a b : Number) (needs more : Needs) →
    Means defs env t (Val v) → Means defs env u (Val w) → number j t ≡ Ok a → number k u ≡ Ok b →
    on_numbers op a b needs ≡ Ok (r, more) → AllTrue defs specs env more.sides → Agrees defs env r (machine.binary op j k v w)

-- an operator on one number
abbrev pub OneNumberAgrees : Type 0
OneNumberAgrees =
    (defs : Defs) (specs : List ℕ → Value → Bool) (env : Env) (op : UnaryOp) (k : IntKind) (t r : Plain) (v : Value) (a : Number) (needs more : Needs) →
    Means defs env t (Val v) → number k t ≡ Ok a →
    on_number op a needs ≡ Ok (r, more) → AllTrue defs specs env more.sides → Agrees defs env r (machine.unary op k v)

-- a cast of a number to a kind
abbrev pub CastNumbersAgree : Type 0
CastNumbersAgree =
    (defs : Defs) (specs : List ℕ → Value → Bool) (env : Env) (from to : IntKind) (t r : Plain) (v : Value) (a : Number) (needs more : Needs) →
    Means defs env t (Val v) → number from t ≡ Ok a →
    number_cast to a needs ≡ Ok (r, more) → AllTrue defs specs env more.sides → Agrees defs env r (machine.cast from to v)
