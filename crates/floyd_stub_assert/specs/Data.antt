-- Data, and what terms stand for.
use Rattle.std.specs.Prelude.{ℕ, ◌%◌, ◌^◌, List}
use Rattle.floyd_int.specs.declared.kinds.Value.{Value}
use Rattle.floyd_int.specs.declared.kinds.Value.TheVariants.{Vint}
use Rattle.floyd_stub_machine.specs.Evaluation.{Ident}
use Rattle.floyd_stub_assert.specs.declared.term.Term.{Term, Number, Vint' as Vint_term, more_of-Term, end_of-Term}

pub data Datum : Type 0 where
  Num : (n : ℕ) → Datum
  Val : (v : Value) → Datum

-- data for the variables of a specification or a goal, by name
pub record Binding : Type 0 where
  pub name : Ident
  pub datum : Datum

abbrev pub Env : Type 0
Env = List Binding

-- a value is no number: an operator on numbers takes it as 0
abbrev pub number_of : Datum → ℕ
number_of (Num n) = n
number_of (Val v) = 0

-- the datum that a term stands for
abbrev pub value : Env → Term → Datum
value x (Number n) = Num n
value x (Vint_term p (more_of-Term t end_of-Term)) = Val (Vint (number_of (value x t) % 2 ^ 32))
