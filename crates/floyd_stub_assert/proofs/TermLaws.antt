-- Laws of terms.
use Rattle.std.proofs.Common.{◌≡◌, ℕ, ◌%◌, ◌^◌, false, refl}
use Rattle.floyd_int.specs.declared.kinds.Value.TheVariants.{Vint as VintValue}
use Rattle.floyd_stub_assert.specs.declared.term.Term.{Term, Number, Vint}
use Rattle.floyd_stub_assert.specs.declared.term.Term.TheBlock.{hidden-the_row-Term-0, shape-the_row-Term-0}
use denote.Hole.Carrier.{hidden}
use Rattle.floyd_stub_assert.specs.Terms.{same_term}
use Rattle.floyd_stub_assert.specs.Data.{Env, Val, value, number_of}

pub same_vint : (a b : Term) → same_term (Vint a) (Vint b) ≡ same_term a b
unfolding hidden-the_row-Term-0 shape-the_row-Term-0 hidden
same_vint a b = refl

pub same_vint_number : (a : Term) (n : ℕ) → same_term (Vint a) (Number n) ≡ false
unfolding hidden-the_row-Term-0 shape-the_row-Term-0 hidden
same_vint_number a n = refl

pub same_number_vint : (n : ℕ) (a : Term) → same_term (Number n) (Vint a) ≡ false
unfolding hidden-the_row-Term-0 shape-the_row-Term-0 hidden
same_number_vint n a = refl

pub value_vint : (x : Env) (t : Term) → value x (Vint t) ≡ Val (VintValue (number_of (value x t) % 2 ^ 32))
unfolding hidden-the_row-Term-0 shape-the_row-Term-0 hidden
value_vint x t = refl
