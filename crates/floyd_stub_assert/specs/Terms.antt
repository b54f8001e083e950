-- Terms as trees.
use Rattle.std.specs.Prelude.{Bool, false, ◌==◌}
use Rattle.floyd_stub_assert.specs.declared.term.Term.{Term, Number, Vint' as Vint_term, more_of-Term, end_of-Term}

-- the terms are the same
abbrev pub same_term : Term → Term → Bool
same_term (Number m) (Number n) = m == n
same_term (Vint_term p (more_of-Term a end_of-Term)) (Vint_term q (more_of-Term b end_of-Term)) = same_term a b
same_term a b = false
