-- LOCAL: temporaries with their terms, in order.
use Rattle.std.specs.Prelude.{List, [], ◌∷◌, Option, Some, None, if◌then◌else◌, bytes_eq}
use Rattle.floyd_stub_machine.specs.Evaluation.{Ident}
use Rattle.floyd_stub_assert.specs.declared.term.Term.{Term}

abbrev pub Locals : Type 0
Locals = List (Ident × Term)

-- the term of a temporary in LOCAL
abbrev pub term_of : Ident → Locals → Option Term
term_of x [] = None
term_of x (l ∷ ls) = if bytes_eq x l.0 then Some l.1 else term_of x ls

-- LOCAL with x set: a temporary that is there keeps its place, and one that is not goes last
abbrev pub with_local : Ident → Term → Locals → Locals
with_local x t [] = (x, t) ∷ []
with_local x t (l ∷ ls) = if bytes_eq x l.0 then (l.0, t) ∷ ls else l ∷ with_local x t ls
