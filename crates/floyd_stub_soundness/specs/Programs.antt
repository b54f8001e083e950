-- The programs of the first form, and what an accepted project is.
use Rattle.std.specs.Prelude.{◌≡◌, ℕ, List, [], ◌∷◌, codes}
use Rattle.floyd_clight.specs.declared.syntax.Stmt.{Stmt}
use Rattle.floyd_stub_assert.specs.declared.funspec.Funspec.{Funspec}
use Rattle.floyd_stub_assert.specs.declared.funspec.Precondition.TheVariants.{Main as MainPre}
use Rattle.floyd_stub_assert.specs.declared.term.Term.{Number, Vint}
use Rattle.floyd_stub_runs.specs.Linked.{Linked, linked}
use Rattle.floyd_stub_runs.specs.Sound.{Sound}
use Rattle.floyd_stub_soundness.specs.declared.program.MainProgram.{MainProgram}

-- main is called with no arguments and no memory, and returns the int n
abbrev pub spec_of : ℕ → Funspec
spec_of n = record { pre = MainPre; post = record { prop = []; local = []; sep = [] }; value = Vint (Number n) }

-- the linked program that a main and the number that it returns stand for
abbrev pub linked_of : MainProgram → Linked
linked_of p = linked p.statements (spec_of p.value)

-- a project that was accepted: its name, the functions of it that were proved, and its program
pub record Acceptance : Type 0 where
  pub project : List ℕ
  pub proved : List (List ℕ)
  pub program : MainProgram

-- the program is sound, and its one function is named as proved
pub record IsAccepted (a : Acceptance) : Type 0 where
  pub sound : Sound (linked_of a.program)
  pub proved : a.proved ≡ codes "main" ∷ []

abbrev pub accepted : List ℕ → MainProgram → Acceptance
accepted project program = record { project = project; proved = codes "main" ∷ []; program = program }
