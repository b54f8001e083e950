-- When an assertion holds of data for its variables, temporaries and a heaplet.
use Rattle.std.specs.Prelude.{◌≡◌, List, [], ◌∷◌, Some}
use Rattle.floyd_stub_machine.specs.Evaluation.{Ident, Temps}
use Rattle.floyd_stub_assert.specs.declared.term.Term.{Term}
use Rattle.floyd_stub_assert.specs.declared.assertion.Sep.{Sep}
use Rattle.floyd_stub_assert.specs.declared.assertion.Sep.TheVariants.{TT}
use Rattle.floyd_stub_assert.specs.declared.assertion.Assertion.{Assertion}
use Rattle.floyd_stub_assert.specs.LocalTerms.{Locals, term_of}
use Rattle.floyd_stub_assert.specs.Heaplet.{Heaplet, empty, Joins}
use Rattle.floyd_stub_assert.specs.Data.{Val, Env, value}
use Rattle.floyd_stub_assert.specs.Truth.{AllTrue}

-- a part of memory holds of a heaplet
abbrev pub PartHolds : Sep → Heaplet → Type 0
PartHolds TT h = Unit {0}

-- the heaplet is the sum of one heaplet for each part
abbrev pub PartsHold : List Sep → Heaplet → Type 0
PartsHold [] h = h ≡ empty
PartsHold (p ∷ ps) h = (here rest : Heaplet) × Joins here rest h × PartHolds p here × PartsHold ps rest

-- each temporary of LOCAL has its term's value
pub record LocalsHold (x : Env) (locals : Locals) (temps : Temps) : Type 0 where
  pub each : (y : Ident) (t : Term) → term_of y locals ≡ Some t → value x t ≡ Val (temps y)

pub record Holds (x : Env) (a : Assertion) (temps : Temps) (h : Heaplet) : Type 0 where
  pub prop : AllTrue x a.prop
  pub local : LocalsHold x a.local temps
  pub sep : PartsHold a.sep h
