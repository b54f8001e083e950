-- What the specification of a function says of a call: of its arguments and heaplet, and of its result and heaplet.
use Rattle.std.specs.Prelude.{◌≡◌, List, []}
use Rattle.floyd_int.specs.declared.kinds.Value.{Value}
use Rattle.floyd_stub_assert.specs.declared.funspec.Precondition.{Precondition}
use Rattle.floyd_stub_assert.specs.declared.funspec.Precondition.TheVariants.{Main}
use Rattle.floyd_stub_assert.specs.declared.funspec.Funspec.{Funspec}
use Rattle.floyd_stub_assert.specs.Heaplet.{Heaplet, empty}
use Rattle.floyd_stub_assert.specs.Data.{Val, Env, value}
use Rattle.floyd_stub_assert.specs.Truth.{AllTrue}
use Rattle.floyd_stub_assert.specs.Assertions.{PartsHold}

abbrev pub Asked : Precondition → Env → List Value → Heaplet → Type 0
Asked Main x args h = (args ≡ []) × (h ≡ empty)

-- for the WITH values x, the arguments and the heaplet are as the specification asks
abbrev pub Pre : Funspec → Env → List Value → Heaplet → Type 0
Pre s x args h = Asked s.pre x args h

-- for the WITH values x, the result and the heaplet are as it says
pub record Post (s : Funspec) (x : Env) (v : Value) (h : Heaplet) : Type 0 where
  pub prop : AllTrue x s.post.prop
  pub returned : value x s.value ≡ Val v
  pub sep : PartsHold s.post.sep h
