-- A program with what its functions ask and give.
use Rattle.std.specs.Prelude.{List}
use Rattle.floyd_int.specs.declared.kinds.Value.{Value}
use Rattle.floyd_stub_machine.specs.Evaluation.{Ident}
use Rattle.floyd_stub_machine.specs.Machine.{Program}
use Rattle.floyd_stub_assert.specs.Heaplet.{Heaplet}
use Rattle.floyd_stub_assert.specs.Data.{Env}

pub record World : Type 1 where
  pub program : Program
  pub pre : Ident → Env → List Value → Heaplet → Type 0
  pub post : Ident → Env → Value → Heaplet → Type 0
