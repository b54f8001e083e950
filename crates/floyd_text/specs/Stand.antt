-- What the shelves and sinks of memory are seen as.
use Rattle.std.specs.Prelude.{ℕ, List}
use Rattle.floyd_text.specs.Outside.{Files}
use Rattle.floyd_text.specs.Calls.{Calls}

-- files, and calls of which some are to fail
pub record MemFiles : Type 0 where
  pub files : Files
  pub calls : Calls

-- what was written, the room for it in all, the largest piece that is taken, and calls of which some are to fail
pub record MemText : Type 0 where
  pub text : List ℕ
  pub room : ℕ
  pub largest : ℕ
  pub calls : Calls
