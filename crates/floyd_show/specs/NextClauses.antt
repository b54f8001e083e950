-- The word of a statement, if it has one.
use Rattle.std.specs.Prelude.{Option, Some, None}
use Rattle.floyd_clight.specs.Words.{Shown, Ends}

abbrev pub unless_end : Shown → Option Shown
unless_end Ends = None
unless_end word = Some word
