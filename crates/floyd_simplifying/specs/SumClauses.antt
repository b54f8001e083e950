-- Whole numbers in two words.
use Rattle.std.specs.Prelude.{ℤ, pos, ◌+ℤ◌, ◌*ℤ◌, ◌^◌}
use Rattle.floyd_simplifying.specs.declared.sums.Wide.{Wide}

abbrev pub whole : Wide → ℤ
whole w = w.high *ℤ pos (2 ^ 128) +ℤ w.low
