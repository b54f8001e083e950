-- A whole number as the natural number that it is, or as one whose bits are turned over.
use Rattle.std.specs.Prelude.{ℤ, pos, negsuc}
use Rattle.floyd_folding.specs.declared.bits.Bits.{Bits}
use Rattle.floyd_folding.specs.declared.bits.Bits.TheVariants.{Plain, Turned}

abbrev pub whole : Bits → ℤ
whole (Plain n) = pos n
whole (Turned n) = negsuc n
