use Rattle.std.proofs.Common.{◌∙◌, ap}
use Rattle.floyd_memval.specs.Decoding.{decoding}
use Rattle.floyd_memval.proofs.RoundTrips.{length-encoding, layout-scalar, decoding-undefined, decoding-pointer, decoding-fragments}
use Rattle.floyd_memval.proofs.NumberLaws.{slice_get-number_bytes, number_in-number_bytes}
use Rattle.floyd_memval.proofs.laws.bytes_of_chunks.Goals as goal

pub returns-clause-sizes : goal.returns-clause-sizes
returns-clause-sizes c = length-encoding

pub returns-clause-scalars : goal.returns-clause-scalars
returns-clause-scalars c = layout-scalar

pub returns-clause-little_endian : goal.returns-clause-little_endian
returns-clause-little_endian c = slice_get-number_bytes

pub returns-clause-numbers : goal.returns-clause-numbers
returns-clause-numbers c = number_in-number_bytes

pub returns-clause-undefined : goal.returns-clause-undefined
returns-clause-undefined c = decoding-undefined

pub returns-clause-pointers : goal.returns-clause-pointers
returns-clause-pointers c = λ chunk bytes b o. (decoding-pointer chunk bytes b o, λ h. ap (decoding chunk) h.1 ∙ decoding-fragments chunk b o h.0)
