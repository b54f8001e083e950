use Rattle.std.proofs.Common.{◌<◌, length, arith}
use Rattle.std.proofs.lemmas.List.{length-set}
use Rattle.floyd_memval.proofs.EncodingLemmas.{bytes_more, bytes_all}
use Rattle.floyd_memval.proofs.encoding.put_number.Goals as goal

pub places-preserved : goal.places-preserved
places-preserved c = λ n e.
    let below : c.places.place-index < length c.places.into = omega arith in
    bytes_more c.places.into _ c.places.place-index c.places.rest below c.places.invariant n (rw length-set at e)

pub returns : goal.returns
returns c = bytes_all c.places.into _ c.places.place-index c.places.rest (omega arith) c.places.invariant
