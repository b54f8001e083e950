use Rattle.floyd_clight_heap.proofs.Blocks.{bytes_are_read, new_block, owners_free, places_are_valid}
use Rattle.floyd_clight_heap.proofs.Loading.{heaplet_shows, loads, memory_shows}
use Rattle.floyd_clight_heap.proofs.Stores.{owners_store}
use Rattle.floyd_clight_heap.proofs.laws.memory_beside_frames.Goals as goal

pub returns-clause-read : goal.returns-clause-read
returns-clause-read c = bytes_are_read

pub returns-clause-shown : goal.returns-clause-shown
returns-clause-shown c = λ h m f. (heaplet_shows h, memory_shows h m f)

pub returns-clause-loaded : goal.returns-clause-loaded
returns-clause-loaded c = λ at h k bytes b o shows aligned count w. loads at h shows k bytes b o aligned count w

pub returns-clause-stored : goal.returns-clause-stored
returns-clause-stored c = owners_store

pub returns-clause-allocated : goal.returns-clause-allocated
returns-clause-allocated c = new_block

pub returns-clause-freed : goal.returns-clause-freed
returns-clause-freed c = owners_free

pub returns-clause-valid : goal.returns-clause-valid
returns-clause-valid c = places_are_valid
