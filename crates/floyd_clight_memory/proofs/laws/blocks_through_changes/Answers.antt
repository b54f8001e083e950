use Rattle.floyd_clight_memory.proofs.Places.{store_alike, new_block, old_blocks, free_other}
use Rattle.floyd_clight_memory.proofs.laws.blocks_through_changes.Goals as goal

pub returns-clause-stores : goal.returns-clause-stores
returns-clause-stores c = λ d m n block offset v e. store_alike d m n block offset v e

pub returns-clause-new : goal.returns-clause-new
returns-clause-new c = λ m size. (new_block m size, λ block b e. old_blocks m size block b e)

pub returns-clause-frees : goal.returns-clause-frees
returns-clause-frees c = λ m n block other e ne. free_other m n block other e ne
