-- Bytes that a heaplet has are read.
use Rattle.std.proofs.Common.{◌≡◌, ℕ, ◌+◌, true, List, [], ◌∷◌, length, Option, Some, None, option_map, option_and_then, refl, sym, ◌∙◌, ap}
use Rattle.std.proofs.lemmas.Bool.{cond-true}
use Rattle.floyd_memval.specs.declared.bytes.Chunk.{Chunk}
use Rattle.floyd_memval.specs.declared.bytes.MemByte.{MemByte}
use Rattle.floyd_memval.specs.Chunks.{chunk_size}
use Rattle.floyd_memval.specs.Decoding.{decoding}
use Rattle.floyd_clight_memory.specs.Memory.{Mem, Readable, includes, is_aligned}
use Rattle.floyd_clight_heap.specs.Heaplet.{Heaplet, Fits, HasBytes}
use Rattle.floyd_clight_heap.specs.Loads.{Shows, in_heaplet}
use Rattle.floyd_clight_memory.specs.Loads.{bytes_by, in_memory, load_by, readable}
use Rattle.floyd_clight_heap.proofs.Blocks.{bytes_are_read}

-- a memory that a heaplet fits shows its bytes
pub memory_shows : (h : Heaplet) (m : Mem) → Fits h m → Shows (in_memory m) h
memory_shows h m f = λ b o byte e.
    let r = bytes_are_read h m b o byte f e in
    ap readable r.is ∙ cond-true (includes r.slot.perm Readable) (Some r.slot.byte) None r.readable ∙ ap Some r.same

pub heaplet_shows : (h : Heaplet) → Shows (in_heaplet h) h
heaplet_shows h = λ b o byte e. e

pub bytes_shown : (at : ℕ → ℕ → Option MemByte) (h : Heaplet) → Shows at h → (bytes : List MemByte) (b o : ℕ) → HasBytes h bytes b o → bytes_by at (length bytes) b o ≡ Some bytes
bytes_shown at h shows [] b o w = refl
bytes_shown at h shows (x ∷ xs) b o w =
    ap (option_and_then (λ byte. option_map (λ bytes. byte ∷ bytes) (bytes_by at (length xs) b (o + 1)))) (shows b o x w.0)
    ∙ ap (option_map (λ bytes. x ∷ bytes)) (bytes_shown at h shows xs b (o + 1) w.1)

-- the value of the bytes of a chunk is loaded
pub loads : (at : ℕ → ℕ → Option MemByte) (h : Heaplet) → Shows at h → (c : Chunk) (bytes : List MemByte) (b o : ℕ) → is_aligned c o ≡ true → length bytes ≡ chunk_size c → HasBytes h bytes b o → load_by at c b o ≡ Some (decoding c bytes)
loads at h shows c bytes b o aligned count w =
    cond-true (is_aligned c o) (option_map (decoding c) (bytes_by at (chunk_size c) b o)) None aligned
    ∙ ap (λ n. option_map (decoding c) (bytes_by at n b o)) (sym count)
    ∙ ap (option_map (decoding c)) (bytes_shown at h shows bytes b o w)
