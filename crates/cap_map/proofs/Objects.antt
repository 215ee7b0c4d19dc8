-- What holds of an object that was read, for its mapping.
use Rattle.std.proofs.Common.{◌≡◌, ℕ, ◌%◌, List, length, arith}
use Rattle.std.specs.Prelude.{All}
use Rattle.cap_elf.specs.Ends.{IsInFile}
use Rattle.cap_elf.specs.IsRead.{IsRead}
use Rattle.cap_elf.specs.DynView.{DynRecords}
use Rattle.cap_mem.specs.Tagged.{fresh_memory}
use Rattle.cap_map.specs.Placing.{object_memory}
use Rattle.cap_map.specs.Stores.{PartFits, with_segments}
use Rattle.cap_map.proofs.Pages.{multiple_pages}
use Rattle.cap_map.proofs.Bytes.{mapped_is}

-- a multiple of its alignment is one of a page
pub object_pages : (object : DynRecords) (x : ℕ) → IsRead object → x % object.align ≡ 0 → x % 4096 ≡ 0
object_pages object x sound multiple = multiple_pages x object.align sound.align_power sound.align_low multiple

-- its segments fit into its span and its file
pub segments_fit : (object : DynRecords) (file : List ℕ) → IsRead object → All (IsInFile (length file)) object.segments → All (PartFits object.span (length file)) object.segments
segments_fit object file sound in_file = λ k d lt.
    let s = sound.segments_are k d lt in
    record { in_span = omega (arith, s.within, s.file_part); in_file = (in_file k d lt).0 }

-- the stores of its segments make its memory
pub object_is : (object : DynRecords) (file : List ℕ) (base : ℕ) → IsRead object → All (IsInFile (length file)) object.segments
    → with_segments file (fresh_memory base object.span) object.segments ≡ object_memory file object base
object_is object file base sound in_file =
    mapped_is file base object.span object.segments (segments_fit object file sound in_file)
    (λ i j d lt inside. let first = sound.segments_are i d (omega (arith, lt, inside)) in omega (arith, first.file_part, sound.ascend i j d lt inside))
