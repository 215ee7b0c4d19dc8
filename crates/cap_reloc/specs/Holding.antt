-- The segment that decides what an address is in.
use Rattle.std.specs.Prelude.{◌≡◌, ℕ, ◌<◌, ◌≤◌, Bool, false, List, length, All, Option, Some, None, slice_index_or, if◌then◌else◌}
use Rattle.cap_elf.specs.declared.records.Segment.{Segment}
use Rattle.cap_elf.specs.Ends.{end_of}

-- the segment begins at the address or below it, those before it end where it begins at the latest, and those behind it
-- begin above the address
pub record IsLastBelow (segments : List Segment) (at : ℕ) (s : Segment) : Type 0 where
  pub place : ℕ
  pub inside : place < length segments
  pub is : slice_index_or segments place s ≡ s
  pub begins : s.vaddr ≤ at
  pub before : (k : ℕ) (d : Segment) → k < place → end_of (slice_index_or segments k d) ≤ s.vaddr
  pub behind : (k : ℕ) (d : Segment) → place < k → k < length segments → at < (slice_index_or segments k d).vaddr

-- the last segment that begins at an address or below it, or all begin above it
abbrev pub EndsBelow : List Segment → ℕ → Option Segment → Type 0
EndsBelow segments at None = All (λ s. at < s.vaddr) segments
EndsBelow segments at (Some s) = IsLastBelow segments at s

-- whether a segment, if there is one, passes a test
abbrev pub passes_in : (Segment → Bool) → Option Segment → Bool
passes_in p None = false
passes_in p (Some s) = p s

-- the segment, if it passes
abbrev pub if_passes : (Segment → Bool) → Option Segment → Option Segment
if_passes p None = None
if_passes p (Some s) = if p s then Some s else None
