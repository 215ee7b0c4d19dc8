-- What was found so far, and what one step more finds.
use Rattle.std.specs.Prelude.{◌≡◌, ℕ, ◌+◌, ◌^◌, ◌<◌, ◌==◌, ◌↔◌, List, ◌++◌, length, slice_index, count_by, All, Contains}
use Rattle.std.specs.List.Sorted.{IsStrictlyIncreasing}
use Rattle.cap_reach.specs.Jumps.{AreJumps}

-- each taken place is found, once
pub record IsWork (next found : List ℕ) : Type 0 where
  pub few : length next < 2 ^ 32
  pub jumps : AreJumps next
  pub same : (k : ℕ) → (0 < slice_index next k) ↔ Contains found k
  pub once : count_by (λ x. x == 0) next + length found ≡ length next

-- found has grown by numbers that meet P
pub record Extends (P : ℕ → Type 0) (old new : List ℕ) : Type 0 where
  pub more : List ℕ
  pub behind : new ≡ old ++ more
  pub only : All P more

-- found has grown by places that meet P, and holds all of those
pub record Grows (P : ℕ → Type 0) (size : ℕ) (old new : List ℕ) : Type 0 where
  pub extends : Extends (λ k. (k < size) × P k) old new
  pub whole : (k : ℕ) → k < size → P k → Contains new k

-- the taken places below a bound, in ascending order
pub record AreTaken (next : List ℕ) (bound : ℕ) (places : List ℕ) : Type 0 where
  pub ascending : IsStrictlyIncreasing places
  pub each : (k : ℕ) → Contains places k ↔ ((k < bound) × (0 < slice_index next k))
