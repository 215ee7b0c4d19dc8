-- What carving answers.
use Rattle.std.specs.Prelude.{◌≡◌, ℕ, ◌+◌, ◌-◌, ◌<◌, Result, Ok, Err}
use Rattle.cap_own.specs.declared.space.Full.{Full}
use Rattle.cap_own.specs.Interval.{Interval, Room, body_start, IsCarved}

-- the body would end past the limit, and nothing was carved
pub record IsFull (old new : Room) (align len : ℕ) (full : Full) : Type 0 where
  pub passes : old.limit < body_start old align + len
  pub asked : full.asked ≡ len
  pub left : full.left ≡ old.limit - old.next
  pub kept : new ≡ old

-- a pad and a body, exactly where the body fits
abbrev pub Carves : Room → Room → ℕ → ℕ → Result (Interval × Interval) Full → Type 0
Carves old new align len (Ok parts) = IsCarved old new align len parts.0 parts.1
Carves old new align len (Err full) = IsFull old new align len full
