-- Intervals of addresses, and the space that they are carved from.
use Rattle.std.specs.Prelude.{◌≡◌, ℕ, ◌+◌, ◌-◌, ◌%◌, ◌≤◌, List, [], ◌∷◌}
use Rattle.std.specs.Int.{next_multiple_of}

-- the addresses from base on, len of them
pub record Interval : Type 0 where
  pub base : ℕ
  pub len : ℕ

abbrev pub interval : ℕ → ℕ → Interval
interval base len = record { base = base; len = len }

-- the addresses from the next one up to the limit are free; those below it, from the start on, are carved
pub record Room : Type 0 where
  pub start : ℕ
  pub next : ℕ
  pub limit : ℕ

-- the intervals touch one another, from one address up to another: none is left out, and none stands in two
abbrev pub Cover : ℕ → List Interval → ℕ → Type 0
Cover from [] to = from ≡ to
Cover from (i ∷ intervals) to = (i.base ≡ from) × Cover (i.base + i.len) intervals to

-- x is the least multiple of n that is not below an address
pub record IsNextMultiple (n at x : ℕ) : Type 0 where
  pub multiple : x % n ≡ 0
  pub from : at ≤ x
  pub least : (y : ℕ) → at ≤ y → y % n ≡ 0 → x ≤ y

-- where the next body begins
abbrev pub body_start : Room → ℕ → ℕ
body_start room align = next_multiple_of room.next align

-- the room after a body was carved from it
abbrev pub carved : Room → ℕ → ℕ → Room
carved room align len = record room { next = body_start room align + len }

-- a pad and a body were carved, the body at the next multiple of the alignment
pub record IsCarved (old new : Room) (align len : ℕ) (pad body : Interval) : Type 0 where
  pub fits : body_start old align + len ≤ old.limit
  pub pad_is : pad ≡ interval old.next (body_start old align - old.next)
  pub body_is : body ≡ interval (body_start old align) len
  pub rest : new ≡ carved old align len
