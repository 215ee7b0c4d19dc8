-- How placing an object ends.
use Rattle.std.specs.Prelude.{◌≡◌, ◌⊎◌, ℕ, ◌+◌, ◌-◌, ◌<◌, List, [], Result, Ok, Err}
use Rattle.cap_base.specs.declared.refusal.Refusal.{Refusal}
use Rattle.cap_base.specs.declared.refusal.Refusal.TheVariants.{Full, NoMemory}
use Rattle.cap_own.specs.Interval.{Interval, Room, interval, body_start, IsCarved}
use Rattle.cap_mem.specs.Tagged.{TaggedMemory}
use Rattle.cap_elf.specs.DynView.{DynRecords}
use Rattle.cap_map.specs.declared.placing.Placed.{Placed}
use Rattle.cap_map.specs.Mapped.{mapped_bytes}

-- the memory of an object from a base on: the bytes that its file gives it, without a tag
abbrev pub object_memory : List ℕ → DynRecords → ℕ → TaggedMemory
object_memory file object base = record { base = base; bytes = mapped_bytes file object; words = [] }

-- the object was carved at the next multiple of its alignment, has its owner, and stands there as its file has it
pub record IsPlaced (object : DynRecords) (file : List ℕ) (old new : Room) (owner : ℕ) (p : Placed) : Type 0 where
  pub spans : IsCarved old new object.align object.span p.pad (interval p.root.base p.root.len)
  pub owner_is : p.root.owner ≡ owner
  pub memory_is : p.memory ≡ object_memory file object (body_start old object.align)

-- the object would end past the limit, and the refusal says what it asks for and what is left
pub record IsFull (object : DynRecords) (old : Room) (refusal : Refusal) : Type 0 where
  pub refusal_is : refusal ≡ Full object.span (old.limit - old.next)
  pub passes : old.limit < body_start old object.align + object.span

-- nothing was carved: memory ran out, or the space is full
pub record IsNotPlaced (object : DynRecords) (old new : Room) (refusal : Refusal) : Type 0 where
  pub cause : (refusal ≡ NoMemory) ⊎ IsFull object old refusal
  pub kept : new ≡ old

abbrev pub Places : DynRecords → List ℕ → Room → Room → ℕ → Result Placed Refusal → Type 0
Places object file old new owner (Ok placed) = IsPlaced object file old new owner placed
Places object file old new owner (Err refusal) = IsNotPlaced object old new refusal

-- the same for the addresses of an object alone
abbrev pub CarvesFor : DynRecords → Room → Room → Result (Interval × Interval) Refusal → Type 0
CarvesFor object old new (Ok parts) = IsCarved old new object.align object.span parts.0 parts.1
CarvesFor object old new (Err refusal) = IsFull object old refusal × (new ≡ old)
