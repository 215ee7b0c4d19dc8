-- The memories that a loop has gone over.
use Rattle.std.proofs.Common.{◌≡◌, ℕ, ◌+◌, ◌<◌, ◌≤◌, List, length, get_or, subst, sym, arith}
use Rattle.std.specs.Prelude.{All}
use Rattle.std.proofs.lemmas.List.{take_all}
use Rattle.std.proofs.lemmas.List.Elements.{All-more}
use Rattle.cap_mem.specs.IsMemory.{IsMemory}
use Rattle.cap_mem.specs.Tagged.{TaggedMemory}
use Rattle.cap_image.specs.MemoryParts.{AreSound}

-- none yet
pub none_sound : (memories : List TaggedMemory) → AreSound memories 0
none_sound memories = record { each = λ k d lt. absurd (omega (arith, lt)) }

-- one memory more
pub sound_more : (memories : List TaggedMemory) (n m : ℕ) (memory : TaggedMemory) → m ≡ n + 1 → n < length memories → memory ≡ get_or memories n memory → IsMemory memory → AreSound memories n → AreSound memories m
sound_more memories n m memory next within is sound so_far =
    subst (AreSound memories) (sym next) (record { each = All-more IsMemory memories n memory within so_far.each (subst IsMemory is sound) })

-- all of them
pub all_sound : (memories : List TaggedMemory) (n : ℕ) → length memories ≤ n → AreSound memories n → (k : ℕ) (d : TaggedMemory) → k < length memories → IsMemory (get_or memories k d)
all_sound memories n le so_far = subst (All IsMemory) (take_all n memories le) so_far.each
