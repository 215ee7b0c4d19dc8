-- Laws of the order and of the calls.
use Rattle.std.specs.Prelude.{◌≡◌, ◌≢◌, ◌⊎◌, ◌↔◌, ℕ, ◌<◌, true, ◌==◌, List, [], ◌∷◌, All, AllPairs, Some, if◌then◌else◌}
use Rattle.cap_chain.specs.Adopted.{has}
use Rattle.cap_elf.specs.DynView.{DynRecords}
use Rattle.cap_init.specs.declared.call.Call.{Call}
use Rattle.cap_init.specs.Calls.{calls_of, memory_at}
use Rattle.cap_init.specs.Post.{is_member, needs, post_of}
use Rattle.cap_mem.specs.Tagged.{TaggedMemory, TaggedWord, tagged_word}

-- from an object to another: each object of the route is of the group, and is needed by the one before it
abbrev pub IsRoute : List (List ℕ) → ℕ → ℕ → ℕ → List ℕ → ℕ → Type 0
IsRoute deps from to i [] k = i ≡ k
IsRoute deps from to i (j ∷ js) k =
    (has j (needs deps i) ≡ true) × (is_member from to j ≡ true) × IsRoute deps from to j js k

-- an object is reached from another within the group
abbrev pub Reaches : List (List ℕ) → ℕ → ℕ → ℕ → ℕ → Type 0
Reaches deps from to i k = (route : List ℕ) × IsRoute deps from to i route k

-- each object stands once
abbrev pub EachStandsOnce : Type 0
EachStandsOnce = (deps : List (List ℕ)) (from to : ℕ) → AllPairs (λ i j. i ≢ j) (post_of deps from to)

-- the objects are exactly those that are reached within the group from its first one
abbrev pub AreReached : Type 0
AreReached =
    (deps : List (List ℕ)) (from to i : ℕ) → from < to → (has i (post_of deps from to) ≡ true) ↔ Reaches deps from to from i

-- those that stand before a number
abbrev pub before : ℕ → List ℕ → List ℕ
before i [] = []
before i (j ∷ js) = if j == i then [] else j ∷ before i js

-- what an object needs of its group stands before it, unless that needs the object in turn, and both are on a ring
abbrev pub NeededStandBefore : Type 0
NeededStandBefore =
    (deps : List (List ℕ)) (from to i j : ℕ)
    → has i (post_of deps from to) ≡ true
    → has j (needs deps i) ≡ true
    → is_member from to j ≡ true
    → (has j (before i (post_of deps from to)) ≡ true) ⊎ Reaches deps from to j i

-- a call's slot is a tagged granule of the memory of its object, whose capability is sealed, with the call's cursor
pub record IsCall (memories : List TaggedMemory) (c : Call) : Type 0 where
  pub word : TaggedWord
  pub tagged : tagged_word (memory_at memories c.object) c.slot ≡ Some word
  pub sealed : word.cap.sealed ≡ true
  pub cursor : word.cap.cursor ≡ c.cursor

abbrev pub AllAreCalls : Type 0
AllAreCalls =
    (objects : List DynRecords) (memories : List TaggedMemory) (order : List ℕ) → All (IsCall memories) (calls_of objects memories order)
