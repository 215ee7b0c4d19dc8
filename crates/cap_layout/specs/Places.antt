-- The addresses of pieces that follow one another.
use Rattle.std.specs.Prelude.{◌≡◌, ℕ, ◌+◌, ◌%◌, ◌≤◌, List, [], ◌∷◌, ◌++◌, filter}
use Rattle.std.specs.Int.{next_multiple_of}
use Rattle.cap_elf.specs.declared.records.Class.{Class}
use Rattle.cap_elf.specs.declared.records.Class.TheVariants.{Ro, Code, Init, Fini, Relro, Data, Bss}
use Rattle.cap_elf.specs.Classes.{same_class}
use Rattle.cap_layout.specs.declared.piece.Piece.{Piece}

-- an address is the least multiple of the piece's alignment not below the padded end of the piece before
abbrev pub address_after : ℕ → Piece → ℕ
address_after end p = next_multiple_of end p.align

abbrev pub end_after : ℕ → Piece → ℕ
end_after end p = address_after end p + p.padded

abbrev pub addresses : ℕ → List Piece → List ℕ
addresses end [] = []
addresses end (p ∷ ps) = address_after end p ∷ addresses (end_after end p) ps

-- the padded ends, in order
abbrev pub ends : ℕ → List Piece → List ℕ
ends end [] = []
ends end (p ∷ ps) = end_after end p ∷ ends (end_after end p) ps

-- the last padded end, or else the one before
abbrev pub last_end : ℕ → List Piece → ℕ
last_end end [] = end
last_end end (p ∷ ps) = last_end (end_after end p) ps

abbrev pub of_class : Class → List Piece → List Piece
of_class class pieces = filter (λ p. same_class p.class class) pieces

-- pieces stand by their classes, in the order of the classes in memory
abbrev pub InClassOrder : List Piece → Type 0
InClassOrder pieces =
    pieces
    ≡ of_class Ro pieces ++ of_class Code pieces ++ of_class Init pieces ++ of_class Fini pieces ++ of_class Relro pieces ++ of_class Data pieces
    ++ of_class Bss pieces

-- pieces at these addresses, the first not below a place: each at a multiple of its alignment, and not below the padded
-- end of the one before. So no two share a place
abbrev pub ArePlaced : ℕ → List Piece → List ℕ → Type 0
ArePlaced end [] [] = Unit {0}
ArePlaced end [] (_ ∷ _) = ⊥
ArePlaced end (p ∷ ps) [] = ⊥
ArePlaced end (p ∷ ps) (address ∷ rest) =
    (end ≤ address) × (address % p.align ≡ 0) × ArePlaced (address + p.padded) ps rest
