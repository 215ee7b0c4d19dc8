-- Bytes at addresses, with zeros between.
use Rattle.std.specs.Prelude.{ℕ, ◌+◌, ◌-◌, ◌≤◌, List, [], ◌∷◌, ◌++◌, length, replicate}
use Rattle.cap_readback.specs.Stands.{Stands}

-- some bytes and their address
abbrev pub Chunk : Type 0
Chunk = ℕ × List ℕ

-- the bytes from `at` on: each chunk at its address, and zeros between
abbrev pub spread : ℕ → List Chunk → List ℕ
spread at [] = []
spread at (c ∷ cs) = replicate (c.0 - at) 0 ++ (c.1 ++ spread (c.0 + length c.1) cs)

-- no chunk begins before the end of the one before
abbrev pub AreApart : ℕ → List Chunk → Type 0
AreApart at [] = Unit {0}
AreApart at (c ∷ cs) = (at ≤ c.0) × AreApart (c.0 + length c.1) cs

-- the last end of a chunk
abbrev pub spread_end : ℕ → List Chunk → ℕ
spread_end at [] = at
spread_end at (c ∷ cs) = spread_end (c.0 + length c.1) cs

-- each chunk stands at its address
abbrev pub AllStand : List ℕ → List Chunk → Type 0
AllStand bytes [] = Unit {0}
AllStand bytes (c ∷ cs) = Stands bytes c.0 c.1 × AllStand bytes cs
