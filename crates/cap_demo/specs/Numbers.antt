-- The numbers that objects are made from: a linear congruential generator with the constants of Knuth's MMIX.
use Rattle.std.specs.Prelude.{ℕ, zero, suc, ◌+◌, ◌*◌, ◌/◌, ◌%◌, ◌^◌, List, [], ◌∷◌}

-- the state behind a state
unfoldable pub next : ℕ → ℕ
next state = (state * 6364136223846793005 + 1442695040888963407) % 2 ^ 64

-- a draw gives the upper 31 bits of the state behind it
unfoldable pub drawn : ℕ → ℕ
drawn state = next state / 2 ^ 33

-- the state behind so many draws, and what they give
unfoldable pub after : ℕ → ℕ → ℕ
after zero state = state
after (suc count) state = after count (next state)

unfoldable pub draws : ℕ → ℕ → List ℕ
draws zero state = []
draws (suc count) state = drawn state ∷ draws count (next state)
