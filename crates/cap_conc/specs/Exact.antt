-- Which bounds a capability can have exactly, after what CHERI ISA v9 (UCAM-CL-TR-987) says of setting bounds and of
-- representable lengths and alignments.
use Rattle.std.specs.Prelude.{◌≡◌, ℕ, ◌+◌, ◌-◌, ◌%◌, ◌^◌, ◌<◌, ◌≤◌, ◌⊎◌}

-- m is the place of the highest one bit of n
pub record IsHighestBit (n m : ℕ) : Type 0 where
  pub reached : 2 ^ m ≤ n
  pub below : n < 2 ^ (m + 1)

-- ISA v9, CSetBoundsExact: it keeps bounds of a short length anywhere, and those of a longer one where base and
-- length are multiples of the power of two nine places below the length's highest bit
abbrev pub IsExact : ℕ → ℕ → Type 0
IsExact base length =
    (length < 4096)
    ⊎ ((m : ℕ) × IsHighestBit length m × (base % 2 ^ (m - 9) ≡ 0) × (length % 2 ^ (m - 9) ≡ 0))

-- ISA v9, CRoundRepresentableLength: the least exact length that is not below the wanted one
pub record IsRepresentableLength (wanted length : ℕ) : Type 0 where
  pub exact : IsExact 0 length
  pub enough : wanted ≤ length
  pub least : (k : ℕ) → wanted ≤ k → IsExact 0 k → length ≤ k

-- the alignment at which bounds of an exact length are exact
abbrev pub IsAlignment : ℕ → ℕ → Type 0
IsAlignment length alignment =
    ((length < 4096) × (alignment ≡ 1))
    ⊎ ((m : ℕ) × IsHighestBit length m × (4096 ≤ length) × (alignment ≡ 2 ^ (m - 9)))

-- ISA v9, CRepresentableAlignmentMask: the alignment of the rounded length, not of the wanted one
abbrev pub IsRepresentableAlignment : ℕ → ℕ → Type 0
IsRepresentableAlignment wanted alignment =
    (length : ℕ) × IsRepresentableLength wanted length × IsAlignment length alignment
