-- The words that a chain and the tables hold.
use Rattle.std.specs.Prelude.{◌≡◌, ℕ, suc, zero, ◌+◌, ◌*◌, ◌/◌, ◌-◌, ◌<◌, ⊤, Bool, true, false, ◌==◌, nat_lt, if◌then◌else◌, List, [], ◌∷◌, length, Option, Some, None}
use Rattle.cap_conc.specs.declared.word.Fields.{Fields}
use Rattle.cap_conc.specs.Computed.{fields_of}
use Rattle.cap_own.specs.Cap.{Cap, Mapping, IsGrant, word_of_cap}
use Rattle.cap_mem.specs.Tagged.{TaggedMemory, TaggedWord, without_granule, word_in}
use Rattle.cap_mem.specs.Chain.{has}

-- what the 16 bytes at a place decode to
unfoldable pub fields_in : List ℕ → ℕ → Fields
fields_in bytes at = fields_of (word_in bytes at)

-- the capability of an owner that has these fields
abbrev pub cap_of_fields : Fields → ℕ → Cap
cap_of_fields f owner = record {
  base = f.base;
  len = f.top - f.base;
  cursor = f.cursor;
  perms = f.perms;
  flag = f.flag;
  sealed = f.otype == 262142;
  owner = owner;
}

-- the capability of an owner in the 16 bytes at a place
abbrev pub cap_in : List ℕ → ℕ → ℕ → Cap
cap_in bytes at owner = cap_of_fields (fields_in bytes at) owner

-- the bytes there are the word of that capability, which was derived from a mapping
pub record IsCapAt (bytes : List ℕ) (at owner : ℕ) : Type 0 where
  pub bytes_are : word_in bytes at ≡ word_of_cap (cap_in bytes at owner)
  pub root : Mapping
  pub granted : IsGrant (record { root = root; cap = cap_in bytes at owner })

-- the bytes there are the word of a capability, and decode to it
pub record HasStored (bytes : List ℕ) (at : ℕ) (cap : Cap) : Type 0 where
  pub bytes_are : word_in bytes at ≡ word_of_cap cap
  pub decodes : cap_in bytes at cap.owner ≡ cap

-- the words of the granules among these
abbrev pub words_of : ℕ → ℕ → (ℕ → Cap) → (ℕ → ℕ) → List ℕ → List TaggedWord
words_of base size caps notes [] = []
words_of base size caps notes (x ∷ xs) =
    if nat_lt x size then (record { granule = base + 16 * x; cap = caps x; note = notes x }) ∷ words_of base size caps notes xs
    else words_of base size caps notes xs

-- each granule of the chain holds a capability
abbrev pub AreCaps : List ℕ → (ℕ → ℕ) → ℕ → List ℕ → Type 0
AreCaps bytes owners size chain = (g : ℕ) → g < size → has g chain ≡ true → IsCapAt bytes (16 * g) (owners g)

-- one of two facts, by a test
abbrev pub Either : Bool → Type 0 → Type 0 → Type 0
Either true a b = a
Either false a b = b

-- each granule among these has the owner of the mark before it, and the marks stand in order
abbrev pub Owned : ℕ → (ℕ → ℕ) → ℕ → List ℕ → Type 0
Owned size owners o [] = ⊤
Owned size owners o (x ∷ xs) =
    Either (nat_lt x size) ((owners x ≡ o) × Owned size owners o xs) ((x ≡ size + o + 1) × Owned size owners (o + 1) xs)

-- the words without those of n granules, from one on
abbrev pub without_range : ℕ → ℕ → ℕ → List TaggedWord → List TaggedWord
without_range base first zero words = words
without_range base first (suc n) words = without_granule (base + 16 * (first + n)) (without_range base first n words)

-- the address of the granule of that number, if there is one
abbrev pub granule_of : TaggedMemory → ℕ → Option ℕ
granule_of memory g = if nat_lt g (length memory.bytes / 16) then Some (memory.base + 16 * g) else None
