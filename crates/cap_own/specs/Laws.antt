-- A law of the definitions.
use Rattle.std.specs.Prelude.{◌≡◌, ◌+◌, ◌^◌, ◌≤◌}
use Rattle.cap_conc.specs.Computed.{fields_of}
use Rattle.cap_own.specs.Cap.{Grant, IsGrant, StandsFor, word_of_cap, fields_of_cap}

-- the word of each capability that a mapping grants stands for it
pub record GrantsStand : Type 0 where
  pub stands : (g : Grant) → IsGrant g → g.root.base + g.root.len ≤ 2 ^ 62 → StandsFor (word_of_cap g.cap) g.cap
  pub fields : (g : Grant) → IsGrant g → g.root.base + g.root.len ≤ 2 ^ 62 → fields_of (word_of_cap g.cap) ≡ fields_of_cap g.cap
