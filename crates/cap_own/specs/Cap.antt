-- Capabilities, and the mappings that they come from.
use Rattle.std.specs.Prelude.{◌≡◌, ℕ, ◌+◌, ◌≤◌, ◌⊎◌, Bool, true, false, bit_and, if◌then◌else◌}
use Rattle.cap_conc.specs.declared.word.Word.{Word}
use Rattle.cap_conc.specs.declared.word.Fields.{Fields}
use Rattle.cap_conc.specs.Decoding.{DecodesTo}
use Rattle.cap_conc.specs.Encoding.{word_of, fields_with}
use Rattle.cap_conc.specs.Computed.{is_exact}

-- a capability as a value: what its word says, and the object whose mapping it came from
pub record Cap : Type 0 where
  pub base : ℕ
  pub len : ℕ
  pub cursor : ℕ
  pub perms : ℕ
  pub flag : Bool
  pub sealed : Bool
  pub owner : ℕ

-- CHERI ISA v9 (UCAM-CL-TR-987): the object type of a sentry is the last but one of 18 bits, and that of a word that
-- isn't sealed the last
abbrev pub object_type : Bool → ℕ
object_type sealed = if sealed then 262142 else 262143

-- the word of a capability with exact bounds
abbrev pub word_of_cap : Cap → Word
word_of_cap c = word_of c.base c.len c.cursor c.perms c.flag (object_type c.sealed)

-- the fields that this word has
abbrev pub fields_of_cap : Cap → Fields
fields_of_cap c = fields_with c.base c.len c.cursor c.perms c.flag (object_type c.sealed)

-- the word has the capability's bounds, cursor, permissions, flag and seal
abbrev pub StandsFor : Word → Cap → Type 0
StandsFor w c = DecodesTo w (fields_of_cap c)

-- the whole mapping of one object
pub record Mapping : Type 0 where
  pub base : ℕ
  pub len : ℕ
  pub owner : ℕ

-- the interval lies in the mapping
abbrev pub IsWithin : Mapping → ℕ → ℕ → Type 0
IsWithin root base len = (root.base ≤ base) × (base + len ≤ root.base + root.len)

-- each permission of the inner set is one of the outer
abbrev pub IsSubset : ℕ → ℕ → Type 0
IsSubset inner outer = bit_and inner outer ≡ inner

-- the rights to code, or some of the rights to data
abbrev pub HasRights : ℕ → Bool → Type 0
HasRights perms flag = ((perms ≡ 0x17) × (flag ≡ true)) ⊎ (IsSubset perms 0x7D × (flag ≡ false))

-- the capability lies in the mapping, has its owner, and has rights to code or to data alone
pub record Narrowed (root : Mapping) (c : Cap) : Type 0 where
  pub within : IsWithin root c.base c.len
  pub owner : c.owner ≡ root.owner
  pub rights : HasRights c.perms c.flag

-- a part of a mapping, and the rights to it
pub record Part : Type 0 where
  pub root : Mapping
  pub base : ℕ
  pub len : ℕ
  pub perms : ℕ
  pub flag : Bool

-- a part lies in its mapping, and has rights to code or to data alone
pub record IsPart (p : Part) : Type 0 where
  pub within : IsWithin p.root p.base p.len
  pub rights : HasRights p.perms p.flag

-- a capability, and the mapping that it was derived from
pub record Grant : Type 0 where
  pub root : Mapping
  pub cap : Cap

-- a capability is narrowed from its mapping, its bounds are exact, and its cursor lies within them or at their end
pub record IsGrant (g : Grant) : Type 0 where
  pub narrowed : Narrowed g.root g.cap
  pub exact : is_exact g.cap.base g.cap.len ≡ true
  pub from_base : g.cap.base ≤ g.cap.cursor
  pub to_top : g.cap.cursor ≤ g.cap.base + g.cap.len

-- the capability of an interval of a part, before its cursor moves
abbrev pub narrowed_to : Part → ℕ → ℕ → ℕ → Grant
narrowed_to part base len perms = record {
  root = part.root;
  cap = record { base = base; len = len; cursor = base; perms = perms; flag = part.flag; sealed = false; owner = part.root.owner };
}
