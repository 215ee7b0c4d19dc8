-- What holds of each link that was made: its lists are those of its plan, and its parts those of its sizes.
use Rattle.std.specs.Prelude.{◌≡◌, ◌+◌, ◌*◌, ◌∷◌, length}
use Rattle.cap_elf.specs.declared.records.Class.TheVariants.{Init, Fini}
use Rattle.cap_layout.specs.Places.{of_class}
use Rattle.cap_layout.specs.Parts.{has_bytes, parts_of, addresses_of}
use Rattle.cap_table.specs.Planned.{name_bytes}
use Rattle.cap_table.specs.Lists.{null_dyn_symbol, name_offsets, dynamics_of}
use Rattle.cap_link.specs.Linked.{Linked}
use Rattle.cap_link.specs.Content.{named_symbols, names_of_symbols, string_names}

-- the lists
pub record AreListed (l : Linked) : Type 0 where
  pub symbols : l.lists.symbols ≡ null_dyn_symbol ∷ named_symbols l
  pub offsets : l.lists.offsets ≡ 0 ∷ name_offsets 1 (names_of_symbols (named_symbols l))
  pub names : l.lists.names ≡ name_bytes (string_names l)
  pub dynamics : l.lists.dynamics ≡ dynamics_of l.lists.plan (name_offsets 1 (string_names l)) l.laid.parts
  pub rows : length l.lists.plan.symbols ≡ length (named_symbols l)

-- the sizes are those of the lists
pub record AreSized (l : Linked) : Type 0 where
  pub symbols : l.lists.plan.sizes.symbols ≡ 1 + length (named_symbols l)
  pub relas : l.lists.plan.sizes.relas ≡ length l.lists.relas
  pub cap_relocs : l.lists.plan.sizes.cap_relocs ≡ length l.lists.cap_relocs
  pub names : l.lists.plan.sizes.names ≡ length (name_bytes (string_names l))
  pub slots : length l.bodies.slots ≡ 16 * l.lists.plan.sizes.slots
  pub stubs : length l.bodies.stubs ≡ 16 * l.lists.plan.sizes.stubs
  pub dynamics : l.lists.plan.sizes.dynamics ≡ length l.lists.dynamics

-- the parts are those of the pieces and the sizes
pub record IsLaidOut (l : Linked) : Type 0 where
  pub parts : l.laid.parts ≡ parts_of l.laid.pieces.all l.lists.plan.sizes
  pub addresses : l.laid.addresses ≡ addresses_of l.laid.pieces.all l.lists.plan.sizes
  pub has_init : l.lists.plan.has_init ≡ has_bytes (of_class Init l.laid.pieces.all)
  pub has_fini : l.lists.plan.has_fini ≡ has_bytes (of_class Fini l.laid.pieces.all)
