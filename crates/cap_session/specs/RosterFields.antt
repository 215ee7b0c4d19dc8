-- A roster as contracts see it.
use Rattle.std.specs.Prelude.{◌≡◌, string_bytes}
use Rattle.cap_session.specs.declared.roster.Roster.TheInside.{Inside}
use Rattle.cap_session.specs.Roster.{RosterValue, IsRoster}

abbrev pub roster_of : Inside → RosterValue
roster_of r = record {
  dir = string_bytes r.dir;
  objects = r.objects.items;
  names = r.names;
  deps = r.deps;
  pads = r.pads.items;
  roots = r.roots.items;
  memories = r.memories.items;
  symbols = r.symbols.items;
  next = r.space.next;
}

-- the fields of a roster: its space begins and ends where all addresses do
pub record AreFields (r : Inside) : Type 0 where
  pub roster : IsRoster (roster_of r)
  pub start : r.space.start ≡ 0x40000000
  pub limit : r.space.limit ≡ 0x44000000
