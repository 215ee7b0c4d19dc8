-- A derived capability as contracts see it.
use Rattle.cap_own.specs.declared.derive.Derived.TheInside.{Inside}
use Rattle.cap_own.specs.Cap.{Grant, IsGrant}

abbrev pub grant_of : Inside → Grant
grant_of d = record {
  root = d.root.now;
  cap = record { base = d.base; len = d.len; cursor = d.cursor; perms = d.perms.0; flag = d.flag; sealed = d.sealed; owner = d.root.now.owner };
}

-- within its mapping, with exact bounds and a cursor in them
abbrev pub IsDerived : Inside → Type 0
IsDerived d = IsGrant (grant_of d)
