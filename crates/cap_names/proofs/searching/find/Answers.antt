use Rattle.std.proofs.Common.{sym}
use Rattle.cap_names.proofs.Finding.{found_past}
use Rattle.cap_names.proofs.searching.find.Goals as goal

pub returns-then-at-keys : goal.returns-then-at-keys
returns-then-at-keys c = sym (found_past _ _ c.requires.index _ _ c.requires.hashed _ c.first_place-at.ensures c.if-at-keys.true)
