-- What a call that takes no memory tells.
use Rattle.std.specs.Prelude.{◌≡◌, Result, Ok, Err}
use Rattle.cap_own.specs.Cap.{Cap, Mapping, Grant}
use Rattle.cap_own.specs.declared.derive.Inexact.{Inexact}
use Rattle.cap_conc.specs.Computed.{is_exact}
use Rattle.cap_reloc.specs.declared.refusal.RelocRefusal.{RelocRefusal}
use Rattle.std.specs.Prelude.{true, false}

-- seen by view, the value or the refusal that is said here
abbrev pub Tells : {X Y : Type 0} → (X → Y) → Result X RelocRefusal → Result Y RelocRefusal → Type 0
Tells view (Ok x) said = said ≡ Ok (view x)
Tells view (Err e) said = said ≡ Err e

-- this capability from this mapping, exactly where its bounds are exact
abbrev pub Derives : Mapping → Cap → Result Grant Inexact → Type 0
Derives root c (Ok grant) = (is_exact c.base c.len ≡ true) × (grant ≡ record { root = root; cap = c })
Derives root c (Err inexact) = (is_exact c.base c.len ≡ false) × (inexact ≡ record { base = c.base; len = c.len })
