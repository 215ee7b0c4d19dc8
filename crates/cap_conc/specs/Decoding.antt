-- What a capability word means.
use Rattle.std.specs.Prelude.{◌≡◌, nat_eq}
use Rattle.cap_conc.specs.declared.word.Word.{Word}
use Rattle.cap_conc.specs.declared.word.Fields.{Fields}
use Rattle.cap_conc.specs.Metadata.{architectural, permissions_of, flag_of, object_type_of, exponent_of, bottom_of, top_of}
use Rattle.cap_conc.specs.Bounds.{IsBounds}

-- CHERI ISA v9 (UCAM-CL-TR-987): the fields of a word in memory; the cursor is its address, and the two reserved bits
-- have no part in them
pub record DecodesTo (w : Word) (f : Fields) : Type 0 where
  pub cursor : f.cursor ≡ w.address
  pub permissions : f.perms ≡ permissions_of (architectural w.meta)
  pub flag : f.flag ≡ nat_eq (flag_of (architectural w.meta)) 1
  pub object_type : f.otype ≡ object_type_of (architectural w.meta)
  pub bounds : IsBounds w.address (exponent_of (architectural w.meta)) (bottom_of (architectural w.meta)) (top_of (architectural w.meta)) f.base f.top
