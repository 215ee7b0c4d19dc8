-- What holds of every table of names, said of its inputs.
use Rattle.std.specs.Prelude.{Bool, List, All}
use Rattle.cap_elf.specs.RelObject.{RelObject}
use Rattle.cap_elf.specs.IsRelRead.{IsRelRead}
use Rattle.cap_syms.specs.Resolved.{Resolved, IsTableOf}
use Rattle.cap_syms.specs.IsResolved.{IsResolved}

abbrev pub TablesAreResolved : Type 0
TablesAreResolved =
    (rels : List RelObject) (program : Bool) (table : List Resolved) → All IsRelRead rels → IsTableOf rels program table → IsResolved rels table
