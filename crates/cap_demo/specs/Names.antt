-- The names of symbols.
use Rattle.std.specs.Prelude.{ℕ, Bool, false, ◌==◌, ◌&&◌, List, ◌++◌, codes, decimal}
use Rattle.cap_demo.specs.declared.names.SymbolName.{SymbolName}
use Rattle.cap_demo.specs.declared.names.SymbolName.TheVariants.{Function, Table, Datum}

-- the function, the table of capabilities and a datum of an object: f0, t0 and s0_0
unfoldable pub name_text : SymbolName → List ℕ
name_text (Function object) = codes "f" ++ decimal object
name_text (Table object) = codes "t" ++ decimal object
name_text (Datum object index) = codes "s" ++ decimal object ++ codes "_" ++ decimal index

abbrev pub same_name : SymbolName → SymbolName → Bool
same_name (Function a) (Function b) = a == b
same_name (Table a) (Table b) = a == b
same_name (Datum a i) (Datum b k) = (a == b) && (i == k)
same_name _ _ = false
