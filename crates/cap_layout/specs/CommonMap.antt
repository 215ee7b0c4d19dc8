-- What a map by files and symbols says of a common symbol.
use Rattle.std.specs.Prelude.{ℕ, Option}
use Rattle.std.specs.declared.cmp.Ordering.{Ordering}
use Rattle.std.specs.Ordering.{nat_cmp, ordering_then}
use Rattle.std.specs.BTreeMap.{get}
use Rattle.cap_layout.specs.declared.common_map.CommonMap.{CommonMap}

-- by files, and then by symbols
abbrev pub pair_cmp : ℕ × ℕ → ℕ × ℕ → Ordering
pair_cmp x y = ordering_then (nat_cmp x.0 y.0) (nat_cmp x.1 y.1)

abbrev pub common_in : CommonMap → ℕ → ℕ → Option ℕ
common_in commons file symbol = get pair_cmp commons.numbers (file, symbol)
