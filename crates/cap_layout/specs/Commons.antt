-- What the rows of a resolved table have, from which the pieces of common symbols are made.
use Rattle.std.specs.Prelude.{◌≡◌, ◌^◌, ◌≤◌, List, AllPairs}
use Rattle.cap_syms.specs.declared.entries.Shape.{Shape}
use Rattle.cap_syms.specs.declared.entries.Shape.TheVariants as shapes
use Rattle.cap_syms.specs.Resolved.{Resolved}

-- the size of a common symbol is not above the limit
abbrev pub IsSmall : Shape → Type 0
IsSmall (shapes.Common size align) = size ≤ 2 ^ 26
IsSmall _ = Unit {0}

-- no two names are decided on by one symbol
abbrev pub AreApart : List Resolved → Type 0
AreApart table = AllPairs (λ a b. a.entry.file ≡ b.entry.file → a.entry.symbol ≡ b.entry.symbol → ⊥) table
