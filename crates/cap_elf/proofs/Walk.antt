-- Loops that read the records of a table.
use Rattle.std.proofs.Common.{◌≡◌, ℕ, ◌+◌, ◌*◌, List, [], ◌∷◌, ◌++◌, length, sym, ap, ◌∙◌, append_assoc, arith}
use Rattle.std.proofs.lemmas.List.FromFn.{map-range_with_len_more, length-map-range_with_len}
use Rattle.cap_elf.specs.Records.{table}

-- one more record of a table
pub table_more : {X : Type 0} (read : ℕ → X) (at size i : ℕ) → table read at size (i + 1) ≡ table read at size i ++ read (at + size * i) ∷ []
table_more read at size i = map-range_with_len_more (λ j. read (at + size * j)) 0 i i (omega arith)

-- the same behind other records
pub table_after : {X : Type 0} (front : List X) (read : ℕ → X) (at size i : ℕ) → front ++ table read at size (i + 1) ≡ (front ++ table read at size i) ++ read (at + size * i) ∷ []
table_after front read at size i = ap (λ xs. front ++ xs) (table_more read at size i) ∙ sym (append_assoc front (table read at size i) (read (at + size * i) ∷ []))

-- how many records a table has
pub table_count : {X : Type 0} (read : ℕ → X) (at size count : ℕ) (records : List X) → records ≡ table read at size count → length records ≡ count
table_count read at size count records is = ap length is ∙ length-map-range_with_len (λ j. read (at + size * j)) 0 count
