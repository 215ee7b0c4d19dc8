-- Intervals one behind another.
use Rattle.std.proofs.Common.{◌≡◌, ℕ, ◌+◌, ◌≤◌, List, [], ◌∷◌, ◌++◌, map, subst, sym, arith}
use Rattle.cap_image.specs.Parts.{Ascend}
use Rattle.cap_image.specs.declared.records.ObjectRecord.{ObjectRecord}
use Rattle.cap_image.specs.Records.{interval_at, Records, no_records, AreRecords}

-- one more, behind the last
pub ascend_more : (from : ℕ) (rs : List ObjectRecord) (to : ℕ) (r : ObjectRecord) → Ascend from (map interval_at rs) to → to ≤ r.base → Ascend from (map interval_at (rs ++ r ∷ [])) (r.base + r.size)
unfolding Ascend
ascend_more from [] to r h le = (omega (arith, h), omega arith)
ascend_more from (x ∷ rs) to r h le = (h.0, ascend_more (x.base + x.size) rs to r h.1 le)

-- no records
pub none_are : (bytes : List ℕ) (records : Records) → records ≡ no_records → AreRecords bytes records
unfolding Ascend
none_are bytes records e = subst (AreRecords bytes) (sym e) (record { each = λ k d l. absurd (omega (arith, l)); ascending = omega arith; within = omega arith })
