-- The symbols of a link: they are good, and their names differ.
use Rattle.std.proofs.Common.{◌≡◌, ℕ, ◌+◌, ◌≤◌, ◌<◌, Bool, true, false, cond, List, [], ◌∷◌, length, map, refl, ap, ◌∙◌, arith}
use Rattle.std.specs.Prelude.{filter, ◌≢◌, bytes_eq, AllPairs, Decides}
use Rattle.std.specs.List.{enumerate_from, AllByRecursion}
use Rattle.std.proofs.lemmas.Slice.Eq.{bytes_eq-Decides}
use Rattle.cap_syms.specs.IsResolved.{IsResolved}
use Rattle.cap_syms.specs.Resolved.{Resolved, row_of, no_name}
use Rattle.cap_layout.specs.Points.{Laid}
use Rattle.cap_table.specs.Targets.{Named}
use Rattle.cap_table.specs.Planned.{is_exported, exported}
use Rattle.cap_table.specs.Lists.{dyn_symbol}
use Rattle.cap_readback.specs.Content.{Planned}
use Rattle.cap_readback.proofs.Aligned.{AreApartNames}
use Rattle.cap_link.specs.Content.{planned_from}
use Rattle.cap_link.proofs.Lowering.{IsLowLaid}
use Rattle.cap_link.proofs.Numbers.{HaveFields, IsGoodSymbol, symbol-good, all-mapped}
use Rattle.cap_link.proofs.Sizing.{name-is}

abbrev pub rows_from : ℕ → List Resolved → List ℕ
rows_from n table = map (λ p. p.0) (filter (λ p. is_exported p.1) (enumerate_from n table))

abbrev pub rows_after : List (ℕ × Resolved) → List ℕ
rows_after ps = map (λ p. p.0) ps

one-row : (P : ℕ → Type 0) (b : Bool) (p : ℕ × Resolved) (ps : List (ℕ × Resolved)) → P p.0 → AllByRecursion P (rows_after ps) → AllByRecursion P (rows_after (cond b (p ∷ ps) ps))
one-row P true p ps h g = (h, g)
one-row P false p ps h g = g

pub rows-below : (limit n : ℕ) (table : List Resolved) → n + length table ≤ limit → AllByRecursion (λ row. row < limit) (rows_from n table)
rows-below limit n [] h = tt
rows-below limit n (r ∷ rs) h =
    one-row (λ (row : ℕ). row < limit) (is_exported r) (n, r) (filter (λ (p : ℕ × Resolved). is_exported p.1) (enumerate_from (n + 1) rs)) (omega (arith, h)) (rows-below limit (n + 1) rs (omega (arith, h)))

rows-above : (low n : ℕ) (table : List Resolved) → low < n → AllByRecursion (λ row. low < row) (rows_from n table)
rows-above low n [] h = tt
rows-above low n (r ∷ rs) h =
    one-row (λ (row : ℕ). low < row) (is_exported r) (n, r) (filter (λ (p : ℕ × Resolved). is_exported p.1) (enumerate_from (n + 1) rs)) h (rows-above low (n + 1) rs (omega (arith, h)))

abbrev pub Ascend : List ℕ → Type 0
Ascend [] = Unit {0}
Ascend (x ∷ xs) = AllByRecursion (λ y. x < y) xs × Ascend xs

one-ascends : (b : Bool) (p : ℕ × Resolved) (ps : List (ℕ × Resolved)) → AllByRecursion (λ y. p.0 < y) (rows_after ps) → Ascend (rows_after ps) → Ascend (rows_after (cond b (p ∷ ps) ps))
one-ascends true p ps h g = (h, g)
one-ascends false p ps h g = g

pub rows-ascend : (n : ℕ) (table : List Resolved) → Ascend (rows_from n table)
rows-ascend n [] = tt
rows-ascend n (r ∷ rs) =
    one-ascends (is_exported r) (n, r) (filter (λ (p : ℕ × Resolved). is_exported p.1) (enumerate_from (n + 1) rs)) (rows-above n (n + 1) rs (omega arith)) (rows-ascend (n + 1) rs)

pub exported-good : (named : Named) (laid : Laid) → laid.rels ≡ named.rels → IsLowLaid laid → HaveFields named.rels → HaveFields laid.rels → IsResolved named.rels named.table → AllByRecursion IsGoodSymbol (map (dyn_symbol named laid) (exported named.table))
exported-good named laid same low fields in_laid h =
    all-mapped (λ (row : ℕ). row < length named.table) IsGoodSymbol (dyn_symbol named laid) (exported named.table)
    (λ row lt. symbol-good named laid row same low fields in_laid (h.rows_are row no_name lt))
    (rows-below (length named.table) 0 named.table (omega arith))

-- ---- names
not-equal : (b : Bool) (P : Type 0) → Decides b P → (P → ⊥) → b ≡ false
not-equal true P d h = absurd (h (d.0 refl))
not-equal false P d h = refl

differ : (xs ys : List ℕ) → xs ≢ ys → bytes_eq xs ys ≡ false
differ xs ys h = not-equal (bytes_eq xs ys) (xs ≡ ys) (bytes_eq-Decides xs ys) h

module _ (named : Named) (laid : Laid) where
  all-differ : (row at : ℕ) (rows : List ℕ) → row < length named.table → AllPairs (λ a b. a.name ≢ b.name) named.table → AllByRecursion (λ r. row < r) rows → AllByRecursion (λ r. r < length named.table) rows
      → AllByRecursion (λ (q : Planned). bytes_eq (dyn_symbol named laid row).name q.name.1 ≡ false) (planned_from at (map (dyn_symbol named laid) rows))
  all-differ row at [] lt d a b = tt
  all-differ row at (r ∷ rs) lt d a b =
      let other : (row_of named.table row).name ≢ (row_of named.table r).name = d row r no_name a.0 b.0 in
      let one : bytes_eq (dyn_symbol named laid row).name (dyn_symbol named laid r).name ≡ false =
      ap (λ (x : List ℕ). bytes_eq x (dyn_symbol named laid r).name) (name-is named laid row) ∙ ap (λ (x : List ℕ). bytes_eq (row_of named.table row).name x) (name-is named laid r) ∙ differ (row_of named.table row).name (row_of named.table r).name other in
      (one, all-differ row (at + length (dyn_symbol named laid r).name + 1) rs lt d a.1 b.1)

  all-apart : (at : ℕ) (rows : List ℕ) → AllPairs (λ a b. a.name ≢ b.name) named.table → Ascend rows → AllByRecursion (λ r. r < length named.table) rows → AreApartNames (planned_from at (map (dyn_symbol named laid) rows))
  all-apart at [] d a b = tt
  all-apart at (r ∷ rs) d a b =
      let next = at + length (dyn_symbol named laid r).name + 1 in
      (all-differ r next rs b.0 d a.0 b.1, all-apart next rs d a.1 b.1)

  pub exported-apart : IsResolved named.rels named.table → AreApartNames (planned_from 1 (map (dyn_symbol named laid) (exported named.table)))
  exported-apart h = all-apart 1 (exported named.table) h.distinct (rows-ascend 0 named.table) (rows-below (length named.table) 0 named.table (omega arith))
