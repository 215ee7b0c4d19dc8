-- Entries of granules.
use Rattle.std.proofs.Common.{◌≡◌, inl, inr, ℕ, ◌+◌, ◌-◌, ◌*◌, ◌/◌, ◌%◌, ◌<◌, ◌≤◌, ◌==◌, List, length, get_or, set, drop, replicate, cond, find, Option, Some, None, false, sym, ap, subst, ◌∙◌, arith}
use Rattle.std.proofs.lemmas.Bool.{cases_eq, eq-eqb, ne_eqb}
use Rattle.std.proofs.lemmas.Grind.{get_or-set_at}
use Rattle.std.proofs.lemmas.List.{get_or-set_other, get_or-replicate, length-set, length-replicate, drop_more, drop_all}
use Rattle.cap_image.specs.Parts.{WordRecord, ImageObject, IsObject, no_word}
use Rattle.cap_image.specs.Report.{word_of, IsGranuleOf}
use Rattle.cap_image.specs.Entries.{numbered, IsNumber, AreEntries}

-- no record is entered
pub none_entered : (o : ImageObject) (first : ℕ) (entries : List (Option ℕ)) → entries ≡ replicate (length o.bytes / 16) None → length o.words ≤ first → AreEntries o first entries
none_entered o first entries e all =
    let count : length entries ≡ length o.bytes / 16 = ap length e ∙ length-replicate (length o.bytes / 16) None in
    let none : (n : ℕ) → n < length entries → get_or entries n None ≡ None = λ n lt. ap (λ (xs : List (Option ℕ)). get_or xs n None) e ∙ get_or-replicate (length o.bytes / 16) n None None (omega (arith, count, lt)) in
    record {
      count = count;
      inside = λ n lt. subst (IsNumber o) (sym (none n lt)) tt;
      each = λ n lt. ap (numbered o) (none n lt) ∙ sym (ap (find (λ w. w.granule == o.base + 16 * n)) (drop_all first o.words all));
    }

module _ (o : ImageObject) (k n : ℕ) (entries : List (Option ℕ)) (own : o.base + 16 * n ≡ (get_or o.words k no_word).granule) (known : k < length o.words) where
  abbrev w : WordRecord
  w = get_or o.words k no_word

  front : (m : ℕ) → find (λ v. v.granule == o.base + 16 * m) (drop k o.words) ≡ cond (w.granule == o.base + 16 * m) (Some w) (find (λ v. v.granule == o.base + 16 * m) (drop (k + 1) o.words))
  front m = ap (find (λ v. v.granule == o.base + 16 * m)) (drop_more o.words k no_word known)

  entry_more : (m : ℕ) → m < length entries → IsNumber o (get_or entries m None) → numbered o (get_or entries m None) ≡ find (λ v. v.granule == o.base + 16 * m) (drop (k + 1) o.words) → IsNumber o (get_or (set entries n (Some k)) m None) × (numbered o (get_or (set entries n (Some k)) m None) ≡ find (λ v. v.granule == o.base + 16 * m) (drop k o.words))
  entry_more m lt is before =
      elim (cases_eq m n) [
        | inl same ↦
            let here : get_or (set entries n (Some k)) m None ≡ Some k = get_or-set_at entries n m (Some k) None same (omega (arith, same, lt)) in
            let granule : w.granule ≡ o.base + 16 * m = omega (arith, own, same) in
            (subst (IsNumber o) (sym here) known, ap (numbered o) here ∙ sym (front m ∙ ap (λ b. cond b (Some w) (find (λ v. v.granule == o.base + 16 * m) (drop (k + 1) o.words))) (eq-eqb w.granule (o.base + 16 * m) granule)))
        | inr other ↦
            let there : get_or (set entries n (Some k)) m None ≡ get_or entries m None = get_or-set_other entries n m (Some k) None other in
            let away : (w.granule == o.base + 16 * m) ≡ false = ne_eqb w.granule (o.base + 16 * m) (λ e. other (omega (arith, own, e))) in
            (subst (IsNumber o) (sym there) is, ap (numbered o) there ∙ before ∙ sym (front m ∙ ap (λ b. cond b (Some w) (find (λ v. v.granule == o.base + 16 * m) (drop (k + 1) o.words))) away))
      ]

  more : AreEntries o (k + 1) entries → AreEntries o k (set entries n (Some k))
  more are =
      let within : (m : ℕ) → m < length (set entries n (Some k)) → m < length entries = λ m lt. subst (λ (len : ℕ). m < len) (length-set entries n (Some k)) lt in
      record {
        count = length-set entries n (Some k) ∙ are.count;
        inside = λ m lt. (entry_more m (within m lt) (are.inside m (within m lt)) (are.each m (within m lt))).0;
        each = λ m lt. (entry_more m (within m lt) (are.inside m (within m lt)) (are.each m (within m lt))).1;
      }

-- one record more, before those that are entered
pub entered : (o : ImageObject) (k n : ℕ) (entries : List (Option ℕ)) → IsObject o → k < length o.words → n ≡ ((get_or o.words k no_word).granule - o.base) / 16 → (get_or o.words k no_word).granule % 16 ≡ 0 → o.base ≤ (get_or o.words k no_word).granule → AreEntries o (k + 1) entries → AreEntries o k (set entries n (Some k))
entered o k n entries is known at whole above are =
    let pages : o.base % 4096 ≡ 0 = is.base_in_pages in
    more o k n entries (omega (arith, pages, at, whole, above)) known are

-- the entry of a granule
pub entry : (o : ImageObject) (n granule : ℕ) (entries : List (Option ℕ)) → IsGranuleOf o granule → n ≡ (granule - o.base) / 16 → AreEntries o 0 entries → IsNumber o (get_or entries n None) × (numbered o (get_or entries n None) ≡ word_of o granule)
entry o n granule entries is at are =
    let below : granule + 16 ≤ o.base + length o.bytes = is.1 in
    let whole : (granule - o.base) % 16 ≡ 0 = is.2 in
    let above : o.base ≤ granule = is.0 in
    let count : length entries ≡ length o.bytes / 16 = are.count in
    let inside : n < length entries = omega (arith, below, whole, above, count, at) in
    let same : o.base + 16 * n ≡ granule = omega (arith, whole, above, at) in
    (are.inside n inside, are.each n inside ∙ ap (word_of o) same)
