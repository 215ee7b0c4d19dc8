-- The last segment that begins at an address or below it decides what the address is in.
use Rattle.std.proofs.Common.{◌≡◌, ℕ, zero, suc, ◌+◌, ◌<◌, ◌≤◌, Bool, true, false, ⊎_elim, List, [], ◌∷◌, length, get_or, Option, Some, None, refl, sym, ap, ◌∙◌, arith}
use Rattle.std.specs.Prelude.{All, ◌&&◌}
use Rattle.std.specs.List.{list_any}
use Rattle.std.specs.List.Sorted.{IsNonDecreasingBy}
use Rattle.std.proofs.lemmas.Bool.{cases_lt, cases_eq, cases_Bool, cond-true, cond-false, false_from_ne_true, and_parts, leb-true, ltb-true, le-leb}
use Rattle.std.proofs.lemmas.List.{get_or_default}
use Rattle.std.proofs.lemmas.List.Folds.{list_any_at, list_any_none}
use Rattle.cap_elf.specs.declared.records.Segment.{Segment}
use Rattle.cap_elf.specs.Ends.{end_of, spans, writes}
use Rattle.cap_elf.specs.DynView.{DynRecords}
use Rattle.cap_elf.specs.IsRead.{Ascend}
use Rattle.cap_fits.specs.Places.{find_last, executes, has_address, is_in_code, is_in_writable, data_permissions, permissions_of_part}
use Rattle.cap_reloc.specs.Holding.{IsLastBelow, EndsBelow, passes_in, if_passes}

pub rise : (segments : List Segment) → Ascend segments → IsNonDecreasingBy (λ s. s.vaddr) segments
rise segments ascend = λ i j d le lt.
    ⊎_elim (λ (less : i < j). let h = ascend i j d less lt in omega (arith, h)) (λ (ge : j ≤ i).
    let same : i ≡ j = omega arith in rw same (omega arith)) (cases_lt i j)

-- a test that passes only a segment that begins at the address or below it, and where it passes one, then it passes each
-- that begins between the end of that one and the address
pub record IsDecided (at : ℕ) (p : Segment → Bool) : Type 0 where
  pub begins : (s : Segment) → p s ≡ true → s.vaddr ≤ at
  pub passes_on : (s t : Segment) → p s ≡ true → end_of s ≤ t.vaddr → t.vaddr ≤ at → p t ≡ true

find_last_none : {X : Type 0} (p : X → Bool) (xs : List X) → All (λ x. p x ≡ false) xs → find_last p xs ≡ None
find_last_none p [] none = refl
find_last_none p (x ∷ xs) none =
    let rest : find_last p xs ≡ None = find_last_none p xs (λ k d lt. none (suc k) d (omega arith)) in
    let here : p x ≡ false = none zero x (omega arith) in
    rw (rest, here) refl

find_last_some : {X : Type 0} (p : X → Bool) (xs : List X) (i : ℕ) (x : X) → i < length xs → get_or xs i x ≡ x → p x ≡ true → ((k : ℕ) (d : X) → i < k → k < length xs → p (get_or xs k d) ≡ false) → find_last p xs ≡ Some x
find_last_some p [] i x lt is passes none = absurd (omega arith)
find_last_some p (y ∷ xs) zero x lt is passes none =
    let rest : find_last p xs ≡ None = find_last_none p xs (λ k d below. none (suc k) d (omega arith) (omega arith)) in
    rw (rest, is, passes) refl
find_last_some p (y ∷ xs) (suc i) x lt is passes none =
    let rest : find_last p xs ≡ Some x = find_last_some p xs i x (omega arith) is passes (λ k d above below. none (suc k) d (omega arith) (omega arith)) in
    rw rest refl

-- a segment behind the deciding one doesn't pass
none_behind : (segments : List Segment) (at : ℕ) (p : Segment → Bool) (s : Segment) → IsDecided at p → (last : IsLastBelow segments at s) → (k : ℕ) (d : Segment) → last.place < k → k < length segments → p (get_or segments k d) ≡ false
none_behind segments at p s decided last k d above lt =
    false_from_ne_true (p (get_or segments k d)) (λ passes.
    let high = last.behind k d above lt in
    let low = decided.begins (get_or segments k d) passes in absurd (omega (arith, high, low)))

-- no segment passes a test that the deciding one doesn't pass
none_passes : (segments : List Segment) (at : ℕ) (p : Segment → Bool) (s : Segment) → IsDecided at p → IsLastBelow segments at s → p s ≡ false → All (λ t. p t ≡ false) segments
none_passes segments at p s decided last fails = λ k d lt.
    ⊎_elim
    (λ (less : k < last.place). false_from_ne_true (p (get_or segments k d)) (λ passes.
    let yes : p s ≡ true = decided.passes_on (get_or segments k d) s passes (last.before k d less) last.begins in cc))
    (λ (ge : last.place ≤ k). ⊎_elim
    (λ (same : k ≡ last.place). rw same (ap p (get_or_default segments last.place d s last.inside ∙ last.is) ∙ fails))
    (λ (other : k ≡ last.place → ⊥). none_behind segments at p s decided last k d (omega (arith, other)) lt)
    (cases_eq k last.place))
    (cases_lt k last.place)

-- where all begin above the address, none passes
none_above : (segments : List Segment) (at : ℕ) (p : Segment → Bool) → IsDecided at p → All (λ s. at < s.vaddr) segments → All (λ t. p t ≡ false) segments
none_above segments at p decided above = λ k d lt.
    false_from_ne_true (p (get_or segments k d)) (λ passes.
    let high = above k d lt in
    let low = decided.begins (get_or segments k d) passes in absurd (omega (arith, high, low)))

-- the last segment decides whether one passes
pub any_decided : (segments : List Segment) (at : ℕ) (p : Segment → Bool) (found : Option Segment) → IsDecided at p → EndsBelow segments at found → list_any p segments ≡ passes_in p found
any_decided segments at p None decided above = list_any_none p segments (none_above segments at p decided above)
any_decided segments at p (Some s) decided last =
    ⊎_elim
    (λ (yes : p s ≡ true). list_any_at p segments last.place s last.inside (ap p last.is ∙ yes) ∙ sym yes)
    (λ (no : p s ≡ false). list_any_none p segments (none_passes segments at p s decided last no) ∙ sym no)
    (cases_Bool (p s))

-- and which is the last that passes
pub last_decided : (segments : List Segment) (at : ℕ) (p : Segment → Bool) (found : Option Segment) → IsDecided at p → EndsBelow segments at found → find_last p segments ≡ if_passes p found
last_decided segments at p None decided above = find_last_none p segments (none_above segments at p decided above)
last_decided segments at p (Some s) decided last =
    ⊎_elim
    (λ (yes : p s ≡ true). find_last_some p segments last.place s last.inside last.is yes (none_behind segments at p s decided last) ∙ sym (cond-true (p s) (Some s) None yes))
    (λ (no : p s ≡ false). find_last_none p segments (none_passes segments at p s decided last no) ∙ sym (cond-false (p s) (Some s) None no))
    (cases_Bool (p s))

pub in_code_decided : (at : ℕ) → IsDecided at (λ s. executes s && has_address s at)
in_code_decided at = record {
  begins = λ s h. leb-true _ _ (and_parts _ _ (and_parts _ _ h).1).0;
  passes_on = λ s t h end begins.
      let below : at < end_of s = ltb-true _ _ (and_parts _ _ (and_parts _ _ h).1).1 in absurd (omega arith);
}

spans_parts : (s : Segment) (at len : ℕ) → spans s at len ≡ true → (s.vaddr ≤ at) × (at + len ≤ end_of s)
spans_parts s at len h = let parts = and_parts _ _ h in (leb-true _ _ parts.0, leb-true _ _ parts.1)

spans_from : (s : Segment) (at len : ℕ) → s.vaddr ≤ at → at + len ≤ end_of s → spans s at len ≡ true
spans_from s at len low high = rw (le-leb _ _ low, le-leb _ _ high) refl

pub writable_decided : (at len : ℕ) → 0 < len → IsDecided at (λ s. writes s && spans s at len)
writable_decided at len some = record {
  begins = λ s h. (spans_parts s at len (and_parts _ _ h).1).0;
  passes_on = λ s t h end begins. let part = spans_parts s at len (and_parts _ _ h).1 in absurd (omega (arith, part.1));
}

-- an empty interval at the end of one segment and at the begin of the next is in both
pub spanning_decided : (at len : ℕ) → IsDecided at (λ s. spans s at len)
spanning_decided at len = record {
  begins = λ s h. (spans_parts s at len h).0;
  passes_on = λ s t h end begins. let part = spans_parts s at len h in spans_from t at len begins (omega (arith, part.1));
}

-- the answers of the code, where the last segment is at hand
pub code_by_last : (object : DynRecords) (at : ℕ) (found : Option Segment) → EndsBelow object.segments at found → is_in_code object at ≡ passes_in (λ s. executes s && has_address s at) found
code_by_last object at found last = any_decided object.segments at (λ s. executes s && has_address s at) found (in_code_decided at) last

pub writable_by_last : (object : DynRecords) (at len : ℕ) (found : Option Segment) → 0 < len → EndsBelow object.segments at found → is_in_writable object at len ≡ passes_in (λ s. writes s && spans s at len) found
writable_by_last object at len found some last = any_decided object.segments at (λ s. writes s && spans s at len) found (writable_decided at len some) last

pub permissions_by_last : (object : DynRecords) (at len : ℕ) (found : Option Segment) → EndsBelow object.segments at found → data_permissions object at len ≡ permissions_of_part object at len (if_passes (λ s. spans s at len) found)
permissions_by_last object at len found last = ap (permissions_of_part object at len) (last_decided object.segments at (λ s. spans s at len) found (spanning_decided at len) last)
