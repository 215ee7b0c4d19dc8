-- The segments of a shared object that was read.
use Rattle.std.proofs.Common.{◌≡◌, ℕ, ◌+◌, ◌%◌, ◌^◌, ◌≤◌, ◌<◌, true, false, List, [], ◌∷◌, ◌++◌, Option, Some, None, Ok, ⊎_elim, refl, subst, sym, arith}
use Rattle.std.specs.Prelude.{max, not, ◌||◌, ◌==◌, nat_lt, fold, All, IsTrue, option_to_list}
use Rattle.std.specs.List.{list_any}
use Rattle.std.specs.Int.Count.{ones}
use Rattle.std.specs.Int.{is_power_of_two, next_multiple_of}
use Rattle.std.proofs.lemmas.Bool.{ltb-false, ltb-true, eqb-true, or_parts, or_cases, not-false, cases_lt}
use Rattle.std.proofs.lemmas.List.{append-nil}
use Rattle.std.proofs.lemmas.List.Elements.{All-nil, All-cons, All-head, All-tail, All-push}
use Rattle.std.proofs.lemmas.List.Quantifiers.{all_pairs_push}
use Rattle.cap_base.specs.declared.check.Check.TheVariants.{ThreadLocal, SegmentRange, SegmentAlignment, SegmentOrder, WritableCode}
use Rattle.cap_elf.specs.declared.records.Segment.{Segment}
use Rattle.cap_elf.specs.declared.decode.ProgramHeader.{ProgramHeader}
use Rattle.cap_elf.specs.Ends.{end_of, highest_end, has_memory}
use Rattle.cap_elf.specs.Segments.{load_of, load_step, loads_of, range_fails, alignment_fails, is_writable_code}
use Rattle.cap_elf.specs.IsRead.{Ascend, IsSegment}
use Rattle.cap_elf.specs.DynView.{span_of, align_of}
use Rattle.cap_elf.proofs.Passing.{bind_passed, check_passed, choice_passed, steps_keep}

-- a segment that passed its checks, in a file of this length
pub record IsLoad (file_len : ℕ) (s : Segment) : Type 0 where
  pub in_file : s.offset + s.filesz ≤ file_len
  pub file_part : s.filesz ≤ s.memsz
  pub low : end_of s ≤ 2 ^ 62
  pub power : IsTrue (is_power_of_two (max s.align 1))
  pub align_high : s.align ≤ 2 ^ 26
  pub congruent : s.offset % max s.align 1 ≡ s.vaddr % max s.align 1
  pub protected : is_writable_code s ≡ false

-- the highest of a number and what f gives is at least as high as each of them
pub fold-max : {X : Type 0} (f : X → ℕ) (a : ℕ) (xs : List X) → (a ≤ fold (λ m x. max m (f x)) a xs) × All (λ x. f x ≤ fold (λ m y. max m (f y)) a xs) xs
fold-max f a [] = (omega arith, All-nil (λ x. f x ≤ a))
fold-max f a (x ∷ xs) =
    let rest = fold-max f (max a (f x)) xs in
    (omega (arith, rest.0), All-cons (λ y. f y ≤ fold (λ m z. max m (f z)) (max a (f x)) xs) x xs (omega (arith, rest.0)) rest.1)

-- what each step of a fold keeps
pub fold_keep : {B X : Type 0} (f : B → X → B) (P : B → Type 0) (Q : X → Type 0) → ((b : B) (x : X) → P b → Q x → P (f b x)) → (a : B) (xs : List X) → P a → All Q xs → P (fold f a xs)
fold_keep f P Q keep a [] p q = p
fold_keep f P Q keep a (x ∷ xs) p q = fold_keep f P Q keep (f a x) xs (keep a x p (All-head Q x xs q)) (All-tail Q x xs q)

-- a segment that a program header maps
load_passed : (file_len end : ℕ) (h : ProgramHeader) (s : Segment) → load_of file_len end h ≡ Ok (Some s) → IsLoad file_len s × (end ≤ s.vaddr)
unfolding load_of
load_passed file_len end h s passed =
    let kind = check_passed (h.kind == 7) ThreadLocal h.at _ (Some s) passed in
    choice_passed (not (h.kind == 1)) _ _ _ kind.1 (λ _ none. absurd (cc)) (λ _ rest.
    let range = check_passed (range_fails file_len h.segment) SegmentRange h.at _ (Some s) rest in
    let alignment = check_passed (alignment_fails h.segment) SegmentAlignment h.at _ (Some s) range.1 in
    let order = check_passed (nat_lt h.segment.vaddr end) SegmentOrder h.at _ (Some s) alignment.1 in
    let code = check_passed (is_writable_code h.segment) WritableCode h.at _ (Some s) order.1 in
    let same : h.segment ≡ s = cc in
    let range_most = or_parts (nat_lt h.segment.memsz h.segment.filesz || nat_lt file_len (h.segment.offset + h.segment.filesz)) (nat_lt (2 ^ 62) (end_of h.segment)) range.0 in
    let range_first = or_parts (nat_lt h.segment.memsz h.segment.filesz) (nat_lt file_len (h.segment.offset + h.segment.filesz)) range_most.0 in
    let align = max h.segment.align 1 in
    let apart = not ((h.segment.offset % align) == (h.segment.vaddr % align)) in
    let align_most = or_parts (not (is_power_of_two align) || nat_lt (2 ^ 26) align) apart alignment.0 in
    let align_first = or_parts (not (is_power_of_two align)) (nat_lt (2 ^ 26) align) align_most.0 in
    let high = ltb-false (2 ^ 26) (max h.segment.align 1) align_first.1 in
    subst (λ (t : Segment). IsLoad file_len t × (end ≤ t.vaddr)) same (
      record {
        in_file = ltb-false file_len (h.segment.offset + h.segment.filesz) range_first.1;
        file_part = ltb-false h.segment.memsz h.segment.filesz range_first.0;
        low = ltb-false (2 ^ 62) (end_of h.segment) range_most.1;
        power = not-false (is_power_of_two (max h.segment.align 1)) align_first.0;
        align_high = omega (arith, high);
        congruent = eqb-true (h.segment.offset % max h.segment.align 1) (h.segment.vaddr % max h.segment.align 1) (not-false _ align_most.1);
        protected = code.0;
      },
      ltb-false h.segment.vaddr end order.0,
    ))

-- segments that passed their checks, in order
pub record AreLoads (file_len : ℕ) (loads : List Segment) : Type 0 where
  pub each : All (IsLoad file_len) loads
  pub ascend : Ascend loads

with_load : (file_len : ℕ) (loads : List Segment) (h : ProgramHeader) (o : Option Segment) → AreLoads file_len loads → load_of file_len (highest_end loads) h ≡ Ok o → AreLoads file_len (loads ++ option_to_list o)
with_load file_len loads h None are passed = subst (AreLoads file_len) (sym (append-nil loads)) are
with_load file_len loads h (Some s) are passed =
    let new = load_passed file_len (highest_end loads) h s passed in
    let ends = fold-max end_of 0 loads in
    record {
      each = All-push (IsLoad file_len) loads s are.each new.0;
      ascend = all_pairs_push (λ (a b : Segment). end_of a ≤ b.vaddr) loads s are.ascend (λ k d lt. omega (arith, new.1, ends.1 k d lt));
    }

load_step_keeps : (file_len : ℕ) (loads : List Segment) (h : ProgramHeader) (next : List Segment) → AreLoads file_len loads → load_step file_len loads h ≡ Ok next → AreLoads file_len next
unfolding load_step
load_step_keeps file_len loads h next are passed =
    let one = bind_passed (load_of file_len (highest_end loads) h) _ next passed in
    let same : loads ++ option_to_list one.0 ≡ next = let two = one.2 in cc in
    subst (AreLoads file_len) same (with_load file_len loads h one.0 are one.1)

-- the segments that the program headers map
pub loads_passed : (file_len : ℕ) (headers : List ProgramHeader) (loads : List Segment) → loads_of file_len headers ≡ Ok loads → AreLoads file_len loads
loads_passed file_len headers loads passed =
    steps_keep (load_step file_len) (AreLoads file_len) (load_step_keeps file_len) [] headers loads
    (record { each = All-nil (IsLoad file_len); ascend = λ i j d lt inside. absurd (omega arith) }) passed

-- a page, or the highest alignment
pub record IsAlign (n : ℕ) : Type 0 where
  pub power : IsTrue (is_power_of_two n)
  pub low : 4096 ≤ n
  pub high : n ≤ 2 ^ 26

higher_align : (file_len : ℕ) (n : ℕ) (s : Segment) → IsAlign n → IsLoad file_len s → IsAlign (max n s.align)
higher_align file_len n s is load =
    ⊎_elim (λ (h : n < s.align).
    let one : max s.align 1 ≡ max n s.align = omega (arith, h, is.low) in
    record { power = subst (λ (m : ℕ). IsTrue (is_power_of_two m)) one load.power; low = omega (arith, h, is.low); high = omega (arith, h, load.align_high) })
    (λ (h : s.align ≤ n).
    let one : n ≡ max n s.align = omega (arith, h) in
    subst IsAlign one is)
    (cases_lt n s.align)

page_power : IsTrue (is_power_of_two 4096)
unfolding ones
page_power = refl

pub align_passed : (file_len : ℕ) (loads : List Segment) → AreLoads file_len loads → IsAlign (align_of loads)
align_passed file_len loads are =
    fold_keep (λ (n : ℕ) (s : Segment). max n s.align) IsAlign (IsLoad file_len) (higher_align file_len) 4096 loads
    (record { power = page_power; low = omega arith; high = omega arith }) are.each

pub end_low : (file_len : ℕ) (loads : List Segment) → AreLoads file_len loads → highest_end loads ≤ 2 ^ 62
end_low file_len loads are =
    fold_keep (λ (n : ℕ) (s : Segment). max n (end_of s)) (λ n. n ≤ 2 ^ 62) (IsLoad file_len) (λ n s low load. omega (arith, low, load.low)) 0 loads (omega arith) are.each

-- a segment with memory ends above 0
pub end_some : (a : ℕ) (loads : List Segment) → list_any has_memory loads ≡ true → 0 < fold (λ n s. max n (end_of s)) a loads
end_some a [] h = absurd (cc)
end_some a (s ∷ loads) h =
    ⊎_elim (λ (here : has_memory s ≡ true).
    let above = fold-max end_of (max a (end_of s)) loads in
    omega (arith, above.0, ltb-true 0 s.memsz here))
    (λ (later : list_any has_memory loads ≡ true). end_some (max a (end_of s)) loads later)
    (or_cases (has_memory s) (list_any has_memory loads) h)

-- a number rounded up to whole pages
pub record IsRoundedUp (x span : ℕ) : Type 0 where
  pub above : x ≤ span
  pub pages : span % 4096 ≡ 0
  pub high : x ≤ 2 ^ 62 → span ≤ 2 ^ 62

pub rounded_up : (x : ℕ) → IsRoundedUp x (next_multiple_of x 4096)
rounded_up x = record { above = omega arith; pages = omega arith; high = λ h. omega arith }

pub segments_passed : (file_len : ℕ) (loads : List Segment) → AreLoads file_len loads → All (IsSegment (span_of loads)) loads
segments_passed file_len loads are =
    let ends = fold-max end_of 0 loads in
    let up = rounded_up (highest_end loads) in
    λ k d lt.
    let load = are.each k d lt in
    record {
      within = omega (arith, ends.1 k d lt, up.above);
      file_part = load.file_part;
      power = load.power;
      align_high = load.align_high;
      congruent = load.congruent;
      protected = load.protected;
    }
