-- Marks ascend, and none is above the size of its section.
use Rattle.std.proofs.Common.{◌≡◌, ℕ, zero, suc, ◌+◌, ◌^◌, ◌<◌, ◌≤◌, Bool, true, false, not, ◌&&◌, ◌==◌, cond, ⊎_elim, List, [], ◌∷◌, length, get_or, Some, None, refl, sym, ap, ◌∙◌, subst, arith}
use Rattle.std.specs.Prelude.{fold, filter, nat_lt}
use Rattle.std.specs.List.{flat_map, AllByRecursion}
use Rattle.std.proofs.lemmas.List.Elements.{recursion_from_All}
use Rattle.std.proofs.lemmas.Bool.{cases_Bool, eqb-true, and_parts}
use Rattle.cap_elf.specs.declared.records.Class.{Class}
use Rattle.cap_elf.specs.declared.records.Class.TheVariants.{Ro, Code, Init, Fini, Relro, Data, Bss, Dropped}
use Rattle.cap_elf.specs.declared.records.Place.{Place}
use Rattle.cap_elf.specs.declared.records.Place.TheVariants as places
use Rattle.cap_elf.specs.declared.records.Section.{Section}
use Rattle.cap_elf.specs.declared.records.Symbol.{Symbol}
use Rattle.cap_elf.specs.Classes.{is_kept, is_split}
use Rattle.cap_elf.specs.RelObject.{RelObject, no_section, section_of}
use Rattle.cap_elf.specs.IsRelRead.{IsRelRead, IsPlaced}
use Rattle.cap_layout.specs.Cuts.{with_mark, ascending, marks, cut_at, cut_ends, cuts_section, is_one_section, splits}
use Rattle.cap_layout.specs.Marked.{AreMarksOf}
use Rattle.cap_layout.proofs.MarkLists.{two}
use Rattle.cap_layout.proofs.MarkSets.{Ascends, Ascends-fold, here, front, further}

-- ---- the order
next_above : (ms : List ℕ) (k : ℕ) → Ascends ms → k + 1 < length ms → get_or ms k 0 < get_or ms (k + 1) 0
next_above [] k a lt = absurd (omega arith)
next_above (m ∷ []) k a lt = absurd (omega arith)
next_above (m ∷ n ∷ ms) zero a lt = a.0.0
next_above (m ∷ n ∷ ms) (suc k) a lt =
    let more : suc k + 1 ≡ suc (k + 1) = omega arith in
    let rest : get_or (n ∷ ms) k 0 < get_or (n ∷ ms) (k + 1) 0 = next_above (n ∷ ms) k a.1 (omega arith) in
    subst (λ j. get_or (n ∷ ms) k 0 < get_or (m ∷ n ∷ ms) j 0) (sym more) rest

-- ---- the bound
abbrev Low : ℕ → List ℕ → Type 0
Low b ms = AllByRecursion (λ m. m ≤ b) ms

low_mark : (b : ℕ) (ms : List ℕ) (x : ℕ) → Low b ms → x ≤ b → Low b (with_mark ms x)
low_mark b [] x low le = (le, tt)
low_mark b (m ∷ ms) x low le =
    ⊎_elim
    (λ (e : (x == m) ≡ true). subst (Low b) (sym (here m ms x e)) low)
    (λ (e : (x == m) ≡ false). ⊎_elim
    (λ (f : nat_lt x m ≡ true). subst (Low b) (sym (front m ms x e f)) (le, low))
    (λ (f : nat_lt x m ≡ false). subst (Low b) (sym (further m ms x e f)) (low.0, low_mark b ms x low.1 le))
    (cases_Bool (nat_lt x m)))
    (cases_Bool (x == m))

low_fold : (b : ℕ) (xs ms : List ℕ) → Low b xs → Low b ms → Low b (fold with_mark ms xs)
low_fold b [] ms low so_far = so_far
low_fold b (x ∷ xs) ms low so_far = low_fold b xs (with_mark ms x) low.1 (low_mark b ms x so_far low.0)

low_at : (b : ℕ) (ms : List ℕ) (k : ℕ) → Low b ms → k < length ms → get_or ms k 0 ≤ b
low_at b [] k low lt = absurd (omega arith)
low_at b (m ∷ ms) zero low lt = low.0
low_at b (m ∷ ms) (suc k) low lt = low_at b ms k low.1 (omega arith)

pub split_kept : (class : Class) → is_split class ≡ true → is_kept class ≡ true
split_kept Ro h = refl
split_kept Code h = refl
split_kept Init h = refl
split_kept Fini h = refl
split_kept Relro h = refl
split_kept Data h = refl
split_kept Bss h = refl
split_kept Dropped h = h

-- a symbol ends within the section that it cuts
pub placed_within : (secs : List Section) (s : Symbol) (p : Place) (n : ℕ) → IsPlaced secs s p → is_one_section (Some n) (cut_at secs s.size p) ≡ true → s.value + s.size ≤ (get_or secs n no_section).size
placed_within secs s places.Undefined n placed h = absurd cc
placed_within secs s places.Absolute n placed h = absurd cc
placed_within secs s places.Common n placed h = absurd cc
placed_within secs s (places.Section m) n placed h = by (splits secs m && not (s.size == 0)) refl h
  where
    by : (b : Bool) → (splits secs m && not (s.size == 0)) ≡ b → is_one_section (Some n) (cond b (Some m) None) ≡ true → s.value + s.size ≤ (get_or secs n no_section).size
    by true is one =
        let same : n ≡ m = eqb-true n m one in
        let split = and_parts (splits secs m) (not (s.size == 0)) is in
        let within : s.value + s.size ≤ (get_or secs m no_section).size = placed.1.within (split_kept (get_or secs m no_section).class split.0) in
        subst (λ k. s.value + s.size ≤ (get_or secs k no_section).size) (sym same) within
    by false is one = absurd cc

low_ends : (b : ℕ) (test : Symbol → Bool) (ss : List Symbol) → AllByRecursion (λ s. test s ≡ true → s.value + s.size ≤ b) ss → Low b (flat_map two (filter test ss))
low_ends b test [] h = tt
low_ends b test (s ∷ ss) h =
    ⊎_elim
    (λ (yes : test s ≡ true).
    subst (λ t. Low b (flat_map two (cond t (s ∷ filter test ss) (filter test ss)))) (sym yes)
    (omega (arith, h.0 yes), (h.0 yes, low_ends b test ss h.1)))
    (λ (no : test s ≡ false). subst (λ t. Low b (flat_map two (cond t (s ∷ filter test ss) (filter test ss)))) (sym no) (low_ends b test ss h.1))
    (cases_Bool (test s))

pub are_marks : (object : RelObject) → IsRelRead object → (n : ℕ) → AreMarksOf (section_of object n).size (marks object n)
are_marks object read n =
    let size = (section_of object n).size in
    let xs : List ℕ = 0 ∷ size ∷ cut_ends object n in
    let symbols : AllByRecursion (λ s. cuts_section object n s ≡ true → s.value + s.size ≤ size) object.symbols =
    recursion_from_All (λ s. cuts_section object n s ≡ true → s.value + s.size ≤ size) object.symbols
    (λ k d lt h. placed_within object.sections (get_or object.symbols k d) (get_or object.symbols k d).place n (read.symbols_are k d lt).placed h) in
    let low : Low size (ascending xs) = low_fold size xs [] (omega arith, (omega arith, low_ends size (cuts_section object n) object.symbols symbols)) tt in
    (λ k lt. next_above (ascending xs) k (Ascends-fold xs [] tt) lt, λ k lt. low_at size (ascending xs) k low lt)

-- the bound that the code asks for
pub are_small : (object : RelObject) → IsRelRead object → (n : ℕ) → n < length object.sections → is_split (section_of object n).class ≡ true → AreMarksOf (2 ^ 62) (marks object n)
are_small object read n lt split =
    let own = are_marks object read n in
    let high = (read.sections_are n no_section lt).size_high (split_kept (section_of object n).class split) in
    (own.0, λ k l. let h = own.1 k l in omega (arith, h, high))

pub marks_fit : (object : RelObject) (place : ℕ) (sec : Section) (ms : List ℕ) → IsRelRead object → place < length object.sections → sec ≡ section_of object place → ms ≡ marks object place → is_split sec.class ≡ true → AreMarksOf (2 ^ 62) ms
marks_fit object place sec ms read lt is own split =
    subst (AreMarksOf (2 ^ 62)) (sym own) (are_small object read place lt (ap (λ s. is_split s.class) (sym is) ∙ split))
