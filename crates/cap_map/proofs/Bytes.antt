-- Storing the segments one after the other gives each address its byte.
use Rattle.std.proofs.Common.{◌≡◌, ℕ, suc, ◌+◌, ◌-◌, ◌<◌, ◌≤◌, true, false, cond, List, [], ◌∷◌, ◌++◌, length, map, take, drop, get_or, slice_index, Option, Some, None, refl, sym, ap, ◌∙◌, arith, ⊎_elim, length-append}
use Rattle.std.specs.Prelude.{nat_le, nat_lt, All, AllPairs, fold}
use Rattle.std.specs.List.{range_with_len, replace_range, find}
use Rattle.std.proofs.lemmas.Grind.{same_number_lists}
use Rattle.std.proofs.lemmas.Bool.{cases_lt, cases_Bool, lt-ltb, le-ltb, le-leb, lt-leb, ltb-true, and_parts, and_from, and_left, and_right, cond-true, cond-false}
use Rattle.std.proofs.lemmas.List.{get_or-drop, get_or-take, get_or_append_left, get_or-append_right, get_or-replicate, length-replicate, length-take-le, length-drop, drop_more, drop_all}
use Rattle.std.proofs.lemmas.List.Elements.{All-head, All-tail}
use Rattle.std.proofs.lemmas.List.FromFn.{length-map-range_with_len, get_or-map-range_with_len}
use Rattle.cap_base.specs.Lists.{numbers_between}
use Rattle.cap_elf.specs.declared.records.Segment.{Segment}
use Rattle.cap_mem.specs.Tagged.{TaggedMemory, zeros}
use Rattle.cap_mem.proofs.Stored.{length_replaced}
use Rattle.cap_map.specs.Mapped.{has_file_byte, byte_in, mapped_byte}
use Rattle.cap_map.specs.Stores.{PartFits, file_part, with_segment, with_segments}

-- the file part of a segment that fits has its length
pub length_part : (file : List ℕ) (span : ℕ) (s : Segment) → PartFits span (length file) s → length (file_part file s) ≡ s.filesz
length_part file span s fits = length-take-le s.filesz (drop s.offset file) (omega (arith, length-drop s.offset file, fits.in_file))

-- a step of the fold over what is left
pub fold_more : {A X : Type 0} (f : A → X → A) (a b total : A) (xs : List X) (i : ℕ) (d : X) → i < length xs → b ≡ f a (get_or xs i d) → fold f a (drop i xs) ≡ total → fold f b (drop (i + 1) xs) ≡ total
fold_more f a b total xs i d lt e so_far = ap (λ c. fold f c (drop (i + 1) xs)) e ∙ sym (ap (fold f a) (drop_more xs i d lt)) ∙ so_far

-- nothing is left
pub fold_done : {A X : Type 0} (f : A → X → A) (a total : A) (xs : List X) (i : ℕ) → length xs ≤ i → fold f a (drop i xs) ≡ total → a ≡ total
fold_done f a total xs i le so_far = sym (ap (fold f a) (drop_all i xs le)) ∙ so_far

-- the bytes of a span, by their addresses
abbrev by_address : (ℕ → ℕ) → ℕ → List ℕ
by_address f span = map f (range_with_len 0 span)

abbrev plain : ℕ → List ℕ → TaggedMemory
plain base bytes = record { base = base; bytes = bytes; words = [] }

by_address_at : (f : ℕ → ℕ) (span k : ℕ) → k < span → get_or (by_address f span) k 0 ≡ f k
by_address_at f span k lt = get_or-map-range_with_len f 0 span k k 0 lt (omega arith)

-- lists of the span's length that agree at each address
same_by_address : (xs : List ℕ) (g : ℕ → ℕ) (span : ℕ) → length xs ≡ span → ((k : ℕ) → k < span → get_or xs k 0 ≡ g k) → xs ≡ by_address g span
same_by_address xs g span len same =
    same_number_lists xs (by_address g span) (len ∙ sym (length-map-range_with_len g 0 span)) (λ k lt. same k (omega (arith, lt, len)) ∙ sym (by_address_at g span k (omega (arith, lt, len))))

replaced_within : (xs ys : List ℕ) (v n k : ℕ) → length ys ≡ n → v + n ≤ length xs → v ≤ k → k < v + n → get_or (replace_range xs v (v + n) ys) k 0 ≡ get_or ys (k - v) 0
replaced_within xs ys v n k len fits low high =
    let front : length (take v xs) ≡ v = length-take-le v xs (omega (arith, fits)) in
    get_or_append_left (take v xs ++ ys) (drop (v + n) xs) 0 k (omega (arith, length-append (take v xs) ys, front, len, high))
    ∙ get_or-append_right (take v xs) ys v k 0 front low

replaced_before : (xs ys : List ℕ) (v n k : ℕ) → v + n ≤ length xs → k < v → get_or (replace_range xs v (v + n) ys) k 0 ≡ get_or xs k 0
replaced_before xs ys v n k fits low =
    let front : length (take v xs) ≡ v = length-take-le v xs (omega (arith, fits)) in
    get_or_append_left (take v xs ++ ys) (drop (v + n) xs) 0 k (omega (arith, length-append (take v xs) ys, front, low))
    ∙ get_or_append_left (take v xs) ys 0 k (omega (arith, front, low))
    ∙ get_or-take v xs k 0 low

replaced_behind : (xs ys : List ℕ) (v n k : ℕ) → length ys ≡ n → v + n ≤ length xs → v + n ≤ k → get_or (replace_range xs v (v + n) ys) k 0 ≡ get_or xs k 0
replaced_behind xs ys v n k len fits high =
    let front : length (take v xs) ≡ v = length-take-le v xs (omega (arith, fits)) in
    let back : v + n + (k - (v + n)) ≡ k = omega (arith, high) in
    get_or-append_right (take v xs ++ ys) (drop (v + n) xs) (v + n) k 0 (omega (arith, length-append (take v xs) ys, front, len)) high
    ∙ get_or-drop (v + n) xs (k - (v + n)) 0
    ∙ ap (λ j. get_or xs j 0) back

-- the byte that a segment has at an address, or another one where it has none there
abbrev byte_or : List ℕ → (ℕ → ℕ) → ℕ → Option Segment → ℕ
byte_or file f a None = f a
byte_or file f a (Some s) = slice_index file (s.offset + (a - s.vaddr))

abbrev over : List ℕ → Segment → (ℕ → ℕ) → ℕ → ℕ
over file s f a = cond (has_file_byte a s) (slice_index file (s.offset + (a - s.vaddr))) (f a)

one_byte : (file : List ℕ) (span : ℕ) (f : ℕ → ℕ) (s : Segment) → PartFits span (length file) s → (k : ℕ) → k < span
    → get_or (replace_range (by_address f span) s.vaddr (s.vaddr + s.filesz) (file_part file s)) k 0 ≡ over file s f k
one_byte file span f s fits k lt =
    let xs = by_address f span in
    let len = length_part file span s fits in
    let inside : s.vaddr + s.filesz ≤ length xs = omega (arith, length-map-range_with_len f 0 span, fits.in_span) in
    let there = slice_index file (s.offset + (k - s.vaddr)) in
    ⊎_elim
    (λ (low : k < s.vaddr).
    replaced_before xs (file_part file s) s.vaddr s.filesz k inside low ∙ by_address_at f span k lt
    ∙ sym (cond-false (has_file_byte k s) there (f k) (and_left (nat_le s.vaddr k) (nat_lt k (s.vaddr + s.filesz)) (lt-leb s.vaddr k low))))
    (λ (from : s.vaddr ≤ k). ⊎_elim
    (λ (to : k < s.vaddr + s.filesz).
    replaced_within xs (file_part file s) s.vaddr s.filesz k len inside from to
    ∙ get_or-take s.filesz (drop s.offset file) (k - s.vaddr) 0 (omega (arith, from, to))
    ∙ get_or-drop s.offset file (k - s.vaddr) 0
    ∙ sym (cond-true (has_file_byte k s) there (f k) (and_from (nat_le s.vaddr k) (nat_lt k (s.vaddr + s.filesz)) (le-leb s.vaddr k from) (lt-ltb k (s.vaddr + s.filesz) to))))
    (λ (past : s.vaddr + s.filesz ≤ k).
    replaced_behind xs (file_part file s) s.vaddr s.filesz k len inside past ∙ by_address_at f span k lt
    ∙ sym (cond-false (has_file_byte k s) there (f k) (and_right (nat_le s.vaddr k) (nat_lt k (s.vaddr + s.filesz)) (le-ltb k (s.vaddr + s.filesz) past))))
    (cases_lt k (s.vaddr + s.filesz)))
    (cases_lt k s.vaddr)

-- one segment
one_segment : (file : List ℕ) (base span : ℕ) (f : ℕ → ℕ) (s : Segment) → PartFits span (length file) s
    → with_segment file (plain base (by_address f span)) s ≡ plain base (by_address (over file s f) span)
one_segment file base span f s fits =
    let xs = by_address f span in
    let part = file_part file s in
    let len = length_part file span s fits in
    let inside : s.vaddr + s.filesz ≤ length xs = omega (arith, length-map-range_with_len f 0 span, fits.in_span) in
    let at : base + s.vaddr - base ≡ s.vaddr = omega arith in
    ap (λ n. plain base (replace_range xs n (n + length part) part)) at
    ∙ ap (λ n. plain base (replace_range xs s.vaddr (s.vaddr + n) part)) len
    ∙ ap (plain base) (same_by_address (replace_range xs s.vaddr (s.vaddr + s.filesz) part) (over file s f) span (length_replaced xs part s.vaddr s.filesz len inside ∙ length-map-range_with_len f 0 span) (one_byte file span f s fits))

-- the file part of each segment ends before the next segments
abbrev pub AreApart : List Segment → Type 0
AreApart segments = AllPairs (λ s t. s.vaddr + s.filesz ≤ t.vaddr) segments

none_found : (a : ℕ) (segments : List Segment) → All (λ t. a < t.vaddr) segments → find (has_file_byte a) segments ≡ None
none_found a [] above = refl
none_found a (t ∷ segments) above =
    cond-false (has_file_byte a t) (Some t) (find (has_file_byte a) segments) (and_left (nat_le t.vaddr a) (nat_lt a (t.vaddr + t.filesz)) (lt-leb t.vaddr a (All-head (λ (u : Segment). a < u.vaddr) t segments above)))
    ∙ none_found a segments (All-tail (λ (u : Segment). a < u.vaddr) t segments above)

-- where segments are apart, the first that has an address is the only one
first_found : (file : List ℕ) (f : ℕ → ℕ) (s : Segment) (segments : List Segment) (a : ℕ) → AreApart (s ∷ segments)
    → byte_or file (over file s f) a (find (has_file_byte a) segments) ≡ byte_or file f a (find (has_file_byte a) (s ∷ segments))
first_found file f s segments a apart =
    ⊎_elim
    (λ (here : has_file_byte a s ≡ true).
    let parts = and_parts (nat_le s.vaddr a) (nat_lt a (s.vaddr + s.filesz)) here in
    let below = ltb-true a (s.vaddr + s.filesz) parts.1 in
    let none : find (has_file_byte a) segments ≡ None = none_found a segments (λ k d lt. let order = apart 0 (suc k) d (omega arith) (omega (arith, lt)) in omega (arith, order, below)) in
    ap (byte_or file (over file s f) a) none
    ∙ cond-true (has_file_byte a s) (slice_index file (s.offset + (a - s.vaddr))) (f a) here
    ∙ sym (ap (byte_or file f a) (cond-true (has_file_byte a s) (Some s) (find (has_file_byte a) segments) here)))
    (λ (elsewhere : has_file_byte a s ≡ false).
    let same : over file s f a ≡ f a = cond-false (has_file_byte a s) (slice_index file (s.offset + (a - s.vaddr))) (f a) elsewhere in
    passed file f (over file s f) a (find (has_file_byte a) segments) same
    ∙ sym (ap (byte_or file f a) (cond-false (has_file_byte a s) (Some s) (find (has_file_byte a) segments) elsewhere)))
    (cases_Bool (has_file_byte a s))
  where
    passed : (file : List ℕ) (f g : ℕ → ℕ) (a : ℕ) (o : Option Segment) → g a ≡ f a → byte_or file g a o ≡ byte_or file f a o
    passed file f g a None same = same
    passed file f g a (Some t) same = refl

-- lists by address are the same where their functions are
same_function : (f g : ℕ → ℕ) (span : ℕ) → ((k : ℕ) → k < span → f k ≡ g k) → by_address f span ≡ by_address g span
same_function f g span same = same_by_address (by_address f span) g span (length-map-range_with_len f 0 span) (λ k lt. by_address_at f span k lt ∙ same k lt)

-- all segments
all_segments : (file : List ℕ) (base span : ℕ) (f : ℕ → ℕ) (segments : List Segment) → All (PartFits span (length file)) segments → AreApart segments
    → with_segments file (plain base (by_address f span)) segments ≡ plain base (by_address (λ a. byte_or file f a (find (has_file_byte a) segments)) span)
all_segments file base span f [] fit apart = refl
all_segments file base span f (s ∷ segments) fit apart =
    let one = one_segment file base span f s (All-head (PartFits span (length file)) s segments fit) in
    let rest = all_segments file base span (over file s f) segments (All-tail (PartFits span (length file)) s segments fit) (λ i j d lt inside. apart (suc i) (suc j) d (omega (arith, lt)) (omega (arith, inside))) in
    ap (λ m. with_segments file m segments) one ∙ rest
    ∙ ap (plain base) (same_function (λ a. byte_or file (over file s f) a (find (has_file_byte a) segments)) (λ a. byte_or file f a (find (has_file_byte a) (s ∷ segments))) span (λ k lt. first_found file f s segments k apart))

-- the segments on a fresh memory
pub mapped_is : (file : List ℕ) (base span : ℕ) (segments : List Segment) → All (PartFits span (length file)) segments → AreApart segments
    → with_segments file (plain base (zeros span)) segments ≡ plain base (map (mapped_byte file segments) (numbers_between 0 span))
mapped_is file base span segments fit apart =
    let zero_bytes : zeros span ≡ by_address (λ _. 0) span = same_by_address (zeros span) (λ _. 0) span (length-replicate span 0) (λ k lt. get_or-replicate span k 0 0 lt) in
    let whole : span ≡ span - 0 = omega arith in
    ap (λ bytes. with_segments file (plain base bytes) segments) zero_bytes
    ∙ all_segments file base span (λ _. 0) segments fit apart
    ∙ ap (plain base) (same_function (λ a. byte_or file (λ _. 0) a (find (has_file_byte a) segments)) (mapped_byte file segments) span (λ k lt. known k (find (has_file_byte k) segments)))
    ∙ ap (λ n. plain base (by_address (mapped_byte file segments) n)) whole
  where
    known : (a : ℕ) (o : Option Segment) → byte_or file (λ _. 0) a o ≡ byte_in file a o
    known a None = refl
    known a (Some s) = refl
