-- The calls of an object and of all objects, one more at a time.
use Rattle.std.proofs.Common.{◌≡◌, ℕ, ◌+◌, ◌-◌, ◌*◌, ◌/◌, ◌<◌, ◌≤◌, List, [], ◌∷◌, ◌++◌, length, get_or, drop, refl, sym, ap, ◌∙◌, arith, append_assoc}
use Rattle.std.specs.Prelude.{map, flat_map}
use Rattle.std.specs.List.{range_with_len}
use Rattle.std.proofs.lemmas.List.{append-nil, drop_all, drop_more, flat_map_more, get_or_default, get_or-map, length-map}
use Rattle.std.proofs.lemmas.List.FromFn.{map-range_with_len_more}
use Rattle.cap_elf.specs.DynView.{DynRecords, DynValue}
use Rattle.cap_mem.specs.Tagged.{TaggedMemory, fresh_memory, tagged_word}
use Rattle.cap_scope.specs.Chosen.{object_at, no_records}
use Rattle.cap_init.specs.declared.call.Call.{Call}
use Rattle.cap_init.specs.Calls.{calls_in, calls_of, found_call, memory_at}
use Rattle.cap_init.specs.Listing.{calls_below}

pub calls_none : (number : ℕ) (object : DynRecords) (memory : TaggedMemory) → calls_below number object memory 0 ≡ []
unfolding calls_below
calls_none number object memory = refl

pub calls_more : (number : ℕ) (object : DynRecords) (memory : TaggedMemory) (n : ℕ) → calls_below number object memory (n + 1) ≡ calls_below number object memory n ++ found_call number (tagged_word memory (memory.base + object.arrays.init_at + 16 * n))
unfolding calls_below
calls_more number object memory n =
    let f : ℕ → List Call = λ g. found_call number (tagged_word memory g) in
    let at : ℕ → ℕ = λ k. memory.base + object.arrays.init_at + 16 * k in
    ap (flat_map f) (map-range_with_len_more at 0 n n (omega arith))
    ∙ sym (flat_map_more f [] (map at (range_with_len 0 n)) (at n))

pub calls_all : (number : ℕ) (object : DynRecords) (memory : TaggedMemory) → calls_below number object memory (object.arrays.init_size / 16) ≡ calls_in number object memory
unfolding calls_below
calls_all number object memory =
    let n : ℕ = object.arrays.init_size / 16 in
    let whole : n ≡ n - 0 = omega arith in
    ap (λ m. flat_map (λ g. found_call number (tagged_word memory g)) (map (λ k. memory.base + object.arrays.init_at + 16 * k) (range_with_len 0 m))) whole

-- the calls of one object more
pub objects_more : (objects : List DynRecords) (memories : List TaggedMemory) (order : List ℕ) (k i : ℕ) (calls more total : List Call)
    → k < length order → i ≡ get_or order k 0 → more ≡ calls ++ calls_in i (object_at objects i) (memory_at memories i)
    → calls ++ calls_of objects memories (drop k order) ≡ total → more ++ calls_of objects memories (drop (k + 1) order) ≡ total
objects_more objects memories order k i calls more total lt is more_is so_far =
    let rest : List Call = calls_of objects memories (drop (k + 1) order) in
    let one : List Call = calls_in i (object_at objects i) (memory_at memories i) in
    let front : drop k order ≡ i ∷ drop (k + 1) order = drop_more order k 0 lt ∙ ap (λ j. j ∷ drop (k + 1) order) (sym is) in
    ap (λ m. m ++ rest) more_is ∙ append_assoc calls one rest ∙ ap (λ r. calls ++ r) (sym (ap (calls_of objects memories) front)) ∙ so_far

pub objects_done : (objects : List DynRecords) (memories : List TaggedMemory) (order : List ℕ) (k : ℕ) (calls total : List Call) → length order ≤ k → calls ++ calls_of objects memories (drop k order) ≡ total → calls ≡ total
objects_done objects memories order k calls total past so_far = sym (append-nil calls) ∙ sym (ap (λ o. calls ++ calls_of objects memories o) (drop_all k order past)) ∙ so_far

count_is : (objects : List DynValue) (memories : List TaggedMemory) → map (λ m. length m.bytes) memories ≡ map (λ o. o.records.span) objects → length memories ≡ length objects
count_is objects memories spans = sym (length-map memories (λ m. length m.bytes)) ∙ ap length spans ∙ length-map objects (λ o. o.records.span)

-- the memory of an object, by its number
pub memory_is : (objects : List DynValue) (memories : List TaggedMemory) (i : ℕ) (m : TaggedMemory) → map (λ m. length m.bytes) memories ≡ map (λ o. o.records.span) objects → i < length objects → m ≡ get_or memories i m → memory_at memories i ≡ m
memory_is objects memories i m spans lt m_is = get_or_default memories i (fresh_memory 0 0) m (omega (arith, count_is objects memories spans, lt)) ∙ sym m_is

-- it has the object's span
pub span_is : (objects : List DynValue) (memories : List TaggedMemory) (i : ℕ) (o : DynValue) (m : TaggedMemory) → map (λ m. length m.bytes) memories ≡ map (λ o. o.records.span) objects → i < length objects → o ≡ get_or objects i o → m ≡ get_or memories i m → length m.bytes ≡ o.records.span
span_is objects memories i o m spans lt o_is m_is =
    let count = count_is objects memories spans in
    let left : get_or (map (λ m. length m.bytes) memories) i 0 ≡ length m.bytes = get_or-map (λ m. length m.bytes) memories i m 0 (omega (arith, count, lt)) ∙ ap (λ m. length m.bytes) (sym m_is) in
    let right : get_or (map (λ o. o.records.span) objects) i 0 ≡ o.records.span = get_or-map (λ o. o.records.span) objects i o 0 lt ∙ ap (λ o. o.records.span) (sym o_is) in
    sym left ∙ ap (λ s. get_or s i 0) spans ∙ right

-- an object among the records, by its number
pub records_are : (objects : List DynValue) (i : ℕ) (o : DynValue) → i < length objects → o ≡ get_or objects i o → object_at (map (λ o. o.records) objects) i ≡ o.records
records_are objects i o lt o_is = get_or-map (λ o. o.records) objects i o no_records lt ∙ ap (λ o. o.records) (sym o_is)
