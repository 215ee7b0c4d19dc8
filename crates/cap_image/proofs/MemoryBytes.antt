-- The bytes of an image, part by part.
use Rattle.std.proofs.Common.{◌≡◌, ℕ, suc, ◌+◌, ◌<◌, ◌≤◌, zero, ◌^◌, Bool, false, List, [], ◌∷◌, ◌++◌, length, map, take, get_or, refl, sym, ap, ◌∙◌, arith, append_assoc, append-nil}
use Rattle.std.specs.Prelude.{All, flat_map}
use Rattle.std.specs.List.{zip}
use Rattle.std.proofs.lemmas.List.{length-map, take_all}
use Rattle.std.proofs.lemmas.List.Elements.{All-map}
use Rattle.std.proofs.lemmas.Slice.Zip.{get_or-zip, length-zip, seconds-zip}
use Rattle.cap_mem.specs.Tagged.{TaggedMemory, TaggedWord}
use Rattle.cap_image.specs.declared.header.Version.TheVariants.{Two}
use Rattle.cap_image.specs.declared.word_walk.FoundWord.{FoundWord}
use Rattle.cap_image.specs.WordWalk.{founds_of, found_of}
use Rattle.cap_image.specs.Writing.{field_bytes, header_bytes, object_record, object_bytes, word_bytes, words_bytes, body_bytes, image_bytes, record_of, records_of, object_of, image_of, HasSymbol}
use Rattle.cap_mem.specs.Ascending.{Ascend}
use Rattle.cap_image.proofs.Growing.{flat_map_more}
use Rattle.cap_image.specs.MemoryParts.{record_found, founds_bytes, HasItsSymbol, HaveSymbols, EndsLow, record_for, body_for, records_below, bodies_below}

-- one word more
pub founds_more : (symbols : List (List (List ℕ × Bool))) (text : List ℕ) (f : FoundWord) (fs : List FoundWord)
    → text ++ founds_bytes symbols (f ∷ fs) ≡ (text ++ word_bytes (record_found symbols f)) ++ founds_bytes symbols fs
unfolding founds_bytes
founds_more symbols text f fs = sym (append_assoc text (word_bytes (record_found symbols f)) (flat_map (λ f. word_bytes (record_found symbols f)) fs))

-- no word is left
pub founds_none : (symbols : List (List (List ℕ × Bool))) (text : List ℕ) → text ++ founds_bytes symbols [] ≡ text
unfolding founds_bytes
founds_none symbols text = append-nil text

founds_same : (symbols : List (List (List ℕ × Bool))) (ws : List TaggedWord) → flat_map (λ f. word_bytes (record_found symbols f)) (founds_of ws) ≡ flat_map word_bytes (map (record_of symbols) ws)
founds_same symbols [] = refl
founds_same symbols (w ∷ ws) = ap (λ xs. word_bytes (record_of symbols w) ++ xs) (founds_same symbols ws)

-- how many words there are, and their records
pub words_are : (symbols : List (List (List ℕ × Bool))) (text : List ℕ) (ws : List TaggedWord)
    → text ++ words_bytes Two (records_of symbols ws) ≡ (text ++ field_bytes 4 (length ws)) ++ founds_bytes symbols (founds_of ws)
unfolding words_bytes founds_bytes records_of
words_are symbols text ws =
    ap (λ (n : ℕ). text ++ (field_bytes 4 n ++ flat_map word_bytes (map (record_of symbols) ws))) (length-map ws (record_of symbols))
    ∙ sym (append_assoc text (field_bytes 4 (length ws)) (flat_map word_bytes (map (record_of symbols) ws)))
    ∙ ap (λ xs. (text ++ field_bytes 4 (length ws)) ++ xs) (sym (founds_same symbols ws))

-- the words that a walk finds have their symbols
pub founds_have : (symbols : List (List (List ℕ × Bool))) (ws : List TaggedWord) → All (λ w. HasSymbol symbols w.cap.owner w.note) ws → HaveSymbols symbols (founds_of ws)
unfolding HaveSymbols
founds_have symbols ws h = All-map (HasItsSymbol symbols) found_of ws h

pub next_has : (symbols : List (List (List ℕ × Bool))) (f : FoundWord) (fs : List FoundWord) → HaveSymbols symbols (f ∷ fs) → HasItsSymbol symbols f
unfolding HaveSymbols
next_has symbols f fs h = h 0 f (omega arith)

pub rest_have : (symbols : List (List (List ℕ × Bool))) (f : FoundWord) (fs : List FoundWord) → HaveSymbols symbols (f ∷ fs) → HaveSymbols symbols fs
unfolding HaveSymbols
rest_have symbols f fs h = λ k d l. h (suc k) d (omega (arith, l))

-- no memory, and one more
pub records_none : (text : List ℕ) (names : List (List ℕ × Bool)) (memories : List TaggedMemory) → text ++ records_below names memories 0 ≡ text
unfolding records_below
records_none text names memories = append-nil text

pub records_more : (text : List ℕ) (names : List (List ℕ × Bool)) (memories : List TaggedMemory) (n m : ℕ) (memory : TaggedMemory)
    → m ≡ n + 1 → n < length names → n < length memories → memory ≡ get_or memories n memory
    → text ++ records_below names memories m ≡ (text ++ records_below names memories n) ++ object_record memory.base (length memory.bytes) (get_or names n ([], false)).0
unfolding records_below record_for
records_more text names memories n m memory next of within is =
    let both : n < length (zip names memories) = omega (arith, length-zip names memories, of, within) in
    let here : get_or (zip names memories) n (([], false), memory) ≡ (get_or names n ([], false), memory) =
    get_or-zip names memories n (([], false), memory) of within ∙ ap (λ (v : TaggedMemory). (get_or names n ([], false), v)) (sym is) in
    ap (λ (k : ℕ). text ++ flat_map record_for (take k (zip names memories))) next
    ∙ ap (λ xs. text ++ xs) (flat_map_more record_for (zip names memories) n (([], false), memory) both)
    ∙ ap (λ (of : (List ℕ × Bool) × TaggedMemory). text ++ (flat_map record_for (take n (zip names memories)) ++ record_for of)) here
    ∙ sym (append_assoc text (flat_map record_for (take n (zip names memories))) (record_for (get_or names n ([], false), memory)))

pub bodies_none : (text : List ℕ) (symbols : List (List (List ℕ × Bool))) (memories : List TaggedMemory) → text ++ bodies_below symbols memories 0 ≡ text
unfolding bodies_below
bodies_none text symbols memories = append-nil text

pub bodies_more : (text : List ℕ) (symbols : List (List (List ℕ × Bool))) (memories : List TaggedMemory) (n m : ℕ) (memory : TaggedMemory)
    → m ≡ n + 1 → n < length memories → memory ≡ get_or memories n memory
    → text ++ bodies_below symbols memories m ≡ (text ++ bodies_below symbols memories n) ++ body_for symbols memory
unfolding bodies_below
bodies_more text symbols memories n m memory next within is =
    ap (λ (k : ℕ). text ++ flat_map (body_for symbols) (take k memories)) next
    ∙ ap (λ xs. text ++ xs) (flat_map_more (body_for symbols) memories n memory within)
    ∙ ap (λ (v : TaggedMemory). text ++ (flat_map (body_for symbols) (take n memories) ++ body_for symbols v)) (sym is)
    ∙ sym (append_assoc text (flat_map (body_for symbols) (take n memories)) (body_for symbols memory))

-- memories that ascend up to a limit end below it
widened : (from : ℕ) (memories : List TaggedMemory) (limit : ℕ) → Ascend from memories limit → from ≤ limit
widened from [] limit h = h
widened from (m ∷ ms) limit h = let later : m.base + length m.bytes ≤ limit = widened (m.base + length m.bytes) ms limit h.1 in omega (arith, h.0, later)

pub ends_low : (memories : List TaggedMemory) (from : ℕ) → Ascend from memories (2 ^ 64) → All EndsLow memories
ends_low [] from h = λ k d l. absurd (omega (arith, l))
ends_low (m ∷ ms) from h = all (widened (m.base + length m.bytes) ms (2 ^ 64) h.1) (ends_low ms (m.base + length m.bytes) h.1)
  where
    all : m.base + length m.bytes ≤ 2 ^ 64 → All EndsLow ms → All EndsLow (m ∷ ms)
    all low rest zero d l = record { end = low }
    all low rest (suc k) d l = rest k d (omega (arith, l))

records_same : (symbols : List (List (List ℕ × Bool))) (pairs : List ((List ℕ × Bool) × TaggedMemory)) → flat_map object_bytes (map (object_of symbols) pairs) ≡ flat_map record_for pairs
unfolding record_for
records_same symbols [] = refl
records_same symbols (p ∷ ps) = ap (λ xs. object_bytes (object_of symbols p) ++ xs) (records_same symbols ps)

bodies_same : (symbols : List (List (List ℕ × Bool))) (pairs : List ((List ℕ × Bool) × TaggedMemory)) → flat_map (body_bytes Two) (map (object_of symbols) pairs) ≡ flat_map (body_for symbols) (map (λ (p : (List ℕ × Bool) × TaggedMemory). p.1) pairs)
unfolding body_bytes body_for
bodies_same symbols [] = refl
bodies_same symbols (p ∷ ps) = ap (λ xs. body_for symbols p.1 ++ xs) (bodies_same symbols ps)

-- the image, part by part
pub image_is : (names : List (List ℕ × Bool)) (symbols : List (List (List ℕ × Bool))) (memories : List TaggedMemory) → length names ≡ length memories
    → image_bytes (image_of names symbols memories) ≡ (header_bytes Two (length memories) ++ records_below names memories (length memories)) ++ bodies_below symbols memories (length memories)
unfolding image_bytes records_below bodies_below
image_is names symbols memories same =
    let count : length (zip names memories) ≡ length memories = omega (arith, length-zip names memories, same) in
    let objects : length (map (object_of symbols) (zip names memories)) ≡ length memories = length-map (zip names memories) (object_of symbols) ∙ count in
    let all_pairs : take (length memories) (zip names memories) ≡ zip names memories = take_all (length memories) (zip names memories) (omega (arith, count)) in
    let all_memories : take (length memories) memories ≡ memories = take_all (length memories) memories (omega arith) in
    let records = records_same symbols (zip names memories) ∙ ap (flat_map record_for) (sym all_pairs) in
    let bodies = bodies_same symbols (zip names memories) ∙ ap (flat_map (body_for symbols)) (seconds-zip names memories (sym same) ∙ sym all_memories) in
    ap (λ (n : ℕ). (header_bytes Two n ++ flat_map object_bytes (map (object_of symbols) (zip names memories))) ++ flat_map (body_bytes Two) (map (object_of symbols) (zip names memories))) objects
    ∙ ap (λ xs. (header_bytes Two (length memories) ++ xs) ++ flat_map (body_bytes Two) (map (object_of symbols) (zip names memories))) records
    ∙ ap (λ xs. (header_bytes Two (length memories) ++ flat_map record_for (take (length memories) (zip names memories))) ++ xs) bodies
