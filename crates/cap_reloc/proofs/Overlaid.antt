-- The bytes of a memory in which pairs were stored.
use Rattle.std.proofs.Common.{◌≡◌, ℕ, suc, zero, ◌+◌, ◌-◌, ◌<◌, ◌≤◌, true, false, cond, List, [], ◌∷◌, ◌++◌, length, take, drop, slice_index, Some, None, All, refl, sym, ap, ◌∙◌, arith, ⊎_elim, min, max, length-append}
use Rattle.std.specs.Prelude.{nat_le, nat_lt, find, unwrap_or, option_map}
use Rattle.std.specs.List.{replace_range}
use Rattle.std.proofs.lemmas.Grind.{same_number_lists}
use Rattle.std.proofs.lemmas.Bool.{cases_lt, cases_Bool, lt-ltb, le-ltb, le-leb, lt-leb, leb-true, ltb-true, ltb-false, and_parts, and_from, and_left, and_right}
use Rattle.std.proofs.lemmas.List.{get_or-drop, get_or-take, get_or_append_left, get_or-append_right, length-take-le, length-drop}
use Rattle.std.proofs.lemmas.List.Elements.{All-head, All-tail}
use Rattle.cap_base.specs.Lists.{share_byte}
use Rattle.cap_mem.specs.Tagged.{TaggedMemory, IsInside, bytes_with}
use Rattle.cap_reloc.specs.Wanted.{Pair}
use Rattle.cap_reloc.specs.Planned.{interval_of}
use Rattle.cap_reloc.specs.Stored.{content_bytes, has_byte, byte_at, overlaid}

-- the byte of a pair at an address
abbrev pub byte_of : ℕ → Pair → ℕ
byte_of at p = slice_index (content_bytes p.content) (at - p.slot)

abbrev pub size_of : Pair → ℕ
size_of p = length (content_bytes p.content)

first_has : (p : Pair) (pairs : List Pair) (at byte : ℕ) → has_byte at p ≡ true → unwrap_or (byte_at (p ∷ pairs) at) byte ≡ byte_of at p
first_has p pairs at byte has = ap (λ h. unwrap_or (option_map (byte_of at) (cond h (Some p) (find (has_byte at) pairs))) byte) has

first_lacks : (p : Pair) (pairs : List Pair) (at : ℕ) → has_byte at p ≡ false → byte_at (p ∷ pairs) at ≡ byte_at pairs at
first_lacks p pairs at lacks = ap (λ h. option_map (byte_of at) (cond h (Some p) (find (has_byte at) pairs))) lacks

-- a byte is in a slot or not
pub within : (p : Pair) (at : ℕ) → p.slot ≤ at → at < p.slot + size_of p → has_byte at p ≡ true
within p at from to = and_from (nat_le p.slot at) (nat_lt at (p.slot + size_of p)) (le-leb p.slot at from) (lt-ltb at (p.slot + size_of p) to)

pub before : (p : Pair) (at : ℕ) → at < p.slot → has_byte at p ≡ false
before p at low = and_left (nat_le p.slot at) (nat_lt at (p.slot + size_of p)) (lt-leb p.slot at low)

pub behind : (p : Pair) (at : ℕ) → p.slot + size_of p ≤ at → has_byte at p ≡ false
behind p at past = and_right (nat_le p.slot at) (nat_lt at (p.slot + size_of p)) (le-ltb at (p.slot + size_of p) past)

-- a byte of a slot is in no slot that shares none with it
pub not_both : (p q : Pair) (at : ℕ) → share_byte (interval_of p) (interval_of q) ≡ false → has_byte at p ≡ true → has_byte at q ≡ false
not_both p q at apart has =
    let le = ltb-false (max p.slot q.slot) (min (p.slot + size_of p) (q.slot + size_of q)) apart in
    let parts = and_parts (nat_le p.slot at) (nat_lt at (p.slot + size_of p)) has in
    let from = leb-true p.slot at parts.0 in
    let to = ltb-true at (p.slot + size_of p) parts.1 in
    ⊎_elim
    (λ (low : at < q.slot). before q at low)
    (λ (high : q.slot ≤ at). behind q at (omega (arith, le, from, to, high)))
    (cases_lt at q.slot)

-- no slot shares a byte with another
abbrev pub AreApartFrom : Pair → List Pair → Type 0
AreApartFrom p pairs = All (λ q. share_byte (interval_of p) (interval_of q) ≡ false) pairs

none_has : (p : Pair) (pairs : List Pair) (at : ℕ) → AreApartFrom p pairs → has_byte at p ≡ true → find (has_byte at) pairs ≡ None
none_has p [] at apart has = refl
none_has p (q ∷ pairs) at apart has =
    let lacks = not_both p q at (All-head (λ (r : Pair). share_byte (interval_of p) (interval_of r) ≡ false) q pairs apart) has in
    ap (λ h. cond h (Some q) (find (has_byte at) pairs)) lacks
    ∙ none_has p pairs at (All-tail (λ (r : Pair). share_byte (interval_of p) (interval_of r) ≡ false) q pairs apart) has

-- the pairs over one that is apart from them
pub overlaid_more : (p : Pair) (pairs : List Pair) (at : ℕ) (bytes : List ℕ) → AreApartFrom p pairs → overlaid pairs at (overlaid (p ∷ []) at bytes) ≡ overlaid (p ∷ pairs) at bytes
overlaid_more p pairs at [] apart = refl
overlaid_more p pairs at (byte ∷ bytes) apart =
    ap (λ b. b ∷ overlaid pairs (at + 1) (overlaid (p ∷ []) (at + 1) bytes)) here
    ∙ ap (λ bs. unwrap_or (byte_at (p ∷ pairs) at) byte ∷ bs) (overlaid_more p pairs (at + 1) bytes apart)
  where
    here : unwrap_or (byte_at pairs at) (unwrap_or (byte_at (p ∷ []) at) byte) ≡ unwrap_or (byte_at (p ∷ pairs) at) byte
    here = ⊎_elim
        (λ (has : has_byte at p ≡ true).
        ap (λ o. unwrap_or (option_map (byte_of at) o) (unwrap_or (byte_at (p ∷ []) at) byte)) (none_has p pairs at apart has)
        ∙ first_has p [] at byte has ∙ sym (first_has p pairs at byte has))
        (λ (lacks : has_byte at p ≡ false).
        ap (λ o. unwrap_or (byte_at pairs at) (unwrap_or o byte)) (first_lacks p [] at lacks)
        ∙ ap (λ o. unwrap_or o byte) (sym (first_lacks p pairs at lacks)))
        (cases_Bool (has_byte at p))

pub overlaid_none : (at : ℕ) (bytes : List ℕ) → overlaid [] at bytes ≡ bytes
overlaid_none at [] = refl
overlaid_none at (byte ∷ bytes) = ap (λ bs. byte ∷ bs) (overlaid_none (at + 1) bytes)

pub length_overlaid : (pairs : List Pair) (at : ℕ) (bytes : List ℕ) → length (overlaid pairs at bytes) ≡ length bytes
length_overlaid pairs at [] = refl
length_overlaid pairs at (byte ∷ bytes) = ap suc (length_overlaid pairs (at + 1) bytes)

pub overlaid_at : (pairs : List Pair) (at : ℕ) (bytes : List ℕ) (k : ℕ) → k < length bytes → slice_index (overlaid pairs at bytes) k ≡ unwrap_or (byte_at pairs (at + k)) (slice_index bytes k)
overlaid_at pairs at [] k lt = absurd (omega (arith, lt))
overlaid_at pairs at (byte ∷ bytes) zero lt =
    let same : at ≡ at + 0 = omega arith in
    ap (λ a. unwrap_or (byte_at pairs a) byte) same
overlaid_at pairs at (byte ∷ bytes) (suc k) lt =
    let same : at + 1 + k ≡ at + suc k = omega arith in
    overlaid_at pairs (at + 1) bytes k (omega (arith, lt)) ∙ ap (λ a. unwrap_or (byte_at pairs a) (slice_index bytes k)) same

-- bytes in the place of others, one by one
replaced_within : (xs ys : List ℕ) (v n k : ℕ) → length ys ≡ n → v + n ≤ length xs → v ≤ k → k < v + n → slice_index (replace_range xs v (v + n) ys) k ≡ slice_index ys (k - v)
replaced_within xs ys v n k len fits low high =
    let front : length (take v xs) ≡ v = length-take-le v xs (omega (arith, fits)) in
    get_or_append_left (take v xs ++ ys) (drop (v + n) xs) 0 k (omega (arith, length-append (take v xs) ys, front, len, high))
    ∙ get_or-append_right (take v xs) ys v k 0 front low

replaced_before : (xs ys : List ℕ) (v n k : ℕ) → v + n ≤ length xs → k < v → slice_index (replace_range xs v (v + n) ys) k ≡ slice_index xs k
replaced_before xs ys v n k fits low =
    let front : length (take v xs) ≡ v = length-take-le v xs (omega (arith, fits)) in
    get_or_append_left (take v xs ++ ys) (drop (v + n) xs) 0 k (omega (arith, length-append (take v xs) ys, front, low))
    ∙ get_or_append_left (take v xs) ys 0 k (omega (arith, front, low))
    ∙ get_or-take v xs k 0 low

replaced_behind : (xs ys : List ℕ) (v n k : ℕ) → length ys ≡ n → v + n ≤ length xs → v + n ≤ k → slice_index (replace_range xs v (v + n) ys) k ≡ slice_index xs k
replaced_behind xs ys v n k len fits high =
    let front : length (take v xs) ≡ v = length-take-le v xs (omega (arith, fits)) in
    let back : v + n + (k - (v + n)) ≡ k = omega (arith, high) in
    get_or-append_right (take v xs ++ ys) (drop (v + n) xs) (v + n) k 0 (omega (arith, length-append (take v xs) ys, front, len)) high
    ∙ get_or-drop (v + n) xs (k - (v + n)) 0
    ∙ ap (λ j. slice_index xs j) back

length_replaced : (xs ys : List ℕ) (v n : ℕ) → length ys ≡ n → v + n ≤ length xs → length (replace_range xs v (v + n) ys) ≡ length xs
length_replaced xs ys v n len fits =
    let front : length (take v xs) ≡ v = length-take-le v xs (omega (arith, fits)) in
    omega (arith, length-append (take v xs ++ ys) (drop (v + n) xs), length-append (take v xs) ys, front, len, length-drop (v + n) xs, fits)

-- a store of a pair's bytes lays them over the others
pub stored_bytes : (memory : TaggedMemory) (p : Pair) → IsInside memory p.slot (size_of p) → bytes_with memory p.slot (content_bytes p.content) ≡ overlaid (p ∷ []) memory.base memory.bytes
stored_bytes memory p inside =
    same_number_lists (replace_range memory.bytes v (v + size_of p) (content_bytes p.content)) (overlaid (p ∷ []) memory.base memory.bytes)
    (length_replaced memory.bytes (content_bytes p.content) v (size_of p) refl fits ∙ sym (length_overlaid (p ∷ []) memory.base memory.bytes))
    (λ k lt. one k (omega (arith, lt, length_replaced memory.bytes (content_bytes p.content) v (size_of p) refl fits)))
  where
    v : ℕ
    v = p.slot - memory.base

    fits : v + size_of p ≤ length memory.bytes
    fits = omega (arith, inside.from, inside.to)

    one : (k : ℕ) → k < length memory.bytes → slice_index (replace_range memory.bytes v (v + size_of p) (content_bytes p.content)) k ≡ slice_index (overlaid (p ∷ []) memory.base memory.bytes) k
    one k lt = ⊎_elim
        (λ (low : k < v).
        replaced_before memory.bytes (content_bytes p.content) v (size_of p) k fits low
        ∙ ap (λ o. unwrap_or o (slice_index memory.bytes k)) (sym (first_lacks p [] (memory.base + k) (before p (memory.base + k) (omega (arith, low, inside.from))))))
        (λ (from : v ≤ k). ⊎_elim
        (λ (to : k < v + size_of p).
        let place : k - v ≡ memory.base + k - p.slot = omega (arith, inside.from, from) in
        replaced_within memory.bytes (content_bytes p.content) v (size_of p) k refl fits from to
        ∙ ap (slice_index (content_bytes p.content)) place
        ∙ sym (first_has p [] (memory.base + k) (slice_index memory.bytes k) (within p (memory.base + k) (omega (arith, from, inside.from)) (omega (arith, to, inside.from)))))
        (λ (past : v + size_of p ≤ k).
        replaced_behind memory.bytes (content_bytes p.content) v (size_of p) k refl fits past
        ∙ ap (λ o. unwrap_or o (slice_index memory.bytes k)) (sym (first_lacks p [] (memory.base + k) (behind p (memory.base + k) (omega (arith, past, inside.from))))))
        (cases_lt k (v + size_of p)))
        (cases_lt k v)
        ∙ sym (overlaid_at (p ∷ []) memory.base memory.bytes k lt)
