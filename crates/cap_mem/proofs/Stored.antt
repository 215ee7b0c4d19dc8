-- The words in the bytes, and the capabilities that they are.
use Rattle.std.proofs.Common.{◌≡◌, ℕ, suc, zero, ◌+◌, ◌-◌, ◌*◌, ◌<◌, ◌≤◌, ◌^◌, Bool, true, false, List, [], ◌∷◌, ◌++◌, length, take, drop, refl, ap, sym, ◌∙◌, arith, nat_eq, ⊎_elim, subst, slice_index, min, max, inl, inr, append_assoc, length-append}
use Rattle.std.specs.Prelude.{◌≢◌, ◌⊎◌}
use Rattle.std.specs.List.{replace_range}
use Rattle.std.proofs.lemmas.Bool.{cases_lt}
use Rattle.std.proofs.lemmas.Bool.Decides.{eqb_tells}
use Rattle.std.proofs.lemmas.List.{get_or-drop, get_or-take, get_or_append_left, get_or-append_right, length-take-le, length-drop}
use Rattle.std.proofs.Math.Seq.{drop-append_seam}
use Rattle.byteorder.specs.Endian.{little_from}
use Rattle.byteorder.specs.Numbers.{little_number-reads_back, length-bytes_low_first}
use Rattle.cap_base.specs.Field.{number_at, number_bytes}
use Rattle.cap_conc.specs.declared.word.Word.{Word}
use Rattle.cap_conc.specs.Computed.{fields_of}
use Rattle.cap_own.specs.Cap.{Cap, Grant, IsGrant, object_type, word_of_cap, fields_of_cap}
use Rattle.cap_mem.specs.Tagged.{word_in, word_bytes, is_touched}
use Rattle.cap_mem.specs.Held.{fields_in, cap_of_fields, cap_in, IsCapAt, HasStored, AreCaps, words_of}
use Rattle.cap_mem.specs.Chain.{has, without, with_before}
use Rattle.cap_mem.proofs.Chains.{Yes, No}
use Rattle.cap_mem.proofs.Granules.{In, Out, lt_tells, word}
use Rattle.cap_mem.proofs.Tags.{has_gone, has_kept, has_put}

-- a number in bytes depends on its own bytes alone
little_same : (n i : ℕ) (xs ys : List ℕ) → ((k : ℕ) → i ≤ k → k < i + n → slice_index xs k ≡ slice_index ys k) → little_from i n xs ≡ little_from i n ys
little_same zero i xs ys h = refl
little_same (suc n) i xs ys h =
    let first = h i (omega arith) (omega arith) in
    let rest = little_same n (suc i) xs ys (λ k lo hi. h k (omega (arith, lo)) (omega (arith, hi))) in
    cc

number_same : (n at : ℕ) (xs ys : List ℕ) → ((k : ℕ) → at ≤ k → k < at + n → slice_index xs k ≡ slice_index ys k) → number_at n xs at ≡ number_at n ys at
number_same n at xs ys h = little_same n 0 (drop at xs) (drop at ys)
    (λ k lo hi. get_or-drop at xs k 0 ∙ h (at + k) (omega arith) (omega (arith, hi)) ∙ sym (get_or-drop at ys k 0))

abbrev word_from : ℕ → ℕ → Word
word_from address meta = record { address = address; meta = meta }

word_same : (at : ℕ) (xs ys : List ℕ) → ((k : ℕ) → at ≤ k → k < at + 16 → slice_index xs k ≡ slice_index ys k) → word_in xs at ≡ word_in ys at
word_same at xs ys h =
    let address : number_at 8 xs at ≡ number_at 8 ys at = number_same 8 at xs ys (λ k lo hi. h k lo (omega (arith, hi))) in
    let meta : number_at 8 xs (at + 8) ≡ number_at 8 ys (at + 8) = number_same 8 (at + 8) xs ys (λ k lo hi. h k (omega (arith, lo)) (omega (arith, hi))) in
    ap (λ a. word_from a (number_at 8 xs (at + 8))) address ∙ ap (word_from (number_at 8 ys at)) meta

-- bytes outside a range stay where bytes are put in its place
replaced_same : (xs ys : List ℕ) (o n k : ℕ) → length ys ≡ n → o + n ≤ length xs → (k < o) ⊎ (o + n ≤ k) → slice_index (replace_range xs o (o + n) ys) k ≡ slice_index xs k
replaced_same xs ys o n k len fits (inl low) =
    let front : length (take o xs) ≡ o = length-take-le o xs (omega (arith, fits)) in
    get_or_append_left (take o xs ++ ys) (drop (o + n) xs) 0 k (omega (arith, length-append (take o xs) ys, front, low))
    ∙ get_or_append_left (take o xs) ys 0 k (omega (arith, front, low))
    ∙ get_or-take o xs k 0 low
replaced_same xs ys o n k len fits (inr high) =
    let front : length (take o xs) ≡ o = length-take-le o xs (omega (arith, fits)) in
    let back : o + n + (k - (o + n)) ≡ k = omega (arith, high) in
    get_or-append_right (take o xs ++ ys) (drop (o + n) xs) (o + n) k 0 (omega (arith, length-append (take o xs) ys, front, len)) high
    ∙ get_or-drop (o + n) xs (k - (o + n)) 0
    ∙ ap (λ j. slice_index xs j) back

pub length_replaced : (xs ys : List ℕ) (o n : ℕ) → length ys ≡ n → o + n ≤ length xs → length (replace_range xs o (o + n) ys) ≡ length xs
length_replaced xs ys o n len fits =
    let front : length (take o xs) ≡ o = length-take-le o xs (omega (arith, fits)) in
    omega (arith, length-append (take o xs ++ ys) (drop (o + n) xs), length-append (take o xs) ys, front, len, length-drop (o + n) xs, fits)

-- a granule that a store doesn't touch has its bytes outside
outside : (base at len g k : ℕ) → base ≤ at → is_touched at len (base + 16 * g) ≡ false → 16 * g ≤ k → k < 16 * g + 16 → (k < at - base) ⊎ (at - base + len ≤ k)
outside base at len g k from free lo hi = ⊎_elim
    (λ (i : In (max at (base + 16 * g)) (min (at + len) (base + 16 * g + 16))). let yes = i.0 in absurd (cc))
    (λ (o : Out (max at (base + 16 * g)) (min (at + len) (base + 16 * g + 16))). ⊎_elim
    (λ (b : k < at - base). inl b)
    (λ (b : at - base ≤ k). inr (omega (arith, o.1, b, from, lo, hi)))
    (cases_lt k (at - base)))
    (lt_tells (max at (base + 16 * g)) (min (at + len) (base + 16 * g + 16)))

word_kept : (xs ys : List ℕ) (base at len g : ℕ) → length ys ≡ len → base ≤ at → at - base + len ≤ length xs → is_touched at len (base + 16 * g) ≡ false
    → word_in (replace_range xs (at - base) (at - base + len) ys) (16 * g) ≡ word_in xs (16 * g)
word_kept xs ys base at len g is from fits free =
    word_same (16 * g) (replace_range xs (at - base) (at - base + len) ys) xs (λ k lo hi. replaced_same xs ys (at - base) len k is fits (outside base at len g k from free lo hi))

-- the same word is the same capability
fields_same : (xs ys : List ℕ) (at : ℕ) → word_in xs at ≡ word_in ys at → fields_in xs at ≡ fields_in ys at
unfolding fields_in
fields_same xs ys at e = ap fields_of e

pub cap_same : (xs ys : List ℕ) (at owner : ℕ) → word_in xs at ≡ word_in ys at → cap_in xs at owner ≡ cap_in ys at owner
cap_same xs ys at owner e = ap (λ f. cap_of_fields f owner) (fields_same xs ys at e)

IsCapAt-same : (xs ys : List ℕ) (at owner : ℕ) → word_in xs at ≡ word_in ys at → IsCapAt ys at owner → IsCapAt xs at owner
IsCapAt-same xs ys at owner e h =
    let cap = sym (cap_same xs ys at owner e) in
    record {
      bytes_are = e ∙ h.bytes_are ∙ ap word_of_cap cap;
      root = h.root;
      granted = subst (λ (c : Cap). IsGrant (record { root = h.root; cap = c })) cap h.granted;
    }

-- no granule of the chain is touched
abbrev pub AreFree : ℕ → ℕ → ℕ → ℕ → List ℕ → Type 0
AreFree base at len size chain = (g : ℕ) → g < size → has g chain ≡ true → is_touched at len (base + 16 * g) ≡ false

-- so each has its capability after a store as before
pub caps_kept : (xs ys : List ℕ) (owners : ℕ → ℕ) (base at len size : ℕ) (chain : List ℕ) → length ys ≡ len → base ≤ at → at - base + len ≤ length xs
    → AreFree base at len size chain → AreCaps xs owners size chain → AreCaps (replace_range xs (at - base) (at - base + len) ys) owners size chain
caps_kept xs ys owners base at len size chain is from fits free caps g below stands =
    IsCapAt-same (replace_range xs (at - base) (at - base + len) ys) xs (16 * g) (owners g) (word_kept xs ys base at len g is from fits (free g below stands)) (caps g below stands)

words_equal : (base size : ℕ) (caps caps' : ℕ → Cap) (nt : ℕ → ℕ) (chain : List ℕ) → ((g : ℕ) → g < size → has g chain ≡ true → caps' g ≡ caps g)
    → words_of base size caps' nt chain ≡ words_of base size caps nt chain
words_equal base size caps caps' nt [] h = refl
words_equal base size caps caps' nt (x ∷ xs) h = ⊎_elim
    (λ (i : In x size).
    let here : caps' x ≡ caps x = h x i.1 (first x xs) in
    let rest = words_equal base size caps caps' nt xs (λ g below stands. h g below (later g x xs stands)) in
    rw i.0 (ap (λ c. (record { granule = base + 16 * x; cap = c; note = nt x }) ∷ words_of base size caps' nt xs) here ∙ ap (λ ws. word base caps nt x ∷ ws) rest))
    (λ (o : Out x size). rw o.0 (words_equal base size caps caps' nt xs (λ g below stands. h g below (later g x xs stands))))
    (lt_tells x size)
  where
    first : (x : ℕ) (xs : List ℕ) → has x (x ∷ xs) ≡ true
    first x xs = ⊎_elim (λ (q : Yes x x). rw q.0 refl) (λ (q : No x x). absurd (q.1 refl)) (eqb_tells x x)

    later : (g x : ℕ) (xs : List ℕ) → has g xs ≡ true → has g (x ∷ xs) ≡ true
    later g x xs s = ⊎_elim (λ (q : Yes x g). rw q.0 refl) (λ (q : No x g). rw q.0 s) (eqb_tells x g)

pub words_kept : (xs ys : List ℕ) (owners nt : ℕ → ℕ) (base at len size : ℕ) (chain : List ℕ) → length ys ≡ len → base ≤ at → at - base + len ≤ length xs
    → AreFree base at len size chain
    → words_of base size (λ g. cap_in (replace_range xs (at - base) (at - base + len) ys) (16 * g) (owners g)) nt chain ≡ words_of base size (λ g. cap_in xs (16 * g) (owners g)) nt chain
words_kept xs ys owners nt base at len size chain is from fits free =
    words_equal base size (λ g. cap_in xs (16 * g) (owners g)) (λ g. cap_in (replace_range xs (at - base) (at - base + len) ys) (16 * g) (owners g)) nt chain
    (λ g below stands. cap_same (replace_range xs (at - base) (at - base + len) ys) xs (16 * g) (owners g) (word_kept xs ys base at len g is from fits (free g below stands)))

-- the granules that stay hold what they held
pub caps_without : (bytes : List ℕ) (owners : ℕ → ℕ) (size g : ℕ) (chain : List ℕ) → AreCaps bytes owners size chain → AreCaps bytes owners size (without g chain)
caps_without bytes owners size g chain caps k below stands = ⊎_elim
    (λ (q : Yes k g). let gone = has_gone g chain in let here = rw q.1 at stands in absurd (cc))
    (λ (q : No k g). caps k below (sym (has_kept k g chain q.1) ∙ stands))
    (eqb_tells k g)

-- with one more granule, which holds a capability that was stored there
pub caps_before : (bytes : List ℕ) (owners owners' : ℕ → ℕ) (size g s : ℕ) (chain : List ℕ) (derived : Grant) → has s chain ≡ true
    → ((k : ℕ) → k ≢ g → owners' k ≡ owners k) → owners' g ≡ derived.cap.owner → HasStored bytes (16 * g) derived.cap → IsGrant derived
    → AreCaps bytes owners size chain → AreCaps bytes owners' size (with_before g s chain)
caps_before bytes owners owners' size g s chain derived mark others own stored granted caps k below stands = ⊎_elim
    (λ (q : Yes k g).
    let e : owners' k ≡ derived.cap.owner = ap owners' q.1 ∙ own in
    rw (q.1, own) (record {
      bytes_are = stored.bytes_are ∙ ap word_of_cap (sym stored.decodes);
      root = derived.root;
      granted = subst (λ (c : Cap). IsGrant (record { root = derived.root; cap = c })) (sym stored.decodes) granted;
    }))
    (λ (q : No k g).
    let here : has k chain ≡ true = rw q.0 at (sym (has_put k g s chain mark) ∙ stands) in
    subst (λ (o : ℕ). IsCapAt bytes (16 * k) o) (sym (others k q.1)) (caps k below here))
    (eqb_tells k g)

-- the word that was put there reads back
drop_front : (xs ys zs : List ℕ) (o : ℕ) → o ≤ length xs → drop o ((take o xs ++ ys) ++ zs) ≡ ys ++ zs
drop_front xs ys zs o fits =
    let front : length (take o xs) ≡ o = length-take-le o xs fits in
    ap (drop o) (append_assoc (take o xs) ys zs) ∙ ap (λ n. drop n (take o xs ++ (ys ++ zs))) (sym front) ∙ drop-append_seam (take o xs) (ys ++ zs)

drop_more : (xs ys us zs : List ℕ) (o n : ℕ) → o ≤ length xs → length ys ≡ n → drop (o + n) ((take o xs ++ (ys ++ us)) ++ zs) ≡ us ++ zs
drop_more xs ys us zs o n fits len =
    let front : length (take o xs) ≡ o = length-take-le o xs fits in
    let both : length (take o xs ++ ys) ≡ o + n = omega (arith, length-append (take o xs) ys, front, len) in
    ap (λ l. drop (o + n) (l ++ zs)) (sym (append_assoc (take o xs) ys us)) ∙ ap (drop (o + n)) (append_assoc (take o xs ++ ys) us zs)
    ∙ ap (λ m. drop m ((take o xs ++ ys) ++ (us ++ zs))) (sym both) ∙ drop-append_seam (take o xs ++ ys) (us ++ zs)

pub length_word_bytes : (w : Word) → length (word_bytes w) ≡ 16
length_word_bytes w = omega (arith, length-append (number_bytes 8 w.address) (number_bytes 8 w.meta), length-bytes_low_first 0 8 w.address, length-bytes_low_first 0 8 w.meta)

pub reads_back : (xs : List ℕ) (o : ℕ) (w : Word) → o ≤ length xs → w.address < 2 ^ 64 → w.meta < 2 ^ 64 → word_in (replace_range xs o (o + 16) (word_bytes w)) o ≡ w
reads_back xs o w fits small_address small_meta =
    let rest : List ℕ = drop (o + 16) xs in
    let address : number_at 8 (replace_range xs o (o + 16) (word_bytes w)) o ≡ w.address =
    ap (little_from 0 8) (drop_front xs (word_bytes w) (drop (o + 16) xs) o fits ∙ append_assoc (number_bytes 8 w.address) (number_bytes 8 w.meta) (drop (o + 16) xs))
    ∙ little_number-reads_back 8 w.address (number_bytes 8 w.meta ++ drop (o + 16) xs) small_address in
    let meta : number_at 8 (replace_range xs o (o + 16) (word_bytes w)) (o + 8) ≡ w.meta =
    ap (little_from 0 8) (drop_more xs (number_bytes 8 w.address) (number_bytes 8 w.meta) (drop (o + 16) xs) o 8 fits (length-bytes_low_first 0 8 w.address))
    ∙ little_number-reads_back 8 w.meta (drop (o + 16) xs) small_meta in
    ap (λ a. word_from a (number_at 8 (replace_range xs o (o + 16) (word_bytes w)) (o + 8))) address ∙ ap (word_from w.address) meta

-- and decodes to the capability
abbrev cap_from : ℕ → ℕ → ℕ → ℕ → Bool → Bool → ℕ → Cap
cap_from base len cursor perms flag sealed owner = record { base = base; len = len; cursor = cursor; perms = perms; flag = flag; sealed = sealed; owner = owner }

seal_is : (sealed : Bool) → nat_eq (object_type sealed) 262142 ≡ sealed
seal_is true = refl
seal_is false = refl

cap_is : (cap : Cap) → cap_of_fields (fields_of_cap cap) cap.owner ≡ cap
cap_is cap =
    let len : cap.base + cap.len - cap.base ≡ cap.len = omega arith in
    ap (λ n. cap_from cap.base n cap.cursor cap.perms cap.flag (nat_eq (object_type cap.sealed) 262142) cap.owner) len
    ∙ ap (λ s. cap_from cap.base cap.len cap.cursor cap.perms cap.flag s cap.owner) (seal_is cap.sealed)

fields_at : (bytes : List ℕ) (at : ℕ) (w : Word) → word_in bytes at ≡ w → fields_in bytes at ≡ fields_of w
unfolding fields_in
fields_at bytes at w e = ap fields_of e

pub stored_word : (xs ys : List ℕ) (o len : ℕ) (w : Word) (cap : Cap) → ys ≡ word_bytes w → len ≡ 16 → o ≤ length xs → w.address < 2 ^ 64 → w.meta < 2 ^ 64
    → w ≡ word_of_cap cap → fields_of w ≡ fields_of_cap cap → HasStored (replace_range xs o (o + len) ys) o cap
stored_word xs ys o len w cap is size fits small_address small_meta word fields =
    let back : word_in (replace_range xs o (o + len) ys) o ≡ w =
    ap (λ bs. word_in (replace_range xs o (o + len) bs) o) is ∙ ap (λ n. word_in (replace_range xs o (o + n) (word_bytes w)) o) size ∙ reads_back xs o w fits small_address small_meta in
    record {
      bytes_are = back ∙ word;
      decodes = ap (λ f. cap_of_fields f cap.owner) (fields_at (replace_range xs o (o + len) ys) o w back ∙ fields) ∙ cap_is cap;
    }
