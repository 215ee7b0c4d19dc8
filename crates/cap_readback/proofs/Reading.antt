-- What was written is read back.
use Rattle.std.proofs.Common.{◌≡◌, ℕ, ◌+◌, ◌-◌, ◌*◌, ◌^◌, ◌<◌, List, [], ◌∷◌, ◌++◌, length, replicate, map, get_or, drop, refl, sym, ap, ◌∙◌, subst, arith, append_assoc, length-append}
use Rattle.std.specs.Prelude.{slice_index}
use Rattle.std.specs.List.{flat_map, range_with_len, enumerate_from, AllByRecursion}
use Rattle.std.proofs.lemmas.List.{drop-drop, drop_at, get_or-drop, length-replicate}
use Rattle.byteorder.specs.Endian.{little_bytes, little_number}
use Rattle.byteorder.specs.Numbers.{little_number-reads_back, length-bytes_low_first}
use Rattle.cap_base.specs.Field.{number_at}
use Rattle.cap_elf.specs.Records.{table}
use Rattle.cap_readback.specs.Stands.{Stands, fields, AreSmall, AreReadFrom, AreRead}
use Rattle.cap_readback.specs.Spread.{Chunk, spread, AreApart, spread_end, AllStand}

-- the first part of what stands at a place
pub stands-front : (bytes : List ℕ) (at : ℕ) (xs ys : List ℕ) → Stands bytes at (xs ++ ys) → Stands bytes at xs
stands-front bytes at xs ys h = record { rest = ys ++ h.rest; is = h.is ∙ append_assoc xs ys h.rest }

-- what stands after it
pub stands-back : (bytes : List ℕ) (at n : ℕ) (xs ys : List ℕ) → at + length xs ≡ n → Stands bytes at (xs ++ ys) → Stands bytes n ys
stands-back bytes at n xs ys e h = record {
  rest = h.rest;
  is =
      ap (λ k. drop k bytes) (sym e) ∙ sym (drop-drop (length xs) at bytes) ∙ ap (drop (length xs)) (h.is ∙ append_assoc xs ys h.rest)
      ∙ drop_at xs (ys ++ h.rest) (length xs) refl;
}

-- a number that stands at a place
pub stands-number : (bytes : List ℕ) (at n x : ℕ) → x < 256 ^ n → Stands bytes at (little_bytes n x) → number_at n bytes at ≡ x
stands-number bytes at n x lt h = ap (little_number n) h.is ∙ little_number-reads_back n x h.rest lt

-- a byte that stands at a place
pub stands-byte : (bytes : List ℕ) (at x : ℕ) (xs : List ℕ) → Stands bytes at (x ∷ xs) → slice_index bytes at ≡ x
stands-byte bytes at x xs h =
    let place : at ≡ at + 0 = omega arith in
    ap (λ k. get_or bytes k 0) place ∙ sym (get_or-drop at bytes 0 0) ∙ ap (λ ys. get_or ys 0 0) h.is

-- numbers one after the other
fields-from : (bytes : List ℕ) (at k : ℕ) (fs : List (ℕ × ℕ)) → AreSmall fs → Stands bytes (at + k) (fields fs) → AreReadFrom bytes at k fs
fields-from bytes at k [] small h = tt
fields-from bytes at k (f ∷ fs) small h =
    let one = stands-number bytes (at + k) f.0 f.1 small.0 (stands-front bytes (at + k) (little_bytes f.0 f.1) (fields fs) h) in
    let long : length (little_bytes f.0 f.1) ≡ f.0 = length-bytes_low_first 0 f.0 f.1 in
    let place : at + k + length (little_bytes f.0 f.1) ≡ at + (k + f.0) = omega (arith, long) in
    (one, fields-from bytes at (k + f.0) fs small.1 (stands-back bytes (at + k) (at + (k + f.0)) (little_bytes f.0 f.1) (fields fs) place h))

pub stands-fields : (bytes : List ℕ) (at : ℕ) (fs : List (ℕ × ℕ)) → AreSmall fs → Stands bytes at (fields fs) → AreRead bytes at fs
stands-fields bytes at [] small h = tt
stands-fields bytes at (f ∷ fs) small h =
    let one = stands-number bytes at f.0 f.1 small.0 (stands-front bytes at (little_bytes f.0 f.1) (fields fs) h) in
    let long : length (little_bytes f.0 f.1) ≡ f.0 = length-bytes_low_first 0 f.0 f.1 in
    let place : at + length (little_bytes f.0 f.1) ≡ at + f.0 = omega (arith, long) in
    (one, fields-from bytes at f.0 fs small.1 (stands-back bytes at (at + f.0) (little_bytes f.0 f.1) (fields fs) place h))

-- records one after the other
records-read : {X Y : Type 0} (read : ℕ → Y) (write : X → List ℕ) (planned : ℕ → X → Y) (Good : X → Type 0) (bytes : List ℕ) (at size i : ℕ) (xs : List X)
    → ((x : X) → length (write x) ≡ size)
    → ((p : ℕ) (x : X) → Good x → Stands bytes p (write x) → read p ≡ planned p x)
    → AllByRecursion Good xs → Stands bytes (at + size * i) (flat_map write xs)
    → map (λ j. read (at + size * j)) (range_with_len i (length xs)) ≡ map (λ p. planned (at + size * p.0) p.1) (enumerate_from i xs)
records-read read write planned Good bytes at size i [] long one good h = refl
records-read read write planned Good bytes at size i (x ∷ xs) long one good h =
    let here : read (at + size * i) ≡ planned (at + size * i) x = one (at + size * i) x good.0 (stands-front bytes (at + size * i) (write x) (flat_map write xs) h) in
    let place : at + size * i + length (write x) ≡ at + size * (i + 1) = omega (arith, long x) in
    let next = records-read read write planned Good bytes at size (i + 1) xs long one good.1 (stands-back bytes (at + size * i) (at + size * (i + 1)) (write x) (flat_map write xs) place h) in
    cc

-- a table is the list of the planned records, each at its place
pub table-read : {X Y : Type 0} (read : ℕ → Y) (write : X → List ℕ) (planned : ℕ → X → Y) (Good : X → Type 0) (bytes : List ℕ) (at size : ℕ) (xs : List X)
    → ((x : X) → length (write x) ≡ size)
    → ((p : ℕ) (x : X) → Good x → Stands bytes p (write x) → read p ≡ planned p x)
    → AllByRecursion Good xs → Stands bytes at (flat_map write xs)
    → table read at size (length xs) ≡ map (λ p. planned (at + size * p.0) p.1) (enumerate_from 0 xs)
table-read read write planned Good bytes at size xs long one good h =
    let start : at ≡ at + size * 0 = omega arith in
    records-read read write planned Good bytes at size 0 xs long one good (subst (λ k. Stands bytes k (flat_map write xs)) start h)

-- ---- chunks
pub length-spread : (at : ℕ) (cs : List Chunk) → AreApart at cs → at + length (spread at cs) ≡ spread_end at cs
length-spread at [] h = omega arith
length-spread at (c ∷ cs) h =
    let size : length (spread at (c ∷ cs)) ≡ c.0 - at + (length c.1 + length (spread (c.0 + length c.1) cs)) = simp (length-append, length-replicate) refl in
    let rest = length-spread (c.0 + length c.1) cs h.1 in
    omega (arith, size, rest, h.0)

spread-behind : (front bytes : List ℕ) (at : ℕ) (cs : List Chunk) → AreApart at cs → length front ≡ at → bytes ≡ front ++ spread at cs → AllStand bytes cs
spread-behind front bytes at [] h e b = tt
spread-behind front bytes at (c ∷ cs) h e b =
    let gap = replicate (c.0 - at) 0 in
    let next = c.0 + length c.1 in
    let back = spread next cs in
    let shape : bytes ≡ (front ++ gap) ++ (c.1 ++ back) = b ∙ sym (append_assoc front gap (c.1 ++ back)) in
    let long : length (front ++ gap) ≡ c.0 = omega (arith, length-append front gap, length-replicate {A = ℕ} (c.0 - at) 0, h.0, e) in
    let here : drop c.0 bytes ≡ c.1 ++ back = ap (drop c.0) shape ∙ drop_at (front ++ gap) (c.1 ++ back) c.0 long in
    let shape_2 : bytes ≡ ((front ++ gap) ++ c.1) ++ back = shape ∙ sym (append_assoc (front ++ gap) c.1 back) in
    let long_2 : length ((front ++ gap) ++ c.1) ≡ next = omega (arith, length-append (front ++ gap) c.1, long) in
    (record { rest = back; is = here }, spread-behind ((front ++ gap) ++ c.1) bytes next cs h.1 long_2 shape_2)

-- each chunk of a file stands at its address
pub spread-stands : (cs : List Chunk) → AreApart 0 cs → AllStand (spread 0 cs) cs
spread-stands cs h = spread-behind [] (spread 0 cs) 0 cs h refl refl

pub stand-front : (bytes : List ℕ) (cs ds : List Chunk) → AllStand bytes (cs ++ ds) → AllStand bytes cs
stand-front bytes [] ds h = tt
stand-front bytes (c ∷ cs) ds h = (h.0, stand-front bytes cs ds h.1)

pub stand-back : (bytes : List ℕ) (cs ds : List Chunk) → AllStand bytes (cs ++ ds) → AllStand bytes ds
stand-back bytes [] ds h = h
stand-back bytes (c ∷ cs) ds h = stand-back bytes cs ds h.1
