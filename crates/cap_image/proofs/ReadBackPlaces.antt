-- What stands at a place of an image, and what its readers find there.
use Rattle.std.proofs.Common.{◌≡◌, ℕ, ◌+◌, ◌-◌, ◌^◌, ◌<◌, ◌≤◌, List, [], ◌++◌, length, take, drop, Ok, refl, sym, ap, ◌∙◌, arith}
use Rattle.std.proofs.lemmas.Bool.{le-leb}
use Rattle.std.proofs.lemmas.List.{drop-drop, drop_at, take_at, length-drop}
use Rattle.byteorder.specs.Endian.{little_number}
use Rattle.byteorder.specs.Numbers.{little_number-reads_back, length-bytes_low_first}
use Rattle.cap_base.specs.Field.{number_at}
use Rattle.cap_image.specs.Header.{reaches}
use Rattle.cap_image.specs.Records.{piece}
use Rattle.cap_image.specs.Writing.{field_bytes}

-- what follows the first bytes
pub behind : (bytes : List ℕ) (at n : ℕ) (xs ys : List ℕ) → at + length xs ≡ n → drop at bytes ≡ xs ++ ys → drop n bytes ≡ ys
behind bytes at n xs ys e h =
    ap (λ k. drop k bytes) (sym e) ∙ sym (drop-drop (length xs) at bytes) ∙ ap (drop (length xs)) h ∙ drop_at xs ys (length xs) refl

-- the first bytes
pub piece_is : (bytes : List ℕ) (at n : ℕ) (xs ys : List ℕ) → length xs ≡ n → drop at bytes ≡ xs ++ ys → piece bytes at n ≡ xs
piece_is bytes at n xs ys e h = ap (take n) h ∙ take_at xs ys n e

-- a number
pub number_is : (bytes : List ℕ) (at n x : ℕ) (ys : List ℕ) → x < 256 ^ n → drop at bytes ≡ field_bytes n x ++ ys → number_at n bytes at ≡ x
unfolding field_bytes
number_is bytes at n x ys lt h = ap (little_number n) h ∙ little_number-reads_back n x ys lt

pub field_len : (n x : ℕ) → length (field_bytes n x) ≡ n
unfolding field_bytes
field_len n x = length-bytes_low_first 0 n x

-- what follows a number
pub behind_number : (bytes : List ℕ) (at m n x : ℕ) (ys : List ℕ) → at + n ≡ m → drop at bytes ≡ field_bytes n x ++ ys → drop m bytes ≡ ys
behind_number bytes at m n x ys e h = behind bytes at m (field_bytes n x) ys (ap (λ k. at + k) (field_len n x) ∙ e) h

-- the image reaches up to the end of what stands there
pub room : (bytes : List ℕ) (at n : ℕ) (xs : List ℕ) → drop at bytes ≡ xs → 0 < n → n ≤ length xs → at + n ≤ length bytes
room bytes at n xs h some le =
    let rest : length xs ≡ length bytes - at = ap length (sym h) ∙ length-drop at bytes in
    omega (arith, rest, some, le)

pub reaches_is : (bytes : List ℕ) (at n place : ℕ) (xs : List ℕ) → drop at bytes ≡ xs → 0 < n → n ≤ length xs → place ≡ at + n → reaches bytes place ≡ Ok tt
reaches_is bytes at n place xs h some le e = rw (e, le-leb (at + n) (length bytes) (room bytes at n xs h some le)) refl

-- the image ends where nothing follows
pub ends : (bytes : List ℕ) (at : ℕ) → drop at bytes ≡ [] → length bytes ≤ at
ends bytes at h =
    let rest : 0 ≡ length bytes - at = ap length (sym h) ∙ length-drop at bytes in
    omega (arith, rest)
