-- The hashes of names: of DT_HASH (System V gABI), and of DT_GNU_HASH (GNU binutils and glibc); and the number by which an
-- index places a name.
use Rattle.std.specs.Prelude.{ℕ, ◌+◌, ◌*◌, ◌/◌, ◌%◌, ◌^◌, bit_xor, List, fold}
use Rattle.cap_names.specs.declared.hashing.NameHash.{NameHash}
use Rattle.cap_names.specs.declared.hashing.NameHash.TheVariants.{SystemV, Gnu}

-- one byte more: the top four bits of the sum are folded into bits 4 to 7, and cleared
abbrev pub system_v_step : ℕ → ℕ → ℕ
system_v_step h byte = let sum = (h * 16 + byte) % 2 ^ 32 in bit_xor sum (sum / 2 ^ 28 * 16) % 2 ^ 28

abbrev pub system_v_hash_of : List ℕ → ℕ
system_v_hash_of name = fold system_v_step 0 name

-- one byte more
abbrev pub gnu_step : ℕ → ℕ → ℕ
gnu_step h byte = (h * 33 + byte) % 2 ^ 32

abbrev pub gnu_hash_of : List ℕ → ℕ
gnu_hash_of name = fold gnu_step 5381 name

-- the hash of a name by a rule
abbrev pub hash_by : NameHash → List ℕ → ℕ
hash_by SystemV name = system_v_hash_of name
hash_by Gnu name = gnu_hash_of name

-- a hash whose leading bits depend on all of its bits
unfoldable pub spread_of : ℕ → ℕ
spread_of hash = hash * 0x9E37_79B1 % 2 ^ 32
