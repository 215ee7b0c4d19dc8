-- Chains gone through with a mark for each index: how a table is seen to be sound in one pass.
use Rattle.std.specs.Prelude.{◌≡◌, ℕ, ◌+◌, ◌%◌, ◌==◌, ◌<◌, Bool, true, false, not, ◌||◌, if◌then◌else◌, List, [], ◌∷◌, ◌&&◌, length, flat_map, set, slice_index, slice_index_or, Option, Some, None}
use Rattle.std.specs.List.{list_all, enumerate_from}
use Rattle.std.specs.Option.{option_and_then}
use Rattle.cap_names.specs.Hash.{system_v_hash_of}
use Rattle.cap_chain.specs.Adopted.{chain_from, has, is_distinct}
use Rattle.cap_names.specs.Named.{Named}

-- the marks, with this one at each of the indices; None where one has a mark already, or stands twice
abbrev pub marking : ℕ → List ℕ → List ℕ → Option (List ℕ)
marking mark marks [] = Some marks
marking mark marks (i ∷ is) = if slice_index marks i == 0 then marking mark (set marks i mark) is else None

-- the marks, with each bucket's number and 1 at the indices of its chain
abbrev pub marking_all : (ℕ → List ℕ) → ℕ → List ℕ → List ℕ → Option (List ℕ)
marking_all chain bucket marks [] = Some marks
marking_all chain bucket marks (w ∷ ws) = option_and_then (λ m. marking_all chain (bucket + 1) m ws) (marking (bucket + 1) marks (chain w))

-- the index isn't defined, or has the mark of its bucket
abbrev pub is_marked : List Named → ℕ → List ℕ → ℕ → Bool
is_marked names buckets marks i =
    let p = slice_index_or names i ([], false) in not p.1 || (slice_index marks i == system_v_hash_of p.0 % buckets + 1)

-- the answer says whether all numbers below n pass a test
abbrev pub Tells : (ℕ → Bool) → ℕ → Bool → Type 0
Tells q n true = (k : ℕ) → k < n → q k ≡ true
Tells q n false = (k : ℕ) × ((k < n) × (q k ≡ false))

-- a sound table by its two lists: the words of the buckets and those of the names
abbrev pub is_held_in : List ℕ → List ℕ → ℕ → ℕ × Named → Bool
is_held_in firsts links buckets p =
    not p.1.1 || has p.0 (chain_from links (length links) (slice_index firsts (system_v_hash_of p.1.0 % buckets)))

abbrev pub are_sound : List ℕ → List ℕ → ℕ → List Named → Bool
are_sound firsts links buckets names =
    is_distinct (flat_map (λ w. chain_from links (length links) w) firsts) && list_all (is_held_in firsts links buckets) (enumerate_from 0 names)
