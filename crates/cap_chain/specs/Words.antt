-- The words of a hash table (System V gABI, DT_HASH): the number of buckets, the number of names, a word for each bucket
-- and a word for each name. A bucket leads to the last name that falls into it, and each name to the one before it in
-- the same bucket; 0 leads nowhere.
use Rattle.std.specs.Prelude.{ℕ, zero, suc, ◌/◌, ◌%◌, ◌==◌, Bool, not, ◌&&◌, if◌then◌else◌, max, List, [], ◌∷◌, ◌++◌, map, length, slice_index}
use Rattle.std.specs.List.{range_with_len}
use Rattle.cap_names.specs.Hash.{system_v_hash_of}

-- as many buckets as half the names, and at least one
abbrev pub bucket_count : ℕ → ℕ
bucket_count n = max 1 (n / 2)

-- the bucket of the hash at this index
abbrev pub bucket_of : List ℕ → ℕ → ℕ → ℕ
bucket_of hashes buckets i = slice_index hashes i % buckets

-- the greatest index from 1 on that is below `end` and passes; 0 where none does
abbrev pub last_below : (ℕ → Bool) → ℕ → ℕ
last_below p zero = 0
last_below p (suc i) = if not (i == 0) && p i then i else last_below p i

-- the last name below `end` in a bucket
abbrev pub last_in : List ℕ → ℕ → ℕ → ℕ → ℕ
last_in hashes buckets bucket end = last_below (λ i. bucket_of hashes buckets i == bucket) end

-- the words of the buckets, and those of the names
abbrev pub bucket_words : List ℕ → ℕ → ℕ → List ℕ
bucket_words hashes buckets end = map (λ bucket. last_in hashes buckets bucket end) (range_with_len 0 buckets)

abbrev pub name_words : List ℕ → ℕ → ℕ → List ℕ
name_words hashes buckets end = map (λ i. last_in hashes buckets (bucket_of hashes buckets i) i) (range_with_len 0 end)

-- the words of a table of names with these hashes
abbrev pub words_of : List ℕ → List ℕ
words_of hashes =
    let n = length hashes in
    let buckets = bucket_count n in
    (buckets ∷ n ∷ []) ++ bucket_words hashes buckets n ++ name_words hashes buckets n

-- the words that are built for names
abbrev pub built_words : List (List ℕ) → List ℕ
built_words names = words_of (map system_v_hash_of names)
