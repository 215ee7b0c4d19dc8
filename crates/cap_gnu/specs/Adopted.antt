-- Which words are a sound DT_GNU_HASH table of these names (a format of GNU binutils and glibc), and what is found by it.
--
-- The words are the number of buckets, the least index that has a word, how many entries the filter has, and a shift; then
-- the filter, an entry of 64 bits as two words; then a word for each bucket, and a word for each index from that least one
-- on. A bucket's word is the first index of its run, or 0. An index's word has the upper 31 bits of its name's hash, and is
-- odd at the end of a run.
use Rattle.std.specs.Prelude.{◌≡◌, ℕ, ◌+◌, ◌-◌, ◌*◌, ◌/◌, ◌%◌, ◌^◌, ◌<◌, ◌≤◌, ◌==◌, nat_lt, nat_le, Bool, true, false, not, ◌&&◌, ◌||◌, if◌then◌else◌, List, [], length, drop, slice_range, slice_index, position, Option, Result, Ok, Err}
use Rattle.std.specs.List.{list_all, enumerate_from, range_with_len}
use Rattle.std.specs.Option.{option_map_or, is_some}
use Rattle.cap_names.specs.Hash.{gnu_hash_of}
use Rattle.cap_names.specs.Named.{Named, first_defined}
use Rattle.cap_gnu.specs.declared.adopting.GnuRefusal.{GnuRefusal}
use Rattle.cap_gnu.specs.declared.adopting.GnuRefusal.TheVariants.{Fault, NoMemory}

-- the words of a table, and the names of its indices, each with whether it counts as defined
pub record GnuTable : Type 0 where
  pub words : List ℕ
  pub names : List Named

abbrev pub gnu_table : List ℕ → List Named → GnuTable
gnu_table words names = record { words = words; names = names }

abbrev pub bucket_count : List ℕ → ℕ
bucket_count words = slice_index words 0

-- the least index that has a word
abbrev pub first_index : List ℕ → ℕ
first_index words = slice_index words 1

-- how many words stand before those of the buckets
abbrev pub filter_end : List ℕ → ℕ
filter_end words = 4 + 2 * slice_index words 2

-- the words of the buckets, and those of the indices
abbrev pub bucket_words : List ℕ → List ℕ
bucket_words words = slice_range words (filter_end words) (filter_end words + bucket_count words)

abbrev pub index_words : List ℕ → List ℕ
index_words words = drop (filter_end words + bucket_count words) words

-- how many words there are up to the first that is odd, that one too; 0 where none is odd
unfoldable pub run_length : List ℕ → ℕ
run_length words = option_map_or (λ k. k + 1) (position (λ w. w % 2 == 1) words) 0

-- how many indices the run has that begins at one; 0 where it leaves the words
abbrev pub length_from : List ℕ → ℕ → ℕ
length_from words i = run_length (drop (i - first_index words) (index_words words))

-- the indices of the run to which a bucket's word leads
abbrev pub run_at : List ℕ → ℕ → List ℕ
run_at words w = if w == 0 then [] else range_with_len w (length_from words w)

-- the run of the bucket into which a hash falls
abbrev pub run_of : List ℕ → ℕ → List ℕ
run_of words hash = run_at words (slice_index (bucket_words words) (hash % bucket_count words))

-- the bucket's word is 0, or leads to a run that ends within the words
abbrev pub is_run : List ℕ → ℕ → Bool
is_run words w = w == 0 || nat_le (first_index words) w && nat_lt 0 (length_from words w)

-- the place of an index in a run; none where it isn't in it
abbrev pub place_of : ℕ → List ℕ → Option ℕ
place_of i run = position (λ j. j == i) run

-- the index's word has the upper 31 bits of a hash
abbrev pub has_hash : List ℕ → ℕ → ℕ → Bool
has_hash words i hash = slice_index (index_words words) (i - first_index words) / 2 == hash / 2

-- a name that is defined has its index in the run of its bucket, and its index's word has its hash
abbrev pub is_held : List ℕ → ℕ × Named → Bool
is_held words p = not p.1.1 || is_some (place_of p.0 (run_of words (gnu_hash_of p.1.0))) && has_hash words p.0 (gnu_hash_of p.1.0)

-- each bucket is empty or leads to a run, and each defined name is held
abbrev pub is_sound : List ℕ → List Named → Bool
is_sound words names = list_all (is_run words) (bucket_words words) && list_all (is_held words) (enumerate_from 0 names)

-- there is a bucket, and there are the words of the filter and of all buckets
pub record IsLaidOut (words : List ℕ) : Type 0 where
  pub some : 1 ≤ bucket_count words
  pub long : filter_end words + bucket_count words ≤ length words

-- what has a word is the index of a name
pub record IsTableOf (words : List ℕ) (names : List Named) : Type 0 where
  pub laid : IsLaidOut words
  pub inside : first_index words + length (index_words words) ≤ length names
  pub few : length names < 2 ^ 32

-- how many indices of a run are passed up to the one that is found, that one too; all of them where none is found
abbrev pub passed : List ℕ → Option ℕ → ℕ
passed run found = option_map_or (λ i. option_map_or (λ k. k + 1) (place_of i run) (length run)) found (length run)

-- how many indices the look-up of a name passes
abbrev pub walk_of : GnuTable → List ℕ → ℕ
walk_of table name = passed (run_of table.words (gnu_hash_of name)) (first_defined table.names name)

-- words are adopted with their names exactly where they are sound; memory may run out instead
abbrev pub Adopts : List ℕ → List Named → Result GnuTable GnuRefusal → Type 0
Adopts words names (Ok chains) = (chains ≡ gnu_table words names) × (is_sound words names ≡ true)
Adopts words names (Err Fault) = is_sound words names ≡ false
Adopts words names (Err NoMemory) = Unit {0}
