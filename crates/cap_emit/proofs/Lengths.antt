-- How long the records and the tables are.
use Rattle.std.proofs.Common.{◌≡◌, ℕ, ◌+◌, ◌*◌, ◌≤◌, List, [], ◌∷◌, map, length, refl, ap, ◌∙◌, arith, length-append}
use Rattle.std.specs.List.{flat_map}
use Rattle.std.proofs.lemmas.List.{length-map}
use Rattle.std.proofs.lemmas.List.FromFn.{length-map-range_with_len}
use Rattle.std.proofs.lemmas.Slice.Zip.{length-zip}
use Rattle.cap_names.specs.Hash.{system_v_hash_of}
use Rattle.cap_chain.specs.Words.{words_of, bucket_words, name_words, bucket_count, bucket_of, last_in}
use Rattle.cap_elf.specs.declared.records.CapReloc.{CapReloc}
use Rattle.cap_elf.specs.declared.records.DynReloc.{DynReloc}
use Rattle.cap_layout.specs.declared.parts.Parts.{Parts}
use Rattle.cap_layout.specs.Parts.{hash_words_of}
use Rattle.cap_table.specs.declared.records.DynEntry.{DynEntry}
use Rattle.cap_table.specs.Lists.{CapTableValue, DynSymbolValue}
use Rattle.cap_emit.specs.Records.{field_bytes, ident, sizes_header, file_header, segment_header, segment_headers, symbol_bytes, rela_bytes, cap_reloc_bytes, entry_bytes}
use Rattle.cap_emit.specs.File.{symbols_with_offsets, hash_words}

pub length_header : (flags entry : ℕ) → length (file_header flags entry) ≡ 64
unfolding file_header ident sizes_header field_bytes
length_header flags entry = refl

pub length_segments : (at : Parts) (count : ℕ) → length (segment_headers at count) ≡ 336
unfolding segment_headers segment_header field_bytes
length_segments at count = refl

length_symbol : (p : ℕ × DynSymbolValue) → length (symbol_bytes p) ≡ 24
unfolding symbol_bytes field_bytes
length_symbol p = refl

length_rela : (r : DynReloc) → length (rela_bytes r) ≡ 24
unfolding rela_bytes field_bytes
length_rela r = refl

length_cap_reloc : (r : CapReloc) → length (cap_reloc_bytes r) ≡ 40
unfolding cap_reloc_bytes field_bytes
length_cap_reloc r = refl

pub length_entry : (e : DynEntry) → length (entry_bytes e) ≡ 16
unfolding entry_bytes field_bytes
length_entry e = refl

length_word : (w : ℕ) → length (field_bytes 4 w) ≡ 4
unfolding field_bytes
length_word w = refl

-- records of one size
pub length_records : {X : Type 0} (write : X → List ℕ) (size : ℕ) (xs : List X) → ((x : X) → length (write x) ≡ size) → length (flat_map write xs) ≡ size * length xs
length_records write size [] h = omega arith
length_records write size (x ∷ xs) h =
    let rest = length_records write size xs h in
    omega (arith, length-append (write x) (flat_map write xs), h x, rest)

pub symbols_size : (table : CapTableValue) (n : ℕ) → length table.symbols ≤ n → length (flat_map symbol_bytes (symbols_with_offsets table)) ≤ 24 * n
symbols_size table n le =
    omega (arith, le, length_records symbol_bytes 24 (symbols_with_offsets table) length_symbol, length-zip table.offsets table.symbols)

pub relas_size : (relas : List DynReloc) (n : ℕ) → length relas ≤ n → length (flat_map rela_bytes relas) ≤ 24 * n
relas_size relas n le = omega (arith, le, length_records rela_bytes 24 relas length_rela)

pub cap_relocs_size : (cap_relocs : List CapReloc) (n : ℕ) → length cap_relocs ≤ n → length (flat_map cap_reloc_bytes cap_relocs) ≤ 40 * n
cap_relocs_size cap_relocs n le = omega (arith, le, length_records cap_reloc_bytes 40 cap_relocs length_cap_reloc)

pub entries_size : (entries : List DynEntry) (n : ℕ) → length entries ≤ n → length (flat_map entry_bytes entries) ≤ 16 * n
entries_size entries n le = omega (arith, le, length_records entry_bytes 16 entries length_entry)

-- the words of a table of n names
length_built : (hashes : List ℕ) (n : ℕ) → length hashes ≡ n → length (words_of hashes) ≡ hash_words_of n
length_built hashes n e =
    let count = length hashes in
    let buckets = bucket_count count in
    let one = length-map-range_with_len (λ bucket. last_in hashes buckets bucket count) 0 buckets in
    let two = length-map-range_with_len (λ i. last_in hashes buckets (bucket_of hashes buckets i) i) 0 count in
    let parts : length (words_of hashes) ≡ 2 + buckets + count = omega (arith, one, two, length-append (bucket_words hashes buckets count) (name_words hashes buckets count)) in
    parts ∙ ap (λ k. 2 + bucket_count k + k) e

pub hash_size : (table : CapTableValue) (n : ℕ) → length table.symbols ≡ n → length (flat_map (field_bytes 4) (hash_words table)) ≤ 4 * hash_words_of n
hash_size table n e =
    let names = map (λ s. s.name) table.symbols in
    let words = length_built (map system_v_hash_of names) n (length-map names system_v_hash_of ∙ length-map table.symbols (λ s. s.name) ∙ e) in
    omega (arith, length_records (field_bytes 4) 4 (hash_words table) length_word, words)
