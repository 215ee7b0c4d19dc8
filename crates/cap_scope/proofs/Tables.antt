-- A file that was read has a table of its names.
use Rattle.std.proofs.Common.{◌≡◌, length, map, arith}
use Rattle.std.specs.Prelude.{zip, min}
use Rattle.std.proofs.lemmas.List.{length-map}
use Rattle.std.proofs.lemmas.Slice.Zip.{length-zip}
use Rattle.cap_elf.specs.DynView.{DynRecords}
use Rattle.cap_elf.specs.IsRead.{IsRead}
use Rattle.cap_chain.specs.Adopted.{IsTableOf}
use Rattle.cap_scope.specs.Candidates.{defined_name, hash_table}

module _ (object : DynRecords) (read : IsRead object) where
  pub length-names : length (hash_table object).names ≡ length object.symbols
  length-names =
      let a : length (map defined_name (zip object.symbols object.names)) ≡ length (zip object.symbols object.names) = length-map (zip object.symbols object.names) defined_name in
      let b : length (zip object.symbols object.names) ≡ min (length object.symbols) (length object.names) = length-zip object.symbols object.names in
      omega (arith, a, b, read.name_count)

  pub table_is : IsTableOf object.hash_words (hash_table object).names
  table_is = record {
    buckets = read.hash_buckets;
    chains = omega (arith, read.hash_chains, length-names);
    long = omega (arith, read.hash_len, read.hash_chains, length-names);
  }
