-- What a layout gives of a file, so that it can be read back.
use Rattle.std.specs.Prelude.{◌≡◌, ℕ, ◌+◌, ◌*◌, ◌^◌, ◌≤◌, ◌<◌, true, List, length}
use Rattle.std.specs.Int.{is_power_of_two}
use Rattle.std.specs.List.{flat_map}
use Rattle.cap_layout.specs.declared.parts.Parts.{Parts}
use Rattle.cap_readback.specs.Stands.{Stands, fields}
use Rattle.cap_readback.specs.Written.{header_fields, headers_of_file, segment_bytes}

-- the parts follow one another, and all are low. `count` entries are in the dynamic table
pub record AreLaid (at : Parts) (count : ℕ) : Type 0 where
  pub headers : 400 ≤ at.ro_end
  pub ro : at.ro_end ≤ at.code_start
  pub code : at.code_start ≤ at.code_end
  pub code_end : at.code_end ≤ at.table_start
  pub dynamic : at.dynamic_at ≡ at.table_start
  pub entries : at.dynamic_at + 16 * count ≤ at.table_end
  pub some_entry : 0 < count
  pub table_end : at.table_end ≤ at.data_start
  pub data_follows : at.data_start ≤ at.file_end
  pub file_end : at.file_end ≤ at.mem_end
  pub low : at.mem_end ≤ 2 ^ 26
  pub power : is_power_of_two at.align ≡ true
  pub page : 4096 ≤ at.align
  pub small : at.align ≤ 2 ^ 26

-- the headers stand at the front of these bytes
pub record HasHeaders (bytes : List ℕ) (at : Parts) (count flags entry : ℕ) : Type 0 where
  pub long : length bytes ≡ at.file_end
  pub header : Stands bytes 0 (fields (header_fields flags entry))
  pub segments : Stands bytes 64 (flat_map segment_bytes (headers_of_file at count))
