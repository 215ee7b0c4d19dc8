-- The calls of an object part way.
use Rattle.std.specs.Prelude.{ℕ, ◌+◌, ◌*◌, List, map, flat_map}
use Rattle.std.specs.List.{range_with_len}
use Rattle.cap_elf.specs.DynView.{DynRecords}
use Rattle.cap_init.specs.declared.call.Call.{Call}
use Rattle.cap_init.specs.Calls.{found_call}
use Rattle.cap_mem.specs.Tagged.{TaggedMemory, tagged_word}

-- the calls of the first granules of an object's array, as many as the number says
unfoldable pub calls_below : ℕ → DynRecords → TaggedMemory → ℕ → List Call
calls_below number object memory n =
    flat_map (λ g. found_call number (tagged_word memory g)) (map (λ k. memory.base + object.arrays.init_at + 16 * k) (range_with_len 0 n))
