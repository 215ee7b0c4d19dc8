-- The initial calls of loaded objects.
use Rattle.std.specs.Prelude.{ℕ, ◌+◌, ◌*◌, ◌/◌, List, [], ◌∷◌, map, flat_map, slice_index_or, Option, Some, None, if◌then◌else◌}
use Rattle.cap_base.specs.Lists.{numbers_between}
use Rattle.cap_elf.specs.DynView.{DynRecords}
use Rattle.cap_init.specs.declared.call.Call.{Call}
use Rattle.cap_mem.specs.Tagged.{TaggedMemory, TaggedWord, fresh_memory, tagged_word}
use Rattle.cap_scope.specs.Chosen.{object_at}

-- the granules of an object's array of initial calls (System V gABI, DT_INIT_ARRAY), in ascending order
abbrev pub array_granules : DynRecords → ℕ → List ℕ
array_granules object base =
    map (λ k. base + object.arrays.init_at + 16 * k) (numbers_between 0 (object.arrays.init_size / 16))

-- the call of a tagged word, where it is sealed
abbrev pub call_of : ℕ → TaggedWord → List Call
call_of object w =
    if w.cap.sealed then record { slot = w.granule; cursor = w.cap.cursor; object = object } ∷ [] else []

-- the call of what was found at a granule
abbrev pub found_call : ℕ → Option TaggedWord → List Call
found_call object None = []
found_call object (Some w) = call_of object w

-- the calls of one object
abbrev pub calls_in : ℕ → DynRecords → TaggedMemory → List Call
calls_in number object memory =
    flat_map (λ g. found_call number (tagged_word memory g)) (array_granules object memory.base)

abbrev pub memory_at : List TaggedMemory → ℕ → TaggedMemory
memory_at memories i = slice_index_or memories i (fresh_memory 0 0)

-- the calls of objects in an order
abbrev pub calls_of : List DynRecords → List TaggedMemory → List ℕ → List Call
calls_of objects memories order = flat_map (λ i. calls_in i (object_at objects i) (memory_at memories i)) order
