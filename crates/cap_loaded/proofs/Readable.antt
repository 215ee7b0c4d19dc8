-- The image of a state that is reached and held can be read.
use Rattle.std.proofs.Common.{◌≡◌, ℕ, ◌+◌, ◌%◌, ◌^◌, ◌<◌, ◌≤◌, Bool, true, List, [], ◌∷◌, length, map, sym, ap, ◌∙◌, arith}
use Rattle.std.specs.Prelude.{All, IsTrue}
use Rattle.std.specs.List.{AllZip, zip}
use Rattle.std.proofs.lemmas.List.{length-map}
use Rattle.std.proofs.lemmas.List.Elements.{All-nil, All-cons, All-head, All-tail, All-map}
use Rattle.std.proofs.lemmas.Slice.Zip.{length-zip}
use Rattle.cap_base.specs.Text.{is_plain}
use Rattle.cap_elf.specs.IsRead.{IsRead}
use Rattle.cap_map.proofs.Pages.{multiple_pages}
use Rattle.cap_mem.specs.Ascending.{Ascend}
use Rattle.cap_mem.specs.Tagged.{TaggedMemory}
use Rattle.cap_image.specs.ReadBack.{CanBeRead}
use Rattle.cap_image.specs.Writing.{IsObjectName}
use Rattle.cap_scope.specs.Candidates.{hash_table}
use Rattle.cap_session.specs.Exact.{IsReached, LieBehind}
use Rattle.cap_session.specs.Held.{IsHeldState, IsMappedAt, state_symbols}
use Rattle.cap_session.specs.Loading.{Loaded, records_of}
use Rattle.cap_session.specs.Mappings.{IsName}
use Rattle.cap_session.specs.State.{State, memories_of, memory_of}

-- a memory has whole pages, at least one, within the addresses of objects
record IsPlaced (m : TaggedMemory) : Type 0 where
  base : m.base % 4096 ≡ 0
  some : 0 < length m.bytes
  pages : length m.bytes % 4096 ≡ 0
  high : m.base + length m.bytes ≤ 0x44000000

low-end : (from : ℕ) (objects : List Loaded) → LieBehind from objects → from ≤ 0x44000000
low-end from [] behind = behind
low-end from (o ∷ objects) behind =
    let rest = low-end (o.base + (records_of o).span) objects behind.2 in
    let first = behind.0 in
    omega (arith, rest, first)

placed : (from : ℕ) (objects : List Loaded) (memories : List TaggedMemory) → AllZip IsMappedAt objects memories → All IsRead (map records_of objects) → LieBehind from objects → All IsPlaced memories
placed from [] [] mapped read behind = All-nil IsPlaced
placed from [] (m ∷ memories) mapped read behind = absurd mapped
placed from (o ∷ objects) [] mapped read behind = All-nil IsPlaced
placed from (o ∷ objects) (m ∷ memories) mapped read behind =
    let is = All-head IsRead (records_of o) (map records_of objects) read in
    let last = low-end (o.base + (records_of o).span) objects behind.2 in
    let base : m.base ≡ o.base = mapped.0.0 in
    let size : length m.bytes ≡ (records_of o).span = mapped.0.1 in
    let some = is.span_some in
    All-cons IsPlaced m memories
    (record {
      base = ap (λ (n : ℕ). n % 4096) base ∙ multiple_pages o.base (records_of o).align is.align_power is.align_low behind.1;
      some = omega (arith, size, some);
      pages = ap (λ (n : ℕ). n % 4096) size ∙ is.span_pages;
      high = omega (arith, base, size, last);
    })
    (placed (o.base + (records_of o).span) objects memories mapped.1 (All-tail IsRead (records_of o) (map records_of objects) read) behind.2)

-- memories ascend as their objects do
ascends : (from at : ℕ) (objects : List Loaded) (memories : List TaggedMemory) → at ≤ from → AllZip IsMappedAt objects memories → LieBehind from objects → Ascend at memories 0x44000000
ascends from at [] [] low mapped behind = omega (arith, low, behind)
ascends from at [] (m ∷ memories) low mapped behind = absurd mapped
ascends from at (o ∷ objects) [] low mapped behind = absurd mapped
ascends from at (o ∷ objects) (m ∷ memories) low mapped behind =
    let base : m.base ≡ o.base = mapped.0.0 in
    let size : length m.bytes ≡ (records_of o).span = mapped.0.1 in
    let first = behind.0 in
    (omega (arith, base, first, low), ascends (o.base + (records_of o).span) (m.base + length m.bytes) objects memories (omega (arith, base, size)) mapped.1 behind.2)

within : (from : ℕ) (memories : List TaggedMemory) → Ascend from memories 0x44000000 → Ascend from memories (2 ^ 64)
within from [] ascend = omega (arith, ascend)
within from (m ∷ memories) ascend = (ascend.0, within (m.base + length m.bytes) memories ascend.1)

from-zero : (memories : List TaggedMemory) → Ascend 0x40000000 memories (2 ^ 64) → Ascend 0 memories (2 ^ 64)
from-zero [] ascend = omega arith
from-zero (m ∷ memories) ascend = (omega arith, ascend.1)

object-names : (objects : List Loaded) → All (λ (o : Loaded). IsName o.name) objects → All IsObjectName (map (λ (o : Loaded). (o.name, true)) objects)
object-names objects names =
    All-map IsObjectName (λ (o : Loaded). (o.name, true)) objects (λ k d below. let name = names k d below in record { some = name.0; short = name.1.short })

pub readable : (state : State) → IsReached state → IsHeldState state → CanBeRead (map (λ (o : Loaded). (o.name, true)) state.objects) (state_symbols state) (memories_of state)
readable state reached held =
    let pairs = length-zip state.objects state.pairs in
    let paired = held.pair_count in
    let made = length-map (zip state.objects state.pairs) memory_of in
    let count : length (memories_of state) ≡ length state.objects = omega (arith, made, pairs, paired) in
    let names : length (map (λ (o : Loaded). (o.name, true)) state.objects) ≡ length state.objects = length-map state.objects (λ (o : Loaded). (o.name, true)) in
    let symbols : length (state_symbols state) ≡ length state.objects = length-map state.objects (λ (o : Loaded). (hash_table (records_of o)).names) in
    let few = reached.few in
    let are = placed 0x40000000 state.objects (memories_of state) held.mapped reached.read reached.behind in
    let ascending = ascends 0x40000000 0x40000000 state.objects (memories_of state) (omega arith) held.mapped reached.behind in
    record {
      can_be_written = record {
        few = omega (arith, count, few);
        name_count = names ∙ sym count;
        symbol_count = symbols ∙ sym count;
        object_names = object-names state.objects held.names;
        symbol_names = λ k d below i e inside. (held.symbol_names k d below i e inside).short;
        ascending = from-zero (memories_of state) (within 0x40000000 (memories_of state) ascending);
        writable = λ k d below.
            let high = (are k d below).high in
            let owned = held.owners k d below in
            record {
              pages = (are k d below).pages;
              size = omega (arith, high);
              words = λ j e inside. record { owner_is = owned.owners j e inside; note_is = owned.notes j e inside };
            };
      };
      mapped = λ k d below. record { base_in_pages = (are k d below).base; some_bytes = (are k d below).some; sound = held.sound k d below };
      ascending = ascending;
      object_names = All-map (λ (name : List ℕ × Bool). IsTrue (is_plain name.0)) (λ (o : Loaded). (o.name, true)) state.objects (λ k d below. (held.names k d below).1.plain);
      symbol_names = λ k d below i e inside. (held.symbol_names k d below i e inside).plain;
    }
