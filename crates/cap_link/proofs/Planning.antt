-- The layout of the plan is that of the link.
use Rattle.std.proofs.lemmas.List.FromFn.{length-range_with_len}
use Rattle.std.proofs.Common.{◌≡◌, length-append, ℕ, ◌+◌, ◌-◌, ◌*◌, ◌^◌, ◌≤◌, Bool, true, false, cond, List, [], ◌∷◌, length, map, refl, sym, ap, ◌∙◌, arith}
use Rattle.std.specs.Int.{next_multiple_of, is_power_of_two}
use Rattle.std.specs.List.{range_with_len}
use Rattle.cap_names.specs.Hash.{system_v_hash_of}
use Rattle.cap_chain.specs.Words.{bucket_count, bucket_of, last_in, bucket_words, name_words}
use Rattle.cap_conc.specs.Computed.{representable_length}
use Rattle.cap_elf.specs.declared.records.Class.{Class}
use Rattle.cap_elf.specs.declared.records.Class.TheVariants.{Ro, Code, Init, Fini, Relro, Data, Bss}
use Rattle.cap_layout.specs.declared.piece.Piece.{Piece}
use Rattle.cap_layout.specs.Places.{last_end, of_class}
use Rattle.cap_layout.specs.Parts.{hash_words_of, has_bytes, array_start, array_end, array_size, parts_of, names_end, stubs_end, slots_end, init_end, fini_end}
use Rattle.cap_readback.specs.Layout.{AreFilled, IsLayout}
use Rattle.cap_readback.specs.Layout.{last_end as filled_last_end, array_start as filled_array_start, array_end as filled_array_end, init_end as filled_init_end, fini_end as filled_fini_end, relro_end as filled_relro_end}
use Rattle.cap_readback.specs.View.{strings, symbol_count, dynamics}
use Rattle.cap_link.specs.Linked.{Linked}
use Rattle.cap_link.specs.Content.{planned_from, names_of_symbols, named_symbols, content_of, filled_of, pieces_by_class}
use Rattle.cap_link.proofs.Made.{AreListed, AreSized, IsLaidOut}
use Rattle.cap_link.proofs.Naming.{planned-length}
use Rattle.cap_link.proofs.Viewing.{length-hashes}
use Rattle.cap_link.proofs.Dynamics.{pair_of, strings-long, dynamics-are}
use Rattle.cap_link.proofs.Placing.{last-end-is, array-end-is, array-start-is}

-- the pieces have their bytes, and all is low and aligned
pub record IsBuilt (l : Linked) : Type 0 where
  pub count : length l.bodies.pieces ≡ length l.laid.pieces.all
  pub ro : AreFilled (pieces_by_class l).ro
  pub code : AreFilled (pieces_by_class l).code
  pub init : AreFilled (pieces_by_class l).init
  pub fini : AreFilled (pieces_by_class l).fini
  pub relro : AreFilled (pieces_by_class l).relro
  pub written : AreFilled (pieces_by_class l).written
  pub low : l.laid.parts.mem_end ≤ 2 ^ 26
  pub power : is_power_of_two l.laid.parts.align ≡ true
  pub page : 4096 ≤ l.laid.parts.align
  pub small : l.laid.parts.align ≤ 2 ^ 26

last-end-at : (class : Class) (end next : ℕ) (ps : List Piece) (bs : List (List ℕ)) → end ≡ next → length bs ≡ length ps → last_end end (of_class class ps) ≡ filled_last_end next (filled_of class ps bs)
last-end-at class end next ps bs e h = last-end-is class end ps bs h ∙ ap (λ k. filled_last_end k (filled_of class ps bs)) e

array-end-at : (class : Class) (end next : ℕ) (ps : List Piece) (bs : List (List ℕ)) → end ≡ next → length bs ≡ length ps → array_end end (of_class class ps) ≡ filled_array_end next (filled_of class ps bs)
array-end-at class end next ps bs e h = array-end-is class end ps bs h ∙ ap (λ k. filled_array_end k (filled_of class ps bs)) e

pub array-start-at : (class : Class) (end next : ℕ) (ps : List Piece) (bs : List (List ℕ)) → end ≡ next → length bs ≡ length ps → array_start end (of_class class ps) ≡ filled_array_start next (filled_of class ps bs)
array-start-at class end next ps bs e h = array-start-is class end ps bs h ∙ ap (λ k. filled_array_start k (filled_of class ps bs)) e

size-below : (b : Bool) (size : ℕ) → cond b size 0 ≤ size
size-below true size = omega arith
size-below false size = omega arith

array-size-below : (end : ℕ) (ps : List Piece) → array_size end ps ≤ array_end end ps - next_multiple_of end 16
array-size-below end ps = size-below (has_bytes ps) (array_end end ps - next_multiple_of end 16)

pub length-map : {X Y : Type 0} (f : X → Y) (xs : List X) → length (map f xs) ≡ length xs
length-map f [] = refl
length-map f (x ∷ xs) = let rest = length-map f xs in omega (arith, rest)

-- numbers
sum-is : {a b c d : ℕ} → a ≡ b → c ≡ d → b + d ≡ a + c
sum-is x y = cc

two-sums : {a b : ℕ} → a ≡ b → (k : ℕ) {c d : ℕ} → c ≡ d → a + k * c ≡ b + k * d
two-sums x k y = cc

difference : {a b c d : ℕ} → a ≡ b → c ≡ d → a - c ≡ b - d
difference x y = cc

below-by : {a b c d : ℕ} → a ≡ b → b ≤ c → c ≡ d → a ≤ d
below-by x y z = omega (arith, x, y, z)

above-by : {a b c d : ℕ} → a ≡ b → b ≤ c → c ≡ d → a ≤ d
above-by x y z = omega (arith, x, y, z)

-- where the tables and the parts begin
pub record AreEnds (l : Linked) : Type 0 where
  pub names : names_end (parts_of l.laid.pieces.all l.lists.plan.sizes) l.lists.plan.sizes ≡ l.laid.parts.names_at + length (strings (content_of l))
  pub stubs : stubs_end (parts_of l.laid.pieces.all l.lists.plan.sizes) l.lists.plan.sizes ≡ l.laid.parts.stubs_at + length l.bodies.stubs
  pub slots : slots_end (parts_of l.laid.pieces.all l.lists.plan.sizes) l.lists.plan.sizes ≡ l.laid.parts.slots_at + length l.bodies.slots
  pub init : init_end l.laid.pieces.all (parts_of l.laid.pieces.all l.lists.plan.sizes) l.lists.plan.sizes ≡ filled_init_end (content_of l) (pieces_by_class l)
  pub fini : fini_end l.laid.pieces.all (parts_of l.laid.pieces.all l.lists.plan.sizes) l.lists.plan.sizes ≡ filled_fini_end (content_of l) (pieces_by_class l)

pub ends-are : (l : Linked) → AreSized l → IsLaidOut l → length l.bodies.pieces ≡ length l.laid.pieces.all → AreEnds l
unfolding content_of pieces_by_class
ends-are l s h count =
    let ps = l.laid.pieces.all in
    let n = l.lists.plan.sizes in
    let bs = l.bodies.pieces in
    let at = parts_of ps n in
    let p0 : l.laid.parts.names_at ≡ at.names_at = ap (λ p. p.names_at) h.parts in
    let p1 : l.laid.parts.stubs_at ≡ at.stubs_at = ap (λ p. p.stubs_at) h.parts in
    let p2 : l.laid.parts.slots_at ≡ at.slots_at = ap (λ p. p.slots_at) h.parts in
    let slots : slots_end at n ≡ l.laid.parts.slots_at + length l.bodies.slots = sum-is p2 s.slots in
    let init : init_end ps at n ≡ filled_array_end (l.laid.parts.slots_at + length l.bodies.slots) (filled_of Init ps bs) = array-end-at Init (slots_end at n) (l.laid.parts.slots_at + length l.bodies.slots) ps bs slots count in
    record {
      names = sum-is p0 (sym (strings-long l s));
      stubs = sum-is p1 s.stubs;
      slots = slots;
      init = init;
      fini = array-end-at Fini (init_end ps at n) (filled_init_end (content_of l) (pieces_by_class l)) ps bs init count;
    }

-- the parts up to the names
hash-end : (l : Linked) → AreListed l → AreSized l → hash_words_of l.lists.plan.sizes.symbols ≡ 2 + (content_of l).buckets + symbol_count (content_of l)
unfolding content_of
hash-end l h s =
    let m : l.lists.plan.sizes.symbols ≡ length l.lists.symbols = omega (arith, s.symbols, ap length h.symbols) in
    let k : length l.lists.symbols ≡ 1 + length (planned_from 1 (named_symbols l)) = omega (arith, ap length h.symbols, planned-length 1 (named_symbols l)) in
    ap hash_words_of m ∙ ap (λ (x : ℕ). 2 + bucket_count (length l.lists.symbols) + x) k

word-count : (l : Linked) → AreListed l → length (content_of l).more ≡ (content_of l).buckets + symbol_count (content_of l)
unfolding content_of
word-count l h =
    let hashes = map system_v_hash_of (names_of_symbols l.lists.symbols) in
    let n = length hashes in
    let k : n ≡ 1 + length (planned_from 1 (named_symbols l)) = omega (arith, length-hashes l.lists.symbols, ap length h.symbols, planned-length 1 (named_symbols l)) in
    let a : length (bucket_words hashes (bucket_count n) n) ≡ bucket_count n = length-map (λ (b : ℕ). last_in hashes (bucket_count n) b n) (range_with_len 0 (bucket_count n)) ∙ length-range_with_len 0 (bucket_count n) in
    let b : length (name_words hashes (bucket_count n) n) ≡ n = length-map (λ (i : ℕ). last_in hashes (bucket_count n) (bucket_of hashes (bucket_count n) i) i) (range_with_len 0 n) ∙ length-range_with_len 0 n in
    let c : bucket_count n ≡ bucket_count (length l.lists.symbols) = ap bucket_count (length-hashes l.lists.symbols) in
    omega (arith, length-append (bucket_words hashes (bucket_count n) n) (name_words hashes (bucket_count n) n), a, b, c, k)

pub layout-is : (l : Linked) → AreListed l → AreSized l → IsLaidOut l → IsBuilt l → ((x : ℕ) → x ≤ representable_length x) → IsLayout (content_of l) (pieces_by_class l)
unfolding content_of pieces_by_class
layout-is l h s laid built above =
    let ps = l.laid.pieces.all in
    let n = l.lists.plan.sizes in
    let bs = l.bodies.pieces in
    let at = parts_of ps n in
    let c = content_of l in
    let e = ends-are l s laid built.count in
    let count = built.count in
    let symbols_at : l.laid.parts.symbols_at ≡ 400 = ap (λ p. p.symbols_at) laid.parts in
    let symbols : 1 + length (named_symbols l) ≡ symbol_count c = omega (arith, planned-length 1 (named_symbols l)) in
    let relas_at : l.laid.parts.relas_at ≡ at.symbols_at + 24 * n.symbols = ap (λ p. p.relas_at) laid.parts in
    let caps_at : l.laid.parts.cap_relocs_at ≡ at.relas_at + 24 * n.relas = ap (λ p. p.cap_relocs_at) laid.parts in
    let hash_at : l.laid.parts.hash_at ≡ at.cap_relocs_at + 40 * n.cap_relocs = ap (λ p. p.hash_at) laid.parts in
    let names_at : l.laid.parts.names_at ≡ at.hash_at + 4 * hash_words_of n.symbols = ap (λ p. p.names_at) laid.parts in
    let slots_at : l.laid.parts.slots_at ≡ at.table_start + 16 * n.dynamics = ap (λ p. p.slots_at) laid.parts in
    let table_start : l.laid.parts.table_start ≡ at.table_start = ap (λ p. p.table_start) laid.parts in
    let dynamic_at : l.laid.parts.dynamic_at ≡ at.table_start = ap (λ p. p.dynamic_at) laid.parts in
    let dyns : length (dynamics c) ≡ n.dynamics = sym (ap length (dynamics-are l h s)) ∙ length-map pair_of l.lists.dynamics ∙ sym s.dynamics in
    let code_start : l.laid.parts.code_start ≡ next_multiple_of at.ro_end 4096 = ap (λ p. p.code_start) laid.parts in
    let ro_end : l.laid.parts.ro_end ≡ at.ro_end = ap (λ p. p.ro_end) laid.parts in
    let code_end : l.laid.parts.code_end ≡ at.code_end = ap (λ p. p.code_end) laid.parts in
    let relro : last_end (fini_end ps at n) (of_class Relro ps) ≡ filled_relro_end c (pieces_by_class l) = last-end-at Relro (fini_end ps at n) (filled_fini_end c (pieces_by_class l)) ps bs e.fini count in
    let table_end : l.laid.parts.table_end ≡ representable_length (next_multiple_of (last_end (fini_end ps at n) (of_class Relro ps)) 4096) = ap (λ p. p.table_end) laid.parts in
    let data_start : l.laid.parts.data_start ≡ at.table_end = ap (λ p. p.data_start) laid.parts in
    let file_end : l.laid.parts.file_end ≡ last_end at.table_end (of_class Data ps) = ap (λ p. p.file_end) laid.parts in
    let mem_end : l.laid.parts.mem_end ≡ last_end at.file_end (of_class Bss ps) = ap (λ p. p.mem_end) laid.parts in
    let init_at : l.laid.parts.init_at ≡ next_multiple_of (slots_end at n) 16 = ap (λ p. p.init_at) laid.parts in
    let fini_at : l.laid.parts.fini_at ≡ next_multiple_of (init_end ps at n) 16 = ap (λ p. p.fini_at) laid.parts in
    let init_size : l.laid.parts.init_size ≡ array_size (slots_end at n) (of_class Init ps) = ap (λ p. p.init_size) laid.parts in
    let fini_size : l.laid.parts.fini_size ≡ array_size (init_end ps at n) (of_class Fini ps) = ap (λ p. p.fini_size) laid.parts in
    record {
      symbols_at = symbols_at;
      relas_at = relas_at ∙ two-sums (sym (ap (λ p. p.symbols_at) laid.parts)) 24 (s.symbols ∙ symbols);
      caps_at = caps_at ∙ two-sums (sym (ap (λ p. p.relas_at) laid.parts)) 24 s.relas;
      hash_at = hash_at ∙ two-sums (sym (ap (λ p. p.cap_relocs_at) laid.parts)) 40 s.cap_relocs;
      names_at = names_at ∙ two-sums (sym (ap (λ p. p.hash_at) laid.parts)) 4 (hash-end l h s);
      ro_end = ro_end ∙ last-end-at Ro (names_end at n) (l.laid.parts.names_at + length (strings c)) ps bs e.names count;
      code_start = code_start ∙ ap (λ k. next_multiple_of k 4096) (sym ro_end);
      stubs_at = ap (λ p. p.stubs_at) laid.parts ∙ sym (ap (λ p. p.code_start) laid.parts);
      code_end = code_end ∙ last-end-at Code (stubs_end at n) (l.laid.parts.stubs_at + length l.bodies.stubs) ps bs e.stubs count;
      table_start = table_start ∙ ap (λ k. next_multiple_of k 4096) (sym code_end);
      dynamic_at = dynamic_at ∙ sym table_start;
      slots_at = slots_at ∙ two-sums (sym dynamic_at) 16 (sym dyns);
      init_at = init_at ∙ ap (λ k. next_multiple_of k 16) e.slots;
      init_size = below-by init_size (array-size-below (slots_end at n) (of_class Init ps)) (difference e.init (ap (λ k. next_multiple_of k 16) e.slots));
      fini_at = fini_at ∙ ap (λ k. next_multiple_of k 16) e.init;
      fini_size = below-by fini_size (array-size-below (init_end ps at n) (of_class Fini ps)) (difference e.fini (ap (λ k. next_multiple_of k 16) e.init));
      table_end = above-by (ap (λ k. next_multiple_of k 4096) (sym relro)) (above (next_multiple_of (last_end (fini_end ps at n) (of_class Relro ps)) 4096)) (sym table_end);
      data_start = data_start ∙ sym (ap (λ p. p.table_end) laid.parts);
      file_end = file_end ∙ last-end-at Data at.table_end l.laid.parts.table_end ps bs (sym (ap (λ p. p.table_end) laid.parts)) count;
      mem_end = mem_end ∙ last-end-at Bss at.file_end l.laid.parts.file_end ps bs (sym (ap (λ p. p.file_end) laid.parts)) count;
      low = built.low;
      power = built.power;
      page = built.page;
      small = built.small;
      word_count = word-count l h;
      ro = built.ro;
      code = built.code;
      init = built.init;
      fini = built.fini;
      relro = built.relro;
      written = built.written;
    }
