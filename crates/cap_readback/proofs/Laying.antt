-- The parts of a layout are apart, and lie as a reader wants them.
use Rattle.std.proofs.Common.{◌≡◌, ℕ, ◌+◌, ◌*◌, ◌%◌, ◌≤◌, List, [], ◌∷◌, ◌++◌, length, replicate, refl, sym, ap, ◌∙◌, subst, arith, length-append}
use Rattle.std.specs.Int.{next_multiple_of}
use Rattle.std.specs.List.{flat_map}
use Rattle.cap_readback.specs.Spread.{Chunk, AreApart, spread_end}
use Rattle.cap_readback.specs.Plan.{AreLaid}
use Rattle.cap_readback.specs.Stands.{fields}
use Rattle.cap_readback.specs.Written.{header_fields, segment_bytes, headers_of_file}
use Rattle.cap_readback.specs.Lists.{entry_bytes}
use Rattle.cap_readback.specs.Content.{symbol_bytes, reloc_bytes, cap_bytes, word_bytes}
use Rattle.cap_readback.specs.View.{Content, strings, symbol_count, dynamics, entries, words, IsArray}
use Rattle.cap_readback.specs.File.{chunks}
use Rattle.cap_readback.specs.Layout.{Piece, address_after, end_after, last_end, pieces_at, AreFilled, array_start, array_end, Pieces, slots_end, init_end, fini_end, relro_end, IsLayout, bodies_of}

-- ---- chunks one after the other
pub apart-lower : (low high : ℕ) (cs : List Chunk) → low ≤ high → AreApart high cs → AreApart low cs
apart-lower low high [] le h = tt
apart-lower low high (c ∷ cs) le h = (omega (arith, le, h.0), h.1)

pub apart-append : (at : ℕ) (cs ds : List Chunk) → AreApart at cs → AreApart (spread_end at cs) ds → AreApart at (cs ++ ds)
apart-append at [] ds a b = b
apart-append at (c ∷ cs) ds a b = (a.0, apart-append (c.0 + length c.1) cs ds a.1 b)

pub spread_end-append : (at : ℕ) (cs ds : List Chunk) → spread_end at (cs ++ ds) ≡ spread_end (spread_end at cs) ds
spread_end-append at [] ds = refl
spread_end-append at (c ∷ cs) ds = spread_end-append (c.0 + length c.1) cs ds

-- records of one size
pub length-records : {X : Type 0} (write : X → List ℕ) (size : ℕ) (xs : List X) → ((x : X) → length (write x) ≡ size) → length (flat_map write xs) ≡ size * length xs
length-records write size [] h = omega arith
length-records write size (x ∷ xs) h =
    let rest = length-records write size xs h in
    omega (arith, length-append (write x) (flat_map write xs), h x, rest)

-- ---- pieces
pub next-above : (x y : ℕ) → x ≤ next_multiple_of x y
next-above x y = omega arith

pub last_end-above : (end : ℕ) (ps : List Piece) → end ≤ last_end end ps
last_end-above end [] = omega arith
last_end-above end (p ∷ ps) = let rest = last_end-above (end_after end p) ps in omega (arith, rest, next-above end p.align)

pub array_start-above : (end : ℕ) (ps : List Piece) → end ≤ array_start end ps
array_start-above end [] = omega arith
array_start-above end (p ∷ ps) = next-above end 16

pub array_end-above : (end : ℕ) (ps : List Piece) → end ≤ array_end end ps
array_end-above end ps = omega (arith, array_start-above end ps, last_end-above (array_start end ps) ps)

pub pieces-apart : (end : ℕ) (ps : List Piece) → AreFilled ps → AreApart end (pieces_at end ps)
pieces-apart end [] h = tt
pieces-apart end (p ∷ ps) h =
    let e : end_after end p ≡ address_after end p + length p.bytes = omega (arith, h.0) in
    (next-above end p.align, subst (λ k. AreApart k (pieces_at (end_after end p) ps)) e (pieces-apart (end_after end p) ps h.1))

pub pieces-end : (end : ℕ) (ps : List Piece) → AreFilled ps → spread_end end (pieces_at end ps) ≡ last_end end ps
pieces-end end [] h = refl
pieces-end end (p ∷ ps) h =
    let e : address_after end p + length p.bytes ≡ end_after end p = omega (arith, h.0) in
    ap (λ k. spread_end k (pieces_at (end_after end p) ps)) e ∙ pieces-end (end_after end p) ps h.1

array-pieces-end : (end : ℕ) (ps : List Piece) → AreFilled ps → spread_end end (pieces_at (array_start end ps) ps) ≡ array_end end ps
array-pieces-end end [] h = refl
array-pieces-end end (p ∷ ps) h = pieces-end (next_multiple_of end 16) (p ∷ ps) h

array-pieces-apart : (end : ℕ) (ps : List Piece) → AreFilled ps → AreApart end (pieces_at (array_start end ps) ps)
array-pieces-apart end ps h = apart-lower end (array_start end ps) (pieces_at (array_start end ps) ps) (array_start-above end ps) (pieces-apart (array_start end ps) ps h)

-- a list of chunks that is laid from a place on, and where it ends
pub record Runs (at : ℕ) (cs : List Chunk) (end : ℕ) : Type 0 where
  pub apart : AreApart at cs
  pub end_is : spread_end at cs ≡ end

pub runs-append : (at middle end : ℕ) (cs ds : List Chunk) → Runs at cs middle → Runs middle ds end → Runs at (cs ++ ds) end
runs-append at middle end cs ds a b = record {
  apart = apart-append at cs ds a.apart (subst (λ k. AreApart k ds) (sym a.end_is) b.apart);
  end_is = spread_end-append at cs ds ∙ ap (λ k. spread_end k ds) a.end_is ∙ b.end_is;
}

pub runs-cons : (at next end : ℕ) (c : Chunk) (cs : List Chunk) → at ≤ c.0 → c.0 + length c.1 ≡ next → Runs next cs end → Runs at (c ∷ cs) end
runs-cons at next end c cs le e r = record {
  apart = (le, subst (λ k. AreApart k cs) (sym e) r.apart);
  end_is = ap (λ k. spread_end k cs) e ∙ r.end_is;
}

pub runs-pieces : (end : ℕ) (ps : List Piece) → AreFilled ps → Runs end (pieces_at end ps) (last_end end ps)
runs-pieces end ps h = record { apart = pieces-apart end ps h; end_is = pieces-end end ps h }

pub runs-array : (end : ℕ) (ps : List Piece) → AreFilled ps → Runs end (pieces_at (array_start end ps) ps) (array_end end ps)
runs-array end ps h = record { apart = array-pieces-apart end ps h; end_is = array-pieces-end end ps h }

-- ---- the file
pub file-runs : (c : Content) (p : Pieces) → IsLayout c p → Runs 0 (chunks c (bodies_of c p)) c.at.file_end
file-runs c p l =
    let b = bodies_of c p in
    let names_end = c.at.names_at + length (strings c) in
    let stubs_end = c.at.stubs_at + length p.stubs in
    let symbols : length (replicate 24 0 ++ flat_map symbol_bytes c.symbols) ≡ 24 * symbol_count c = omega (arith, length-append (replicate 24 0) (flat_map symbol_bytes c.symbols), length-records symbol_bytes 24 c.symbols (λ x. refl)) in
    let relas = length-records reloc_bytes 24 c.relas (λ x. refl) in
    let caps = length-records cap_bytes 40 c.caps (λ x. refl) in
    let hash : length (flat_map word_bytes (words c)) ≡ 4 * (2 + c.buckets + symbol_count c) = omega (arith, length-records word_bytes 4 (words c) (λ x. refl), l.word_count) in
    let dyns = length-records entry_bytes 16 (dynamics c) (λ x. refl) in
    let end : Runs c.at.table_end b.written c.at.file_end = subst (λ k. Runs c.at.table_end b.written k) (sym l.file_end) (runs-pieces c.at.table_end p.written l.written) in
    let up : relro_end c p ≤ c.at.table_end = omega (arith, l.table_end, next-above (relro_end c p) 4096) in
    let r7 = runs-cons (relro_end c p) c.at.table_end c.at.file_end (c.at.table_end, []) b.written up (omega arith) end in
    let tables : Runs (slots_end c p) b.tables (relro_end c p) =
    runs-append (slots_end c p) (init_end c p) (relro_end c p) (pieces_at (array_start (slots_end c p) p.init) p.init) (pieces_at (array_start (init_end c p) p.fini) p.fini ++ pieces_at (fini_end c p) p.relro)
    (runs-array (slots_end c p) p.init l.init)
    (runs-append (init_end c p) (fini_end c p) (relro_end c p) (pieces_at (array_start (init_end c p) p.fini) p.fini) (pieces_at (fini_end c p) p.relro) (runs-array (init_end c p) p.fini l.fini) (runs-pieces (fini_end c p) p.relro l.relro)) in
    let r6 = runs-append (slots_end c p) (relro_end c p) c.at.file_end b.tables ((c.at.table_end, []) ∷ b.written) tables r7 in
    let r5 = runs-cons c.at.slots_at (slots_end c p) c.at.file_end (c.at.slots_at, p.slots) (b.tables ++ ((c.at.table_end, []) ∷ b.written)) (omega arith) refl r6 in
    let r4 = runs-cons c.at.code_end c.at.slots_at c.at.file_end (c.at.dynamic_at, flat_map entry_bytes (dynamics c)) ((c.at.slots_at, p.slots) ∷ (b.tables ++ ((c.at.table_end, []) ∷ b.written))) (omega (arith, l, next-above c.at.code_end 4096)) (omega (arith, l, dyns)) r5 in
    let code : Runs stubs_end b.code c.at.code_end = subst (λ k. Runs stubs_end b.code k) (sym l.code_end) (runs-pieces stubs_end p.code l.code) in
    let tail = (c.at.dynamic_at, flat_map entry_bytes (dynamics c)) ∷ (c.at.slots_at, p.slots) ∷ (b.tables ++ ((c.at.table_end, []) ∷ b.written)) in
    let r3 = runs-append stubs_end c.at.code_end c.at.file_end b.code tail code r4 in
    let r2 = runs-cons c.at.ro_end stubs_end c.at.file_end (c.at.stubs_at, p.stubs) (b.code ++ tail) (omega (arith, l, next-above c.at.ro_end 4096)) refl r3 in
    let ro : Runs names_end b.ro c.at.ro_end = subst (λ k. Runs names_end b.ro k) (sym l.ro_end) (runs-pieces names_end p.ro l.ro) in
    let behind_ro = (c.at.stubs_at, p.stubs) ∷ (b.code ++ tail) in
    let r1 = runs-append names_end c.at.ro_end c.at.file_end b.ro behind_ro ro r2 in
    let c7 = runs-cons c.at.names_at names_end c.at.file_end (c.at.names_at, strings c) (b.ro ++ behind_ro) (omega arith) refl r1 in
    let c6 = runs-cons c.at.hash_at c.at.names_at c.at.file_end (c.at.hash_at, flat_map word_bytes (words c)) ((c.at.names_at, strings c) ∷ (b.ro ++ behind_ro)) (omega arith) (omega (arith, l, hash)) c7 in
    let s6 = (c.at.hash_at, flat_map word_bytes (words c)) ∷ (c.at.names_at, strings c) ∷ (b.ro ++ behind_ro) in
    let c5 = runs-cons c.at.cap_relocs_at c.at.hash_at c.at.file_end (c.at.cap_relocs_at, flat_map cap_bytes c.caps) s6 (omega arith) (omega (arith, l, caps)) c6 in
    let s5 = (c.at.cap_relocs_at, flat_map cap_bytes c.caps) ∷ s6 in
    let c4 = runs-cons c.at.relas_at c.at.cap_relocs_at c.at.file_end (c.at.relas_at, flat_map reloc_bytes c.relas) s5 (omega arith) (omega (arith, l, relas)) c5 in
    let s4 = (c.at.relas_at, flat_map reloc_bytes c.relas) ∷ s5 in
    let c3 = runs-cons c.at.symbols_at c.at.relas_at c.at.file_end (c.at.symbols_at, replicate 24 0 ++ flat_map symbol_bytes c.symbols) s4 (omega arith) (omega (arith, l, symbols)) c4 in
    let s3 = (c.at.symbols_at, replicate 24 0 ++ flat_map symbol_bytes c.symbols) ∷ s4 in
    let c2 = runs-cons 64 c.at.symbols_at c.at.file_end (64, flat_map segment_bytes (headers_of_file c.at (length (dynamics c)))) s3 (omega arith) (sym l.symbols_at) c3 in
    runs-cons 0 64 c.at.file_end (0, fields (header_fields c.flags c.entry)) ((64, flat_map segment_bytes (headers_of_file c.at (length (dynamics c)))) ∷ s3) (omega arith) refl c2

-- ---- what the reader wants
pub laid-is : (c : Content) (p : Pieces) → IsLayout c p → AreLaid c.at (length (dynamics c))
laid-is c p l =
    let ro = last_end-above (c.at.names_at + length (strings c)) p.ro in
    let code = last_end-above (c.at.stubs_at + length p.stubs) p.code in
    let init = array_end-above (slots_end c p) p.init in
    let fini = array_end-above (init_end c p) p.fini in
    let relro = last_end-above (fini_end c p) p.relro in
    let written = last_end-above c.at.table_end p.written in
    let zero = last_end-above c.at.file_end p.zero in
    let n1 = next-above c.at.ro_end 4096 in
    let n2 = next-above c.at.code_end 4096 in
    let n3 = next-above (relro_end c p) 4096 in
    let some = length-append (entries c) ((0, 0) ∷ []) in
    record {
      headers = omega arith;
      ro = omega arith;
      code = omega arith;
      code_end = omega arith;
      dynamic = l.dynamic_at;
      entries = omega arith;
      some_entry = omega (arith, some);
      table_end = omega arith;
      data_follows = omega arith;
      file_end = omega arith;
      low = l.low;
      power = l.power;
      page = l.page;
      small = l.small;
    }

array-place : (x : ℕ) → next_multiple_of x 16 % 16 ≡ 0
array-place x = omega arith

pub init-is : (c : Content) (p : Pieces) → IsLayout c p → IsArray c.at c.at.init_at c.at.init_size
init-is c p l =
    let init = array_end-above (slots_end c p) p.init in
    let fini = array_end-above (init_end c p) p.fini in
    let relro = last_end-above (fini_end c p) p.relro in
    let n0 = next-above (slots_end c p) 16 in
    record {
      start_whole = ap (λ k. k % 16) l.init_at ∙ array-place (slots_end c p);
      from = omega arith;
      end = omega arith;
    }

pub fini-is : (c : Content) (p : Pieces) → IsLayout c p → IsArray c.at c.at.fini_at c.at.fini_size
fini-is c p l =
    let init = array_end-above (slots_end c p) p.init in
    let fini = array_end-above (init_end c p) p.fini in
    let relro = last_end-above (fini_end c p) p.relro in
    let n0 = next-above (init_end c p) 16 in
    record {
      start_whole = ap (λ k. k % 16) l.fini_at ∙ array-place (init_end c p);
      from = omega arith;
      end = omega arith;
    }
