-- The file of a plan is read back as it was planned, or refused by a name or an array.
use Rattle.std.proofs.Common.{◌≡◌, ℕ, ◌+◌, ◌*◌, ◌^◌, ◌<◌, ◌≤◌, true, false, List, [], ◌∷◌, ◌++◌, length, map, Option, Some, None, Ok, refl, arith}
use Rattle.std.specs.Prelude.{option_to_list}
use Rattle.std.specs.List.{AllByRecursion}
use Rattle.cap_elf.specs.DynView.{dyn_view}
use Rattle.cap_readback.specs.Content.{symbol_of, symbol_read, Name, Ends, IsLibrary, Planned, IsGood}
use Rattle.cap_readback.specs.View.{IsOwn, Content, strings, symbol_count, words, IsPlanned, is_plain, Refused, view_of}
use Rattle.cap_readback.specs.Layout.{Pieces, bodies_of}
use Rattle.cap_readback.specs.Law.{file_of, IsSymbol, IsWord, IsPlan, null_planned}
use Rattle.std.specs.Prelude.{◌==◌}
use Rattle.std.proofs.Common.{ap, ◌∙◌, length-append}
use Rattle.cap_elf.specs.Records.{null_symbol}
use Rattle.cap_readback.specs.Lists.{placed}
use Rattle.cap_readback.proofs.View.{offset-inside}
use Rattle.cap_readback.proofs.File.{symbol-names-end, own-names-end, needed-names-end, reads-back, refuses-others}
use Rattle.cap_readback.proofs.Laying.{last_end-above, file-runs, laid-is, init-is, fini-is}

goods : (bytes : List ℕ) (ps : List Planned) → length bytes ≤ 2 ^ 26 → AllByRecursion IsSymbol ps → AllByRecursion (Ends bytes) (map (λ p. p.name) ps) → AllByRecursion (IsGood bytes) ps
goods bytes [] short h e = tt
goods bytes (p ∷ ps) short h e =
    let inside = offset-inside bytes p.name e.0 in
    let s = h.0 in (
      record {
        small = (omega (arith, inside, short), (omega (arith, s.kind, s.binding), (omega (arith, s.visibility), (s.section_fits, (s.value_fits, (s.size_fits, tt))))));
        stands = e.0;
        printable = s.printable;
        some = s.some;
        short = s.short;
        kind = s.kind;
        binding = s.binding;
        visibility = s.visibility;
        section = s.section;
      },
      goods bytes ps short h.1 e.1,
    )

libraries : (bytes : List ℕ) (ns : List Name) → AllByRecursion IsWord ns → AllByRecursion (Ends bytes) ns → AllByRecursion (IsLibrary bytes) ns
libraries bytes [] h e = tt
libraries bytes (n ∷ ns) h e = (record { stands = e.0; no_zero = h.0.no_zero; short = h.0.short }, libraries bytes ns h.1 e.1)

own-library : (bytes : List ℕ) (own : Option Name) → AllByRecursion (IsLibrary bytes) (option_to_list own) → IsOwn bytes own
own-library bytes None h = tt
own-library bytes (Some n) h = h.0

pub planned-is : (c : Content) (p : Pieces) → IsPlan c p → IsPlanned c
planned-is c p h =
    let l = h.layout in
    let laid = laid-is c p l in
    let ro = last_end-above (c.at.names_at + length (strings c)) p.ro in
    let names_in : c.at.names_at + length (strings c) ≤ c.at.ro_end = omega (arith, l.ro_end, ro) in
    let words_in : c.at.hash_at + 4 * (2 + c.buckets + symbol_count c) ≤ c.at.ro_end = omega (arith, l.names_at, names_in) in
    let caps_in : c.at.cap_relocs_at + 40 * length c.caps ≤ c.at.ro_end = omega (arith, l.hash_at, words_in) in
    let relas_in : c.at.relas_at + 24 * length c.relas ≤ c.at.ro_end = omega (arith, l.caps_at, caps_in) in
    let symbols_in : c.at.symbols_at + 24 * symbol_count c ≤ c.at.ro_end = omega (arith, l.relas_at, relas_in) in
    let short : length (strings c) ≤ 2 ^ 26 = omega (arith, names_in, laid) in
    record {
      laid = laid;
      flags = h.flags;
      pure = h.pure;
      entry = h.entry;
      symbols_in = symbols_in;
      relas_in = relas_in;
      caps_in = caps_in;
      words_in = words_in;
      names_in = names_in;
      few_symbols = h.few_symbols;
      few_relocs = h.few_relocs;
      some_bucket = h.some_bucket;
      word_count = l.word_count;
      words = (omega (arith, words_in, laid), (omega (arith, h.few_symbols), h.words));
      needed = libraries (strings c) c.needed h.needed (needed-names-end c h.named);
      own = own-library (strings c) c.own (libraries (strings c) (option_to_list c.own) h.own (own-names-end c h.named));
      symbols = goods (strings c) c.symbols short h.symbols (symbol-names-end c h.named);
      new = h.new;
      relas = h.relas;
      caps = h.caps;
      init = init-is c p l;
      fini = fini-is c p l;
    }

-- the file of a plain plan is read back as it was planned
pub link-reads-back : (c : Content) (p : Pieces) → IsPlan c p → is_plain c ≡ true → dyn_view (file_of c p) ≡ Ok (view_of c)
link-reads-back c p h plain =
    let runs = file-runs c p h.layout in
    reads-back c (bodies_of c p) runs.apart runs.end_is (planned-is c p h) plain

-- any other is refused by a name or by an array
pub link-refuses-others : (c : Content) (p : Pieces) → IsPlan c p → is_plain c ≡ false → Refused (dyn_view (file_of c p))
link-refuses-others c p h plain =
    let runs = file-runs c p h.layout in
    refuses-others c (bodies_of c p) runs.apart runs.end_is (planned-is c p h) plain

-- a table from its second record on
pub placed-shift : {X Y : Type 0} (f : ℕ → X → Y) (at size n : ℕ) (xs : List X) → placed f (at + size) size n xs ≡ placed f at size (n + 1) xs
placed-shift f at size n [] = refl
placed-shift f at size n (x ∷ xs) =
    let e : at + size + size * n ≡ at + size * (n + 1) = omega arith in
    let rest = placed-shift f at size (n + 1) xs in
    rw (e, rest) refl

-- the symbols are those of the table, the null symbol first
pub symbols-with-null : (c : Content) → (view_of c).symbols ≡ placed symbol_read c.at.symbols_at 24 0 (null_planned ∷ c.symbols)
symbols-with-null c =
    let e : c.at.symbols_at ≡ c.at.symbols_at + 24 * 0 = omega arith in
    let rest : placed symbol_read (c.at.symbols_at + 24) 24 0 c.symbols ≡ placed symbol_read c.at.symbols_at 24 (0 + 1) c.symbols = placed-shift symbol_read c.at.symbols_at 24 0 c.symbols in
    ap (λ xs. null_symbol c.at.symbols_at ∷ xs) rest ∙ ap (λ k. null_symbol k ∷ placed symbol_read c.at.symbols_at 24 (0 + 1) c.symbols) e
