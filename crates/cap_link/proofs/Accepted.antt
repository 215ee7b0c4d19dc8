-- An accepted link gives a plan of a file that can be read back.
use Rattle.std.proofs.Common.{◌≡◌, ℕ, suc, zero, ◌+◌, ◌*◌, ◌^◌, ◌≤◌, ◌<◌, Bool, true, false, not, cond, List, [], ◌∷◌, ◌++◌, length, map, drop, refl, sym, ap, ◌∙◌, subst, arith, Option, Some, None}
use Rattle.std.specs.Prelude.{filter, IfSome, option_to_list, unwrap_or, ◌==◌, ◌&&◌, pos, ◌+ℤ◌}
use Rattle.std.specs.Int.{is_power_of_two}
use Rattle.std.specs.List.{range_with_len, AllByRecursion}
use Rattle.std.specs.Option.{option_map, option_and_then}
use Rattle.cap_base.specs.declared.kind.Kind.{Kind}
use Rattle.cap_names.specs.Hash.{system_v_hash_of}
use Rattle.cap_chain.specs.Words.{bucket_count, bucket_of, last_below, last_in, bucket_words, name_words}
use Rattle.cap_elf.specs.declared.records.Class.TheVariants.{Ro, Code, Init, Fini, Relro, Data}
use Rattle.cap_elf.specs.declared.records.Place.{Place}
use Rattle.cap_elf.specs.declared.records.Place.TheVariants as places
use Rattle.cap_elf.specs.declared.records.Symbol.{Symbol}
use Rattle.cap_elf.specs.declared.records.DynReloc.{DynReloc}
use Rattle.cap_elf.specs.declared.records.CapReloc.{CapReloc}
use Rattle.cap_elf.specs.Classes.{is_kept}
use Rattle.cap_elf.specs.IsRelRead.{IsRelRead}
use Rattle.cap_elf.specs.ReadLaws.{ReadLaws}
use Rattle.cap_elf.specs.RelObject.{RelObject}
use Rattle.cap_syms.specs.Output.{is_program, soname_of}
use Rattle.cap_syms.specs.IsResolved.{IsResolved}
use Rattle.cap_syms.specs.ResolveLaws.{TablesAreResolved}
use Rattle.cap_syms.specs.Resolved.{index_of}
use Rattle.cap_layout.specs.declared.parts.Parts.{Parts}
use Rattle.cap_layout.specs.Pieces.{PieceList, all_pieces, common_index}
use Rattle.cap_layout.specs.Parts.{parts_of, whole_alignment}
use Rattle.cap_layout.specs.Points.{Laid, address_of, class_at, symbol_at, place_address, placed_point, is_loose, point_of, offset_of, wrapped}
use Rattle.cap_table.specs.declared.target.Target.{Target}
use Rattle.cap_table.specs.Targets.{Named, row_target, is_address, is_section_at}
use Rattle.cap_table.specs.Planned.{Planned, sizes_of, planned, exported, is_relocated, is_described}
use Rattle.cap_table.specs.Lists.{Want, CapTableValue, DynSymbolValue, wants, dyn_symbol, dyn_reloc_of, cap_reloc_of, filled}
use Rattle.cap_code.specs.Values.{Scene}
use Rattle.cap_readback.specs.Stands.{AreSmall}
use Rattle.cap_readback.specs.Content.{IsGoodReloc, cap_fields}
use Rattle.cap_readback.specs.Law.{IsSymbol, IsPlan, file_of}
use Rattle.cap_readback.proofs.Aligned.{AreApartNames, new-is}
use Rattle.cap_link.specs.Inputs.{Input}
use Rattle.cap_link.specs.Linked.{Linked, start_name, start_address, start_of_row, entry_of, file_of_link}
use Rattle.cap_link.specs.Laws.{IsAccepted}
use Rattle.cap_link.specs.Content.{planned_from, names_of_symbols, named_symbols, own_at, needed_at, content_of, pieces_by_class}
use Rattle.cap_link.proofs.Made.{AreListed, IsLaidOut}
use Rattle.cap_link.proofs.Naming.{named-is, planned-length}
use Rattle.cap_link.proofs.Viewing.{length-hashes}
use Rattle.cap_link.proofs.Placing.{IsLow, all-both}
use Rattle.cap_link.proofs.Segmented.{ordered-are}
use Rattle.cap_link.proofs.Planning.{IsBuilt, layout-is}
use Rattle.cap_link.proofs.Writing.{HasKind, file-is}
use Rattle.cap_link.proofs.Passes.{link-passed, IsPlanned, plan-passed}
use Rattle.cap_link.proofs.Sizing.{stubs-passed, listed-is, sized-is, laid-out-is}
use Rattle.cap_link.proofs.Lowering.{Fits, low-ends, low-pieces, IsLowLaid, low-laid}
use Rattle.cap_link.proofs.Numbers.{HaveFields, fields-are, IsGoodWant, wants-good, reloc-good, cap-good, all-filtered, all-mapped, all-weaker, all-planned, IsGoodSymbol, place-low}
use Rattle.cap_link.proofs.Rows.{exported-good, exported-apart}
use Rattle.cap_link.proofs.Plain.{IsShort, IsGoodName, words-from, own-word}
use Rattle.cap_link.proofs.Filling.{backward, IsHeld, bodies-long, bodies-count, class-filled}
use Rattle.cap_link.proofs.Holding.{pieces-held, steps-placed}
use Rattle.cap_link.proofs.Aligning.{grows, HasPower, pieces-align, whole-aligned}
use Rattle.cap_link.proofs.FilesAre.{files-sound, own-names-good, AreFlags, flags-good}

-- ---- the entry
abbrev pub IsWide : ℕ → Type 0
IsWide n = n < 2 ^ 64

at-zero : (a : ℕ) → a ≤ 2 ^ 26 → wrapped (pos a +ℤ pos 0) < 2 ^ 64
at-zero a h = omega (arith, h)

mapped-wide : (f : ℕ → ℕ) (o : Option ℕ) → ((a : ℕ) → o ≡ Some a → f a < 2 ^ 64) → IfSome (option_map f o) IsWide
mapped-wide f None h = tt
mapped-wide f (Some a) h = h a refl

some-low : (o : Option ℕ) (a : ℕ) → IfSome o IsLow → o ≡ Some a → a ≤ 2 ^ 26
some-low o a h e = subst (λ (x : Option ℕ). IfSome x IsLow) e h

chained-wide : (f : ℕ → Option ℕ) (o : Option ℕ) → ((a : ℕ) → IfSome (f a) IsWide) → IfSome (option_and_then f o) IsWide
chained-wide f None h = tt
chained-wide f (Some a) h = h a

low-wide : (o : Option ℕ) → IfSome o IsLow → IfSome o IsWide
low-wide None h = tt
low-wide (Some a) h = omega (arith, h)

either-wide : (b : Bool) (x y : Option ℕ) → IfSome x IsWide → IfSome y IsWide → IfSome (cond b x y) IsWide
either-wide true x y h g = h
either-wide false x y h g = g

placed-wide : (laid : Laid) → IsLowLaid laid → (file symbol : ℕ) (s : Symbol) (place : Place) → IfSome (placed_point laid file symbol s (pos 0) place) IsWide
placed-wide laid low file symbol s places.Undefined = tt
placed-wide laid low file symbol s places.Absolute = tt
placed-wide laid low file symbol s places.Common =
    mapped-wide (λ i. wrapped (pos (address_of laid i) +ℤ pos 0)) (common_index laid.pieces.all file symbol)
    (λ i e. let h = low.ends i in at-zero (address_of laid i) (omega (arith, h)))
placed-wide laid low file symbol s (places.Section n) =
    either-wide (is_loose (class_at laid file n) s)
    (option_and_then (place_address laid file n) (offset_of s.value (pos 0)))
    (option_map (λ a. wrapped (pos a +ℤ pos 0)) (place_address laid file n s.value))
    (chained-wide (place_address laid file n) (offset_of s.value (pos 0)) (λ offset. low-wide (place_address laid file n offset) (place-low laid low file n offset)))
    (mapped-wide (λ a. wrapped (pos a +ℤ pos 0)) (place_address laid file n s.value)
    (λ a e. at-zero a (some-low (place_address laid file n s.value) a (place-low laid low file n s.value) e)))

unwrap-wide : (o : Option ℕ) → IfSome o IsWide → unwrap_or o 0 < 2 ^ 64
unwrap-wide None h = omega arith
unwrap-wide (Some a) h = h

either-number : (b : Bool) (x : ℕ) → x < 2 ^ 64 → cond b x 0 < 2 ^ 64
either-number true x h = h
either-number false x h = omega arith

start-wide : (laid : Laid) → IsLowLaid laid → (t : Target) → start_address laid t < 2 ^ 64
unfolding start_address
start-wide laid low t =
    let s = symbol_at laid t.file t.symbol in
    either-number (is_address t && is_section_at t.as_is.place && is_kept t.class) (unwrap_or (point_of laid t.file t.symbol (pos 0)) 0)
    (unwrap-wide (point_of laid t.file t.symbol (pos 0)) (placed-wide laid low t.file t.symbol s s.place))

row-wide : (named : Named) (laid : Laid) → IsLowLaid laid → (o : Option ℕ) → start_of_row named laid o < 2 ^ 64
row-wide named laid low None = omega arith
row-wide named laid low (Some row) = start-wide laid low (row_target named row)

entry-wide : (named : Named) (laid : Laid) (kind : Kind) → IsLowLaid laid → entry_of named laid kind < 2 ^ 64
unfolding entry_of
entry-wide named laid kind low = either-number (is_program kind) (start_of_row named laid (index_of named.table start_name)) (row-wide named laid low (index_of named.table start_name))

-- ---- the words of the hash table
one-last : (b : Bool) (i k : ℕ) → k ≤ i → cond b i k ≤ suc i
one-last true i k h = omega arith
one-last false i k h = omega (arith, h)

last-low : (p : ℕ → Bool) (n : ℕ) → last_below p n ≤ n
last-low p zero = omega arith
last-low p (suc i) = let rest = last-low p i in one-last (not (i == 0) && p i) i (last_below p i) rest

abbrev pub IsWord32 : ℕ → Type 0
IsWord32 w = w < 2 ^ 32

all-of-map : {X : Type 0} (P : ℕ → Type 0) (f : X → ℕ) (xs : List X) → ((x : X) → P (f x)) → AllByRecursion P (map f xs)
all-of-map P f [] h = tt
all-of-map P f (x ∷ xs) h = (h x, all-of-map P f xs h)

range-below : (limit i n : ℕ) → i + n ≤ limit → AllByRecursion (λ k. k ≤ limit) (range_with_len i n)
range-below limit i zero h = tt
range-below limit i (suc n) h = (omega (arith, h), range-below limit (i + 1) n (omega (arith, h)))

words-low : (hashes : List ℕ) (buckets n : ℕ) → n ≤ 2 ^ 20 → AllByRecursion IsWord32 (bucket_words hashes buckets n ++ name_words hashes buckets n)
words-low hashes buckets n few =
    let firsts : AllByRecursion IsWord32 (bucket_words hashes buckets n) =
    all-of-map IsWord32 (λ b. last_in hashes buckets b n) (range_with_len 0 buckets) (λ b. let h = last-low (λ (i : ℕ). bucket_of hashes buckets i == b) n in omega (arith, h, few)) in
    let links : AllByRecursion IsWord32 (name_words hashes buckets n) =
    all-mapped (λ (k : ℕ). k ≤ n) IsWord32 (λ i. last_in hashes buckets (bucket_of hashes buckets i) i) (range_with_len 0 n)
    (λ i le. let h = last-low (λ (k : ℕ). bucket_of hashes buckets k == bucket_of hashes buckets i) i in omega (arith, h, le, few)) (range-below n 0 n (omega arith)) in
    all-both IsWord32 (bucket_words hashes buckets n) (name_words hashes buckets n) firsts links

-- ---- the laws of the lower crates
pub record LowerLaws : Type 0 where
  pub read : ReadLaws
  pub resolve : TablesAreResolved

slots-low : {a b c d : ℕ} → a ≡ b → c ≡ d → b + 16 * c ≤ 2 ^ 26 → a + 16 * d ≤ 2 ^ 26
slots-low x y h = omega (arith, x, y, h)

-- ---- the bridge
pub record IsBridged (l : Linked) : Type 0 where
  pub listed : AreListed l
  pub laid_out : IsLaidOut l
  pub short : AllByRecursion IsShort (l.lists.plan.needed ++ option_to_list l.lists.plan.soname)
  pub plan : IsPlan (content_of l) (pieces_by_class l)
  pub file : file_of_link l ≡ file_of (content_of l) (pieces_by_class l)

pub symbols-made : (needed : List (List ℕ)) (soname : Option (List ℕ)) (l : Linked) → l.lists ≡ filled l.named l.lists.plan l.laid → IsPlanned l.named l.laid.pieces.all needed soname l.lists.plan → named_symbols l ≡ map (dyn_symbol l.named l.laid) (exported l.named.table)
unfolding filled planned
symbols-made needed soname l is h =
    let rows : l.lists.plan.symbols ≡ exported l.named.table = ap (λ (p : Planned). p.symbols) h.is in
    ap (drop 1) (ap (λ (x : CapTableValue). x.symbols) is) ∙ ap (map (dyn_symbol l.named l.laid)) rows

relas-made : (l : Linked) → l.lists ≡ filled l.named l.lists.plan l.laid → l.lists.relas ≡ map (dyn_reloc_of l.lists.plan.symbols l.laid) (filter (λ w. is_relocated w.kind w.target) (wants l.named l.lists.plan l.laid))
unfolding filled
relas-made l is = ap (λ (x : CapTableValue). x.relas) is

pub caps-made : (l : Linked) → l.lists ≡ filled l.named l.lists.plan l.laid → l.lists.cap_relocs ≡ map (cap_reloc_of l.laid) (filter (λ w. is_described w.kind w.target) (wants l.named l.lists.plan l.laid))
unfolding filled
caps-made l is = ap (λ (x : CapTableValue). x.cap_relocs) is

names-planned : (needed : List (List ℕ)) (soname : Option (List ℕ)) (l : Linked) → IsPlanned l.named l.laid.pieces.all needed soname l.lists.plan → (l.lists.plan.needed ≡ needed) × (l.lists.plan.soname ≡ soname)
unfolding planned
names-planned needed soname l h = (ap (λ (p : Planned). p.needed) h.is, ap (λ (p : Planned). p.soname) h.is)

slots-planned : (needed : List (List ℕ)) (soname : Option (List ℕ)) (l : Linked) → IsPlanned l.named l.laid.pieces.all needed soname l.lists.plan → l.lists.plan.sizes.slots ≡ length l.lists.plan.slots
unfolding planned sizes_of
slots-planned needed soname l h = ap (λ (p : Planned). p.sizes.slots) h.is ∙ ap length (sym (ap (λ (p : Planned). p.slots) h.is))

more-words : (l : Linked) → AreListed l → length l.lists.symbols ≤ 2 ^ 20 → AllByRecursion IsWord32 (content_of l).more
unfolding content_of
more-words l h few =
    let hashes = map system_v_hash_of (names_of_symbols l.lists.symbols) in
    let n = length hashes in
    words-low hashes (bucket_count n) n (omega (arith, length-hashes l.lists.symbols, few))

some-bucket : (l : Linked) → 0 < (content_of l).buckets
unfolding content_of
some-bucket l = omega arith

small-kind : (n : ℕ) (r : DynReloc) → IsGoodReloc n r → HasKind r
small-kind n r h = let lt = h.small.1.0 in omega (arith, lt)

short-name : (name : List ℕ) → IsGoodName name → IsShort name
short-name name h = h.short

pub bridge : LowerLaws → (inputs : List Input) (kind : Kind) (l : Linked) → IsAccepted inputs kind l → IsBridged l
unfolding content_of pieces_by_class
bridge laws inputs kind l accepted =
    let passed = link-passed inputs kind l accepted.link_is in
    let files = passed.files in
    let table = passed.table in
    let p = passed.passes in
    let sound = files-sound laws.read inputs files accepted.inputs_are.names accepted.inputs_are.files passed.files_are in
    let resolved : IsResolved files.rels table = laws.resolve files.rels (is_program kind) table (backward IsRelRead files.rels sound.rels) (files.dyns, passed.table_is) in
    let soname = soname_of kind in
    let planned_is = plan-passed l.named l.laid.pieces.all files.needed soname l.lists.plan p.plan in
    let scene : Scene = record { named = l.named; laid = l.laid; lists = l.lists } in
    let stubs = stubs-passed scene l.bodies p.bodies in
    let listed = listed-is files files.needed soname l p.lists planned_is in
    let sized = sized-is files.needed soname l p.lists planned_is listed stubs in
    let out = laid-out-is files.rels files.needed soname l p.laid planned_is in
    let ps = l.laid.pieces.all in
    let n = l.lists.plan.sizes in
    let all_is : ps ≡ all_pieces files.rels table = ap (λ (q : PieceList). q.all) p.pieces in
    let ordered = ordered-are files.rels table ps n l.laid.addresses all_is out.addresses in
    let ends = low-ends ps n p.low in
    let low_pieces = low-pieces files.rels table ps n l.laid.addresses all_is out.addresses ends in
    let named_rels : l.named.rels ≡ files.rels = ap (λ (x : Named). x.rels) p.named in
    let laid_rels : l.laid.rels ≡ files.rels = ap (λ (x : Laid). x.rels) p.laid in
    let fields = fields-are files.rels sound.rels sound.fields in
    let named_fields : HaveFields l.named.rels = subst HaveFields (sym named_rels) fields in
    let laid_fields : HaveFields l.laid.rels = subst HaveFields (sym laid_rels) fields in
    let table_is : IsResolved l.named.rels l.named.table = subst (λ (x : Named). IsResolved x.rels x.table) (sym p.named) resolved in
    let pieces = pieces-held files.rels table sound.rels resolved in
    let held_all : AllByRecursion (IsHeld files.rels) ps = subst (AllByRecursion (IsHeld files.rels)) (sym all_is) pieces.0 in
    let low : IsLowLaid l.laid = low-laid l.laid (all-weaker (IsHeld files.rels) Fits ps (λ piece h. h.fits) held_all) low_pieces in
    let powers : AllByRecursion HasPower ps = subst (AllByRecursion HasPower) (sym all_is) pieces.1 in
    let held_here : AllByRecursion (IsHeld l.named.rels) ps = subst (λ (rels : List RelObject). AllByRecursion (IsHeld rels) ps) (sym named_rels) held_all in
    let steps = steps-placed l.named ps l.lists.plan.steps held_here planned_is.walk in
    let lengths = bodies-long scene l.bodies stubs (record { pieces = held_here; steps = steps.0; some = steps.1 }) in
    let aligned = whole-aligned ps (parts_of ps n).table_end ends.table powers (pieces-align files.rels table ps n all_is ends) in
    let align_is : l.laid.parts.align ≡ whole_alignment ps (parts_of ps n).table_end = ap (λ (x : Parts). x.align) out.parts in
    let built : IsBuilt l = record {
      count = bodies-count ps l.bodies.pieces lengths;
      ro = class-filled Ro ps l.bodies.pieces refl lengths;
      code = class-filled Code ps l.bodies.pieces refl lengths;
      init = class-filled Init ps l.bodies.pieces refl lengths;
      fini = class-filled Fini ps l.bodies.pieces refl lengths;
      relro = class-filled Relro ps l.bodies.pieces refl lengths;
      written = class-filled Data ps l.bodies.pieces refl lengths;
      low = subst IsLow (sym (ap (λ (x : Parts). x.mem_end) out.parts)) ends.memory;
      power = ap is_power_of_two align_is ∙ aligned.power;
      page = subst (λ (k : ℕ). 4096 ≤ k) (sym align_is) aligned.page;
      small = subst (λ (k : ℕ). k ≤ 2 ^ 26) (sym align_is) aligned.small;
    } in
    let count : 1 + length (planned_from 1 (named_symbols l)) ≡ 1 + length l.lists.plan.symbols = omega (arith, planned-length 1 (named_symbols l), listed.rows) in
    let few : 1 + length l.lists.plan.symbols ≤ 2 ^ 20 = omega (arith, planned_is.few_symbols, sized.symbols, listed.rows) in
    let symbols_are = symbols-made files.needed soname l p.lists planned_is in
    let good : AllByRecursion IsGoodSymbol (named_symbols l) = subst (AllByRecursion IsGoodSymbol) (sym symbols_are) (exported-good l.named l.laid (laid_rels ∙ sym named_rels) low named_fields laid_fields table_is) in
    let symbols : AllByRecursion IsSymbol (planned_from 1 (named_symbols l)) = all-planned 1 (named_symbols l) good in
    let apart : AreApartNames (planned_from 1 (named_symbols l)) = subst (λ (ss : List DynSymbolValue). AreApartNames (planned_from 1 ss)) (sym symbols_are) (exported-apart l.named l.laid table_is) in
    let slots_end : l.laid.parts.slots_at + 16 * length l.lists.plan.slots ≤ 2 ^ 26 =
    slots-low (ap (λ (x : Parts). x.slots_at) out.parts) (slots-planned files.needed soname l planned_is) ends.slots in
    let wanted = wants-good l.named l.lists.plan l.laid low named_fields slots_end in
    let relas_here : AllByRecursion (IsGoodReloc (1 + length l.lists.plan.symbols)) l.lists.relas =
    subst (AllByRecursion (IsGoodReloc (1 + length l.lists.plan.symbols))) (sym (relas-made l p.lists))
    (all-mapped IsGoodWant (IsGoodReloc (1 + length l.lists.plan.symbols)) (dyn_reloc_of l.lists.plan.symbols l.laid) (filter (λ (w : Want). is_relocated w.kind w.target) (wants l.named l.lists.plan l.laid))
    (λ w h. reloc-good l.lists.plan.symbols l.laid w few h) (all-filtered IsGoodWant (λ (w : Want). is_relocated w.kind w.target) (wants l.named l.lists.plan l.laid) wanted)) in
    let relas : AllByRecursion (IsGoodReloc (1 + length (planned_from 1 (named_symbols l)))) l.lists.relas =
    subst (λ (k : ℕ). AllByRecursion (IsGoodReloc k) l.lists.relas) (sym count) relas_here in
    let caps : AllByRecursion (λ x. AreSmall (cap_fields x)) l.lists.cap_relocs =
    subst (AllByRecursion (λ (x : CapReloc). AreSmall (cap_fields x))) (sym (caps-made l p.lists))
    (all-mapped IsGoodWant (λ (x : CapReloc). AreSmall (cap_fields x)) (cap_reloc_of l.laid) (filter (λ (w : Want). is_described w.kind w.target) (wants l.named l.lists.plan l.laid))
    (λ w h. cap-good l.laid low laid_fields w h) (all-filtered IsGoodWant (λ (w : Want). is_described w.kind w.target) (wants l.named l.lists.plan l.laid) wanted)) in
    let names = names-planned files.needed soname l planned_is in
    let needed_good : AllByRecursion IsGoodName l.lists.plan.needed = subst (AllByRecursion IsGoodName) (sym names.0) sound.needed in
    let own_good : AllByRecursion IsGoodName (option_to_list l.lists.plan.soname) =
    subst (λ (o : Option (List ℕ)). AllByRecursion IsGoodName (option_to_list o)) (sym names.1) (own-names-good soname accepted.inputs_are.soname) in
    let flags : AreFlags l.flags = subst AreFlags (sym p.flags) (flags-good files.rels sound.fields) in
    let layout = layout-is l listed sized out built grows in
    record {
      listed = listed;
      laid_out = out;
      short = all-weaker IsGoodName IsShort (l.lists.plan.needed ++ option_to_list l.lists.plan.soname) short-name (all-both IsGoodName l.lists.plan.needed (option_to_list l.lists.plan.soname) needed_good own_good);
      plan = record {
        layout = layout;
        named = named-is l;
        flags = flags.fits;
        pure = flags.pure;
        entry = subst IsWide (sym p.entry) (entry-wide l.named l.laid kind low);
        few_symbols = omega (arith, count, few);
        few_relocs = omega (arith, planned_is.few_relocs, sized.relas, sized.cap_relocs);
        some_bucket = some-bucket l;
        words = more-words l listed (omega (arith, ap length listed.symbols, listed.rows, few));
        symbols = symbols;
        new = new-is (planned_from 1 (named_symbols l)) apart;
        relas = relas;
        caps = caps;
        own = own-word (own_at l) l.lists.plan.soname own_good;
        needed = words-from (needed_at l) l.lists.plan.needed needed_good;
      };
      file = file-is l listed sized out built.count ordered symbols (all-weaker (IsGoodReloc (1 + length (planned_from 1 (named_symbols l)))) HasKind l.lists.relas (λ r h. small-kind (1 + length (planned_from 1 (named_symbols l))) r h) relas);
    }
