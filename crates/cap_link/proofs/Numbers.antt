-- The numbers of a link fit their fields.
use Rattle.std.proofs.Common.{◌≡◌, ℕ, suc, ◌+◌, ◌-◌, ◌*◌, ◌^◌, ◌≤◌, ◌<◌, Bool, true, false, not, cond, List, [], ◌∷◌, length, map, refl, arith, Option, Some, None}
use Rattle.std.specs.Prelude.{filter, slice_index_or, unwrap_or, IfSome, All, FitsSigned, nat_le, nat_lt, ◌&&◌, ◌==◌, ℤ, pos, negsuc, nat_abs, position}
use Rattle.std.specs.Int.{w64, cast_signed, cast_unsigned}
use Rattle.std.specs.Option.{option_map, option_map_or}
use Rattle.std.specs.List.{enumerate_from, AllByRecursion}
use Rattle.std.proofs.lemmas.List.Quantifiers.{position-Some}
use mir.Val.{sel}
use Rattle.cap_base.specs.Text.{is_plain as is_printable}
use Rattle.cap_elf.specs.declared.records.Class.TheVariants.{Data, Bss}
use Rattle.cap_elf.specs.declared.records.DynReloc.{DynReloc}
use Rattle.cap_elf.specs.declared.records.Reloc.{Reloc}
use Rattle.cap_elf.specs.declared.records.Place.{Place}
use Rattle.cap_elf.specs.declared.records.Place.TheVariants as places
use Rattle.cap_elf.specs.declared.records.Symbol.{Symbol}
use Rattle.cap_elf.specs.Classes.{is_split, is_code, same_class}
use Rattle.cap_elf.specs.IsRelRead.{IsRelRead, IsRelSymbol}
use Rattle.cap_elf.specs.ReadLaws.{SymbolFits, RelocFits, AreFields}
use Rattle.cap_elf.specs.Records.{null_symbol, place_of}
use Rattle.cap_elf.specs.RelObject.{RelObject, file_of, symbol_of, no_object}
use Rattle.cap_elf.specs.Symbols.{is_reserved}
use Rattle.cap_syms.specs.Decisions.{is_present, is_merged, is_weakly_absent}
use Rattle.cap_syms.specs.IsResolved.{IsRow}
use Rattle.cap_syms.specs.Resolved.{Resolved, row_of}
use Rattle.cap_layout.specs.declared.piece.Piece.{Piece}
use Rattle.cap_layout.specs.Pieces.{no_piece, piece_of, piece_at, holds_offset, is_of_section, common_index}
use Rattle.cap_layout.specs.Points.{Laid, address_of, class_at, symbol_at, place_address, piece_interval, placed_interval, interval_of, offset_of, point_of}
use Rattle.cap_table.specs.declared.target.Target.{Target}
use Rattle.cap_table.specs.declared.target.Step.{Step}
use Rattle.cap_table.specs.Kinds.{is_slot}
use Rattle.cap_table.specs.Targets.{Named, row_target, is_dynamic, is_loose_target, is_absolute_at}
use Rattle.cap_table.specs.Checks.{reloc_of, no_reloc}
use Rattle.cap_table.specs.Planned.{Planned, fields_of, is_field}
use Rattle.cap_table.specs.declared.describing.Described.{Described}
use Rattle.cap_table.specs.Lists.{Want, DynSymbolValue, slot_want, field_want, slot_wants, field_wants, wants, nothing_described, piece_described, loose_described, section_number, interval_described, described, cap_reloc_of, symbol_index, dyn_reloc_of, present_symbol, absent_symbol, dyn_symbol}
use Rattle.cap_readback.specs.Stands.{AreSmall}
use Rattle.cap_readback.specs.Content.{IsGoodReloc, cap_fields}
use Rattle.cap_readback.specs.Law.{IsSymbol}
use Rattle.cap_link.specs.Content.{planned_symbol, planned_from}
use Rattle.cap_link.proofs.Placing.{IsLow, all-both}
use Rattle.cap_link.proofs.Lowering.{IsLowLaid, at-index, last-passes}

-- ---- signed numbers
sum-below : (n : ℕ) → nat_lt n (2 ^ 63) ≡ true → n < 2 ^ 63
sum-below n h = grind arith

sum-above : (n : ℕ) → nat_lt n (2 ^ 63) ≡ false → 2 ^ 64 - suc n < 2 ^ 63
sum-above n h = let le : 2 ^ 63 ≤ n = grind arith in omega (arith, le)

chosen-fits : (b : Bool) (n : ℕ) → nat_lt n (2 ^ 63) ≡ b → FitsSigned w64 (sel b (pos n) (negsuc (2 ^ 64 - suc n)))
chosen-fits true n e = record { sfits = sum-below n e }
chosen-fits false n e = record { sfits = sum-above n e }

cast-fits : (n : ℕ) → FitsSigned w64 (cast_signed w64 n)
cast-fits n = chosen-fits (nat_lt n (2 ^ 63)) n refl

unsigned-below : (z : ℤ) → FitsSigned w64 z → cast_unsigned w64 z < 2 ^ 64
unsigned-below (pos n) h = let lt : n < 2 ^ 63 = h.sfits in omega (arith, lt)
unsigned-below (negsuc n) h = omega arith

absolute-below : (z : ℤ) → FitsSigned w64 z → nat_abs z < 2 ^ 64
absolute-below (pos n) h = let lt : n < 2 ^ 63 = h.sfits in omega (arith, lt)
absolute-below (negsuc n) h = let lt : n < 2 ^ 63 = h.sfits in omega (arith, lt)

-- ---- lists
pub recursed : {X : Type 0} (P : X → Type 0) (xs : List X) → All P xs → AllByRecursion P xs
recursed P [] h = tt
recursed P (x ∷ xs) h = (h 0 x (omega arith), recursed P xs (λ k d lt. h (suc k) d (omega (arith, lt))))

pub all-weaker : {X : Type 0} (P Q : X → Type 0) (xs : List X) → ((x : X) → P x → Q x) → AllByRecursion P xs → AllByRecursion Q xs
all-weaker P Q [] f h = tt
all-weaker P Q (x ∷ xs) f h = (f x h.0, all-weaker P Q xs f h.1)

pub all-mapped : {X Y : Type 0} (P : X → Type 0) (Q : Y → Type 0) (f : X → Y) (xs : List X) → ((x : X) → P x → Q (f x)) → AllByRecursion P xs → AllByRecursion Q (map f xs)
all-mapped P Q f [] g h = tt
all-mapped P Q f (x ∷ xs) g h = (g x h.0, all-mapped P Q f xs g h.1)

one-filtered : {X : Type 0} (P : X → Type 0) (b : Bool) (x : X) (xs : List X) → P x → AllByRecursion P xs → AllByRecursion P (cond b (x ∷ xs) xs)
one-filtered P true x xs h g = (h, g)
one-filtered P false x xs h g = g

pub all-filtered : {X : Type 0} (P : X → Type 0) (test : X → Bool) (xs : List X) → AllByRecursion P xs → AllByRecursion P (filter test xs)
all-filtered P test [] h = tt
all-filtered P test (x ∷ xs) h = one-filtered P (test x) x (filter test xs) h.0 (all-filtered P test xs h.1)

-- ---- the numbers of the inputs
pub record HaveFields (rels : List RelObject) : Type 0 where
  pub symbol : (file symbol : ℕ) → SymbolFits (symbol_of (file_of rels file) symbol)
  pub binding : (file symbol : ℕ) → (symbol_of (file_of rels file) symbol).binding ≤ 2
  pub addend : (s : Step) → FitsSigned w64 (reloc_of rels s).addend

abbrev pub SymbolsFit : RelObject → Type 0
SymbolsFit object = (i : ℕ) → SymbolFits (symbol_of object i)

abbrev pub BindingsFit : RelObject → Type 0
BindingsFit object = (i : ℕ) → (symbol_of object i).binding ≤ 2

abbrev pub AddendsFit : RelObject → Type 0
AddendsFit object = (i : ℕ) → FitsSigned w64 (slice_index_or object.relocs i no_reloc).addend

null-fits : SymbolFits (null_symbol 0)
null-fits = record { value = omega arith; size = omega arith }

none-fits : FitsSigned w64 (pos 0)
none-fits = record { sfits = omega arith }

symbols-fit : (object : RelObject) → AreFields object → SymbolsFit object
symbols-fit object h i = at-index SymbolFits object.symbols i (null_symbol 0) null-fits (recursed SymbolFits object.symbols h.symbols)

bindings-fit : (object : RelObject) → IsRelRead object → BindingsFit object
bindings-fit object h i =
    at-index (λ (s : Symbol). s.binding ≤ 2) object.symbols i (null_symbol 0) (omega arith)
    (all-weaker (IsRelSymbol object.sections) (λ (s : Symbol). s.binding ≤ 2) object.symbols (λ s x. x.binding) (recursed (IsRelSymbol object.sections) object.symbols h.symbols_are))

addends-fit : (object : RelObject) → AreFields object → AddendsFit object
addends-fit object h i =
    at-index (λ (r : Reloc). FitsSigned w64 r.addend) object.relocs i no_reloc none-fits
    (all-weaker RelocFits (λ (r : Reloc). FitsSigned w64 r.addend) object.relocs (λ r x. x.addend) (recursed RelocFits object.relocs h.relocs))

pub fields-are : (rels : List RelObject) → AllByRecursion IsRelRead rels → AllByRecursion AreFields rels → HaveFields rels
fields-are rels read fields = record {
  symbol = λ file symbol. at-index SymbolsFit rels file no_object (λ i. null-fits) (all-weaker AreFields SymbolsFit rels symbols-fit fields) symbol;
  binding = λ file symbol. at-index BindingsFit rels file no_object (λ i. omega arith) (all-weaker IsRelRead BindingsFit rels bindings-fit read) symbol;
  addend = λ s. at-index AddendsFit rels s.file no_object (λ i. none-fits) (all-weaker AreFields AddendsFit rels addends-fit fields) s.index;
}

-- ---- places
last-and : (a b : Bool) → (a && b) ≡ true → b ≡ true
last-and true b h = h
last-and false b h = absurd (cc)

at-most : (a b : ℕ) → nat_le a b ≡ true → a ≤ b
at-most a b h = grind arith

place-one : (laid : Laid) → IsLowLaid laid → (offset : ℕ) (o : Option ℕ) → ((i : ℕ) → o ≡ Some i → offset ≤ (piece_of laid.pieces.all i).start + (piece_of laid.pieces.all i).size)
    → IfSome (option_map (λ i. address_of laid i + (offset - (piece_of laid.pieces.all i).start)) o) IsLow
place-one laid low offset None f = tt
place-one laid low offset (Some i) f =
    let h = f i refl in
    let a = low.ends i in
    let b = low.fits i in
    omega (arith, h, a, b)

offset-inside : (ps : List Piece) (file section offset i : ℕ) → piece_at ps file section offset ≡ Some i → offset ≤ (piece_of ps i).start + (piece_of ps i).size
offset-inside ps file section offset i e =
    let p = piece_of ps i in
    let h = last-passes (holds_offset file section offset) ps no_piece i e in
    at-most offset (p.start + p.size) (last-and (is_of_section file section p && nat_le p.start offset) (nat_le offset (p.start + p.size)) h)

pub place-low : (laid : Laid) → IsLowLaid laid → (file section offset : ℕ) → IfSome (place_address laid file section offset) IsLow
place-low laid low file section offset = place-one laid low offset (piece_at laid.pieces.all file section offset) (λ i e. offset-inside laid.pieces.all file section offset i e)

unwrap-low : (o : Option ℕ) → IfSome o IsLow → unwrap_or o 0 ≤ 2 ^ 26
unwrap-low None h = omega arith
unwrap-low (Some a) h = h

-- ---- intervals
abbrev pub IsSmallInterval : ℕ × ℕ → Type 0
IsSmallInterval i = (i.0 < 2 ^ 64) × (i.1 < 2 ^ 64)

piece-small : (laid : Laid) → IsLowLaid laid → (o : Option ℕ) → IfSome (option_map (piece_interval laid) o) IsSmallInterval
piece-small laid low None = tt
piece-small laid low (Some i) = let h = low.ends i in (omega (arith, h), omega (arith, h))

sized-small : (size : ℕ) → size < 2 ^ 64 → (o : Option ℕ) → IfSome o IsLow → IfSome (option_map (λ a. (a, size)) o) IsSmallInterval
sized-small size lt None h = tt
sized-small size lt (Some a) h = (omega (arith, h), lt)

either-interval : (b : Bool) (x y : Option (ℕ × ℕ)) → IfSome x IsSmallInterval → IfSome y IsSmallInterval → IfSome (cond b x y) IsSmallInterval
either-interval true x y h g = h
either-interval false x y h g = g

placed-small : (laid : Laid) → IsLowLaid laid → (file symbol : ℕ) (s : Symbol) (place : Place) → s.size < 2 ^ 64 → IfSome (placed_interval laid file symbol s place) IsSmallInterval
placed-small laid low file symbol s places.Undefined lt = tt
placed-small laid low file symbol s places.Absolute lt = tt
placed-small laid low file symbol s places.Common lt = piece-small laid low (common_index laid.pieces.all file symbol)
placed-small laid low file symbol s (places.Section n) lt =
    either-interval (is_split (class_at laid file n) && not (s.size == 0))
    (option_map (piece_interval laid) (piece_at laid.pieces.all file n s.value))
    (option_map (λ a. (a, s.size)) (place_address laid file n s.value))
    (piece-small laid low (piece_at laid.pieces.all file n s.value))
    (sized-small s.size lt (place_address laid file n s.value) (place-low laid low file n s.value))

pub interval-small : (laid : Laid) → IsLowLaid laid → HaveFields laid.rels → (file symbol : ℕ) → IfSome (interval_of laid file symbol) IsSmallInterval
interval-small laid low fields file symbol =
    let s = symbol_at laid file symbol in placed-small laid low file symbol s s.place (fields.symbol file symbol).size

-- ---- what is wanted
pub record IsGoodWant (w : Want) : Type 0 where
  pub address : w.address ≤ 2 ^ 26
  pub kind : w.kind < 2 ^ 32
  pub addend : FitsSigned w64 w.addend

slots-good : (laid : Laid) (n : ℕ) (ts : List Target) → laid.parts.slots_at + 16 * (n + length ts) ≤ 2 ^ 26 → AllByRecursion IsGoodWant (map (slot_want laid) (enumerate_from n ts))
slots-good laid n [] h = tt
slots-good laid n (t ∷ ts) h = (
  record { address = omega (arith, h); kind = omega arith; addend = none-fits },
  slots-good laid (n + 1) ts (omega (arith, h)),
)

slot-kind : (kind : ℕ) → is_slot kind ≡ true → kind < 2 ^ 32
slot-kind kind h = grind arith

one-field : (named : Named) (laid : Laid) (b : Bool) (s : Step) (ss : List Step) → is_field named s ≡ b → IsLowLaid laid → HaveFields named.rels → AllByRecursion IsGoodWant (map (field_want named laid) ss) → AllByRecursion IsGoodWant (map (field_want named laid) (cond b (s ∷ ss) ss))
one-field named laid true s ss e low fields rest =
    let r = reloc_of named.rels s in (
      record {
        address = unwrap-low (place_address laid s.file r.section r.offset) (place-low laid low s.file r.section r.offset);
        kind = slot-kind r.kind e;
        addend = fields.addend s;
      },
      rest,
    )
one-field named laid false s ss e low fields rest = rest

fields-good : (named : Named) (laid : Laid) (ss : List Step) → IsLowLaid laid → HaveFields named.rels → AllByRecursion IsGoodWant (map (field_want named laid) (fields_of named ss))
fields-good named laid [] low fields = tt
fields-good named laid (s ∷ ss) low fields = one-field named laid (is_field named s) s (fields_of named ss) refl low fields (fields-good named laid ss low fields)

pub wants-good : (named : Named) (plan : Planned) (laid : Laid) → IsLowLaid laid → HaveFields named.rels → laid.parts.slots_at + 16 * length plan.slots ≤ 2 ^ 26 → AllByRecursion IsGoodWant (wants named plan laid)
wants-good named plan laid low fields h =
    all-both IsGoodWant (slot_wants plan laid) (field_wants named plan laid) (slots-good laid 0 plan.slots (omega (arith, h))) (fields-good named laid plan.steps low fields)

-- ---- relocations
either-reloc : (P : DynReloc → Type 0) (b : Bool) (x y : DynReloc) → P x → P y → P (cond b x y)
either-reloc P true x y h g = h
either-reloc P false x y h g = g

index-below : (rows : List ℕ) (row : ℕ) (o : Option ℕ) → ((i : ℕ) → o ≡ Some i → i < length rows) → option_map_or (λ i. i + 1) o 0 < 1 + length rows
index-below rows row None f = omega arith
index-below rows row (Some i) f = let h = f i refl in omega (arith, h)

symbol-below : (rows : List ℕ) (row : Option ℕ) → symbol_index rows row < 1 + length rows
symbol-below rows None = omega arith
symbol-below rows (Some row) = index-below rows row (position (λ r. r == row) rows) (λ i e. (position-Some (λ (r : ℕ). r == row) rows i 0 e).0)

pub reloc-good : (rows : List ℕ) (laid : Laid) (w : Want) → 1 + length rows ≤ 2 ^ 20 → IsGoodWant w → IsGoodReloc (1 + length rows) (dyn_reloc_of rows laid w)
unfolding dyn_reloc_of
reloc-good rows laid w few h =
    let index = symbol-below rows w.target.row in
    let point = unwrap_or (point_of laid w.target.file w.target.symbol w.addend) 0 in
    let left : DynReloc = record { slot = w.address; kind = w.kind; symbol = symbol_index rows w.target.row; addend = w.addend; at = 0 } in
    let here : DynReloc = record { slot = w.address; kind = 3; symbol = 0; addend = cast_signed w64 point; at = 0 } in
    let a = h.address in
    either-reloc (IsGoodReloc (1 + length rows)) (is_dynamic w.target) left here
    (record { small = (omega (arith, a), (h.kind, (omega (arith, index, few), (unsigned-below w.addend h.addend, tt)))); signed = h.addend; symbol = index })
    (record { small = (omega (arith, a), (omega arith, (omega arith, (unsigned-below (cast_signed w64 point) (cast-fits point), tt)))); signed = cast-fits point; symbol = omega arith })

-- ---- descriptions
pub record IsGoodDescription (d : Described) : Type 0 where
  pub object : d.object < 2 ^ 64
  pub offset : d.offset < 2 ^ 64
  pub size : d.size < 2 ^ 64

nothing-good : IsGoodDescription nothing_described
nothing-good = record { object = omega arith; offset = omega arith; size = omega arith }

piece-described : (laid : Laid) → IsLowLaid laid → (offset : ℕ) (o : Option ℕ) → ((i : ℕ) → o ≡ Some i → offset ≤ (piece_of laid.pieces.all i).start + (piece_of laid.pieces.all i).size)
    → IsGoodDescription (option_map_or (piece_described laid offset) o nothing_described)
piece-described laid low offset None f = nothing-good
piece-described laid low offset (Some i) f =
    let h = f i refl in
    let a = low.ends i in
    let b = low.fits i in
    record { object = omega (arith, a); offset = omega (arith, h, a, b); size = omega (arith, a) }

loose-good : (laid : Laid) → IsLowLaid laid → (file section : ℕ) (o : Option ℕ) → IsGoodDescription (option_map_or (loose_described laid file section) o nothing_described)
loose-good laid low file section None = nothing-good
loose-good laid low file section (Some offset) = piece-described laid low offset (piece_at laid.pieces.all file section offset) (λ i e. offset-inside laid.pieces.all file section offset i e)

abbrev pub interval_as : ℤ → ℕ × ℕ → Described
interval_as addend i = record { object = i.0; offset = nat_abs addend; size = i.1 }

interval-good : (addend : ℤ) → FitsSigned w64 addend → (o : Option (ℕ × ℕ)) → IfSome o IsSmallInterval → IsGoodDescription (option_map_or (interval_as addend) o nothing_described)
interval-good addend h None g = nothing-good
interval-good addend h (Some i) g = record { object = g.0; offset = absolute-below addend h; size = g.1 }

either-description : (b : Bool) (x y : Described) → IsGoodDescription x → IsGoodDescription y → IsGoodDescription (cond b x y)
either-description true x y h g = h
either-description false x y h g = g

described-good : (laid : Laid) → IsLowLaid laid → HaveFields laid.rels → (t : Target) (addend : ℤ) → FitsSigned w64 addend → IsGoodDescription (described laid t addend)
unfolding described
described-good laid low fields t addend h =
    either-description (is_loose_target t)
    (option_map_or (loose_described laid t.file (section_number t.as_is.place)) (offset_of t.as_is.value addend) nothing_described)
    (interval_described laid t.file t.symbol addend)
    (loose-good laid low t.file (section_number t.as_is.place) (offset_of t.as_is.value addend))
    (interval-good addend h (interval_of laid t.file t.symbol) (interval-small laid low fields t.file t.symbol))

chosen-permissions : (a b c : Bool) → cond a (2 ^ 63) (cond b 0 (cond c 0 (2 ^ 62))) < 2 ^ 64
chosen-permissions true b c = omega arith
chosen-permissions false true c = omega arith
chosen-permissions false false true = omega arith
chosen-permissions false false false = omega arith

pub cap-good : (laid : Laid) → IsLowLaid laid → HaveFields laid.rels → (w : Want) → IsGoodWant w → AreSmall (cap_fields (cap_reloc_of laid w))
unfolding cap_reloc_of
cap-good laid low fields w h =
    let d = described-good laid low fields w.target w.addend h.addend in
    let a = h.address in
    let class = w.target.class in
    (omega (arith, a), (d.object, (d.offset, (d.size, (chosen-permissions (is_code class) (same_class class Data) (same_class class Bss), tt)))))

-- ---- symbols
pub record IsGoodSymbol (s : DynSymbolValue) : Type 0 where
  pub printable : is_printable s.name ≡ true
  pub some : 0 < length s.name
  pub short : length s.name ≤ 255
  pub kind : s.kind ≤ 5
  pub binding : s.binding ≤ 2
  pub visibility : s.visibility < 4
  pub section : is_reserved (place_of s.section) ≡ false
  pub section_fits : s.section < 2 ^ 16
  pub value_fits : s.value < 2 ^ 64
  pub size_fits : s.size < 2 ^ 64

planned-good : (at : ℕ) (s : DynSymbolValue) → IsGoodSymbol s → IsSymbol (planned_symbol at s)
planned-good at s h = record {
  printable = h.printable;
  some = h.some;
  short = h.short;
  kind = h.kind;
  binding = h.binding;
  visibility = h.visibility;
  section = h.section;
  section_fits = h.section_fits;
  value_fits = h.value_fits;
  size_fits = h.size_fits;
}

pub all-planned : (at : ℕ) (ss : List DynSymbolValue) → AllByRecursion IsGoodSymbol ss → AllByRecursion IsSymbol (planned_from at ss)
all-planned at [] h = tt
all-planned at (s ∷ ss) h = (planned-good at s h.0, all-planned (at + length s.name + 1) ss h.1)

either-number : (P : ℕ → Type 0) (b : Bool) (x y : ℕ) → P x → P y → P (cond b x y)
either-number P true x y h g = h
either-number P false x y h g = g

unwrap-small : (o : Option (ℕ × ℕ)) → IfSome o IsSmallInterval → IsSmallInterval (unwrap_or o (0, 0))
unwrap-small None h = (omega arith, omega arith)
unwrap-small (Some i) h = h

abbrev pub Wide : ℕ → Type 0
Wide n = n < 2 ^ 64

present-good : (named : Named) (laid : Laid) (row : ℕ) → laid.rels ≡ named.rels → IsLowLaid laid → HaveFields named.rels → HaveFields laid.rels → IsRow named.rels (row_of named.table row) → IsGoodSymbol (present_symbol laid (row_of named.table row) (row_target named row))
unfolding present_symbol row_target
present-good named laid row same low fields in_laid h =
    let r = row_of named.table row in
    let t = row_target named row in
    let absolute = is_absolute_at t.as_is.place in
    let interval = unwrap_or (interval_of laid t.file t.symbol) (0, 0) in
    let small = unwrap-small (interval_of laid t.file t.symbol) (interval-small laid low in_laid t.file t.symbol) in
    let fits = fields.symbol r.entry.file r.entry.symbol in
    record {
      printable = h.short.plain;
      some = h.some;
      short = h.short.short;
      kind = either-number (λ (n : ℕ). n ≤ 5) (is_code t.class) 2 1 (omega arith) (omega arith);
      binding = either-number (λ (n : ℕ). n ≤ 2) (is_merged r.entry.shape) 1 t.as_is.binding (omega arith) (fields.binding r.entry.file r.entry.symbol);
      visibility = h.visibility;
      section = either-number (λ (n : ℕ). is_reserved (place_of n) ≡ false) absolute 0xfff1 1 refl refl;
      section_fits = either-number (λ (n : ℕ). n < 2 ^ 16) absolute 0xfff1 1 (omega arith) (omega arith);
      value_fits = either-number Wide absolute t.as_is.value interval.0 fits.value small.0;
      size_fits = either-number Wide absolute t.as_is.size interval.1 fits.size small.1;
    }

absent-good : (rels : List RelObject) (r : Resolved) → IsRow rels r → IsGoodSymbol (absent_symbol r)
unfolding absent_symbol
absent-good rels r h = record {
  printable = h.short.plain;
  some = h.some;
  short = h.short.short;
  kind = omega arith;
  binding = either-number (λ (n : ℕ). n ≤ 2) (is_weakly_absent r.entry.shape) 2 1 (omega arith) (omega arith);
  visibility = omega arith;
  section = refl;
  section_fits = omega arith;
  value_fits = omega arith;
  size_fits = omega arith;
}

either-symbol : (b : Bool) (x y : DynSymbolValue) → IsGoodSymbol x → IsGoodSymbol y → IsGoodSymbol (cond b x y)
either-symbol true x y h g = h
either-symbol false x y h g = g

pub symbol-good : (named : Named) (laid : Laid) (row : ℕ) → laid.rels ≡ named.rels → IsLowLaid laid → HaveFields named.rels → HaveFields laid.rels → IsRow named.rels (row_of named.table row) → IsGoodSymbol (dyn_symbol named laid row)
symbol-good named laid row same low fields in_laid h =
    let r = row_of named.table row in
    either-symbol (is_present r.entry.shape) (present_symbol laid r (row_target named row)) (absent_symbol r) (present-good named laid row same low fields in_laid h) (absent-good named.rels r h)
