-- What the intervals of data are in a layout: each is empty, or that of one piece over its padded size.
use Rattle.std.proofs.Common.{◌≡◌, ℕ, suc, zero, ◌+◌, ◌-◌, ◌≤◌, ◌<◌, Bool, true, false, not, cond, List, [], ◌∷◌, length, refl, sym, ap, ◌∙◌, subst, arith, ◌⊎◌, inl, inr, ⊎_elim, Option, Some, None, eq-eqb}
use Rattle.std.specs.Prelude.{slice_index_or, IfSome, nat_le, ◌&&◌, ◌||◌, ◌==◌, ℤ, nat_abs}
use Rattle.std.specs.Option.{option_map, option_map_or, option_or}
use Rattle.std.specs.List.{AllByRecursion}
use Rattle.std.proofs.lemmas.Bool.{cases_lt}
use Rattle.std.proofs.lemmas.List.{get_or_past}
use Rattle.std.proofs.lemmas.List.Quantifiers.{position-Some}
use Rattle.cap_elf.specs.declared.records.Class.{Class}
use Rattle.cap_elf.specs.declared.records.Class.TheVariants.{Ro, Code, Init, Fini, Relro, Data, Bss, Dropped}
use Rattle.cap_elf.specs.declared.records.Place.{Place}
use Rattle.cap_elf.specs.declared.records.Place.TheVariants as places
use Rattle.cap_elf.specs.declared.records.Symbol.{Symbol}
use Rattle.cap_elf.specs.Classes.{is_kept, is_split, is_code, is_array, is_bss}
use Rattle.cap_elf.specs.IsRelRead.{IsRelRead, IsRelSymbol, IsPlaced}
use Rattle.cap_elf.specs.Records.{null_symbol}
use Rattle.cap_elf.specs.RelObject.{RelObject, file_of, section_of, symbol_of, no_object}
use Rattle.cap_layout.specs.declared.piece.Piece.{Piece}
use Rattle.cap_layout.specs.Cuts.{cut_at, is_one_section, cuts_section}
use Rattle.cap_layout.specs.Exact.{IsExactlyLaid, IsPieceOfSymbol, HasPiece}
use Rattle.cap_layout.specs.Pieces.{no_piece, piece_of, piece_at, holds_offset, is_of_section, is_common_of, common_index, last_where}
use Rattle.cap_layout.specs.Points.{Laid, address_of, class_at, symbol_at, place_address, piece_interval, placed_interval, interval_of, offset_of}
use Rattle.cap_table.specs.declared.target.Target.{Target}
use Rattle.cap_table.specs.declared.describing.Described.{Described}
use Rattle.cap_table.specs.Targets.{class_of_place, is_section_at, is_loose_target}
use Rattle.cap_table.specs.Lists.{nothing_described, piece_described, loose_described, section_number, interval_described, described}
use Rattle.cap_link.proofs.Lowering.{at-index, last-passes, some}
use Rattle.cap_link.proofs.Numbers.{recursed, all-weaker}
use Rattle.cap_link.proofs.Filling.{IsHeld, held-at}
use Rattle.cap_link.proofs.Holding.{first-true, second-true, same-number, at-most, not-common}

-- each symbol that has bytes in a split section of these inputs has a piece
abbrev pub CutsHavePieces : List RelObject → List Piece → Type 0
CutsHavePieces rels pieces =
    (file section symbol : ℕ) → file < length rels → symbol < length (file_of rels file).symbols
    → cuts_section (file_of rels file) section (symbol_of (file_of rels file) symbol) ≡ true
    → HasPiece rels pieces file section (symbol_of (file_of rels file) symbol)

-- a layout of inputs that were read
pub record IsSoundly (laid : Laid) : Type 0 where
  pub read : AllByRecursion IsRelRead laid.rels
  pub pieces : AllByRecursion (IsHeld laid.rels) laid.pieces.all
  pub cuts : CutsHavePieces laid.rels laid.pieces.all
  pub exact : IsExactlyLaid laid

-- the interval is that of a piece of data
pub record IsOfPiece (laid : Laid) (piece : ℕ) (x : ℕ × ℕ) : Type 0 where
  pub inside : piece < length laid.pieces.all
  pub split : is_split (piece_of laid.pieces.all piece).class ≡ true
  pub is : x ≡ piece_interval laid piece

-- the interval has no bytes, and lies in the memory of the file
pub record IsEmptyIn (laid : Laid) (x : ℕ × ℕ) : Type 0 where
  pub none : x.1 ≡ 0
  pub within : x.0 ≤ laid.parts.mem_end

abbrev pub IsBounded : Laid → ℕ × ℕ → Type 0
IsBounded laid x = ((piece : ℕ) × IsOfPiece laid piece x) ⊎ IsEmptyIn laid x

-- the piece is the part of a section that the symbol cuts
abbrev pub IsCutBy : Laid → ℕ → ℕ → ℕ → Type 0
IsCutBy laid file symbol piece =
    (section : ℕ) × (((symbol_at laid file symbol).place ≡ places.Section section)
    × IsPieceOfSymbol laid.rels file section (symbol_at laid file symbol) (piece_of laid.pieces.all piece))

-- the piece is that of the common symbol
abbrev pub IsCommonBy : Laid → ℕ → ℕ → ℕ → Type 0
IsCommonBy laid file symbol piece = is_common_of file symbol (piece_of laid.pieces.all piece) ≡ true

pub record IsOfSymbol (laid : Laid) (file symbol piece : ℕ) (x : ℕ × ℕ) : Type 0 where
  pub of : IsOfPiece laid piece x
  pub why : IsCutBy laid file symbol piece ⊎ IsCommonBy laid file symbol piece

-- the interval of a symbol is empty, or that of its piece
abbrev pub IsBoundedBy : Laid → ℕ → ℕ → ℕ × ℕ → Type 0
IsBoundedBy laid file symbol x = ((piece : ℕ) × IsOfSymbol laid file symbol piece x) ⊎ IsEmptyIn laid x

pub bounded-one : (laid : Laid) (file symbol : ℕ) (x : ℕ × ℕ) → IsBoundedBy laid file symbol x → IsBounded laid x
bounded-one laid file symbol x (inl h) = inl (h.0, h.1.of)
bounded-one laid file symbol x (inr h) = inr h

-- ---- found pieces
some-is : (a b : ℕ) → some a ≡ some b → a ≡ b
some-is a b h = cc

inside-first : (b : Bool) (i n : ℕ) → cond b (Some 0) None ≡ Some i → i < suc n
inside-first true zero n e = omega arith
inside-first true (suc i) n e = absurd (cc)
inside-first false i n e = absurd (cc)

inside-later : (b : Bool) (n : ℕ) (o : Option ℕ) (i : ℕ) → ((k : ℕ) → o ≡ Some k → k < n) → option_or (option_map (λ k. k + 1) o) (cond b (Some 0) None) ≡ Some i → i < suc n
inside-later b n None i h e = inside-first b i n e
inside-later b n (Some k) i h e =
    let lt = h k refl in
    let same : k + 1 ≡ i = some-is (k + 1) i e in
    omega (arith, lt, same)

last-inside : {X : Type 0} (p : X → Bool) (xs : List X) (i : ℕ) → last_where p xs ≡ Some i → i < length xs
last-inside p [] i h = absurd (cc)
last-inside p (x ∷ xs) i h = inside-later (p x) (length xs) (last_where p xs) i (λ k e. last-inside p xs k e) h

-- the piece holds the offset of the section, which is kept
pub record IsFound (laid : Laid) (file section offset piece : ℕ) : Type 0 where
  pub inside : piece < length laid.pieces.all
  pub kept : is_kept (class_at laid file section) ≡ true
  pub class : (piece_of laid.pieces.all piece).class ≡ class_at laid file section
  pub end : offset ≤ (piece_of laid.pieces.all piece).start + (piece_of laid.pieces.all piece).size
  pub fits : (piece_of laid.pieces.all piece).size ≤ (piece_of laid.pieces.all piece).padded

found-piece : (laid : Laid) → IsSoundly laid → (file section offset i : ℕ) → piece_at laid.pieces.all file section offset ≡ Some i → IsFound laid file section offset i
found-piece laid sound file section offset i e =
    let ps = laid.pieces.all in
    let p = piece_of ps i in
    let inside = last-inside (holds_offset file section offset) ps i e in
    let holds : holds_offset file section offset p ≡ true = last-passes (holds_offset file section offset) ps no_piece i e in
    let of = is_of_section file section p in
    let front = first-true (of && nat_le p.start offset) (nat_le offset (p.start + p.size)) holds in
    let end = at-most offset (p.start + p.size) (second-true (of && nat_le p.start offset) (nat_le offset (p.start + p.size)) holds) in
    let here = first-true of (nat_le p.start offset) front in
    let pair = first-true (not p.common && p.file == file) (p.place == section) here in
    let place = same-number p.place section (second-true (not p.common && p.file == file) (p.place == section) here) in
    let own = not-common p.common (first-true (not p.common) (p.file == file) pair) in
    let number = same-number p.file file (second-true (not p.common) (p.file == file) pair) in
    let h = held-at (IsHeld laid.rels) ps i no_piece inside sound.pieces in
    let class : p.class ≡ class_at laid file section =
    sym (h.class own) ∙ ap (λ (k : ℕ). (section_of (file_of laid.rels k) p.place).class) number ∙ ap (λ (k : ℕ). (section_of (file_of laid.rels file) k).class) place in
    record { inside = inside; kept = ap is_kept (sym class) ∙ h.kept; class = class; end = end; fits = h.fits }

-- ---- places without bytes
place-low : (address start size padded offset high : ℕ) → address + padded ≤ high → size ≤ padded → offset ≤ start + size → address + (offset - start) ≤ high
place-low address start size padded offset high a b c = omega (arith, a, b, c)

empty-found : (laid : Laid) → IsSoundly laid → (file section offset size : ℕ) (o : Option ℕ) → ((i : ℕ) → o ≡ Some i → IsFound laid file section offset i) → (is_kept (class_at laid file section) ≡ true → size ≡ 0)
    → IfSome (option_map (λ a. (a, size)) (option_map (λ i. address_of laid i + (offset - (piece_of laid.pieces.all i).start)) o)) (IsEmptyIn laid)
empty-found laid sound file section offset size None f none = tt
empty-found laid sound file section offset size (Some i) f none =
    let h = f i refl in
    let p = piece_of laid.pieces.all i in
    record { none = none h.kept; within = place-low (address_of laid i) p.start p.size p.padded offset laid.parts.mem_end (sound.exact.within i h.inside) h.fits h.end }

place-empty : (laid : Laid) → IsSoundly laid → (file section offset size : ℕ) → (is_kept (class_at laid file section) ≡ true → size ≡ 0) → IfSome (option_map (λ a. (a, size)) (place_address laid file section offset)) (IsEmptyIn laid)
place-empty laid sound file section offset size none = empty-found laid sound file section offset size (piece_at laid.pieces.all file section offset) (λ i e. found-piece laid sound file section offset i e) none

not-false : (b : Bool) → not b ≡ false → b ≡ true
not-false true h = refl
not-false false h = absurd (cc)

zero-of : (size : ℕ) → (true && not (size == 0)) ≡ false → size ≡ 0
zero-of size h = same-number size 0 (not-false (size == 0) h)

-- a symbol that is no code, and doesn't cut its section, has no bytes
no-bytes : (c : Class) (size : ℕ) → is_code c ≡ false → (is_array c ≡ true → size ≡ 0) → (is_split c && not (size == 0)) ≡ false → is_kept c ≡ true → size ≡ 0
no-bytes Ro size code label cut kept = zero-of size cut
no-bytes Code size code label cut kept = absurd (cc)
no-bytes Init size code label cut kept = label refl
no-bytes Fini size code label cut kept = label refl
no-bytes Relro size code label cut kept = zero-of size cut
no-bytes Data size code label cut kept = zero-of size cut
no-bytes Bss size code label cut kept = zero-of size cut
no-bytes Dropped size code label cut kept = absurd (cc)

-- ---- symbols
abbrev pub ArePlaced : RelObject → Type 0
ArePlaced object = (i : ℕ) → IsPlaced object.sections (symbol_of object i) (symbol_of object i).place

placed-in : (object : RelObject) → IsRelRead object → ArePlaced object
placed-in object h i =
    at-index (λ (s : Symbol). IsPlaced object.sections s s.place) object.symbols i (null_symbol 0) tt
    (all-weaker (IsRelSymbol object.sections) (λ (s : Symbol). IsPlaced object.sections s s.place) object.symbols (λ s x. x.placed) (recursed (IsRelSymbol object.sections) object.symbols h.symbols_are))

placed-at : (laid : Laid) → IsSoundly laid → (file symbol : ℕ) → IsPlaced (file_of laid.rels file).sections (symbol_at laid file symbol) (symbol_at laid file symbol).place
placed-at laid sound file symbol = at-index ArePlaced laid.rels file no_object (λ i. tt) (all-weaker IsRelRead ArePlaced laid.rels placed-in sound.read) symbol

in-section : (laid : Laid) → IsSoundly laid → (file symbol section : ℕ) → (symbol_at laid file symbol).place ≡ places.Section section → is_array (class_at laid file section) ≡ true → (symbol_at laid file symbol).size ≡ 0
in-section laid sound file symbol section e array =
    let placed : IsPlaced (file_of laid.rels file).sections (symbol_at laid file symbol) (places.Section section) =
    subst (λ (p : Place). IsPlaced (file_of laid.rels file).sections (symbol_at laid file symbol) p) e (placed-at laid sound file symbol) in
    (placed.1.label array).1

inside-or : {X : Type 0} (xs : List X) (i : ℕ) (d : X) → (i < length xs) ⊎ (slice_index_or xs i d ≡ d)
inside-or xs i d = ⊎_elim (λ (lt : i < length xs). inl lt) (λ (le : length xs ≤ i). inr (get_or_past xs i d le)) (cases_lt i (length xs))

abbrev pub IsThere : List RelObject → ℕ → ℕ → Type 0
IsThere rels file symbol = (file < length rels) × (symbol < length (file_of rels file).symbols)

symbol-there : (object : RelObject) (symbol section : ℕ) → (symbol_of object symbol).place ≡ places.Section section → symbol < length object.symbols
symbol-there object symbol section e =
    ⊎_elim (λ (lt : symbol < length object.symbols). lt)
    (λ (d : symbol_of object symbol ≡ null_symbol 0). let bad : places.Undefined ≡ places.Section section = ap (λ (s : Symbol). s.place) (sym d) ∙ e in absurd (cc))
    (inside-or object.symbols symbol (null_symbol 0))

file-there : (rels : List RelObject) (file symbol section : ℕ) → (symbol_of (file_of rels file) symbol).place ≡ places.Section section → file < length rels
file-there rels file symbol section e =
    ⊎_elim (λ (lt : file < length rels). lt)
    (λ (d : file_of rels file ≡ no_object). let bad : places.Undefined ≡ places.Section section = ap (λ (o : RelObject). (symbol_of o symbol).place) (sym d) ∙ e in absurd (cc))
    (inside-or rels file no_object)

cuts-it : (object : RelObject) (section : ℕ) (s : Symbol) → s.place ≡ places.Section section → (is_split (section_of object section).class && not (s.size == 0)) ≡ true → cuts_section object section s ≡ true
cuts-it object section s e h =
    ap (λ (p : Place). is_one_section (Some section) (cut_at object.sections s.size p)) e
    ∙ ap (λ (b : Bool). is_one_section (Some section) (cond b (Some section) None)) h
    ∙ eq-eqb section section refl

either-some : {X : Type 0} (P : X → Type 0) (b : Bool) (x y : Option X) → (b ≡ true → IfSome x P) → (b ≡ false → IfSome y P) → IfSome (cond b x y) P
either-some P true x y h g = h refl
either-some P false x y h g = g refl

weaker-some : {X : Type 0} (P Q : X → Type 0) (o : Option X) → ((x : X) → P x → Q x) → IfSome o P → IfSome o Q
weaker-some P Q None f h = tt
weaker-some P Q (Some x) f h = f x h

cut-bounded : (laid : Laid) → IsSoundly laid → (file symbol section : ℕ) → (symbol_at laid file symbol).place ≡ places.Section section → (is_split (class_at laid file section) && not ((symbol_at laid file symbol).size == 0)) ≡ true
    → IfSome (option_map (piece_interval laid) (piece_at laid.pieces.all file section (symbol_at laid file symbol).value)) (IsBoundedBy laid file symbol)
cut-bounded laid sound file symbol section e cut =
    let s = symbol_at laid file symbol in
    let object = file_of laid.rels file in
    let h = sound.cuts file section symbol (file-there laid.rels file symbol section e) (symbol-there object symbol section e) (cuts-it object section s e cut) in
    let split : is_split (piece_of laid.pieces.all h.piece).class ≡ true = ap is_split h.is.class ∙ first-true (is_split (class_at laid file section)) (not (s.size == 0)) cut in
    let bounded : IsBoundedBy laid file symbol (piece_interval laid h.piece) = inl (h.piece, record { of = record { inside = h.inside; split = split; is = refl }; why = inl (section, (e, h.is)) }) in
    subst (λ (o : Option ℕ). IfSome (option_map (piece_interval laid) o) (IsBoundedBy laid file symbol)) (sym h.found) bounded

bss-of : (b common : Bool) → (b ≡ false → common ≡ false) → common ≡ true → b ≡ true
bss-of true common own h = refl
bss-of false common own h = let bad = own refl in absurd (cc)

bss-splits : (c : Class) → is_bss c ≡ true → is_split c ≡ true
bss-splits Ro h = absurd (cc)
bss-splits Code h = absurd (cc)
bss-splits Init h = absurd (cc)
bss-splits Fini h = absurd (cc)
bss-splits Relro h = absurd (cc)
bss-splits Data h = absurd (cc)
bss-splits Bss h = refl
bss-splits Dropped h = absurd (cc)

common-one : (laid : Laid) → IsSoundly laid → (file symbol : ℕ) (o : Option ℕ) → ((i : ℕ) → o ≡ Some i → (i < length laid.pieces.all) × (is_common_of file symbol (piece_of laid.pieces.all i) ≡ true))
    → IfSome (option_map (piece_interval laid) o) (IsBoundedBy laid file symbol)
common-one laid sound file symbol None f = tt
common-one laid sound file symbol (Some i) f =
    let h = f i refl in
    let p = piece_of laid.pieces.all i in
    let pair = first-true (p.common && (p.file == file)) (p.place == symbol) h.1 in
    let common = first-true p.common (p.file == file) pair in
    let held = held-at (IsHeld laid.rels) laid.pieces.all i no_piece h.0 sound.pieces in
    inl (i, record { of = record { inside = h.0; split = bss-splits p.class (bss-of (is_bss p.class) p.common held.own common); is = refl }; why = inr h.1 })

common-bounded : (laid : Laid) → IsSoundly laid → (file symbol : ℕ) → IfSome (option_map (piece_interval laid) (common_index laid.pieces.all file symbol)) (IsBoundedBy laid file symbol)
common-bounded laid sound file symbol =
    common-one laid sound file symbol (common_index laid.pieces.all file symbol)
    (λ i e. let h = position-Some (is_common_of file symbol) laid.pieces.all i no_piece e in (h.0, h.1))

placed-bounded : (laid : Laid) → IsSoundly laid → (file symbol : ℕ) (place : Place) → (symbol_at laid file symbol).place ≡ place → is_code (class_of_place (file_of laid.rels file) place) ≡ false
    → IfSome (placed_interval laid file symbol (symbol_at laid file symbol) place) (IsBoundedBy laid file symbol)
placed-bounded laid sound file symbol places.Undefined e code = tt
placed-bounded laid sound file symbol places.Absolute e code = tt
placed-bounded laid sound file symbol places.Common e code = common-bounded laid sound file symbol
placed-bounded laid sound file symbol (places.Section n) e code =
    let s = symbol_at laid file symbol in
    let cut = is_split (class_at laid file n) && not (s.size == 0) in
    either-some (IsBoundedBy laid file symbol) cut
    (option_map (piece_interval laid) (piece_at laid.pieces.all file n s.value))
    (option_map (λ a. (a, s.size)) (place_address laid file n s.value))
    (λ cuts. cut-bounded laid sound file symbol n e cuts)
    (λ uncut. weaker-some (IsEmptyIn laid) (IsBoundedBy laid file symbol) (option_map (λ a. (a, s.size)) (place_address laid file n s.value)) (λ x h. inr h)
    (place-empty laid sound file n s.value s.size (λ kept. no-bytes (class_at laid file n) s.size code (in-section laid sound file symbol n e) uncut kept)))

-- the interval of a symbol that isn't code
pub interval-bounded : (laid : Laid) → IsSoundly laid → (file symbol : ℕ) → is_code (class_of_place (file_of laid.rels file) (symbol_at laid file symbol).place) ≡ false → IfSome (interval_of laid file symbol) (IsBoundedBy laid file symbol)
interval-bounded laid sound file symbol code = placed-bounded laid sound file symbol (symbol_at laid file symbol).place refl code

-- ---- descriptions
-- a target is the symbol of its file and number, and has that symbol's class
pub record IsMeaning (rels : List RelObject) (t : Target) : Type 0 where
  pub as_is : t.as_is ≡ symbol_of (file_of rels t.file) t.symbol
  pub class : t.class ≡ class_of_place (file_of rels t.file) t.as_is.place

pub meant-code : (rels : List RelObject) (t : Target) → IsMeaning rels t → is_code t.class ≡ false → is_code (class_of_place (file_of rels t.file) (symbol_of (file_of rels t.file) t.symbol).place) ≡ false
meant-code rels t meant code = ap (λ (s : Symbol). is_code (class_of_place (file_of rels t.file) s.place)) (sym meant.as_is) ∙ ap is_code (sym meant.class) ∙ code

abbrev pub described_interval : Described → ℕ × ℕ
described_interval d = (d.object, d.size)

abbrev pub DescribesBounded : Laid → Described → Type 0
DescribesBounded laid d = IsBounded laid (described_interval d)

nothing-bounded : (laid : Laid) → IsBounded laid (0, 0)
nothing-bounded laid = inr (record { none = refl; within = omega arith })

piece-bounded : (laid : Laid) (file section offset : ℕ) → is_split (class_at laid file section) ≡ true → (o : Option ℕ) → ((i : ℕ) → o ≡ Some i → IsFound laid file section offset i)
    → DescribesBounded laid (option_map_or (piece_described laid offset) o nothing_described)
piece-bounded laid file section offset split None f = nothing-bounded laid
piece-bounded laid file section offset split (Some i) f = let h = f i refl in inl (i, record { inside = h.inside; split = ap is_split h.class ∙ split; is = refl })

loose-bounded : (laid : Laid) → IsSoundly laid → (file section : ℕ) → is_split (class_at laid file section) ≡ true → (o : Option ℕ) → DescribesBounded laid (option_map_or (loose_described laid file section) o nothing_described)
loose-bounded laid sound file section split None = nothing-bounded laid
loose-bounded laid sound file section split (Some offset) =
    piece-bounded laid file section offset split (piece_at laid.pieces.all file section offset) (λ i e. found-piece laid sound file section offset i e)

whole-bounded : (laid : Laid) (file symbol : ℕ) (addend : ℤ) (o : Option (ℕ × ℕ)) → IfSome o (IsBoundedBy laid file symbol) → DescribesBounded laid (option_map_or (λ i. record { object = i.0; offset = nat_abs addend; size = i.1 }) o nothing_described)
whole-bounded laid file symbol addend None h = nothing-bounded laid
whole-bounded laid file symbol addend (Some x) h = bounded-one laid file symbol x h

either-described : (laid : Laid) (b : Bool) (x y : Described) → (b ≡ true → DescribesBounded laid x) → DescribesBounded laid y → DescribesBounded laid (cond b x y)
either-described laid true x y h g = h refl
either-described laid false x y h g = g

section-class : (object : RelObject) (place : Place) → is_section_at place ≡ true → class_of_place object place ≡ (section_of object (section_number place)).class
section-class object places.Undefined h = absurd (cc)
section-class object places.Absolute h = absurd (cc)
section-class object places.Common h = absurd (cc)
section-class object (places.Section n) h = refl

pub described-bounded : (laid : Laid) → IsSoundly laid → (t : Target) (addend : ℤ) → IsMeaning laid.rels t → is_code t.class ≡ false → DescribesBounded laid (described laid t addend)
unfolding described
described-bounded laid sound t addend meant code =
    let section = section_number t.as_is.place in
    either-described laid (is_loose_target t)
    (option_map_or (loose_described laid t.file section) (offset_of t.as_is.value addend) nothing_described)
    (interval_described laid t.file t.symbol addend)
    (λ loose.
    let in_section = first-true (is_section_at t.as_is.place) (is_split t.class && (t.as_is.kind == 3 || (t.as_is.binding == 0 && (t.as_is.size == 0)))) loose in
    let splits = first-true (is_split t.class) (t.as_is.kind == 3 || (t.as_is.binding == 0 && (t.as_is.size == 0))) (second-true (is_section_at t.as_is.place) (is_split t.class && (t.as_is.kind == 3 || (t.as_is.binding == 0 && (t.as_is.size == 0)))) loose) in
    let class : t.class ≡ class_at laid t.file section = meant.class ∙ section-class (file_of laid.rels t.file) t.as_is.place in_section in
    loose-bounded laid sound t.file section (ap is_split (sym class) ∙ splits) (offset_of t.as_is.value addend))
    (whole-bounded laid t.file t.symbol addend (interval_of laid t.file t.symbol) (interval-bounded laid sound t.file t.symbol (meant-code laid.rels t meant code)))
