-- Two data symbols of a linked file with one interval that isn't empty are one, or stand for aliases.
use Rattle.std.proofs.Common.{◌≡◌, ℕ, suc, zero, ◌+◌, ◌≤◌, ◌<◌, Bool, true, false, List, [], ◌∷◌, length, map, refl, sym, ap, ◌∙◌, subst, arith, ◌⊎◌, inl, inr, ⊎_elim}
use Rattle.std.specs.Prelude.{slice_index, slice_index_or, ◌&&◌, ◌==◌}
use Rattle.std.specs.List.{enumerate_from, AllByRecursion}
use Rattle.std.proofs.lemmas.Bool.{cases_order}
use Rattle.cap_elf.specs.declared.records.Place.TheVariants as places
use Rattle.cap_elf.specs.declared.records.Symbol.{Symbol}
use Rattle.cap_elf.specs.Records.{null_symbol}
use Rattle.cap_elf.specs.RelObject.{RelObject, file_of, name_of}
use Rattle.cap_fits.specs.Fits.{is_data}
use Rattle.cap_syms.specs.IsResolved.{IsResolved}
use Rattle.cap_syms.specs.Resolved.{row_of, no_name}
use Rattle.cap_layout.specs.declared.piece.Piece.{Piece}
use Rattle.cap_layout.specs.Exact.{IsExactlyLaid}
use Rattle.cap_layout.specs.Pieces.{piece_of}
use Rattle.cap_layout.specs.Points.{Laid, address_of, piece_interval}
use Rattle.cap_table.specs.declared.target.Target.{Target}
use Rattle.cap_table.specs.Targets.{Named, row_target}
use Rattle.cap_table.specs.Lists.{DynSymbolValue, null_dyn_symbol, dyn_symbol}
use Rattle.cap_link.specs.Linked.{Linked}
use Rattle.cap_link.specs.Laws.{symbol_of_name, target_of_name, AreAliases, EqualsAreAliases}
use Rattle.cap_link.specs.View.{linked_view, symbol_read}
use Rattle.cap_link.proofs.Filling.{held-at}
use Rattle.cap_link.proofs.Holding.{first-true, second-true, same-number}
use Rattle.cap_link.proofs.Rows.{Ascend, rows-below, rows-ascend}
use Rattle.cap_link.proofs.Accepted.{LowerLaws}
use Rattle.cap_link.proofs.Bounding.{IsOfPiece, IsEmptyIn, IsCutBy, IsCommonBy, IsBoundedBy, IsMeaning}
use Rattle.cap_link.proofs.Meaning.{row-meant, symbol-bounded, IsSoundLink}
use Rattle.cap_link.proofs.Exactly.{LayoutFacts, sound-link}

-- ---- the symbol of a row
at-numbered : {X Y : Type 0} (f : ℕ × X → Y) (n k : ℕ) (xs : List X) (dx : X) (dy : Y) → k < length xs → slice_index_or (map f (enumerate_from n xs)) k dy ≡ f (n + k, slice_index_or xs k dx)
at-numbered f n k [] dx dy lt = let bad : ⊥ = omega (arith, lt) in absurd bad
at-numbered f n zero (x ∷ xs) dx dy lt = let e : n ≡ n + 0 = omega arith in ap (λ (m : ℕ). f (m, x)) e
at-numbered f n (suc k) (x ∷ xs) dx dy lt =
    let e : n + 1 + k ≡ n + suc k = omega arith in
    at-numbered f (n + 1) k xs dx dy (omega (arith, lt)) ∙ ap (λ (m : ℕ). f (m, slice_index_or xs k dx)) e

at-mapped : {X Y : Type 0} (f : X → Y) (xs : List X) (k : ℕ) (dx : X) (dy : Y) → k < length xs → slice_index_or (map f xs) k dy ≡ f (slice_index_or xs k dx)
at-mapped f [] k dx dy lt = let bad : ⊥ = omega (arith, lt) in absurd bad
at-mapped f (x ∷ xs) zero dx dy lt = refl
at-mapped f (x ∷ xs) (suc k) dx dy lt = at-mapped f xs k dx dy (omega (arith, lt))

mapped-long : {X Y : Type 0} (f : X → Y) (xs : List X) → length (map f xs) ≡ length xs
mapped-long f [] = refl
mapped-long f (x ∷ xs) = let rest = mapped-long f xs in omega (arith, rest)

behind-first : {X : Type 0} (x d : X) (xs : List X) (i : ℕ) → slice_index_or (x ∷ xs) (i + 1) d ≡ slice_index_or xs i d
behind-first x d xs i = let e : i + 1 ≡ suc i = omega arith in ap (λ (k : ℕ). slice_index_or (x ∷ xs) k d) e

symbol-is : (l : Linked) → IsSoundLink l → (i : ℕ) → i < length l.lists.plan.symbols → symbol_of_name l i ≡ symbol_read l.laid.parts.symbols_at (i + 1, dyn_symbol l.named l.laid (slice_index l.lists.plan.symbols i))
unfolding linked_view
symbol-is l h i lt =
    let read = symbol_read l.laid.parts.symbols_at in
    let rows = l.lists.plan.symbols in
    let own = map (dyn_symbol l.named l.laid) rows in
    let all = null_dyn_symbol ∷ own in
    let long : length own ≡ length rows = mapped-long (dyn_symbol l.named l.laid) rows in
    let inside : i + 1 < length all = omega (arith, long, lt) in
    let first : slice_index_or all (i + 1) null_dyn_symbol ≡ dyn_symbol l.named l.laid (slice_index rows i) =
    behind-first null_dyn_symbol null_dyn_symbol own i ∙ at-mapped (dyn_symbol l.named l.laid) rows i 0 null_dyn_symbol lt in
    let e : 0 + (i + 1) ≡ i + 1 = omega arith in
    ap (λ (ss : List DynSymbolValue). slice_index_or (map read (enumerate_from 0 ss)) (i + 1) (null_symbol 0)) h.symbols
    ∙ at-numbered read 0 (i + 1) all null_dyn_symbol (null_symbol 0) inside
    ∙ ap (λ (s : DynSymbolValue). read (0 + (i + 1), s)) first
    ∙ ap (λ (k : ℕ). read (k, dyn_symbol l.named l.laid (slice_index rows i))) e

abbrev pub IsOfTarget : Linked → Target → Symbol → Type 0
IsOfTarget l t s = is_data s ≡ true → IsBoundedBy l.laid t.file t.symbol (s.value, s.size)

name-bounded : (l : Linked) → IsSoundLink l → (i : ℕ) → i < length l.lists.plan.symbols → IsOfTarget l (target_of_name l i) (symbol_of_name l i)
name-bounded l h i lt =
    subst (IsOfTarget l (target_of_name l i)) (sym (symbol-is l h i lt))
    (symbol-bounded l.named l.laid h.laid h.same l.laid.parts.symbols_at (i + 1) (slice_index l.lists.plan.symbols i))

-- ---- one piece
pair-first : (x y : ℕ × ℕ) → x ≡ y → x.0 ≡ y.0
pair-first x y h = ap (λ (z : ℕ × ℕ). z.0) h

pair-second : (x y : ℕ × ℕ) → x ≡ y → x.1 ≡ y.1
pair-second x y h = ap (λ (z : ℕ × ℕ). z.1) h

not-behind : (x a n b m : ℕ) → a + n ≤ b → x ≡ a → x ≡ b → m ≡ n → 0 < m → ⊥
not-behind x a n b m h e f g some = omega (arith, h, e, f, g, some)

one-piece : (laid : Laid) → IsExactlyLaid laid → (value size i j : ℕ) → IsOfPiece laid i (value, size) → IsOfPiece laid j (value, size) → 0 < size → i ≡ j
one-piece laid exact value size i j h g some =
    let a = address_of laid i in
    let b = address_of laid j in
    let n = (piece_of laid.pieces.all i).padded in
    let m = (piece_of laid.pieces.all j).padded in
    let h0 : value ≡ a = pair-first (value, size) (piece_interval laid i) h.is in
    let h1 : size ≡ n = pair-second (value, size) (piece_interval laid i) h.is in
    let g0 : value ≡ b = pair-first (value, size) (piece_interval laid j) g.is in
    let g1 : size ≡ m = pair-second (value, size) (piece_interval laid j) g.is in
    ⊎_elim (λ (same : i ≡ j). same)
    (λ (apart : (i < j) ⊎ (j < i)).
    ⊎_elim (λ (lt : i < j). absurd (not-behind value a n b size (exact.apart i j lt g.inside) h0 g0 h1 some))
    (λ (lt : j < i). absurd (not-behind value b m a size (exact.apart j i lt h.inside) g0 h0 g1 some)) apart)
    (cases_order i j)

-- ---- one symbol, or aliases
abbrev pub IsSameSymbol : Target → Target → Type 0
IsSameSymbol t u = (t.file ≡ u.file) × (t.symbol ≡ u.symbol)

common-is : (p : Piece) (file symbol : ℕ) → (p.common && (p.file == file) && (p.place == symbol)) ≡ true → (p.common ≡ true) × ((p.file ≡ file) × (p.place ≡ symbol))
common-is p file symbol h =
    let pair = first-true (p.common && (p.file == file)) (p.place == symbol) h in (
      first-true p.common (p.file == file) pair,
      (same-number p.file file (second-true p.common (p.file == file) pair), same-number p.place symbol (second-true (p.common && (p.file == file)) (p.place == symbol) h)),
    )

not-both : (b : Bool) → b ≡ true → b ≡ false → ⊥
not-both true e f = absurd (cc)
not-both false e f = absurd (cc)

cut-aliases : (laid : Laid) (t u : Target) (piece : ℕ) → IsMeaning laid.rels t → IsMeaning laid.rels u → IsCutBy laid t.file t.symbol piece → IsCutBy laid u.file u.symbol piece → AreAliases t u
cut-aliases laid t u piece a b h g =
    let p = h.1.1 in
    let q = g.1.1 in
    record {
      section = h.0;
      file = sym p.in_file ∙ q.in_file;
      first = ap (λ (s : Symbol). s.place) a.as_is ∙ h.1.0;
      second = ap (λ (s : Symbol). s.place) b.as_is ∙ g.1.0 ∙ ap (λ (n : ℕ). places.Section n) (sym q.in_section ∙ p.in_section);
      value = ap (λ (s : Symbol). s.value) a.as_is ∙ sym p.start ∙ q.start ∙ sym (ap (λ (s : Symbol). s.value) b.as_is);
      size = ap (λ (s : Symbol). s.size) a.as_is ∙ sym p.size ∙ q.size ∙ sym (ap (λ (s : Symbol). s.size) b.as_is);
    }

why-one : (laid : Laid) (t u : Target) (piece : ℕ) → IsMeaning laid.rels t → IsMeaning laid.rels u → IsCutBy laid t.file t.symbol piece ⊎ IsCommonBy laid t.file t.symbol piece
    → IsCutBy laid u.file u.symbol piece ⊎ IsCommonBy laid u.file u.symbol piece → IsSameSymbol t u ⊎ AreAliases t u
why-one laid t u piece a b (inl h) (inl g) = inr (cut-aliases laid t u piece a b h g)
why-one laid t u piece a b (inl h) (inr g) =
    let p = piece_of laid.pieces.all piece in absurd (not-both p.common (common-is p u.file u.symbol g).0 h.1.1.not_common)
why-one laid t u piece a b (inr h) (inl g) =
    let p = piece_of laid.pieces.all piece in absurd (not-both p.common (common-is p t.file t.symbol h).0 g.1.1.not_common)
why-one laid t u piece a b (inr h) (inr g) =
    let p = piece_of laid.pieces.all piece in
    let x = (common-is p t.file t.symbol h).1 in
    let y = (common-is p u.file u.symbol g).1 in
    inl (sym x.0 ∙ y.0, sym x.1 ∙ y.1)

not-empty : (laid : Laid) (value size : ℕ) → IsEmptyIn laid (value, size) → 0 < size → ⊥
not-empty laid value size h some = let none : size ≡ 0 = h.none in omega (arith, none, some)

bounded-one : (laid : Laid) → IsExactlyLaid laid → (t u : Target) (value size : ℕ) → IsMeaning laid.rels t → IsMeaning laid.rels u → 0 < size
    → IsBoundedBy laid t.file t.symbol (value, size) → IsBoundedBy laid u.file u.symbol (value, size) → IsSameSymbol t u ⊎ AreAliases t u
bounded-one laid exact t u value size a b some (inr h) g = absurd (not-empty laid value size h some)
bounded-one laid exact t u value size a b some (inl h) (inr g) = absurd (not-empty laid value size g some)
bounded-one laid exact t u value size a b some (inl h) (inl g) =
    let same : g.0 ≡ h.0 = one-piece laid exact value size g.0 h.0 g.1.of h.1.of some in
    let why : IsCutBy laid u.file u.symbol h.0 ⊎ IsCommonBy laid u.file u.symbol h.0 =
    subst (λ (p : ℕ). IsCutBy laid u.file u.symbol p ⊎ IsCommonBy laid u.file u.symbol p) same g.1.why in
    why-one laid t u h.0 a b h.1.why why

-- ---- one row
ascend-at : (xs : List ℕ) (i j : ℕ) → Ascend xs → i < j → j < length xs → slice_index xs i < slice_index xs j
ascend-at [] i j h lt inside = let bad : ⊥ = omega (arith, inside) in absurd bad
ascend-at (x ∷ xs) i zero h lt inside = let bad : ⊥ = omega (arith, lt) in absurd bad
ascend-at (x ∷ xs) zero (suc j) h lt inside = held-at (λ (y : ℕ). x < y) xs j 0 (omega (arith, inside)) h.0
ascend-at (x ∷ xs) (suc i) (suc j) h lt inside = ascend-at xs i j h.1 (omega (arith, lt)) (omega (arith, inside))

row-differs : (named : Named) → IsResolved named.rels named.table → (r s : ℕ) → r < s → s < length named.table → IsSameSymbol (row_target named r) (row_target named s) → ⊥
unfolding row_target
row-differs named h r s lt inside same =
    let a = row_of named.table r in
    let b = row_of named.table s in
    let p = h.rows_are r no_name (omega (arith, lt, inside)) in
    let q = h.rows_are s no_name inside in
    let names : a.name ≡ b.name =
    sym p.named ∙ ap (λ (k : ℕ). name_of (file_of named.rels k) a.entry.symbol) same.0 ∙ ap (λ (k : ℕ). name_of (file_of named.rels b.entry.file) k) same.1 ∙ q.named in
    h.distinct r s no_name lt inside names

pub record AreRows (l : Linked) : Type 0 where
  pub ascend : Ascend l.lists.plan.symbols
  pub below : AllByRecursion (λ row. row < length l.named.table) l.lists.plan.symbols

rows-are : (l : Linked) → IsSoundLink l → AreRows l
rows-are l h = record {
  ascend = subst Ascend (sym h.rows) (rows-ascend 0 l.named.table);
  below = subst (AllByRecursion (λ (row : ℕ). row < length l.named.table)) (sym h.rows) (rows-below (length l.named.table) 0 l.named.table (omega arith));
}

later-differs : (l : Linked) → IsSoundLink l → (i j : ℕ) → i < j → j < length l.lists.plan.symbols → IsSameSymbol (target_of_name l i) (target_of_name l j) → ⊥
later-differs l h i j lt inside same =
    let rows = l.lists.plan.symbols in
    let are = rows-are l h in
    row-differs l.named h.resolved (slice_index rows i) (slice_index rows j) (ascend-at rows i j are.ascend lt inside) (held-at (λ (row : ℕ). row < length l.named.table) rows j 0 inside are.below) same

one-name : (l : Linked) → IsSoundLink l → (i j : ℕ) → i < length l.lists.plan.symbols → j < length l.lists.plan.symbols → IsSameSymbol (target_of_name l i) (target_of_name l j) → i ≡ j
one-name l h i j a b same =
    ⊎_elim (λ (is : i ≡ j). is)
    (λ (apart : (i < j) ⊎ (j < i)).
    ⊎_elim (λ (lt : i < j). absurd (later-differs l h i j lt b same))
    (λ (lt : j < i). absurd (later-differs l h j i lt a (sym same.0, sym same.1))) apart)
    (cases_order i j)

pub equals-are-aliases : LowerLaws → LayoutFacts → EqualsAreAliases
equals-are-aliases laws facts inputs kind l i j accepted a b first second value size some =
    let h = sound-link laws facts inputs kind l accepted in
    let t = target_of_name l i in
    let u = target_of_name l j in
    let s = symbol_of_name l i in
    let o = symbol_of_name l j in
    let meant : (row : ℕ) → IsMeaning l.laid.rels (row_target l.named row) = λ row. subst (λ (rels : List RelObject). IsMeaning rels (row_target l.named row)) (sym h.same) (row-meant l.named row) in
    let mine : IsBoundedBy l.laid t.file t.symbol (s.value, s.size) = name-bounded l h i a first in
    let other : IsBoundedBy l.laid u.file u.symbol (o.value, o.size) = name-bounded l h j b second in
    let here : IsBoundedBy l.laid u.file u.symbol (s.value, s.size) =
    subst (λ (n : ℕ). IsBoundedBy l.laid u.file u.symbol (n, s.size)) (sym value) (subst (λ (n : ℕ). IsBoundedBy l.laid u.file u.symbol (o.value, n)) (sym size) other) in
    ⊎_elim (λ (same : IsSameSymbol t u). inl (one-name l h i j a b same)) (λ (aliases : AreAliases t u). inr aliases)
    (bounded-one l.laid h.laid.exact t u s.value s.size (meant (slice_index l.lists.plan.symbols i)) (meant (slice_index l.lists.plan.symbols j)) some mine here)
