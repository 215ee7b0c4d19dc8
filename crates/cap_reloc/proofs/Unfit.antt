-- Bounds are refused only of what doesn't fit.
use Rattle.std.proofs.Common.{◌≡◌, ℕ, zero, suc, ◌+◌, ◌*◌, ◌/◌, ◌-◌, ◌%◌, ◌<◌, ◌≤◌, ⊎_elim, Bool, true, false, cond, List, [], ◌∷◌, ◌++◌, length, get_or, map, filter, Option, Some, None, refl, subst, arith}
use Rattle.std.specs.Prelude.{All, Contains, IfSome, slice_index, unwrap_or}
use Rattle.std.proofs.lemmas.Bool.{cases_Bool, cases_lt}
use Rattle.std.proofs.lemmas.List.{get_or_past, get_or_append_left, get_or-append-add, length-append}
use Rattle.std.proofs.lemmas.List.Elements.{All-contains, All-contains_itself}
use Rattle.std.proofs.Math.Nat.{div-add-mod}
use Rattle.cap_conc.specs.Computed.{is_exact}
use Rattle.cap_own.specs.Cap.{Mapping}
use Rattle.cap_elf.specs.declared.records.Symbol.{Symbol}
use Rattle.cap_elf.specs.declared.records.CapReloc.{CapReloc}
use Rattle.cap_elf.specs.DynView.{DynRecords}
use Rattle.cap_elf.specs.Exported.{is_defined}
use Rattle.cap_fits.specs.Places.{code_range, is_absolute, is_function}
use Rattle.cap_fits.specs.Fits.{Fits, data_intervals, interval_of_entry, interval_of_symbol, is_data, is_data_entry}
use Rattle.cap_scope.specs.Chosen.{object_at}
use Rattle.cap_reloc.specs.Wanted.{Setting, symbol_at, no_symbol}
use Rattle.cap_reloc.specs.Sound.{IsPlaced, IsCodeIn, code_of}
use Rattle.cap_reloc.proofs.Mappings.{mapping_of}

-- an object begins at a multiple of its alignment
multiple : (roots : List Mapping) (setting : Setting) (i : ℕ) → IsPlaced roots setting → i < length setting.objects
    → (slice_index setting.bases i / (object_at setting.objects i).align) * (object_at setting.objects i).align ≡ slice_index setting.bases i
multiple roots setting i placed lt =
    let none : Mapping = record { base = 0; len = 0; owner = 0 } in
    let of = mapping_of roots setting i none placed lt in
    let align : ℕ = (object_at setting.objects i).align in
    let base : ℕ = slice_index setting.bases i in
    let whole : base % align ≡ 0 = subst (λ (b : ℕ). b % align ≡ 0) of.base of.mapping.aligned in
    let split = div-add-mod base align in
    let turn : (base / align) * align ≡ align * (base / align) = omega arith in
    omega (arith, whole, split, turn)

-- an interval of the object's data
abbrev pub IsData : DynRecords → ℕ → ℕ → Type 0
IsData object at len = Contains (data_intervals object) (at, len)

pub unfit_data : (roots : List Mapping) (setting : Setting) (i at len : ℕ) → IsPlaced roots setting → i < length setting.objects → IsData (object_at setting.objects i) at len
    → is_exact (slice_index setting.bases i + at) len ≡ false → Fits (object_at setting.objects i) → ⊥
unfit_data roots setting i at len placed lt member inexact fits =
    let align : ℕ = (object_at setting.objects i).align in
    let base : ℕ = slice_index setting.bases i in
    let k : ℕ = base / align in
    let exact : is_exact (k * align + at) len ≡ true = All-contains (λ (x : ℕ × ℕ). is_exact (k * align + x.0) x.1 ≡ true) (data_intervals (object_at setting.objects i)) (at, len) (fits.data_exact k) member in
    let here : is_exact (base + at) len ≡ true = subst (λ (b : ℕ). is_exact (b + at) len ≡ true) (multiple roots setting i placed lt) exact in cc

exact_range : (b at : ℕ) (range : Option (ℕ × ℕ)) → IfSome range (λ c. is_exact (b + c.0) (c.1 - c.0) ≡ true) → at < (unwrap_or range (0, 0)).1
    → is_exact (b + (unwrap_or range (0, 0)).0) ((unwrap_or range (0, 0)).1 - (unwrap_or range (0, 0)).0) ≡ true
exact_range b at None h lt = absurd (omega (arith, lt))
exact_range b at (Some c) h lt = h

pub unfit_code : (roots : List Mapping) (setting : Setting) (i at : ℕ) → IsPlaced roots setting → i < length setting.objects → IsCodeIn (object_at setting.objects i) at
    → is_exact (slice_index setting.bases i + (code_of (object_at setting.objects i)).0) ((code_of (object_at setting.objects i)).1 - (code_of (object_at setting.objects i)).0) ≡ false → Fits (object_at setting.objects i) → ⊥
unfit_code roots setting i at placed lt code inexact fits =
    let object : DynRecords = object_at setting.objects i in
    let align : ℕ = object.align in
    let base : ℕ = slice_index setting.bases i in
    let k : ℕ = base / align in
    let exact = exact_range (k * align) at (code_range object) (fits.code_exact k) code.to in
    let here : is_exact (base + (code_of object).0) ((code_of object).1 - (code_of object).0) ≡ true =
    subst (λ (b : ℕ). is_exact (b + (code_of object).0) ((code_of object).1 - (code_of object).0) ≡ true) (multiple roots setting i placed lt) exact in cc

-- ---- which intervals are those of data
filtered_at : {X : Type 0} (P : ℕ × ℕ → Type 0) (f : X → ℕ × ℕ) (p : X → Bool) (xs : List X) (i : ℕ) (d : X) → All P (map f (filter p xs)) → i < length xs → p (get_or xs i d) ≡ true → P (f (get_or xs i d))
filtered_at P f p [] i d all lt passes = absurd (omega arith)
filtered_at P f p (x ∷ xs) zero d all lt passes =
    let here : All P (f x ∷ map f (filter p xs)) = subst (λ (b : Bool). All P (map f (cond b (x ∷ filter p xs) (filter p xs)))) passes all in here zero (f x) (omega arith)
filtered_at P f p (x ∷ xs) (suc i) d all lt passes =
    filtered_at P f p xs i d
    (⊎_elim
    (λ (h : p x ≡ true). let here : All P (f x ∷ map f (filter p xs)) = subst (λ (b : Bool). All P (map f (cond b (x ∷ filter p xs) (filter p xs)))) h all in λ k e below. here (suc k) e (omega (arith, below)))
    (λ (h : p x ≡ false). subst (λ (b : Bool). All P (map f (cond b (x ∷ filter p xs) (filter p xs)))) h all)
    (cases_Bool (p x)))
    (omega arith) passes

all_left : (P : ℕ × ℕ → Type 0) (xs ys : List (ℕ × ℕ)) → All P (xs ++ ys) → All P xs
all_left P xs ys all = λ k d lt.
    let many = length-append xs ys in
    subst P (get_or_append_left xs ys d k lt) (all k d (omega (arith, many, lt)))

all_right : (P : ℕ × ℕ → Type 0) (xs ys : List (ℕ × ℕ)) → All P (xs ++ ys) → All P ys
all_right P xs ys all = λ k d lt.
    let many = length-append xs ys in
    subst P (get_or-append-add xs ys k d) (all (length xs + k) d (omega (arith, many, lt)))

pub symbol_is_data : (object : DynRecords) (i : ℕ) → is_defined (symbol_at object i).place ≡ true → is_absolute (symbol_at object i).place ≡ false → is_function (symbol_at object i) ≡ false → IsData object (symbol_at object i).value (symbol_at object i).size
symbol_is_data object i defined relative no_code =
    let P : ℕ × ℕ → Type 0 = Contains (data_intervals object) in
    let s : Symbol = symbol_at object i in
    let passes : is_data s ≡ true = rw (defined, relative, no_code) refl in
    ⊎_elim
    (λ (lt : i < length object.symbols). filtered_at P interval_of_symbol is_data object.symbols i no_symbol (all_left P _ (map interval_of_entry (filter is_data_entry object.cap_relocs)) (All-contains_itself (data_intervals object))) lt passes)
    (λ (ge : length object.symbols ≤ i).
    let none : s ≡ no_symbol = get_or_past object.symbols i no_symbol ge in
    let no : is_defined no_symbol.place ≡ true = subst (λ (t : Symbol). is_defined t.place ≡ true) none defined in
    let never : false ≡ true = no in cc)
    (cases_lt i (length object.symbols))

pub entry_is_data : (object : DynRecords) (i : ℕ) (d : CapReloc) → i < length object.cap_relocs → is_data_entry (get_or object.cap_relocs i d) ≡ true → IsData object (get_or object.cap_relocs i d).object (get_or object.cap_relocs i d).size
entry_is_data object i d lt passes =
    let P : ℕ × ℕ → Type 0 = Contains (data_intervals object) in
    filtered_at P interval_of_entry is_data_entry object.cap_relocs i d (all_right P (map interval_of_symbol (filter is_data object.symbols)) _ (All-contains_itself (data_intervals object))) lt passes
