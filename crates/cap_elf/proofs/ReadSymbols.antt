-- The symbols of a shared object that was read.
use Rattle.std.proofs.Common.{◌≡◌, ℕ, ◌+◌, ◌<◌, Bool, true, false, cond, List, [], ◌∷◌, ◌++◌, length, map, Ok, refl, sym, subst, ap, ◌∙◌, ⊎_elim, arith, length-append}
use Rattle.std.specs.Prelude.{◌≢◌, ok_or, not, ◌&&◌, ◌||◌, ◌==◌, nat_lt, filter, zip, All, AllPairs}
use Rattle.std.specs.Str.{bytes_eq}
use Rattle.std.proofs.lemmas.Bool.{ltb-false, eqb-true, eqb-false, and_cases, or_parts, not-false, both_ways, cond_both}
use Rattle.std.proofs.lemmas.Bool.Decides.{not_from_Decides}
use Rattle.std.proofs.lemmas.Slice.Eq.{bytes_eq-Decides}
use Rattle.std.proofs.lemmas.List.{append-nil, map-append}
use Rattle.std.proofs.lemmas.List.Elements.{All-nil, All-cons, All-push, filter-append}
use Rattle.std.proofs.lemmas.List.Quantifiers.{all_pairs_push}
use Rattle.cap_base.specs.declared.check.Check.TheVariants.{SymbolName, NameLength, SymbolType, SymbolBinding, SymbolSection, DuplicateSymbol}
use Rattle.cap_base.specs.Text.{is_plain}
use Rattle.cap_base.specs.Steps.{fault, steps}
use Rattle.cap_elf.specs.declared.records.Symbol.{Symbol}
use Rattle.cap_elf.specs.declared.decode.SymbolEntry.{SymbolEntry}
use Rattle.cap_elf.specs.Named.{NamedSymbol}
use Rattle.cap_elf.specs.Names.{name_of}
use Rattle.cap_elf.specs.Exported.{is_exported, has_exported}
use Rattle.cap_elf.specs.Symbols.{is_reserved, checked_name, symbol_step, null_named, named_of}
use Rattle.cap_elf.specs.IsRead.{IsShort, IsSymbol, IsNamed, exported_names}
use Rattle.cap_elf.proofs.Passing.{bind_passed, check_passed, steps_keep, same_value}
use Rattle.cap_elf.proofs.ReadNames.{some_from}

-- a symbol and a name that passed their checks
pub record IsNamedSymbol (n : NamedSymbol) : Type 0 where
  pub symbol : IsSymbol n.symbol
  pub name : IsShort n.name
  pub named : IsNamed (n.symbol, n.name)

abbrev pub with_name : Symbol → List ℕ → NamedSymbol
with_name symbol name = record { symbol = symbol; name = name }

-- a name may be empty only where the symbol is local
named_from : (binding len : ℕ) → ((len == 0) && not (binding == 0)) ≡ false → binding ≢ 0 → 0 < len
named_from binding len test global =
    ⊎_elim (λ (h : (len == 0) ≡ false). some_from len (eqb-false len 0 h))
    (λ (h : not (binding == 0) ≡ false). absurd (global (eqb-true binding 0 (not-false (binding == 0) h))))
    (and_cases (len == 0) (not (binding == 0)) test)

pub name_passed : (strings : List ℕ) (e : SymbolEntry) (name : List ℕ) → checked_name strings e ≡ Ok name → IsNamedSymbol (with_name e.symbol name)
unfolding checked_name
name_passed strings e name passed =
    let found = bind_passed (ok_or (name_of strings e.name) (fault SymbolName e.symbol.at)) _ name passed in
    let n = found.0 in
    let empty = (length n == 0) && not (e.symbol.binding == 0) in
    let checked = check_passed (not (is_plain n) || empty) SymbolName e.symbol.at _ name found.2 in
    let short = check_passed (nat_lt 255 (length n)) NameLength 0 _ name checked.1 in
    let kind = check_passed (nat_lt 5 e.symbol.kind) SymbolType e.symbol.at _ name short.1 in
    let binding = check_passed (nat_lt 2 e.symbol.binding) SymbolBinding e.symbol.at _ name kind.1 in
    let place = check_passed (is_reserved e.symbol.place) SymbolSection e.symbol.at _ name binding.1 in
    let test = or_parts (not (is_plain n)) empty checked.0 in
    subst (λ (m : List ℕ). IsNamedSymbol (with_name e.symbol m)) (same_value n name place.1) (record {
      symbol = record { kind = ltb-false 5 e.symbol.kind kind.0; binding = ltb-false 2 e.symbol.binding binding.0 };
      name = record { plain = not-false (is_plain n) test.0; short = ltb-false 255 (length n) short.0 };
      named = named_from e.symbol.binding (length n) test.1;
    })

-- the names of the symbols that are defined and not local
abbrev pub exported_of : List NamedSymbol → List (List ℕ)
exported_of named = map (λ n. n.name) (filter (λ n. is_exported n.symbol) named)

-- a name that none of them has
other_names : (named : List NamedSymbol) (name : List ℕ) → has_exported named name ≡ false → All (λ m. m ≢ name) (exported_of named)
other_names [] name h = All-nil (λ m. m ≢ name)
other_names (n ∷ ns) name h =
    let parts = or_parts (is_exported n.symbol && bytes_eq n.name name) (has_exported ns name) h in
    let rest = other_names ns name parts.1 in
    let kept = filter (λ m. is_exported m.symbol) ns in
    cond_both (is_exported n.symbol) (n ∷ kept) kept (λ l. All (λ m. m ≢ name) (map (λ m. m.name) l))
    (λ is. All-cons (λ m. m ≢ name) n.name (exported_of ns)
    (⊎_elim (λ (f : is_exported n.symbol ≡ false). absurd (both_ways (is_exported n.symbol) f is))
    (λ (f : bytes_eq n.name name ≡ false). not_from_Decides (bytes_eq n.name name) (bytes_eq-Decides n.name name) f)
    (and_cases (is_exported n.symbol) (bytes_eq n.name name) parts.0)) rest)
    (λ _. rest)

abbrev AreApart : List (List ℕ) → Type 0
AreApart names = AllPairs (λ a b. a ≢ b) names

exported_push : (named : List NamedSymbol) (n : NamedSymbol) → exported_of (named ++ n ∷ []) ≡ exported_of named ++ exported_of (n ∷ [])
exported_push named n =
    ap (map (λ m. m.name)) (filter-append (λ m. is_exported m.symbol) named (n ∷ []))
    ∙ map-append (λ m. m.name) (filter (λ m. is_exported m.symbol) named) (filter (λ m. is_exported m.symbol) (n ∷ []))

distinct_push : (named : List NamedSymbol) (n : NamedSymbol) → AreApart (exported_of named) → (is_exported n.symbol && has_exported named n.name) ≡ false → AreApart (exported_of (named ++ n ∷ []))
distinct_push named n apart test =
    subst AreApart (sym (exported_push named n))
    (cond_both (is_exported n.symbol) (n ∷ []) [] (λ l. AreApart (exported_of named ++ map (λ m. m.name) l))
    (λ is.
    let others = other_names named n.name
    (⊎_elim (λ (f : is_exported n.symbol ≡ false). absurd (both_ways (is_exported n.symbol) f is)) (λ (f : has_exported named n.name ≡ false). f)
    (and_cases (is_exported n.symbol) (has_exported named n.name) test)) in
    all_pairs_push (λ a b. a ≢ b) (exported_of named) n.name apart others)
    (λ _. subst AreApart (sym (append-nil (exported_of named))) apart))

-- symbols that passed their checks, the null symbol first
pub record AreSymbols (at : ℕ) (named : List NamedSymbol) : Type 0 where
  pub each : All IsNamedSymbol named
  pub distinct : AllPairs (λ a b. a ≢ b) (exported_of named)
  pub others : List NamedSymbol
  pub first : named ≡ null_named at ∷ others

symbol_keeps : (strings : List ℕ) (at : ℕ) (named : List NamedSymbol) (e : SymbolEntry) (next : List NamedSymbol) → AreSymbols at named → symbol_step strings named e ≡ Ok next → AreSymbols at next
unfolding symbol_step
symbol_keeps strings at named e next are passed =
    let one = bind_passed (checked_name strings e) _ next passed in
    let n = with_name e.symbol one.0 in
    let unique = check_passed (is_exported e.symbol && has_exported named one.0) DuplicateSymbol e.symbol.at _ next one.2 in
    subst (AreSymbols at) (same_value (named ++ n ∷ []) next unique.1) (record {
      each = All-push IsNamedSymbol named n are.each (name_passed strings e one.0 one.1);
      distinct = distinct_push named n are.distinct unique.0;
      others = are.others ++ n ∷ [];
      first = ap (λ l. l ++ n ∷ []) are.first;
    })

pub null_is : (at : ℕ) → IsNamedSymbol (null_named at)
null_is at = record {
  symbol = record { kind = omega arith; binding = omega arith };
  name = record { plain = refl; short = omega arith };
  named = λ ne. absurd (ne refl);
}

pub symbols_passed : (strings : List ℕ) (at : ℕ) (entries : List SymbolEntry) (named : List NamedSymbol) → named_of strings at entries ≡ Ok named → AreSymbols at named
symbols_passed strings at entries named passed =
    steps_keep (symbol_step strings) (AreSymbols at) (symbol_keeps strings at) (null_named at ∷ []) entries named
    (record {
      each = All-cons IsNamedSymbol (null_named at) [] (null_is at) (All-nil IsNamedSymbol);
      distinct = λ i j d lt inside. absurd (omega arith);
      others = [];
      first = refl;
    }) passed

length_step : (strings : List ℕ) (named : List NamedSymbol) (e : SymbolEntry) (next : List NamedSymbol) → symbol_step strings named e ≡ Ok next → length next ≡ length named + 1
unfolding symbol_step
length_step strings named e next passed =
    let one = bind_passed (checked_name strings e) _ next passed in
    let n = with_name e.symbol one.0 in
    let unique = check_passed (is_exported e.symbol && has_exported named one.0) DuplicateSymbol e.symbol.at _ next one.2 in
    ap length (sym (same_value (named ++ n ∷ []) next unique.1)) ∙ length-append named (n ∷ [])

-- each entry gives a symbol
pub length_passed : (strings : List ℕ) (so_far : List NamedSymbol) (entries : List SymbolEntry) (named : List NamedSymbol) → steps (symbol_step strings) so_far entries ≡ Ok named → length named ≡ length so_far + length entries
length_passed strings so_far [] named passed = let e = ap length (same_value so_far named passed) in omega (arith, e)
length_passed strings so_far (x ∷ xs) named passed =
    let one = bind_passed (symbol_step strings so_far x) (λ c. steps (symbol_step strings) c xs) named passed in
    omega (arith, length_step strings so_far x one.0 one.1, length_passed strings one.0 xs named one.2)

abbrev pub symbols_in : List NamedSymbol → List Symbol
symbols_in named = map (λ n. n.symbol) named

abbrev pub names_in : List NamedSymbol → List (List ℕ)
names_in named = map (λ n. n.name) named

pub zip_named : (named : List NamedSymbol) → zip (symbols_in named) (names_in named) ≡ map (λ n. (n.symbol, n.name)) named
zip_named [] = refl
zip_named (n ∷ ns) = ap (λ l. (n.symbol, n.name) ∷ l) (zip_named ns)

kept_names : {X Y Z : Type 0} (f : X → Z) (g : Y → Z) (b : Bool) (x : X) (xs : List X) (y : Y) (ys : List Y) → f x ≡ g y → map f xs ≡ map g ys → map f (cond b (x ∷ xs) xs) ≡ map g (cond b (y ∷ ys) ys)
kept_names f g true x xs y ys one rest = cc
kept_names f g false x xs y ys one rest = rest

pub exported_same : (named : List NamedSymbol) → exported_names (symbols_in named) (names_in named) ≡ exported_of named
exported_same [] = refl
exported_same (n ∷ ns) =
    kept_names (λ (s : Symbol × List ℕ). s.1) (λ (m : NamedSymbol). m.name) (is_exported n.symbol) (n.symbol, n.name)
    (filter (λ s. is_exported s.0) (zip (symbols_in ns) (names_in ns))) n (filter (λ m. is_exported m.symbol) ns) refl (exported_same ns)
