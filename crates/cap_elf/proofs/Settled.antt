-- Symbols that are read up to the first that fails a check of its own, and then searched for a name that is exported twice:
-- together the first check that fails.
use Rattle.std.proofs.Common.{◌≡◌, ℕ, suc, ◌+◌, ◌≤◌, ◌<◌, ⊎_elim, Bool, true, false, ◌&&◌, ◌||◌, List, [], ◌∷◌, ◌++◌, length, get_or, take, drop, map, Option, Some, None, Result, Ok, Err, refl, sym, subst, ap, ◌∙◌, arith, length-append, append_assoc}
use Rattle.std.specs.Prelude.{bytes_eq, IfSome}
use Rattle.std.specs.List.{list_any}
use Rattle.std.proofs.lemmas.Bool.{cases_lt, both_ways, false_from_ne_true}
use Rattle.std.proofs.lemmas.List.{drop_more, drop_all, length-map, map-append, take-append-le, get_or_append_left, get_or-map, append-nil}
use Rattle.std.proofs.Math.Seq.{take-append_seam, get_or-append_seam}
use Rattle.cap_base.specs.declared.check.Check.TheVariants.{DuplicateSymbol}
use Rattle.cap_base.specs.declared.refusal.Fault.{Fault}
use Rattle.cap_base.specs.Steps.{◌>>=◌, ◌>>◌, refuse, fault, steps}
use Rattle.cap_names.specs.Named.{Named, is_defined_at, is_repeated, IsLeast}
use Rattle.cap_names.proofs.Making.{defined_inside}
use Rattle.cap_names.proofs.Finding.{both_true}
use Rattle.cap_elf.specs.declared.records.Symbol.{Symbol}
use Rattle.cap_elf.specs.declared.decode.SymbolEntry.{SymbolEntry}
use Rattle.cap_elf.specs.Named.{NamedSymbol}
use Rattle.cap_elf.specs.Records.{null_symbol}
use Rattle.cap_elf.specs.Exported.{is_exported, has_exported}
use Rattle.cap_elf.specs.Symbols.{checked_name, symbol_step, null_named, named_of}
use Rattle.cap_elf.specs.Flagged.{flagged, flagged_by}
use Rattle.cap_elf.specs.Listed.{Listed, listed_more, listed_from, refuse_first}
use Rattle.cap_elf.proofs.Flags.{taken_again}

-- one symbol more
pub listed_next : (strings : List ℕ) (named more : List NamedSymbol) (es : List SymbolEntry) (i : ℕ) (d : SymbolEntry) (name : List ℕ) (total : Listed) → i < length es
    → checked_name strings (get_or es i d) ≡ Ok name → more ≡ named ++ record { symbol = (get_or es i d).symbol; name = name } ∷ []
    → listed_from strings named (drop i es) ≡ total → listed_from strings more (drop (i + 1) es) ≡ total
unfolding listed_from
listed_next strings named more es i d name total lt passed is so_far =
    let e = get_or es i d in
    let rest : List NamedSymbol → Listed = λ m. listed_from strings m (drop (i + 1) es) in
    ap rest is ∙ sym (ap (λ r. listed_more named e r rest) passed) ∙ sym (ap (listed_from strings named) (drop_more es i d lt)) ∙ so_far

-- the first that fails a check of its own
pub listed_stop : (strings : List ℕ) (named : List NamedSymbol) (es : List SymbolEntry) (i : ℕ) (d : SymbolEntry) (f : Fault) (total : Listed) → i < length es
    → checked_name strings (get_or es i d) ≡ Err f → listed_from strings named (drop i es) ≡ total → (named, Some f) ≡ total
unfolding listed_from
listed_stop strings named es i d f total lt failed so_far =
    let e = get_or es i d in
    let rest : List NamedSymbol → Listed = λ m. listed_from strings m (drop (i + 1) es) in
    sym (ap (λ r. listed_more named e r rest) failed) ∙ sym (ap (listed_from strings named) (drop_more es i d lt)) ∙ so_far

-- no entry is left
pub listed_done : (strings : List ℕ) (named : List NamedSymbol) (es : List SymbolEntry) (i : ℕ) (total : Listed) → length es ≤ i → listed_from strings named (drop i es) ≡ total → (named, None) ≡ total
unfolding listed_from
listed_done strings named es i total le so_far = sym (ap (listed_from strings named) (drop_all i es le)) ∙ so_far

-- at most one symbol more for each entry, behind those so far
abbrev Extends : List NamedSymbol → ℕ → Listed → Type 0
Extends named most l = (tail : List NamedSymbol) × (l.0 ≡ named ++ tail) × (length tail ≤ most)

extends_more : (named : List NamedSymbol) (e : SymbolEntry) (most : ℕ) (rest : List NamedSymbol → Listed) → ((more : List NamedSymbol) → Extends more most (rest more)) → (r : Result (List ℕ) Fault)
    → Extends named (suc most) (listed_more named e r rest)
extends_more named e most rest each (Err f) = ([], sym (append-nil named), omega arith)
extends_more named e most rest each (Ok name) =
    let one : NamedSymbol = record { symbol = e.symbol; name = name } in
    let r = each (named ++ one ∷ []) in
    (one ∷ r.0, r.1 ∙ append_assoc named (one ∷ []) r.0, omega (arith, r.2))

extends : (strings : List ℕ) (es : List SymbolEntry) (named : List NamedSymbol) → Extends named (length es) (listed_from strings named es)
unfolding listed_from
extends strings [] named = ([], sym (append-nil named), omega arith)
extends strings (e ∷ es) named = extends_more named e (length es) (λ more. listed_from strings more es) (extends strings es) (checked_name strings e)

pub listed_few : (strings : List ℕ) (at : ℕ) (es : List SymbolEntry) (named : List NamedSymbol) (own : Option Fault) (names : List Named) → (named, own) ≡ listed_from strings (null_named at ∷ []) es
    → names ≡ flagged named → length names ≤ length es + 1
listed_few strings at es named own names is flags =
    let r = extends strings es (null_named at ∷ []) in
    let first : named ≡ null_named at ∷ r.0 = ap (λ (l : Listed). l.0) is ∙ r.1 in
    omega (arith, ap length flags, length-map named (λ n. let p : Named = (n.name, is_exported n.symbol) in p), ap length first, r.2)

-- the first of numbers that pass a test
least_is : (q : ℕ → Bool) (r : Option ℕ) (i : ℕ) → IsLeast q r → q i ≡ true → ((k : ℕ) → k < i → q k ≡ false) → r ≡ Some i
least_is q None i least here before = absurd (both_ways (q i) (least i) here)
least_is q (Some j) i least here before =
    ⊎_elim (λ (h : j < i). absurd (both_ways (q j) (before j h) least.0))
    (λ (h : i ≤ j). ⊎_elim (λ (g : i < j). absurd (both_ways (q i) (least.1 i g) here)) (λ (g : j ≤ i). let same : j ≡ i = omega (arith, h, g) in ap Some same) (cases_lt i j)) (cases_lt j i)

least_none : (q : ℕ → Bool) (r : Option ℕ) → IsLeast q r → ((k : ℕ) → q k ≡ false) → r ≡ None
least_none q None least none = refl
least_none q (Some j) least none = absurd (both_ways (q j) (none j) least.0)

-- a name is defined, and an earlier one of these is defined and equal
abbrev is_second : Named → List Named → Bool
is_second p names = p.1 && list_any (λ q. q.1 && bytes_eq q.0 p.0) names

repeated_before : (xs ys : List Named) (k : ℕ) → k < length xs → is_repeated (xs ++ ys) k ≡ is_repeated xs k
repeated_before xs ys k lt =
    ap (λ (p : Named). is_second p (take k (xs ++ ys))) (get_or_append_left xs ys ([], false) k lt)
    ∙ ap (is_second (get_or xs k ([], false))) (take-append-le k xs ys (omega (arith, lt)))

repeated_here : (xs : List Named) (p : Named) (ys : List Named) → is_repeated (xs ++ p ∷ ys) (length xs) ≡ is_second p xs
repeated_here xs p ys =
    ap (λ (q : Named). is_second q (take (length xs) (xs ++ p ∷ ys))) (get_or-append_seam xs p ys ([], false))
    ∙ ap (is_second p) (take-append_seam xs (p ∷ ys))

abbrev NoneRepeated : List Named → Type 0
NoneRepeated names = (k : ℕ) → is_repeated names k ≡ false

repeated_inside : (names : List Named) (k : ℕ) → is_repeated names k ≡ true → k < length names
repeated_inside names k h = defined_inside names k (both_true (is_defined_at names k) _ h).0

none_of_none : NoneRepeated []
none_of_none k = false_from_ne_true _ (λ (h : is_repeated [] k ≡ true). absurd (omega (arith, repeated_inside [] k h)))

none_push : (xs : List Named) (p : Named) → NoneRepeated xs → is_second p xs ≡ false → NoneRepeated (xs ++ p ∷ [])
none_push xs p none not_second k =
    ⊎_elim (λ (lt : k < length xs). repeated_before xs (p ∷ []) k lt ∙ none k)
    (λ (le : length xs ≤ k). ⊎_elim
    (λ (past : length xs < k). false_from_ne_true _ (λ (h : is_repeated (xs ++ p ∷ []) k ≡ true).
    absurd (omega (arith, repeated_inside (xs ++ p ∷ []) k h, length-append xs (p ∷ []), past))))
    (λ (ge : k ≤ length xs).
    let same : length xs ≡ k = omega (arith, le, ge) in
    subst (λ (n : ℕ). is_repeated (xs ++ p ∷ []) n ≡ false) same (repeated_here xs p [] ∙ not_second)) (cases_lt (length xs) k)) (cases_lt k (length xs))

-- the name of a symbol, and those of symbols before it
abbrev flag : NamedSymbol → Named
flag n = (n.name, is_exported n.symbol)

flagged_any : (named : List NamedSymbol) (name : List ℕ) → list_any (λ q. q.1 && bytes_eq q.0 name) (flagged named) ≡ has_exported named name
flagged_any [] name = refl
flagged_any (n ∷ ns) name = ap (λ (b : Bool). (is_exported n.symbol && bytes_eq n.name name) || b) (flagged_any ns name)

second_is : (named : List NamedSymbol) (n : NamedSymbol) → is_second (flag n) (flagged named) ≡ (is_exported n.symbol && has_exported named n.name)
second_is named n = ap (λ (b : Bool). is_exported n.symbol && b) (flagged_any named n.name)

-- the fault, or the symbols
abbrev settled_by : Option Fault → List NamedSymbol → Result (List NamedSymbol) Fault
settled_by None named = Ok named
settled_by (Some f) named = Err f

-- what both searches say together: a name that stands twice does so among symbols that pass their own checks, and those
-- are before the one that does not
abbrev verdict : Listed → Option ℕ → Result (List NamedSymbol) Fault
verdict l None = settled_by l.1 l.0
verdict l (Some i) = Err (fault DuplicateSymbol (get_or l.0 i (null_named 0)).symbol.at)

abbrev Least : Listed → Option ℕ → Type 0
Least l r = IsLeast (is_repeated (flagged l.0)) r

-- the first that has the name of an earlier one
second_found : (named tail : List NamedSymbol) (n : NamedSymbol) (r : Option ℕ) → NoneRepeated (flagged named) → (is_exported n.symbol && has_exported named n.name) ≡ true
    → IsLeast (is_repeated (flagged (named ++ n ∷ tail))) r → r ≡ Some (length named)
second_found named tail n r none second least =
    let apart : flagged (named ++ n ∷ tail) ≡ flagged named ++ flag n ∷ flagged tail = map-append flag named (n ∷ tail) in
    let len : length (flagged named) ≡ length named = length-map named flag in
    let front : IsLeast (is_repeated (flagged named ++ flag n ∷ flagged tail)) r = subst (λ (l : List Named). IsLeast (is_repeated l) r) apart least in
    least_is (is_repeated (flagged named ++ flag n ∷ flagged tail)) r (length (flagged named)) front
    (repeated_here (flagged named) (flag n) (flagged tail) ∙ second_is named n ∙ second)
    (λ k lt. repeated_before (flagged named) (flag n ∷ flagged tail) k lt ∙ none k)
    ∙ ap Some len

module _ (strings : List ℕ) (es : List SymbolEntry) (r : Option ℕ) where
  abbrev rest : List NamedSymbol → Listed
  rest more = listed_from strings more es

  abbrev onward : List NamedSymbol → Result (List NamedSymbol) Fault
  onward more = steps (symbol_step strings) more es

  abbrev Settles : Type 0
  Settles = (more : List NamedSymbol) → NoneRepeated (flagged more) → Least (rest more) r → onward more ≡ verdict (rest more) r

  settled_second : (named : List NamedSymbol) (n : NamedSymbol) → NoneRepeated (flagged named) → (is_exported n.symbol && has_exported named n.name) ≡ true
      → Least (rest (named ++ n ∷ [])) r → Err (fault DuplicateSymbol n.symbol.at) ≡ verdict (rest (named ++ n ∷ [])) r
  settled_second named n none second least =
      let ext = extends strings es (named ++ n ∷ []) in
      let whole : (rest (named ++ n ∷ [])).0 ≡ named ++ n ∷ ext.0 = ext.1 ∙ append_assoc named (n ∷ []) ext.0 in
      let found = second_found named ext.0 n r none second (subst (λ (l : List NamedSymbol). IsLeast (is_repeated (flagged l)) r) whole least) in
      let here : get_or (rest (named ++ n ∷ [])).0 (length named) (null_named 0) ≡ n = ap (λ (l : List NamedSymbol). get_or l (length named) (null_named 0)) whole ∙ get_or-append_seam named n ext.0 (null_named 0) in
      sym (ap (verdict (rest (named ++ n ∷ []))) found ∙ ap (λ (m : NamedSymbol). let r : Result (List NamedSymbol) Fault = Err (fault DuplicateSymbol m.symbol.at) in r) here)

  settled_name : Settles → (named : List NamedSymbol) (n : NamedSymbol) → NoneRepeated (flagged named) → Least (rest (named ++ n ∷ [])) r
      → (second : Bool) → (is_exported n.symbol && has_exported named n.name) ≡ second
      → ((refuse second DuplicateSymbol n.symbol.at >> Ok (named ++ n ∷ [])) >>= onward) ≡ verdict (rest (named ++ n ∷ [])) r
  settled_name settles named n none least true is = settled_second named n none is least
  settled_name settles named n none least false is =
      settles (named ++ n ∷ [])
      (subst NoneRepeated (sym (map-append flag named (n ∷ []))) (none_push (flagged named) (flag n) none (second_is named n ∙ is))) least

  settled_more : Settles → (named : List NamedSymbol) (e : SymbolEntry) → NoneRepeated (flagged named) → (c : Result (List ℕ) Fault) → Least (listed_more named e c rest) r
      → ((c >>= λ name. refuse (is_exported e.symbol && has_exported named name) DuplicateSymbol e.symbol.at >> Ok (named ++ record { symbol = e.symbol; name = name } ∷ [])) >>= onward)
      ≡ verdict (listed_more named e c rest) r
  settled_more settles named e none (Err f) least = sym (ap (verdict (named, Some f)) (least_none (is_repeated (flagged named)) r least none))
  settled_more settles named e none (Ok name) least =
      settled_name settles named (record { symbol = e.symbol; name = name }) none least (is_exported e.symbol && has_exported named name) refl

settled : (strings : List ℕ) (r : Option ℕ) (es : List SymbolEntry) (named : List NamedSymbol) → NoneRepeated (flagged named) → Least (listed_from strings named es) r
    → steps (symbol_step strings) named es ≡ verdict (listed_from strings named es) r
unfolding listed_from symbol_step
settled strings r [] named none least = sym (ap (verdict (named, None)) (least_none (is_repeated (flagged named)) r least none))
settled strings r (e ∷ es) named none least = settled_more strings es r (settled strings r es) named e none (checked_name strings e) least

none_at_first : (at : ℕ) → NoneRepeated (flagged (null_named at ∷ []))
none_at_first at = none_push [] (flag (null_named at)) none_of_none refl

-- all checks of all symbols, from the list of those that pass their own, the fault of the next one, and the least index
-- that is repeated among them
all_settled : (strings : List ℕ) (at : ℕ) (es : List SymbolEntry) (named : List NamedSymbol) (own : Option Fault) (names : List Named) (r : Option ℕ)
    → (named, own) ≡ listed_from strings (null_named at ∷ []) es → names ≡ flagged named → IsLeast (is_repeated names) r → named_of strings at es ≡ verdict (named, own) r
all_settled strings at es named own names r is flags least =
    let here : Least (named, own) r = subst (λ (l : List Named). IsLeast (is_repeated l) r) flags least in
    settled strings r es (null_named at ∷ []) (none_at_first at) (subst (λ (l : Listed). Least l r) is here)
    ∙ sym (ap (λ (l : Listed). verdict l r) is)

-- an index that is repeated is one of the symbols
pub repeated_among : (named : List NamedSymbol) (names : List Named) (symbols : List Symbol) (r : Option ℕ) → names ≡ flagged named → symbols ≡ map (λ n. n.symbol) named → IsLeast (is_repeated names) r
    → IfSome r (λ i. i < length symbols)
repeated_among named names symbols None flags apart least = tt
repeated_among named names symbols (Some i) flags apart least =
    omega (arith, repeated_inside names i least.0, ap length flags, length-map named flag, ap length apart, length-map named (λ n. n.symbol))

-- the same, from the symbols and their names
verdict_told : (named : List NamedSymbol) (own : Option Fault) (names : List Named) (symbols : List Symbol) (r : Option ℕ) → names ≡ flagged named → symbols ≡ map (λ n. n.symbol) named → IsLeast (is_repeated names) r
    → verdict (named, own) r ≡ (refuse_first symbols r own >> Ok (flagged_by symbols names))
verdict_told named own names symbols (Some i) flags apart least =
    let inside : i < length named = omega (arith, repeated_inside names i least.0, ap length flags, length-map named flag) in
    let same : (get_or named i (null_named 0)).symbol ≡ get_or symbols i (null_symbol 0) =
    sym (ap (λ (l : List Symbol). get_or l i (null_symbol 0)) apart ∙ get_or-map (λ (n : NamedSymbol). n.symbol) named i (null_named 0) (null_symbol 0) inside) in
    ap (λ (t : Symbol). let r : Result (List NamedSymbol) Fault = Err (fault DuplicateSymbol t.at) in r) same
verdict_told named (Some f) names symbols None flags apart least = refl
verdict_told named None names symbols None flags apart least = sym (ap Ok (taken_again named symbols names apart flags))

pub told : (strings : List ℕ) (at : ℕ) (es : List SymbolEntry) (named : List NamedSymbol) (own : Option Fault) (names : List Named) (symbols : List Symbol) (r : Option ℕ)
    → (named, own) ≡ listed_from strings (null_named at ∷ []) es → names ≡ flagged named → symbols ≡ map (λ n. n.symbol) named → IsLeast (is_repeated names) r
    → named_of strings at es ≡ (refuse_first symbols r own >> Ok (flagged_by symbols names))
told strings at es named own names symbols r is flags apart least =
    all_settled strings at es named own names r is flags least ∙ verdict_told named own names symbols r flags apart least
