-- Symbols with their names, and the two lists that they are made of.
use Rattle.std.proofs.Common.{◌≡◌, ℕ, ◌+◌, ◌≤◌, ◌<◌, List, [], ◌∷◌, ◌++◌, length, get_or, map, refl, ap, ◌∙◌, arith}
use Rattle.std.proofs.lemmas.List.{length-map, map-append, get_or-map}
use Rattle.std.proofs.lemmas.List.Elements.{All-push}
use Rattle.cap_elf.specs.declared.records.Symbol.{Symbol}
use Rattle.cap_elf.specs.Named.{named_by}
use Rattle.cap_elf.specs.declared.rel_named.NamePlace.{NamePlace}
use Rattle.cap_elf.specs.NamePlaces.{name_at, names_at, IsNameAt, AreWithin}

-- one more of each
pub named_push : (symbols : List Symbol) (names : List (List ℕ)) (s : Symbol) (n : List ℕ) → length names ≡ length symbols → named_by (symbols ++ s ∷ []) (names ++ n ∷ []) ≡ named_by symbols names ++ record { symbol = s; name = n } ∷ []
unfolding named_by
named_push [] [] s n same = refl
named_push [] (m ∷ names) s n same = absurd (omega (arith, same))
named_push (r ∷ symbols) [] s n same = absurd (omega (arith, same))
named_push (r ∷ symbols) (m ∷ names) s n same = ap (λ l. record { symbol = r; name = m } ∷ l) (named_push symbols names s n (omega (arith, same)))

-- the symbols among them
pub symbols_by : (symbols : List Symbol) (names : List (List ℕ)) → length names ≡ length symbols → map (λ n. n.symbol) (named_by symbols names) ≡ symbols
unfolding named_by
symbols_by [] names same = refl
symbols_by (s ∷ symbols) [] same = absurd (omega (arith, same))
symbols_by (s ∷ symbols) (n ∷ names) same = ap (λ l. s ∷ l) (symbols_by symbols names (omega (arith, same)))

-- the names among them
pub names_by : (symbols : List Symbol) (names : List (List ℕ)) → length names ≡ length symbols → map (λ n. n.name) (named_by symbols names) ≡ names
unfolding named_by
names_by [] [] same = refl
names_by [] (n ∷ names) same = absurd (omega (arith, same))
names_by (s ∷ symbols) [] same = absurd (omega (arith, same))
names_by (s ∷ symbols) (n ∷ names) same = ap (λ l. n ∷ l) (names_by symbols names (omega (arith, same)))

-- as many names as places
pub place_count : (strings : List ℕ) (places : List NamePlace) → length (names_at strings places) ≡ length places
unfolding names_at
place_count strings places = length-map places (name_at strings)

-- the name of a place among them
pub name_of_place : (strings : List ℕ) (places : List NamePlace) (i : ℕ) (d : NamePlace) → i < length places → get_or (names_at strings places) i [] ≡ name_at strings (get_or places i d)
unfolding names_at
name_of_place strings places i d lt = get_or-map (name_at strings) places i d [] lt

-- one symbol more, and the place of its name
pub place_push : (strings : List ℕ) (symbols : List Symbol) (places : List NamePlace) (s : Symbol) (offset : ℕ) (n : List ℕ) → length places ≡ length symbols → IsNameAt strings offset n
    → named_by (symbols ++ s ∷ []) (names_at strings (places ++ record { offset = offset; len = length n } ∷ [])) ≡ named_by symbols (names_at strings places) ++ record { symbol = s; name = n } ∷ []
unfolding names_at
place_push strings symbols places s offset n same is =
    let more : names_at strings (places ++ record { offset = offset; len = length n } ∷ []) ≡ names_at strings places ++ n ∷ [] =
    map-append (name_at strings) places (record { offset = offset; len = length n } ∷ []) ∙ ap (λ m. names_at strings places ++ m ∷ []) is.same in
    ap (named_by (symbols ++ s ∷ [])) more ∙ named_push symbols (names_at strings places) s n (place_count strings places ∙ same)

pub within_push : (len : ℕ) (places : List NamePlace) (p : NamePlace) → AreWithin len places → p.offset + p.len ≤ len → AreWithin len (places ++ p ∷ [])
within_push len places p within one = All-push (λ (q : NamePlace). q.offset + q.len ≤ len) places p within one
