-- The definitions of a name in an object, from the symbol that is found.
use Rattle.std.proofs.Common.{◌≡◌, ℕ, zero, suc, ◌+◌, ◌<◌, Bool, true, false, ◌&&◌, cond, List, [], ◌∷◌, ◌++◌, length, get_or, take, map, Some, None, refl, sym, ap, ◌∙◌, arith}
use Rattle.std.specs.Prelude.{◌==◌, bytes_eq, filter, zip}
use Rattle.std.specs.List.{enumerate_from}
use Rattle.std.proofs.lemmas.Bool.{both_ways, false_from_ne_true}
use Rattle.std.proofs.lemmas.List.{map_more}
use Rattle.std.proofs.lemmas.Slice.Zip.{get_or-zip, length-zip}
use Rattle.std.proofs.Math.ListN.{get_or-map}
use Rattle.cap_elf.specs.declared.records.Symbol.{Symbol}
use Rattle.cap_elf.specs.Records.{null_symbol}
use Rattle.cap_elf.specs.DynView.{DynRecords}
use Rattle.cap_names.specs.Named.{IsOnly, matches, first_defined}
use Rattle.cap_scope.specs.declared.choice.Candidate.{Candidate}
use Rattle.cap_scope.specs.Candidates.{NamedSymbol, can_be_chosen, is_named, defined_name, hash_table, candidate, candidates_in}
use Rattle.cap_scope.proofs.Exported.{first_matches}

abbrev no_symbol : NamedSymbol
no_symbol = (null_symbol 0, [])

-- the names of the first symbols, and one more
pub names_more : (symbols : List Symbol) (names : List (List ℕ)) (i : ℕ) (s : Symbol) (name : List ℕ) → length names ≡ length symbols → i < length symbols → s ≡ get_or symbols i (null_symbol 0) → name ≡ get_or names i [] → map defined_name (take i (zip symbols names)) ++ (name, can_be_chosen s) ∷ [] ≡ map defined_name (take (i + 1) (zip symbols names))
names_more symbols names i s name count lt se ne =
    let zs : List NamedSymbol = zip symbols names in
    let inside : i < length zs = (let long = length-zip symbols names in omega (arith, long, count, lt)) in
    let at : get_or zs i no_symbol ≡ (s, name) = get_or-zip symbols names i no_symbol lt (omega (arith, count, lt)) ∙ ap (λ t. (t, get_or names i [])) (sym se) ∙ ap (λ n. (s, n)) (sym ne) in
    sym (map_more defined_name zs i no_symbol inside ∙ ap (λ z. map defined_name (take i zs) ++ defined_name z ∷ []) at)

module _ (name : List ℕ) where
  kept-none : (xs : List NamedSymbol) (s : ℕ) → ((k : ℕ) → is_named name (get_or xs k no_symbol) ≡ false) → filter (λ n. is_named name n.1) (enumerate_from s xs) ≡ []
  kept-none [] s h = refl
  kept-none (x ∷ xs) s h =
      ap (λ b. cond b ((s, x) ∷ filter (λ n. is_named name n.1) (enumerate_from (s + 1) xs)) (filter (λ n. is_named name n.1) (enumerate_from (s + 1) xs))) (h 0)
      ∙ kept-none xs (s + 1) (λ k. h (suc k))

  kept-one : (xs : List NamedSymbol) (s k : ℕ) → is_named name (get_or xs k no_symbol) ≡ true → ((j : ℕ) → is_named name (get_or xs j no_symbol) ≡ true → j ≡ k) → filter (λ n. is_named name n.1) (enumerate_from s xs) ≡ (s + k, get_or xs k no_symbol) ∷ []
  kept-one [] s k h only = absurd (both_ways false refl h)
  kept-one (x ∷ xs) s zero h only =
      let e : s ≡ s + 0 = omega arith in
      ap (λ b. cond b ((s, x) ∷ filter (λ n. is_named name n.1) (enumerate_from (s + 1) xs)) (filter (λ n. is_named name n.1) (enumerate_from (s + 1) xs))) h
      ∙ ap (λ l. (s, x) ∷ l) (kept-none xs (s + 1) (λ k. false_from_ne_true _ (λ m. let z : suc k ≡ 0 = only (suc k) m in omega (arith, z))))
      ∙ ap (λ n. (n, x) ∷ []) e
  kept-one (x ∷ xs) s (suc k) h only =
      let e : s + 1 + k ≡ s + suc k = omega arith in
      let miss : is_named name x ≡ false = false_from_ne_true _ (λ m. let z : 0 ≡ suc k = only 0 m in omega (arith, z)) in
      ap (λ b. cond b ((s, x) ∷ filter (λ n. is_named name n.1) (enumerate_from (s + 1) xs)) (filter (λ n. is_named name n.1) (enumerate_from (s + 1) xs))) miss
      ∙ kept-one xs (s + 1) k h (λ j m. let z : suc j ≡ suc k = only (suc j) m in omega (arith, z))
      ∙ ap (λ n. (n, get_or xs k no_symbol) ∷ []) e

  module _ (object : DynRecords) (i : ℕ) where
    abbrev symbols : List NamedSymbol
    symbols = zip object.symbols object.names

    matches_is : (k : ℕ) → matches (hash_table object).names name k ≡ is_named name (get_or symbols k no_symbol)
    matches_is k = ap (λ p. p.1 && bytes_eq p.0 name) (get_or-map defined_name symbols k no_symbol)

    pub none_in : IsOnly (hash_table object).names name None → candidates_in object i name ≡ []
    none_in only =
        ap (map (λ s. candidate i s)) (kept-none symbols 0 (λ k. false_from_ne_true _ (λ m. let no_one : None ≡ Some k = only k (matches_is k ∙ m) in absurd (cc no_one))))

    abbrev pub made : ℕ → Bool → Candidate
    made k is_strong = record { hit = record { object = i; symbol = k }; is_strong = is_strong }

    pub found_inside : (k : ℕ) → Some k ≡ first_defined (hash_table object).names name → k < length (hash_table object).names
    found_inside k e = (first_matches name (hash_table object).names k e).0

    pub one_in : (k : ℕ) → k < length object.symbols → k < length object.names → Some k ≡ first_defined (hash_table object).names name → IsOnly (hash_table object).names name (Some k) → candidates_in object i name ≡ made k ((get_or object.symbols k (null_symbol 0)).binding == 1) ∷ []
    one_in k lt lt2 e only =
        let z : 0 + k ≡ k = omega arith in
        let found : is_named name (get_or symbols k no_symbol) ≡ true = sym (matches_is k) ∙ (first_matches name (hash_table object).names k e).1 in
        let at : get_or symbols k no_symbol ≡ (get_or object.symbols k (null_symbol 0), get_or object.names k []) = get_or-zip object.symbols object.names k no_symbol lt lt2 in
        ap (map (λ s. candidate i s)) (kept-one symbols 0 k found (λ j m. let same : Some k ≡ Some j = only j (matches_is j ∙ m) in let eq : j ≡ k = cc same in eq))
        ∙ ap (λ n. candidate i (n, get_or symbols k no_symbol) ∷ []) z
        ∙ ap (λ p. candidate i (k, p) ∷ []) at
