-- A symbol that can be chosen is exported: so it is the one that is found among the exported ones.
use Rattle.std.proofs.Common.{◌≡◌, ℕ, ◌<◌, ◌≤◌, Bool, true, false, not, ◌&&◌, ◌||◌, cond, List, [], length, get_or, map, Option, Some, None, inl, inr, refl, sym, ap, ◌∙◌, arith}
use Rattle.std.specs.Prelude.{◌==◌, nat_lt, bytes_eq, zip, min, IfSome}
use Rattle.std.specs.List.{position_or_len}
use Rattle.std.proofs.lemmas.Bool.{ltb-true, ltb-false, and_parts, and_from, or_cases, ne_eqb, eqb-true, both_ways, cases_Bool, cases_lt, not_from_false}
use Rattle.std.proofs.lemmas.List.{length-map, get_or_past}
use Rattle.std.proofs.lemmas.List.Sums.{passes_at_first, fails_before_first}
use Rattle.std.proofs.lemmas.Slice.Zip.{get_or-zip, length-zip}
use Rattle.std.proofs.Math.ListN.{get_or-map}
use Rattle.cap_elf.specs.declared.records.Symbol.{Symbol}
use Rattle.cap_elf.specs.Records.{null_symbol}
use Rattle.cap_elf.specs.Exported.{is_exported, is_defined, exported_list, first_exported, IsOnlyExported}
use Rattle.cap_names.specs.Named.{Named, IsOnly, matches, first_defined}
use Rattle.cap_scope.specs.Candidates.{NamedSymbol, can_be_chosen, defined_name}

pub exported-from : (s : Symbol) → can_be_chosen s ≡ true → is_exported s ≡ true
exported-from s h =
    let defined = is_defined s.place in
    let bound = s.binding == 1 || s.binding == 2 in
    let parts = and_parts defined bound (and_parts (defined && bound) (s.visibility == 0 || s.visibility == 3) h).0 in
    and_from (not (s.binding == 0)) defined (not_from_false _ (ne_eqb s.binding 0 (λ z. elim (or_cases (s.binding == 1) (s.binding == 2) parts.1) [
      | inl one ↦ let e : s.binding ≡ 1 = eqb-true s.binding 1 one in omega (arith, e, z)
      | inr two ↦ let e : s.binding ≡ 2 = eqb-true s.binding 2 two in omega (arith, e, z)
    ]))) parts.0

module _ (name : List ℕ) where
  abbrev test : Named → Bool
  test p = p.1 && bytes_eq p.0 name

  -- what is found first is defined, and has the name
  pub first_matches : (names : List Named) (k : ℕ) → Some k ≡ first_defined names name → (k < length names) × (matches names name k ≡ true)
  first_matches names k e =
      let f : ℕ = position_or_len test names in
      elim (cases_Bool (nat_lt f (length names))) [
        | inl inside ↦
            let some : Some k ≡ Some f = e ∙ ap (λ b. cond b (Some f) None) inside in
            let same : k ≡ f = cc some in
            let lt : f < length names = ltb-true f (length names) inside in
            (omega (arith, same, lt), ap (matches names name) same ∙ passes_at_first test names ([], false) lt)
        | inr outside ↦ let none : Some k ≡ None = e ∙ ap (λ b. cond b (Some f) None) outside in absurd (cc none)
      ]

  -- what matches is found, if it is the only one
  no_match : (names : List Named) (k : ℕ) → length names ≤ position_or_len test names → matches names name k ≡ true → ⊥
  no_match names k past m =
      elim (cases_lt k (length names)) [
        | inl lt ↦ both_ways _ (fails_before_first test names k ([], false) (omega (arith, lt, past))) m
        | inr le ↦ both_ways _ (ap test (get_or_past names k ([], false) le)) m
      ]

  only_first : (names : List Named) (found : Option ℕ) → IsOnly names name found → IfSome found (λ k. matches names name k ≡ true) → found ≡ first_defined names name
  only_first names found only real =
      let f : ℕ = position_or_len test names in
      let shown : Bool → Option ℕ = λ b. cond b (Some f) None in
      elim (cases_Bool (nat_lt f (length names))) [
        | inl inside ↦ only f (passes_at_first test names ([], false) (ltb-true f (length names) inside)) ∙ sym (ap shown inside)
        | inr outside ↦ nothing found real (ltb-false f (length names) outside) ∙ sym (ap shown outside)
      ]
    where
      nothing : (found : Option ℕ) → IfSome found (λ k. matches names name k ≡ true) → length names ≤ position_or_len test names → found ≡ None
      nothing None real past = refl
      nothing (Some k) real past = absurd (no_match names k past real)

module _ (symbols : List Symbol) (names : List (List ℕ)) (name : List ℕ) where
  abbrev pairs : List NamedSymbol
  pairs = zip symbols names

  abbrev pair_at : ℕ → NamedSymbol
  pair_at k = get_or pairs k (null_symbol 0, [])

  abbrev choosable : List Named
  choosable = map defined_name pairs

  at_choosable : (k : ℕ) → matches choosable name k ≡ (can_be_chosen (pair_at k).0 && bytes_eq (pair_at k).1 name)
  at_choosable k = ap (test name) (get_or-map defined_name pairs k (null_symbol 0, []))

  at_exported : (k : ℕ) → matches (exported_list symbols names) name k ≡ (is_exported (pair_at k).0 && bytes_eq (pair_at k).1 name)
  at_exported k = ap (test name) (get_or-map (λ (s : NamedSymbol). let p : Named = (s.1, is_exported s.0) in p) pairs k (null_symbol 0, []))

  exported_too : (k : ℕ) → matches choosable name k ≡ true → matches (exported_list symbols names) name k ≡ true
  exported_too k m =
      let parts = and_parts (can_be_chosen (pair_at k).0) (bytes_eq (pair_at k).1 name) (sym (at_choosable k) ∙ m) in
      at_exported k ∙ and_from _ _ (exported-from (pair_at k).0 parts.0) parts.1

  -- nothing is exported with the name
  pub none_only : IsOnlyExported symbols names name None → IsOnly choosable name None
  none_only only k m = only k (exported_too k m)

  pub none_first : IsOnlyExported symbols names name None → None ≡ first_defined choosable name
  none_first only = only_first name choosable None (none_only only) tt

  module _ (k : ℕ) (count : length names ≡ length symbols) (first : Some k ≡ first_exported symbols names name) (only : IsOnlyExported symbols names name (Some k)) where
    pub inside : k < length symbols
    inside =
        let lt : k < length (exported_list symbols names) = (first_matches name (exported_list symbols names) k first).0 in
        let a : length (exported_list symbols names) ≡ length pairs = length-map pairs (λ s. let p : Named = (s.1, is_exported s.0) in p) in
        let b : length pairs ≡ min (length symbols) (length names) = length-zip symbols names in
        omega (arith, lt, a, b, count)

    symbol_is : (pair_at k).0 ≡ get_or symbols k (null_symbol 0)
    symbol_is = ap (λ (s : NamedSymbol). s.0) (get_or-zip symbols names k (null_symbol 0, []) inside (omega (arith, inside, count)))

    -- it can be chosen
    module _ (chosen : can_be_chosen (get_or symbols k (null_symbol 0)) ≡ true) where
      pub chosen_only : IsOnly choosable name (Some k)
      chosen_only j m = only j (exported_too j m)

      pub chosen_first : Some k ≡ first_defined choosable name
      chosen_first =
          let parts = and_parts (is_exported (pair_at k).0) (bytes_eq (pair_at k).1 name) (sym (at_exported k) ∙ (first_matches name (exported_list symbols names) k first).1) in
          only_first name choosable (Some k) chosen_only (at_choosable k ∙ and_from _ _ (ap can_be_chosen symbol_is ∙ chosen) parts.1)

    -- it can't
    module _ (hidden : can_be_chosen (get_or symbols k (null_symbol 0)) ≡ false) where
      pub hidden_only : IsOnly choosable name None
      hidden_only j m =
          let same : Some k ≡ Some j = only j (exported_too j m) in
          let e : k ≡ j = cc same in
          let parts = and_parts (can_be_chosen (pair_at j).0) (bytes_eq (pair_at j).1 name) (sym (at_choosable j) ∙ m) in
          absurd (both_ways _ (ap can_be_chosen symbol_is ∙ hidden) (ap (λ (i : ℕ). can_be_chosen (pair_at i).0) e ∙ parts.0))

      pub hidden_first : None ≡ first_defined choosable name
      hidden_first = only_first name choosable None hidden_only tt
