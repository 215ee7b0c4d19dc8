-- What the pass over the inputs leaves: each name at its first appearance, with the tally of its occurrences.
use Rattle.std.proofs.Common.{◌≡◌, ℕ, Bool, true, false, cond, ◌||◌, List, [], ◌∷◌, ◌++◌, map, inl, inr, refl, sym, ap, ◌∙◌, true≢false}
use Rattle.std.specs.Prelude.{fold}
use Rattle.std.specs.List.{list_any, enumerate_from}
use Rattle.std.specs.Str.{bytes_eq}
use Rattle.std.proofs.lemmas.Bool.{cases_Bool, or_parts}
use Rattle.std.proofs.lemmas.List.{map-append, append-nil, append_assoc}
use Rattle.std.proofs.lemmas.List.Elements.{filter-append}
use Rattle.std.proofs.lemmas.List.Sums.{fold-append}
use Rattle.cap_elf.specs.RelObject.{RelObject}
use Rattle.cap_syms.specs.declared.tally.Tally.{Tally}
use Rattle.cap_syms.specs.Distinct.{with_new, distinct}
use Rattle.cap_syms.specs.Occurrences.{Occurrence, occurrences, occurrences_in, occurrences_of, is_local}
use Rattle.cap_syms.specs.Tally.{tally_of, tallied, noted, symbols_in, with_input, with_occurrence, no_tally}
use Rattle.cap_syms.proofs.Firsts.{Apart, bytes_same, bytes_refl, bytes_swap, any-distinct, apart-distinct, first_alone, apart-tail}
use Rattle.cap_syms.proofs.Loops.{fold-filter, fold-flat_map}
use Rattle.cap_syms.proofs.Tallies.{tally-more}

abbrev pub Rows : Type 0
Rows = List (List ℕ × Tally)

abbrev names_of : List Occurrence → List (List ℕ)
names_of os = distinct bytes_eq (map (λ o. o.name) os)

module _ (T U : List ℕ → Tally) (o : Occurrence)
    (same : (n : List ℕ) → bytes_eq o.name n ≡ false → U n ≡ T n)
    (more : (n : List ℕ) → bytes_eq o.name n ≡ true → U n ≡ with_occurrence (T n) o) where
  abbrev rows : List (List ℕ) → Rows
  rows ns = map (λ n. (n, T n)) ns

  abbrev after : List (List ℕ) → Rows
  after ns = map (λ n. (n, U n)) ns

  abbrev step : List ℕ → Rows → Bool → Rows
  step n rest b = cond b ((n, with_occurrence (T n) o) ∷ rest) ((n, T n) ∷ noted rest o)

  -- none of the names is its
  unchanged : (ns : List (List ℕ)) → list_any (bytes_eq o.name) ns ≡ false → rows ns ≡ after ns
  unchanged [] h = refl
  unchanged (n ∷ ns) h =
      let parts = or_parts (bytes_eq o.name n) (list_any (bytes_eq o.name) ns) h in
      (λ j. (n, sym (same n parts.0) j) ∷ unchanged ns parts.1 j)

  new_name : (ns : List (List ℕ)) → list_any (bytes_eq o.name) ns ≡ false → T o.name ≡ no_tally → noted (rows ns) o ≡ after (ns ++ o.name ∷ [])
  new_name [] h none = ap (λ t. (o.name, t) ∷ []) (sym (more o.name (bytes_refl o.name) ∙ ap (λ t. with_occurrence t o) none))
  new_name (n ∷ ns) h none =
      let parts = or_parts (bytes_eq o.name n) (list_any (bytes_eq o.name) ns) h in
      let rest = new_name ns parts.1 none in
      ap (step n (rows ns)) parts.0 ∙ (λ j. (n, sym (same n parts.0) j) ∷ rest j)

  old_name : (ns : List (List ℕ)) → list_any (bytes_eq o.name) ns ≡ true → Apart ns → noted (rows ns) o ≡ after ns
  old_name [] h apart = absurd (true≢false (sym h))
  old_name (n ∷ ns) h apart = elim (cases_Bool (bytes_eq o.name n)) [
    | inl e ↦
        let alone : list_any (bytes_eq o.name) ns ≡ false = ap (λ q. list_any (bytes_eq q) ns) (bytes_same o.name n e) ∙ first_alone n ns apart in
        let rest = unchanged ns alone in
        ap (step n (rows ns)) e ∙ (λ j. (n, sym (more n e) j) ∷ rest j)
    | inr e ↦
        let rest = old_name ns (sym (ap (λ b. b || list_any (bytes_eq o.name) ns) e) ∙ h) (apart-tail n ns apart) in
        ap (step n (rows ns)) e ∙ (λ j. (n, sym (same n e) j) ∷ rest j)
  ]

-- the occurrences of a name, with one more
of-other : (os : List Occurrence) (o : Occurrence) (n : List ℕ) → bytes_eq o.name n ≡ false → occurrences_of (os ++ o ∷ []) n ≡ occurrences_of os n
of-other os o n e =
    filter-append (λ x. bytes_eq x.name n) os (o ∷ [])
    ∙ ap (λ b. occurrences_of os n ++ cond b (o ∷ []) []) e
    ∙ append-nil (occurrences_of os n)

of-its : (os : List Occurrence) (o : Occurrence) (n : List ℕ) → bytes_eq o.name n ≡ true → occurrences_of (os ++ o ∷ []) n ≡ occurrences_of os n ++ o ∷ []
of-its os o n e =
    filter-append (λ x. bytes_eq x.name n) os (o ∷ []) ∙ ap (λ b. occurrences_of os n ++ cond b (o ∷ []) []) e

-- there are none of a name that doesn't occur
of-none : (os : List Occurrence) (n : List ℕ) → list_any (bytes_eq n) (map (λ o. o.name) os) ≡ false → occurrences_of os n ≡ []
of-none [] n h = refl
of-none (x ∷ os) n h =
    let parts = or_parts (bytes_eq n x.name) (list_any (bytes_eq n) (map (λ o. o.name) os)) h in
    ap (λ b. cond b (x ∷ occurrences_of os n) (occurrences_of os n)) (bytes_swap x.name n ∙ parts.0)
    ∙ of-none os n parts.1

abbrev listed : (List ℕ → Tally) → List (List ℕ) → Rows
listed T ns = map (λ n. (n, T n)) ns

abbrev grown : List (List ℕ) → List ℕ → Bool → List (List ℕ)
grown ns x b = cond b ns (ns ++ x ∷ [])

-- one more occurrence
tallied-more : (os : List Occurrence) (o : Occurrence) → noted (tallied os) o ≡ tallied (os ++ o ∷ [])
tallied-more os o =
    let ns : List (List ℕ) = names_of os in
    let T : List ℕ → Tally = λ n. tally_of (occurrences_of os n) in
    let U : List ℕ → Tally = λ n. tally_of (occurrences_of (os ++ o ∷ []) n) in
    let same : (n : List ℕ) → bytes_eq o.name n ≡ false → U n ≡ T n = λ n e. ap tally_of (of-other os o n e) in
    let more : (n : List ℕ) → bytes_eq o.name n ≡ true → U n ≡ with_occurrence (T n) o =
    λ n e. ap tally_of (of-its os o n e) ∙ tally-more (occurrences_of os n) o in
    let names : names_of (os ++ o ∷ []) ≡ with_new bytes_eq ns o.name =
    ap (distinct bytes_eq) (map-append (λ x. x.name) os (o ∷ [])) ∙ fold-append (with_new bytes_eq) [] (map (λ x. x.name) os) (o.name ∷ []) in
    elim (cases_Bool (list_any (bytes_eq o.name) ns)) [
      | inl e ↦
          old_name T U o same more ns e (apart-distinct (map (λ x. x.name) os))
          ∙ sym (ap (listed U) (names ∙ ap (grown ns o.name) e))
      | inr e ↦
          let none : T o.name ≡ no_tally = ap tally_of (of-none os o.name (sym (any-distinct o.name (map (λ x. x.name) os)) ∙ e)) in
          new_name T U o same more ns e none ∙ sym (ap (listed U) (names ∙ ap (grown ns o.name) e))
    ]

tallied-all : (os rest : List Occurrence) → fold noted (tallied os) rest ≡ tallied (os ++ rest)
tallied-all os [] = ap tallied (sym (append-nil os))
tallied-all os (o ∷ rest) =
    ap (λ rows. fold noted rows rest) (tallied-more os o)
    ∙ tallied-all (os ++ o ∷ []) rest
    ∙ ap tallied (append_assoc os (o ∷ []) rest)

with_input-is : (rows : Rows) (p : ℕ × RelObject) → with_input rows p ≡ fold noted rows (occurrences_in p)
unfolding with_input
with_input-is rows p = fold-filter noted (λ o. is_local o.as_is) rows (symbols_in p)

-- all inputs
pub all-tallied : (rels : List RelObject) → fold with_input [] (enumerate_from 0 rels) ≡ tallied (occurrences rels)
all-tallied rels =
    fold-flat_map noted with_input occurrences_in with_input-is [] (enumerate_from 0 rels)
    ∙ tallied-all [] (occurrences rels)
