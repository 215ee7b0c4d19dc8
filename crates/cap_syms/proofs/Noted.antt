-- One more occurrence, in names and tallies that stand beside each other.
use Rattle.std.proofs.Common.{◌≡◌, ℕ, suc, ◌+◌, ◌<◌, Bool, true, false, not, cond, eqb, ◌||◌, List, [], ◌∷◌, ◌++◌, length, get_or, set, inl, inr, refl, sym, ap, ◌∙◌, arith, length-append, true≢false, ◌≤◌}
use Rattle.std.specs.Prelude.{zip}
use Rattle.std.specs.List.{list_any, position_or_len}
use Rattle.std.specs.Str.{bytes_eq}
use Rattle.std.proofs.lemmas.Bool.{or_parts, cases_Bool, eq-eqb, ne_eqb}
use Rattle.std.proofs.lemmas.List.{length-set}
use Rattle.cap_syms.specs.declared.tally.Tally.{Tally}
use Rattle.cap_syms.specs.Distinct.{with_new}
use Rattle.cap_syms.specs.Occurrences.{Occurrence}
use Rattle.cap_syms.specs.Tally.{noted, entered, with_occurrence, no_tally}

module _ (o : Occurrence) where
  abbrev is_its : List ℕ → Bool
  is_its n = bytes_eq o.name n

  abbrev place : List (List ℕ) → ℕ
  place ns = position_or_len is_its ns

  abbrev row_of : List ℕ × Tally → List (List ℕ × Tally) → Bool → List (List ℕ × Tally)
  row_of r rows b = cond b ((r.0, with_occurrence r.1 o) ∷ rows) (r ∷ noted rows o)

  absent-place : (ns : List (List ℕ)) → list_any is_its ns ≡ false → place ns ≡ length ns
  absent-place [] h = refl
  absent-place (n ∷ ns) h =
      let parts = or_parts (is_its n) (list_any is_its ns) h in
      let at : place (n ∷ ns) ≡ 1 + place ns = ap (λ b. cond (not b) (1 + place ns) 0) parts.0 in
      let rest : place ns ≡ length ns = absent-place ns parts.1 in
      omega (arith, at, rest)

  absent-noted : (ns : List (List ℕ)) (ts : List Tally) → length ns ≡ length ts → list_any is_its ns ≡ false → zip (ns ++ o.name ∷ []) (ts ++ with_occurrence no_tally o ∷ []) ≡ noted (zip ns ts) o
  absent-noted [] [] len h = refl
  absent-noted [] (t ∷ ts) len h = absurd (omega (arith, len))
  absent-noted (n ∷ ns) [] len h = absurd (omega (arith, len))
  absent-noted (n ∷ ns) (t ∷ ts) len h =
      let parts = or_parts (is_its n) (list_any is_its ns) h in
      ap (λ rows. (n, t) ∷ rows) (absent-noted ns ts (omega (arith, len)) parts.1)
      ∙ sym (ap (row_of (n, t) (zip ns ts)) parts.0)

  present-place : (ns : List (List ℕ)) → list_any is_its ns ≡ true → place ns < length ns
  present-place [] h = absurd (true≢false (sym h))
  present-place (n ∷ ns) h = elim (cases_Bool (is_its n)) [
    | inl e ↦ let at : place (n ∷ ns) ≡ 0 = ap (λ c. cond (not c) (1 + place ns) 0) e in omega (arith, at)
    | inr e ↦
        let at : place (n ∷ ns) ≡ 1 + place ns = ap (λ c. cond (not c) (1 + place ns) 0) e in
        let rest : list_any is_its ns ≡ true = sym (ap (λ c. c || list_any is_its ns) e) ∙ h in
        let lt : place ns < length ns = present-place ns rest in
        omega (arith, at, lt)
  ]

  abbrev updated : List Tally → ℕ → List Tally
  updated ts i = set ts i (with_occurrence (get_or ts i no_tally) o)

  present-noted : (ns : List (List ℕ)) (ts : List Tally) → length ns ≡ length ts → list_any is_its ns ≡ true → zip ns (updated ts (place ns)) ≡ noted (zip ns ts) o
  present-noted [] ts len h = absurd (true≢false (sym h))
  present-noted (n ∷ ns) [] len h = absurd (omega (arith, len))
  present-noted (n ∷ ns) (t ∷ ts) len h = elim (cases_Bool (is_its n)) [
    | inl e ↦
        let at : place (n ∷ ns) ≡ 0 = ap (λ c. cond (not c) (1 + place ns) 0) e in
        ap (λ i. zip (n ∷ ns) (updated (t ∷ ts) i)) at ∙ sym (ap (row_of (n, t) (zip ns ts)) e)
    | inr e ↦
        let one : place (n ∷ ns) ≡ 1 + place ns = ap (λ c. cond (not c) (1 + place ns) 0) e in
        let at : place (n ∷ ns) ≡ suc (place ns) = omega (arith, one) in
        let rest : list_any is_its ns ≡ true = sym (ap (λ c. c || list_any is_its ns) e) ∙ h in
        ap (λ i. zip (n ∷ ns) (updated (t ∷ ts) i)) at
        ∙ ap (λ rows. (n, t) ∷ rows) (present-noted ns ts (omega (arith, len)) rest)
        ∙ sym (ap (row_of (n, t) (zip ns ts)) e)
  ]

  abbrev chosen : List Tally → ℕ → Bool → List Tally
  chosen ts i b = cond b (ts ++ with_occurrence no_tally o ∷ []) (updated ts i)

  abbrev named : List (List ℕ) → Bool → List (List ℕ)
  named ns b = cond b ns (ns ++ o.name ∷ [])

  -- the rows with one more occurrence, and that both lists stay equally long
  pub zip_entered : (ns : List (List ℕ)) (ts : List Tally) → length ns ≡ length ts → (zip (with_new bytes_eq ns o.name) (entered ts (place ns) o) ≡ noted (zip ns ts) o) × (length (with_new bytes_eq ns o.name) ≡ length (entered ts (place ns) o))
  zip_entered ns ts len = by (list_any is_its ns) refl
    where
      by : (b : Bool) → list_any is_its ns ≡ b → (zip (with_new bytes_eq ns o.name) (entered ts (place ns) o) ≡ noted (zip ns ts) o) × (length (with_new bytes_eq ns o.name) ≡ length (entered ts (place ns) o))
      by true e =
          let lt = present-place ns e in
          let test : eqb (place ns) (length ts) ≡ false = ne_eqb (place ns) (length ts) (λ z. omega (arith, lt, z, len)) in
          let names : with_new bytes_eq ns o.name ≡ ns = ap (named ns) e in
          let tallies : entered ts (place ns) o ≡ updated ts (place ns) = ap (chosen ts (place ns)) test in (
            ap (λ xs. zip xs (entered ts (place ns) o)) names ∙ ap (zip ns) tallies ∙ present-noted ns ts len e,
            ap length names ∙ len ∙ sym (length-set ts (place ns) (with_occurrence (get_or ts (place ns) no_tally) o)) ∙ sym (ap length tallies),
          )
      by false e =
          let at = absent-place ns e in
          let test : eqb (place ns) (length ts) ≡ true = eq-eqb (place ns) (length ts) (at ∙ len) in
          let more : List Tally = ts ++ with_occurrence no_tally o ∷ [] in
          let names : with_new bytes_eq ns o.name ≡ ns ++ o.name ∷ [] = ap (named ns) e in
          let tallies : entered ts (place ns) o ≡ more = ap (chosen ts (place ns)) test in
          let longer : length (ns ++ o.name ∷ []) ≡ length more = length-append ns (o.name ∷ []) ∙ ap (λ k. k + 1) len ∙ sym (length-append ts (with_occurrence no_tally o ∷ [])) in (
            ap (λ xs. zip xs (entered ts (place ns) o)) names ∙ ap (zip (ns ++ o.name ∷ [])) tallies ∙ absent-noted ns ts len e,
            ap length names ∙ longer ∙ sym (ap length tallies),
          )

  -- the tallies grow by one at most
  pub one_more : (ts : List Tally) (i : ℕ) → length (entered ts i o) ≤ length ts + 1
  one_more ts i = by (eqb i (length ts)) refl
    where
      by : (b : Bool) → eqb i (length ts) ≡ b → length (entered ts i o) ≤ length ts + 1
      by true e =
          let same : length (entered ts i o) ≡ length ts + 1 = ap (λ c. length (chosen ts i c)) e ∙ length-append ts (with_occurrence no_tally o ∷ []) in
          omega (arith, same)
      by false e =
          let same : length (entered ts i o) ≡ length ts = ap (λ c. length (chosen ts i c)) e ∙ length-set ts i (with_occurrence (get_or ts i no_tally) o) in
          omega (arith, same)
