-- What the tallies decide is what the definition decides.
use Rattle.std.proofs.Common.{◌≡◌, ℕ, Bool, true, false, not, cond, ◌&&◌, ◌||◌, List, [], ◌∷◌, length, map, Result, Ok, Err, refl, sym, ap, true≢false, ◌∙◌, arith}
use Rattle.std.specs.Prelude.{slice_get, zip}
use Rattle.std.specs.List.{list_any}
use Rattle.std.specs.Option.{option_map}
use Rattle.std.specs.Str.{bytes_eq}
use Rattle.cap_base.specs.Steps.{◌>>◌, each}
use Rattle.cap_base.specs.declared.refusal.Refusal.{Refusal}
use Rattle.cap_base.specs.declared.refusal.Refusal.TheVariants as refusals
use Rattle.cap_elf.specs.RelObject.{RelObject, file_of}
use Rattle.cap_elf.specs.DynView.{DynValue}
use Rattle.cap_syms.specs.declared.tally.Tally.{Tally}
use Rattle.cap_syms.specs.Occurrences.{Occurrence, occurrences, occurrences_of, names_in_order}
use Rattle.cap_syms.specs.Decisions.{further_definitions, bound_of, is_strongly_absent, is_default}
use Rattle.cap_syms.specs.Resolved.{Resolved, resolved, refuse_second, defined_once, is_offered, is_defined_somewhere, resolve_of}
use Rattle.cap_syms.specs.Tally.{tally_of, tally_by, deciding, second_of, second_from, tallied, refuse_this, decided_row, refuse_missing}
use Rattle.cap_syms.proofs.Loops.{each-same, each-map}
use Rattle.cap_syms.proofs.Tallies.{entry-is}

abbrev Rows : Type 0
Rows = List (List ℕ × Tally)

-- tallies beside their names
pub only-tallies : (names : List (List ℕ)) (ts : List Tally) → length names ≡ length ts → map (λ (p : List ℕ × Tally). p.1) (zip names ts) ≡ ts
only-tallies [] [] same = refl
only-tallies [] (t ∷ ts) same = absurd (omega (arith, same))
only-tallies (n ∷ names) [] same = absurd (omega (arith, same))
only-tallies (n ∷ names) (t ∷ ts) same = ap (λ xs. t ∷ xs) (only-tallies names ts (omega (arith, same)))

module _ (rels : List RelObject) (dyns : List DynValue) (program : Bool) where
  abbrev all : List Occurrence
  all = occurrences rels

  abbrev names : List (List ℕ)
  names = names_in_order rels

  abbrev table : List Resolved
  table = map (resolved all program) names

  abbrev refuse_tally : Tally → Result (Unit {0}) Refusal
  refuse_tally t = refuse_this rels (second_from t)

  second-is : (os : List Occurrence) → refuse_tally (tally_of os) ≡ refuse_second rels (further_definitions os)
  second-is os = by (further_definitions os)
    where
      by : (xs : List Occurrence) → refuse_tally (tally_by (deciding os) (option_map second_of (slice_get xs 0)) 0 0 0) ≡ refuse_second rels xs
      by [] = refl
      by (o ∷ xs) = refl

  abbrev tally_at : List ℕ → Tally
  tally_at n = tally_of (occurrences_of all n)

  seconds : each refuse_tally (map (λ (p : List ℕ × Tally). p.1) (tallied all)) ≡ each (defined_once rels all) names
  seconds =
      each-map refuse_tally (λ (p : List ℕ × Tally). p.1) (tallied all)
      ∙ each-map (λ (p : List ℕ × Tally). refuse_tally p.1) (λ n. (n, tally_at n)) names
      ∙ each-same (λ n. refuse_tally (tally_at n)) (defined_once rels all) (λ n. second-is (occurrences_of all n)) names

  rows-are : (ns : List (List ℕ)) → map (decided_row program) (map (λ n. (n, tally_at n)) ns) ≡ map (resolved all program) ns
  rows-are [] = refl
  rows-are (n ∷ ns) = (λ j. record { name = n; entry = entry-is (occurrences_of all n) j; bound = bound_of program (entry-is (occurrences_of all n) j) } ∷ rows-are ns j)

  -- the table of the tallies is the defined one
  pub table-is : map (decided_row program) (tallied all) ≡ table
  table-is = rows-are names

  abbrev Asks : List (List ℕ) → Type 0
  Asks offered = (q : List ℕ) → (program && not (list_any (bytes_eq q) offered)) ≡ (program && not (is_offered dyns q))

  abbrev missing_by : Resolved → Bool → Result (Unit {0}) Refusal
  missing_by r b =
      cond (is_strongly_absent r.entry.shape && (not (is_default r.entry.visibility) || b)) (Err (refusals.Unresolved (file_of rels r.entry.file).number r.entry.symbol)) (Ok tt)

  missing : (offered : List (List ℕ)) → Asks offered → (rows : List Resolved) → each (refuse_missing rels program offered) rows ≡ each (is_defined_somewhere rels dyns program) rows
  missing offered asks rows =
      each-same (refuse_missing rels program offered) (is_defined_somewhere rels dyns program) (λ r. ap (missing_by r) (asks r.name)) rows

  abbrev later : Result (Unit {0}) Refusal → Result (List Resolved) Refusal
  later r = r >> Ok table

  abbrev whole : Result (Unit {0}) Refusal → Result (Unit {0}) Refusal → Result (List Resolved) Refusal
  whole first second = first >> (second >> Ok table)

  abbrev first : List Tally → Result (Unit {0}) Refusal
  first ts = each refuse_tally ts

  as-whole : resolve_of rels dyns program ≡ whole (each (defined_once rels all) names) (each (is_defined_somewhere rels dyns program) table)
  unfolding resolve_of
  as-whole = refl

  abbrev given-or : Result (List Resolved) Refusal → List Resolved
  given-or (Ok t) = t
  given-or (Err r) = table

  abbrev is-given : Result (List Resolved) Refusal → Bool
  is-given (Ok t) = true
  is-given (Err r) = false

  whole-given : (first second : Result (Unit {0}) Refusal) (t : List Resolved) → whole first second ≡ Ok t → table ≡ t
  whole-given (Err r) second t h = absurd (true≢false (sym (ap is-given h)))
  whole-given (Ok _) (Err r) t h = absurd (true≢false (sym (ap is-given h)))
  whole-given (Ok _) (Ok _) t h = ap given-or h

  -- a table that was resolved has the names in order, each with its decision
  pub table-given : (t : List Resolved) → resolve_of rels dyns program ≡ Ok t → table ≡ t
  table-given t h =
      whole-given (each (defined_once rels all) names) (each (is_defined_somewhere rels dyns program) table) t (sym as-whole ∙ h)

  module _ (seen_names : List (List ℕ)) (ts : List Tally) (same : length seen_names ≡ length ts) (view : zip seen_names ts ≡ tallied all) where
    first-is : first ts ≡ each (defined_once rels all) names
    first-is =
        ap first (sym (only-tallies seen_names ts same))
        ∙ ap (λ rows. first (map (λ (p : List ℕ × Tally). p.1) rows)) view
        ∙ seconds

    -- a second definition refuses
    pub refused-first : (r : Refusal) → Err r ≡ first ts → resolve_of rels dyns program ≡ Err r
    refused-first r e =
        as-whole
        ∙ ap (λ x. whole x (each (is_defined_somewhere rels dyns program) table)) (sym first-is ∙ sym e)

    module _ (made : List Resolved) (is : made ≡ map (decided_row program) (tallied all)) (offered : List (List ℕ)) (asks : Asks offered) (passed : Ok tt ≡ first ts) where
      second-check : each (refuse_missing rels program offered) made ≡ each (is_defined_somewhere rels dyns program) table
      second-check = missing offered asks made ∙ ap (each (is_defined_somewhere rels dyns program)) (is ∙ table-is)

      -- a missing name refuses
      pub refused-later : (r : Refusal) → Err r ≡ each (refuse_missing rels program offered) made → resolve_of rels dyns program ≡ Err r
      refused-later r e = as-whole ∙ (λ j. whole ((sym first-is ∙ sym passed) j) ((sym second-check ∙ sym e) j))

      -- and else there is the table
      pub given : Ok tt ≡ each (refuse_missing rels program offered) made → resolve_of rels dyns program ≡ Ok made
      given e =
          as-whole
          ∙ (λ j. whole ((sym first-is ∙ sym passed) j) ((sym second-check ∙ sym e) j))
          ∙ ap Ok (sym (is ∙ table-is))
