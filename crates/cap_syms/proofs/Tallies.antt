-- The tally of a name with one more occurrence, and the decision that a tally gives.
use Rattle.std.proofs.Common.{◌≡◌, ℕ, ltb, Bool, true, false, cond, ◌&&◌, ◌||◌, List, [], ◌∷◌, ◌++◌, map, filter, fold, drop, Option, Some, None, inl, inr, refl, sym, ap, ◌∙◌}
use Rattle.std.specs.Prelude.{◌==◌, max, find, slice_get, is_some, unwrap_or}
use Rattle.std.specs.List.{list_any}
use Rattle.std.specs.Option.{option_or, option_map}
use Rattle.std.proofs.lemmas.Bool.{cases_Bool}
use Rattle.std.proofs.lemmas.List.{map-append}
use Rattle.std.proofs.lemmas.List.Elements.{filter-append}
use Rattle.std.proofs.lemmas.List.Folds.{find-append, list_any-append}
use Rattle.std.proofs.lemmas.List.Sums.{fold-append}
use Rattle.cap_syms.specs.declared.entries.Shape.TheVariants as shapes
use Rattle.cap_syms.specs.declared.tally.Spot.{Spot}
use Rattle.cap_syms.specs.declared.tally.Second.{Second}
use Rattle.cap_syms.specs.declared.tally.Rank.{Rank}
use Rattle.cap_syms.specs.declared.tally.Rank.TheVariants as ranks
use Rattle.cap_syms.specs.declared.tally.Tally.{Tally}
use Rattle.cap_syms.specs.Occurrences.{Occurrence, is_global}
use Rattle.cap_syms.specs.Decisions.{is_global_definition, is_weak_definition, is_common, largest, visibility_of, some_visible, entry_of, decided, merged, no_entry}
use Rattle.cap_syms.specs.Tally.{tally_of, tally_by, spot_of, second_of, second_definition, deciding, deciding_by, rank_of, rank_number, is_highest, larger, stricter, with_occurrence, with_symbol, entry_from}

-- an option that a later one may fill
abbrev filled : Option Occurrence → Bool → Occurrence → Option Occurrence
filled x b o = option_or x (cond b (Some o) None)

-- the first, with one more
first-more : (os : List Occurrence) (o : Occurrence) → slice_get (os ++ o ∷ []) 0 ≡ filled (slice_get os 0) true o
first-more [] o = refl
first-more (x ∷ os) o = refl

-- the first that passes is the first of those that pass
pub find-first : (p : Occurrence → Bool) (os : List Occurrence) → find p os ≡ slice_get (filter p os) 0
find-first p [] = refl
find-first p (o ∷ os) =
    let rest = filter p os in
    elim (cases_Bool (p o)) [
      | inl e ↦ ap (λ b. cond b (Some o) (find p os)) e ∙ sym (ap (λ b. slice_get (cond b (o ∷ rest) rest) 0) e)
      | inr e ↦
          ap (λ b. cond b (Some o) (find p os)) e
          ∙ find-first p os
          ∙ sym (ap (λ b. slice_get (cond b (o ∷ rest) rest) 0) e)
    ]

abbrev seconded : Option Second → Bool → Occurrence → Option Second
seconded x b o = option_or x (cond b (Some (second_of o)) None)

-- the second that passes, with one more
second-more : (os : List Occurrence) (o : Occurrence) → second_definition (os ++ o ∷ []) ≡ seconded (second_definition os) (is_some (find is_global_definition os) && is_global_definition o) o
second-more os o =
    ap (λ xs. option_map second_of (slice_get (drop 1 xs) 0)) (filter-append is_global_definition os (o ∷ []))
    ∙ by (filter is_global_definition os) (is_global_definition o)
    ∙ ap (λ x. seconded (second_definition os) (is_some x && is_global_definition o) o) (sym (find-first is_global_definition os))
  where
    by : (xs : List Occurrence) (b : Bool) → option_map second_of (slice_get (drop 1 (xs ++ cond b (o ∷ []) [])) 0) ≡ seconded (option_map second_of (slice_get (drop 1 xs) 0)) (is_some (slice_get xs 0) && b) o
    by [] true = refl
    by [] false = refl
    by (x ∷ []) true = refl
    by (x ∷ []) false = refl
    by (x ∷ y ∷ ys) b = refl

-- the largest, with one more
largest-more : (f : Occurrence → ℕ) (os : List Occurrence) (o : Occurrence) → largest (map f (filter is_common (os ++ o ∷ []))) ≡ larger (largest (map f (filter is_common os))) (is_common o) (f o)
largest-more f os o =
    ap (λ xs. largest (map f xs)) (filter-append is_common os (o ∷ []))
    ∙ ap largest (map-append f (filter is_common os) (filter is_common (o ∷ [])))
    ∙ fold-append max 0 (map f (filter is_common os)) (map f (filter is_common (o ∷ [])))
    ∙ by (is_common o)
  where
    by : (b : Bool) → fold max (largest (map f (filter is_common os))) (map f (cond b (o ∷ []) [])) ≡ larger (largest (map f (filter is_common os))) b (f o)
    by true = refl
    by false = refl

any-more : (p : Occurrence → Bool) (os : List Occurrence) (o : Occurrence) → list_any p (os ++ o ∷ []) ≡ (list_any p os || p o)
any-more p os o = list_any-append p os (o ∷ []) ∙ ap (λ c. list_any p os || c) (by (p o))
  where
    by : (b : Bool) → (b || false) ≡ b
    by true = refl
    by false = refl

abbrev by_three : Bool → Bool → Bool → ℕ
by_three a b c = cond a 1 (cond b 2 (cond c 3 0))

-- the most constraining visibility, with one more
visibility-more : (os : List Occurrence) (o : Occurrence) → visibility_of (os ++ o ∷ []) ≡ stricter (visibility_of os) o.as_is.visibility
visibility-more os o =
    ap (λ a. by_three a (some_visible (os ++ o ∷ []) 2) (some_visible (os ++ o ∷ []) 3)) (any-more (λ x. x.as_is.visibility == 1) os o)
    ∙ ap (λ b. by_three (some_visible os 1 || v == 1) b (some_visible (os ++ o ∷ []) 3)) (any-more (λ x. x.as_is.visibility == 2) os o)
    ∙ ap (λ c. by_three (some_visible os 1 || v == 1) (some_visible os 2 || v == 2) c) (any-more (λ x. x.as_is.visibility == 3) os o)
    ∙ by (some_visible os 1) (some_visible os 2) (some_visible os 3)
  where
    v : ℕ
    v = o.as_is.visibility

    by : (a b c : Bool) → by_three (a || v == 1) (b || v == 2) (c || v == 3) ≡ stricter (by_three a b c) v
    by true b c = refl
    by false true c = refl
    by false false true = refl
    by false false false = refl

abbrev rank_by : Bool → Bool → Bool → Bool → Rank
rank_by definition common weak global =
    cond definition ranks.GlobalDefinition
    (cond common ranks.Common
    (cond weak ranks.WeakDefinition
    (cond global ranks.GlobalReference
    ranks.WeakReference)))

-- the one that decides, with one more that may count more
abbrev outranked : Spot × Rank → Rank → Spot → Spot × Rank
outranked so_far rank spot =
    let decides = ltb (rank_number so_far.1) (rank_number rank) in
    (cond decides spot so_far.0, cond decides rank so_far.1)

deciding-more-by : (o : Occurrence) (definition common weak global first : Option Occurrence) (d c w g : Bool) → deciding_by (filled definition d o) (filled common c o) (filled weak w o) (filled global g o) (filled first true o) ≡ outranked (deciding_by definition common weak global first) (rank_by d c w g) (spot_of o)
deciding-more-by o (Some x) common weak global first true c w g = refl
deciding-more-by o (Some x) common weak global first false true w g = refl
deciding-more-by o (Some x) common weak global first false false true g = refl
deciding-more-by o (Some x) common weak global first false false false true = refl
deciding-more-by o (Some x) common weak global first false false false false = refl
deciding-more-by o None (Some x) weak global first true c w g = refl
deciding-more-by o None (Some x) weak global first false true w g = refl
deciding-more-by o None (Some x) weak global first false false true g = refl
deciding-more-by o None (Some x) weak global first false false false true = refl
deciding-more-by o None (Some x) weak global first false false false false = refl
deciding-more-by o None None (Some x) global first true c w g = refl
deciding-more-by o None None (Some x) global first false true w g = refl
deciding-more-by o None None (Some x) global first false false true g = refl
deciding-more-by o None None (Some x) global first false false false true = refl
deciding-more-by o None None (Some x) global first false false false false = refl
deciding-more-by o None None None (Some x) first true c w g = refl
deciding-more-by o None None None (Some x) first false true w g = refl
deciding-more-by o None None None (Some x) first false false true g = refl
deciding-more-by o None None None (Some x) first false false false true = refl
deciding-more-by o None None None (Some x) first false false false false = refl
deciding-more-by o None None None None (Some x) true c w g = refl
deciding-more-by o None None None None (Some x) false true w g = refl
deciding-more-by o None None None None (Some x) false false true g = refl
deciding-more-by o None None None None (Some x) false false false true = refl
deciding-more-by o None None None None (Some x) false false false false = refl
deciding-more-by o None None None None None true c w g = refl
deciding-more-by o None None None None None false true w g = refl
deciding-more-by o None None None None None false false true g = refl
deciding-more-by o None None None None None false false false true = refl
deciding-more-by o None None None None None false false false false = refl

deciding-more : (os : List Occurrence) (o : Occurrence) → deciding (os ++ o ∷ []) ≡ outranked (deciding os) (rank_of o.as_is) (spot_of o)
deciding-more os o =
    let e1 = find-append is_global_definition os (o ∷ []) in
    let e2 = find-append is_common os (o ∷ []) in
    let e3 = find-append is_weak_definition os (o ∷ []) in
    let e4 = find-append (λ x. is_global x.as_is) os (o ∷ []) in
    let e5 = first-more os o in
    (λ j. deciding_by (e1 j) (e2 j) (e3 j) (e4 j) (e5 j))
    ∙ deciding-more-by o (find is_global_definition os) (find is_common os) (find is_weak_definition os) (find (λ x. is_global x.as_is) os) (slice_get os 0) (is_global_definition o) (is_common o) (is_weak_definition o) (is_global o.as_is)

-- the highest rank is that of a global definition
highest-by : (definition common weak global first : Option Occurrence) → is_some definition ≡ is_highest (deciding_by definition common weak global first).1
highest-by (Some x) common weak global first = refl
highest-by None (Some x) weak global first = refl
highest-by None None (Some x) global first = refl
highest-by None None None (Some x) first = refl
highest-by None None None None (Some x) = refl
highest-by None None None None None = refl

abbrev with_second : Occurrence → Spot × Rank → ℕ → ℕ → ℕ → Bool → Tally
with_second o decides size align visibility b = record {
  spot = decides.0;
  size = size;
  align = align;
  second_at = cond b o.as_is.at 0;
  second_file = cond b o.file 0;
  has_second = b;
  rank = decides.1;
  visibility = visibility;
}

with_second-is : (o : Occurrence) (decides : Spot × Rank) (size align visibility : ℕ) (b : Bool) → tally_by decides (seconded None b o) size align visibility ≡ with_second o decides size align visibility b
with_second-is o decides size align visibility true = refl
with_second-is o decides size align visibility false = refl

-- part by part
with-parts : (o : Occurrence) (decides : Spot × Rank) (second : Option Second) (size align visibility : ℕ) → tally_by (outranked decides (rank_of o.as_is) (spot_of o)) (seconded second (is_highest decides.1 && is_global_definition o) o) (larger size (is_common o) o.as_is.size) (larger align (is_common o) o.as_is.value) (stricter visibility o.as_is.visibility) ≡ with_occurrence (tally_by decides second size align visibility) o
unfolding with_symbol
with-parts o decides (Some x) size align visibility = refl
with-parts o decides None size align visibility =
    with_second-is o (outranked decides (rank_of o.as_is) (spot_of o)) (larger size (is_common o) o.as_is.size) (larger align (is_common o) o.as_is.value) (stricter visibility o.as_is.visibility) (is_highest decides.1 && is_global_definition o)

-- the tally with one more occurrence
pub tally-more : (os : List Occurrence) (o : Occurrence) → tally_of (os ++ o ∷ []) ≡ with_occurrence (tally_of os) o
tally-more os o =
    let e1 = deciding-more os o in
    let e2 = second-more os o ∙ ap (λ b. seconded (second_definition os) (b && is_global_definition o) o) (highest-by (find is_global_definition os) (find is_common os) (find is_weak_definition os) (find (λ x. is_global x.as_is) os) (slice_get os 0)) in
    let e3 = largest-more (λ x. x.as_is.size) os o in
    let e4 = largest-more (λ x. x.as_is.value) os o in
    let e5 = visibility-more os o in
    (λ j. tally_by (e1 j) (e2 j) (e3 j) (e4 j) (e5 j))
    ∙ with-parts o (deciding os) (second_definition os) (largest (map (λ x. x.as_is.size) (filter is_common os))) (largest (map (λ x. x.as_is.value) (filter is_common os))) (visibility_of os)

-- the decision that a tally gives
pub entry-is : (os : List Occurrence) → entry_from (tally_of os) ≡ entry_of os
entry-is [] = refl
entry-is (o ∷ os) =
    by (find is_global_definition all) (find is_common all) (find is_weak_definition all) (find (λ x. is_global x.as_is) all)
  where
    all : List Occurrence
    all = o ∷ os

    by : (definition common weak global : Option Occurrence) → entry_from (tally_by (deciding_by definition common weak global (Some o)) (second_definition all) (largest (map (λ x. x.as_is.size) (filter is_common all))) (largest (map (λ x. x.as_is.value) (filter is_common all))) (visibility_of all)) ≡ unwrap_or (option_or (decided all shapes.Defined definition) (option_or (decided all (merged all) common) (option_or (decided all shapes.Defined weak) (option_or (decided all (shapes.Absent false) global) (decided all (shapes.Absent true) (Some o)))))) no_entry
    by (Some x) common weak global = refl
    by None (Some x) weak global = refl
    by None None (Some x) global = refl
    by None None None (Some x) = refl
    by None None None None = refl
