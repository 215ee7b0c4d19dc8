-- The data of loaded objects lie apart.
use Rattle.std.proofs.Common.{◌≡◌, ℕ, ◌+◌, ◌≤◌, inl, inr, false, List, [], ◌∷◌, length, get_or, map, zip, ap, sym, subst, arith}
use Rattle.std.specs.Prelude.{All, AllPairs}
use Rattle.std.proofs.lemmas.Bool.{le-ltb, ltb-false}
use Rattle.std.proofs.lemmas.List.{get_or-map, length-map}
use Rattle.std.proofs.lemmas.List.Elements.{All-cons, All-map, All-nil, All-weaker}
use Rattle.std.proofs.lemmas.List.Kept.{AllPairs-cons}
use Rattle.cap_base.specs.Lists.{share_byte}
use Rattle.cap_elf.specs.DynView.{DynRecords}
use Rattle.cap_fits.specs.Fits.{DataLieApart, IsOneOrApart, Placed, ShareNone, data_intervals, loaded_intervals}
use Rattle.cap_own.specs.Cap.{Mapping}
use Rattle.cap_own.specs.Interval.{Interval, Cover}
use Rattle.cap_reloc.specs.Binding.{AreMappings}
use Rattle.cap_session.specs.Exact.{IsReached, LieBehind, placed_objects}
use Rattle.cap_session.specs.Loading.{Loaded, records_of}
use Rattle.cap_session.specs.Mappings.{spans_of}
use Rattle.cap_session.specs.Roster.{IsRoster, RosterValue, records_in}
use Rattle.cap_session.specs.State.{State}
use Rattle.cap_session.proofs.RosterLemmas.{pads_roots}

-- an interval of an object that begins at an address
abbrev moved : ℕ → ℕ × ℕ → ℕ × ℕ
moved base i = (base + i.0, i.1)

-- an object ends where another begins, or before
abbrev EndsBefore : Placed → Placed → Type 0
EndsBefore a b = a.1 + a.0.span ≤ b.1

moved-apart : (base : ℕ) (x y : ℕ × ℕ) → IsOneOrApart x y → IsOneOrApart (moved base x) (moved base y)
moved-apart base x y (inl e) = inl (ap (moved base) e)
moved-apart base x y (inr e) = inr (let le = ltb-false _ _ e in le-ltb _ _ (omega (arith, le)))

pairs-moved : (base : ℕ) (xs : List (ℕ × ℕ)) → AllPairs IsOneOrApart xs → AllPairs IsOneOrApart (map (moved base) xs)
pairs-moved base xs h i j d before lt =
    let many = length-map xs (moved base) in
    let first : get_or (map (moved base) xs) i d ≡ moved base (get_or xs i d) = get_or-map (moved base) xs i d d (omega (arith, many, before, lt)) in
    let second : get_or (map (moved base) xs) j d ≡ moved base (get_or xs j d) = get_or-map (moved base) xs j d d (omega (arith, many, lt)) in
    subst (λ (x : ℕ × ℕ). IsOneOrApart x (get_or (map (moved base) xs) j d)) (sym first)
    (subst (λ (y : ℕ × ℕ). IsOneOrApart (moved base (get_or xs i d)) y) (sym second)
    (moved-apart base (get_or xs i d) (get_or xs j d) (h i j d before (omega (arith, many, lt)))))

one-before : (a b span : ℕ) (x y : ℕ × ℕ) → x.0 + x.1 ≤ span → a + span ≤ b → share_byte (moved a x) (moved b y) ≡ false
one-before a b span x y within before = le-ltb _ _ (omega (arith, within, before))

share-none : (a b : Placed) → EndsBefore a b → ShareNone a b
share-none a b before = λ x y.
    All-map (λ (i : ℕ × ℕ). All (λ (j : ℕ × ℕ). share_byte i j ≡ false) (loaded_intervals b.0 b.1)) (moved a.1) (data_intervals a.0)
    (All-weaker (λ (i : ℕ × ℕ). i.0 + i.1 ≤ a.0.span) (λ (i : ℕ × ℕ). All (λ (j : ℕ × ℕ). share_byte (moved a.1 i) j ≡ false) (loaded_intervals b.0 b.1))
    (λ i within. All-map (λ (j : ℕ × ℕ). share_byte (moved a.1 i) j ≡ false) (moved b.1) (data_intervals b.0) (λ k d lt. one-before a.1 b.1 a.0.span i (get_or (data_intervals b.0) k d) within before))
    (data_intervals a.0) x.within)

lie-apart : (objects : List Placed) → AllPairs EndsBefore objects → DataLieApart objects
lie-apart objects h = record {
  own = λ k d lt apart. pairs-moved (get_or objects k d).1 (data_intervals (get_or objects k d).0) apart.apart;
  others = λ i j d before lt. share-none (get_or objects i d) (get_or objects j d) (h i j d before lt);
}

-- ---- of a state
abbrev BeginsAt : ℕ → Placed → Type 0
BeginsAt from p = from ≤ p.1

all-behind : (from : ℕ) (objects : List Loaded) → LieBehind from objects → All (BeginsAt from) (placed_objects objects)
all-behind from [] h = All-nil (BeginsAt from)
all-behind from (o ∷ objects) h =
    let next : ℕ = o.base + (records_of o).span in
    let low = h.0 in
    All-cons (BeginsAt from) (records_of o, o.base) (placed_objects objects) low
    (All-weaker (BeginsAt next) (BeginsAt from) (λ p at. omega (arith, low, at)) (placed_objects objects) (all-behind next objects h.2))

ends-before : (from : ℕ) (objects : List Loaded) → LieBehind from objects → AllPairs EndsBefore (placed_objects objects)
ends-before from [] h = λ i j d before lt. absurd (omega (arith, lt))
ends-before from (o ∷ objects) h =
    let next : ℕ = o.base + (records_of o).span in
    AllPairs-cons EndsBefore (records_of o, o.base) (placed_objects objects) (all-behind next objects h.2) (ends-before next objects h.2)

pub state-apart : (state : State) → IsReached state → DataLieApart (placed_objects state.objects)
state-apart state h = lie-apart (placed_objects state.objects) (ends-before 0x40000000 state.objects h.behind)

-- ---- of a roster
abbrev pub placed_by : List DynRecords → List Mapping → List Placed
placed_by records roots = zip records (map (λ r. r.base) roots)

all-covered : (start next : ℕ) (records : List DynRecords) (pads : List Interval) (roots : List Mapping) → length pads ≡ length roots → Cover start (spans_of pads roots) next → All (BeginsAt start) (placed_by records roots)
all-covered start next [] pads roots same h = All-nil (BeginsAt start)
all-covered start next (o ∷ records) pads [] same h = All-nil (BeginsAt start)
all-covered start next (o ∷ records) [] (r ∷ roots) same h = absurd (omega (arith, same))
all-covered start next (o ∷ records) (p ∷ pads) (r ∷ roots) same h =
    let first = h.0 in
    let second = h.1.0 in
    All-cons (BeginsAt start) (o, r.base) (placed_by records roots) (omega (arith, first, second))
    (All-weaker (BeginsAt (r.base + r.len)) (BeginsAt start) (λ q at. omega (arith, first, second, at)) (placed_by records roots) (all-covered (r.base + r.len) next records pads roots (omega (arith, same)) h.1.1))

ends-covered : (start next n : ℕ) (records : List DynRecords) (pads : List Interval) (roots : List Mapping) → length pads ≡ length roots → AreMappings records n roots → Cover start (spans_of pads roots) next
    → AllPairs EndsBefore (placed_by records roots)
ends-covered start next n [] pads roots same are h = λ i j d before lt. absurd (omega (arith, lt))
ends-covered start next n (o ∷ records) pads [] same are h = absurd are
ends-covered start next n (o ∷ records) [] (r ∷ roots) same are h = absurd (omega (arith, same))
ends-covered start next n (o ∷ records) (p ∷ pads) (r ∷ roots) same are h =
    let size = are.0.size in
    AllPairs-cons EndsBefore (o, r.base) (placed_by records roots)
    (All-weaker (BeginsAt (r.base + r.len)) (EndsBefore (o, r.base)) (λ q at. omega (arith, size, at)) (placed_by records roots) (all-covered (r.base + r.len) next records pads roots (omega (arith, same)) h.1.1))
    (ends-covered (r.base + r.len) next (n + 1) records pads roots (omega (arith, same)) are.1 h.1.1)

pub roster-apart : (r : RosterValue) → IsRoster r → DataLieApart (placed_by (records_in r) r.roots)
roster-apart r h = lie-apart (placed_by (records_in r) r.roots) (ends-covered 0x40000000 r.next 0 (records_in r) r.pads r.roots (pads_roots r h) h.mappings h.covered)
