-- Each capability that is wanted is narrowed from the mapping of the object in which its definition stands, and bounds
-- are refused only of an object that doesn't fit.
use Rattle.std.proofs.Common.{◌≡◌, ℕ, ◌+◌, ◌-◌, ◌<◌, ◌≤◌, inl, inr, ⊎_elim, Bool, true, false, not, ◌||◌, List, length, get_or, map, Option, Some, None, Ok, refl, sym, ap, ◌∙◌, subst, arith}
use Rattle.std.specs.Prelude.{Contains, IsSomeAnd, slice_get, slice_index, if◌then◌else◌}
use Rattle.std.proofs.lemmas.Bool.{cases_lt, not-false, not-true}
use Rattle.std.proofs.lemmas.List.{get_or_past, get_or-map, length-map}
use Rattle.std.proofs.lemmas.Option.{slice_get-get_or}
use Rattle.cap_mem.specs.Tagged.{word_bytes}
use Rattle.cap_conc.specs.declared.word.Word.{Word}
use Rattle.cap_conc.specs.Computed.{is_exact}
use Rattle.cap_own.specs.Cap.{Cap, Mapping, IsGrant, IsSubset, word_of_cap}
use Rattle.cap_elf.specs.declared.records.Segment.{Segment}
use Rattle.cap_elf.specs.DynView.{DynRecords}
use Rattle.cap_elf.specs.Ends.{writes, spans}
use Rattle.cap_fits.specs.Places.{reading, writing, is_inside, is_clear_of, is_in_code, data_permissions, permissions_in, permissions_of_part, find_last}
use Rattle.cap_fits.specs.Fits.{data_intervals}
use Rattle.cap_scope.specs.declared.choice.Hit.{Hit}
use Rattle.cap_scope.specs.Chosen.{object_at, no_records}
use Rattle.cap_reloc.specs.declared.refusal.RelocRefusal.{RelocRefusal}
use Rattle.cap_reloc.specs.declared.refusal.RelocRefusal.TheVariants.{Inexact}
use Rattle.cap_reloc.specs.Wanted.{Setting, Content, Number, Untagged, Tagged, data_cap, function_cap, exact_cap}
use Rattle.cap_reloc.specs.Stored.{content_bytes}
use Rattle.cap_reloc.specs.Planned.{IsNarrowedIn}
use Rattle.cap_reloc.specs.Sound.{IsPlaced, IsMappingOf, IsCodeIn, code_of}
use Rattle.cap_reloc.specs.Laws.{IsOfData}
use Rattle.cap_reloc.proofs.Mappings.{as_many, mapping_of}
use Rattle.cap_reloc.proofs.Unfit.{IsData}
use Rattle.cap_reloc.proofs.Saying.{Says, says_ok, says_refuse}

-- an owner is one of 256
abbrev pub HasFewOwners : Content → Type 0
HasFewOwners (Number n) = Unit {0}
HasFewOwners (Untagged n) = Unit {0}
HasFewOwners (Tagged c note) = c.owner < 256

-- 16 bytes, whose capability was narrowed from its mapping, to data or as a sentry
pub record IsLong (roots : List Mapping) (setting : Setting) (content : Content) : Type 0 where
  pub long : length (content_bytes content) ≡ 16
  pub narrowed : IsNarrowedIn roots content
  pub data_is : IsOfData setting content
  pub few : HasFewOwners content

-- the object of an interval that is held is there
pub data_there : (objects : List DynRecords) (i at len n : ℕ) → data_permissions (object_at objects i) at len ≡ Some n → i < length objects
data_there objects i at len n is =
    ⊎_elim (λ (lt : i < length objects). lt) (λ (ge : length objects ≤ i).
    let none : object_at objects i ≡ no_records = get_or_past objects i no_records ge in
    let no : data_permissions no_records at len ≡ Some n = subst (λ (o : DynRecords). data_permissions o at len ≡ Some n) none is in
    let nothing : None ≡ Some n = no in cc)
    (cases_lt i (length objects))

pub code_there : (objects : List DynRecords) (i at : ℕ) → is_in_code (object_at objects i) at ≡ true → i < length objects
code_there objects i at is =
    ⊎_elim (λ (lt : i < length objects). lt) (λ (ge : length objects ≤ i).
    let none : object_at objects i ≡ no_records = get_or_past objects i no_records ge in
    let no : is_in_code no_records at ≡ true = subst (λ (o : DynRecords). is_in_code o at ≡ true) none is in
    let nothing : false ≡ true = no in cc)
    (cases_lt i (length objects))

rights_in : (object : DynRecords) (at len n : ℕ) (s : Segment) → permissions_in object at len s ≡ Some n → IsSubset n 0x7D
rights_in object at len n s is = go (not (writes s)) (is_inside object.relro at len) (is_clear_of object.relro at len) is
  where
    go : (a b c : Bool) → (if a || b then Some reading else (if c then Some writing else None)) ≡ Some n → IsSubset n 0x7D
    go true b c h = let same : 0x15 ≡ n = cc in subst (λ (m : ℕ). IsSubset m 0x7D) same refl
    go false true c h = let same : 0x15 ≡ n = cc in subst (λ (m : ℕ). IsSubset m 0x7D) same refl
    go false false true h = let same : 0x7D ≡ n = cc in subst (λ (m : ℕ). IsSubset m 0x7D) same refl
    go false false false h = let nothing : None ≡ Some n = h in cc

rights_of_part : (object : DynRecords) (at len n : ℕ) (part : Option Segment) → permissions_of_part object at len part ≡ Some n → IsSubset n 0x7D
rights_of_part object at len n None is = let nothing : None ≡ Some n = is in cc
rights_of_part object at len n (Some s) is = rights_in object at len n s is

pub data_rights : (object : DynRecords) (at len n : ℕ) → data_permissions object at len ≡ Some n → IsSubset n 0x7D
data_rights object at len n is = rights_of_part object at len n (find_last (λ s. spans s at len) object.segments) is

-- ---- capabilities
length_word_bytes : (w : Word) → length (word_bytes w) ≡ 16
length_word_bytes w = refl

long_tagged : (roots : List Mapping) (setting : Setting) (c : Cap) (note : ℕ) → IsSomeAnd (slice_get roots c.owner) (λ root. IsGrant (record { root = root; cap = c })) → IsOfData setting (Tagged c note) → c.owner < 256 → IsLong roots setting (Tagged c note)
long_tagged roots setting c note grant data_is few = record { long = length_word_bytes (word_of_cap c); narrowed = grant; data_is = data_is; few = few }

pub exact_says : (roots : List Mapping) (setting : Setting) (Q : RelocRefusal → Type 0) (hit : Option Hit) (note : ℕ) (c : Cap) → (is_exact c.base c.len ≡ true → IsLong roots setting (Tagged c note)) → (is_exact c.base c.len ≡ false → Q (Inexact hit c.base c.len)) → Says (IsLong roots setting) Q (exact_cap hit note c)
unfolding exact_cap
exact_says roots setting Q hit note c held unfit =
    says_refuse (IsLong roots setting) Q (not (is_exact c.base c.len)) (Inexact hit c.base c.len) (Ok (Tagged c note))
    (λ h. unfit (not-true (is_exact c.base c.len) h))
    (λ h. says_ok (IsLong roots setting) Q (Tagged c note) (held (not-false (is_exact c.base c.len) h)))

-- the mapping of an object is there, under its number
mapped : (roots : List Mapping) (setting : Setting) (i : ℕ) (P : Mapping → Type 0) → IsPlaced roots setting → i < length setting.objects → ((root : Mapping) → IsMappingOf setting i root → P root) → IsSomeAnd (slice_get roots i) P
mapped roots setting i P placed lt h =
    let none : Mapping = record { base = 0; len = 0; owner = 0 } in
    let many = as_many setting.objects 0 roots placed.mappings in
    let at : slice_get roots i ≡ Some (get_or roots i none) = slice_get-get_or roots i none (omega (arith, many, lt)) in
    rw at (h (get_or roots i none) (mapping_of roots setting i none placed lt))

contains_map : {X Y : Type 0} (f : X → Y) (xs : List X) (x : X) → Contains xs x → Contains (map f xs) (f x)
contains_map f xs x h = (
  h.0,
  (let many = length-map xs f in let lt = h.1 in omega (arith, many, lt)),
  get_or-map f xs h.0 x (f x) h.1 ∙ ap f h.2,
)

pub data_long : (roots : List Mapping) (setting : Setting) (i at len offset perms note : ℕ) → IsPlaced roots setting → i < length setting.objects → at + len ≤ (object_at setting.objects i).span → offset ≤ len → IsSubset perms 0x7D
    → IsData (object_at setting.objects i) at len → is_exact (slice_index setting.bases i + at) len ≡ true → IsLong roots setting (Tagged (data_cap (slice_index setting.bases i) i at len offset perms) note)
data_long roots setting i at len offset perms note placed lt within low rights member exact =
    let c = data_cap (slice_index setting.bases i) i at len offset perms in
    let few = placed.few in
    long_tagged roots setting c note
    (mapped roots setting i (λ root. IsGrant (record { root = root; cap = c })) placed lt (λ root of.
    let size = of.mapping.size in
    let base = of.base in
    record {
      narrowed = record {
        within = (omega (arith, base), omega (arith, base, size, within));
        owner = sym of.mapping.owner;
        rights = inr (rights, refl);
      };
      exact = exact;
      from_base = omega arith;
      to_top = omega (arith, low);
    }))
    (inr (contains_map (λ (x : ℕ × ℕ). (slice_index setting.bases i + x.0, x.1)) (data_intervals (object_at setting.objects i)) (at, len) member))
    (omega (arith, lt, few))

pub code_long : (roots : List Mapping) (setting : Setting) (i at note : ℕ) → IsPlaced roots setting → i < length setting.objects → IsCodeIn (object_at setting.objects i) at
    → is_exact (slice_index setting.bases i + (code_of (object_at setting.objects i)).0) ((code_of (object_at setting.objects i)).1 - (code_of (object_at setting.objects i)).0) ≡ true
    → IsLong roots setting (Tagged (function_cap (object_at setting.objects i) (slice_index setting.bases i) i at) note)
code_long roots setting i at note placed lt code exact =
    let c = function_cap (object_at setting.objects i) (slice_index setting.bases i) i at in
    let few = placed.few in
    let from = code.from in
    let to = code.to in
    let within = code.within in
    long_tagged roots setting c note
    (mapped roots setting i (λ root. IsGrant (record { root = root; cap = c })) placed lt (λ root of.
    let size = of.mapping.size in
    let base = of.base in
    record {
      narrowed = record {
        within = (omega (arith, base), omega (arith, base, size, within, from, to));
        owner = sym of.mapping.owner;
        rights = inl (refl, refl);
      };
      exact = exact;
      from_base = omega (arith, from);
      to_top = omega (arith, from, to);
    }))
    (inl refl)
    (omega (arith, lt, few))
