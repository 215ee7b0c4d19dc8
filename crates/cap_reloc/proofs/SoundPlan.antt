-- What holds of all pairs that are wanted, and of a refusal.
use Rattle.std.proofs.Common.{◌≡◌, ℕ, zero, suc, ◌+◌, ◌<◌, ◌≤◌, ◌%◌, ⊎_elim, Bool, true, false, not, ◌&&◌, ◌||◌, ◌==◌, List, [], ◌∷◌, ◌++◌, length, get_or, map, Option, Some, None, Result, Ok, Err, refl, sym, ◌∙◌, subst, arith}
use Rattle.std.specs.Prelude.{⊤, All, if◌then◌else◌}
use Rattle.std.proofs.lemmas.Bool.{not-false, eqb-true, le-ltb, ltb-false, cases_lt}
use Rattle.std.proofs.lemmas.List.{append-nil, length-append, get_or_append_left, get_or-append-add}
use Rattle.std.proofs.lemmas.List.Folds.{list_any-append}
use Rattle.std.proofs.lemmas.List.Quantifiers.{all_pairs_push}
use Rattle.cap_base.specs.Lists.{share_byte}
use Rattle.cap_base.specs.Steps.{◌>>=◌, ◌>>◌}
use Rattle.cap_base.specs.declared.check.Check.TheVariants.{RelocationKind, RelocationSlot}
use Rattle.cap_own.specs.Cap.{Mapping}
use Rattle.cap_elf.specs.declared.records.CapReloc.{CapReloc}
use Rattle.cap_elf.specs.declared.records.DynReloc.{DynReloc}
use Rattle.cap_fits.specs.Places.{is_in_writable}
use Rattle.cap_fits.specs.Fits.{is_data_entry}
use Rattle.cap_reloc.specs.declared.refusal.RelocRefusal.{RelocRefusal}
use Rattle.cap_reloc.specs.declared.refusal.RelocRefusal.TheVariants.{Unresolved}
use Rattle.cap_reloc.specs.declared.target.Target.{Target}
use Rattle.cap_reloc.specs.declared.target.Target.TheVariants.{Definition, Zero, Missing}
use Rattle.cap_reloc.specs.Refusing.{refuse, malformed, unsupported}
use Rattle.cap_reloc.specs.Wanted.{Setting, Pair, Content, Number, Relocation, Entry, Record, relocations_of, own, bias, slot_of, width_of_kind, is_kind, touches, slot_fails, plus_signed, number_for, target_of, capability_for, record_content, entry_content, pair_at, entry_pair, slot_pair, record_pair, wanted, wanted_pairs}
use Rattle.cap_reloc.specs.Stored.{content_bytes}
use Rattle.cap_reloc.specs.Binding.{IsUnfitCause}
use Rattle.cap_reloc.specs.Laws.{IsOfData}
use Rattle.cap_reloc.specs.Planned.{IsNarrowedIn, SlotsAreApart, interval_of}
use Rattle.cap_reloc.specs.Sound.{IsPlaced}
use Rattle.cap_reloc.specs.Adds.{list_of}
use Rattle.cap_reloc.proofs.Within.{writable_within}
use Rattle.cap_reloc.proofs.Saying.{Says, says_ok, says_err, says_refuse, says_bind, says_if}
use Rattle.cap_reloc.proofs.Holdings.{IsLong, HasFewOwners}
use Rattle.cap_reloc.proofs.Unfit.{IsData, entry_is_data}
use Rattle.cap_reloc.proofs.Contents.{object_read, entry_says, reference_says}
use Rattle.cap_reloc.proofs.Planning.{wanted_from, wanted_more, wanted_refused}

-- what is wanted of a slot: in the object's span, as long as the slot is, and narrowed from its mapping, to data or as a
-- sentry
pub record IsSoundPair (roots : List Mapping) (setting : Setting) (slot : ℕ × ℕ) (p : Pair) : Type 0 where
  pub at : p.slot ≡ bias setting + slot.0
  pub long : length (content_bytes p.content) ≡ slot.1
  pub within : slot.0 + slot.1 ≤ (own setting).span
  pub aligned : slot.1 ≡ 16 → slot.0 % 16 ≡ 0
  pub narrowed : IsNarrowedIn roots p.content
  pub data_is : IsOfData setting p.content
  pub few : HasFewOwners p.content

pub record IsSomeSlot (roots : List Mapping) (setting : Setting) (p : Pair) : Type 0 where
  pub slot : ℕ × ℕ
  pub sound : IsSoundPair roots setting slot p

-- ---- one slot
record IsGoodSlot (setting : Setting) (touched : Bool) (slot : ℕ × ℕ) : Type 0 where
  pub within : slot.0 + slot.1 ≤ (own setting).span
  pub aligned : slot.1 ≡ 16 → slot.0 % 16 ≡ 0
  pub free : touched ≡ false

passed_tests : (w q t : Bool) → (not w || q || t) ≡ false → (w ≡ true) × (q ≡ false) × (t ≡ false)
passed_tests true false false h = (refl, refl, refl)
passed_tests true true t h = let no : true ≡ false = h in cc
passed_tests true false true h = let no : true ≡ false = h in cc
passed_tests false q t h = let no : true ≡ false = h in cc

aligned_by : (n m : ℕ) (b : Bool) → (n == 16) ≡ b → (b && not (m % 16 == 0)) ≡ false → n ≡ 16 → m % 16 ≡ 0
aligned_by n m true e h is = eqb-true (m % 16) 0 (not-false (m % 16 == 0) h)
aligned_by n m false e h is = let yes : (16 == 16) ≡ false = subst (λ (k : ℕ). (k == 16) ≡ false) is e in let no : true ≡ false = yes in cc

good_slot : (roots : List Mapping) (setting : Setting) (touched : Bool) (slot : ℕ × ℕ) → IsPlaced roots setting → slot_fails (own setting) touched slot ≡ false → IsGoodSlot setting touched slot
good_slot roots setting touched slot placed h =
    let tests = passed_tests (is_in_writable (own setting) slot.0 slot.1) (slot.1 == 16 && not (slot.0 % 16 == 0)) touched h in
    record {
      within = writable_within (own setting) slot.0 slot.1 (object_read roots setting setting.index placed placed.index) tests.0;
      aligned = aligned_by slot.1 slot.0 (slot.1 == 16) refl tests.1;
      free = tests.2;
    }

-- ---- contents of records
record IsHeld (roots : List Mapping) (setting : Setting) (width : ℕ) (content : Content) : Type 0 where
  pub long : length (content_bytes content) ≡ width
  pub narrowed : IsNarrowedIn roots content
  pub data_is : IsOfData setting content
  pub few : HasFewOwners content

eight : (k : ℕ) (b : Bool) → (k == 2) ≡ true → width_of_kind k ≡ 8
eight k b is = let same = eqb-true k 2 is in rw same refl

eight_relative : (k : ℕ) → (k == 3) ≡ true → width_of_kind k ≡ 8
eight_relative k is = let same = eqb-true k 3 is in rw same refl

abbrev width_by : Bool → Bool → Bool → Bool → ℕ
width_by b c d e = if b || c then 8 else if d || e then 16 else 0

sixteen : (a b c d e : Bool) → (a || b || c || d || e) ≡ true → a ≡ false → b ≡ false → c ≡ false → width_by b c d e ≡ 16
sixteen true b c d e h p q r = cc
sixteen false true c d e h p q r = cc
sixteen false false true d e h p q r = cc
sixteen false false false true e h p q r = refl
sixteen false false false false true h p q r = refl
sixteen false false false false false h p q r = let no : false ≡ true = h in cc

number_says : (roots : List Mapping) (setting : Setting) (width n : ℕ) → width ≡ 8 → Says (IsHeld roots setting width) (IsUnfitCause setting) (Ok (Number n))
number_says roots setting width n is = says_ok (IsHeld roots setting width) (IsUnfitCause setting) (Number n) (record { long = sym is; narrowed = tt; data_is = tt; few = tt })

number_for_says : (setting : Setting) (i : ℕ) (target : Target) → Says (λ n. ⊤) (IsUnfitCause setting) (number_for setting i target)
number_for_says setting i (Definition hit) = says_ok _ (IsUnfitCause setting) _ tt
number_for_says setting i Zero = says_ok _ (IsUnfitCause setting) _ tt
number_for_says setting i Missing = says_err _ (IsUnfitCause setting) (Unresolved i) tt

long_held : (roots : List Mapping) (setting : Setting) (width : ℕ) (r : Result Content RelocRefusal) → width ≡ 16 → Says (IsLong roots setting) (IsUnfitCause setting) r → Says (IsHeld roots setting width) (IsUnfitCause setting) r
long_held roots setting width r is h = record {
  ok = λ c e. let l = h.ok c e in record { long = l.long ∙ sym is; narrowed = l.narrowed; data_is = l.data_is; few = l.few };
  err = h.err;
}

record_says : (roots : List Mapping) (setting : Setting) (r : DynReloc) → IsPlaced roots setting → is_kind r.kind ≡ true → (r.kind == 0) ≡ false → Says (IsHeld roots setting (width_of_kind r.kind)) (IsUnfitCause setting) (record_content setting r)
unfolding record_content
record_says roots setting r placed kind some =
    let P = IsHeld roots setting (width_of_kind r.kind) in
    let Q = IsUnfitCause setting in
    let number : ℕ → Result Content RelocRefusal = λ n. Ok (Number (plus_signed n r.addend)) in
    let second = number_for setting r.symbol (target_of setting r.symbol) >>= number in
    let third = capability_for setting r (target_of setting r.symbol) in
    says_if P Q (r.kind == 3) (Ok (Number (plus_signed (bias setting) r.addend))) (if r.kind == 2 then second else third)
    (λ h. number_says roots setting (width_of_kind r.kind) (plus_signed (bias setting) r.addend) (eight_relative r.kind h))
    (λ h. says_if P Q (r.kind == 2) second third
    (λ k. says_bind (λ n. ⊤) P Q (number_for setting r.symbol (target_of setting r.symbol)) number (number_for_says setting r.symbol (target_of setting r.symbol)) (λ n u. number_says roots setting (width_of_kind r.kind) (plus_signed n r.addend) (eight r.kind true k)))
    (λ k. long_held roots setting (width_of_kind r.kind) third (sixteen (r.kind == 0) (r.kind == 2) (r.kind == 3) (r.kind == 5) (r.kind == 193) kind some k h) (reference_says roots setting r placed)))

-- ---- pairs
abbrev IsGoodPair : List Mapping → Setting → Bool → ℕ × ℕ → Pair → Type 0
IsGoodPair roots setting touched slot p = IsSoundPair roots setting slot p × (touched ≡ false)

pair_says : (roots : List Mapping) (setting : Setting) (touched : Bool) (slot : ℕ × ℕ) (content : Result Content RelocRefusal) (at : ℕ) → IsPlaced roots setting → Says (IsHeld roots setting slot.1) (IsUnfitCause setting) content
    → Says (IsGoodPair roots setting touched slot) (IsUnfitCause setting) (refuse (slot_fails (own setting) touched slot) (malformed RelocationSlot at) >> (content >>= λ c. Ok (pair_at setting slot.0 c)))
pair_says roots setting touched slot content at placed h =
    let P = IsGoodPair roots setting touched slot in
    let Q = IsUnfitCause setting in
    let last : Content → Result Pair RelocRefusal = λ c. Ok (pair_at setting slot.0 c) in
    says_refuse P Q (slot_fails (own setting) touched slot) (malformed RelocationSlot at) (content >>= last) (λ e. tt) (λ passed.
    let good = good_slot roots setting touched slot placed passed in
    says_bind (IsHeld roots setting slot.1) P Q content last h (λ c held.
    says_ok P Q (pair_at setting slot.0 c) (record { at = refl; long = held.long; within = good.within; aligned = good.aligned; narrowed = held.narrowed; data_is = held.data_is; few = held.few }, good.free)))

-- an entry for data describes an interval of the object's data
abbrev IsKnown : Setting → Relocation → Type 0
IsKnown setting (Entry e) = is_data_entry e ≡ true → IsData (own setting) e.object e.size
IsKnown setting (Record r) = Unit {0}

abbrev IsWanted : List Mapping → Setting → List Relocation → Relocation → Option Pair → Type 0
IsWanted roots setting earlier x None = Unit {0}
IsWanted roots setting earlier x (Some p) = IsGoodPair roots setting (touches (slot_of x) earlier) (slot_of x) p

some_says : (roots : List Mapping) (setting : Setting) (earlier : List Relocation) (x : Relocation) (r : Result Pair RelocRefusal) → Says (IsGoodPair roots setting (touches (slot_of x) earlier) (slot_of x)) (IsUnfitCause setting) r
    → Says (IsWanted roots setting earlier x) (IsUnfitCause setting) (r >>= λ pair. Ok (Some pair))
some_says roots setting earlier x r h =
    says_bind (IsGoodPair roots setting (touches (slot_of x) earlier) (slot_of x)) (IsWanted roots setting earlier x) (IsUnfitCause setting) r (λ pair. Ok (Some pair)) h
    (λ p good. says_ok (IsWanted roots setting earlier x) (IsUnfitCause setting) (Some p) good)

entry_pair_says : (roots : List Mapping) (setting : Setting) (touched : Bool) (e : CapReloc) → IsPlaced roots setting → IsKnown setting (Entry e) → Says (IsGoodPair roots setting touched (e.location, 16)) (IsUnfitCause setting) (entry_pair setting touched e)
unfolding entry_pair
entry_pair_says roots setting touched e placed known =
    pair_says roots setting touched (e.location, 16) (entry_content setting e) e.at placed (long_held roots setting 16 (entry_content setting e) refl (entry_says roots setting e placed known))

slot_pair_says : (roots : List Mapping) (setting : Setting) (touched : Bool) (r : DynReloc) → IsPlaced roots setting → is_kind r.kind ≡ true → (r.kind == 0) ≡ false → Says (IsGoodPair roots setting touched (r.slot, width_of_kind r.kind)) (IsUnfitCause setting) (slot_pair setting touched r)
unfolding slot_pair
slot_pair_says roots setting touched r placed kind some =
    pair_says roots setting touched (r.slot, width_of_kind r.kind) (record_content setting r) r.at placed (record_says roots setting r placed kind some)

record_pair_says : (roots : List Mapping) (setting : Setting) (earlier : List Relocation) (r : DynReloc) → IsPlaced roots setting → Says (IsWanted roots setting earlier (Record r)) (IsUnfitCause setting) (record_pair setting (touches (slot_of (Record r)) earlier) r)
unfolding record_pair
record_pair_says roots setting earlier r placed =
    let P = IsWanted roots setting earlier (Record r) in
    let Q = IsUnfitCause setting in
    let touched : Bool = touches (slot_of (Record r)) earlier in
    let last = slot_pair setting touched r >>= λ pair. Ok (Some pair) in
    says_refuse P Q (not (is_kind r.kind)) (unsupported RelocationKind r.at) (if r.kind == 0 then Ok None else last) (λ h. tt) (λ h.
    says_if P Q (r.kind == 0) (Ok None) last (λ k. says_ok P Q None tt) (λ k.
    some_says roots setting earlier (Record r) (slot_pair setting touched r) (slot_pair_says roots setting touched r placed (not-false (is_kind r.kind) h) k)))

wanted_says : (roots : List Mapping) (setting : Setting) (earlier : List Relocation) (x : Relocation) → IsPlaced roots setting → IsKnown setting x → Says (IsWanted roots setting earlier x) (IsUnfitCause setting) (wanted setting earlier x)
wanted_says roots setting earlier (Entry e) placed known =
    some_says roots setting earlier (Entry e) (entry_pair setting (touches (slot_of (Entry e)) earlier) e) (entry_pair_says roots setting (touches (slot_of (Entry e)) earlier) e placed known)
wanted_says roots setting earlier (Record r) placed known = record_pair_says roots setting earlier r placed

-- ---- all of them
pub record AreSound (roots : List Mapping) (setting : Setting) (pairs : List Pair) : Type 0 where
  pub each : All (IsSomeSlot roots setting) pairs
  pub apart : SlotsAreApart pairs

record IsSoundPlan (roots : List Mapping) (setting : Setting) (earlier : List Relocation) (pairs : List Pair) : Type 0 where
  pub sound : AreSound roots setting pairs
  pub clear : (q : ℕ × ℕ) → touches q earlier ≡ false → (k : ℕ) (d : Pair) → k < length pairs → share_byte (interval_of (get_or pairs k d)) (bias setting + q.0, q.1) ≡ false

either_false : (a b : Bool) → (a || b) ≡ false → (a ≡ false) × (b ≡ false)
either_false true b h = let no : true ≡ false = h in cc
either_false false b h = (refl, h)

before_last : (q : ℕ × ℕ) (earlier : List Relocation) (x : Relocation) → touches q (earlier ++ x ∷ []) ≡ false → (touches q earlier ≡ false) × (share_byte q (slot_of x) ≡ false)
before_last q earlier x h =
    let parts = either_false (touches q earlier) (touches q (x ∷ [])) (sym (list_any-append (λ r. share_byte q (slot_of r)) earlier (x ∷ [])) ∙ h) in
    (parts.0, (either_false (share_byte q (slot_of x)) false parts.1).0)

shifted_apart : (b : ℕ) (q s : ℕ × ℕ) → share_byte q s ≡ false → share_byte (b + s.0, s.1) (b + q.0, q.1) ≡ false
shifted_apart b q s h = let le = ltb-false _ _ h in le-ltb _ _ (omega (arith, le))

interval_is : (roots : List Mapping) (setting : Setting) (slot : ℕ × ℕ) (p : Pair) → IsSoundPair roots setting slot p → interval_of p ≡ (bias setting + slot.0, slot.1)
interval_is roots setting slot p sound = let a = sound.at in let b = sound.long in cc

last_of : {X : Type 0} (P : X → Type 0) (xs : List X) (y : X) (k : ℕ) (d : X) → k < length (xs ++ y ∷ []) → (k < length xs → P (get_or xs k d)) → P y → P (get_or (xs ++ y ∷ []) k d)
last_of {X} P xs y k d lt early last =
    let many = length-append xs (y ∷ []) in
    ⊎_elim
    (λ (less : k < length xs). subst P (sym (get_or_append_left xs (y ∷ []) d k less)) (early less))
    (λ (ge : length xs ≤ k).
    let same : length xs + 0 ≡ k = omega (arith, many, lt) in
    subst (λ (j : ℕ). P (get_or (xs ++ y ∷ []) j d)) same (subst P (sym (get_or-append-add xs (y ∷ []) 0 d)) last))
    (cases_lt k (length xs))

step_none : (roots : List Mapping) (setting : Setting) (earlier : List Relocation) (x : Relocation) (pairs : List Pair) → IsSoundPlan roots setting earlier pairs → IsSoundPlan roots setting (earlier ++ x ∷ []) (pairs ++ [])
step_none roots setting earlier x pairs plan =
    subst (λ (ps : List Pair). IsSoundPlan roots setting (earlier ++ x ∷ []) ps) (sym (append-nil pairs)) (record {
      sound = plan.sound;
      clear = λ q h. plan.clear q (before_last q earlier x h).0;
    })

step_some : (roots : List Mapping) (setting : Setting) (earlier : List Relocation) (x : Relocation) (pairs : List Pair) (p : Pair) → IsSoundPlan roots setting earlier pairs → IsSoundPair roots setting (slot_of x) p → touches (slot_of x) earlier ≡ false → IsSoundPlan roots setting (earlier ++ x ∷ []) (pairs ++ p ∷ [])
step_some roots setting earlier x pairs p plan sound free =
    let s : ℕ × ℕ = slot_of x in
    let is : interval_of p ≡ (bias setting + s.0, s.1) = interval_is roots setting s p sound in
    record {
      sound = record {
        each = λ k d lt. last_of (IsSomeSlot roots setting) pairs p k d lt (λ less. plan.sound.each k d less) (record { slot = s; sound = sound });
        apart = all_pairs_push (λ a b. share_byte (interval_of a) (interval_of b) ≡ false) pairs p plan.sound.apart (λ k d lt.
            subst (λ (i : ℕ × ℕ). share_byte (interval_of (get_or pairs k d)) i ≡ false) (sym is) (plan.clear s free k d lt));
      };
      clear = λ q h k d lt.
          let parts = before_last q earlier x h in
          last_of (λ a. share_byte (interval_of a) (bias setting + q.0, q.1) ≡ false) pairs p k d lt (λ less. plan.clear q parts.0 k d less)
          (subst (λ (i : ℕ × ℕ). share_byte i (bias setting + q.0, q.1) ≡ false) (sym is) (shifted_apart (bias setting) q s parts.1));
    }

step_sound : (roots : List Mapping) (setting : Setting) (earlier : List Relocation) (x : Relocation) (pairs : List Pair) (p : Option Pair) → IsSoundPlan roots setting earlier pairs → IsWanted roots setting earlier x p → IsSoundPlan roots setting (earlier ++ x ∷ []) (pairs ++ list_of p)
step_sound roots setting earlier x pairs None plan h = step_none roots setting earlier x pairs plan
step_sound roots setting earlier x pairs (Some p) plan h = step_some roots setting earlier x pairs p plan h.0 h.1

abbrev AllKnown : Setting → List Relocation → Type 0
AllKnown setting [] = ⊤
AllKnown setting (x ∷ xs) = IsKnown setting x × AllKnown setting xs

rest_says : (roots : List Mapping) (setting : Setting) (rest earlier : List Relocation) (pairs : List Pair) → IsPlaced roots setting → AllKnown setting rest → IsSoundPlan roots setting earlier pairs → Says (AreSound roots setting) (IsUnfitCause setting) (wanted_from setting earlier pairs rest)
rest_says roots setting [] earlier pairs placed known plan = says_ok (AreSound roots setting) (IsUnfitCause setting) (pairs ++ []) (subst (AreSound roots setting) (sym (append-nil pairs)) plan.sound)
rest_says roots setting (x ∷ rest) earlier pairs placed known plan =
    go (λ p h. rest_says roots setting rest (earlier ++ x ∷ []) (pairs ++ list_of p) placed known.1 (step_sound roots setting earlier x pairs p plan h)) (wanted setting earlier x) refl (wanted_says roots setting earlier x placed known.0)
  where
    go : ((p : Option Pair) → IsWanted roots setting earlier x p → Says (AreSound roots setting) (IsUnfitCause setting) (wanted_from setting (earlier ++ x ∷ []) (pairs ++ list_of p) rest))
        → (r : Result (Option Pair) RelocRefusal) → wanted setting earlier x ≡ r → Says (IsWanted roots setting earlier x) (IsUnfitCause setting) (wanted setting earlier x) → Says (AreSound roots setting) (IsUnfitCause setting) (wanted_from setting earlier pairs (x ∷ rest))
    go later (Ok p) is said = subst (Says (AreSound roots setting) (IsUnfitCause setting)) (wanted_more setting earlier pairs x rest p is) (later p (said.ok p is))
    go later (Err e) is said = subst (Says (AreSound roots setting) (IsUnfitCause setting)) (sym (wanted_refused setting earlier pairs x rest e is)) (says_err (AreSound roots setting) (IsUnfitCause setting) e (said.err e is))

records_known : (setting : Setting) (rs : List DynReloc) → AllKnown setting (map Record rs)
records_known setting [] = tt
records_known setting (r ∷ rs) = (tt, records_known setting rs)

entries_known : (setting : Setting) (es : List CapReloc) (rs : List DynReloc) → ((k : ℕ) (d : CapReloc) → k < length es → IsKnown setting (Entry (get_or es k d))) → AllKnown setting (map Entry es ++ map Record rs)
entries_known setting [] rs h = records_known setting rs
entries_known setting (e ∷ es) rs h = (h zero e (omega arith), entries_known setting es rs (λ k d lt. h (suc k) d (omega (arith, lt))))

-- all pairs are sound, and bounds are refused only of what doesn't fit
pub pairs_say : (roots : List Mapping) (setting : Setting) → IsPlaced roots setting → Says (AreSound roots setting) (IsUnfitCause setting) (wanted_pairs setting)
pairs_say roots setting placed =
    rest_says roots setting (relocations_of (own setting)) [] [] placed
    (entries_known setting (own setting).cap_relocs (own setting).relocs (λ k d lt passes. entry_is_data (own setting) k d lt passes))
    (record {
      sound = record { each = λ k d lt. absurd (omega (arith, lt)); apart = λ i j d less lt. absurd (omega (arith, lt)) };
      clear = λ q h k d lt. absurd (omega (arith, lt));
    })
