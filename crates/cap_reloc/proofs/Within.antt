-- What is in a segment lies in the span of its object, and code in its range of code.
use Rattle.std.proofs.Common.{◌≡◌, ℕ, zero, suc, ◌+◌, ◌<◌, ◌≤◌, Bool, true, false, ⊎_elim, List, [], ◌∷◌, ◌++◌, Option, Some, None, refl, sym, ap, ◌∙◌, subst, arith}
use Rattle.std.specs.Prelude.{All, IfSome, ⊤, ◌&&◌, ◌||◌, map, filter, fold, nat_le, nat_lt, unwrap_or, if◌then◌else◌}
use Rattle.std.specs.List.{list_any, reduce}
use Rattle.std.specs.Option.{option_or}
use Rattle.std.proofs.lemmas.Bool.{cases_Bool, and_parts, leb-true, ltb-true, lt-ltb, eqb-true}
use Rattle.std.proofs.Common.{bit_and, ◌/◌, eq-eqb}
use Rattle.std.proofs.Math.Bool.{or-true}
use Rattle.std.specs.Int.Bits.{and_step}
use Rattle.std.proofs.lemmas.Nat.{and_le_r}
use Rattle.std.proofs.lemmas.List.Folds.{Any-from_list_any, list_any-append}
use Rattle.cap_elf.specs.declared.records.Segment.{Segment}
use Rattle.cap_elf.specs.Ends.{end_of, spans, writes, has_memory}
use Rattle.cap_elf.specs.Segments.{is_writable_code}
use Rattle.cap_elf.specs.DynView.{DynRecords}
use Rattle.cap_elf.specs.IsRead.{IsRead, IsSegment, IsRelro}
use Rattle.cap_fits.specs.Places.{find_last, executes, has_address, is_in_code, is_in_writable, data_permissions, permissions_of_part, hull, fixed_parts, unless_empty}
use Rattle.cap_reloc.specs.Sound.{IsCodeIn}
use Rattle.cap_reloc.specs.Hulls.{is_fixed, interval_of_segment}

pub writable_within : (object : DynRecords) (at len : ℕ) → IsRead object → is_in_writable object at len ≡ true → at + len ≤ object.span
writable_within object at len read is =
    let any = Any-from_list_any (λ s. writes s && spans s at len) object.segments is in
    let s : Segment = any.1 in
    let segment : IsSegment object.span s = subst (λ (t : Segment). IsSegment object.span t) any.3 (read.segments_are any.0 s any.2) in
    let end : at + len ≤ end_of s = leb-true _ _ (and_parts _ _ (and_parts _ _ any.4).1).1 in
    omega (arith, end, segment.within)

-- what holds of each element holds of the last that passes, which passes
find_last_holds : {X : Type 0} (P : X → Type 0) (p : X → Bool) (xs : List X) (x : X) → All P xs → find_last p xs ≡ Some x → P x × (p x ≡ true)
find_last_holds P p [] x all is = let none : None ≡ Some x = is in cc
find_last_holds {X} P p (y ∷ ys) x all is = go (λ e. find_last_holds P p ys x (λ k d lt. all (suc k) d (omega arith)) e) (find_last p ys) (p y) refl refl is
  where
    go : (find_last p ys ≡ Some x → P x × (p x ≡ true)) → (o : Option X) (b : Bool) → find_last p ys ≡ o → p y ≡ b → option_or o (if b then Some y else None) ≡ Some x → P x × (p x ≡ true)
    go later (Some z) b e h found = later (e ∙ found)
    go later None true e h found = let same : y ≡ x = cc in subst (λ (z : X). P z × (p z ≡ true)) same (all zero y (omega arith), h)
    go later None false e h found = let none : None ≡ Some x = found in cc

permissions_some : (object : DynRecords) (at len : ℕ) (part : Option Segment) (n : ℕ) → permissions_of_part object at len part ≡ Some n → (s : Segment) × (part ≡ Some s)
permissions_some object at len None n is = let none : None ≡ Some n = is in cc
permissions_some object at len (Some s) n is = (s, refl)

pub data_within : (object : DynRecords) (at len n : ℕ) → IsRead object → data_permissions object at len ≡ Some n → at + len ≤ object.span
data_within object at len n read is =
    let found = permissions_some object at len (find_last (λ s. spans s at len) object.segments) n is in
    let holds = find_last_holds (IsSegment object.span) (λ s. spans s at len) object.segments found.0 read.segments_are found.1 in
    let end : at + len ≤ end_of found.0 = leb-true _ _ (and_parts _ _ holds.1).1 in
    omega (arith, end, holds.0.within)

-- ---- the range of code
abbrev HasPlace : ℕ → ℕ × ℕ → Type 0
HasPlace at r = (r.0 ≤ at) × (at < r.1)

abbrev has_place : ℕ → ℕ × ℕ → Bool
has_place at r = nat_le r.0 at && nat_lt at r.1

has_is : (at : ℕ) (r : ℕ × ℕ) → has_place at r ≡ true → HasPlace at r
has_is at r h = let parts = and_parts _ _ h in (leb-true _ _ parts.0, ltb-true _ _ parts.1)

fold_keeps : (at : ℕ) (r : ℕ × ℕ) (parts : List (ℕ × ℕ)) → HasPlace at r → HasPlace at (fold hull r parts)
fold_keeps at r [] h = h
fold_keeps at r (p ∷ parts) h = fold_keeps at (hull r p) parts (omega (arith, h.0), omega (arith, h.1))

fold_finds : (at : ℕ) (r : ℕ × ℕ) (parts : List (ℕ × ℕ)) → list_any (has_place at) parts ≡ true → HasPlace at (fold hull r parts)
fold_finds at r [] h = let no : false ≡ true = h in cc
fold_finds at r (p ∷ parts) h = ⊎_elim
    (λ (yes : has_place at p ≡ true). let here = has_is at p yes in fold_keeps at (hull r p) parts (omega (arith, here.0), omega (arith, here.1)))
    (λ (no : has_place at p ≡ false). fold_finds at (hull r p) parts (ap (λ b. b || list_any (has_place at) parts) (sym no) ∙ h))
    (cases_Bool (has_place at p))

abbrev EndBelow : ℕ → List (ℕ × ℕ) → Type 0
EndBelow n [] = ⊤
EndBelow n (p ∷ ps) = (p.1 ≤ n) × EndBelow n ps

fold_below : (n : ℕ) (r : ℕ × ℕ) (parts : List (ℕ × ℕ)) → r.1 ≤ n → EndBelow n parts → (fold hull r parts).1 ≤ n
fold_below n r [] low below = low
fold_below n r (p ∷ parts) low below = let here = below.0 in fold_below n (hull r p) parts (omega (arith, here, low)) below.1

reduced : (at n : ℕ) (parts : List (ℕ × ℕ)) → list_any (has_place at) parts ≡ true → EndBelow n parts → HasPlace at (unwrap_or (reduce hull parts) (0, 0)) × ((unwrap_or (reduce hull parts) (0, 0)).1 ≤ n)
reduced at n [] h below = let no : false ≡ true = h in cc
reduced at n (p ∷ parts) h below = (
  ⊎_elim
      (λ (yes : has_place at p ≡ true). fold_keeps at p parts (has_is at p yes))
      (λ (no : has_place at p ≡ false). fold_finds at p parts (ap (λ b. b || list_any (has_place at) parts) (sym no) ∙ h))
      (cases_Bool (has_place at p)),
  fold_below n p parts below.0 below.1,
)

below_append : (n : ℕ) (xs ys : List (ℕ × ℕ)) → EndBelow n xs → EndBelow n ys → EndBelow n (xs ++ ys)
below_append n [] ys h k = k
below_append n (x ∷ xs) ys h k = (h.0, below_append n xs ys h.1 k)

fixed_below : (n : ℕ) (segments : List Segment) → All (IsSegment n) segments → EndBelow n (map interval_of_segment (filter is_fixed segments))
fixed_below n [] all = tt
fixed_below n (s ∷ segments) all =
    let rest : EndBelow n (map interval_of_segment (filter is_fixed segments)) = fixed_below n segments (λ k d lt. all (suc k) d (omega arith)) in
    let here = (all zero s (omega arith)).within in
    ⊎_elim (λ (yes : is_fixed s ≡ true). rw yes (here, rest)) (λ (no : is_fixed s ≡ false). rw no rest) (cases_Bool (is_fixed s))

relro_below : (n : ℕ) (segments : List Segment) (relro : Option (ℕ × ℕ)) → All (IsSegment n) segments → IfSome relro (IsRelro segments) → EndBelow n (unless_empty relro)
relro_below n segments None all h = tt
relro_below n segments (Some r) all h =
    let held = h.held in
    let s : Segment = held.1 in
    let segment : IsSegment n s = subst (λ (t : Segment). IsSegment n t) held.3 (all held.0 s held.2) in
    let end : r.1 ≤ n = omega (arith, segment.within, held.4.1) in
    ⊎_elim (λ (yes : nat_lt r.0 r.1 ≡ true). rw yes (end, tt)) (λ (no : nat_lt r.0 r.1 ≡ false). rw no tt) (cases_Bool (nat_lt r.0 r.1))

-- PF_X and PF_W together
both_flags : (f : ℕ) → bit_and f 1 ≡ 1 → bit_and f 2 ≡ 2 → bit_and f 3 ≡ 3
both_flags f x w = omega (arith, x, w, and_step f 3, and_step f 2, and_step f 1, and_le_r (f / 2) 0)

code_fixed : (n at : ℕ) (s : Segment) → IsSegment n s → executes s && has_address s at ≡ true → is_fixed s ≡ true
code_fixed n at s segment h =
    let parts = and_parts _ _ h in
    let place = and_parts _ _ parts.1 in
    let low : s.vaddr ≤ at = leb-true _ _ place.0 in
    let high : at < end_of s = ltb-true _ _ place.1 in
    let some : has_memory s ≡ true = lt-ltb _ _ (omega arith) in
    ⊎_elim (λ (yes : writes s ≡ true).
    let both : bit_and s.flags 3 ≡ 3 = both_flags s.flags (eqb-true _ _ parts.0) (eqb-true _ _ yes) in
    let code : is_writable_code s ≡ true = eq-eqb _ _ both in
    let not_code : is_writable_code s ≡ false = segment.protected in cc)
    (λ (no : writes s ≡ false). rw (no, some) refl) (cases_Bool (writes s))

code_finds : (n at : ℕ) (segments : List Segment) → All (IsSegment n) segments → list_any (λ s. executes s && has_address s at) segments ≡ true → list_any (has_place at) (map interval_of_segment (filter is_fixed segments)) ≡ true
code_finds n at [] all h = h
code_finds n at (s ∷ segments) all h =
    let segment : IsSegment n s = all zero s (omega arith) in
    ⊎_elim
    (λ (yes : executes s && has_address s at ≡ true).
    let fixed : is_fixed s ≡ true = code_fixed n at s segment yes in
    let here : has_address s at ≡ true = (and_parts _ _ yes).1 in
    rw fixed (ap (λ b. b || list_any (has_place at) (map interval_of_segment (filter is_fixed segments))) here))
    (λ (no : executes s && has_address s at ≡ false).
    let rest : list_any (has_place at) (map interval_of_segment (filter is_fixed segments)) ≡ true =
    code_finds n at segments (λ k d lt. all (suc k) d (omega arith)) (ap (λ b. b || list_any (λ t. executes t && has_address t at) segments) (sym no) ∙ h) in
    ⊎_elim (λ (yes : is_fixed s ≡ true). rw yes (ap (λ b. has_place at (interval_of_segment s) || b) rest ∙ or-true (has_place at (interval_of_segment s)))) (λ (not_fixed : is_fixed s ≡ false). rw not_fixed rest) (cases_Bool (is_fixed s)))
    (cases_Bool (executes s && has_address s at))

pub code_within : (object : DynRecords) (at : ℕ) → IsRead object → is_in_code object at ≡ true → IsCodeIn object at
code_within object at read is =
    let fixed = map interval_of_segment (filter is_fixed object.segments) in
    let found : list_any (has_place at) (fixed_parts object) ≡ true =
    list_any-append (has_place at) fixed (unless_empty object.relro) ∙ ap (λ b. b || list_any (has_place at) (unless_empty object.relro)) (code_finds object.span at object.segments read.segments_are is) in
    let below : EndBelow object.span (fixed_parts object) = below_append object.span fixed (unless_empty object.relro) (fixed_below object.span object.segments read.segments_are) (relro_below object.span object.segments object.relro read.segments_are read.relro_is) in
    let all = reduced at object.span (fixed_parts object) found below in
    record { from = all.0.0; to = all.0.1; within = all.1 }
