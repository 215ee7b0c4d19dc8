-- The fields of slots against the intervals that were taken for them.
use Rattle.std.specs.List.{list_any}
use Rattle.std.proofs.Common.{◌≡◌, ℕ, ◌+◌, ◌<◌, ◌≤◌, Bool, true, false, ◌&&◌, ◌||◌, ◌==◌, ltb, nat_lt, max, min, ⊎_elim, List, [], ◌∷◌, length, get_or, take, refl, sym, ap, ◌∙◌, subst, arith}
use Rattle.std.proofs.lemmas.Bool.{eqb-true, cases_lt, lt-ltb, le-ltb, or_cases}
use Rattle.std.proofs.lemmas.List.Folds.{list_any_more}
use Rattle.cap_elf.specs.declared.records.Reloc.{Reloc}
use Rattle.cap_intervals.specs.declared.interval.Interval.{Interval}
use Rattle.cap_intervals.specs.declared.groups.Groups.{Groups}
use Rattle.cap_intervals.specs.Clash.{clash, share}
use Rattle.cap_intervals.specs.Groups.{clashes_in}
use Rattle.cap_table.specs.Kinds.{is_slot, width_of}
use Rattle.cap_table.specs.Checks.{slots_clash}
use Rattle.cap_table.specs.Walked.{field_of, AreFieldsOf}

-- the field of a slot has bytes
pub wide : (kind : ℕ) → is_slot kind ≡ true → 0 < width_of kind
wide kind h =
    ⊎_elim
    (λ (e : (kind == 193) ≡ true). subst (λ k. 0 < width_of k) (sym (eqb-true kind 193 e)) (omega arith))
    (λ (e : (kind == 2) ≡ true). subst (λ k. 0 < width_of k) (sym (eqb-true kind 2 e)) (omega arith))
    (or_cases (kind == 193) (kind == 2) h)

-- intervals that have numbers share one, if each begins before the other ends
shared : (a b c d : ℕ) → a < c → b < d → (ltb a d && ltb b c) ≡ ltb (max a b) (min c d)
shared a b c d ac bd =
    ⊎_elim
    (λ (ad : a < d).
    ⊎_elim
    (λ (bc : b < c). rw (lt-ltb a d ad, lt-ltb b c bc, lt-ltb (max a b) (min c d) (omega arith)) refl)
    (λ (cb : c ≤ b). rw (lt-ltb a d ad, le-ltb b c cb, le-ltb (max a b) (min c d) (omega arith)) refl)
    (cases_lt b c))
    (λ (da : d ≤ a). rw (le-ltb a d da, le-ltb (max a b) (min c d) (omega arith)) refl)
    (cases_lt a d)

and_true : (b : Bool) → (b && true) ≡ b
and_true true = refl
and_true false = refl

and_group : (a b c : Bool) → ((a && b) && c) ≡ (a && (b && c))
and_group true b c = refl
and_group false b c = refl

-- two slots clash, where their fields do and are of one section
pub slots : (r q : Reloc) → is_slot r.kind ≡ true → is_slot q.kind ≡ true → slots_clash r q ≡ (r.section == q.section && clash false (field_of r) (field_of q))
slots r q hr hq =
    let both : (ltb r.offset (q.offset + width_of q.kind) && ltb q.offset (r.offset + width_of r.kind)) ≡ share (field_of r) (field_of q) =
    shared r.offset q.offset (r.offset + width_of r.kind) (q.offset + width_of q.kind) (omega (arith, wide r.kind hr)) (omega (arith, wide q.kind hq)) in
    let begins = nat_lt r.offset (q.offset + width_of q.kind) in
    let ends = nat_lt q.offset (r.offset + width_of r.kind) in
    rw (hr, hq) (and_group (r.section == q.section) begins ends ∙ ap (λ b. r.section == q.section && b) (both ∙ sym (and_true (share (field_of r) (field_of q)))))

-- what isn't a slot clashes with nothing
pub other_left : (r q : Reloc) → is_slot r.kind ≡ false → slots_clash r q ≡ false
other_left r q h = rw h refl

pub none_left : (r : Reloc) (relocs : List Reloc) → is_slot r.kind ≡ false → list_any (slots_clash r) relocs ≡ false
none_left r [] h = refl
none_left r (q ∷ qs) h = ap (λ b. b || list_any (slots_clash r) qs) (other_left r q h) ∙ none_left r qs h

other_right : (r q : Reloc) → is_slot r.kind ≡ true → is_slot q.kind ≡ false → slots_clash r q ≡ false
other_right r q hr hq = rw (hr, hq) refl

or_false : (b : Bool) → (b || false) ≡ b
or_false true = refl
or_false false = refl

or_swap : (a b : Bool) → (a || b) ≡ (b || a)
or_swap true true = refl
or_swap true false = refl
or_swap false true = refl
or_swap false false = refl

-- one more relocation that isn't a slot
pub fields_skip : (groups : Groups) (relocs : List Reloc) (i : ℕ) (d : Reloc) → i < length relocs → is_slot (get_or relocs i d).kind ≡ false → AreFieldsOf groups (take i relocs) → AreFieldsOf groups (take (i + 1) relocs)
fields_skip groups relocs i d lt h are r hr =
    are r hr
    ∙ sym (or_false (list_any (slots_clash r) (take i relocs)))
    ∙ ap (λ b. list_any (slots_clash r) (take i relocs) || b) (sym (other_right r (get_or relocs i d) hr h))
    ∙ sym (list_any_more (slots_clash r) relocs i d lt)

-- one more slot
pub fields_more : (old new : Groups) (relocs : List Reloc) (i : ℕ) (d r : Reloc) → i < length relocs → r ≡ get_or relocs i d → is_slot r.kind ≡ true → AreFieldsOf old (take i relocs) → ((b : Bool) (g : ℕ) (q : Interval) → clashes_in b new g q ≡ ((g == r.section && clash b q (field_of r)) || clashes_in b old g q)) → AreFieldsOf new (take (i + 1) relocs)
fields_more old new relocs i d r lt e h are step s hs =
    step false s.section (field_of s)
    ∙ ap (λ b. b || clashes_in false old s.section (field_of s)) (sym (slots s r hs h))
    ∙ ap (λ b. slots_clash s r || b) (are s hs)
    ∙ or_swap (slots_clash s r) (list_any (slots_clash s) (take i relocs))
    ∙ ap (λ x. list_any (slots_clash s) (take i relocs) || slots_clash s x) e
    ∙ sym (list_any_more (slots_clash s) relocs i d lt)

-- none so far
pub fields_none : (groups : Groups) (relocs : List Reloc) → ((b : Bool) (g : ℕ) (q : Interval) → clashes_in b groups g q ≡ false) → AreFieldsOf groups (take 0 relocs)
fields_none groups relocs none r hr = none false r.section (field_of r)
