-- The plan part way along the relocations.
use Rattle.std.proofs.Common.{◌≡◌, ℕ, ◌+◌, ◌<◌, ◌≤◌, Bool, true, false, ◌||◌, List, [], ◌∷◌, ◌++◌, length, get_or, take, drop, Option, Some, None, Result, Ok, Err, refl, sym, ap, ◌∙◌, subst, arith, append_assoc}
use Rattle.std.specs.Prelude.{map, filter_map}
use Rattle.std.proofs.lemmas.List.{length-append, length-map, append-nil, take_more, drop_more, drop_all, get_or_append_left, get_or-append-add, get_or-map}
use Rattle.std.proofs.lemmas.List.Folds.{list_any-append}
use Rattle.cap_base.specs.Lists.{share_byte}
use Rattle.cap_base.specs.Steps.{◌>>=◌, gather}
use Rattle.cap_elf.specs.declared.records.CapReloc.{CapReloc}
use Rattle.cap_elf.specs.declared.records.DynReloc.{DynReloc}
use Rattle.cap_reloc.specs.declared.plan.Plan.{Plan}
use Rattle.cap_reloc.specs.declared.refusal.RelocRefusal.{RelocRefusal}
use Rattle.cap_reloc.specs.declared.refusal.RelocRefusal.TheVariants.{Malformed, Unsupported, Unresolved, Inexact, NoMemory}
use Rattle.cap_reloc.specs.Refusing.{with_earlier_from}
use Rattle.cap_reloc.specs.Wanted.{Setting, Pair, Relocation, Entry, Record, relocations_of, own, slot_of, touches, wanted, wanted_entry, record_pair, wanted_pairs}
use Rattle.cap_reloc.specs.Taken.{is_touched}
use Rattle.cap_reloc.specs.Binding.{IsRefusedBy}
use Rattle.cap_reloc.specs.Adds.{list_of, HasMore}

-- the relocations of the setting
abbrev pub all_of : Setting → List Relocation
all_of setting = relocations_of (own setting)

-- these pairs, and those of the rest; or the first refusal of the rest
abbrev pub wanted_from : Setting → List Relocation → List Pair → List Relocation → Result (List Pair) RelocRefusal
wanted_from setting earlier pairs rest =
    gather (λ x. wanted setting x.0 x.1) (with_earlier_from earlier rest) >>= λ ps. Ok (pairs ++ filter_map (λ p. p) ps)

-- the plan holds the first k relocations, and with the others it gives what is wanted of all
pub record IsAt (setting : Setting) (k : ℕ) (plan : Plan) : Type 0 where
  pub agree : (q : ℕ × ℕ) → is_touched plan.taken q ≡ touches q (take k (all_of setting))
  pub rest : wanted_from setting (take k (all_of setting)) plan.planned.items (drop k (all_of setting)) ≡ wanted_pairs setting

pub at_begin : (setting : Setting) (plan : Plan) → plan.planned.items ≡ [] → ((q : ℕ × ℕ) → is_touched plan.taken q ≡ false) → IsAt setting 0 plan
at_begin setting plan none free = record { agree = free; rest = rw none refl }

gathered : (pairs : List Pair) (p : Option Pair) (g : Result (List (Option Pair)) RelocRefusal)
    → (g >>= λ ps. Ok ((pairs ++ list_of p) ++ filter_map (λ q. q) ps)) ≡ ((g >>= λ ys. Ok (p ∷ ys)) >>= λ ps. Ok (pairs ++ filter_map (λ q. q) ps))
gathered pairs p (Err e) = refl
gathered pairs None (Ok ps) = ap (λ (l : List Pair). Ok (l ++ filter_map (λ q. q) ps)) (append-nil pairs)
gathered pairs (Some pair) (Ok ps) = ap Ok (append_assoc pairs (pair ∷ []) (filter_map (λ q. q) ps))

pub wanted_more : (setting : Setting) (earlier : List Relocation) (pairs : List Pair) (x : Relocation) (rest : List Relocation) (p : Option Pair)
    → wanted setting earlier x ≡ Ok p → wanted_from setting (earlier ++ x ∷ []) (pairs ++ list_of p) rest ≡ wanted_from setting earlier pairs (x ∷ rest)
wanted_more setting earlier pairs x rest p is =
    gathered pairs p (gather (λ y. wanted setting y.0 y.1) (with_earlier_from (earlier ++ x ∷ []) rest))
    ∙ ap (λ r. (r >>= λ y. gather (λ z. wanted setting z.0 z.1) (with_earlier_from (earlier ++ x ∷ []) rest) >>= λ ys. Ok (y ∷ ys)) >>= λ ps. Ok (pairs ++ filter_map (λ q. q) ps)) (sym is)

pub wanted_refused : (setting : Setting) (earlier : List Relocation) (pairs : List Pair) (x : Relocation) (rest : List Relocation) (e : RelocRefusal)
    → wanted setting earlier x ≡ Err e → wanted_from setting earlier pairs (x ∷ rest) ≡ Err e
wanted_refused setting earlier pairs x rest e is =
    ap (λ r. (r >>= λ y. gather (λ z. wanted setting z.0 z.1) (with_earlier_from (earlier ++ x ∷ []) rest) >>= λ ys. Ok (y ∷ ys)) >>= λ ps. Ok (pairs ++ filter_map (λ q. q) ps)) is

or_last : (a b : Bool) → (b || a) ≡ (a || (b || false))
or_last true true = refl
or_last true false = refl
or_last false true = refl
or_last false false = refl

-- a relocation more
pub at_more : (setting : Setting) (k : ℕ) (x : Relocation) (old new : Plan) (p : Option Pair) → k < length (all_of setting) → get_or (all_of setting) k x ≡ x → IsAt setting k old → wanted setting (take k (all_of setting)) x ≡ Ok p → HasMore old new (slot_of x) p → IsAt setting (k + 1) new
at_more setting k x old new p lt is at said more =
    let all = all_of setting in
    let front : take (k + 1) all ≡ take k all ++ x ∷ [] = take_more all k x lt ∙ ap (λ (y : Relocation). take k all ++ y ∷ []) is in
    let back : drop k all ≡ x ∷ drop (k + 1) all = drop_more all k x lt ∙ ap (λ (y : Relocation). y ∷ drop (k + 1) all) is in
    record {
      agree = λ q.
          more.taken q ∙ ap (λ b. share_byte q (slot_of x) || b) (at.agree q)
          ∙ or_last (touches q (take k all)) (share_byte q (slot_of x))
          ∙ sym (list_any-append (λ r. share_byte q (slot_of r)) (take k all) (x ∷ []))
          ∙ ap (touches q) (sym front);
      rest =
          ap (λ (l : List Relocation). wanted_from setting l new.planned.items (drop (k + 1) all)) front
          ∙ ap (λ (l : List Pair). wanted_from setting (take k all ++ x ∷ []) l (drop (k + 1) all)) more.planned
          ∙ wanted_more setting (take k all) old.planned.items x (drop (k + 1) all) p said
          ∙ ap (wanted_from setting (take k all) old.planned.items) (sym back)
          ∙ at.rest;
    }

-- a relocation that is refused
refused_here : (setting : Setting) (k : ℕ) (x : Relocation) (plan : Plan) (e : RelocRefusal) → k < length (all_of setting) → get_or (all_of setting) k x ≡ x → IsAt setting k plan → wanted setting (take k (all_of setting)) x ≡ Err e → wanted_pairs setting ≡ Err e
refused_here setting k x plan e lt is at said =
    let all = all_of setting in
    let back : drop k all ≡ x ∷ drop (k + 1) all = drop_more all k x lt ∙ ap (λ (y : Relocation). y ∷ drop (k + 1) all) is in
    sym at.rest ∙ ap (wanted_from setting (take k all) plan.planned.items) back ∙ wanted_refused setting (take k all) plan.planned.items x (drop (k + 1) all) e said

refused_all : (setting : Setting) (k : ℕ) (x : Relocation) (plan : Plan) (e : RelocRefusal) → k < length (all_of setting) → get_or (all_of setting) k x ≡ x → IsAt setting k plan → IsRefusedBy (wanted setting (take k (all_of setting)) x) e → IsRefusedBy (wanted_pairs setting) e
refused_all setting k x plan (Malformed check at) lt is held said = refused_here setting k x plan (Malformed check at) lt is held said
refused_all setting k x plan (Unsupported check at) lt is held said = refused_here setting k x plan (Unsupported check at) lt is held said
refused_all setting k x plan (Unresolved symbol) lt is held said = refused_here setting k x plan (Unresolved symbol) lt is held said
refused_all setting k x plan (Inexact hit base len) lt is held said = refused_here setting k x plan (Inexact hit base len) lt is held said
refused_all setting k x plan NoMemory lt is held said = tt

-- all relocations are planned
pub at_end : (setting : Setting) (k : ℕ) (plan : Plan) → length (all_of setting) ≤ k → IsAt setting k plan → wanted_pairs setting ≡ Ok plan.planned.items
at_end setting k plan le at =
    sym at.rest ∙ ap (wanted_from setting (take k (all_of setting)) plan.planned.items) (drop_all k (all_of setting) le) ∙ ap Ok (append-nil plan.planned.items)

-- ---- entries
-- what is said of an entry, by the plan and by the relocations before it
entry_said : (setting : Setting) (k : ℕ) (e : CapReloc) (plan : Plan) → IsAt setting k plan → wanted setting (take k (all_of setting)) (Entry e) ≡ wanted_entry setting (is_touched plan.taken (e.location, 16)) e
entry_said setting k e plan at = ap (λ b. wanted_entry setting b e) (sym (at.agree (e.location, 16)))

record_said : (setting : Setting) (k : ℕ) (r : DynReloc) (plan : Plan) → IsAt setting k plan → wanted setting (take k (all_of setting)) (Record r) ≡ record_pair setting (is_touched plan.taken (slot_of (Record r))) r
record_said setting k r plan at = ap (λ b. record_pair setting b r) (sym (at.agree (slot_of (Record r))))

entries_many : (setting : Setting) → length (all_of setting) ≡ length (own setting).cap_relocs + length (own setting).relocs
entries_many setting =
    let entries = (own setting).cap_relocs in
    let records = (own setting).relocs in
    let split = length-append (map Entry entries) (map Record records) in
    let some = length-map entries Entry in
    let others = length-map records Record in
    omega (arith, split, some, others)

pub entry_at : (setting : Setting) (i : ℕ) (d : CapReloc) → i < length (own setting).cap_relocs → (i < length (all_of setting)) × ((x : Relocation) → get_or (all_of setting) i x ≡ Entry (get_or (own setting).cap_relocs i d))
entry_at setting i d lt =
    let entries = (own setting).cap_relocs in
    let some = length-map entries Entry in
    let many = entries_many setting in (
      omega (arith, many, lt),
      λ x. get_or_append_left (map Entry entries) (map Record (own setting).relocs) x i (omega (arith, some, lt)) ∙ get_or-map Entry entries i d x lt,
    )

pub record_at : (setting : Setting) (i : ℕ) (d : DynReloc) → i < length (own setting).relocs → (length (own setting).cap_relocs + i < length (all_of setting)) × ((x : Relocation) → get_or (all_of setting) (length (own setting).cap_relocs + i) x ≡ Record (get_or (own setting).relocs i d))
record_at setting i d lt =
    let entries = (own setting).cap_relocs in
    let records = (own setting).relocs in
    let some : length (map Entry entries) ≡ length entries = length-map entries Entry in
    let many = entries_many setting in (
      omega (arith, many, lt),
      λ x. ap (λ (n : ℕ). get_or (all_of setting) (n + i) x) (sym some) ∙ get_or-append-add (map Entry entries) (map Record records) i x ∙ get_or-map Record records i d x lt,
    )

pub entry_more : (setting : Setting) (i : ℕ) (d : CapReloc) (old new : Plan) (p : Option Pair) → i < length (own setting).cap_relocs → IsAt setting i old
    → wanted_entry setting (is_touched old.taken ((get_or (own setting).cap_relocs i d).location, 16)) (get_or (own setting).cap_relocs i d) ≡ Ok p → HasMore old new ((get_or (own setting).cap_relocs i d).location, 16) p → IsAt setting (i + 1) new
entry_more setting i d old new p lt at said more =
    let e = get_or (own setting).cap_relocs i d in
    let place = entry_at setting i d lt in
    at_more setting i (Entry e) old new p place.0 (place.1 (Entry e)) at (entry_said setting i e old at ∙ said) more

pub entry_refused : (setting : Setting) (i : ℕ) (d : CapReloc) (plan : Plan) (refusal : RelocRefusal) → i < length (own setting).cap_relocs → IsAt setting i plan
    → IsRefusedBy (wanted_entry setting (is_touched plan.taken ((get_or (own setting).cap_relocs i d).location, 16)) (get_or (own setting).cap_relocs i d)) refusal → IsRefusedBy (wanted_pairs setting) refusal
entry_refused setting i d plan refusal lt at said =
    let e = get_or (own setting).cap_relocs i d in
    let place = entry_at setting i d lt in
    refused_all setting i (Entry e) plan refusal place.0 (place.1 (Entry e)) at (subst (λ r. IsRefusedBy r refusal) (sym (entry_said setting i e plan at)) said)

pub record_more : (setting : Setting) (i : ℕ) (d : DynReloc) (old new : Plan) (p : Option Pair) → i < length (own setting).relocs → IsAt setting (length (own setting).cap_relocs + i) old
    → record_pair setting (is_touched old.taken (slot_of (Record (get_or (own setting).relocs i d)))) (get_or (own setting).relocs i d) ≡ Ok p → HasMore old new (slot_of (Record (get_or (own setting).relocs i d))) p → IsAt setting (length (own setting).cap_relocs + (i + 1)) new
record_more setting i d old new p lt at said more =
    let r = get_or (own setting).relocs i d in
    let n = length (own setting).cap_relocs in
    let place = record_at setting i d lt in
    let next : IsAt setting (n + i + 1) new = at_more setting (n + i) (Record r) old new p place.0 (place.1 (Record r)) at (record_said setting (n + i) r old at ∙ said) more in
    subst (λ (k : ℕ). IsAt setting k new) (omega arith) next

pub record_refused : (setting : Setting) (i : ℕ) (d : DynReloc) (plan : Plan) (refusal : RelocRefusal) → i < length (own setting).relocs → IsAt setting (length (own setting).cap_relocs + i) plan
    → IsRefusedBy (record_pair setting (is_touched plan.taken (slot_of (Record (get_or (own setting).relocs i d)))) (get_or (own setting).relocs i d)) refusal → IsRefusedBy (wanted_pairs setting) refusal
record_refused setting i d plan refusal lt at said =
    let r = get_or (own setting).relocs i d in
    let k : ℕ = length (own setting).cap_relocs + i in
    let place = record_at setting i d lt in
    refused_all setting k (Record r) plan refusal place.0 (place.1 (Record r)) at (subst (λ s. IsRefusedBy s refusal) (sym (record_said setting k r plan at)) said)

-- the entries are done
pub records_begin : (setting : Setting) (i : ℕ) (plan : Plan) → i ≡ length (own setting).cap_relocs → IsAt setting i plan → IsAt setting (length (own setting).cap_relocs + 0) plan
records_begin setting i plan is at = subst (λ (k : ℕ). IsAt setting k plan) (omega (arith, is)) at

pub records_end : (setting : Setting) (i : ℕ) (plan : Plan) → length (own setting).relocs ≤ i → IsAt setting (length (own setting).cap_relocs + i) plan → wanted_pairs setting ≡ Ok plan.planned.items
records_end setting i plan le at = let many = entries_many setting in at_end setting (length (own setting).cap_relocs + i) plan (omega (arith, many)) at
