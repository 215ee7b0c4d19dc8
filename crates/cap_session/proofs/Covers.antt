-- Pads and mappings one behind another.
use Rattle.std.proofs.Common.{◌≡◌, ℕ, zero, suc, ◌+◌, ◌-◌, ◌<◌, ◌≤◌, List, [], ◌∷◌, ◌++◌, length, take, Option, Some, None, refl, sym, ap, ◌∙◌, subst, arith}
use Rattle.std.specs.Prelude.{slice_get}
use Rattle.std.specs.List.{AllZip}
use Rattle.std.specs.Option.{option_to_list}
use Rattle.std.proofs.lemmas.List.{length-append}
use Rattle.cap_own.specs.Interval.{Interval, interval, Cover}
use Rattle.cap_own.specs.Cap.{Mapping}
use Rattle.cap_mem.specs.Tagged.{TaggedMemory}
use Rattle.cap_mem.specs.Ascending.{Ascend}
use Rattle.cap_session.specs.Mappings.{IsMemoryOf, spans_of}

-- what is known of the last pad and its mapping: what the others fill, and where these stand
pub record AreLast (start next : ℕ) (pads : List Interval) (roots : List Mapping) (pad : Interval) (root : Mapping) : Type 0 where
  pub covered : Cover start (spans_of pads roots) pad.base
  pub joined : pad.base + pad.len ≡ root.base
  pub «end» : root.base + root.len ≡ next
  pub order : start ≤ pad.base

pub cover_order : (start next : ℕ) (spans : List Interval) → Cover start spans next → start ≤ next
cover_order start next [] h = omega (arith, h)
cover_order start next (i ∷ spans) h = let rest = cover_order (i.base + i.len) next spans h.1 in omega (arith, h.0, rest)

pub spans_last : (start next : ℕ) (pads : List Interval) (roots : List Mapping) (pad : Interval) (root : Mapping) → length pads ≡ length roots
    → Cover start (spans_of (pads ++ pad ∷ []) (roots ++ root ∷ [])) next → AreLast start next pads roots pad root
spans_last start next [] [] pad root same h =
    record { covered = sym h.0; joined = omega (arith, h.1.0); «end» = h.1.1; order = omega (arith, h.0) }
spans_last start next [] (r ∷ roots) pad root same h = absurd (omega (arith, same))
spans_last start next (p ∷ pads) [] pad root same h = absurd (omega (arith, same))
spans_last start next (p ∷ pads) (r ∷ roots) pad root same h =
    let last = spans_last (r.base + r.len) next pads roots pad root (omega (arith, same)) h.1.1 in
    record { covered = (h.0, (h.1.0, last.covered)); joined = last.joined; «end» = last.«end»; order = omega (arith, h.0, h.1.0, last.order) }

-- one pad and one mapping more
pub spans_more : (start next : ℕ) (pads : List Interval) (roots : List Mapping) (pad : Interval) (root : Mapping) → length pads ≡ length roots
    → Cover start (spans_of pads roots) next → pad.base ≡ next → pad.base + pad.len ≡ root.base
    → Cover start (spans_of (pads ++ pad ∷ []) (roots ++ root ∷ [])) (root.base + root.len)
spans_more start next [] [] pad root same h at joined = (at ∙ sym h, (sym joined, refl))
spans_more start next [] (r ∷ roots) pad root same h at joined = absurd (omega (arith, same))
spans_more start next (p ∷ pads) [] pad root same h at joined = absurd (omega (arith, same))
spans_more start next (p ∷ pads) (r ∷ roots) pad root same h at joined =
    (h.0, (h.1.0, spans_more (r.base + r.len) next pads roots pad root (omega (arith, same)) h.1.1 at joined))

-- the last of a list that was popped
pub popped : {X : Type 0} (old new : List X) (result : Option X) (x : X) → old ≡ new ++ option_to_list result → result ≡ Some x → old ≡ new ++ x ∷ []
popped old new result x items is = items ∙ ap (λ o. new ++ option_to_list o) is

-- the same for the pads and mappings of a space
pub are_last : (start next : ℕ) (pads more_pads : List Interval) (roots more_roots : List Mapping) (pad : Interval) (root : Mapping)
    → more_pads ≡ pads ++ pad ∷ [] → more_roots ≡ roots ++ root ∷ [] → length more_pads ≡ length more_roots
    → Cover start (spans_of more_pads more_roots) next → AreLast start next pads roots pad root
are_last start next pads more_pads roots more_roots pad root ps rs same h =
    let n = ap length ps ∙ length-append pads (pad ∷ []) in
    let m = ap length rs ∙ length-append roots (root ∷ []) in
    spans_last start next pads roots pad root (omega (arith, n, m, same))
    (subst (λ (xs : List Interval). Cover start (spans_of xs (roots ++ root ∷ [])) next) ps (subst (λ (ys : List Mapping). Cover start (spans_of more_pads ys) next) rs h))

-- the same for what was popped
pub last_of : (start next : ℕ) (pads pads' : List Interval) (popped_pad : Option Interval) (pad : Interval) (roots roots' : List Mapping) (popped_root : Option Mapping) (root : Mapping)
    → length pads ≡ length roots → Cover start (spans_of pads roots) next
    → pads ≡ pads' ++ option_to_list popped_pad → popped_pad ≡ Some pad → roots ≡ roots' ++ option_to_list popped_root → popped_root ≡ Some root
    → AreLast start next pads' roots' pad root
last_of start next pads pads' popped_pad pad roots roots' popped_root root same h ps p rs r =
    are_last start next pads' pads roots' roots pad root (popped pads pads' popped_pad pad ps p) (popped roots roots' popped_root root rs r) same h

pub cover_at : (start start' next : ℕ) (pads pads' : List Interval) (roots roots' : List Mapping) → start ≡ start' → pads ≡ pads' → roots ≡ roots'
    → Cover start (spans_of pads roots) next → Cover start' (spans_of pads' roots') next
cover_at start start' next pads pads' roots roots' s p r h =
    subst (λ x. Cover x (spans_of pads' roots') next) s
    (subst (λ (xs : List Interval). Cover start (spans_of xs roots') next) p (subst (λ (xs : List Mapping). Cover start (spans_of pads xs) next) r h))

-- spans fill the addresses up to one address alone
pub cover_one : (start a b : ℕ) (spans : List Interval) → Cover start spans a → Cover start spans b → a ≡ b
cover_one start a b [] h g = sym h ∙ g
cover_one start a b (i ∷ spans) h g = cover_one (i.base + i.len) a b spans h.1 g.1

-- where the pad of a place begins, or the end where there is none
pub cover_take : (start next : ℕ) (n : ℕ) (pads : List Interval) (roots : List Mapping) → length pads ≡ length roots → Cover start (spans_of pads roots) next
    → Cover start (spans_of (take n pads) (take n roots)) (elim (slice_get pads n) [ None ↦ next | Some pad ↦ pad.base ])
cover_take start next n [] [] same h = cover_take_none n start next h
  where
    cover_take_none : (n start next : ℕ) → start ≡ next → Cover start (spans_of (take n []) (take n [])) next
    cover_take_none zero start next h = h
    cover_take_none (suc n) start next h = h
cover_take start next n [] (r ∷ roots) same h = absurd (omega (arith, same))
cover_take start next n (p ∷ pads) [] same h = absurd (omega (arith, same))
cover_take start next zero (p ∷ pads) (r ∷ roots) same h = sym h.0
cover_take start next (suc n) (p ∷ pads) (r ∷ roots) same h = (h.0, (h.1.0, cover_take (r.base + r.len) next n pads roots (omega (arith, same)) h.1.1))

-- memories of mappings that fill the addresses ascend
pub ascend_from_cover : (start next : ℕ) (pads : List Interval) (roots : List Mapping) (memories : List TaggedMemory) → length pads ≡ length roots → Cover start (spans_of pads roots) next
    → AllZip IsMemoryOf roots memories → (limit : ℕ) → next ≤ limit → Ascend start memories limit
ascend_from_cover start next [] [] [] same h are limit low = omega (arith, h, low)
ascend_from_cover start next pads [] (m ∷ memories) same h are limit low = absurd are
ascend_from_cover start next pads (r ∷ roots) [] same h are limit low = absurd are
ascend_from_cover start next (p ∷ pads) [] [] same h are limit low = absurd (omega (arith, same))
ascend_from_cover start next [] (r ∷ roots) (m ∷ memories) same h are limit low = absurd (omega (arith, same))
ascend_from_cover start next (p ∷ pads) (r ∷ roots) (m ∷ memories) same h are limit low = (
  omega (arith, h.0, h.1.0, are.0.0),
  subst (λ x. Ascend x memories limit) (omega (arith, are.0.0, are.0.1)) (ascend_from_cover (r.base + r.len) next pads roots memories (omega (arith, same)) h.1.1 are.1 limit low),
)

pub start_room : (start next : ℕ) (n : ℕ) (pads : List Interval) (roots : List Mapping) → length pads ≡ length roots → Cover start (spans_of pads roots) next
    → (limit : ℕ) → next ≤ limit → elim (slice_get pads n) [ None ↦ next | Some pad ↦ pad.base ] ≤ limit
start_room start next n [] roots same h limit low = low
start_room start next n (p ∷ pads) [] same h limit low = absurd (omega (arith, same))
start_room start next zero (p ∷ pads) (r ∷ roots) same h limit low = (let order = cover_order start next (spans_of (p ∷ pads) (r ∷ roots)) h in omega (arith, h.0, order, low))
start_room start next (suc n) (p ∷ pads) (r ∷ roots) same h limit low = start_room (r.base + r.len) next n pads roots (omega (arith, same)) h.1.1 limit low
