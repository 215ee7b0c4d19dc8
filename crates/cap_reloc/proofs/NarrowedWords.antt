-- The words of memory are the capabilities of the pairs.
use Rattle.std.proofs.Common.{◌≡◌, ℕ, zero, suc, ◌<◌, ⊎_elim, Bool, true, false, List, [], ◌∷◌, ◌++◌, length, get_or, filter, Option, Some, None, arith}
use Rattle.std.specs.Prelude.{⊤, All, IsSomeAnd, slice_get, flat_map}
use Rattle.std.proofs.lemmas.Bool.{cases_Bool}
use Rattle.cap_own.specs.Cap.{Mapping, Narrowed}
use Rattle.cap_base.specs.Lists.{numbers_between}
use Rattle.cap_mem.specs.Tagged.{TaggedMemory, TaggedWord, is_of, by_owner}
use Rattle.cap_reloc.specs.Wanted.{Pair, Content, Number, Untagged, Tagged}
use Rattle.cap_reloc.specs.Stored.{tagged_pairs, with_pairs}
use Rattle.cap_reloc.specs.Binding.{AreNarrowed}
use Rattle.cap_reloc.specs.Planned.{IsNarrowedIn}

abbrev Each : {X : Type 0} → (X → Type 0) → List X → Type 0
Each P [] = ⊤
Each P (x ∷ xs) = P x × Each P xs

to_all : {X : Type 0} (P : X → Type 0) (xs : List X) → Each P xs → All P xs
to_all P [] each = λ k d lt. absurd (omega (arith, lt))
to_all {X} P (x ∷ xs) each = go (to_all P xs each.1)
  where
    go : All P xs → (k : ℕ) (d : X) → k < length (x ∷ xs) → P (get_or (x ∷ xs) k d)
    go rest zero d lt = each.0
    go rest (suc k) d lt = rest k d (omega (arith, lt))

each_append : {X : Type 0} (P : X → Type 0) (xs ys : List X) → Each P xs → Each P ys → Each P (xs ++ ys)
each_append P [] ys h k = k
each_append P (x ∷ xs) ys h k = (h.0, each_append P xs ys h.1 k)

each_filter : {X : Type 0} (P : X → Type 0) (p : X → Bool) (xs : List X) → Each P xs → Each P (filter p xs)
each_filter P p [] h = tt
each_filter P p (x ∷ xs) h =
    let rest : Each P (filter p xs) = each_filter P p xs h.1 in
    ⊎_elim (λ (e : p x ≡ true). rw e (h.0, rest)) (λ (e : p x ≡ false). rw e rest) (cases_Bool (p x))

each_flat : {X Y : Type 0} (P : Y → Type 0) (f : X → List Y) (xs : List X) → ((x : X) → Each P (f x)) → Each P (flat_map f xs)
each_flat P f [] h = tt
each_flat P f (x ∷ xs) h = each_append P (f x) (flat_map f xs) (h x) (each_flat P f xs h)

some_then : {X : Type 0} (P Q : X → Type 0) (o : Option X) → IsSomeAnd o P → ((x : X) → P x → Q x) → IsSomeAnd o Q
some_then P Q (Some x) h f = f x h
some_then P Q None h f = absurd h

abbrev IsNarrowedWord : List Mapping → TaggedWord → Type 0
IsNarrowedWord roots w = IsSomeAnd (slice_get roots w.cap.owner) (λ root. Narrowed root w.cap)

pairs_narrowed : (roots : List Mapping) (pairs : List Pair) → All (λ p. IsNarrowedIn roots p.content) pairs → Each (IsNarrowedWord roots) (tagged_pairs pairs)
pairs_narrowed roots [] all = tt
pairs_narrowed roots (p ∷ pairs) all = go (pairs_narrowed roots pairs (λ k d lt. all (suc k) d (omega (arith, lt)))) p.content (all zero p (omega arith))
  where
    go : Each (IsNarrowedWord roots) (tagged_pairs pairs) → (content : Content) → IsNarrowedIn roots content → Each (IsNarrowedWord roots) (tagged_pairs (record { slot = p.slot; content = content } ∷ pairs))
    go rest (Number n) h = rest
    go rest (Untagged n) h = rest
    go rest (Tagged c note) h = (some_then _ (λ root. Narrowed root c) (slice_get roots c.owner) h (λ root grant. grant.narrowed), rest)

pub words_narrowed : (roots : List Mapping) (pairs : List Pair) (memory : TaggedMemory) → All (λ p. IsNarrowedIn roots p.content) pairs → AreNarrowed roots (with_pairs pairs memory)
words_narrowed roots pairs memory all =
    to_all (IsNarrowedWord roots) (by_owner (tagged_pairs pairs))
    (each_flat (IsNarrowedWord roots) (λ owner. filter (is_of owner) (tagged_pairs pairs)) (numbers_between 0 256) (λ owner. each_filter (IsNarrowedWord roots) (is_of owner) (tagged_pairs pairs) (pairs_narrowed roots pairs all)))
