-- What the lists and the scan name is tagged, and inside.
use Rattle.std.proofs.Common.{◌≡◌, ℕ, Bool, true, false, List, [], ◌∷◌, cond, refl, ap, ◌∙◌, arith, ⊎_elim, subst}
use Rattle.std.specs.Prelude.{filter, find, Option, Some, None, is_some, IfSome}
use Rattle.std.proofs.lemmas.Bool.Decides.{eqb_tells}
use Rattle.cap_mem.specs.Tagged.{TaggedMemory, TaggedWord, IsTaggedGranule, stands_at, is_tagged, is_of, list_of, first_granule, granule_after, next_in, next_granule, tagged_word}
use Rattle.cap_mem.specs.declared.memory.Memory.TheInside.{Inside}
use Rattle.cap_mem.specs.MemoryFields.{memory_of, AreTables}
use Rattle.cap_mem.proofs.Chains.{Yes, No}
use Rattle.cap_mem.proofs.Granules.{eq_yes, tagged_granule}

abbrev any_at : ℕ → List TaggedWord → Bool
any_at a ws = is_some (find (stands_at a) ws)

-- a word of a filtered list is a word of the list
any_filter : (p : TaggedWord → Bool) (a : ℕ) (ws : List TaggedWord) → any_at a (filter p ws) ≡ true → any_at a ws ≡ true
any_filter p a [] h = h
any_filter p a (w ∷ ws) h = ⊎_elim
    (λ (q : Yes w.granule a). rw q.0 refl)
    (λ (q : No w.granule a). rw q.0 (any_filter p a ws (skipped (p w) q.0 h)))
    (eqb_tells w.granule a)
  where
    skipped : (b : Bool) → stands_at a w ≡ false → any_at a (cond b (w ∷ filter p ws) (filter p ws)) ≡ true → any_at a (filter p ws) ≡ true
    skipped true e t = rw e at t
    skipped false e t = t

first_any : (ws : List TaggedWord) (g : ℕ) → first_granule ws ≡ Some g → any_at g ws ≡ true
first_any [] g h = absurd (cc)
first_any (w ∷ ws) g h = let same : w.granule ≡ g = cc in rw (eq_yes w.granule g same) refl

after_any : (a : ℕ) (ws : List TaggedWord) (g : ℕ) → granule_after a ws ≡ Some g → any_at g ws ≡ true
after_any a [] g h = absurd (cc)
after_any a (w ∷ ws) g h = ⊎_elim
    (λ (q : Yes w.granule g). rw q.0 refl)
    (λ (q : No w.granule g). rw q.0 (⊎_elim
    (λ (k : Yes w.granule a). first_any ws g (rw k.0 at h))
    (λ (k : No w.granule a). after_any a ws g (rw k.0 at h))
    (eqb_tells w.granule a)))
    (eqb_tells w.granule g)

pub first_tags : (v : TaggedMemory) (o g : ℕ) → first_granule (list_of v o) ≡ Some g → is_tagged v g ≡ true
first_tags v o g h = any_filter (is_of o) g v.words (first_any (list_of v o) g h)

next_tags_in : (v : TaggedMemory) (a g : ℕ) (found : Option TaggedWord) → next_in v a found ≡ Some g → is_tagged v g ≡ true
next_tags_in v a g None h = absurd (cc)
next_tags_in v a g (Some w) h = any_filter (is_of w.cap.owner) g v.words (after_any a (list_of v w.cap.owner) g h)

pub next_tags : (v : TaggedMemory) (a g : ℕ) → next_granule v a ≡ Some g → is_tagged v g ≡ true
next_tags v a g h = next_tags_in v a g (tagged_word v a) h

granule_inside : (m : Inside) → AreTables m → (a : ℕ) → is_tagged (memory_of m) a ≡ true → IsTaggedGranule (memory_of m) a
granule_inside m i a h =
    let f = tagged_granule m (memory_of m) a refl h in
    record {
      tagged = h;
      aligned = omega (arith, i.aligned, f.is);
      inside = record { from = omega (arith, f.is); to = omega (arith, f.is, f.below, i.bytes_len) };
    }

pub granule_of_tag : (m : Inside) → AreTables m → (v : TaggedMemory) (a : ℕ) → memory_of m ≡ v → is_tagged v a ≡ true → IsTaggedGranule v a
granule_of_tag m i v a e h =
    subst (λ (w : TaggedMemory). IsTaggedGranule w a) e (granule_inside m i a (ap (λ (w : TaggedMemory). is_tagged w a) e ∙ h))

pub if_some : (r : Option ℕ) (P : ℕ → Type 0) → ((g : ℕ) → r ≡ Some g → P g) → IfSome r P
if_some None P h = tt
if_some (Some g) P h = h g refl
