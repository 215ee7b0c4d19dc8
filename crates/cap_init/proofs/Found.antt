-- What is found at a granule, and whether it is a sentry.
use Rattle.std.proofs.Common.{◌≡◌, inl, inr, ℕ, ◌-◌, Bool, true, false, cond, Option, Some, None, List, [], ◌∷◌, All, refl, sym, ap, ◌∙◌, subst}
use Rattle.std.specs.Prelude.{nat_eq, find, is_some}
use Rattle.std.proofs.lemmas.Bool.{cases_Bool, eqb-true, ne_eqb, true≢false}
use Rattle.std.proofs.lemmas.List.Elements.{All-head, All-tail}
use Rattle.cap_conc.specs.declared.word.Fields.{Fields}
use Rattle.cap_conc.specs.Computed.{fields_of}
use Rattle.cap_mem.specs.Held.{cap_in, fields_in}
use Rattle.cap_mem.specs.IsMemory.{IsHeld, IsMemory}
use Rattle.cap_mem.specs.Tagged.{TaggedMemory, TaggedWord, is_tagged, stands_at, tagged_word, word_in}
use Rattle.cap_init.specs.declared.call.Call.{Call}
use Rattle.cap_init.specs.Calls.{found_call}

-- what is found there, and holds of all
pub found_has : (P : TaggedWord → Type 0) (granule : ℕ) (w : TaggedWord) (words : List TaggedWord) → All P words → find (stands_at granule) words ≡ Some w → P w × (w.granule ≡ granule)
found_has P granule w [] all found = absurd (cc)
found_has P granule w (v ∷ words) all found = elim (cases_Bool (stands_at granule v)) [
  | inl here ↦
      let is : v ≡ w = (let e : Some v ≡ Some w = sym (ap (λ b. cond b (Some v) (find (stands_at granule) words)) here) ∙ found in cc) in
      (subst P is (All-head P v words all), ap (λ v. v.granule) (sym is) ∙ eqb-true v.granule granule here)
  | inr there ↦ found_has P granule w words (All-tail P v words all) (sym (ap (λ b. cond b (Some v) (find (stands_at granule) words)) there) ∙ found)
]

pub found_none : (memory : TaggedMemory) (granule object : ℕ) → is_tagged memory granule ≡ false → found_call object (tagged_word memory granule) ≡ []
found_none memory granule object untagged = none (tagged_word memory granule) untagged
  where
    none : (found : Option TaggedWord) → is_some found ≡ false → found_call object found ≡ []
    none None h = refl
    none (Some w) h = absurd (true≢false h)

-- the fields at a tagged granule are those of its word's capability
module _ (memory : TaggedMemory) (sound : IsMemory memory) (granule object : ℕ) (fields : Fields) (fields_are : fields ≡ fields_of (word_in memory.bytes (granule - memory.base))) where
  decoded : (w : TaggedWord) → tagged_word memory granule ≡ Some w → (w.cap.sealed ≡ nat_eq fields.otype 262142) × (w.cap.cursor ≡ fields.cursor) × (w.granule ≡ granule)
  unfolding fields_in
  decoded w found =
      let has = found_has (IsHeld memory) granule w memory.words sound.held found in
      let at : cap_in memory.bytes (granule - memory.base) w.cap.owner ≡ w.cap = ap (λ g. cap_in memory.bytes (g - memory.base) w.cap.owner) (sym has.1) ∙ has.0.decodes in
      (sym (ap (λ c. c.sealed) at) ∙ ap (λ f. nat_eq f.otype 262142) (sym fields_are), sym (ap (λ c. c.cursor) at) ∙ ap (λ f. f.cursor) (sym fields_are), has.1)

  abbrev called : Bool → List Call
  called b = cond b (record { slot = granule; cursor = fields.cursor; object = object } ∷ []) []

  found_is : (found : Option TaggedWord) → tagged_word memory granule ≡ found → is_some found ≡ true → found_call object found ≡ called (nat_eq fields.otype 262142)
  found_is None e h = absurd (true≢false (sym h))
  found_is (Some w) e h =
      let d = decoded w e in
      ap (λ b. cond b (record { slot = w.granule; cursor = w.cap.cursor; object = object } ∷ []) []) d.0
      ∙ ap (λ c. cond (nat_eq fields.otype 262142) (record { slot = w.granule; cursor = c; object = object } ∷ []) []) d.1
      ∙ ap (λ g. cond (nat_eq fields.otype 262142) (record { slot = g; cursor = fields.cursor; object = object } ∷ []) []) d.2

  pub found_sentry : is_tagged memory granule ≡ true → nat_eq fields.otype 262142 ≡ true → found_call object (tagged_word memory granule) ≡ record { slot = granule; cursor = fields.cursor; object = object } ∷ []
  found_sentry tagged sentry = found_is (tagged_word memory granule) refl tagged ∙ ap called sentry

  pub found_other : is_tagged memory granule ≡ true → (fields.otype ≡ 262142 → ⊥) → found_call object (tagged_word memory granule) ≡ []
  found_other tagged other = found_is (tagged_word memory granule) refl tagged ∙ ap called (ne_eqb fields.otype 262142 other)
