-- Each call is that of a sentry.
use Rattle.std.proofs.Common.{◌≡◌, inl, inr, ℕ, Bool, cond, Option, Some, None, List, [], ◌∷◌, All, refl, sym, ap, ◌∙◌, subst}
use Rattle.std.specs.Prelude.{flat_map}
use Rattle.std.proofs.lemmas.Bool.{cases_Bool}
use Rattle.std.proofs.lemmas.List.Elements.{All-nil, All-cons, All-append}
use Rattle.cap_elf.specs.DynView.{DynRecords}
use Rattle.cap_mem.specs.Tagged.{TaggedMemory, TaggedWord, tagged_word}
use Rattle.cap_scope.specs.Chosen.{object_at}
use Rattle.cap_init.specs.declared.call.Call.{Call}
use Rattle.cap_init.specs.Calls.{array_granules, calls_in, calls_of, found_call, memory_at}
use Rattle.cap_init.specs.Laws.{IsCall}
use Rattle.cap_init.proofs.Found.{found_has}

all-flat_map : {X Y : Type 0} (P : Y → Type 0) (f : X → List Y) (xs : List X) → ((x : X) → All P (f x)) → All P (flat_map f xs)
all-flat_map P f [] each = All-nil P
all-flat_map P f (x ∷ xs) each = All-append P (f x) (flat_map f xs) (each x) (all-flat_map P f xs each)

abbrev chosen : ℕ → TaggedWord → Bool → List Call
chosen object w b = cond b (record { slot = w.granule; cursor = w.cap.cursor; object = object } ∷ []) []

module _ (memories : List TaggedMemory) where
  is_call : (object granule : ℕ) (found : Option TaggedWord) → tagged_word (memory_at memories object) granule ≡ found → All (IsCall memories) (found_call object found)
  is_call object granule None e = All-nil (IsCall memories)
  is_call object granule (Some w) e = elim (cases_Bool w.cap.sealed) [
    | inr open_word ↦ subst (λ (cs : List Call). All (IsCall memories) cs) (sym (ap (chosen object w) open_word)) (All-nil (IsCall memories))
    | inl sealed ↦
        let here : w.granule ≡ granule = (found_has (λ v. Unit {0}) granule w (memory_at memories object).words (λ k d lt. tt) e).1 in
        let one : IsCall memories (record { slot = w.granule; cursor = w.cap.cursor; object = object }) = record {
          word = w;
          tagged = ap (tagged_word (memory_at memories object)) here ∙ e;
          sealed = sealed;
          cursor = refl;
        } in
        subst (λ (cs : List Call). All (IsCall memories) cs) (sym (ap (chosen object w) sealed)) (All-cons (IsCall memories) _ [] one (All-nil (IsCall memories)))
  ]

  pub all_are_calls : (objects : List DynRecords) (order : List ℕ) → All (IsCall memories) (calls_of objects memories order)
  all_are_calls objects order =
      all-flat_map (IsCall memories) (λ i. calls_in i (object_at objects i) (memory_at memories i)) order
      (λ i. all-flat_map (IsCall memories) (λ g. found_call i (tagged_word (memory_at memories i) g)) (array_granules (object_at objects i) (memory_at memories i).base)
      (λ g. is_call i g (tagged_word (memory_at memories i) g) refl))
