-- The keys of the defined names, as a loop over the names makes them.
use Rattle.std.proofs.Common.{◌≡◌, ℕ, ◌+◌, ◌<◌, ◌≤◌, List, [], ◌∷◌, ◌++◌, Bool, true, false, cond, length, drop, sym, ap, ◌∙◌, append_assoc, append-nil}
use Rattle.std.proofs.lemmas.List.{drop_more, drop_all}
use Rattle.cap_names.specs.declared.hashing.NameHash.{NameHash}
use Rattle.cap_names.specs.Named.{Named, is_defined_at}
use Rattle.cap_names.specs.Keys.{key_at, keys_from}

module _ (rule : NameHash) (names : List Named) (i : ℕ) (below : i < length names) where
  keys_more : keys_from rule i (drop i names) ≡ cond (is_defined_at names i) (key_at rule names i ∷ keys_from rule (i + 1) (drop (i + 1) names)) (keys_from rule (i + 1) (drop (i + 1) names))
  unfolding keys_from
  keys_more = ap (keys_from rule i) (drop_more names i ([], false) below)

  abbrev rest : List ℕ
  rest = keys_from rule (i + 1) (drop (i + 1) names)

  pub keys_taken : (keys more : List ℕ) (key : ℕ) → more ≡ keys ++ key ∷ [] → is_defined_at names i ≡ true → key ≡ key_at rule names i → more ++ keys_from rule (i + 1) (drop (i + 1) names) ≡ keys ++ keys_from rule i (drop i names)
  keys_taken keys more key grown defined is =
      ap (λ (xs : List ℕ). xs ++ rest) grown ∙ append_assoc keys (key ∷ []) _
      ∙ ap (λ (k : ℕ). keys ++ k ∷ rest) is
      ∙ ap (λ (b : Bool). keys ++ cond b (key_at rule names i ∷ rest) rest) (sym defined)
      ∙ ap (λ (xs : List ℕ). keys ++ xs) (sym keys_more)

  pub keys_skipped : (keys more : List ℕ) → more ≡ keys → is_defined_at names i ≡ false → more ++ keys_from rule (i + 1) (drop (i + 1) names) ≡ keys ++ keys_from rule i (drop i names)
  keys_skipped keys more same undefined =
      ap (λ (xs : List ℕ). xs ++ rest) same
      ∙ ap (λ (b : Bool). keys ++ cond b (key_at rule names i ∷ rest) rest) (sym undefined)
      ∙ ap (λ (xs : List ℕ). keys ++ xs) (sym keys_more)

pub keys_done : (rule : NameHash) (names : List Named) (i : ℕ) (keys total : List ℕ) → length names ≤ i → keys ++ keys_from rule i (drop i names) ≡ total → keys ≡ total
unfolding keys_from
keys_done rule names i keys total long h = sym (append-nil keys) ∙ ap (λ (xs : List Named). keys ++ keys_from rule i xs) (sym (drop_all i names long)) ∙ h
