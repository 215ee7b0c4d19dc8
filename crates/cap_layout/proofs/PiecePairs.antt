-- Neighbouring marks.
use Rattle.std.proofs.Common.{◌≡◌, ℕ, zero, suc, ◌+◌, ◌-◌, ◌<◌, ◌≤◌, List, [], ◌∷◌, ◌++◌, length, get_or, take, drop, refl, sym, ap, ◌∙◌, arith}
use Rattle.std.specs.Prelude.{map, zip}
use Rattle.std.proofs.lemmas.List.{map-append, append_assoc}

abbrev pub pairs : List ℕ → List (ℕ × ℕ)
pairs ms = zip ms (drop 1 ms)

pub pairs-more : (ms : List ℕ) (j : ℕ) → j + 1 < length ms → take (j + 1) (pairs ms) ≡ take j (pairs ms) ++ (get_or ms j 0, get_or ms (j + 1) 0) ∷ []
pairs-more [] j lt = absurd (omega arith)
pairs-more (x ∷ []) j lt = absurd (omega arith)
pairs-more (x ∷ y ∷ ms) zero lt =
    refl
pairs-more (x ∷ y ∷ ms) (suc j) lt =
    let more : suc j + 1 ≡ suc (j + 1) = omega arith in
    ap (λ n. take n (pairs (x ∷ y ∷ ms))) more ∙ ap (λ ps. (x, y) ∷ ps) (pairs-more (y ∷ ms) j (omega arith))
    ∙ ap (λ n. take (suc j) (pairs (x ∷ y ∷ ms)) ++ (get_or (x ∷ y ∷ ms) (suc j) 0, get_or (x ∷ y ∷ ms) n 0) ∷ []) (sym more)

pub pairs-all : (ms : List ℕ) (j : ℕ) → length ms ≤ j + 1 → take j (pairs ms) ≡ pairs ms
pairs-all [] zero le = refl
pairs-all [] (suc j) le = refl
pairs-all (x ∷ []) zero le = refl
pairs-all (x ∷ []) (suc j) le = refl
pairs-all (x ∷ y ∷ ms) zero le = absurd (omega arith)
pairs-all (x ∷ y ∷ ms) (suc j) le = ap (λ ps. (x, y) ∷ ps) (pairs-all (y ∷ ms) j (omega arith))

-- one more piece between two marks
pub mapped-more : {X : Type 0} (f : ℕ × ℕ → X) (ms : List ℕ) (i : ℕ) (old now new : List X) (x : X) → 1 ≤ i → i < length ms → x ≡ f (get_or ms (i - 1) 0, get_or ms i 0) → new ≡ now ++ x ∷ [] → now ≡ old ++ map f (take (i - 1) (pairs ms)) → new ≡ old ++ map f (take (i + 1 - 1) (pairs ms))
mapped-more f ms i old now new x low lt is step so_far =
    let back : i - 1 + 1 ≡ i = omega arith in
    let same : i + 1 - 1 ≡ i - 1 + 1 = omega arith in
    let more : take (i - 1 + 1) (pairs ms) ≡ take (i - 1) (pairs ms) ++ (get_or ms (i - 1) 0, get_or ms i 0) ∷ [] =
    pairs-more ms (i - 1) (omega arith) ∙ ap (λ k. take (i - 1) (pairs ms) ++ (get_or ms (i - 1) 0, get_or ms k 0) ∷ []) back in
    rw (step, so_far, is, same, more, map-append, append_assoc) refl
