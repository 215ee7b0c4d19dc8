-- The first byte that passes a test, as a search answers it.
use Rattle.std.proofs.Common.{◌≡◌, ℕ, Bool, true, false, cond, List, length, get_or, Option, Some, None, refl, sym, ap, ◌∙◌, arith}
use Rattle.std.specs.Prelude.{nat_lt, position}
use Rattle.std.specs.List.{position_or_len}
use Rattle.std.proofs.lemmas.Bool.{lt-ltb, le-ltb}
use Rattle.std.proofs.lemmas.List.Sums.{position_or_len_is}
use Rattle.memchr.specs.Find.{IsFirstByte}

fails : (b : Bool) → (b ≡ true → ⊥) → b ≡ false
fails true never = absurd (never refl)
fails false never = refl

-- what `position` gives, where the first place is known
at_place : (p : ℕ → Bool) (bytes : List ℕ) (i : ℕ) (b : Bool) → position_or_len p bytes ≡ i → nat_lt i (length bytes) ≡ b → position p bytes ≡ cond b (Some i) None
at_place p bytes i b place e = ap (λ n. cond (nat_lt n (length bytes)) (Some n) None) place ∙ ap (λ t. cond t (Some i) None) e

-- it is what `position` gives
pub first_is : (p : ℕ → Bool) (bytes : List ℕ) (r : Option ℕ) → IsFirstByte p bytes r → r ≡ position p bytes
first_is p bytes None nowhere =
    let place = position_or_len_is p bytes (length bytes) 0 (omega arith) (λ k lt. fails (p (get_or bytes k 0)) (nowhere k (omega arith) lt)) (λ lt. absurd (omega (arith, lt))) in
    sym (at_place p bytes (length bytes) false place (le-ltb (length bytes) (length bytes) (omega arith)))
first_is p bytes (Some i) found =
    let place = position_or_len_is p bytes i 0 (omega (arith, found.0.high)) (λ k lt. fails (p (get_or bytes k 0)) (found.0.before k (omega arith) lt)) (λ lt. found.1) in
    sym (at_place p bytes i true place (lt-ltb i (length bytes) found.0.high))
