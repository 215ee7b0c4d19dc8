-- Draws one after the other.
use Rattle.std.proofs.Common.{◌≡◌, ℕ, zero, suc, ◌+◌, ◌-◌, ◌≤◌, ◌<◌, List, [], ◌∷◌, ◌++◌, length, refl, sym, ap, ◌∙◌, arith, append_assoc, append-nil}
use Rattle.cap_demo.specs.Numbers.{next, drawn, after, draws}

-- no draw yet
pub draws_first : (count state : ℕ) → draws (count - 0) state ≡ draws count state
draws_first count state = let whole : count - 0 ≡ count = omega arith in ap (λ n. draws n state) whole

pub after_first : (count state : ℕ) → after (count - 0) state ≡ after count state
after_first count state = let whole : count - 0 ≡ count = omega arith in ap (λ n. after n state) whole

-- one more draw
pub draws_more : (count i state behind value : ℕ) (values more total : List ℕ) → i < count → value ≡ drawn state → behind ≡ next state → more ≡ values ++ value ∷ [] → values ++ draws (count - i) state ≡ total → more ++ draws (count - (i + 1)) behind ≡ total
unfolding draws
draws_more count i state behind value values pushed total lt ev eb ep so_far =
    let more : count - i ≡ suc (count - (i + 1)) = omega (arith, lt) in
    let rest = draws (count - (i + 1)) (next state) in
    ap (λ s. pushed ++ draws (count - (i + 1)) s) eb
    ∙ ap (λ vs. vs ++ rest) ep
    ∙ ap (λ v. values ++ v ∷ [] ++ rest) ev
    ∙ append_assoc values (drawn state ∷ []) rest
    ∙ sym (ap (λ n. values ++ draws n state) more)
    ∙ so_far

pub after_more : (count i state behind total : ℕ) → i < count → behind ≡ next state → after (count - i) state ≡ total → after (count - (i + 1)) behind ≡ total
unfolding after
after_more count i state behind total lt eb so_far =
    let more : count - i ≡ suc (count - (i + 1)) = omega (arith, lt) in
    ap (after (count - (i + 1))) eb ∙ sym (ap (λ n. after n state) more) ∙ so_far

-- no draw is left
pub draws_done : (count i state : ℕ) (values total : List ℕ) → count ≤ i → values ++ draws (count - i) state ≡ total → values ≡ total
unfolding draws
draws_done count i state values total le so_far =
    let none : count - i ≡ zero = omega (arith, le) in
    sym (append-nil values) ∙ sym (ap (λ n. values ++ draws n state) none) ∙ so_far

pub after_done : (count i state total : ℕ) → count ≤ i → after (count - i) state ≡ total → state ≡ total
unfolding after
after_done count i state total le so_far =
    let none : count - i ≡ zero = omega (arith, le) in
    sym (ap (λ n. after n state) none) ∙ so_far

pub length_draws : (count state : ℕ) → length (draws count state) ≡ count
unfolding draws
length_draws zero state = refl
length_draws (suc count) state = ap suc (length_draws count (next state))

after_next : (count state : ℕ) → after (suc count) state ≡ next (after count state)
unfolding after
after_next zero state = refl
after_next (suc count) state = after_next count (next state)

after_both : (m n state : ℕ) → after n (after m state) ≡ after (m + n) state
unfolding after
after_both zero n state = let same : n ≡ zero + n = omega arith in ap (λ k. after k state) same
after_both (suc m) n state =
    let same : suc (m + n) ≡ suc m + n = omega arith in
    after_both m n (next state) ∙ ap (λ k. after k state) same

-- the state behind the draws for targets, and behind all draws of an object
pub targets_state : (state last : ℕ) → last ≡ next (after 64 state) → last ≡ after 65 state
targets_state state last e = e ∙ sym (after_next 64 state)

pub object_state : (state middle last : ℕ) → middle ≡ after 64 state → last ≡ after 65 middle → last ≡ after 129 state
object_state state middle last em el = el ∙ ap (after 65) em ∙ after_both 64 65 state
