-- Stubs written one after the other, a word at a time.
use Rattle.std.proofs.Common.{◌≡◌, ℕ, ◌+◌, ◌*◌, ◌<◌, ◌≤◌, List, [], ◌∷◌, ◌++◌, length, get_or, take, drop, refl, sym, ap, ◌∙◌, append_assoc, arith, length-append}
use Rattle.std.specs.List.{flat_map}
use Rattle.std.proofs.lemmas.List.{take_at, take_all, take_more, length-take-le}
use Rattle.std.proofs.lemmas.List.Concat.{flat_map-append}
use Rattle.cap_base.specs.Field.{number_bytes}
use Rattle.cap_table.specs.Bodies.{put}

-- what was written up to the end of a part
pub put_next : (bytes part : List ℕ) (at n : ℕ) → length part ≡ n → at + n ≤ length bytes → take (at + n) (put bytes at part) ≡ take at bytes ++ part
put_next bytes part at n long inside =
    let front : length (take at bytes) ≡ at = length-take-le at bytes (omega arith) in
    let whole : length (take at bytes ++ part) ≡ at + n = length-append (take at bytes) part ∙ ap (λ k. k + length part) front ∙ ap (λ k. at + k) long in
    take_at (take at bytes ++ part) (drop (at + length part) bytes) (at + n) whole

-- four words, one after the other
pub four_words : (a b c d e : List ℕ) (at p q r s : ℕ) → take (at + 4) b ≡ take at a ++ number_bytes 4 p → take (at + 4 + 4) c ≡ take (at + 4) b ++ number_bytes 4 q → take (at + 8 + 4) d ≡ take (at + 8) c ++ number_bytes 4 r → take (at + 12 + 4) e ≡ take (at + 12) d ++ number_bytes 4 s
    → take (at + 16) e ≡ take at a ++ flat_map (number_bytes 4) (p ∷ q ∷ r ∷ s ∷ [])
four_words a b c d e at p q r s first second third fourth =
    let eight : at + 8 ≡ at + 4 + 4 = omega arith in
    let twelve : at + 12 ≡ at + 8 + 4 = omega arith in
    let sixteen : at + 16 ≡ at + 12 + 4 = omega arith in
    ap (λ n. take n e) sixteen
    ∙ fourth
    ∙ ap (λ n. take n d ++ number_bytes 4 s) twelve
    ∙ ap (λ xs. xs ++ number_bytes 4 s) third
    ∙ ap (λ n. take n c ++ number_bytes 4 r ++ number_bytes 4 s) eight
    ∙ ap (λ xs. xs ++ number_bytes 4 r ++ number_bytes 4 s) second
    ∙ ap (λ xs. xs ++ number_bytes 4 q ++ number_bytes 4 r ++ number_bytes 4 s) first
    ∙ append_assoc (take at a ++ number_bytes 4 p ++ number_bytes 4 q) (number_bytes 4 r) (number_bytes 4 s)
    ∙ append_assoc (take at a ++ number_bytes 4 p) (number_bytes 4 q) (number_bytes 4 r ++ number_bytes 4 s)
    ∙ append_assoc (take at a) (number_bytes 4 p) (number_bytes 4 q ++ (number_bytes 4 r ++ number_bytes 4 s))

-- one more stub
pub one_more : {X : Type 0} (f : X → List ℕ) (xs : List X) (k : ℕ) (d : X) (a b : List ℕ) → k < length xs → take (16 * k + 16) b ≡ take (16 * k) a ++ f (get_or xs k d) → take (16 * k) a ≡ flat_map f (take k xs) → take (16 * (k + 1)) b ≡ flat_map f (take (k + 1) xs)
one_more f xs k d a b lt e so_far =
    let next : 16 * (k + 1) ≡ 16 * k + 16 = omega arith in
    ap (λ n. take n b) next
    ∙ e
    ∙ ap (λ ys. ys ++ f (get_or xs k d)) so_far
    ∙ ap (λ ys. flat_map f (take k xs) ++ ys) (alone (f (get_or xs k d)))
    ∙ sym (ap (flat_map f) (take_more xs k d lt) ∙ flat_map-append f (take k xs) (get_or xs k d ∷ []))
  where
    alone : (ys : List ℕ) → ys ≡ ys ++ []
    alone [] = refl
    alone (y ∷ ys) = ap (λ zs. y ∷ zs) (alone ys)

-- all stubs
pub all_stubs : {X : Type 0} (f : X → List ℕ) (xs : List X) (k : ℕ) (b : List ℕ) → length xs ≤ k → length b ≤ 16 * k → take (16 * k) b ≡ flat_map f (take k xs) → b ≡ flat_map f xs
all_stubs f xs k b le long so_far = sym (take_all (16 * k) b long) ∙ so_far ∙ ap (flat_map f) (take_all k xs le)
