-- The digits of a slot.
use Rattle.std.proofs.Common.{◌≡◌, ◌≤◌, ◌<◌, ◌+◌, ◌*◌, ◌^◌, ℕ, suc, true, List, length, drop, codes, ap, sym, ◌∙◌, arith}
use Rattle.std.proofs.Math.Nat.{pow-le-pow_right, pow-suc}
use Rattle.std.specs.Prelude.{◌&&◌, nat_le, nat_lt, take}
use Rattle.std.specs.List.{list_all}
use Rattle.std.specs.Str.{bytes_eq}
use Rattle.std.proofs.lemmas.Bool.Decides.{nat_tests}
use Rattle.std.proofs.lemmas.List.{length-drop}
use Rattle.clap.proofs.WalkLemmas.{both}
use Rattle.purecap.specs.SlotWords.{is_hex_digit, is_slot}

-- digits stand behind `0x`, 16 at most
pub digits_of : (word : List ℕ) → is_slot word ≡ true → (list_all is_hex_digit (drop 2 word) ≡ true) × (length (drop 2 word) ≤ 16) × (2 ≤ length word)
unfolding is_slot
digits_of word is =
    let all = both (bytes_eq (take 2 word) (codes "0x") && nat_lt 2 (length word) && nat_le (length word) 18) (list_all is_hex_digit (drop 2 word)) is in
    let few = both (bytes_eq (take 2 word) (codes "0x") && nat_lt 2 (length word)) (nat_le (length word) 18) all.0 in
    let long : length word ≤ 18 = let h = few.1 in grind (arith, nat_tests) in
    let some : 2 < length word = let h = (both (bytes_eq (take 2 word) (codes "0x")) (nat_lt 2 (length word)) few.0).1 in grind (arith, nat_tests) in
    let count = length-drop 2 word in
    (all.1, omega arith, omega arith)

-- there is room for one digit more
pub room : (number i n : ℕ) → number < 16 ^ i → i < n → n ≤ 16 → 16 * number + 15 < 2 ^ 64
room number i n small below few = let most = pow-le-pow_right {n = 16} (omega arith) {i = i} {j = 15} (omega arith) in omega arith

pub grows : (number i digit : ℕ) → number < 16 ^ i → digit < 16 → 16 * number + digit < 16 ^ (i + 1)
grows number i digit small low = let next : suc i ≡ i + 1 = omega arith in let more : 16 ^ (i + 1) ≡ 16 ^ i * 16 = ap (λ (n : ℕ). 16 ^ n) (sym next) ∙ pow-suc 16 i in omega arith
