-- Numbers and lists of lines.
use Rattle.std.specs.List.{flat_map}
use Rattle.std.specs.Fmt.{digit_glyph}
use Rattle.std.proofs.Common.{◌≡◌, ℕ, zero, suc, ◌+◌, ◌-◌, ◌/◌, ◌%◌, ◌<◌, ◌≤◌, List, [], ◌∷◌, ◌++◌, length, get_or, take, false, sym, ap, ◌∙◌, append_assoc, append-nil, arith}
use Rattle.std.proofs.lemmas.List.{take_more}
use Rattle.std.proofs.lemmas.Grind.{flat_map-append}
use Rattle.cap_image.specs.Report.{hex}

-- no digit
pub no_digit : (text : List ℕ) (k n : ℕ) → k ≤ 0 → text ++ hex k n ≡ text
unfolding hex
no_digit text zero n h = append-nil text
no_digit text (suc k) n h = absurd (omega (arith, h))

-- the last digit, behind those before it
pub last_digit : (text : List ℕ) (k n : ℕ) → 0 < k → text ++ hex k n ≡ (text ++ hex (k - 1) (n / 16)) ++ digit_glyph false (n % 16) ∷ []
unfolding hex
last_digit text zero n h = absurd (omega (arith, h))
last_digit text (suc k) n h =
    let same : k ≡ suc k - 1 = omega arith in
    ap (λ (j : ℕ). text ++ (hex j (n / 16) ++ digit_glyph false (n % 16) ∷ [])) same ∙ sym (append_assoc text _ _)

-- what one more item gives, behind what the items before it give
pub flat_map_more : {X A : Type 0} (f : X → List A) (xs : List X) (i : ℕ) (d : X) → i < length xs → flat_map f (take (i + 1) xs) ≡ flat_map f (take i xs) ++ f (get_or xs i d)
flat_map_more f xs i d lt = ap (flat_map f) (take_more xs i d lt) ∙ flat_map-append f (take i xs) (get_or xs i d ∷ []) ∙ ap (λ ys. flat_map f (take i xs) ++ ys) (append-nil (f (get_or xs i d)))
