-- Addresses and addends.
use Rattle.std.proofs.Common.{◌≡◌, ℕ, suc, ◌+◌, ◌-◌, ◌%◌, ◌^◌, ◌<◌, ◌≤◌, cond, Option, Some, None, refl, sym, ap, ◌∙◌, arith, ⊎_elim, FitsSigned}
use Rattle.std.specs.Prelude.{ℤ, pos, negsuc, ◌+ℤ◌, nat_abs, All, if◌then◌else◌}
use Rattle.std.specs.Option.{option_map, option_and_then}
use Rattle.std.specs.Int.{cast_unsigned, FitsUnsigned, is_negative, w64}
use Rattle.std.proofs.lemmas.Int.{ints}
use Rattle.std.proofs.lemmas.Bool.{cases_lt, le-ltb}
use Rattle.cap_layout.specs.IsPiece.{IsPiece}
use Rattle.cap_layout.specs.Pieces.{piece_at, piece_of, no_piece}
use Rattle.cap_layout.specs.Points.{Laid, wrapped, offset_of, place_address, address_of}
use Rattle.cap_layout.proofs.PointFound.{holds}

-- the sum, computed on numbers of 64 bits
pub wrapped_is : (a : ℕ) (z : ℤ) → a < 2 ^ 64 → FitsSigned w64 z → wrapped (pos a +ℤ z) ≡ (a + cast_unsigned w64 z) % 2 ^ 64
wrapped_is a (pos n) low fits = refl
wrapped_is a (negsuc n) low fits =
    let small : n < 2 ^ 63 = omega (arith, ints, fits) in
    ⊎_elim
    (λ (lt : n < a). let sum : pos a +ℤ negsuc n ≡ pos (a - suc n) = omega (arith, ints, lt) in ap wrapped sum ∙ omega (arith, lt, low, small))
    (λ (le : a ≤ n). let sum : pos a +ℤ negsuc n ≡ negsuc (n - a) = omega (arith, ints, le) in ap wrapped sum ∙ omega (arith, le, low, small))
    (cases_lt n a)

-- no piece holds so high an offset
far_piece : (laid : Laid) → All IsPiece laid.pieces.all → (file section offset : ℕ) → 2 ^ 64 ≤ offset → (o : Option ℕ) → piece_at laid.pieces.all file section offset ≡ o → None ≡ option_map (λ i. address_of laid i + (offset - (piece_of laid.pieces.all i).start)) o
far_piece laid sound file section offset high None is = refl
far_piece laid sound file section offset high (Some i) is =
    let held = holds laid.pieces.all file section offset i is in
    let piece : IsPiece (piece_of laid.pieces.all i) = sound i no_piece held.inside in
    absurd (omega (arith, high, held.end, piece.end_high))

far_place : (laid : Laid) → All IsPiece laid.pieces.all → (file section offset : ℕ) → 2 ^ 64 ≤ offset → None ≡ place_address laid file section offset
far_place laid sound file section offset high =
    far_piece laid sound file section offset high (piece_at laid.pieces.all file section offset) refl

beside : (laid : Laid) → All IsPiece laid.pieces.all → (file section : ℕ) (z : ℤ) → ¬ FitsUnsigned w64 z → None ≡ option_and_then (place_address laid file section) (if is_negative z then None else Some (nat_abs z))
beside laid sound file section (pos n) misfit =
    ⊎_elim
    (λ (lt : n < 2 ^ 64). absurd (misfit (omega (arith, ints), omega (arith, ints, lt))))
    (λ (high : 2 ^ 64 ≤ n). far_place laid sound file section n high ∙ ap (λ b. option_and_then (place_address laid file section) (cond b None (Some n))) (sym (le-ltb n 0 (omega arith))))
    (cases_lt n (2 ^ 64))
beside laid sound file section (negsuc n) misfit = refl

-- a sum that is not a number of 64 bits names no place
pub beside_none : (laid : Laid) → All IsPiece laid.pieces.all → (file section value : ℕ) (addend : ℤ) → ¬ FitsUnsigned w64 (pos value +ℤ addend) → None ≡ option_and_then (place_address laid file section) (offset_of value addend)
beside_none laid sound file section value addend misfit = beside laid sound file section (pos value +ℤ addend) misfit
