-- A number's digits have no slash, and a path that is pushed to nothing is the whole.
use Rattle.std.proofs.Common.{◌≡◌, refl, ℕ, ◌<◌, ◌^◌, List, [], ◌∷◌, Bool, true, false, arith, cond}
use Rattle.std.specs.Prelude.{decimal, slice_index, ◌==◌}
use Rattle.std.specs.Path.{slash, path_join, HasNoSlash}
use Rattle.std.specs.Str.Parse.{AllDigits}
use Rattle.std.proofs.lemmas.Bool.{ne_eqb}
use Rattle.std.proofs.lemmas.Str.Parse.{digit_from_value}
use Rattle.std.proofs.lemmas.Fmt.{decimal_is_IsNumeral}

no_slash_digits : (bs : List ℕ) → AllDigits 10 bs → HasNoSlash bs
no_slash_digits [] digits = tt
no_slash_digits (b ∷ bs) digits =
    let range = digit_from_value b digits.0 in
    rw (ne_eqb b slash (λ e. omega (arith, e, range))) (no_slash_digits bs digits.1)

pub no_slash_decimal : (n : ℕ) → n < 2 ^ 64 → HasNoSlash (decimal n)
no_slash_decimal n fits = no_slash_digits (decimal n) (decimal_is_IsNumeral n fits).0.1

either_way : (b : Bool) (path : List ℕ) → cond b path path ≡ path
either_way true path = refl
either_way false path = refl

pub join_nothing : (path : List ℕ) → path_join [] path ≡ path
unfolding path_join
join_nothing path = either_way (slice_index path 0 == slash) path
