-- Intervals that each stand at or behind the end of the one before.
use Rattle.std.proofs.Common.{◌≡◌, ℕ, ◌+◌, ◌<◌, ◌≤◌, Bool, true, false, ◌||◌, ⊎_elim, List, [], ◌∷◌, ◌++◌, length, get_or, refl, sym, ap, ◌∙◌, arith}
use Rattle.std.specs.Prelude.{All}
use Rattle.std.specs.List.{list_any, AllPairs, AllWithin}
use Rattle.std.specs.List.Sorted.{IsNonDecreasingBy}
use Rattle.std.proofs.lemmas.Bool.{cases_lt, cases_Bool}
use Rattle.std.proofs.lemmas.List.{get_or_default}
use Rattle.std.proofs.lemmas.List.Folds.{list_any_at, list_any_none, list_any-append}
use Rattle.cap_intervals.specs.declared.interval.Interval.{Interval}
use Rattle.cap_intervals.specs.Clash.{clash}
use Rattle.cap_intervals.proofs.Ends.{clash_apart, low}

abbrev pub AreSolid : List Interval → Type 0
AreSolid xs = All (λ y. y.start < y.end) xs

abbrev pub Rise : List Interval → Type 0
Rise xs = AllPairs (λ y z. y.end ≤ z.start) xs

abbrev pub End : ℕ → List Interval → Type 0
End top xs = All (λ y. y.end ≤ top) xs

pub starts_rise : (xs : List Interval) → AreSolid xs → Rise xs → IsNonDecreasingBy (λ (y : Interval). y.start) xs
starts_rise xs solid rise i j d le bound =
    ⊎_elim
    (λ (lt : i < j). let one = solid i d (omega arith) in let two = rise i j d lt bound in omega (arith, one, two))
    (λ (ge : j ≤ i). let same : i ≡ j = omega arith in let e = ap (λ k. (get_or xs k d).start) same in omega (arith, e))
    (cases_lt i j)

-- ---- a look-up
-- at or behind the top
pub none_behind : (xs : List Interval) (top : ℕ) → End top xs → (aliases : Bool) (x : Interval) → top ≤ x.start → list_any (clash aliases x) xs ≡ false
none_behind xs top ends aliases x le =
    list_any_none (clash aliases x) xs (λ k d lt. let h = ends k d lt in clash_apart aliases x _ (omega (arith, h)))

-- an interval without numbers clashes with none
pub empty_behind : (xs : List Interval) (aliases : Bool) (x : Interval) → x.end ≤ x.start → list_any (clash aliases x) xs ≡ false
empty_behind xs aliases x le = list_any_none (clash aliases x) xs (λ k d lt. clash_apart aliases x _ (omega arith))

-- where none starts before the end
pub none_starts : (xs : List Interval) (aliases : Bool) (x : Interval) (n : ℕ) → n ≡ 0 → AllWithin (λ y. x.end ≤ y.start) xs n (length xs) → list_any (clash aliases x) xs ≡ false
none_starts xs aliases x n zero above =
    list_any_none (clash aliases x) xs (λ k d lt. let h = above k d (omega arith) lt in clash_apart aliases x _ (omega (arith, h)))

-- the last that starts before the end decides
pub last_rising : (xs : List Interval) → AreSolid xs → Rise xs → (aliases : Bool) (x : Interval) → x.start < x.end → (n : ℕ) → n < length xs → AllWithin (λ y. y.start < x.end) xs 0 (n + 1) → AllWithin (λ y. x.end ≤ y.start) xs (n + 1) (length xs) → (y : Interval) → y ≡ get_or xs n y → clash aliases x y ≡ list_any (clash aliases x) xs
last_rising xs solid rise aliases x has n inside before above y at =
    let p : Interval → Bool = clash aliases x in
    let starts = before n y (omega arith) (omega arith) in
    let full = solid n y inside in
    ⊎_elim
    (λ (t : p y ≡ true). t ∙ sym (list_any_at p xs n y inside (ap p (sym at) ∙ t)))
    (λ (f : p y ≡ false).
    let reach : (get_or xs n y).start ≤ x.start = low aliases x (get_or xs n y) (ap p (sym at) ∙ f) starts full has in
    f ∙ sym (list_any_none p xs (λ k d lt.
    ⊎_elim
    (λ (less : k < n). let h = rise k n d less inside in let e = ap (λ (z : Interval). z.start) (get_or_default xs n d y inside) in clash_apart aliases x (get_or xs k d) (omega (arith, h, e, reach)))
    (λ (ge : n ≤ k). ⊎_elim
    (λ (more : n < k). let h = above k d (omega arith) lt in clash_apart aliases x (get_or xs k d) (omega (arith, h)))
    (λ (le : k ≤ n). let same : k ≡ n = omega arith in ap (λ i. p (get_or xs i d)) same ∙ ap p (get_or_default xs n d y inside) ∙ ap p (sym at) ∙ f)
    (cases_lt n k))
    (cases_lt k n))))
    (cases_Bool (p y))

-- ---- one more
or_last : (a b : Bool) → (a || (b || false)) ≡ (b || a)
or_last true true = refl
or_last true false = refl
or_last false true = refl
or_last false false = refl

pub clashes_pushed : (xs ys : List Interval) (x : Interval) → ys ≡ xs ++ x ∷ [] → (b : Bool) (q : Interval) → list_any (clash b q) ys ≡ (clash b q x || list_any (clash b q) xs)
clashes_pushed xs ys x is b q = ap (list_any (clash b q)) is ∙ list_any-append (clash b q) xs (x ∷ []) ∙ or_last (list_any (clash b q) xs) (clash b q x)
