-- The largest of some powers of two is one, and names that are told apart are new.
use Rattle.std.proofs.Common.{◌≡◌, ℕ, ◌<◌, ◌≤◌, max, true, false, List, [], ◌∷◌, ◌++◌, fold, refl, ap, ◌∙◌, arith, ⊎_elim}
use Rattle.std.specs.Prelude.{bytes_eq, ◌||◌}
use Rattle.std.specs.Int.{is_power_of_two}
use Rattle.std.specs.List.{list_any, AllByRecursion}
use Rattle.std.proofs.lemmas.Bool.{cases_lt, or_from}
use Rattle.std.proofs.lemmas.List.Folds.{list_any-append}
use Rattle.cap_readback.specs.Content.{Planned, AreNew}

pub max-power : (a b : ℕ) → is_power_of_two a ≡ true → is_power_of_two b ≡ true → is_power_of_two (max a b) ≡ true
max-power a b x y =
    ⊎_elim (λ (h : a < b). let e : max a b ≡ b = omega arith in ap is_power_of_two e ∙ y) (λ (h : b ≤ a). let e : max a b ≡ a = omega arith in ap is_power_of_two e ∙ x) (cases_lt a b)

pub largest-power : (a : ℕ) (bs : List ℕ) → is_power_of_two a ≡ true → AllByRecursion (λ b. is_power_of_two b ≡ true) bs → is_power_of_two (fold max a bs) ≡ true
largest-power a [] x h = x
largest-power a (b ∷ bs) x h = largest-power (max a b) bs (max-power a b x h.0) h.1

pub largest-from : (low a : ℕ) (bs : List ℕ) → low ≤ a → low ≤ fold max a bs
largest-from low a [] x = x
largest-from low a (b ∷ bs) x = largest-from low (max a b) bs (omega (arith, x))

pub largest-to : (high a : ℕ) (bs : List ℕ) → a ≤ high → AllByRecursion (λ b. b ≤ high) bs → fold max a bs ≤ high
largest-to high a [] x h = x
largest-to high a (b ∷ bs) x h = largest-to high (max a b) bs (omega (arith, x, h.0)) h.1

-- each name differs from those after it
abbrev pub AreApartNames : List Planned → Type 0
AreApartNames [] = Unit {0}
AreApartNames (p ∷ ps) = AllByRecursion (λ q. bytes_eq p.name.1 q.name.1 ≡ false) ps × AreApartNames ps

new-behind : (before ps : List Planned) → AllByRecursion (λ q. list_any (λ b. bytes_eq b.name.1 q.name.1) before ≡ false) ps → AreApartNames ps → AreNew before ps
new-behind before [] h d = tt
new-behind before (p ∷ ps) h d = (h.0, new-behind (before ++ p ∷ []) ps (grown before p ps h.1 d.0) d.1)
  where
    grown : (before : List Planned) (p : Planned) (qs : List Planned) → AllByRecursion (λ q. list_any (λ b. bytes_eq b.name.1 q.name.1) before ≡ false) qs → AllByRecursion (λ q. bytes_eq p.name.1 q.name.1 ≡ false) qs
        → AllByRecursion (λ q. list_any (λ b. bytes_eq b.name.1 q.name.1) (before ++ p ∷ []) ≡ false) qs
    grown before p [] a b = tt
    grown before p (q ∷ qs) a b =
        let one = list_any-append (λ (x : Planned). bytes_eq x.name.1 q.name.1) before (p ∷ []) ∙ or_from (list_any (λ (x : Planned). bytes_eq x.name.1 q.name.1) before) (bytes_eq p.name.1 q.name.1 || false) a.0 (or_from (bytes_eq p.name.1 q.name.1) false b.0 refl) in
        (one, grown before p qs a.1 b.1)

all-none : (ps : List Planned) → AllByRecursion (λ q. list_any (λ (b : Planned). bytes_eq b.name.1 q.name.1) [] ≡ false) ps
all-none [] = tt
all-none (p ∷ ps) = (refl, all-none ps)

pub new-is : (ps : List Planned) → AreApartNames ps → AreNew [] ps
new-is ps d = new-behind [] ps (all-none ps) d
