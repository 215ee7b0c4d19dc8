-- Lists joined from parts, whose members all have a property or stand in an order.
use Rattle.std.proofs.Common.{◌≡◌, ℕ, zero, suc, ◌+◌, ◌<◌, List, [], ◌∷◌, ◌++◌, length, get_or, sym, ap, subst, ◌∙◌, arith}
use Rattle.std.specs.List.{flat_map, enumerate_from, AllByRecursion}
use Rattle.std.proofs.lemmas.List.{get_or_default}
use Rattle.std.proofs.lemmas.List.Elements.{recursion_from_All, All-from_recursion}
use Rattle.std.proofs.lemmas.List.FromFn.{get_or-enumerate_from, length-enumerate_from}

pub each_append : {X : Type 0} (P : X → Type 0) (xs ys : List X) → AllByRecursion P xs → AllByRecursion P ys → AllByRecursion P (xs ++ ys)
each_append P [] ys h k = k
each_append P (x ∷ xs) ys h k = (h.0, each_append P xs ys h.1 k)

pub each_weaker : {X : Type 0} (P Q : X → Type 0) (xs : List X) → ((x : X) → P x → Q x) → AllByRecursion P xs → AllByRecursion Q xs
each_weaker P Q [] f h = tt
each_weaker P Q (x ∷ xs) f h = (f x h.0, each_weaker P Q xs f h.1)

pub each_all : {X : Type 0} (P : X → Type 0) (xs : List X) → ((x : X) → P x) → AllByRecursion P xs
each_all P [] f = tt
each_all P (x ∷ xs) f = (f x, each_all P xs f)

pub each_both : {X : Type 0} (P Q : X → Type 0) (xs : List X) → AllByRecursion P xs → AllByRecursion Q xs → AllByRecursion (λ x. P x × Q x) xs
each_both P Q [] h k = tt
each_both P Q (x ∷ xs) h k = ((h.0, k.0), each_both P Q xs h.1 k.1)

pub each_flat : {X Y : Type 0} (P : Y → Type 0) (f : X → List Y) (xs : List X) → AllByRecursion (λ x. AllByRecursion P (f x)) xs → AllByRecursion P (flat_map f xs)
each_flat P f [] h = tt
each_flat P f (x ∷ xs) h = each_append P (f x) (flat_map f xs) h.0 (each_flat P f xs h.1)

pub each_numbered : {X : Type 0} (P : ℕ × X → Type 0) (xs : List X) (d : X) → ((k : ℕ) → k < length xs → P (k, get_or xs k d)) → AllByRecursion P (enumerate_from 0 xs)
each_numbered {X} P xs d h =
    recursion_from_All P (enumerate_from 0 xs) (λ k e lt.
    let inside : k < length xs = omega (arith, length-enumerate_from 0 xs) in
    let own : 0 + k ≡ k = omega arith in
    let is : get_or (enumerate_from 0 xs) k e ≡ (k, get_or xs k d) = get_or-enumerate_from 0 xs k e inside ∙ ap (λ (n : ℕ). (n, get_or xs k e.1)) own ∙ ap (λ (x : X). (k, x)) (get_or_default xs k e.1 d inside) in
    subst P (sym is) (h k inside))

-- each stands so to all later ones
abbrev pub Sorted : {X : Type 0} → (X → X → Type 0) → List X → Type 0
Sorted R [] = Unit {0}
Sorted R (x ∷ xs) = AllByRecursion (R x) xs × Sorted R xs

pub sorted_append : {X : Type 0} (R : X → X → Type 0) (xs ys : List X) → Sorted R xs → Sorted R ys → AllByRecursion (λ x. AllByRecursion (R x) ys) xs → Sorted R (xs ++ ys)
sorted_append R [] ys h k c = k
sorted_append R (x ∷ xs) ys h k c = (each_append (R x) xs ys h.0 c.0, sorted_append R xs ys h.1 k c.1)

-- parts in the order of a number that their members carry
pub sorted_flat : {X Y : Type 0} (R : Y → Y → Type 0) (f : X → List Y) (xs : List X) (number : X → ℕ) (key : Y → ℕ) (Q : Y → Type 0) → Sorted (λ x y. number x < number y) xs → AllByRecursion (λ x. AllByRecursion (λ p. (key p ≡ number x) × Q p) (f x)) xs → AllByRecursion (λ x. Sorted R (f x)) xs → ((a b : Y) → Q a → Q b → key a < key b → R a b) → Sorted R (flat_map f xs)
sorted_flat R f [] number key Q order members parts next = tt
sorted_flat {X} {Y} R f (x ∷ xs) number key Q order members parts next =
    let both : AllByRecursion (λ z. (number x < number z) × AllByRecursion (λ p. (key p ≡ number z) × Q p) (f z)) xs =
    each_both (λ z. number x < number z) (λ z. AllByRecursion (λ p. (key p ≡ number z) × Q p) (f z)) xs order.0 members.1 in
    let above : AllByRecursion (λ p. (number x < key p) × Q p) (flat_map f xs) =
    each_flat (λ p. (number x < key p) × Q p) f xs (each_weaker (λ z. (number x < number z) × AllByRecursion (λ p. (key p ≡ number z) × Q p) (f z)) (λ z. AllByRecursion (λ p. (number x < key p) × Q p) (f z)) xs (λ z h. each_weaker (λ p. (key p ≡ number z) × Q p) (λ p. (number x < key p) × Q p) (f z) (λ p k. (raised (number x) (key p) (number z) k.0 h.0, k.1)) h.1) both) in
    sorted_append R (f x) (flat_map f xs) parts.0
    (sorted_flat R f xs number key Q order.1 members.1 parts.1 next)
    (each_weaker (λ p. (key p ≡ number x) × Q p) (λ a. AllByRecursion (R a) (flat_map f xs)) (f x)
    (λ a h. each_weaker (λ p. (number x < key p) × Q p) (R a) (flat_map f xs) (λ b k. next a b h.1 k.1 (lowered (key a) (number x) (key b) h.0 k.0)) above)
    members.0)
  where
    raised : (a b c : ℕ) → b ≡ c → a < c → a < b
    raised a b c e lt = omega arith

    lowered : (a b c : ℕ) → a ≡ b → b < c → a < c
    lowered a b c e lt = omega arith

above_from : {X : Type 0} (xs : List X) (m n : ℕ) → m < n → AllByRecursion (λ (p : ℕ × X). m < p.0) (enumerate_from n xs)
above_from [] m n lt = tt
above_from (x ∷ xs) m n lt = (lt, above_from xs m (n + 1) (omega arith))

pub sorted_numbered : {X : Type 0} (xs : List X) (n : ℕ) → Sorted (λ (p q : ℕ × X). p.0 < q.0) (enumerate_from n xs)
sorted_numbered [] n = tt
sorted_numbered (x ∷ xs) n = (above_from xs n (n + 1) (omega arith), sorted_numbered xs (n + 1))

pub sorted_at : {X : Type 0} (R : X → X → Type 0) (xs : List X) (d : X) → Sorted R xs → (i j : ℕ) → i < j → j < length xs → R (get_or xs i d) (get_or xs j d)
sorted_at R [] d h i j lt inside = absurd (omega arith)
sorted_at R (x ∷ xs) d h i zero lt inside = absurd (omega arith)
sorted_at R (x ∷ xs) d h zero (suc j) lt inside = All-from_recursion (R x) xs h.0 j d (omega arith)
sorted_at R (x ∷ xs) d h (suc i) (suc j) lt inside = sorted_at R xs d h.1 i j (omega arith) (omega arith)
