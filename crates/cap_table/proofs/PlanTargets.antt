-- A set of targets, seen by what tells their symbols apart.
use Rattle.std.specs.List.{list_any, position_or_len}
use Rattle.std.proofs.Common.{◌≡◌, ℕ, ◌+◌, Bool, true, false, not, cond, ltb, ◌==◌, ◌&&◌, ◌||◌, ⊎_elim, List, [], ◌∷◌, ◌++◌, length, map, position, Some, None, refl, sym, ap, ◌∙◌}
use Rattle.std.proofs.lemmas.Bool.{cases_eq, eq-eqb, ne_eqb}
use Rattle.std.proofs.lemmas.List.{length-map}
use Rattle.cap_syms.specs.Distinct.{with_new}
use Rattle.cap_table.specs.declared.target.Target.{Target}
use Rattle.cap_table.specs.Targets.{key_of, same_target}
use Rattle.cap_table.specs.Lists.{index_in}

pub any_keys : (p : ℕ × ℕ → Bool) (ts : List Target) → list_any p (map key_of ts) ≡ list_any (λ t. p (key_of t)) ts
any_keys p [] = refl
any_keys p (t ∷ ts) = ap (λ b. p (key_of t) || b) (any_keys p ts)

place_keys : (p : ℕ × ℕ → Bool) (ts : List Target) → position_or_len p (map key_of ts) ≡ position_or_len (λ t. p (key_of t)) ts
place_keys p [] = refl
place_keys p (t ∷ ts) = ap (λ n. cond (not (p (key_of t))) (1 + n) 0) (place_keys p ts)

pub position_keys : (p : ℕ × ℕ → Bool) (ts : List Target) → position p (map key_of ts) ≡ position (λ t. p (key_of t)) ts
position_keys p ts =
    let at : position_or_len p (map key_of ts) ≡ position_or_len (λ (t : Target). p (key_of t)) ts = place_keys p ts in
    let long : length (map key_of ts) ≡ length ts = length-map ts key_of in
    ap (λ n. cond (ltb n (length (map key_of ts))) (Some n) None) at
    ∙ ap (λ m. cond (ltb (position_or_len (λ (t : Target). p (key_of t)) ts) m) (Some (position_or_len (λ (t : Target). p (key_of t)) ts)) None) long

swap : (a b : ℕ) → (a == b) ≡ (b == a)
swap a b =
    ⊎_elim
    (λ (e : a ≡ b). eq-eqb a b e ∙ sym (eq-eqb b a (sym e)))
    (λ (n : a ≡ b → ⊥). ne_eqb a b n ∙ sym (ne_eqb b a (λ (e : b ≡ a). n (sym e))))
    (cases_eq a b)

-- the place of a symbol
pub place_of : (file symbol : ℕ) (keys : List (ℕ × ℕ)) (ts : List Target) → keys ≡ map key_of ts → position (λ k. file == k.0 && symbol == k.1) keys ≡ index_in ts file symbol
place_of file symbol keys ts are =
    ap (position (λ (k : ℕ × ℕ). file == k.0 && symbol == k.1)) are
    ∙ position_keys (λ k. file == k.0 && symbol == k.1) ts
    ∙ ap (λ p. position p ts) (λ i (t : Target). swap file t.file i && swap symbol t.symbol i)

-- whether a symbol is there
pub is_there : (t : Target) (keys : List (ℕ × ℕ)) (ts : List Target) → keys ≡ map key_of ts → list_any (λ k. t.file == k.0 && t.symbol == k.1) keys ≡ list_any (same_target t) ts
is_there t keys ts are = ap (list_any (λ (k : ℕ × ℕ). t.file == k.0 && t.symbol == k.1)) are ∙ any_keys (λ k. t.file == k.0 && t.symbol == k.1) ts

pub with_same : (ts : List Target) (t : Target) → list_any (same_target t) ts ≡ true → ts ≡ with_new same_target ts t
with_same ts t e = sym (ap (λ c. cond c ts (ts ++ t ∷ [])) e)

pub with_other : (ts : List Target) (t : Target) → list_any (same_target t) ts ≡ false → ts ++ t ∷ [] ≡ with_new same_target ts t
with_other ts t e = sym (ap (λ c. cond c ts (ts ++ t ∷ [])) e)
