-- What relocated fields hold in the file.
use Rattle.std.proofs.Common.{◌≡◌, ℕ, ◌*◌, Bool, true, false, cond, List, [], ◌∷◌, ◌++◌, length, ℤ, pos, refl, ap, ◌∙◌, length-append, arith}
use Rattle.std.specs.List.{flat_map}
use Rattle.cap_base.specs.Field.{number_bytes}
use Rattle.cap_table.specs.declared.target.Target.{Target}
use Rattle.cap_table.specs.Targets.{is_fixed, fixed_value}
use Rattle.cap_table.specs.Bodies.{held, slot_held, zeros}
use Rattle.cap_table.specs.Facts.{first_held}

pub held_capability : (kind : ℕ) (t : Target) (addend : ℤ) → kind ≡ 193 → held kind t addend ≡ first_held t addend ++ zeros 8
unfolding held first_held
held_capability kind t addend e = ap (λ k. held k t addend) e ∙ go (is_fixed t)
  where
    go : (b : Bool) → cond b (number_bytes 8 (fixed_value t addend) ++ zeros 8) (zeros 16) ≡ cond b (number_bytes 8 (fixed_value t addend)) (zeros 8) ++ zeros 8
    go true = refl
    go false = refl

pub held_word : (kind : ℕ) (t : Target) (addend : ℤ) → kind ≡ 2 → held kind t addend ≡ first_held t addend
unfolding held first_held
held_word kind t addend e = ap (λ k. held k t addend) e ∙ go (is_fixed t)
  where
    go : (b : Bool) → cond b (number_bytes 8 (fixed_value t addend) ++ zeros 0) (zeros 8) ≡ cond b (number_bytes 8 (fixed_value t addend)) (zeros 8)
    go true = refl
    go false = refl

pub first_long : (t : Target) (addend : ℤ) → length (first_held t addend) ≡ 8
unfolding first_held
first_long t addend = go (is_fixed t)
  where
    go : (b : Bool) → length (cond b (number_bytes 8 (fixed_value t addend)) (zeros 8)) ≡ 8
    go true = refl
    go false = refl

pub slot_long : (t : Target) → length (slot_held t) ≡ 16
slot_long t = ap length (held_capability 193 t (pos 0) refl) ∙ omega (arith, length-append (first_held t (pos 0)) (zeros 8), first_long t (pos 0))

pub slots_long : (slots : List Target) → length (flat_map slot_held slots) ≡ 16 * length slots
slots_long [] = refl
slots_long (t ∷ slots) = omega (arith, length-append (slot_held t) (flat_map slot_held slots), slot_long t, slots_long slots)
