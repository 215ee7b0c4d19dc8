-- Whether a piece of a class has bytes.
use Rattle.std.proofs.Common.{◌≡◌, ℕ, ◌+◌, ◌<◌, ◌≤◌, Bool, true, false, not, cond, ◌&&◌, ◌||◌, ◌==◌, List, ◌∷◌, length, get_or, drop, refl, sym, ap, ◌∙◌}
use Rattle.std.proofs.lemmas.List.{drop_more, drop_all}
use Rattle.cap_elf.specs.declared.records.Class.{Class}
use Rattle.cap_elf.specs.Classes.{same_class}
use Rattle.cap_layout.specs.declared.piece.Piece.{Piece}
use Rattle.cap_layout.specs.Places.{of_class}
use Rattle.cap_layout.specs.Parts.{has_bytes}

first : (class : Class) (p : Piece) (ps : List Piece) → has_bytes (of_class class (p ∷ ps)) ≡ cond (same_class p.class class) (not (p.size == 0) || has_bytes (of_class class ps)) (has_bytes (of_class class ps))
first class p ps = by (same_class p.class class)
  where
    by : (b : Bool) → has_bytes (cond b (p ∷ of_class class ps) (of_class class ps)) ≡ cond b (not (p.size == 0) || has_bytes (of_class class ps)) (has_bytes (of_class class ps))
    by true = refl
    by false = refl

-- a piece of the class that has bytes
abbrev pub counts : Class → Piece → Bool
counts class p = same_class p.class class && not (p.size == 0)

joined : (a b c : Bool) → cond a (b || c) c ≡ ((a && b) || c)
joined true b c = refl
joined false b c = refl

module _ (class : Class) (ps : List Piece) (i : ℕ) (d : Piece) (all : Bool) where
  here : i < length ps → has_bytes (of_class class (drop i ps)) ≡ all → (counts class (get_or ps i d) || has_bytes (of_class class (drop (i + 1) ps))) ≡ all
  here lt so_far =
      let p : Piece = get_or ps i d in
      sym (joined (same_class p.class class) (not (p.size == 0)) (has_bytes (of_class class (drop (i + 1) ps))))
      ∙ sym (first class p (drop (i + 1) ps))
      ∙ sym (ap (λ l. has_bytes (of_class class l)) (drop_more ps i d lt))
      ∙ so_far

  pub bytes_hit : i < length ps → counts class (get_or ps i d) ≡ true → has_bytes (of_class class (drop i ps)) ≡ all → true ≡ all
  bytes_hit lt e so_far = sym (ap (λ b. b || has_bytes (of_class class (drop (i + 1) ps))) e) ∙ here lt so_far

  pub bytes_skip : i < length ps → counts class (get_or ps i d) ≡ false → has_bytes (of_class class (drop i ps)) ≡ all → has_bytes (of_class class (drop (i + 1) ps)) ≡ all
  bytes_skip lt e so_far = sym (ap (λ b. b || has_bytes (of_class class (drop (i + 1) ps))) e) ∙ here lt so_far

pub bytes_none : (class : Class) (ps : List Piece) (i : ℕ) (all : Bool) → length ps ≤ i → has_bytes (of_class class (drop i ps)) ≡ all → false ≡ all
bytes_none class ps i all le so_far = sym (ap (λ l. has_bytes (of_class class l)) (drop_all i ps le)) ∙ so_far
