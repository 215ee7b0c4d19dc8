-- What is found by an offset of a section.
use Rattle.std.proofs.Common.{◌≡◌, ℕ, zero, suc, ◌+◌, ◌<◌, Bool, true, false, ◌&&◌, cond, List, [], ◌∷◌, length, get_or, Option, Some, None, refl, sym, subst, arith}
use Rattle.std.specs.Prelude.{IfSome, nat_le}
use Rattle.std.specs.Option.{option_or, option_map}
use Rattle.std.proofs.lemmas.Bool.{and_parts, leb-true}
use Rattle.cap_layout.specs.declared.piece.Piece.{Piece}
use Rattle.cap_layout.specs.Found.{Holds}
use Rattle.cap_layout.specs.Pieces.{last_where, holds_offset, is_of_section, piece_at, piece_of, no_piece}

last_where_step : {X : Type 0} (p : X → Bool) (x : X) (xs : List X) (d : X) (i : ℕ) → ((j : ℕ) → last_where p xs ≡ Some j → (j < length xs) × (p (get_or xs j d) ≡ true)) → (o : Option ℕ) → last_where p xs ≡ o → (b : Bool) → p x ≡ b → option_or (option_map (λ j. j + 1) o) (cond b (Some 0) None) ≡ Some i → (i < length (x ∷ xs)) × (p (get_or (x ∷ xs) i d) ≡ true)
last_where_step p x xs d i later (Some j) is b px e =
    let rest = later j is in
    let same : suc j ≡ i = let k : j + 1 ≡ i = cc in omega (arith, k) in
    subst (λ k. (k < length (x ∷ xs)) × (p (get_or (x ∷ xs) k d) ≡ true)) same (omega (arith, rest.0), rest.1)
last_where_step p x xs d i later None is true px e =
    let same : zero ≡ i = cc in subst (λ k. (k < length (x ∷ xs)) × (p (get_or (x ∷ xs) k d) ≡ true)) same (omega arith, px)
last_where_step p x xs d i later None is false px e = absurd (cc)

-- the place of the last that passes holds one that passes
pub last_where_found : {X : Type 0} (p : X → Bool) (xs : List X) (d : X) (i : ℕ) → last_where p xs ≡ Some i → (i < length xs) × (p (get_or xs i d) ≡ true)
last_where_found p [] d i e = absurd (cc)
last_where_found p (x ∷ xs) d i e =
    last_where_step p x xs d i (λ j h. last_where_found p xs d j h) (last_where p xs) refl (p x) refl e

pub holds : (pieces : List Piece) (file section offset i : ℕ) → piece_at pieces file section offset ≡ Some i → Holds pieces offset i
holds pieces file section offset i e =
    let found = last_where_found (holds_offset file section offset) pieces no_piece i e in
    let p = piece_of pieces i in
    let last = and_parts (is_of_section file section p && nat_le p.start offset) (nat_le offset (p.start + p.size)) found.1 in
    let first = and_parts (is_of_section file section p) (nat_le p.start offset) last.0 in
    record {
      inside = found.0;
      start = leb-true p.start offset first.1;
      end = leb-true offset (p.start + p.size) last.1;
    }

-- a piece that is found holds the offset
pub found_holds : (pieces : List Piece) (file section offset : ℕ) (r : Option ℕ) → r ≡ piece_at pieces file section offset → IfSome r (Holds pieces offset)
found_holds pieces file section offset (Some i) e = holds pieces file section offset i (sym e)
found_holds pieces file section offset None e = tt
