-- Bytes that are replaced keep their lengths.
use Rattle.std.proofs.Common.{◌≡◌, ◌≢◌, ℕ, ◌+◌, ◌<◌, ◌≤◌, ⊎_elim, List, [], ◌++◌, length, get_or, take, drop, sym, ap, ◌∙◌, subst, arith, length-append, length-drop}
use Rattle.std.proofs.Math.ListN.{set, length-set}
use Rattle.std.proofs.lemmas.Bool.{cases_eq}
use Rattle.std.proofs.lemmas.List.{length-take-le, get_or-set_same, get_or-set_other}
use Rattle.cap_layout.specs.declared.piece.Piece.{Piece}
use Rattle.cap_layout.specs.Pieces.{piece_of}
use Rattle.cap_table.specs.Planned.{Planned}
use Rattle.cap_table.specs.Bodies.{BodiesValue, AreLong, put, put_in, piece_bytes, body_length}

length_put : (bytes part : List ℕ) (at : ℕ) → at + length part ≤ length bytes → length (put bytes at part) ≡ length bytes
length_put bytes part at inside =
    let front : length (take at bytes) ≡ at = length-take-le at bytes (omega arith) in
    omega (arith, front, length-append (take at bytes ++ part) (drop (at + length part) bytes), length-append (take at bytes) part, length-drop (at + length part) bytes)

pub put_keeps : (pieces : List Piece) (plan : Planned) (old new : BodiesValue) (k offset : ℕ) (part : List ℕ) → AreLong pieces plan old → k < length pieces → offset + length part ≤ length (piece_bytes old.pieces k) → new ≡ record old { pieces = put_in old.pieces k offset part } → AreLong pieces plan new
put_keeps pieces plan old new k offset part long lt inside e =
    let with = put (piece_bytes old.pieces k) offset part in
    let there : k < length old.pieces = omega (arith, lt, long.count) in
    let here : length (get_or (set old.pieces k with) k []) ≡ body_length (piece_of pieces k) =
    ap length (get_or-set_same old.pieces k with [] there) ∙ length_put (piece_bytes old.pieces k) part offset inside ∙ long.each k lt in
    subst (AreLong pieces plan) (sym e) (record {
      count = length-set old.pieces k with ∙ long.count;
      each = λ j below. ⊎_elim
          (λ (same : j ≡ k). subst (λ i. length (get_or (set old.pieces k with) i []) ≡ body_length (piece_of pieces i)) (sym same) here)
          (λ (other : j ≢ k). ap length (get_or-set_other old.pieces k j with [] other) ∙ long.each j below)
          (cases_eq j k);
      stubs = long.stubs;
      slots = long.slots;
    })
