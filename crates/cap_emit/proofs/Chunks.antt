-- Chunks that are written one after the other.
use Rattle.std.proofs.Common.{◌≡◌, ℕ, ◌+◌, ◌-◌, ◌<◌, ◌≤◌, Bool, true, false, cond, if◌then◌else◌, List, [], ◌∷◌, ◌++◌, map, filter, length, get_or, take, drop, suc, refl, sym, ap, ◌∙◌, arith, length-append, append-nil}
use Rattle.std.specs.List.{zip}
use Rattle.std.proofs.lemmas.Bool.{false_from_ne_true}
use Rattle.std.proofs.lemmas.List.{length-replicate, length-take, length-drop, append_assoc, drop_more, get_or-take, get_or-drop, take-append-drop}
use Rattle.std.proofs.lemmas.List.Elements.{filter-append}
use Rattle.std.proofs.lemmas.Slice.Zip.{get_or-zip, length-zip}
use Rattle.cap_elf.specs.declared.records.Class.{Class}
use Rattle.cap_elf.specs.Classes.{same_class}
use Rattle.cap_layout.specs.declared.piece.Piece.{Piece}
use Rattle.cap_layout.specs.Pieces.{no_piece}
use Rattle.cap_layout.specs.Points.{Laid}
use Rattle.cap_layout.specs.IsPiece.{IsLaid}
use Rattle.cap_layout.specs.ByClass.{IsSpanOf}
use Rattle.cap_table.specs.Bodies.{BodiesValue, zeros}
use Rattle.cap_emit.specs.Spread.{Chunk, spread, AreApart}
use Rattle.cap_emit.specs.Written.{padded, with_chunk, with_chunks, piece_chunk, chunks_from, class_chunks}

pub with_append : (file : List ℕ) (cs ds : List Chunk) → with_chunks file (cs ++ ds) ≡ with_chunks (with_chunks file cs) ds
with_append file [] ds = refl
with_append file (c ∷ cs) ds = with_append (with_chunk file c) cs ds

-- a piece of the class stands first among those that are left
first_left : (class : Class) (rest : List (Piece × Chunk)) (p : Piece) (c : Chunk) →
    map (λ q. q.1) (filter (λ q. same_class q.0.class class) ((p, c) ∷ rest)) ≡ (if same_class p.class class then c ∷ [] else []) ++ map (λ q. q.1) (filter (λ q. same_class q.0.class class) rest)
first_left class rest p c = by_case (same_class p.class class)
  where
    by_case : (b : Bool) → map (λ q. q.1) (cond b ((p, c) ∷ filter (λ q. same_class q.0.class class) rest) (filter (λ q. same_class q.0.class class) rest)) ≡ (if b then c ∷ [] else []) ++ map (λ q. q.1) (filter (λ q. same_class q.0.class class) rest)
    by_case true = refl
    by_case false = refl

no_place : Piece × (ℕ × List ℕ)
no_place = (no_piece, (0, []))

-- the chunks that are left, of which the piece of a number is the first
from_more : (laid : Laid) (bodies : BodiesValue) (class : Class) (i : ℕ) → length laid.addresses ≡ length laid.pieces.all → length bodies.pieces ≡ length laid.pieces.all → i < length laid.pieces.all → chunks_from laid bodies class i ≡ piece_chunk laid bodies class i ++ chunks_from laid bodies class (i + 1)
unfolding chunks_from piece_chunk no_place
from_more laid bodies class i a b lt =
    let inner = zip laid.addresses bodies.pieces in
    let all = zip laid.pieces.all inner in
    let long : length inner ≡ length laid.pieces.all = omega (arith, length-zip laid.addresses bodies.pieces, a, b) in
    let below : i < length all = omega (arith, length-zip laid.pieces.all inner, long, lt) in
    let at : get_or all i no_place ≡ (get_or laid.pieces.all i no_piece, (get_or laid.addresses i 0, get_or bodies.pieces i [])) =
    get_or-zip laid.pieces.all inner i no_place lt (omega (arith, long, lt)) ∙ ap (λ q. (get_or laid.pieces.all i no_piece, q)) (get_or-zip laid.addresses bodies.pieces i (0, []) (omega (arith, a, lt)) (omega (arith, b, lt))) in
    ap (λ xs. map (λ q. q.1) (filter (λ q. same_class q.0.class class) xs)) (drop_more all i no_place below ∙ ap (λ q. q ∷ drop (i + 1) all) at)
    ∙ first_left class (drop (i + 1) all) (get_or laid.pieces.all i no_piece) (get_or laid.addresses i 0, get_or bodies.pieces i [])

-- one piece more
pub chunks_more : (laid : Laid) (bodies : BodiesValue) (class : Class) (i : ℕ) (file next total : List ℕ) → IsLaid laid → length bodies.pieces ≡ length laid.pieces.all → i < length laid.pieces.all → next ≡ with_chunks file (piece_chunk laid bodies class i) → with_chunks file (chunks_from laid bodies class i) ≡ total → with_chunks next (chunks_from laid bodies class (i + 1)) ≡ total
chunks_more laid bodies class i file next total laid_is b lt e so_far =
    let rest = chunks_from laid bodies class (i + 1) in
    ap (λ f. with_chunks f rest) e ∙ sym (with_append file (piece_chunk laid bodies class i) rest) ∙ ap (with_chunks file) (sym (from_more laid bodies class i laid_is.count b lt)) ∙ so_far

-- ---- the pieces before the first of the class and behind the last leave nothing
none_kept : {X : Type 0} (p : X → Bool) (xs : List X) (d : X) → ((k : ℕ) → k < length xs → p (get_or xs k d) ≡ false) → filter p xs ≡ []
none_kept p [] d h = refl
none_kept p (x ∷ xs) d h =
    ap (λ b. cond b (x ∷ filter p xs) (filter p xs)) (h 0 (omega arith)) ∙ none_kept p xs d (λ k lt. h (suc k) (omega (arith, lt)))

piece_in : (ps : List Piece) (cs : List Chunk) (k : ℕ) → k < length (zip ps cs) → (get_or (zip ps cs) k no_place).0 ≡ get_or ps k no_piece
unfolding no_place
piece_in ps cs k lt =
    let long = length-zip ps cs in
    ap (λ q. q.0) (get_or-zip ps cs k no_place (omega (arith, lt, long)) (omega (arith, lt, long)))

module _ (laid : Laid) (bodies : BodiesValue) (class : Class) (first end : ℕ) (span : IsSpanOf laid.pieces.all class first end) where
  abbrev inner : List Chunk
  inner = zip laid.addresses bodies.pieces

  abbrev places : List (Piece × Chunk)
  places = zip laid.pieces.all inner

  abbrev own : Piece × Chunk → Bool
  own q = same_class q.0.class class

  other : (k : ℕ) → k < length places → (same_class (get_or laid.pieces.all k no_piece).class class ≡ true → ⊥) → own (get_or places k no_place) ≡ false
  other k lt h = false_from_ne_true (own (get_or places k no_place)) (λ e. h (sym (ap (λ (p : Piece). same_class p.class class) (piece_in laid.pieces.all inner k lt)) ∙ e))

  front : filter own (take first places) ≡ []
  front = none_kept own (take first places) no_place (λ k lt.
      let size = length-take first places in
      let inside : k < first = omega (arith, lt, size) in
      let within : k < length places = omega (arith, lt, size) in
      ap own (get_or-take first places k no_place inside)
      ∙ other k within (λ e. let up = span.from k (omega (arith, within, length-zip laid.pieces.all inner)) e in omega (arith, up, inside)))

  back : filter own (drop end places) ≡ []
  back = none_kept own (drop end places) no_place (λ k lt.
      let within : end + k < length places = omega (arith, lt, length-drop end places) in
      ap own (get_or-drop end places k no_place)
      ∙ other (end + k) within (λ e. let low = span.before (end + k) (omega (arith, within, length-zip laid.pieces.all inner)) e in omega (arith, low)))

  -- all pieces of the class are left at first
  pub chunks_first : (file : List ℕ) → with_chunks file (chunks_from laid bodies class first) ≡ with_chunks file (class_chunks laid bodies class)
  unfolding chunks_from class_chunks
  chunks_first file =
      sym (ap (λ xs. with_chunks file (map (λ (q : Piece × Chunk). q.1) xs)) (ap (filter own) (sym (take-append-drop first places)) ∙ filter-append own (take first places) (drop first places) ∙ ap (λ xs. xs ++ filter own (drop first places)) front))

  -- and none in the end
  pub chunks_done : (i : ℕ) (file total : List ℕ) → i ≡ end → with_chunks file (chunks_from laid bodies class i) ≡ total → file ≡ total
  unfolding chunks_from
  chunks_done i file total e so_far =
      sym (ap (λ xs. with_chunks file (map (λ (q : Piece × Chunk). q.1) xs)) back)
      ∙ sym (ap (λ k. with_chunks file (map (λ (q : Piece × Chunk). q.1) (filter own (drop k places)))) e)
      ∙ so_far

-- chunks that are apart, written one after the other, are spread
pub written_spread : (file : List ℕ) (at : ℕ) (cs : List Chunk) → length file ≡ at → AreApart at cs → with_chunks file cs ≡ file ++ spread at cs
unfolding padded
written_spread file at [] e h = sym (append-nil file)
written_spread file at (c ∷ cs) e h =
    let gap = zeros (c.0 - length file) in
    let next = (file ++ gap) ++ c.1 in
    let size : length next ≡ c.0 + length c.1 = omega (arith, length-append (file ++ gap) c.1, length-append file gap, length-replicate {A = ℕ} (c.0 - length file) 0, e, h.0) in
    let rest = spread (c.0 + length c.1) cs in
    written_spread next (c.0 + length c.1) cs size h.1
    ∙ ap (λ xs. xs ++ c.1 ++ rest) (ap (λ n. file ++ zeros (c.0 - n)) e)
    ∙ ap (λ xs. xs ++ rest) (append_assoc file (zeros (c.0 - at)) c.1)
    ∙ append_assoc file (zeros (c.0 - at) ++ c.1) rest
