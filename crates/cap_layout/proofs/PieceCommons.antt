-- The pieces of common symbols, and their numbers.
use Rattle.std.proofs.Common.{◌≡◌, ℕ, ◌+◌, ◌^◌, ◌<◌, ◌≤◌, Bool, true, false, cond, ◌&&◌, List, [], ◌∷◌, ◌++◌, length, get_or, take, drop, map, All, IsTrue, Option, Some, None, refl, sym, ap, ◌∙◌, subst, arith}
use Rattle.std.specs.Prelude.{option_to_list, position, nat_lt, ◌==◌}
use Rattle.std.specs.List.{AllByRecursion, position_or_len, cons_option}
use Rattle.std.proofs.lemmas.Bool.{lt-ltb, eq-eqb, and_from, and_parts, and_left, eqb-true, false_from_ne_true}
use Rattle.std.proofs.lemmas.List.{append_assoc, get_or_at, get_or_append_left, length-append, take-append-drop, drop_more, get_or-take, length-take-le, get_or_default, take_more, map_more}
use Rattle.std.proofs.lemmas.List.Elements.{recursion_from_All, All-from_recursion, filter_map-append}
use Rattle.std.proofs.lemmas.List.Sums.{position_or_len_is}
use Rattle.std.specs.Int.{is_power_of_two}
use Rattle.cap_conc.specs.Computed.{representable_alignment}
use Rattle.cap_elf.specs.RelObject.{RelObject, file_of, symbol_of}
use Rattle.cap_syms.specs.declared.entries.Entry.{Entry}
use Rattle.cap_syms.specs.declared.entries.Shape.{Shape}
use Rattle.cap_syms.specs.declared.entries.Shape.TheVariants as shapes
use Rattle.cap_syms.specs.Decisions.{is_merged}
use Rattle.cap_syms.specs.Resolved.{Resolved, no_name}
use Rattle.cap_syms.specs.IsResolved.{IsResolved, IsShapeOf}
use Rattle.cap_layout.specs.declared.piece.Piece.{Piece}
use Rattle.cap_layout.specs.Commons.{AreApart}
use Rattle.cap_layout.specs.IsPiece.{IsPiece, IsPieceOf}
use Rattle.cap_layout.specs.Pieces.{shared_piece, common_piece, common_pieces, is_common_of, entry_piece, no_piece}
use Rattle.cap_layout.proofs.PieceLists.{each_append, each_weaker}
use Rattle.cap_layout.proofs.PiecePowers.{max_right, common_power}

each_one : (P : Piece → Type 0) (e : Entry) (s : Shape) (rest : List Piece) → ((size align : ℕ) → s ≡ shapes.Common size align → P (shared_piece e size align)) → AllByRecursion P rest → AllByRecursion P (cons_option (common_piece e s) rest)
each_one P e shapes.Defined rest h k = k
each_one P e (shapes.Common size align) rest h k = (h size align refl, k)
each_one P e (shapes.Absent weak) rest h k = k

-- what holds of each piece that a row may give
pub each_common : (P : Piece → Type 0) (rows : List Resolved) → AllByRecursion (λ r. (size align : ℕ) → r.entry.shape ≡ shapes.Common size align → P (shared_piece r.entry size align)) rows → AllByRecursion P (common_pieces rows)
each_common P [] h = tt
each_common P (r ∷ rows) h = each_one P r.entry r.entry.shape (common_pieces rows) h.0 (each_common P rows h.1)

-- ---- the number of a piece
first_place : (test : Piece → Bool) (front : List Piece) (p : Piece) (back : List Piece) → AllByRecursion (λ q. test q ≡ false) front → test p ≡ true → position test (front ++ p ∷ back) ≡ Some (length front)
first_place test front p back none here =
    let all = front ++ p ∷ back in
    let long : length all ≡ length front + length (p ∷ back) = length-append front (p ∷ back) in
    let is : position_or_len test all ≡ length front =
    position_or_len_is test all (length front) no_piece (omega arith)
    (λ k lt. ap test (get_or_append_left front (p ∷ back) no_piece k lt) ∙ All-from_recursion (λ q. test q ≡ false) front none k no_piece lt)
    (λ _. ap test (get_or_at front p back no_piece (length front) refl) ∙ here) in
    ap (λ n. cond (nat_lt n (length all)) (Some n) None) is ∙ ap (λ b. cond b (Some (length front)) None) (lt-ltb (length front) (length all) (omega arith))

other_symbol : (file symbol : ℕ) (e : Entry) (size align : ℕ) → (e.file ≡ file → e.symbol ≡ symbol → ⊥) → is_common_of file symbol (shared_piece e size align) ≡ false
other_symbol file symbol e size align apart =
    false_from_ne_true (is_common_of file symbol (shared_piece e size align)) (λ h.
    let one = and_parts (true && (e.file == file)) (e.symbol == symbol) h in
    let two = and_parts true (e.file == file) one.0 in
    apart (eqb-true e.file file two.1) (eqb-true e.symbol symbol one.1))

same_symbol : (e : Entry) (size align : ℕ) → is_common_of e.file e.symbol (shared_piece e size align) ≡ true
same_symbol e size align = and_from (true && (e.file == e.file)) (e.symbol == e.symbol) (eq-eqb e.file e.file refl) (eq-eqb e.symbol e.symbol refl)

apart_front : (table : List Resolved) (row : ℕ) → row < length table → AreApart table → AllByRecursion (λ r. r.entry.file ≡ (get_or table row no_name).entry.file → r.entry.symbol ≡ (get_or table row no_name).entry.symbol → ⊥) (take row table)
apart_front table row lt apart =
    recursion_from_All (λ r. r.entry.file ≡ (get_or table row no_name).entry.file → r.entry.symbol ≡ (get_or table row no_name).entry.symbol → ⊥) (take row table) (λ k d inside.
    let below : k < row = omega (arith, length-take-le row table (omega arith)) in
    let same : get_or (take row table) k d ≡ get_or table k d = get_or-take row table k d below in
    let default : get_or table k d ≡ get_or table k no_name = get_or_default table k d no_name (omega arith) in
    subst (λ (r : Resolved). r.entry.file ≡ (get_or table row no_name).entry.file → r.entry.symbol ≡ (get_or table row no_name).entry.symbol → ⊥) (sym (same ∙ default)) (apart k row no_name below lt))

split_table : (table : List Resolved) (row : ℕ) → row < length table → table ≡ take row table ++ get_or table row no_name ∷ drop (row + 1) table
split_table table row lt = sym (take-append-drop row table) ∙ ap (λ rs. take row table ++ rs) (drop_more table row no_name lt)

split_pieces : (init : List Piece) (table : List Resolved) (row : ℕ) → row < length table → init ++ common_pieces table ≡ (init ++ common_pieces (take row table)) ++ cons_option (common_piece (get_or table row no_name).entry (get_or table row no_name).entry.shape) (common_pieces (drop (row + 1) table))
split_pieces init table row lt =
    let h : Resolved → Option Piece = λ r. common_piece r.entry r.entry.shape in
    ap (λ rs. init ++ common_pieces rs) (split_table table row lt)
    ∙ ap (λ ps. init ++ ps) (filter_map-append h (take row table) (get_or table row no_name ∷ drop (row + 1) table))
    ∙ sym (append_assoc init (common_pieces (take row table)) (common_pieces (get_or table row no_name ∷ drop (row + 1) table)))

numbered : (init : List Piece) (table : List Resolved) (row : ℕ) → row < length table → AllByRecursion (λ p. p.common ≡ false) init → AreApart table → (s : Shape) → (get_or table row no_name).entry.shape ≡ s → entry_piece (init ++ common_pieces table) (get_or table row no_name).entry s ≡ cond (is_merged s) (Some (length (init ++ common_pieces (take row table)))) None
numbered init table row lt none apart shapes.Defined is = refl
numbered init table row lt none apart (shapes.Absent weak) is = refl
numbered init table row lt none apart (shapes.Common size align) is =
    let r = get_or table row no_name in
    let test : Piece → Bool = is_common_of r.entry.file r.entry.symbol in
    let front = init ++ common_pieces (take row table) in
    let back = common_pieces (drop (row + 1) table) in
    let clear : AllByRecursion (λ p. test p ≡ false) front =
    each_append (λ p. test p ≡ false) init (common_pieces (take row table))
    (each_weaker (λ p. p.common ≡ false) (λ p. test p ≡ false) init (λ p h. not_common r.entry.file r.entry.symbol p h) none)
    (each_common (λ p. test p ≡ false) (take row table) (each_weaker (λ (q : Resolved). q.entry.file ≡ r.entry.file → q.entry.symbol ≡ r.entry.symbol → ⊥) (λ (q : Resolved). (size align : ℕ) → q.entry.shape ≡ shapes.Common size align → test (shared_piece q.entry size align) ≡ false) (take row table) (λ q h n a e. other_symbol r.entry.file r.entry.symbol q.entry n a h) (apart_front table row lt apart))) in
    ap (position test) (split_pieces init table row lt ∙ ap (λ s. front ++ cons_option (common_piece r.entry s) back) is)
    ∙ first_place test front (shared_piece r.entry size align) back clear (same_symbol r.entry size align)
  where
    not_common : (file symbol : ℕ) (p : Piece) → p.common ≡ false → is_common_of file symbol p ≡ false
    not_common file symbol p h = and_left (p.common && (p.file == file)) (p.place == symbol) (and_left p.common (p.file == file) h)

-- the number that a row's piece gets is the place where it stands
pub number_is : (init : List Piece) (table : List Resolved) (row : ℕ) (r : Resolved) → row < length table → r ≡ get_or table row no_name → All (λ p. p.common ≡ false) init → AreApart table → entry_piece (init ++ common_pieces table) r.entry r.entry.shape ≡ cond (is_merged r.entry.shape) (Some (length (init ++ common_pieces (take row table)))) None
number_is init table row r lt is none apart =
    subst (λ (q : Resolved). entry_piece (init ++ common_pieces table) q.entry q.entry.shape ≡ cond (is_merged q.entry.shape) (Some (length (init ++ common_pieces (take row table)))) None) (sym is)
    (numbered init table row lt (recursion_from_All (λ p. p.common ≡ false) init none) apart (get_or table row no_name).entry.shape refl)

-- ---- what holds of each
shared_is : (rels : List RelObject) (e : Entry) (size align : ℕ) → e.file < length rels → size ≤ 2 ^ 26 → IsTrue (is_power_of_two align) → IsPiece (shared_piece e size align) × IsPieceOf rels (shared_piece e size align)
shared_is rels e size align known small power = (
  record {
    align_power = common_power align size power;
    size_high = omega arith;
    end_high = omega arith;
    kept = refl;
    padded = refl;
    representable = λ _. max_right align (representable_alignment size);
  },
  record {
    file = known;
    section = λ (h : true ≡ false). absurd cc;
    class = λ (h : true ≡ false). absurd cc;
    within = λ (h : true ≡ false). absurd cc;
    zeros = λ _. refl;
  },
)

pub commons_are : (rels : List RelObject) (table : List Resolved) → IsResolved rels table → AllByRecursion (λ p. (p.common ≡ true) × (IsPiece p × IsPieceOf rels p)) (common_pieces table)
commons_are rels table resolved =
    each_common (λ p. (p.common ≡ true) × (IsPiece p × IsPieceOf rels p)) table
    (recursion_from_All (λ r. (size align : ℕ) → r.entry.shape ≡ shapes.Common size align → (true ≡ true) × (IsPiece (shared_piece r.entry size align) × IsPieceOf rels (shared_piece r.entry size align))) table (λ k d lt size align e.
    let row = resolved.rows_are k d lt in
    let shape : IsShapeOf (symbol_of (file_of rels (get_or table k d).entry.file) (get_or table k d).entry.symbol).place (shapes.Common size align) =
    subst (IsShapeOf (symbol_of (file_of rels (get_or table k d).entry.file) (get_or table k d).entry.symbol).place) e row.shape in
    (refl, shared_is rels (get_or table k d).entry size align row.file shape.1 shape.2)))

-- ---- a row more
one_cons : (o : Option Piece) → option_to_list o ≡ cons_option o []
one_cons None = refl
one_cons (Some p) = refl

pub all_more : (init now new : List Piece) (table : List Resolved) (row : ℕ) (e : Entry) → row < length table → e ≡ (get_or table row no_name).entry → now ≡ init ++ common_pieces (take row table) → new ≡ now ++ option_to_list (common_piece e e.shape) → new ≡ init ++ common_pieces (take (row + 1) table)
all_more init now new table row e lt is so_far step =
    let h : Resolved → Option Piece = λ r. common_piece r.entry r.entry.shape in
    let r = get_or table row no_name in
    let pieces : common_pieces (take (row + 1) table) ≡ common_pieces (take row table) ++ cons_option (h r) [] =
    ap common_pieces (take_more table row no_name lt) ∙ filter_map-append h (take row table) (r ∷ []) in
    step ∙ ap (λ ps. ps ++ option_to_list (common_piece e e.shape)) so_far
    ∙ ap (λ (f : Entry). (init ++ common_pieces (take row table)) ++ option_to_list (common_piece f f.shape)) is
    ∙ ap (λ ps. (init ++ common_pieces (take row table)) ++ ps) (one_cons (h r))
    ∙ append_assoc init (common_pieces (take row table)) (cons_option (h r) [])
    ∙ ap (λ ps. init ++ ps) (sym pieces)

pub numbers_more : (init now : List Piece) (table : List Resolved) (row : ℕ) (e : Entry) (number : Option ℕ) (old new : List (Option ℕ)) → row < length table → e ≡ (get_or table row no_name).entry → All (λ p. p.common ≡ false) init → AreApart table → now ≡ init ++ common_pieces (take row table) → number ≡ cond (is_merged e.shape) (Some (length now)) None → new ≡ old ++ number ∷ [] → old ≡ map (λ r. entry_piece (init ++ common_pieces table) r.entry r.entry.shape) (take row table) → new ≡ map (λ r. entry_piece (init ++ common_pieces table) r.entry r.entry.shape) (take (row + 1) table)
numbers_more init now table row e number old new lt is none apart so_far own step before =
    let g : Resolved → Option ℕ = λ r. entry_piece (init ++ common_pieces table) r.entry r.entry.shape in
    let r = get_or table row no_name in
    let this : number ≡ g r =
    own ∙ ap (λ (f : Entry). cond (is_merged f.shape) (Some (length now)) None) is
    ∙ ap (λ ps. cond (is_merged r.entry.shape) (Some (length ps)) None) so_far
    ∙ sym (number_is init table row r lt refl none apart) in
    step ∙ ap (λ ns. ns ++ number ∷ []) before ∙ ap (λ (n : Option ℕ). map g (take row table) ++ n ∷ []) this ∙ sym (map_more g table row no_name lt)
