-- All addresses of a layout are low.
use Rattle.std.proofs.Common.{◌≡◌, ℕ, suc, zero, ◌+◌, ◌^◌, ◌≤◌, Bool, true, false, cond, List, [], ◌∷◌, ◌++◌, refl, sym, ◌∙◌, subst, arith, Option, Some, None}
use Rattle.std.specs.Prelude.{slice_index, slice_index_or}
use Rattle.std.specs.Option.{option_map, option_or}
use Rattle.std.specs.List.{AllByRecursion}
use Rattle.cap_elf.specs.declared.records.Class.TheVariants.{Ro, Code, Init, Fini, Relro, Data, Bss}
use Rattle.cap_elf.specs.RelObject.{RelObject}
use Rattle.cap_syms.specs.Resolved.{Resolved}
use Rattle.cap_layout.specs.declared.piece.Piece.{Piece}
use Rattle.cap_layout.specs.declared.parts.Sizes.{Sizes}
use Rattle.cap_layout.specs.Places.{addresses, ends, of_class}
use Rattle.cap_layout.specs.Pieces.{class_pieces, all_pieces, no_piece, piece_of, last_where}
use Rattle.cap_layout.specs.Parts.{parts_of, addresses_of, padded_ends, names_end, stubs_end, slots_end}
use Rattle.cap_layout.specs.Points.{Laid, address_of}
use Rattle.cap_link.proofs.Placing.{joined, joined_addresses, IsLow, AreLow, low-last, low-joined, all-front, all-back}
use Rattle.cap_link.proofs.Segmented.{segments_of, zero_pieces, picked-are, pieces-are, addresses-are, ro_from, code_from, init_from, fini_from, relro_from}

abbrev pub some : ℕ → Option ℕ
some x = Some x

-- ---- the ends
pub record HasLowEnds (ps : List Piece) (n : Sizes) : Type 0 where
  pub ro : AllByRecursion IsLow (ends (ro_from ps n) (of_class Ro ps))
  pub code : AllByRecursion IsLow (ends (code_from ps n) (of_class Code ps))
  pub init : AllByRecursion IsLow (ends (init_from ps n) (of_class Init ps))
  pub fini : AllByRecursion IsLow (ends (fini_from ps n) (of_class Fini ps))
  pub relro : AllByRecursion IsLow (ends (relro_from ps n) (of_class Relro ps))
  pub written : AllByRecursion IsLow (ends (parts_of ps n).data_start (of_class Data ps))
  pub bss : AllByRecursion IsLow (ends (parts_of ps n).file_end (of_class Bss ps))
  pub slots : slots_end (parts_of ps n) n ≤ 2 ^ 26
  pub table : (parts_of ps n).table_end ≤ 2 ^ 26
  pub memory : (parts_of ps n).mem_end ≤ 2 ^ 26

pub low-ends : (ps : List Piece) (n : Sizes) → AllByRecursion IsLow (padded_ends ps n) → HasLowEnds ps n
low-ends ps n h =
    let at = parts_of ps n in
    let ro = ends (ro_from ps n) (of_class Ro ps) in
    let code = ends (code_from ps n) (of_class Code ps) in
    let init = ends (init_from ps n) (of_class Init ps) in
    let fini = ends (fini_from ps n) (of_class Fini ps) in
    let relro = ends (relro_from ps n) (of_class Relro ps) in
    let written = ends at.data_start (of_class Data ps) in
    let bss = ends at.file_end (of_class Bss ps) in
    let tables = at.symbols_at ∷ at.relas_at ∷ at.cap_relocs_at ∷ at.hash_at ∷ at.names_at ∷ names_end at n ∷ [] in
    let x1 = tables ++ ro in
    let x2 = x1 ++ (stubs_end at n ∷ code) in
    let x3 = x2 ++ (at.slots_at ∷ slots_end at n ∷ init) in
    let x4 = x3 ++ fini in
    let x5 = x4 ++ relro in
    let x6 = x5 ++ (at.table_end ∷ written) in
    let h6 = all-front IsLow x6 bss h in
    let h5 = all-front IsLow x5 (at.table_end ∷ written) h6 in
    let h4 = all-front IsLow x4 relro h5 in
    let h3 = all-front IsLow x3 fini h4 in
    let h2 = all-front IsLow x2 (at.slots_at ∷ slots_end at n ∷ init) h3 in
    let h1 = all-front IsLow x1 (stubs_end at n ∷ code) h2 in
    let data_low = all-back IsLow x5 (at.table_end ∷ written) h6 in
    let bss_low = all-back IsLow x6 bss h in
    let slots_low = all-back IsLow x2 (at.slots_at ∷ slots_end at n ∷ init) h3 in
    let code_low = all-back IsLow x1 (stubs_end at n ∷ code) h2 in
    record {
      ro = all-back IsLow tables ro h1;
      code = code_low.1;
      init = slots_low.1.1;
      fini = all-back IsLow x3 fini h4;
      relro = all-back IsLow x4 relro h5;
      written = data_low.1;
      bss = bss_low;
      slots = slots_low.1.0;
      table = data_low.0;
      memory = low-last at.file_end (of_class Bss ps) (low-last at.table_end (of_class Data ps) data_low.0 data_low.1) bss_low;
    }

pub low-pieces : (rels : List RelObject) (table : List Resolved) (ps : List Piece) (n : Sizes) (addresses : List ℕ) → ps ≡ all_pieces rels table → addresses ≡ addresses_of ps n → HasLowEnds ps n → AreLow ps addresses
low-pieces rels table ps n addresses e f h =
    let at = parts_of ps n in
    let p = picked-are rels table ps e in
    let is : ps ≡ joined (segments_of rels table ps n) = e ∙ pieces-are rels table (ro_from ps n) (code_from ps n) (init_from ps n) (fini_from ps n) (relro_from ps n) at.data_start at.file_end in
    let its : addresses ≡ joined_addresses (segments_of rels table ps n) = f ∙ addresses-are rels table ps n e in
    let to : (end : ℕ) (xs ys : List Piece) → xs ≡ ys → AllByRecursion IsLow (ends end xs) → AllByRecursion IsLow (ends end ys) = λ end xs ys x y. subst (λ (qs : List Piece). AllByRecursion IsLow (ends end qs)) x y in
    let all : AreLow (joined (segments_of rels table ps n)) (joined_addresses (segments_of rels table ps n)) = low-joined (segments_of rels table ps n) (
      to (ro_from ps n) (of_class Ro ps) (class_pieces rels Ro) p.ro h.ro,
      (
        to (code_from ps n) (of_class Code ps) (class_pieces rels Code) p.code h.code,
        (
          to (init_from ps n) (of_class Init ps) (class_pieces rels Init) p.init h.init,
          (
            to (fini_from ps n) (of_class Fini ps) (class_pieces rels Fini) p.fini h.fini,
            (
              to (relro_from ps n) (of_class Relro ps) (class_pieces rels Relro) p.relro h.relro,
              (
                to at.data_start (of_class Data ps) (class_pieces rels Data) p.data_pieces h.written,
                (to at.file_end (of_class Bss ps) (zero_pieces rels table) p.bss h.bss, tt),
              ),
            ),
          ),
        ),
      ),
    ) in
    subst (λ (qs : List Piece). AreLow qs addresses) (sym is) (subst (λ (bs : List ℕ). AreLow (joined (segments_of rels table ps n)) bs) (sym its) all)

low-at : (ps : List Piece) (bs : List ℕ) (i : ℕ) → AreLow ps bs → slice_index bs i + (piece_of ps i).padded ≤ 2 ^ 26
low-at [] [] i h = omega arith
low-at [] (b ∷ bs) i h = absurd h
low-at (p ∷ ps) [] i h = absurd h
low-at (p ∷ ps) (b ∷ bs) zero h = h.0
low-at (p ∷ ps) (b ∷ bs) (suc i) h = low-at ps bs i h.1

-- ---- sizes and padded sizes
abbrev pub Fits : Piece → Type 0
Fits p = p.size ≤ p.padded

pub at-index : {X : Type 0} (P : X → Type 0) (xs : List X) (i : ℕ) (d : X) → P d → AllByRecursion P xs → P (slice_index_or xs i d)
at-index P [] i d e h = e
at-index P (x ∷ xs) zero d e h = h.0
at-index P (x ∷ xs) (suc i) d e h = at-index P xs i d e h.1

-- ---- places
-- each piece ends low, and has the place of its size
pub record IsLowLaid (laid : Laid) : Type 0 where
  pub ends : (i : ℕ) → address_of laid i + (piece_of laid.pieces.all i).padded ≤ 2 ^ 26
  pub fits : (i : ℕ) → (piece_of laid.pieces.all i).size ≤ (piece_of laid.pieces.all i).padded

pub low-laid : (laid : Laid) → AllByRecursion Fits laid.pieces.all → AreLow laid.pieces.all laid.addresses → IsLowLaid laid
low-laid laid fit low = record {
  ends = λ i. low-at laid.pieces.all laid.addresses i low;
  fits = λ i. at-index Fits laid.pieces.all i no_piece (omega arith) fit;
}

-- what the last that passes has
passed-first : {X : Type 0} (b : Bool) (p : X → Bool) (x d : X) (xs : List X) (i : ℕ) → p x ≡ b → cond b (Some 0) None ≡ Some i → p (slice_index_or (x ∷ xs) i d) ≡ true
passed-first true p x d xs zero e h = e
passed-first true p x d xs (suc i) e h = absurd (cc)
passed-first false p x d xs i e h = absurd (cc)

some-is : (a b : ℕ) → some a ≡ some b → a ≡ b
some-is a b h = cc

passed-later : {X : Type 0} (p : X → Bool) (x d : X) (xs : List X) (o : Option ℕ) (i : ℕ) → ((k : ℕ) → o ≡ Some k → p (slice_index_or xs k d) ≡ true) → option_or (option_map (λ k. k + 1) o) (cond (p x) (Some 0) None) ≡ Some i → p (slice_index_or (x ∷ xs) i d) ≡ true
passed-later p x d xs None i h e = passed-first (p x) p x d xs i refl e
passed-later p x d xs (Some k) i h e =
    let same : suc k ≡ i = omega (arith, some-is (k + 1) i e) in
    subst (λ j. p (slice_index_or (x ∷ xs) j d) ≡ true) same (h k refl)

pub last-passes : {X : Type 0} (p : X → Bool) (xs : List X) (d : X) (i : ℕ) → last_where p xs ≡ Some i → p (slice_index_or xs i d) ≡ true
last-passes p [] d i h = absurd (cc)
last-passes p (x ∷ xs) d i h = passed-later p x d xs (last_where p xs) i (λ k e. last-passes p xs d k e) h
