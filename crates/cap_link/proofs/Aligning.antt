-- The largest alignment is a power of two, and not too large: every piece ends low, at a multiple of its own alignment.
use Rattle.std.proofs.Common.{◌≡◌, ℕ, ◌+◌, ◌-◌, ◌*◌, ◌%◌, ◌^◌, ◌≤◌, ◌<◌, true, List, [], ◌∷◌, ◌++◌, length, map, refl, sym, ap, ◌∙◌, subst, arith, ⊎_elim, inl, inr, mod-eq_of_lt}
use Rattle.std.specs.Int.{next_multiple_of, is_power_of_two}
use Rattle.std.specs.Int.Count.{ones}
use Rattle.std.specs.List.{AllByRecursion}
use Rattle.std.proofs.lemmas.Bool.{cases_lt, eq-eqb}
use Rattle.std.proofs.lemmas.Nat.{ones_cat, pow_pos}
use Rattle.cap_conc.specs.Exact.{IsExact, IsAlignment}
use Rattle.cap_conc.specs.Computed.{representable_length, representable_alignment}
use Rattle.cap_conc.proofs.Places.{pow_le}
use Rattle.cap_conc.proofs.ComputedLemmas.{IsRepresentableLength-computed, IsRepresentableAlignment-computed}
use Rattle.cap_elf.specs.declared.records.Class.TheVariants.{Ro, Code, Init, Fini, Relro, Data, Bss}
use Rattle.cap_elf.specs.RelObject.{RelObject}
use Rattle.cap_syms.specs.Resolved.{Resolved}
use Rattle.cap_layout.specs.declared.piece.Piece.{Piece}
use Rattle.cap_layout.specs.declared.parts.Sizes.{Sizes}
use Rattle.cap_layout.specs.Places.{address_after, end_after, ends, last_end, of_class}
use Rattle.cap_layout.specs.Pieces.{class_pieces, all_pieces}
use Rattle.cap_layout.specs.Parts.{parts_of, slots_end, init_end, fini_end, array_start, array_end, whole_alignment}
use Rattle.cap_readback.proofs.Aligned.{largest-power, largest-from, largest-to}
use Rattle.cap_link.proofs.Placing.{Segment, joined, IsLow, all-both}
use Rattle.cap_link.proofs.Segmented.{segments_of, zero_pieces, picked-are, pieces-are, ro_from, code_from, init_from, fini_from, relro_from}
use Rattle.cap_link.proofs.Lowering.{HasLowEnds}
use Rattle.cap_link.proofs.Numbers.{all-mapped}

abbrev pub IsPower : ℕ → Type 0
IsPower n = is_power_of_two n ≡ true

ones-one : ones 1 + ones 0 ≡ 1
unfolding ones
ones-one = refl

pub pow-power : (k : ℕ) → IsPower (2 ^ k)
pow-power k =
    let whole : 1 * 2 ^ k + 0 ≡ 2 ^ k = omega arith in
    let one : ones (2 ^ k) ≡ 1 = ap ones (sym whole) ∙ ones_cat k 1 0 (pow_pos k) ∙ ones-one in
    eq-eqb (ones (2 ^ k)) 1 one

-- ---- representable lengths
pub grows : (x : ℕ) → x ≤ representable_length x
grows x = (IsRepresentableLength-computed x).enough

exact-limit : IsExact 0 (2 ^ 26)
exact-limit = inr (26, record { reached = omega arith; below = omega arith }, refl, refl)

power-of : (length alignment : ℕ) → IsAlignment length alignment → IsPower alignment
power-of length alignment (inl h) = subst IsPower (sym h.1) (pow-power 0)
power-of length alignment (inr h) = subst IsPower (sym h.3) (pow-power (h.0 - 9))

low-of : (length alignment : ℕ) → length ≤ 2 ^ 26 → IsAlignment length alignment → alignment ≤ 2 ^ 26
low-of length alignment le (inl h) = omega (arith, h.1)
low-of length alignment le (inr h) =
    let smaller = pow_le (h.0 - 9) h.0 (omega arith) in
    let reached = h.1.reached in
    let e = h.3 in
    omega (arith, smaller, reached, e, le)

pub alignment-power : (x : ℕ) → IsPower (representable_alignment x)
alignment-power x = let a = IsRepresentableAlignment-computed x in power-of a.0 (representable_alignment x) a.2

alignment-low : (x : ℕ) → x ≤ 2 ^ 26 → representable_alignment x ≤ 2 ^ 26
alignment-low x le =
    let a = IsRepresentableAlignment-computed x in
    low-of a.0 (representable_alignment x) (a.1.least (2 ^ 26) le exact-limit) a.2

-- ---- alignments of pieces
from-next : (x y : ℕ) → x ≤ next_multiple_of x y
from-next x y = omega arith

sum-high : (x y k : ℕ) → k ≡ y - x → x < y → y ≤ x + k
sum-high x y k e lt = omega (arith, e, lt)

above : (x y k : ℕ) → y ≤ x → y ≤ x + k
above x y k le = omega (arith, le)

next-high : (x y : ℕ) → 0 < x → y ≤ next_multiple_of x y
next-high x y h =
    ⊎_elim
    (λ (lt : x < y).
    let a : x % y ≡ x = mod-eq_of_lt lt in
    let below : y - x < y = omega (arith, h, lt) in
    let b : (y - x) % y ≡ y - x = mod-eq_of_lt below in
    let c : (y - x % y) % y ≡ y - x = ap (λ (k : ℕ). (y - k) % y) a ∙ b in
    sum-high x y ((y - x % y) % y) c lt)
    (λ (le : y ≤ x). above x y ((y - x % y) % y) le)
    (cases_lt x y)

abbrev pub AlignsLow : Piece → Type 0
AlignsLow p = p.align ≤ 2 ^ 26

aligns-low : (end : ℕ) (ps : List Piece) → 0 < end → AllByRecursion IsLow (ends end ps) → AllByRecursion AlignsLow ps
aligns-low end [] some h = tt
aligns-low end (p ∷ ps) some h =
    let high = next-high end p.align some in
    let low : address_after end p + p.padded ≤ 2 ^ 26 = h.0 in
    let from : end ≤ address_after end p = from-next end p.align in
    (omega (arith, high, low), aligns-low (end_after end p) ps (omega (arith, from, some)) h.1)

last-above : (end : ℕ) (ps : List Piece) → end ≤ last_end end ps
last-above end [] = omega arith
last-above end (p ∷ ps) = let rest = last-above (end_after end p) ps in let from = from-next end p.align in omega (arith, rest, from)

start-above : (end : ℕ) (ps : List Piece) → end ≤ array_start end ps
start-above end [] = omega arith
start-above end (p ∷ ps) = from-next end 16

end-above : (end : ℕ) (ps : List Piece) → end ≤ array_end end ps
end-above end ps = let a = start-above end ps in let b = last-above (array_start end ps) ps in omega (arith, a, b)

positive : {a b : ℕ} → 0 < a → a ≤ b → 0 < b
positive h g = omega (arith, h, g)

more : {a : ℕ} (b : ℕ) → 0 < a → 0 < a + b
more b h = omega (arith, h)

joined-all : (P : Piece → Type 0) (ss : List Segment) → AllByRecursion (λ s. AllByRecursion P s.pieces) ss → AllByRecursion P (joined ss)
joined-all P [] h = tt
joined-all P (s ∷ ss) h = all-both P s.pieces (joined ss) h.0 (joined-all P ss h.1)

pub pieces-align : (rels : List RelObject) (table : List Resolved) (ps : List Piece) (n : Sizes) → ps ≡ all_pieces rels table → HasLowEnds ps n → AllByRecursion AlignsLow ps
pieces-align rels table ps n e h =
    let at = parts_of ps n in
    let p = picked-are rels table ps e in
    let is : ps ≡ joined (segments_of rels table ps n) = e ∙ pieces-are rels table (ro_from ps n) (code_from ps n) (init_from ps n) (fini_from ps n) (relro_from ps n) at.data_start at.file_end in
    let to : (xs ys : List Piece) → xs ≡ ys → AllByRecursion AlignsLow xs → AllByRecursion AlignsLow ys = λ xs ys x y. subst (AllByRecursion AlignsLow) x y in
    let a0 : 0 < ro_from ps n = omega arith in
    let a1 : 0 < at.ro_end = positive a0 (last-above (ro_from ps n) (of_class Ro ps)) in
    let a2 : 0 < at.code_start = positive a1 (from-next at.ro_end 4096) in
    let a3 : 0 < code_from ps n = more (16 * n.stubs) a2 in
    let a4 : 0 < at.code_end = positive a3 (last-above (code_from ps n) (of_class Code ps)) in
    let a5 : 0 < at.table_start = positive a4 (from-next at.code_end 4096) in
    let a6 : 0 < at.slots_at = more (16 * n.dynamics) a5 in
    let a7 : 0 < slots_end at n = more (16 * n.slots) a6 in
    let a8 : 0 < init_from ps n = positive a7 (start-above (slots_end at n) (of_class Init ps)) in
    let a9 : 0 < init_end ps at n = positive a7 (end-above (slots_end at n) (of_class Init ps)) in
    let b0 : 0 < fini_from ps n = positive a9 (start-above (init_end ps at n) (of_class Fini ps)) in
    let b1 : 0 < fini_end ps at n = positive a9 (end-above (init_end ps at n) (of_class Fini ps)) in
    let b2 : 0 < last_end (fini_end ps at n) (of_class Relro ps) = positive b1 (last-above (fini_end ps at n) (of_class Relro ps)) in
    let b3 : 0 < at.table_end = positive (positive b2 (from-next (last_end (fini_end ps at n) (of_class Relro ps)) 4096)) (grows (next_multiple_of (last_end (fini_end ps at n) (of_class Relro ps)) 4096)) in
    let b4 : 0 < at.file_end = positive b3 (last-above at.table_end (of_class Data ps)) in
    let all : AllByRecursion AlignsLow (joined (segments_of rels table ps n)) = joined-all AlignsLow (segments_of rels table ps n) (
      to (of_class Ro ps) (class_pieces rels Ro) p.ro (aligns-low (ro_from ps n) (of_class Ro ps) a0 h.ro),
      (
        to (of_class Code ps) (class_pieces rels Code) p.code (aligns-low (code_from ps n) (of_class Code ps) a3 h.code),
        (
          to (of_class Init ps) (class_pieces rels Init) p.init (aligns-low (init_from ps n) (of_class Init ps) a8 h.init),
          (
            to (of_class Fini ps) (class_pieces rels Fini) p.fini (aligns-low (fini_from ps n) (of_class Fini ps) b0 h.fini),
            (
              to (of_class Relro ps) (class_pieces rels Relro) p.relro (aligns-low (relro_from ps n) (of_class Relro ps) b1 h.relro),
              (
                to (of_class Data ps) (class_pieces rels Data) p.data_pieces (aligns-low at.data_start (of_class Data ps) b3 h.written),
                (to (of_class Bss ps) (zero_pieces rels table) p.bss (aligns-low at.file_end (of_class Bss ps) b4 h.bss), tt),
              ),
            ),
          ),
        ),
      ),
    ) in
    subst (AllByRecursion AlignsLow) (sym is) all

-- ---- the alignment of the file
pub record IsWellAligned (align : ℕ) : Type 0 where
  pub power : is_power_of_two align ≡ true
  pub page : 4096 ≤ align
  pub small : align ≤ 2 ^ 26

abbrev pub HasPower : Piece → Type 0
HasPower p = is_power_of_two p.align ≡ true

pub whole-aligned : (ps : List Piece) (end : ℕ) → end ≤ 2 ^ 26 → AllByRecursion HasPower ps → AllByRecursion AlignsLow ps → IsWellAligned (whole_alignment ps end)
whole-aligned ps end le powers low =
    let aligns = map (λ (p : Piece). p.align) ps ++ representable_alignment end ∷ [] in
    let all_powers : AllByRecursion IsPower aligns = all-both IsPower (map (λ (p : Piece). p.align) ps) (representable_alignment end ∷ []) (all-mapped HasPower IsPower (λ (p : Piece). p.align) ps (λ p h. h) powers) (alignment-power end, tt) in
    let all_low : AllByRecursion IsLow aligns = all-both IsLow (map (λ (p : Piece). p.align) ps) (representable_alignment end ∷ []) (all-mapped AlignsLow IsLow (λ (p : Piece). p.align) ps (λ p h. h) low) (alignment-low end le, tt) in
    record {
      power = largest-power 4096 aligns (pow-power 12) all_powers;
      page = largest-from 4096 4096 aligns (omega arith);
      small = largest-to (2 ^ 26) 4096 aligns (omega arith) all_low;
    }
