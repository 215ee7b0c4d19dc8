-- In a linked file the bounds of data and of code are exact wherever it is loaded, and those of data lie apart.
use Rattle.std.proofs.Common.{◌≡◌, ℕ, ◌+◌, ◌-◌, ◌*◌, ◌≤◌, ◌<◌, min, max, Bool, true, false, not, cond, List, [], ◌∷◌, ◌++◌, length, map, refl, sym, ap, ◌∙◌, subst, arith, ◌⊎◌, inl, inr, ⊎_elim, Option, Some}
use Rattle.std.specs.Prelude.{AllPairs, IfSome, filter, slice_index_or, nat_lt, ◌&&◌}
use Rattle.std.specs.Int.{next_multiple_of}
use Rattle.std.specs.List.{reduce, AllByRecursion}
use Rattle.std.proofs.lemmas.Bool.{cases_order}
use Rattle.cap_base.specs.Lists.{share_byte}
use Rattle.cap_base.specs.declared.kind.Kind.{Kind}
use Rattle.cap_conc.specs.Computed.{is_exact}
use Rattle.cap_elf.specs.declared.records.Segment.{Segment}
use Rattle.cap_elf.specs.Ends.{end_of, writes, has_memory}
use Rattle.cap_elf.specs.IsRelRead.{IsRelRead}
use Rattle.cap_elf.specs.RelObject.{RelObject}
use Rattle.cap_emit.specs.Records.{segment_from, segments_of}
use Rattle.cap_fits.specs.Fits.{Fits, Apart, IsOneOrApart, data_intervals}
use Rattle.cap_fits.specs.Places.{hull, unless_empty, code_range}
use Rattle.cap_syms.specs.IsResolved.{IsResolved}
use Rattle.cap_syms.specs.Output.{is_program, soname_of}
use Rattle.cap_layout.specs.declared.parts.Parts.{Parts}
use Rattle.cap_layout.specs.Exact.{IsExactlyLaid, LayoutsAreExact, CutsArePieces}
use Rattle.cap_layout.specs.Pieces.{PieceList, piece_of, all_pieces}
use Rattle.cap_layout.specs.Points.{Laid, address_of, piece_interval}
use Rattle.cap_table.specs.Targets.{Named}
use Rattle.cap_table.specs.Planned.{Planned, planned, exported, slots_of}
use Rattle.cap_table.specs.Lists.{CapTableValue, null_dyn_symbol, dyn_symbol, filled}
use Rattle.cap_readback.specs.Plan.{AreLaid}
use Rattle.cap_readback.specs.View.{dynamics}
use Rattle.cap_readback.proofs.Laying.{laid-is}
use Rattle.cap_link.specs.Inputs.{Input}
use Rattle.cap_link.specs.Linked.{Linked}
use Rattle.cap_link.specs.Content.{content_of, pieces_by_class}
use Rattle.cap_link.specs.Laws.{IsAccepted, IsExactAndApart}
use Rattle.cap_link.specs.View.{linked_view}
use Rattle.cap_link.proofs.Numbers.{all-weaker}
use Rattle.cap_link.proofs.Filling.{IsHeld, held-at, backward}
use Rattle.cap_link.proofs.Holding.{pieces-held}
use Rattle.cap_link.proofs.FilesAre.{files-sound}
use Rattle.cap_link.proofs.Passes.{link-passed, plan-passed, IsPlanned}
use Rattle.cap_link.proofs.Accepted.{LowerLaws, bridge, caps-made}
use Rattle.cap_link.proofs.Bounding.{IsBounded, CutsHavePieces}
use Rattle.cap_link.proofs.Meaning.{IsSoundLink, two-parts, data-bounded}

-- ---- exact bounds of data
empty-exact : (base : ℕ) → is_exact base 0 ≡ true
unfolding is_exact
empty-exact base = refl

data-exact : (laid : Laid) → IsExactlyLaid laid → (k : ℕ) (x : ℕ × ℕ) → IsBounded laid x → is_exact (k * laid.parts.align + x.0) x.1 ≡ true
data-exact laid exact k x (inl h) = subst (λ (y : ℕ × ℕ). is_exact (k * laid.parts.align + y.0) y.1 ≡ true) (sym h.1.is) (exact.pieces k h.0 h.1.inside h.1.split)
data-exact laid exact k x (inr h) = ap (λ (n : ℕ). is_exact (k * laid.parts.align + x.0) n) h.none ∙ empty-exact (k * laid.parts.align + x.0)

-- ---- data apart
not-below : (a b : ℕ) → b ≤ a → nat_lt a b ≡ false
not-below a b h = grind arith

behind-apart : (a n b m : ℕ) → a + n ≤ b → share_byte (a, n) (b, m) ≡ false
behind-apart a n b m h = not-below (max a b) (min (a + n) (b + m)) (omega (arith, h))

before-apart : (a n b m : ℕ) → b + m ≤ a → share_byte (a, n) (b, m) ≡ false
before-apart a n b m h = not-below (max a b) (min (a + n) (b + m)) (omega (arith, h))

empty-first : (a n b m : ℕ) → n ≡ 0 → share_byte (a, n) (b, m) ≡ false
empty-first a n b m h = not-below (max a b) (min (a + n) (b + m)) (omega (arith, h))

empty-second : (a n b m : ℕ) → m ≡ 0 → share_byte (a, n) (b, m) ≡ false
empty-second a n b m h = not-below (max a b) (min (a + n) (b + m)) (omega (arith, h))

pieces-apart : (laid : Laid) → IsExactlyLaid laid → (i j : ℕ) → i < length laid.pieces.all → j < length laid.pieces.all → IsOneOrApart (piece_interval laid i) (piece_interval laid j)
pieces-apart laid exact i j inside other =
    let a = address_of laid i in
    let b = address_of laid j in
    let n = (piece_of laid.pieces.all i).padded in
    let m = (piece_of laid.pieces.all j).padded in
    ⊎_elim (λ (same : i ≡ j). inl (ap (piece_interval laid) same))
    (λ (apart : (i < j) ⊎ (j < i)).
    ⊎_elim (λ (lt : i < j). inr (behind-apart a n b m (exact.apart i j lt other)))
    (λ (lt : j < i). inr (before-apart a n b m (exact.apart j i lt inside))) apart)
    (cases_order i j)

data-apart : (laid : Laid) → IsExactlyLaid laid → (x y : ℕ × ℕ) → IsBounded laid x → IsBounded laid y → IsOneOrApart x y
data-apart laid exact x y (inl h) (inl g) =
    subst (λ (v : ℕ × ℕ). IsOneOrApart v y) (sym h.1.is) (subst (λ (v : ℕ × ℕ). IsOneOrApart (piece_interval laid h.0) v) (sym g.1.is) (pieces-apart laid exact h.0 g.0 h.1.inside g.1.inside))
data-apart laid exact x y (inr h) g = inr (empty-first x.0 x.1 y.0 y.1 h.none)
data-apart laid exact x y (inl h) (inr g) = inr (empty-second x.0 x.1 y.0 y.1 g.none)

data-within : (laid : Laid) → IsExactlyLaid laid → (x : ℕ × ℕ) → IsBounded laid x → x.0 + x.1 ≤ laid.parts.mem_end
data-within laid exact x (inl h) = subst (λ (y : ℕ × ℕ). y.0 + y.1 ≤ laid.parts.mem_end) (sym h.1.is) (exact.within h.0 h.1.inside)
data-within laid exact x (inr h) = let none = h.none in let within = h.within in omega (arith, none, within)

all-pairs : {X : Type 0} (P : X → Type 0) (R : X → X → Type 0) (xs : List X) → ((x y : X) → P x → P y → R x y) → AllByRecursion P xs → AllPairs R xs
all-pairs P R xs f h i j d lt inside = f (slice_index_or xs i d) (slice_index_or xs j d) (held-at P xs i d (omega (arith, lt, inside)) h) (held-at P xs j d inside h)

next-above : (x y : ℕ) → x ≤ next_multiple_of x y
next-above x y = omega arith

within-span : (end place span : ℕ) → place ≤ end → end ≤ span → place ≤ span
within-span end place span a b = omega (arith, a, b)

-- ---- the range of code
least-first : (a b : ℕ) → min (min 0 a) b ≡ 0
least-first a b = omega arith

last-most : (a b c : ℕ) → a ≤ c → b ≤ c → max (max a b) c ≡ c
last-most a b c h g = omega (arith, h, g)

is-below : (a b : ℕ) → a < b → nat_lt a b ≡ true
is-below a b h = grind arith

abbrev pub part_of : Segment → ℕ × ℕ
part_of s = (s.vaddr, end_of s)

abbrev pub parts_if : Bool → Bool → Bool → Parts → List (ℕ × ℕ)
parts_if read run fixed at =
    let first = segment_from 4 at.align 0 at.ro_end at.ro_end in
    let second = segment_from 5 at.align at.code_start at.code_end at.code_end in
    map part_of (cond read (first ∷ cond run (second ∷ []) []) (cond run (second ∷ []) [])) ++ cond fixed ((at.table_start, at.table_end) ∷ []) []

range-with : (run : Bool) (at : Parts) (count : ℕ) → AreLaid at count → reduce hull (parts_if true run true at) ≡ Some (0, at.table_end)
range-with true at count h =
    let ro = h.ro in
    let code = h.code in
    let code_end = h.code_end in
    let dynamic = h.dynamic in
    let entries = h.entries in
    let low : 0 + (at.ro_end - 0) ≤ at.table_end = omega (arith, ro, code, code_end, dynamic, entries) in
    let run : at.code_start + (at.code_end - at.code_start) ≤ at.table_end = omega (arith, code, code_end, dynamic, entries) in
    ap (λ (x : ℕ × ℕ). Some x) (two-parts (min (min 0 at.code_start) at.table_start) (max (max (0 + (at.ro_end - 0)) (at.code_start + (at.code_end - at.code_start))) at.table_end) 0 at.table_end
    (least-first at.code_start at.table_start) (last-most (0 + (at.ro_end - 0)) (at.code_start + (at.code_end - at.code_start)) at.table_end low run))
range-with false at count h =
    let ro = h.ro in
    let code = h.code in
    let code_end = h.code_end in
    let dynamic = h.dynamic in
    let entries = h.entries in
    let low : 0 + (at.ro_end - 0) ≤ at.table_end = omega (arith, ro, code, code_end, dynamic, entries) in
    let least : min 0 at.table_start ≡ 0 = omega arith in
    let most : max (0 + (at.ro_end - 0)) at.table_end ≡ at.table_end = omega (arith, low) in
    ap (λ (x : ℕ × ℕ). Some x) (two-parts (min 0 at.table_start) (max (0 + (at.ro_end - 0)) at.table_end) 0 at.table_end least most)

parts-are : (at : Parts) → map part_of (filter (λ s. not (writes s) && has_memory s) (segments_of at)) ++ unless_empty (Some (at.table_start, at.table_end)) ≡ parts_if (nat_lt 0 (at.ro_end - 0)) (nat_lt 0 (at.code_end - at.code_start)) (nat_lt at.table_start at.table_end) at
parts-are at = refl

range-is : (at : Parts) (count : ℕ) → AreLaid at count → reduce hull (map part_of (filter (λ s. not (writes s) && has_memory s) (segments_of at)) ++ unless_empty (Some (at.table_start, at.table_end))) ≡ Some (0, at.table_end)
range-is at count h =
    let headers = h.headers in
    let dynamic = h.dynamic in
    let entries = h.entries in
    let some = h.some_entry in
    let run = nat_lt 0 (at.code_end - at.code_start) in
    let read : nat_lt 0 (at.ro_end - 0) ≡ true = is-below 0 (at.ro_end - 0) (omega (arith, headers)) in
    let fixed : nat_lt at.table_start at.table_end ≡ true = is-below at.table_start at.table_end (omega (arith, dynamic, entries, some)) in
    ap (reduce hull) (parts-are at)
    ∙ ap (λ (b : Bool). reduce hull (parts_if b run (nat_lt at.table_start at.table_end) at)) read
    ∙ ap (λ (b : Bool). reduce hull (parts_if true run b at)) fixed
    ∙ range-with run at count h

code-range-is : (l : Linked) (count : ℕ) → AreLaid l.laid.parts count → code_range (linked_view l) ≡ Some (0, l.laid.parts.table_end)
unfolding linked_view
code-range-is l count h = range-is l.laid.parts count h

abbrev pub IsExactRange : ℕ → ℕ × ℕ → Type 0
IsExactRange base c = is_exact (base + c.0) (c.1 - c.0) ≡ true

code-exact : (laid : Laid) → IsExactlyLaid laid → (k : ℕ) → IsExactRange (k * laid.parts.align) (0, laid.parts.table_end)
code-exact laid exact k =
    let from : k * laid.parts.align + 0 ≡ k * laid.parts.align = omega arith in
    let long : laid.parts.table_end - 0 ≡ laid.parts.table_end = omega arith in
    ap (λ (n : ℕ). is_exact n (laid.parts.table_end - 0)) from ∙ ap (λ (n : ℕ). is_exact (k * laid.parts.align) n) long ∙ exact.code k

-- ---- a link
rows-planned : (needed : List (List ℕ)) (soname : Option (List ℕ)) (l : Linked) → IsPlanned l.named l.laid.pieces.all needed soname l.lists.plan → (l.lists.plan.symbols ≡ exported l.named.table) × (l.lists.plan.slots ≡ slots_of l.named l.lists.plan.steps)
unfolding planned
rows-planned needed soname l h = (ap (λ (p : Planned). p.symbols) h.is, ap (λ (p : Planned). p.slots) h.is)

symbols-listed : (l : Linked) → l.lists ≡ filled l.named l.lists.plan l.laid → l.lists.symbols ≡ null_dyn_symbol ∷ map (dyn_symbol l.named l.laid) l.lists.plan.symbols
unfolding filled
symbols-listed l is = ap (λ (x : CapTableValue). x.symbols) is

parts-laid : LowerLaws → (inputs : List Input) (kind : Kind) (l : Linked) → IsAccepted inputs kind l → AreLaid l.laid.parts (length (dynamics (content_of l)))
unfolding content_of
parts-laid laws inputs kind l accepted = laid-is (content_of l) (pieces_by_class l) (bridge laws inputs kind l accepted).plan.layout

-- what layouts give, for those above
pub record LayoutFacts : Type 0 where
  pub exact : LayoutsAreExact
  pub cuts : CutsArePieces

pub sound-link : LowerLaws → LayoutFacts → (inputs : List Input) (kind : Kind) (l : Linked) → IsAccepted inputs kind l → IsSoundLink l
sound-link laws facts inputs kind l accepted =
    let passed = link-passed inputs kind l accepted.link_is in
    let files = passed.files in
    let table = passed.table in
    let p = passed.passes in
    let sound = files-sound laws.read inputs files accepted.inputs_are.names accepted.inputs_are.files passed.files_are in
    let read = backward IsRelRead files.rels sound.rels in
    let resolved : IsResolved files.rels table = laws.resolve files.rels (is_program kind) table read (files.dyns, passed.table_is) in
    let planned_is = plan-passed l.named l.laid.pieces.all files.needed (soname_of kind) l.lists.plan p.plan in
    let rows = rows-planned files.needed (soname_of kind) l planned_is in
    let ps = l.laid.pieces.all in
    let all_is : ps ≡ all_pieces files.rels table = ap (λ (q : PieceList). q.all) p.pieces in
    let held : AllByRecursion (IsHeld files.rels) ps = subst (AllByRecursion (IsHeld files.rels)) (sym all_is) (pieces-held files.rels table sound.rels resolved).0 in
    let laid_rels : files.rels ≡ l.laid.rels = sym (ap (λ (x : Laid). x.rels) p.laid) in
    let named_rels : files.rels ≡ l.named.rels = sym (ap (λ (x : Named). x.rels) p.named) in
    let cuts : CutsHavePieces files.rels ps = λ file section symbol a b c. facts.cuts files.rels table l.laid.pieces file section symbol read resolved p.apart a b c in
    record {
      laid = record {
        read = subst (AllByRecursion IsRelRead) laid_rels sound.rels;
        pieces = subst (λ (rels : List RelObject). AllByRecursion (IsHeld rels) ps) laid_rels held;
        cuts = subst (λ (rels : List RelObject). CutsHavePieces rels ps) laid_rels cuts;
        exact = facts.exact files.rels table l.laid.pieces l.lists.plan.sizes l.laid read resolved p.apart p.placed;
      };
      same = sym laid_rels ∙ named_rels;
      resolved = subst (λ (x : Named). IsResolved x.rels x.table) (sym p.named) resolved;
      rows = rows.0;
      symbols = symbols-listed l p.lists;
      slots = rows.1;
      caps = caps-made l p.lists;
      count = length (dynamics (content_of l));
      parts = parts-laid laws inputs kind l accepted;
    }

align-is : (l : Linked) → (linked_view l).align ≡ l.laid.parts.align
unfolding linked_view
align-is l = refl

span-above : (l : Linked) → l.laid.parts.mem_end ≤ (linked_view l).span
unfolding linked_view
span-above l = next-above l.laid.parts.mem_end 4096

fits-of : (l : Linked) → IsSoundLink l → Fits (linked_view l)
fits-of l h =
    let all = data-bounded l h in
    let align : (linked_view l).align ≡ l.laid.parts.align = align-is l in
    record {
      data_exact = λ k.
          backward (λ (i : ℕ × ℕ). is_exact (k * (linked_view l).align + i.0) i.1 ≡ true) (data_intervals (linked_view l))
          (all-weaker (IsBounded l.laid) (λ (i : ℕ × ℕ). is_exact (k * (linked_view l).align + i.0) i.1 ≡ true) (data_intervals (linked_view l))
          (λ x b. ap (λ (n : ℕ). is_exact (k * n + x.0) x.1) align ∙ data-exact l.laid h.laid.exact k x b) all);
      code_exact = λ k.
          subst (λ (o : Option (ℕ × ℕ)). IfSome o (IsExactRange (k * (linked_view l).align))) (sym (code-range-is l h.count h.parts))
          (subst (λ (n : ℕ). IsExactRange (k * n) (0, l.laid.parts.table_end)) (sym align) (code-exact l.laid h.laid.exact k));
    }

apart-of : (l : Linked) → IsSoundLink l → Apart (linked_view l)
apart-of l h =
    let all = data-bounded l h in
    let span : l.laid.parts.mem_end ≤ (linked_view l).span = span-above l in
    record {
      apart = all-pairs (IsBounded l.laid) IsOneOrApart (data_intervals (linked_view l)) (λ x y a b. data-apart l.laid h.laid.exact x y a b) all;
      within =
          backward (λ (i : ℕ × ℕ). i.0 + i.1 ≤ (linked_view l).span) (data_intervals (linked_view l))
          (all-weaker (IsBounded l.laid) (λ (i : ℕ × ℕ). i.0 + i.1 ≤ (linked_view l).span) (data_intervals (linked_view l))
          (λ x b. within-span l.laid.parts.mem_end (x.0 + x.1) (linked_view l).span (data-within l.laid h.laid.exact x b) span) all);
    }

pub exact-and-apart : LowerLaws → LayoutFacts → IsExactAndApart
exact-and-apart laws facts inputs kind l accepted = let h = sound-link laws facts inputs kind l accepted in (fits-of l h, apart-of l h)
