-- The bytes of each piece are as long as its place, also when code is relocated.
use Rattle.std.proofs.Common.{◌≡◌, ℕ, suc, zero, ◌+◌, ◌-◌, ◌≤◌, ◌<◌, Bool, true, false, not, cond, List, [], ◌∷◌, ◌++◌, length, map, fold, take, drop, refl, sym, ap, ◌∙◌, subst, arith, length-append, length-drop, Result, Ok, ◌⊎◌, inl, inr}
use Rattle.std.specs.Prelude.{All, filter, zip, slice_index_or, slice_set, slice_range, ◌&&◌, ◌||◌, ℤ}
use Rattle.std.specs.List.{AllByRecursion}
use Rattle.std.proofs.lemmas.List.{length-take-le, length-replicate}
use Rattle.byteorder.specs.Numbers.{length-bytes_low_first}
use Rattle.cap_base.specs.Field.{number_at, number_bytes}
use Rattle.cap_base.specs.Steps.{steps, in_file}
use Rattle.cap_elf.specs.declared.records.Class.{Class}
use Rattle.cap_elf.specs.declared.records.Class.TheVariants.{Ro, Code, Init, Fini, Relro, Data, Bss, Dropped}
use Rattle.cap_elf.specs.declared.records.Reloc.{Reloc}
use Rattle.cap_elf.specs.declared.records.Section.{Section}
use Rattle.cap_elf.specs.Classes.{is_kept, is_bss, same_class}
use Rattle.cap_elf.specs.IsRelRead.{IsRelRead}
use Rattle.cap_elf.specs.RelObject.{RelObject, file_of, section_of, bytes_of, has_content}
use Rattle.cap_elf.proofs.Passing.{bind_passed}
use Rattle.cap_layout.specs.declared.piece.Piece.{Piece}
use Rattle.cap_layout.specs.Pieces.{no_piece, piece_of}
use Rattle.cap_table.specs.declared.target.Target.{Target}
use Rattle.cap_table.specs.declared.target.Step.{Step}
use Rattle.cap_table.specs.Kinds.{width_of, is_accepted, is_slot, is_passed_over, is_capability, is_word, is_distance, is_value, is_transfer, is_high, is_slot_high, is_low}
use Rattle.cap_table.specs.Targets.{Named, is_fixed, fixed_value}
use Rattle.cap_table.specs.Checks.{reloc_of, target_at}
use Rattle.cap_table.specs.Planned.{is_field, fields_of}
use Rattle.cap_table.specs.Bodies.{BodiesValue, zeros, put, piece_bytes, put_in, held, source_bytes, offset_in_piece, with_held, plain_of, body_length}
use Rattle.cap_code.specs.Values.{Scene, is_patched, checked_value}
use Rattle.cap_code.specs.Patched.{with_value, patch_step, patched_field}
use Rattle.cap_readback.specs.Layout.{AreFilled}
use Rattle.cap_link.specs.Content.{piece_with, filled_of}
use Rattle.cap_link.proofs.Numbers.{all-filtered}
use Rattle.cap_link.proofs.Passes.{same-accepted}
use Rattle.cap_link.proofs.Segmented.{same-is}
use Rattle.cap_link.proofs.Sizing.{HasStubs}

-- ---- what is known of pieces and steps
-- a piece has room for its bytes; one that isn't common is a part of a section
pub record IsHeld (rels : List RelObject) (p : Piece) : Type 0 where
  pub fits : p.size ≤ p.padded
  pub kept : is_kept p.class ≡ true
  pub own : is_bss p.class ≡ false → p.common ≡ false
  pub section : p.common ≡ false → p.place < length (file_of rels p.file).sections
  pub class : p.common ≡ false → (section_of (file_of rels p.file) p.place).class ≡ p.class
  pub within : p.common ≡ false → p.start + p.size ≤ (section_of (file_of rels p.file) p.place).size
  pub read : p.common ≡ false → IsRelRead (file_of rels p.file)

-- the kind of a step may stand in its section, and its field lies in the step's piece, which is of that section
pub record IsPlacedWith (named : Named) (pieces : List Piece) (s : Step) (r : Reloc) : Type 0 where
  pub piece : s.piece < length pieces
  pub accepted : is_accepted (section_of (file_of named.rels s.file) r.section).class r.kind ≡ true
  pub class : (piece_of pieces s.piece).class ≡ (section_of (file_of named.rels s.file) r.section).class
  pub start : (piece_of pieces s.piece).start ≤ r.offset
  pub end : r.offset + width_of r.kind ≤ (piece_of pieces s.piece).start + (piece_of pieces s.piece).size

abbrev pub IsPlacedStep : Named → List Piece → Step → Type 0
IsPlacedStep named pieces s = IsPlacedWith named pieces s (reloc_of named.rels s)

-- ---- small facts
two-true : (a b : Bool) → a ≡ true → b ≡ false → (a && not b) ≡ true
two-true true false h g = refl
two-true true true h g = absurd (cc)
two-true false b h g = absurd (cc)

two-numbers : {a b : ℕ} {xs ys : List ℕ} → a ≡ b → xs ≡ ys → a ∷ xs ≡ b ∷ ys
two-numbers x y = cc

head-is : (a b : ℕ) (xs ys : List ℕ) → a ∷ xs ≡ b ∷ ys → a ≡ b
head-is a b xs ys h = cc

tail-is : (a b : ℕ) (xs ys : List ℕ) → a ∷ xs ≡ b ∷ ys → xs ≡ ys
tail-is a b xs ys h = cc

mapped-length : {X Y : Type 0} (f : X → Y) (xs : List X) → length (map f xs) ≡ length xs
mapped-length f [] = refl
mapped-length f (x ∷ xs) = let rest = mapped-length f xs in omega (arith, rest)

abbrev pub nothing : List (List ℕ)
nothing = []

pub held-at : {X : Type 0} (P : X → Type 0) (xs : List X) (i : ℕ) (d : X) → i < length xs → AllByRecursion P xs → P (slice_index_or xs i d)
held-at P [] i d lt h = let bad : ⊥ = omega (arith, lt) in absurd bad
held-at P (x ∷ xs) zero d lt h = h.0
held-at P (x ∷ xs) (suc i) d lt h = held-at P xs i d (omega (arith, lt)) h.1

pub backward : {X : Type 0} (P : X → Type 0) (xs : List X) → AllByRecursion P xs → All P xs
backward P xs h k d lt = held-at P xs k d lt h

not-in-zeros : (a b c d e : Bool) → a ≡ false → (a || (b && (false || false)) || (c && false) || (d && not true) || (e && false)) ≡ true → ⊥
not-in-zeros true b c d e p h = absurd (cc)
not-in-zeros false true true true true p h = absurd (cc)
not-in-zeros false true true true false p h = absurd (cc)
not-in-zeros false true true false true p h = absurd (cc)
not-in-zeros false true true false false p h = absurd (cc)
not-in-zeros false true false true true p h = absurd (cc)
not-in-zeros false true false true false p h = absurd (cc)
not-in-zeros false true false false true p h = absurd (cc)
not-in-zeros false true false false false p h = absurd (cc)
not-in-zeros false false true true true p h = absurd (cc)
not-in-zeros false false true true false p h = absurd (cc)
not-in-zeros false false true false true p h = absurd (cc)
not-in-zeros false false true false false p h = absurd (cc)
not-in-zeros false false false true true p h = absurd (cc)
not-in-zeros false false false true false p h = absurd (cc)
not-in-zeros false false false false true p h = absurd (cc)
not-in-zeros false false false false false p h = absurd (cc)

room : (offset start width size padded long : ℕ) → start ≤ offset → offset + width ≤ start + size → size ≤ padded → long ≡ padded → offset - start + width ≤ long
room offset start width size padded long a b c d = omega (arith, a, b, c, d)

is-slot-number : (kind : ℕ) → is_slot kind ≡ true → (kind ≡ 193) ⊎ (kind ≡ 2)
is-slot-number kind h = grind arith

either-kind : (kind : ℕ) → (kind ≡ 193) ⊎ (kind ≡ 2) → 8 ≤ width_of kind
either-kind kind (inl e) = subst (λ (k : ℕ). 8 ≤ width_of k) (sym e) (omega arith)
either-kind kind (inr e) = subst (λ (k : ℕ). 8 ≤ width_of k) (sym e) (omega arith)

-- ---- lengths
abbrev pub AreLengths : List Piece → List (List ℕ) → Type 0
AreLengths pieces bodies = map length bodies ≡ map body_length pieces

zeros-long : (n : ℕ) → length (zeros n) ≡ n
zeros-long n = length-replicate {A = ℕ} n 0

range-long : (bytes : List ℕ) (start size : ℕ) → start + size ≤ length bytes → length (slice_range bytes start (start + size)) ≡ size
range-long bytes start size h =
    let a = length-drop start bytes in
    let b : start + size - start ≤ length (drop start bytes) = omega (arith, h, a) in
    let c = length-take-le (start + size - start) (drop start bytes) b in
    omega (arith, c)

has-content : (s : Section) → is_kept s.class ≡ true → is_bss s.class ≡ false → has_content s ≡ true
has-content s h g = two-true (is_kept s.class) (is_bss s.class) h g

source-long : (rels : List RelObject) (p : Piece) (b : Bool) → is_bss p.class ≡ b → IsHeld rels p
    → length (cond b [] (slice_range (bytes_of (file_of rels p.file) p.place) p.start (p.start + p.size) ++ zeros (p.padded - p.size))) ≡ cond b 0 p.padded
source-long rels p true e h = refl
source-long rels p false e h =
    let object = file_of rels p.file in
    let section = section_of object p.place in
    let own = h.own e in
    let same = h.class own in
    let kept : is_kept section.class ≡ true = ap is_kept same ∙ h.kept in
    let some : is_bss section.class ≡ false = ap is_bss same ∙ e in
    let long : length (bytes_of object p.place) ≡ section.size = (h.read own).contents_are p.place (h.section own) (has-content section kept some) in
    let within = h.within own in
    let fits = h.fits in
    let front = range-long (bytes_of object p.place) p.start p.size (omega (arith, within, long)) in
    omega (arith, length-append (slice_range (bytes_of object p.place) p.start (p.start + p.size)) (zeros (p.padded - p.size)), front, zeros-long (p.padded - p.size), fits)

sources-long : (rels : List RelObject) (ps : List Piece) → AllByRecursion (IsHeld rels) ps → AreLengths ps (map (source_bytes rels) ps)
sources-long rels [] h = refl
sources-long rels (p ∷ ps) h = two-numbers (source-long rels p (is_bss p.class) refl h.0) (sources-long rels ps h.1)

put-long : (bytes : List ℕ) (at : ℕ) (with : List ℕ) → at + length with ≤ length bytes → length (put bytes at with) ≡ length bytes
put-long bytes at with h =
    let a = length-append (take at bytes ++ with) (drop (at + length with) bytes) in
    let b = length-append (take at bytes) with in
    let c = length-take-le at bytes (omega (arith, h)) in
    let d = length-drop (at + length with) bytes in
    omega (arith, a, b, c, d, h)

set-long : (bodies : List (List ℕ)) (k : ℕ) (bytes : List ℕ) → length bytes ≡ length (piece_bytes bodies k) → map length (slice_set bodies k bytes) ≡ map length bodies
set-long [] k bytes h = refl
set-long (b ∷ bs) zero bytes h = ap (λ (n : ℕ). n ∷ map length bs) h
set-long (b ∷ bs) (suc k) bytes h = ap (λ (r : List ℕ). length b ∷ r) (set-long bs k bytes h)

length-at : (ps : List Piece) (bodies : List (List ℕ)) (k : ℕ) → AreLengths ps bodies → k < length ps → length (piece_bytes bodies k) ≡ body_length (piece_of ps k)
length-at [] bodies k h lt = let bad : ⊥ = omega (arith, lt) in absurd bad
length-at (p ∷ ps) [] k h lt = let e : length (map length (nothing)) ≡ length (map body_length (p ∷ ps)) = ap length h in let bad : ⊥ = omega (arith, e) in absurd bad
length-at (p ∷ ps) (b ∷ bs) zero h lt = head-is (length b) (body_length p) (map length bs) (map body_length ps) h
length-at (p ∷ ps) (b ∷ bs) (suc k) h lt = length-at ps bs k (tail-is (length b) (body_length p) (map length bs) (map body_length ps) h) (omega (arith, lt))

put-in-long : (ps : List Piece) (bodies : List (List ℕ)) (k at : ℕ) (with : List ℕ) → AreLengths ps bodies → k < length ps → at + length with ≤ body_length (piece_of ps k) → AreLengths ps (put_in bodies k at with)
put-in-long ps bodies k at with h lt room =
    let here = length-at ps bodies k h lt in
    set-long bodies k (put (piece_bytes bodies k) at with) (put-long (piece_bytes bodies k) at with (omega (arith, here, room))) ∙ h

-- ---- steps
-- a kind that may stand in a section stands in one with bytes
no-zeros : (class : Class) (kind : ℕ) → is_passed_over kind ≡ false → is_accepted class kind ≡ true → is_bss class ≡ false
no-zeros Bss kind p h = absurd (not-in-zeros (is_passed_over kind) (is_capability kind) (is_word kind) (is_distance kind || is_value kind) (is_transfer kind || is_high kind || is_slot_high kind || is_low kind) p h)
no-zeros Ro kind p h = refl
no-zeros Code kind p h = refl
no-zeros Init kind p h = refl
no-zeros Fini kind p h = refl
no-zeros Relro kind p h = refl
no-zeros Data kind p h = refl
no-zeros Dropped kind p h = refl

-- the field of a step has room in the bytes of its piece
pub room-left : (named : Named) (ps : List Piece) (s : Step) → IsPlacedStep named ps s → IsHeld named.rels (piece_of ps s.piece) → is_passed_over (reloc_of named.rels s).kind ≡ false
    → offset_in_piece named.rels ps s + width_of (reloc_of named.rels s).kind ≤ body_length (piece_of ps s.piece)
room-left named ps s h held passed =
    let p = piece_of ps s.piece in
    let r = reloc_of named.rels s in
    let class = (section_of (file_of named.rels s.file) r.section).class in
    let some : is_bss p.class ≡ false = ap is_bss h.class ∙ no-zeros class r.kind passed h.accepted in
    let long : body_length p ≡ p.padded = ap (λ (b : Bool). cond b 0 p.padded) some in
    room r.offset p.start (width_of r.kind) p.size p.padded (body_length p) h.start h.end held.fits long

-- ---- held bytes
held-one : (b : Bool) (t : Target) (addend : ℤ) (width : ℕ) → 8 ≤ width → length (cond b (number_bytes 8 (fixed_value t addend) ++ zeros (width - 8)) (zeros width)) ≡ width
held-one true t addend width h =
    omega (arith, h, length-append (number_bytes 8 (fixed_value t addend)) (zeros (width - 8)), zeros-long (width - 8), length-bytes_low_first 0 8 (fixed_value t addend))
held-one false t addend width h = zeros-long width

slot-wide : (kind : ℕ) → is_slot kind ≡ true → 8 ≤ width_of kind
slot-wide kind h = either-kind kind (is-slot-number kind h)

held-long : (kind : ℕ) (t : Target) (addend : ℤ) → is_slot kind ≡ true → length (held kind t addend) ≡ width_of kind
unfolding held
held-long kind t addend h = held-one (is_fixed t) t addend (width_of kind) (slot-wide kind h)

-- ---- folds
pub fold-keeps : {A X : Type 0} (P : A → Type 0) (Q : X → Type 0) (f : A → X → A) → ((a : A) (x : X) → P a → Q x → P (f a x)) → (a : A) (xs : List X) → P a → AllByRecursion Q xs → P (fold f a xs)
fold-keeps P Q f keep a [] p q = p
fold-keeps P Q f keep a (x ∷ xs) p q = fold-keeps P Q f keep (f a x) xs (keep a x p q.0) q.1

pub steps-keep : {E A X : Type 0} (P : A → Type 0) (Q : X → Type 0) (f : A → X → Result A E) → ((a : A) (x : X) (b : A) → P a → Q x → f a x ≡ Ok b → P b) → (a : A) (xs : List X) (b : A) → P a → AllByRecursion Q xs → steps f a xs ≡ Ok b → P b
steps-keep P Q f keep a [] b p q h = let e : a ≡ b = cc in subst P e p
steps-keep P Q f keep a (x ∷ xs) b p q h =
    let one = bind_passed (f a x) (λ c. steps f c xs) b h in
    steps-keep P Q f keep one.0 xs b (keep a x one.0 p q.0 one.1) q.1 one.2

-- those that pass a test have what all have
pub record Passed {X : Type 0} (P : X → Type 0) (test : X → Bool) (x : X) : Type 0 where
  pub is : P x
  pub passes : test x ≡ true

one-passed : {X : Type 0} (P : X → Type 0) (test : X → Bool) (b : Bool) (x : X) (xs : List X) → test x ≡ b → P x → AllByRecursion (Passed P test) xs → AllByRecursion (Passed P test) (cond b (x ∷ xs) xs)
one-passed P test true x xs e h g = (record { is = h; passes = e }, g)
one-passed P test false x xs e h g = g

pub all-passed : {X : Type 0} (P : X → Type 0) (test : X → Bool) (xs : List X) → AllByRecursion P xs → AllByRecursion (Passed P test) (filter test xs)
all-passed P test [] h = tt
all-passed P test (x ∷ xs) h = one-passed P test (test x) x (filter test xs) refl h.0 (all-passed P test xs h.1)

-- ---- the bytes of a link
-- all that is known of the pieces and of the steps
pub record AreSteady (named : Named) (ps : List Piece) (all : List Step) : Type 0 where
  pub pieces : AllByRecursion (IsHeld named.rels) ps
  pub steps : AllByRecursion (IsPlacedStep named ps) all
  pub some : AllByRecursion (λ s. is_passed_over (reloc_of named.rels s).kind ≡ false) all

abbrev pub IsRoomy : Named → List Piece → Step → Type 0
IsRoomy named ps s =
    (s.piece < length ps) × (offset_in_piece named.rels ps s + width_of (reloc_of named.rels s).kind ≤ body_length (piece_of ps s.piece))

all-roomy : (named : Named) (ps : List Piece) (all : List Step) → AllByRecursion (IsHeld named.rels) ps → AllByRecursion (IsPlacedStep named ps) all → AllByRecursion (λ s. is_passed_over (reloc_of named.rels s).kind ≡ false) all → AllByRecursion (IsRoomy named ps) all
all-roomy named ps [] h g k = tt
all-roomy named ps (s ∷ ss) h g k =
    ((g.0.piece, room-left named ps s g.0 (held-at (IsHeld named.rels) ps s.piece no_piece g.0.piece h) k.0), all-roomy named ps ss h g.1 k.1)

held-keeps : (named : Named) (ps : List Piece) (bodies : List (List ℕ)) (s : Step) → AreLengths ps bodies → Passed (IsRoomy named ps) (is_field named) s → AreLengths ps (with_held named ps bodies s)
unfolding with_held
held-keeps named ps bodies s h p =
    let r = reloc_of named.rels s in
    let bytes = held r.kind (target_at named s) r.addend in
    let long : length bytes ≡ width_of r.kind = held-long r.kind (target_at named s) r.addend p.passes in
    let room = p.is.1 in
    put-in-long ps bodies s.piece (offset_in_piece named.rels ps s) bytes h p.is.0 (omega (arith, long, room))

patch-keeps : (scene : Scene) (bodies : List (List ℕ)) (s : Step) (after : List (List ℕ)) → AreLengths scene.laid.pieces.all bodies → IsRoomy scene.named scene.laid.pieces.all s → patch_step scene bodies s ≡ Ok after → AreLengths scene.laid.pieces.all after
unfolding patch_step
patch-keeps scene bodies s after h room e =
    let one = bind_passed (in_file (file_of scene.named.rels s.file).number (checked_value scene s)) (λ value. Ok (with_value scene bodies s value)) after e in
    let value : ℕ = one.0 in
    let same : with_value scene bodies s value ≡ after = same-accepted (with_value scene bodies s value) after one.2 in
    let ps = scene.laid.pieces.all in
    let kind = (reloc_of scene.named.rels s).kind in
    let offset = offset_in_piece scene.named.rels ps s in
    let bytes = number_bytes (width_of kind) (patched_field kind (number_at (width_of kind) (piece_bytes bodies s.piece) offset) value) in
    let long : length bytes ≡ width_of kind = length-bytes_low_first 0 (width_of kind) (patched_field kind (number_at (width_of kind) (piece_bytes bodies s.piece) offset) value) in
    let left = room.1 in
    subst (AreLengths ps) same (put-in-long ps bodies s.piece offset bytes h room.0 (omega (arith, long, left)))

pub bodies-long : (scene : Scene) (bodies : BodiesValue) → HasStubs scene bodies → AreSteady scene.named scene.laid.pieces.all scene.lists.plan.steps → AreLengths scene.laid.pieces.all bodies.pieces
unfolding plain_of
bodies-long scene bodies h known =
    let named = scene.named in
    let ps = scene.laid.pieces.all in
    let plan = scene.lists.plan in
    let roomy = all-roomy named ps plan.steps known.pieces known.steps known.some in
    let sources : AreLengths ps (map (source_bytes named.rels) ps) = sources-long named.rels ps known.pieces in
    let plain : AreLengths ps (fold (with_held named ps) (map (source_bytes named.rels) ps) (fields_of named plan.steps)) =
    fold-keeps (AreLengths ps) (Passed (IsRoomy named ps) (is_field named)) (with_held named ps) (λ b s x y. held-keeps named ps b s x y) (map (source_bytes named.rels) ps) (fields_of named plan.steps) sources (all-passed (IsRoomy named ps) (is_field named) plan.steps roomy) in
    steps-keep (AreLengths ps) (IsRoomy named ps) (patch_step scene) (λ a s b x y e. patch-keeps scene a s b x y e) (plain_of named plan ps).pieces (filter (is_patched named) plan.steps) bodies.pieces plain (all-filtered (IsRoomy named ps) (is_patched named) plan.steps roomy) h.pieces

-- ---- the pieces of a class
pub bodies-count : (ps : List Piece) (bodies : List (List ℕ)) → AreLengths ps bodies → length bodies ≡ length ps
bodies-count ps bodies h =
    let e : length (map length bodies) ≡ length (map body_length ps) = ap length h in
    sym (mapped-length length bodies) ∙ e ∙ mapped-length body_length ps

one-filled : (b : Bool) (p : Piece) (bytes : List ℕ) (ys : List (Piece × List ℕ)) → (b ≡ true → length bytes ≡ p.padded) → AreFilled (map piece_with ys) → AreFilled (map piece_with (cond b ((p, bytes) ∷ ys) ys))
one-filled true p bytes ys h rest = (h refl, rest)
one-filled false p bytes ys h rest = rest

pub class-filled : (class : Class) (ps : List Piece) (bodies : List (List ℕ)) → is_bss class ≡ false → AreLengths ps bodies → AreFilled (filled_of class ps bodies)
class-filled class [] bodies e h = tt
class-filled class (p ∷ ps) [] e h = tt
class-filled class (p ∷ ps) (b ∷ bs) e h =
    let head = head-is (length b) (body_length p) (map length bs) (map body_length ps) h in
    let tail = tail-is (length b) (body_length p) (map length bs) (map body_length ps) h in
    one-filled (same_class p.class class) p b (filter (λ (q : Piece × List ℕ). same_class q.0.class class) (zip ps bs))
    (λ yes. let some : is_bss p.class ≡ false = ap is_bss (same-is p.class class yes) ∙ e in head ∙ ap (λ (x : Bool). cond x 0 p.padded) some)
    (class-filled class ps bs e tail)
