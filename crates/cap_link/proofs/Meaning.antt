-- What the targets of a link mean, and the intervals of data that its lists give.
use Rattle.std.proofs.Common.{◌≡◌, ℕ, ◌+◌, ◌^◌, Bool, true, false, not, cond, List, [], ◌∷◌, ◌++◌, map, refl, sym, ap, ◌∙◌, subst, arith, inr, Option, Some, None}
use Rattle.std.specs.Prelude.{filter, IfSome, unwrap_or, nat_lt, ◌&&◌, ◌==◌}
use Rattle.std.specs.List.{list_any, enumerate_from, AllByRecursion}
use Rattle.cap_elf.specs.declared.records.CapReloc.{CapReloc}
use Rattle.cap_elf.specs.declared.records.Class.{Class}
use Rattle.cap_elf.specs.declared.records.Class.TheVariants.{Ro, Code, Init, Fini, Relro, Data, Bss, Dropped}
use Rattle.cap_elf.specs.declared.records.Symbol.{Symbol}
use Rattle.cap_elf.specs.Classes.{is_code}
use Rattle.cap_elf.specs.Exported.{is_defined}
use Rattle.cap_elf.specs.Records.{place_of}
use Rattle.cap_elf.specs.RelObject.{RelObject, file_of, symbol_of, name_of}
use Rattle.cap_fits.specs.Fits.{is_data, data_intervals}
use Rattle.cap_fits.specs.Places.{is_absolute}
use Rattle.cap_syms.specs.Decisions.{is_present}
use Rattle.cap_syms.specs.Distinct.{with_new, distinct}
use Rattle.cap_syms.specs.IsResolved.{IsResolved}
use Rattle.cap_syms.specs.Occurrences.{is_local}
use Rattle.cap_syms.specs.Resolved.{Resolved, row_of, index_of}
use Rattle.cap_layout.specs.Points.{Laid, interval_of}
use Rattle.cap_table.specs.declared.target.Step.{Step}
use Rattle.cap_table.specs.declared.target.Target.{Target}
use Rattle.cap_table.specs.Targets.{Named, local_target, row_target, target_of, same_target, is_absolute_at}
use Rattle.cap_table.specs.Checks.{reloc_of, target_at}
use Rattle.cap_table.specs.Planned.{Planned, exported, slots_of, fields_of, needs_slot, is_described}
use Rattle.cap_table.specs.Lists.{Want, DynSymbolValue, slot_want, slot_wants, field_want, field_wants, wants, permissions_of, cap_reloc_of, cap_relocs_of, present_symbol, absent_symbol, dyn_symbol, null_dyn_symbol}
use Rattle.cap_readback.specs.Plan.{AreLaid}
use Rattle.cap_link.specs.Linked.{Linked}
use Rattle.cap_link.specs.View.{linked_view, symbol_read, cap_reloc_read}
use Rattle.cap_link.proofs.Placing.{all-both}
use Rattle.cap_link.proofs.Numbers.{all-filtered, all-mapped}
use Rattle.cap_link.proofs.Filling.{fold-keeps}
use Rattle.cap_link.proofs.Bounding.{IsSoundly, IsBounded, IsBoundedBy, IsMeaning, bounded-one, interval-bounded, meant-code, described-bounded}

-- ---- targets
either-meant : (rels : List RelObject) (b : Bool) (t u : Target) → IsMeaning rels t → IsMeaning rels u → IsMeaning rels (cond b t u)
either-meant rels true t u h g = h
either-meant rels false t u h g = g

local-meant : (named : Named) (file symbol : ℕ) → IsMeaning named.rels (local_target (file_of named.rels file) file symbol)
unfolding local_target
local-meant named file symbol = record { as_is = refl; class = refl }

pub row-meant : (named : Named) (row : ℕ) → IsMeaning named.rels (row_target named row)
unfolding row_target
row-meant named row = record { as_is = refl; class = refl }

target-meant : (named : Named) (file symbol : ℕ) → IsMeaning named.rels (target_of named file symbol)
unfolding target_of
target-meant named file symbol =
    let object = file_of named.rels file in
    let row = unwrap_or (index_of named.table (name_of object symbol)) 0 in
    either-meant named.rels (is_local (symbol_of object symbol)) (local_target object file symbol) (row_target named row) (local-meant named file symbol) (row-meant named row)

-- ---- lists
all-made : {X Y : Type 0} (P : Y → Type 0) (f : X → Y) (xs : List X) → ((x : X) → P (f x)) → AllByRecursion P (map f xs)
all-made P f [] h = tt
all-made P f (x ∷ xs) h = (h x, all-made P f xs h)

numbered-all : {X Y : Type 0} (P : X → Type 0) (Q : Y → Type 0) (f : ℕ × X → Y) → ((k : ℕ) (x : X) → P x → Q (f (k, x))) → (n : ℕ) (xs : List X) → AllByRecursion P xs → AllByRecursion Q (map f (enumerate_from n xs))
numbered-all P Q f g n [] h = tt
numbered-all P Q f g n (x ∷ xs) h = (g n x h.0, numbered-all P Q f g (n + 1) xs h.1)

one-chosen : {X Y : Type 0} (Q : Y → Type 0) (f : X → Y) (b : Bool) (x : X) (xs : List X) → (b ≡ true → Q (f x)) → AllByRecursion Q (map f xs) → AllByRecursion Q (map f (cond b (x ∷ xs) xs))
one-chosen Q f true x xs h g = (h refl, g)
one-chosen Q f false x xs h g = g

chosen-all : {X Y : Type 0} (Q : Y → Type 0) (test : X → Bool) (f : X → Y) (xs : List X) → AllByRecursion (λ x. test x ≡ true → Q (f x)) xs → AllByRecursion Q (map f (filter test xs))
chosen-all Q test f [] h = tt
chosen-all Q test f (x ∷ xs) h = one-chosen Q f (test x) x (filter test xs) h.0 (chosen-all Q test f xs h.1)

one-kept : {X : Type 0} (P : X → Type 0) (b : Bool) (xs : List X) (x : X) → AllByRecursion P xs → P x → AllByRecursion P (cond b xs (xs ++ x ∷ []))
one-kept P true xs x h g = h
one-kept P false xs x h g = all-both P xs (x ∷ []) h (g, tt)

distinct-keeps : {X : Type 0} (P : X → Type 0) (eq : X → X → Bool) (xs : List X) → AllByRecursion P xs → AllByRecursion P (distinct eq xs)
distinct-keeps P eq xs h = fold-keeps (AllByRecursion P) P (with_new eq) (λ a x p q. one-kept P (list_any (eq x) a) a x p q) [] xs tt h

-- ---- what is wanted
abbrev pub IsMeantWant : List RelObject → Want → Type 0
IsMeantWant rels w = IsMeaning rels w.target

slots-meant : (named : Named) (steps : List Step) → AllByRecursion (IsMeaning named.rels) (slots_of named steps)
slots-meant named steps =
    distinct-keeps (IsMeaning named.rels) same_target (map (target_at named) (filter (needs_slot named) steps))
    (all-made (IsMeaning named.rels) (target_at named) (filter (needs_slot named) steps) (λ s. target-meant named s.file (reloc_of named.rels s).symbol))

wants-meant : (named : Named) (plan : Planned) (laid : Laid) → plan.slots ≡ slots_of named plan.steps → AllByRecursion (IsMeantWant named.rels) (wants named plan laid)
wants-meant named plan laid e =
    all-both (IsMeantWant named.rels) (slot_wants plan laid) (field_wants named plan laid)
    (numbered-all (IsMeaning named.rels) (IsMeantWant named.rels) (slot_want laid) (λ k t h. h) 0 plan.slots (subst (AllByRecursion (IsMeaning named.rels)) (sym e) (slots-meant named plan.steps)))
    (all-made (IsMeantWant named.rels) (field_want named laid) (fields_of named plan.steps) (λ s. target-meant named s.file (reloc_of named.rels s).symbol))

-- ---- entries
abbrev pub BoundsEntry : Laid → CapReloc → Type 0
BoundsEntry laid e = nat_lt e.permissions (2 ^ 63) ≡ true → IsBounded laid (e.object, e.size)

low-permissions : (c : Class) → nat_lt (permissions_of c) (2 ^ 63) ≡ true → is_code c ≡ false
low-permissions Ro h = refl
low-permissions Code h = absurd (cc)
low-permissions Init h = refl
low-permissions Fini h = refl
low-permissions Relro h = refl
low-permissions Data h = refl
low-permissions Bss h = refl
low-permissions Dropped h = refl

cap-bounded : (laid : Laid) → IsSoundly laid → (w : Want) → IsMeaning laid.rels w.target → BoundsEntry laid (cap_reloc_of laid w)
unfolding cap_reloc_of
cap-bounded laid sound w meant low = described-bounded laid sound w.target w.addend meant (low-permissions w.target.class low)

-- ---- symbols
abbrev pub BoundsSymbol : Laid → Symbol → Type 0
BoundsSymbol laid s = is_data s ≡ true → IsBounded laid (s.value, s.size)

-- read as this symbol of the file, the value is bounded by the symbol of an input
abbrev pub BoundsAs : Laid → Target → ℕ → ℕ → DynSymbolValue → Type 0
BoundsAs laid t at n s = is_data (symbol_read at (n, s)) ≡ true → IsBoundedBy laid t.file t.symbol (s.value, s.size)

abbrev pub tells_data : Bool → Bool → Bool
tells_data absolute code =
    is_defined (place_of (cond absolute 0xfff1 1)) && not (is_absolute (place_of (cond absolute 0xfff1 1))) && not (cond code 2 1 == 2)

data-told : (absolute code : Bool) → tells_data absolute code ≡ true → (absolute ≡ false) × (code ≡ false)
data-told true code h = absurd (cc)
data-told false true h = absurd (cc)
data-told false false h = (refl, refl)

unwrap-bounded : (laid : Laid) (file symbol : ℕ) (o : Option (ℕ × ℕ)) → IfSome o (IsBoundedBy laid file symbol) → IsBoundedBy laid file symbol (unwrap_or o (0, 0))
unwrap-bounded laid file symbol None h = inr (record { none = refl; within = omega arith })
unwrap-bounded laid file symbol (Some x) h = h

abbrev pub paired : ℕ → ℕ → ℕ × ℕ
paired a b = (a, b)

pub two-parts : (a b c d : ℕ) → a ≡ c → b ≡ d → paired a b ≡ paired c d
two-parts a b c d e f = ap (λ (n : ℕ). paired n b) e ∙ ap (λ (n : ℕ). paired c n) f

bounded-as : (laid : Laid) (file symbol value size : ℕ) (x : ℕ × ℕ) → x.0 ≡ value → x.1 ≡ size → IsBoundedBy laid file symbol x → IsBoundedBy laid file symbol (value, size)
bounded-as laid file symbol value size x e f h = subst (IsBoundedBy laid file symbol) (two-parts x.0 x.1 value size e f) h

present-bounded : (laid : Laid) → IsSoundly laid → (at n : ℕ) (r : Resolved) (t : Target) → IsMeaning laid.rels t → BoundsAs laid t at n (present_symbol laid r t)
unfolding present_symbol
present-bounded laid sound at n r t meant shown =
    let absolute = is_absolute_at t.as_is.place in
    let interval = unwrap_or (interval_of laid t.file t.symbol) (0, 0) in
    let told = data-told absolute (is_code t.class) shown in
    let value : interval.0 ≡ cond absolute t.as_is.value interval.0 = ap (λ (b : Bool). cond b t.as_is.value interval.0) (sym told.0) in
    let size : interval.1 ≡ cond absolute t.as_is.size interval.1 = ap (λ (b : Bool). cond b t.as_is.size interval.1) (sym told.0) in
    bounded-as laid t.file t.symbol (cond absolute t.as_is.value interval.0) (cond absolute t.as_is.size interval.1) interval value size
    (unwrap-bounded laid t.file t.symbol (interval_of laid t.file t.symbol) (interval-bounded laid sound t.file t.symbol (meant-code laid.rels t meant told.1)))

absent-bounded : (laid : Laid) (at n : ℕ) (r : Resolved) (t : Target) → BoundsAs laid t at n (absent_symbol r)
unfolding absent_symbol
absent-bounded laid at n r t shown = absurd (cc)

either-bounded : (laid : Laid) (t : Target) (at n : ℕ) (b : Bool) (x y : DynSymbolValue) → BoundsAs laid t at n x → BoundsAs laid t at n y → BoundsAs laid t at n (cond b x y)
either-bounded laid t at n true x y h g = h
either-bounded laid t at n false x y h g = g

pub symbol-bounded : (named : Named) (laid : Laid) → IsSoundly laid → laid.rels ≡ named.rels → (at n row : ℕ) → BoundsAs laid (row_target named row) at n (dyn_symbol named laid row)
symbol-bounded named laid sound same at n row =
    let r = row_of named.table row in
    let t = row_target named row in
    let meant : IsMeaning laid.rels t = subst (λ (rels : List RelObject). IsMeaning rels t) (sym same) (row-meant named row) in
    either-bounded laid t at n (is_present r.entry.shape) (present_symbol laid r t) (absent_symbol r) (present-bounded laid sound at n r t meant) (absent-bounded laid at n r t)

-- ---- the lists of a link
-- what is known of an accepted link
pub record IsSoundLink (l : Linked) : Type 0 where
  pub laid : IsSoundly l.laid
  pub same : l.laid.rels ≡ l.named.rels
  pub resolved : IsResolved l.named.rels l.named.table
  pub rows : l.lists.plan.symbols ≡ exported l.named.table
  pub symbols : l.lists.symbols ≡ null_dyn_symbol ∷ map (dyn_symbol l.named l.laid) l.lists.plan.symbols
  pub slots : l.lists.plan.slots ≡ slots_of l.named l.lists.plan.steps
  pub caps : l.lists.cap_relocs ≡ cap_relocs_of l.laid (wants l.named l.lists.plan l.laid)
  pub count : ℕ
  pub parts : AreLaid l.laid.parts count

rows-bounded : (l : Linked) → IsSoundLink l → (at n : ℕ) (rows : List ℕ) → AllByRecursion (BoundsSymbol l.laid) (map (symbol_read at) (enumerate_from n (map (dyn_symbol l.named l.laid) rows)))
rows-bounded l h at n [] = tt
rows-bounded l h at n (row ∷ rows) =
    let t = row_target l.named row in
    let s = dyn_symbol l.named l.laid row in (
      λ shown. bounded-one l.laid t.file t.symbol (s.value, s.size) (symbol-bounded l.named l.laid h.laid h.same at n row shown),
      rows-bounded l h at (n + 1) rows,
    )

symbols-bounded : (l : Linked) → IsSoundLink l → (at : ℕ) → AllByRecursion (IsBounded l.laid) (map (λ s. (s.value, s.size)) (filter is_data (map (symbol_read at) (enumerate_from 0 l.lists.symbols))))
symbols-bounded l h at =
    let whole : AllByRecursion (BoundsSymbol l.laid) (map (symbol_read at) (enumerate_from 0 (null_dyn_symbol ∷ map (dyn_symbol l.named l.laid) l.lists.plan.symbols))) =
    (λ shown. absurd (cc), rows-bounded l h at 1 l.lists.plan.symbols) in
    let all : AllByRecursion (BoundsSymbol l.laid) (map (symbol_read at) (enumerate_from 0 l.lists.symbols)) =
    subst (λ (ss : List DynSymbolValue). AllByRecursion (BoundsSymbol l.laid) (map (symbol_read at) (enumerate_from 0 ss))) (sym h.symbols) whole in
    chosen-all (IsBounded l.laid) is_data (λ s. (s.value, s.size)) (map (symbol_read at) (enumerate_from 0 l.lists.symbols)) all

entries-bounded : (l : Linked) → IsSoundLink l → (at : ℕ) → AllByRecursion (IsBounded l.laid) (map (λ e. (e.object, e.size)) (filter (λ e. nat_lt e.permissions (2 ^ 63)) (map (cap_reloc_read at) (enumerate_from 0 l.lists.cap_relocs))))
entries-bounded l h at =
    let ws = wants l.named l.lists.plan l.laid in
    let meant : AllByRecursion (IsMeantWant l.laid.rels) ws =
    subst (λ (rels : List RelObject). AllByRecursion (IsMeantWant rels) ws) (sym h.same) (wants-meant l.named l.lists.plan l.laid h.slots) in
    let here : AllByRecursion (BoundsEntry l.laid) (cap_relocs_of l.laid ws) =
    all-mapped (IsMeantWant l.laid.rels) (BoundsEntry l.laid) (cap_reloc_of l.laid) (filter (λ (w : Want). is_described w.kind w.target) ws) (λ w m. cap-bounded l.laid h.laid w m)
    (all-filtered (IsMeantWant l.laid.rels) (λ (w : Want). is_described w.kind w.target) ws meant) in
    let all : AllByRecursion (BoundsEntry l.laid) l.lists.cap_relocs = subst (AllByRecursion (BoundsEntry l.laid)) (sym h.caps) here in
    chosen-all (IsBounded l.laid) (λ (e : CapReloc). nat_lt e.permissions (2 ^ 63)) (λ e. (e.object, e.size)) (map (cap_reloc_read at) (enumerate_from 0 l.lists.cap_relocs))
    (numbered-all (BoundsEntry l.laid) (BoundsEntry l.laid) (cap_reloc_read at) (λ k e b. b) 0 l.lists.cap_relocs all)

pub data-bounded : (l : Linked) → IsSoundLink l → AllByRecursion (IsBounded l.laid) (data_intervals (linked_view l))
unfolding linked_view
data-bounded l h =
    let at = l.laid.parts in
    all-both (IsBounded l.laid)
    (map (λ s. (s.value, s.size)) (filter is_data (map (symbol_read at.symbols_at) (enumerate_from 0 l.lists.symbols))))
    (map (λ e. (e.object, e.size)) (filter (λ e. nat_lt e.permissions (2 ^ 63)) (map (cap_reloc_read at.cap_relocs_at) (enumerate_from 0 l.lists.cap_relocs))))
    (symbols-bounded l h at.symbols_at) (entries-bounded l h at.cap_relocs_at)
