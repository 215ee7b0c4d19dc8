-- The lists of a link are those of its plan, and the sizes of the plan are those of the lists.
use Rattle.std.proofs.Common.{◌≡◌, ℕ, ◌+◌, ◌*◌, Bool, true, false, cond, List, [], ◌∷◌, ◌++◌, length, map, take, drop, refl, sym, ap, ◌∙◌, subst, arith, append_assoc, length-append, take-append-drop, Option, Ok}
use Rattle.std.specs.Prelude.{filter, option_to_list, pos}
use Rattle.std.specs.List.{flat_map, enumerate_from}
use Rattle.std.proofs.lemmas.List.{drop_at, take_at}
use Rattle.cap_base.specs.Field.{number_bytes}
use Rattle.cap_base.specs.Steps.{steps}
use Rattle.cap_elf.specs.RelObject.{RelObject}
use Rattle.cap_elf.proofs.Passing.{bind_passed}
use Rattle.cap_syms.specs.Decisions.{is_present}
use Rattle.cap_syms.specs.Resolved.{row_of}
use Rattle.cap_layout.specs.declared.parts.Parts.{Parts}
use Rattle.cap_layout.specs.declared.parts.Sizes.{Sizes}
use Rattle.cap_layout.specs.Points.{Laid}
use Rattle.cap_layout.specs.Laid.{laid_as}
use Rattle.cap_table.specs.declared.records.DynEntry.{DynEntry}
use Rattle.cap_table.specs.declared.target.Target.{Target}
use Rattle.cap_table.specs.declared.target.Step.{Step}
use Rattle.cap_table.specs.Targets.{Named, row_target, is_fixed, fixed_value}
use Rattle.cap_table.specs.Checks.{reloc_of, target_at}
use Rattle.cap_table.specs.Planned.{Planned, planned, sizes_of, tags_of, symbol_names, all_names, name_bytes, is_relocated, is_described, fields_of}
use Rattle.cap_table.specs.Lists.{Want, CapTableValue, DynSymbolValue, slot_want, field_want, slot_wants, field_wants, wants, dyn_symbol, present_symbol, absent_symbol, null_dyn_symbol, name_offsets, dynamics_of, entries_with, tag_entry, linked_names, dyn_reloc_of, cap_reloc_of, filled}
use Rattle.cap_table.specs.Bodies.{zeros, BodiesValue, slot_held, held, plain_of}
use Rattle.cap_code.specs.Values.{Scene, is_patched}
use Rattle.cap_code.specs.Patched.{stub_bytes, patch_step, patch_of}
use Rattle.cap_link.specs.Inputs.{FilesRead}
use Rattle.cap_link.specs.Linked.{Linked}
use Rattle.cap_link.specs.Content.{named_symbols, names_of_symbols, string_names, own_at, needed_at}
use Rattle.cap_link.proofs.Made.{AreListed, AreSized, IsLaidOut}
use Rattle.cap_link.proofs.Naming.{offsets-behind, offsets-length}
use Rattle.cap_link.proofs.Viewing.{length-texts}
use Rattle.cap_link.proofs.Planning.{length-map}
use Rattle.cap_link.proofs.Passes.{same-accepted, IsPlanned}

-- ---- counts of the wants
one-more : {X Y : Type 0} (b : Bool) (x : X) (y : Y) (xs : List X) (ys : List Y) → length xs ≡ length ys → length (cond b (x ∷ xs) xs) ≡ length (cond b (y ∷ ys) ys)
one-more true x y xs ys h = omega (arith, h)
one-more false x y xs ys h = h

count-slots : (test : ℕ → Target → Bool) (laid : Laid) (n : ℕ) (slots : List Target) → length (filter (λ w. test w.kind w.target) (map (slot_want laid) (enumerate_from n slots))) ≡ length (filter (test 193) slots)
count-slots test laid n [] = refl
count-slots test laid n (t ∷ ts) =
    one-more (test 193 t) (slot_want laid (n, t)) t (filter (λ (w : Want). test w.kind w.target) (map (slot_want laid) (enumerate_from (n + 1) ts))) (filter (test 193) ts) (count-slots test laid (n + 1) ts)

count-fields : (test : ℕ → Target → Bool) (named : Named) (laid : Laid) (ss : List Step) → length (filter (λ w. test w.kind w.target) (map (field_want named laid) ss)) ≡ length (filter (λ s. test (reloc_of named.rels s).kind (target_at named s)) ss)
count-fields test named laid [] = refl
count-fields test named laid (s ∷ ss) =
    one-more (test (reloc_of named.rels s).kind (target_at named s)) (field_want named laid s) s (filter (λ (w : Want). test w.kind w.target) (map (field_want named laid) ss)) (filter (λ (q : Step). test (reloc_of named.rels q).kind (target_at named q)) ss) (count-fields test named laid ss)

one-counted : {X : Type 0} (b : Bool) (x : X) (zs xs : List X) (n : ℕ) → length zs ≡ length xs + n → length (cond b (x ∷ zs) zs) ≡ length (cond b (x ∷ xs) xs) + n
one-counted true x zs xs n h = omega (arith, h)
one-counted false x zs xs n h = h

length-filter-append : {X : Type 0} (test : X → Bool) (xs ys : List X) → length (filter test (xs ++ ys)) ≡ length (filter test xs) + length (filter test ys)
length-filter-append test [] ys = omega arith
length-filter-append test (x ∷ xs) ys = one-counted (test x) x (filter test (xs ++ ys)) (filter test xs) (length (filter test ys)) (length-filter-append test xs ys)

count-wants : (test : ℕ → Target → Bool) (named : Named) (plan : Planned) (laid : Laid) → length (filter (λ w. test w.kind w.target) (wants named plan laid)) ≡ length (filter (test 193) plan.slots) + length (filter (λ s. test (reloc_of named.rels s).kind (target_at named s)) (fields_of named plan.steps))
count-wants test named plan laid =
    let a = length-filter-append (λ (w : Want). test w.kind w.target) (slot_wants plan laid) (field_wants named plan laid) in
    let b = count-slots test laid 0 plan.slots in
    let c = count-fields test named laid (fields_of named plan.steps) in
    omega (arith, a, b, c)

-- ---- names
either-name : (b : Bool) (s t : DynSymbolValue) (name : List ℕ) → s.name ≡ name → t.name ≡ name → (cond b s t).name ≡ name
either-name true s t name h g = h
either-name false s t name h g = g

two-names : {a b : List ℕ} {xs ys : List (List ℕ)} → a ≡ b → xs ≡ ys → a ∷ xs ≡ b ∷ ys
two-names x y = cc

pub name-is : (named : Named) (laid : Laid) (row : ℕ) → (dyn_symbol named laid row).name ≡ (row_of named.table row).name
unfolding present_symbol absent_symbol
name-is named laid row = either-name (is_present (row_of named.table row).entry.shape) (present_symbol laid (row_of named.table row) (row_target named row)) (absent_symbol (row_of named.table row)) (row_of named.table row).name refl refl

names-are : (named : Named) (laid : Laid) (rows : List ℕ) → names_of_symbols (map (dyn_symbol named laid) rows) ≡ symbol_names named.table rows
names-are named laid [] = refl
names-are named laid (row ∷ rows) =
    let one = name-is named laid row in
    let rest = names-are named laid rows in
    two-names one rest

pub listed-is : (files : FilesRead) (needed : List (List ℕ)) (soname : Option (List ℕ)) (l : Linked) → l.lists ≡ filled l.named l.lists.plan l.laid → IsPlanned l.named l.laid.pieces.all needed soname l.lists.plan → AreListed l
unfolding filled
listed-is files needed soname l is h =
    let plan = l.lists.plan in
    let named = l.named in
    let laid = l.laid in
    let made = map (dyn_symbol named laid) plan.symbols in
    let symbols : l.lists.symbols ≡ null_dyn_symbol ∷ made = ap (λ (x : CapTableValue). x.symbols) is in
    let after : named_symbols l ≡ made = ap (drop 1) symbols in
    let texts : names_of_symbols (named_symbols l) ≡ symbol_names named.table plan.symbols = ap names_of_symbols after ∙ names-are named laid plan.symbols in
    let names : linked_names named plan ≡ string_names l =
    append_assoc (symbol_names named.table plan.symbols) (option_to_list plan.soname) plan.needed ∙ ap (λ (xs : List (List ℕ)). xs ++ (option_to_list plan.soname ++ plan.needed)) (sym texts) in
    let rows : length plan.symbols ≡ length (named_symbols l) = sym (length-map (dyn_symbol named laid) plan.symbols) ∙ ap length (sym after) in
    let rest = option_to_list plan.soname ++ plan.needed in
    let front : length (name_offsets 1 (names_of_symbols (named_symbols l))) ≡ length plan.symbols =
    omega (arith, offsets-length 1 (names_of_symbols (named_symbols l)), length-texts (named_symbols l), rows) in
    let taken : take (length plan.symbols) (name_offsets 1 (linked_names named plan)) ≡ name_offsets 1 (names_of_symbols (named_symbols l)) =
    ap (λ (xs : List (List ℕ)). take (length plan.symbols) (name_offsets 1 xs)) names
    ∙ ap (take (length plan.symbols)) (offsets-behind 1 (names_of_symbols (named_symbols l)) rest)
    ∙ take_at (name_offsets 1 (names_of_symbols (named_symbols l))) (name_offsets (own_at l) rest) (length plan.symbols) front in
    record {
      symbols = symbols ∙ ap (λ (xs : List DynSymbolValue). null_dyn_symbol ∷ xs) (sym after);
      offsets = ap (λ (x : CapTableValue). x.offsets) is ∙ ap (λ (xs : List ℕ). 0 ∷ xs) taken;
      names = ap (λ (x : CapTableValue). x.names) is ∙ ap name_bytes names;
      dynamics = ap (λ (x : CapTableValue). x.dynamics) is ∙ ap (λ (xs : List (List ℕ)). dynamics_of plan (name_offsets 1 xs) laid.parts) names;
      rows = rows;
    }

-- ---- stubs and slots
held-long : (b : Bool) (t : Target) → length (cond b (number_bytes 8 (fixed_value t (pos 0)) ++ zeros 8) (zeros 16)) ≡ 16
held-long true t = refl
held-long false t = refl

slot-long : (t : Target) → length (slot_held t) ≡ 16
unfolding held
slot-long t = held-long (is_fixed t) t

long-flat : {X : Type 0} (f : X → List ℕ) (size : ℕ) (xs : List X) → ((x : X) → length (f x) ≡ size) → length (flat_map f xs) ≡ size * length xs
long-flat f size [] h = omega arith
long-flat f size (x ∷ xs) h =
    let rest = long-flat f size xs h in
    let one = h x in
    omega (arith, length-append (f x) (flat_map f xs), one, rest)

stub-long : (lists : CapTableValue) (t : Target) → length (stub_bytes lists t) ≡ 16
unfolding stub_bytes
stub-long lists t = refl

-- the stubs and slots of patched bytes
pub record HasStubs (scene : Scene) (bodies : BodiesValue) : Type 0 where
  pub stubs : length bodies.stubs ≡ 16 * length scene.lists.plan.stubs
  pub slots : length bodies.slots ≡ 16 * length scene.lists.plan.slots
  pub pieces : steps (patch_step scene) (plain_of scene.named scene.lists.plan scene.laid.pieces.all).pieces (filter (is_patched scene.named) scene.lists.plan.steps) ≡ Ok bodies.pieces

pub stubs-passed : (scene : Scene) (bodies : BodiesValue) → patch_of scene ≡ Ok bodies → HasStubs scene bodies
unfolding patch_of plain_of
stubs-passed scene bodies h =
    let plain = plain_of scene.named scene.lists.plan scene.laid.pieces.all in
    let a = bind_passed (steps (patch_step scene) plain.pieces (filter (is_patched scene.named) scene.lists.plan.steps)) _ bodies h in
    let made : BodiesValue = record { pieces = a.0; stubs = flat_map (stub_bytes scene.lists) scene.lists.plan.stubs; slots = plain.slots } in
    let is : made ≡ bodies = same-accepted made bodies a.2 in
    let all : HasStubs scene made = record {
      stubs = long-flat (stub_bytes scene.lists) 16 scene.lists.plan.stubs (stub-long scene.lists);
      slots = long-flat slot_held 16 scene.lists.plan.slots slot-long;
      pieces = a.1;
    } in
    subst (HasStubs scene) is all

-- ---- sizes
split-length : (k : ℕ) (xs : List ℕ) → length (drop k xs) + length (take k xs) ≡ length xs
split-length k xs = omega (arith, length-append (take k xs) (drop k xs), ap length (take-append-drop k xs))

abbrev pub dyn_entry : ℕ → ℕ → DynEntry
dyn_entry tag value = record { tag = tag; value = value }

dynamics-long : (plan : Planned) (at : Parts) (offsets behind : List ℕ) → drop (length plan.symbols) offsets ≡ behind → length (dynamics_of plan offsets at) ≡ length behind + length (tags_of plan)
dynamics-long plan at offsets behind e =
    let own = drop (length plan.symbols) offsets in
    let k = length (option_to_list plan.soname) in
    let a = length-append (entries_with 1 (drop k own) ++ entries_with 14 (take k own)) (map (tag_entry plan at) (tags_of plan)) in
    let b = length-append (entries_with 1 (drop k own)) (entries_with 14 (take k own)) in
    let c = length-map (λ (value : ℕ). dyn_entry 1 value) (drop k own) in
    let d = length-map (λ (value : ℕ). dyn_entry 14 value) (take k own) in
    let f = length-map (tag_entry plan at) (tags_of plan) in
    let g = split-length k own in
    let i : length own ≡ length behind = ap length e in
    omega (arith, a, b, c, d, f, g, i)

pub sized-is : (needed : List (List ℕ)) (soname : Option (List ℕ)) (l : Linked) → l.lists ≡ filled l.named l.lists.plan l.laid → IsPlanned l.named l.laid.pieces.all needed soname l.lists.plan → AreListed l → HasStubs (record { named = l.named; laid = l.laid; lists = l.lists }) l.bodies → AreSized l
unfolding filled planned sizes_of
sized-is needed soname l is h listed stubs =
    let plan = l.lists.plan in
    let named = l.named in
    let laid = l.laid in
    let pieces = laid.pieces.all in
    let sizes : plan.sizes ≡ sizes_of named pieces needed soname plan.steps = ap (λ (p : Planned). p.sizes) h.is in
    let slots : plan.slots ≡ (planned named pieces needed soname plan.steps).slots = ap (λ (p : Planned). p.slots) h.is in
    let slot_count : plan.sizes.slots ≡ length plan.slots = ap (λ (s : Sizes). s.slots) sizes ∙ ap length (sym slots) in
    let stub_count : plan.sizes.stubs ≡ length plan.stubs = ap (λ (s : Sizes). s.stubs) sizes ∙ ap length (sym (ap (λ (p : Planned). p.stubs) h.is)) in
    let relas : plan.sizes.relas ≡ length l.lists.relas =
    ap (λ (s : Sizes). s.relas) sizes
    ∙ ap (λ (ts : List Target). length (filter (is_relocated 193) ts) + length (filter (λ (s : Step). is_relocated (reloc_of named.rels s).kind (target_at named s)) (fields_of named plan.steps))) (sym slots)
    ∙ sym (count-wants is_relocated named plan laid)
    ∙ sym (length-map (dyn_reloc_of plan.symbols laid) (filter (λ (w : Want). is_relocated w.kind w.target) (wants named plan laid)))
    ∙ ap length (sym (ap (λ (x : CapTableValue). x.relas) is)) in
    let caps : plan.sizes.cap_relocs ≡ length l.lists.cap_relocs =
    ap (λ (s : Sizes). s.cap_relocs) sizes
    ∙ ap (λ (ts : List Target). length (filter (is_described 193) ts) + length (filter (λ (s : Step). is_described (reloc_of named.rels s).kind (target_at named s)) (fields_of named plan.steps))) (sym slots)
    ∙ sym (count-wants is_described named plan laid)
    ∙ sym (length-map (cap_reloc_of laid) (filter (λ (w : Want). is_described w.kind w.target) (wants named plan laid)))
    ∙ ap length (sym (ap (λ (x : CapTableValue). x.cap_relocs) is)) in
    let rows : plan.symbols ≡ (planned named pieces needed soname plan.steps).symbols = ap (λ (p : Planned). p.symbols) h.is in
    let own : plan.soname ≡ soname = ap (λ (p : Planned). p.soname) h.is in
    let others : plan.needed ≡ needed = ap (λ (p : Planned). p.needed) h.is in
    let symbols : plan.sizes.symbols ≡ 1 + length plan.symbols = ap (λ (s : Sizes). s.symbols) sizes ∙ ap (λ (xs : List ℕ). 1 + length xs) (sym rows) in
    let names : plan.sizes.names ≡ length (name_bytes (linked_names named plan)) =
    ap (λ (s : Sizes). s.names) sizes
    ∙ ap (λ (xs : List ℕ). length (name_bytes (all_names (symbol_names named.table xs) soname needed))) (sym rows)
    ∙ ap (λ (o : Option (List ℕ)). length (name_bytes (all_names (symbol_names named.table plan.symbols) o needed))) (sym own)
    ∙ ap (λ (xs : List (List ℕ)). length (name_bytes (all_names (symbol_names named.table plan.symbols) plan.soname xs))) (sym others) in
    let in_file : length (name_bytes (linked_names named plan)) ≡ length (name_bytes (string_names l)) = ap length (sym (ap (λ (x : CapTableValue). x.names) is) ∙ listed.names) in
    let texts = names_of_symbols (named_symbols l) in
    let options = option_to_list plan.soname in
    let behind = name_offsets (own_at l) options ++ name_offsets (needed_at l) plan.needed in
    let whole : name_offsets 1 (string_names l) ≡ name_offsets 1 texts ++ behind =
    offsets-behind 1 texts (options ++ plan.needed) ∙ ap (λ (r : List ℕ). name_offsets 1 texts ++ r) (offsets-behind (own_at l) options plan.needed) in
    let front : length (name_offsets 1 texts) ≡ length plan.symbols = omega (arith, offsets-length 1 texts, length-texts (named_symbols l), listed.rows) in
    let rest : drop (length plan.symbols) (name_offsets 1 (string_names l)) ≡ behind =
    ap (drop (length plan.symbols)) whole ∙ drop_at (name_offsets 1 texts) behind (length plan.symbols) front in
    let long : length l.lists.dynamics ≡ length behind + length (tags_of plan) = ap length listed.dynamics ∙ dynamics-long plan laid.parts (name_offsets 1 (string_names l)) behind rest in
    let behind_long : length behind ≡ length plan.needed + length options =
    omega (arith, length-append (name_offsets (own_at l) options) (name_offsets (needed_at l) plan.needed), offsets-length (own_at l) options, offsets-length (needed_at l) plan.needed) in
    let tags : tags_of plan ≡ tags_of (planned named pieces needed soname plan.steps) = ap tags_of h.is in
    let counted : plan.sizes.dynamics ≡ length needed + length (option_to_list soname) + length (tags_of (planned named pieces needed soname plan.steps)) = ap (λ (s : Sizes). s.dynamics) sizes in
    let dynamics : plan.sizes.dynamics ≡ length l.lists.dynamics =
    omega (arith, long, behind_long, ap length tags, counted, ap length others, ap (λ (o : Option (List ℕ)). length (option_to_list o)) own) in
    record {
      symbols = omega (arith, symbols, listed.rows);
      relas = relas;
      cap_relocs = caps;
      names = names ∙ in_file;
      slots = stubs.slots ∙ ap (λ (k : ℕ). 16 * k) (sym slot_count);
      stubs = stubs.stubs ∙ ap (λ (k : ℕ). 16 * k) (sym stub_count);
      dynamics = dynamics;
    }

pub laid-out-is : (rels : List RelObject) (needed : List (List ℕ)) (soname : Option (List ℕ)) (l : Linked) → l.laid ≡ laid_as rels l.laid.pieces l.lists.plan.sizes → IsPlanned l.named l.laid.pieces.all needed soname l.lists.plan → IsLaidOut l
unfolding planned
laid-out-is rels needed soname l is h = record {
  parts = ap (λ (x : Laid). x.parts) is;
  addresses = ap (λ (x : Laid). x.addresses) is;
  has_init = ap (λ (p : Planned). p.has_init) h.is;
  has_fini = ap (λ (p : Planned). p.has_fini) h.is;
}
