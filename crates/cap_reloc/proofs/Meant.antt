-- The pairs that are wanted are what the relocations mean.
use Rattle.std.proofs.Common.{◌≡◌, ℕ, ◌+◌, ◌%◌, Bool, true, false, List, [], ◌∷◌, ◌++◌, map, filter, Option, Some, None, Result, Ok, Err, refl, sym, ap, ap₂, ◌∙◌, subst, arith}
use Rattle.std.specs.Prelude.{ℤ, pos, negsuc, not, ◌==◌, ◌^◌, ◌&&◌, ◌||◌, nat_le, nat_lt, unwrap_or, filter_map, slice_index, option_map, if◌then◌else◌}
use Rattle.std.specs.List.{AllZip, cons_option}
use Rattle.std.proofs.lemmas.Bool.Decides.{nat_tests}
use Rattle.cap_base.specs.declared.check.Check.TheVariants.{Addend, CapabilityPermissions, RelocationKind, RelocationSlot, SymbolInterval}
use Rattle.cap_base.specs.Steps.{◌>>=◌, ◌>>◌, gather}
use Rattle.cap_conc.specs.Computed.{is_exact}
use Rattle.cap_own.specs.Cap.{Cap}
use Rattle.cap_elf.specs.declared.records.Symbol.{Symbol}
use Rattle.cap_elf.specs.declared.records.DynReloc.{DynReloc}
use Rattle.cap_elf.specs.declared.records.CapReloc.{CapReloc}
use Rattle.cap_elf.proofs.Passing.{bind_passed, choice_passed}
use Rattle.cap_fits.specs.Places.{reading, writing, data_permissions, is_absolute, is_function, is_in_code}
use Rattle.cap_scope.specs.declared.choice.Hit.{Hit}
use Rattle.cap_scope.specs.declared.choice.Choice.{Choice}
use Rattle.cap_scope.specs.declared.choice.Choice.TheVariants as choices
use Rattle.cap_scope.specs.Chosen.{object_at, chosen}
use Rattle.cap_reloc.specs.declared.refusal.RelocRefusal.{RelocRefusal}
use Rattle.cap_reloc.specs.declared.refusal.RelocRefusal.TheVariants.{Inexact}
use Rattle.cap_reloc.specs.declared.target.Target.{Target}
use Rattle.cap_reloc.specs.declared.target.Target.TheVariants.{Definition, Zero, Missing}
use Rattle.cap_reloc.specs.Meant.{IsPairOf, WantedIsMeant, content_or, definition_cap, entry_cap, has_slot, hit_of, mapped_cap, meant, meant_content, named_cap, named_number, number_content}
use Rattle.cap_reloc.specs.Refusing.{malformed, unsupported, refuse, or_refuse, with_earlier_from, with_earlier}
use Rattle.cap_reloc.specs.Wanted.{Setting, Relocation, Entry, Record, Content, Number, Untagged, Tagged, Pair, own, bias, relocations_of, symbol_at, name_at, symbol_of, is_local, is_own, is_weak, is_kind, is_no_place, is_zero, slot_fails, width_of_kind, plus_signed, offset_in, value_of, target_by, target_of, number_for, function_cap, data_cap, exact_cap, function_content, data_content, definition_content, capability_for, record_content, entry_function, entry_data, entry_content, pair_at, wanted, wanted_pairs, entry_pair, slot_pair, record_pair, touches, slot_of}
use Rattle.cap_reloc.proofs.NotedWords.{or_refuse_passed, refuse_passed}

abbrev given : {X : Type 0} → X → Result X RelocRefusal
given x = Ok x

-- ---- which definition is meant

-- a target that is no refusal is the definition that is meant, or none
abbrev TargetIs : Target → Option Hit → Type 0
TargetIs (Definition hit) o = o ≡ Some hit
TargetIs Zero o = o ≡ None
TargetIs Missing o = Unit {0}

if_is : (b : Bool) (x y : Target) (o p : Option Hit) → TargetIs x o → TargetIs y p → TargetIs (if b then x else y) (if b then o else p)
if_is true x y o p h k = h
if_is false x y o p h k = k

none_is : (weak : Bool) → TargetIs (if weak then Zero else Missing) None
none_is true = refl
none_is false = tt

choice_is : (s : Symbol) (choice : Choice) → TargetIs (target_by s choice) (hit_of choice)
choice_is s (choices.Strong hit) = refl
choice_is s (choices.Weak hit) = refl
choice_is s choices.None = none_is (is_weak s)

target_is : (setting : Setting) (i : ℕ) → TargetIs (target_of setting i) (meant setting i)
unfolding target_of
target_is setting i =
    let s = symbol_at (own setting) i in
    let mine : Hit = record { object = setting.index; symbol = i } in
    let choice : Choice = chosen setting.rule setting.objects setting.scope (name_at (own setting) i) in
    if_is (i == 0) Zero (if is_own s then Definition mine else if is_local s then Zero else target_by s choice) None (if is_own s then Some mine else if is_local s then None else hit_of choice) refl
    (if_is (is_own s) (Definition mine) (if is_local s then Zero else target_by s choice) (Some mine) (if is_local s then None else hit_of choice) refl
    (if_is (is_local s) Zero (target_by s choice) None (hit_of choice) refl (choice_is s choice)))

-- ---- contents

-- a content is that of this capability, with some note
abbrev IsTaggedBy : Cap → Content → Type 0
IsTaggedBy c content = (note : ℕ) × (content ≡ Tagged c note)

exact_tagged : (hit : Option Hit) (note : ℕ) (c : Cap) (content : Content) → exact_cap hit note c ≡ Ok content → IsTaggedBy c content
unfolding exact_cap
exact_tagged hit note c content h =
    let passed = refuse_passed (not (is_exact c.base c.len)) (Inexact hit c.base c.len) (given (Tagged c note)) content h in
    let last : given (Tagged c note) ≡ Ok content = passed.1 in
    let e : content ≡ Tagged c note = cc in
    (note, e)

function_tagged : (setting : Setting) (hit : Hit) (addend : ℤ) (at : ℕ) (content : Content) → function_content setting hit addend at ≡ Ok content
    → IsTaggedBy (function_cap (object_at setting.objects hit.object) (slice_index setting.bases hit.object) hit.object (symbol_of setting hit).value) content
unfolding function_content
function_tagged setting hit addend at content h =
    let object = object_at setting.objects hit.object in
    let placed = refuse_passed (not (is_in_code object (symbol_of setting hit).value)) (malformed SymbolInterval at) _ content h in
    let whole = refuse_passed (not (is_zero addend)) (malformed Addend at) _ content placed.1 in
    exact_tagged (Some hit) hit.symbol _ content whole.1

abbrev data_of : Setting → Hit → ℕ → ℕ → Cap
data_of setting hit offset perms = data_cap (slice_index setting.bases hit.object) hit.object (symbol_of setting hit).value (symbol_of setting hit).size offset perms

data_tagged : (setting : Setting) (hit : Hit) (addend : ℤ) (at : ℕ) (content : Content) → data_content setting hit addend at ≡ Ok content
    → IsTaggedBy (data_of setting hit (unwrap_or (offset_in addend (symbol_of setting hit).size) 0) (unwrap_or (data_permissions (object_at setting.objects hit.object) (symbol_of setting hit).value (symbol_of setting hit).size) 0)) content
unfolding data_content
data_tagged setting hit addend at content h =
    let s = symbol_of setting hit in
    let given_perms = data_permissions (object_at setting.objects hit.object) s.value s.size in
    let place = refuse_passed (is_no_place s) (malformed SymbolInterval at) _ content h in
    let perms = or_refuse_passed given_perms (malformed SymbolInterval at) (λ perms. or_refuse (offset_in addend s.size) (malformed Addend at) >>= λ offset. exact_cap (Some hit) hit.symbol (data_of setting hit offset perms)) content place.1 in
    let offset = or_refuse_passed (offset_in addend s.size) (malformed Addend at) (λ offset. exact_cap (Some hit) hit.symbol (data_of setting hit offset perms.0)) content perms.2 in
    let is = exact_tagged (Some hit) hit.symbol (data_of setting hit offset.0 perms.0) content offset.2 in
    let rights : unwrap_or (data_permissions (object_at setting.objects hit.object) (symbol_of setting hit).value (symbol_of setting hit).size) 0 ≡ perms.0 = ap (λ (o : Option ℕ). unwrap_or o 0) perms.1 in
    let begins : unwrap_or (offset_in addend (symbol_of setting hit).size) 0 ≡ offset.0 = ap (λ (o : Option ℕ). unwrap_or o 0) offset.1 in
    subst (λ (c : Cap). IsTaggedBy c content) (sym (ap₂ (data_of setting hit) begins rights)) is

-- what a slot holds that is to have 16 bytes, by what it names
abbrev IsContent : Option Cap → ℕ → ℕ → Content → Type 0
IsContent named width n content = (note : ℕ) × (content ≡ content_or named width n note)

as_content : (c : Cap) (width n : ℕ) (content : Content) → IsTaggedBy c content → IsContent (Some c) width n content
as_content c width n content is = is

untagged_is : (n : ℕ) (content : Content) → given (Untagged n) ≡ Ok content → IsContent None 16 n content
untagged_is n content h = let e : content ≡ Untagged n = cc in (0, e)

either_cap : (b : Bool) (x y : Cap) (content : Content) → (b ≡ true → IsTaggedBy x content) → (b ≡ false → IsTaggedBy y content) → IsTaggedBy (if b then x else y) content
either_cap true x y content on_true on_false = on_true refl
either_cap false x y content on_true on_false = on_false refl

definition_is : (setting : Setting) (hit : Hit) (addend : ℤ) (at : ℕ) (content : Content) → definition_content setting hit addend at ≡ Ok content
    → IsContent (mapped_cap setting addend (Some hit)) 16 (plus_signed (value_of setting hit) addend) content
unfolding definition_content
definition_is setting hit addend at content h = go (is_absolute (symbol_of setting hit).place) refl h
  where
    mapped : (function : Bool) → is_function (symbol_of setting hit) ≡ function → (if function then function_content setting hit addend at else data_content setting hit addend at) ≡ Ok content
        → IsTaggedBy (if function then function_cap (object_at setting.objects hit.object) (slice_index setting.bases hit.object) hit.object (symbol_of setting hit).value
        else data_of setting hit (unwrap_or (offset_in addend (symbol_of setting hit).size) 0) (unwrap_or (data_permissions (object_at setting.objects hit.object) (symbol_of setting hit).value (symbol_of setting hit).size) 0)) content
    mapped true is h = function_tagged setting hit addend at content h
    mapped false is h = data_tagged setting hit addend at content h

    go : (absolute : Bool) → is_absolute (symbol_of setting hit).place ≡ absolute
        → (if absolute then Ok (Untagged (plus_signed (symbol_of setting hit).value addend)) else if is_function (symbol_of setting hit) then function_content setting hit addend at else data_content setting hit addend at) ≡ Ok content
        → IsContent (if absolute then None else Some (definition_cap setting addend hit)) 16 (plus_signed (if absolute then (symbol_of setting hit).value else (slice_index setting.bases hit.object + (symbol_of setting hit).value) % 2 ^ 64) addend) content
    go true is h = untagged_is (plus_signed (symbol_of setting hit).value addend) content h
    go false is h = as_content (definition_cap setting addend hit) 16 (plus_signed ((slice_index setting.bases hit.object + (symbol_of setting hit).value) % 2 ^ 64) addend) content (mapped (is_function (symbol_of setting hit)) refl h)

-- the number of what is meant
abbrev number_meant : Setting → ℤ → Option Hit → ℕ
number_meant setting addend o = plus_signed (unwrap_or (option_map (value_of setting) o) 0) addend

capability_is : (setting : Setting) (r : DynReloc) (target : Target) (o : Option Hit) (content : Content) → TargetIs target o → capability_for setting r target ≡ Ok content
    → IsContent (mapped_cap setting r.addend o) 16 (number_meant setting r.addend o) content
unfolding capability_for
capability_is setting r (Definition hit) o content is h =
    subst (λ (o : Option Hit). IsContent (mapped_cap setting r.addend o) 16 (number_meant setting r.addend o) content) (sym is) (definition_is setting hit r.addend r.at content h)
capability_is setting r Zero o content is h =
    subst (λ (o : Option Hit). IsContent (mapped_cap setting r.addend o) 16 (number_meant setting r.addend o) content) (sym is) (untagged_is (plus_signed 0 r.addend) content h)
capability_is setting r Missing o content is h = absurd (cc)

number_is : (setting : Setting) (i : ℕ) (addend : ℤ) (target : Target) (o : Option Hit) (content : Content) → TargetIs target o → (number_for setting i target >>= λ n. given (Number (plus_signed n addend))) ≡ Ok content
    → content ≡ Number (number_meant setting addend o)
number_is setting i addend (Definition hit) o content is h =
    let e : content ≡ Number (plus_signed (value_of setting hit) addend) = cc in
    e ∙ ap (λ (o : Option Hit). Number (number_meant setting addend o)) (sym is)
number_is setting i addend Zero o content is h =
    let e : content ≡ Number (plus_signed 0 addend) = cc in
    e ∙ ap (λ (o : Option Hit). Number (number_meant setting addend o)) (sym is)
number_is setting i addend Missing o content is h = absurd (cc)

-- ---- relocations

-- what a record of a kind means
abbrev content_for : Setting → DynReloc → ℕ → ℕ → Content
content_for s r kind note =
    content_or (if width_of_kind kind == 16 then mapped_cap s r.addend (meant s r.symbol) else None) (width_of_kind kind)
    (plus_signed (if kind == 3 then bias s else unwrap_or (option_map (value_of s) (meant s r.symbol)) 0) r.addend) note

abbrev IsContentFor : Setting → DynReloc → Content → ℕ → Type 0
IsContentFor s r content kind = (note : ℕ) × (content ≡ content_for s r kind note)

is_number : (kind n : ℕ) → (kind == n) ≡ true → kind ≡ n
is_number kind n e = grind (arith, nat_tests, e)

-- of the kinds that are taken, these have a capability
last_kinds : (zero_is two_is three_is five_is last_is : Bool) → (zero_is || two_is || three_is || five_is || last_is) ≡ true → zero_is ≡ false → two_is ≡ false → three_is ≡ false → five_is ≡ false → last_is ≡ true
last_kinds false false false false true h a b c d = refl
last_kinds false false false false false h a b c d = absurd (cc)
last_kinds true two_is three_is five_is last_is h a b c d = absurd (cc)
last_kinds false true three_is five_is last_is h a b c d = absurd (cc)
last_kinds false false true five_is last_is h a b c d = absurd (cc)
last_kinds false false false true last_is h a b c d = absurd (cc)

some_width : (zero_is two_is three_is five_is last_is : Bool) → (zero_is || two_is || three_is || five_is || last_is) ≡ true → zero_is ≡ false → nat_lt 0 (if two_is || three_is then 8 else if five_is || last_is then 16 else 0) ≡ true
some_width true two_is three_is five_is last_is h unset = absurd (cc)
some_width false true three_is five_is last_is h unset = refl
some_width false false true five_is last_is h unset = refl
some_width false false false true last_is h unset = refl
some_width false false false false true h unset = refl
some_width false false false false false h unset = absurd (cc)

capability_kind : (setting : Setting) (r : DynReloc) (content : Content) → IsContent (mapped_cap setting r.addend (meant setting r.symbol)) 16 (number_meant setting r.addend (meant setting r.symbol)) content
    → (five_is : Bool) → (r.kind == 5) ≡ five_is → ((r.kind == 5) ≡ false → (r.kind == 193) ≡ true) → IsContentFor setting r content r.kind
capability_kind setting r content is true five last = subst (IsContentFor setting r content) (sym (is_number r.kind 5 five)) is
capability_kind setting r content is false five last = subst (IsContentFor setting r content) (sym (is_number r.kind 193 (last five))) is

-- the kinds of records other than NONE
record_is : (setting : Setting) (r : DynReloc) (content : Content) → is_kind r.kind ≡ true → (r.kind == 0) ≡ false → record_content setting r ≡ Ok content → IsContentFor setting r content r.kind
unfolding record_content
record_is setting r content kind some h =
    choice_passed (r.kind == 3) _ _ (Ok content) h
    (λ yes same.
    let e : content ≡ Number (plus_signed (bias setting) r.addend) = as_number (plus_signed (bias setting) r.addend) content same in
    subst (IsContentFor setting r content) (sym (is_number r.kind 3 yes)) (0, e))
    (λ not_three later. choice_passed (r.kind == 2) _ _ (Ok content) later
    (λ yes same. subst (IsContentFor setting r content) (sym (is_number r.kind 2 yes)) (0, number_is setting r.symbol r.addend (target_of setting r.symbol) (meant setting r.symbol) content (target_is setting r.symbol) same))
    (λ not_two same.
    capability_kind setting r content (capability_is setting r (target_of setting r.symbol) (meant setting r.symbol) content (target_is setting r.symbol) same) (r.kind == 5) refl
    (λ not_five. last_kinds (r.kind == 0) (r.kind == 2) (r.kind == 3) (r.kind == 5) (r.kind == 193) kind some not_two not_three not_five)))
  where
    as_number : (n : ℕ) (content : Content) → given (Number n) ≡ Ok content → content ≡ Number n
    as_number n content h = cc

entry_function_is : (setting : Setting) (e : CapReloc) (content : Content) → entry_function setting e ≡ Ok content → IsTaggedBy (function_cap (own setting) (bias setting) setting.index e.object) content
unfolding entry_function
entry_function_is setting e content h =
    let placed = refuse_passed (not (is_in_code (own setting) e.object)) (malformed SymbolInterval e.at) _ content h in
    let whole = refuse_passed (not (e.offset == 0)) (malformed Addend e.at) _ content placed.1 in
    exact_tagged None 0 _ content whole.1

entry_data_is : (setting : Setting) (e : CapReloc) (for_reading : Bool) (content : Content) → entry_data setting e for_reading ≡ Ok content
    → IsTaggedBy (data_cap (bias setting) setting.index e.object e.size e.offset (if for_reading then reading else writing)) content
unfolding entry_data
entry_data_is setting e for_reading content h =
    let held = exact_cap None 0 (data_cap (bias setting) setting.index e.object e.size e.offset (if for_reading then reading else writing)) in
    let begins = refuse (not (nat_le e.offset e.size)) (malformed Addend e.at) >> held in
    let perms = or_refuse_passed (data_permissions (own setting) e.object e.size) (malformed SymbolInterval e.at)
    (λ perms. refuse (not for_reading && not (perms == writing)) (malformed CapabilityPermissions e.at) >> begins) content h in
    let allowed = refuse_passed (not for_reading && not (perms.0 == writing)) (malformed CapabilityPermissions e.at) begins content perms.2 in
    let offset = refuse_passed (not (nat_le e.offset e.size)) (malformed Addend e.at) held content allowed.1 in
    exact_tagged None 0 _ content offset.1

entry_is : (setting : Setting) (e : CapReloc) (content : Content) → entry_content setting e ≡ Ok content → IsTaggedBy (entry_cap setting e) content
unfolding entry_content
entry_is setting e content h = go (e.permissions == 2 ^ 63) (e.permissions == 2 ^ 62) (e.permissions == 0) h
  where
    go : (code read both : Bool) → (if code then entry_function setting e else if read then entry_data setting e true else if both then entry_data setting e false else Err (malformed CapabilityPermissions e.at)) ≡ Ok content
        → IsTaggedBy (if code then function_cap (own setting) (bias setting) setting.index e.object else data_cap (bias setting) setting.index e.object e.size e.offset (if read then reading else writing)) content
    go true read both h = entry_function_is setting e content h
    go false true both h = entry_data_is setting e true content h
    go false false true h = entry_data_is setting e false content h
    go false false false h = absurd (cc)

-- ---- pairs

held_pair : (setting : Setting) (r : Relocation) (content : Content) (p : Pair) → given (pair_at setting (slot_of r).0 content) ≡ Ok p → ((note : ℕ) × (content ≡ meant_content setting r note)) → IsPairOf setting r p
held_pair setting r content p h is =
    let e : p ≡ pair_at setting (slot_of r).0 content = cc in
    record { note = is.0; slot = ap (λ (q : Pair). q.slot) e; content = ap (λ (q : Pair). q.content) e ∙ is.1 }

-- a relocation has a pair exactly where it has a slot
abbrev IsMade : Setting → Relocation → Option Pair → Type 0
IsMade setting r None = has_slot r ≡ false
IsMade setting r (Some p) = (has_slot r ≡ true) × IsPairOf setting r p

some_made : (setting : Setting) (r : Relocation) (p : Pair) (o : Option Pair) → given (Some p) ≡ Ok o → has_slot r ≡ true → IsPairOf setting r p → IsMade setting r o
some_made setting r p o h slot is = let e : Some p ≡ o = cc in subst (IsMade setting r) e (slot, is)

none_made : (setting : Setting) (r : Relocation) (o : Option Pair) → given {X = Option Pair} None ≡ Ok o → has_slot r ≡ false → IsMade setting r o
none_made setting r o h slot = let e : None ≡ o = cc in subst (IsMade setting r) e slot

entry_pair_is : (setting : Setting) (touched : Bool) (e : CapReloc) (p : Pair) → entry_pair setting touched e ≡ Ok p → IsPairOf setting (Entry e) p
unfolding entry_pair
entry_pair_is setting touched e p h =
    let free = refuse_passed (slot_fails (own setting) touched (e.location, 16)) (malformed RelocationSlot e.at) _ p h in
    let held = bind_passed (entry_content setting e) (λ c. given (pair_at setting e.location c)) p free.1 in
    held_pair setting (Entry e) held.0 p held.2 (entry_is setting e held.0 held.1)

slot_pair_is : (setting : Setting) (touched : Bool) (r : DynReloc) (p : Pair) → is_kind r.kind ≡ true → (r.kind == 0) ≡ false → slot_pair setting touched r ≡ Ok p → IsPairOf setting (Record r) p
unfolding slot_pair
slot_pair_is setting touched r p kind some h =
    let free = refuse_passed (slot_fails (own setting) touched (r.slot, width_of_kind r.kind)) (malformed RelocationSlot r.at) _ p h in
    let held = bind_passed (record_content setting r) (λ c. given (pair_at setting r.slot c)) p free.1 in
    held_pair setting (Record r) held.0 p held.2 (record_is setting r held.0 kind some held.1)

is_taken : (b : Bool) → not b ≡ false → b ≡ true
is_taken true h = refl
is_taken false h = absurd (cc)

record_pair_is : (setting : Setting) (touched : Bool) (r : DynReloc) (o : Option Pair) → record_pair setting touched r ≡ Ok o → IsMade setting (Record r) o
unfolding record_pair
record_pair_is setting touched r o h =
    let known = refuse_passed (not (is_kind r.kind)) (unsupported RelocationKind r.at) _ o h in
    let kind = is_taken (is_kind r.kind) known.0 in
    choice_passed (r.kind == 0) _ _ (Ok o) known.1
    (λ yes same. none_made setting (Record r) o same (ap (λ (k : ℕ). nat_lt 0 (width_of_kind k)) (is_number r.kind 0 yes)))
    (λ no later.
    let held = bind_passed (slot_pair setting touched r) (λ p. given (Some p)) o later in
    some_made setting (Record r) held.0 o held.2 (some_width (r.kind == 0) (r.kind == 2) (r.kind == 3) (r.kind == 5) (r.kind == 193) kind no) (slot_pair_is setting touched r held.0 kind no held.1))

relocation_is : (setting : Setting) (earlier : List Relocation) (r : Relocation) (o : Option Pair) → wanted setting earlier r ≡ Ok o → IsMade setting r o
relocation_is setting earlier (Entry e) o h =
    let held = bind_passed (entry_pair setting (touches (slot_of (Entry e)) earlier) e) (λ p. given (Some p)) o h in
    some_made setting (Entry e) held.0 o held.2 refl (entry_pair_is setting (touches (slot_of (Entry e)) earlier) e held.0 held.1)
relocation_is setting earlier (Record r) o h = record_pair_is setting (touches (slot_of (Record r)) earlier) r o h

all_made : (setting : Setting) (earlier rs : List Relocation) (os : List (Option Pair)) → gather (λ x. wanted setting x.0 x.1) (with_earlier_from earlier rs) ≡ Ok os → AllZip (IsMade setting) rs os
all_made setting earlier [] os h = let e : [] ≡ os = cc in subst (λ (os : List (Option Pair)). AllZip (IsMade setting) [] os) e tt
all_made setting earlier (r ∷ rs) os h =
    let first = bind_passed (wanted setting earlier r) (λ o. gather (λ x. wanted setting x.0 x.1) (with_earlier_from (earlier ++ r ∷ []) rs) >>= λ ps. Ok (o ∷ ps)) os h in
    let rest = bind_passed (gather (λ x. wanted setting x.0 x.1) (with_earlier_from (earlier ++ r ∷ []) rs)) (λ ps. given (first.0 ∷ ps)) os first.2 in
    let e : first.0 ∷ rest.0 ≡ os = same_list (first.0 ∷ rest.0) os rest.2 in
    subst (λ (os : List (Option Pair)). AllZip (IsMade setting) (r ∷ rs) os) e (relocation_is setting earlier r first.0 first.1, all_made setting (earlier ++ r ∷ []) rs rest.0 rest.1)
  where
    same_list : (xs ys : List (Option Pair)) → given xs ≡ Ok ys → xs ≡ ys
    same_list xs ys h = cc

with_slots : (setting : Setting) (rs : List Relocation) (os : List (Option Pair)) → AllZip (IsMade setting) rs os → AllZip (IsPairOf setting) (filter has_slot rs) (filter_map (λ p. p) os)
with_slots setting [] [] h = tt
with_slots setting [] (o ∷ os) h = absurd h
with_slots setting (r ∷ rs) [] h = absurd h
with_slots setting (r ∷ rs) (None ∷ os) h = rw (h.0) (with_slots setting rs os h.1)
with_slots setting (r ∷ rs) (Some p ∷ os) h = let slot : has_slot r ≡ true = h.0.0 in rw (slot) (h.0.1, with_slots setting rs os h.1)

pub pairs_are_meant : WantedIsMeant
pairs_are_meant setting pairs h =
    let all = bind_passed (gather (λ x. wanted setting x.0 x.1) (with_earlier (relocations_of (own setting)))) (λ os. given (filter_map (λ p. p) os)) pairs h in
    let e : filter_map (λ p. p) all.0 ≡ pairs = same_pairs (filter_map (λ p. p) all.0) pairs all.2 in
    subst (λ (ps : List Pair). AllZip (IsPairOf setting) (filter has_slot (relocations_of (own setting))) ps) e
    (with_slots setting (relocations_of (own setting)) all.0 (all_made setting [] (relocations_of (own setting)) all.0 all.1))
  where
    same_pairs : (xs ys : List Pair) → given xs ≡ Ok ys → xs ≡ ys
    same_pairs xs ys h = cc
