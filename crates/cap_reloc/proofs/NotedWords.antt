-- The note of each capability that the relocations of an object want is a symbol of its object.
use Rattle.std.proofs.Common.{◌≡◌, ℕ, ◌+◌, ◌<◌, ◌≤◌, Bool, true, false, List, [], ◌∷◌, ◌++◌, length, Option, Some, None, Result, Ok, Err, inl, inr, ◌⊎◌, refl, subst, arith}
use Rattle.std.specs.Prelude.{ℤ, pos, negsuc, All, IfSome, not, ◌==◌, ◌^◌, map, filter, filter_map, flat_map, find, zip, slice_index, nat_le, if◌then◌else◌}
use Rattle.std.specs.List.{cons_option, enumerate_from}
use Rattle.std.specs.Option.{option_or}
use Rattle.std.proofs.lemmas.Bool.{leb-true}
use Rattle.std.proofs.lemmas.List.Elements.{All-nil, All-cons, All-head, All-tail, All-same, All-append, All-map, All-filter, All-weaker, All-get_or}
use Rattle.std.proofs.lemmas.Slice.Zip.{length-zip}
use Rattle.cap_base.specs.Steps.{◌>>=◌, ◌>>◌, gather}
use Rattle.cap_base.specs.Lists.{numbers_between}
use Rattle.cap_conc.specs.Computed.{is_exact}
use Rattle.cap_own.specs.Cap.{Cap, Mapping, IsSubset}
use Rattle.cap_elf.specs.declared.records.Segment.{Segment}
use Rattle.cap_elf.specs.declared.records.Symbol.{Symbol}
use Rattle.cap_elf.specs.declared.records.DynReloc.{DynReloc}
use Rattle.cap_elf.specs.declared.records.CapReloc.{CapReloc}
use Rattle.cap_elf.specs.Ends.{spans}
use Rattle.cap_elf.specs.DynView.{DynRecords}
use Rattle.cap_elf.specs.IsRead.{IsRead}
use Rattle.cap_elf.proofs.Passing.{bind_passed, choice_passed, find_all}
use Rattle.cap_mem.specs.Tagged.{TaggedMemory, TaggedWord, is_of, by_owner}
use Rattle.cap_fits.specs.Places.{find_last, reading, writing, is_in_code, data_permissions, permissions_of_part, is_absolute, is_function}
use Rattle.cap_scope.specs.declared.choice.Hit.{Hit}
use Rattle.cap_scope.specs.declared.choice.Rule.{Rule}
use Rattle.cap_scope.specs.declared.choice.Choice.{Choice}
use Rattle.cap_scope.specs.declared.choice.Choice.TheVariants as choices
use Rattle.cap_scope.specs.Candidates.{NamedSymbol, candidate, candidates_in, is_named}
use Rattle.cap_scope.specs.Chosen.{object_at, no_records, candidates, decides, first_of, as_bound, choice_of, chosen}
use Rattle.cap_reloc.specs.declared.refusal.RelocRefusal.{RelocRefusal}
use Rattle.cap_reloc.specs.declared.refusal.RelocRefusal.TheVariants.{Inexact}
use Rattle.cap_reloc.specs.declared.target.Target.{Target}
use Rattle.cap_reloc.specs.declared.target.Target.TheVariants.{Definition, Zero, Missing}
use Rattle.cap_reloc.specs.Refusing.{refuse, or_refuse, with_earlier_from, with_earlier}
use Rattle.cap_reloc.specs.Wanted.{Setting, Relocation, Entry, Record, Content, Number, Untagged, Tagged, Pair, own, relocations_of, symbol_at, name_at, symbol_of, is_local, is_own, is_weak, plus_signed, offset_in, target_by, target_of, number_for, function_cap, data_cap, exact_cap, function_content, data_content, definition_content, capability_for, record_content, entry_function, entry_data, entry_content, pair_at, wanted, wanted_pairs, entry_pair, slot_pair, record_pair, touches, slot_of}
use Rattle.cap_reloc.specs.Stored.{tagged_in, tagged_pairs, with_pairs}
use Rattle.cap_reloc.specs.Sound.{IsIn, IsChoiceIn, IsTargetIn, IsPlaced}
use Rattle.cap_reloc.specs.Binding.{AreNoted}
use Rattle.cap_reloc.specs.Noted.{NamesSymbols, IsNote, IsNoted}

-- the check passed, and what followed gave the value
pub refuse_passed : {E B : Type 0} (fails : Bool) (e : E) (r : Result B E) (y : B) → (refuse fails e >> r) ≡ Ok y → (fails ≡ false) × (r ≡ Ok y)
refuse_passed true e r y h = absurd (cc)
refuse_passed false e r y h = (refl, h)

pub or_refuse_passed : {E A B : Type 0} (o : Option A) (e : E) (f : A → Result B E) (y : B) → (or_refuse o e >>= f) ≡ Ok y → (x : A) × (o ≡ Some x) × (f x ≡ Ok y)
or_refuse_passed None e f y h = absurd (cc)
or_refuse_passed (Some x) e f y h = (x, refl, h)

-- what holds of all that is given, where it holds of each
pub gather_all : {E X Y : Type 0} (f : X → Result Y E) (Q : X → Type 0) (P : Y → Type 0) → ((x : X) (y : Y) → Q x → f x ≡ Ok y → P y) → (xs : List X) (ys : List Y) → All Q xs → gather f xs ≡ Ok ys → All P ys
gather_all f Q P one [] ys all h = let e : ys ≡ [] = cc in All-same P ys [] e (All-nil P)
gather_all f Q P one (x ∷ xs) ys all h =
    let first = bind_passed (f x) (λ y. gather f xs >>= λ zs. Ok (y ∷ zs)) ys h in
    let rest = bind_passed (gather f xs) (λ zs. Ok (first.0 ∷ zs)) ys first.2 in
    let last = rest.2 in
    let e : ys ≡ first.0 ∷ rest.0 = cc in
    All-same P ys (first.0 ∷ rest.0) e
    (All-cons P first.0 rest.0 (one x first.0 (All-head Q x xs all) first.1) (gather_all f Q P one xs rest.0 (All-tail Q x xs all) rest.1))

pub with_earlier_all : {X : Type 0} (P : X → Type 0) (earlier xs : List X) → All P xs → All (λ x. P x.1) (with_earlier_from earlier xs)
with_earlier_all P earlier [] all = All-nil (λ x. P x.1)
with_earlier_all P earlier (x ∷ xs) all =
    All-cons (λ y. P y.1) (earlier, x) (with_earlier_from (earlier ++ x ∷ []) xs) (All-head P x xs all) (with_earlier_all P (earlier ++ x ∷ []) xs (All-tail P x xs all))

pub filter_map_all : {X Y : Type 0} (h : X → Option Y) (P : Y → Type 0) (xs : List X) → All (λ x. IfSome (h x) P) xs → All P (filter_map h xs)
filter_map_all h P [] all = All-nil P
filter_map_all {X} {Y} h P (x ∷ xs) all = go (h x) (All-head (λ y. IfSome (h y) P) x xs all) (filter_map_all h P xs (All-tail (λ y. IfSome (h y) P) x xs all))
  where
    go : (o : Option Y) → IfSome o P → All P (filter_map h xs) → All P (cons_option o (filter_map h xs))
    go None here rest = rest
    go (Some y) here rest = All-cons P y (filter_map h xs) here rest

pub flat_map_all : {X Y : Type 0} (f : X → List Y) (Q : X → Type 0) (P : Y → Type 0) → ((x : X) → Q x → All P (f x)) → (xs : List X) → All Q xs → All P (flat_map f xs)
flat_map_all f Q P one [] all = All-nil P
flat_map_all f Q P one (x ∷ xs) all =
    All-append P (f x) (flat_map f xs) (one x (All-head Q x xs all)) (flat_map_all f Q P one xs (All-tail Q x xs all))

-- an order by owners has no word that wasn't there
owners_all : (P : TaggedWord → Type 0) (words : List TaggedWord) (owners : List ℕ) → All P words → All P (flat_map (λ owner. filter (is_of owner) words) owners)
owners_all P words owners all = flat_map_all (λ owner. filter (is_of owner) words) (λ owner. Unit {0}) P (λ owner _. All-filter (is_of owner) P words all) owners (λ k d lt. tt)

pub by_owner_all : (P : TaggedWord → Type 0) (words : List TaggedWord) → All P words → All P (by_owner words)
by_owner_all P words all = owners_all P words (numbers_between 0 256) all

-- each index is below the end
pub enumerate_all : {X : Type 0} (n from : ℕ) (xs : List X) → from + length xs ≤ n → All (λ x. x.0 < n) (enumerate_from from xs)
enumerate_all n from [] le = All-nil (λ x. x.0 < n)
enumerate_all n from (x ∷ xs) le = All-cons (λ y. y.0 < n) (from, x) (enumerate_from (from + 1) xs) (omega arith) (enumerate_all n (from + 1) xs (omega arith))

unnot : (b : Bool) → not b ≡ false → b ≡ true
unnot true h = refl
unnot false h = absurd (cc)

-- ---- which symbols are meant
enumerated : (object : DynRecords) → All (λ s. s.0 < length object.symbols) (enumerate_from 0 (zip object.symbols object.names))
enumerated object = let long = length-zip object.symbols object.names in enumerate_all (length object.symbols) 0 (zip object.symbols object.names) (omega (arith, long))

-- each definition of a name in a scope is there
abbrev IsHitIn : List DynRecords → Hit → Type 0
IsHitIn objects hit = (hit.object < length objects) × (hit.symbol < length (object_at objects hit.object).symbols)

map_all : {S C : Type 0} (f : S → C) (P : C → Type 0) (ys : List S) → All (λ y. P (f y)) ys → All P (map f ys)
map_all f P ys all = All-map P f ys all

candidates_are_in : (objects : List DynRecords) (i : ℕ) (name : List ℕ) → i < length objects → All (λ c. IsHitIn objects c.hit) (candidates_in (object_at objects i) i name)
candidates_are_in objects i name lt =
    let object = object_at objects i in
    let named : List (ℕ × NamedSymbol) = filter (λ s. is_named name s.1) (enumerate_from 0 (zip object.symbols object.names)) in
    let below : All (λ s. s.0 < length object.symbols) named = All-filter (λ s. is_named name s.1) (λ s. s.0 < length object.symbols) (enumerate_from 0 (zip object.symbols object.names)) (enumerated object) in
    map_all (candidate i) (λ c. IsHitIn objects c.hit) named (λ k d low. (lt, below k d low))

all_candidates_in : (objects : List DynRecords) (scope name : List ℕ) → All (λ i. i < length objects) scope → All (λ c. IsHitIn objects c.hit) (candidates objects scope name)
all_candidates_in objects scope name all =
    flat_map_all (λ i. candidates_in (object_at objects i) i name) (λ i. i < length objects) (λ c. IsHitIn objects c.hit) (λ i lt. candidates_are_in objects i name lt) scope all

first_all : (cs : List _) (P : _ → Type 0) → All P cs → IfSome (first_of cs) P
first_all [] P all = tt
first_all (c ∷ cs) P all = All-head P c cs all

found_all : (rule : Rule) (cs : List _) (P : _ → Type 0) → All P cs → IfSome (option_or (find (decides rule) cs) (first_of cs)) P
found_all rule cs P all = go (find (decides rule) cs) refl
  where
    go : (o : Option _) → find (decides rule) cs ≡ o → IfSome (option_or o (first_of cs)) P
    go None is = first_all cs P all
    go (Some c) is = find_all (decides rule) P cs c is all

bound_in : (setting : Setting) (c : _) (choice : Choice) (strong : Bool) → as_bound c ≡ choice → IsHitIn setting.objects c.hit → c.is_strong ≡ strong → IsChoiceIn setting choice
bound_in setting c choice true bound h is = let same : choices.Strong c.hit ≡ choice = rw is at bound in subst (λ (t : Choice). IsChoiceIn setting t) same (record { object = h.0; symbol = h.1 })
bound_in setting c choice false bound h is = let same : choices.Weak c.hit ≡ choice = rw is at bound in subst (λ (t : Choice). IsChoiceIn setting t) same (record { object = h.0; symbol = h.1 })

choice_is_in : (setting : Setting) (o : Option _) (choice : Choice) → choice_of o ≡ choice → IfSome o (λ c. IsHitIn setting.objects c.hit) → IsChoiceIn setting choice
choice_is_in setting None choice is h = subst (λ (t : Choice). IsChoiceIn setting t) is tt
choice_is_in setting (Some c) choice is h = bound_in setting c choice c.is_strong is h refl

pub chosen_is_in : (setting : Setting) (name : List ℕ) → NamesSymbols setting → IsChoiceIn setting (chosen setting.rule setting.objects setting.scope name)
chosen_is_in setting name named =
    let cs = candidates setting.objects setting.scope name in
    choice_is_in setting (option_or (find (decides setting.rule) cs) (first_of cs)) _ refl
    (found_all setting.rule cs (λ c. IsHitIn setting.objects c.hit) (all_candidates_in setting.objects setting.scope name named.scope))

none_in : (setting : Setting) (weak : Bool) → IsTargetIn setting (if weak then Zero else Missing)
none_in setting true = tt
none_in setting false = tt

by_choice_in : (setting : Setting) (s : Symbol) (choice : Choice) → IsChoiceIn setting choice → IsTargetIn setting (target_by s choice)
by_choice_in setting s (choices.Strong hit) h = h
by_choice_in setting s (choices.Weak hit) h = h
by_choice_in setting s choices.None h = none_in setting (is_weak s)

if_in : (setting : Setting) (b : Bool) (x y : Target) → IsTargetIn setting x → IsTargetIn setting y → IsTargetIn setting (if b then x else y)
if_in setting true x y h k = h
if_in setting false x y h k = k

-- what a reference means, if it is a definition, is there
target_in : (setting : Setting) (i : ℕ) → NamesSymbols setting → i < length (own setting).symbols → IsTargetIn setting (target_of setting i)
unfolding target_of
target_in setting i named lt =
    let s = symbol_at (own setting) i in
    let mine : Target = Definition (record { object = setting.index; symbol = i }) in
    let found : Target = target_by s (chosen setting.rule setting.objects setting.scope (name_at (own setting) i)) in
    if_in setting (i == 0) Zero (if is_own s then mine else if is_local s then Zero else found) tt
    (if_in setting (is_own s) mine (if is_local s then Zero else found) (record { object = named.index; symbol = lt })
    (if_in setting (is_local s) Zero found tt (by_choice_in setting s _ (chosen_is_in setting (name_at (own setting) i) named))))

-- ---- which capabilities are wanted
-- a function of an object
record IsCodeCap (setting : Setting) (c : Cap) : Type 0 where
  at : ℕ
  placed : is_in_code (object_at setting.objects c.owner) at ≡ true
  is : c ≡ function_cap (object_at setting.objects c.owner) (slice_index setting.bases c.owner) c.owner at

-- data of an object
record IsDataCap (setting : Setting) (c : Cap) : Type 0 where
  at : ℕ
  size : ℕ
  offset : ℕ
  perms : ℕ
  found : ℕ
  placed : data_permissions (object_at setting.objects c.owner) at size ≡ Some found
  ends : offset ≤ size
  rights : IsSubset perms 0x7D
  is : c ≡ data_cap (slice_index setting.bases c.owner) c.owner at size offset perms

record IsWantedCap (setting : Setting) (c : Cap) (note : ℕ) : Type 0 where
  noted : IsNote setting.objects c note
  exact : is_exact c.base c.len ≡ true
  part : IsCodeCap setting c ⊎ IsDataCap setting c

abbrev IsWantedContent : Setting → Content → Type 0
IsWantedContent setting (Number n) = Unit {0}
IsWantedContent setting (Untagged n) = Unit {0}
IsWantedContent setting (Tagged c note) = IsWantedCap setting c note

abbrev given : {X : Type 0} → X → Result X RelocRefusal
given x = Ok x

exact_passed : (setting : Setting) (hit : Option Hit) (note : ℕ) (c : Cap) (content : Content) → exact_cap hit note c ≡ Ok content → IsNote setting.objects c note → IsCodeCap setting c ⊎ IsDataCap setting c → IsWantedContent setting content
unfolding exact_cap
exact_passed setting hit note c content h noted part =
    let passed = refuse_passed (not (is_exact c.base c.len)) (Inexact hit c.base c.len) (given (Tagged c note)) content h in
    let last : given (Tagged c note) ≡ Ok content = passed.1 in
    let e : Tagged c note ≡ content = cc in
    subst (λ (t : Content). IsWantedContent setting t) e (record { noted = noted; exact = unnot _ passed.0; part = part })

choice_subset : (a b : Bool) (n : ℕ) → (if a then Some reading else if b then Some writing else None) ≡ Some n → IsSubset n 0x7D
choice_subset true b n h = let e : n ≡ reading = cc in rw e refl
choice_subset false true n h = let e : n ≡ writing = cc in rw e refl
choice_subset false false n h = absurd (cc)

data_subset : (object : DynRecords) (at size : ℕ) (part : Option Segment) (n : ℕ) → permissions_of_part object at size part ≡ Some n → IsSubset n 0x7D
data_subset object at size None n h = absurd (cc)
data_subset object at size (Some s) n h = choice_subset _ _ n h

data_rights : (object : DynRecords) (at size n : ℕ) → data_permissions object at size ≡ Some n → IsSubset n 0x7D
data_rights object at size n h = data_subset object at size (find_last (λ s. spans s at size) object.segments) n h

offset_below : (addend : ℤ) (len n : ℕ) → offset_in addend len ≡ Some n → n ≤ len
offset_below (pos k) len n h = choice_passed (nat_le k len) (Some k) None (Some n) h
    (λ yes same. let e : k ≡ n = cc in let low : k ≤ len = leb-true _ _ yes in omega (arith, e))
    (λ no same. absurd (cc))
offset_below (negsuc k) len n h = absurd (cc)

function_wanted : (setting : Setting) (hit : Hit) (addend : ℤ) (at : ℕ) (content : Content) → IsIn setting hit → function_content setting hit addend at ≡ Ok content → IsWantedContent setting content
unfolding function_content
function_wanted setting hit addend at content there h =
    let placed = refuse_passed _ _ _ content h in
    let whole = refuse_passed _ _ _ content placed.1 in
    exact_passed setting _ _ _ content whole.1 (record { object = there.object; symbol = there.symbol })
    (inl (record { at = (symbol_of setting hit).value; placed = unnot _ placed.0; is = refl }))

data_wanted : (setting : Setting) (hit : Hit) (addend : ℤ) (at : ℕ) (content : Content) → IsIn setting hit → data_content setting hit addend at ≡ Ok content → IsWantedContent setting content
unfolding data_content
data_wanted setting hit addend at content there h =
    let place = refuse_passed _ _ _ content h in
    let perms = or_refuse_passed _ _ _ content place.1 in
    let offset = or_refuse_passed _ _ _ content perms.2 in
    exact_passed setting _ _ _ content offset.2 (record { object = there.object; symbol = there.symbol })
    (inr (record {
      at = (symbol_of setting hit).value;
      size = (symbol_of setting hit).size;
      offset = offset.0;
      perms = perms.0;
      found = perms.0;
      placed = perms.1;
      ends = offset_below addend _ offset.0 offset.1;
      rights = data_rights (object_at setting.objects hit.object) (symbol_of setting hit).value (symbol_of setting hit).size perms.0 perms.1;
      is = refl;
    }))

untagged_wanted : (setting : Setting) (n : ℕ) (content : Content) → given (Untagged n) ≡ Ok content → IsWantedContent setting content
untagged_wanted setting n content h = let e : Untagged n ≡ content = cc in subst (λ (t : Content). IsWantedContent setting t) e tt

number_wanted : (setting : Setting) (n : ℕ) (content : Content) → given (Number n) ≡ Ok content → IsWantedContent setting content
number_wanted setting n content h = let e : Number n ≡ content = cc in subst (λ (t : Content). IsWantedContent setting t) e tt

definition_wanted : (setting : Setting) (hit : Hit) (addend : ℤ) (at : ℕ) (content : Content) → IsIn setting hit → definition_content setting hit addend at ≡ Ok content → IsWantedContent setting content
unfolding definition_content
definition_wanted setting hit addend at content there h =
    choice_passed (is_absolute (symbol_of setting hit).place) _ _ (Ok content) h
    (λ yes same. untagged_wanted setting _ content same)
    (λ no later. choice_passed (is_function (symbol_of setting hit)) _ _ (Ok content) later
    (λ yes same. function_wanted setting hit addend at content there same)
    (λ no same. data_wanted setting hit addend at content there same))

capability_wanted : (setting : Setting) (r : DynReloc) (target : Target) (content : Content) → IsTargetIn setting target → capability_for setting r target ≡ Ok content → IsWantedContent setting content
unfolding capability_for
capability_wanted setting r (Definition hit) content there h = definition_wanted setting hit r.addend r.at content there h
capability_wanted setting r Zero content there h = untagged_wanted setting _ content h
capability_wanted setting r Missing content there h = absurd (cc)

plus_wanted : (setting : Setting) (number : Result ℕ RelocRefusal) (addend : ℤ) (content : Content) → (number >>= λ n. given (Number (plus_signed n addend))) ≡ Ok content → IsWantedContent setting content
plus_wanted setting (Ok n) addend content h = number_wanted setting (plus_signed n addend) content h
plus_wanted setting (Err e) addend content h = absurd (cc)

record_wanted : (setting : Setting) (r : DynReloc) (content : Content) → NamesSymbols setting → r.symbol < length (own setting).symbols → record_content setting r ≡ Ok content → IsWantedContent setting content
unfolding record_content
record_wanted setting r content named lt h =
    choice_passed (r.kind == 3) _ _ (Ok content) h
    (λ yes same. number_wanted setting _ content same)
    (λ no later. choice_passed (r.kind == 2) _ _ (Ok content) later
    (λ yes same. plus_wanted setting (number_for setting r.symbol (target_of setting r.symbol)) r.addend content same)
    (λ no same. capability_wanted setting r (target_of setting r.symbol) content (target_in setting r.symbol named lt) same))

entry_function_wanted : (setting : Setting) (e : CapReloc) (content : Content) → NamesSymbols setting → entry_function setting e ≡ Ok content → IsWantedContent setting content
unfolding entry_function
entry_function_wanted setting e content named h =
    let placed = refuse_passed _ _ _ content h in
    let whole = refuse_passed _ _ _ content placed.1 in
    exact_passed setting _ _ _ content whole.1 (record { object = named.index; symbol = named.symbol_some })
    (inl (record { at = e.object; placed = unnot _ placed.0; is = refl }))

either_subset : (b : Bool) → IsSubset (if b then reading else writing) 0x7D
either_subset true = refl
either_subset false = refl

entry_data_wanted : (setting : Setting) (e : CapReloc) (for_reading : Bool) (content : Content) → NamesSymbols setting → entry_data setting e for_reading ≡ Ok content → IsWantedContent setting content
unfolding entry_data
entry_data_wanted setting e for_reading content named h =
    let perms = or_refuse_passed _ _ _ content h in
    let allowed = refuse_passed _ _ _ content perms.2 in
    let offset = refuse_passed _ _ _ content allowed.1 in
    exact_passed setting _ _ _ content offset.1 (record { object = named.index; symbol = named.symbol_some })
    (inr (record {
      at = e.object;
      size = e.size;
      offset = e.offset;
      perms = if for_reading then reading else writing;
      found = perms.0;
      placed = perms.1;
      ends = leb-true _ _ (unnot _ offset.0);
      rights = either_subset for_reading;
      is = refl;
    }))

entry_wanted : (setting : Setting) (e : CapReloc) (content : Content) → NamesSymbols setting → entry_content setting e ≡ Ok content → IsWantedContent setting content
unfolding entry_content
entry_wanted setting e content named h =
    choice_passed (e.permissions == 2 ^ 63) _ _ (Ok content) h
    (λ yes same. entry_function_wanted setting e content named same)
    (λ no later. choice_passed (e.permissions == 2 ^ 62) _ _ (Ok content) later
    (λ yes same. entry_data_wanted setting e true content named same)
    (λ no last. choice_passed (e.permissions == 0) _ _ (Ok content) last
    (λ yes same. entry_data_wanted setting e false content named same)
    (λ no same. absurd (cc))))

-- ---- all of them
abbrev IsReferred : Setting → Relocation → Type 0
IsReferred setting (Entry e) = Unit {0}
IsReferred setting (Record r) = r.symbol < length (own setting).symbols

relocations_referred : (setting : Setting) → NamesSymbols setting → All (IsReferred setting) (relocations_of (own setting))
relocations_referred setting named =
    All-append (IsReferred setting) (map Entry (own setting).cap_relocs) (map Record (own setting).relocs)
    (All-map (IsReferred setting) Entry (own setting).cap_relocs (λ k d lt. tt))
    (All-map (IsReferred setting) Record (own setting).relocs named.references)

abbrev IsWantedPair : Setting → Pair → Type 0
IsWantedPair setting p = IsWantedContent setting p.content

held_wanted : (setting : Setting) (slot : ℕ) (content : Content) (p : Pair) → given (pair_at setting slot content) ≡ Ok p → IsWantedContent setting content → IsWantedPair setting p
held_wanted setting slot content p h is = let e : pair_at setting slot content ≡ p = cc in subst (λ (q : Pair). IsWantedPair setting q) e is

some_wanted : (setting : Setting) (p : Pair) (o : Option Pair) → given (Some p) ≡ Ok o → IsWantedPair setting p → IfSome o (IsWantedPair setting)
some_wanted setting p o h is = let e : Some p ≡ o = cc in subst (λ (q : Option Pair). IfSome q (IsWantedPair setting)) e is

none_wanted : (setting : Setting) (o : Option Pair) → given {X = Option Pair} None ≡ Ok o → IfSome o (IsWantedPair setting)
none_wanted setting o h = let e : None ≡ o = cc in subst (λ (p : Option Pair). IfSome p (IsWantedPair setting)) e tt

entry_pair_wanted : (setting : Setting) (touched : Bool) (e : CapReloc) (p : Pair) → NamesSymbols setting → entry_pair setting touched e ≡ Ok p → IsWantedPair setting p
unfolding entry_pair
entry_pair_wanted setting touched e p named h =
    let free = refuse_passed _ _ _ p h in
    let held = bind_passed (entry_content setting e) (λ c. given (pair_at setting e.location c)) p free.1 in
    held_wanted setting e.location held.0 p held.2 (entry_wanted setting e held.0 named held.1)

slot_pair_wanted : (setting : Setting) (touched : Bool) (r : DynReloc) (p : Pair) → NamesSymbols setting → IsReferred setting (Record r) → slot_pair setting touched r ≡ Ok p → IsWantedPair setting p
unfolding slot_pair
slot_pair_wanted setting touched r p named referred h =
    let free = refuse_passed _ _ _ p h in
    let held = bind_passed (record_content setting r) (λ c. given (pair_at setting r.slot c)) p free.1 in
    held_wanted setting r.slot held.0 p held.2 (record_wanted setting r held.0 named referred held.1)

record_pair_wanted : (setting : Setting) (touched : Bool) (r : DynReloc) (o : Option Pair) → NamesSymbols setting → IsReferred setting (Record r) → record_pair setting touched r ≡ Ok o → IfSome o (IsWantedPair setting)
unfolding record_pair
record_pair_wanted setting touched r o named referred h =
    let known = refuse_passed _ _ _ o h in
    choice_passed (r.kind == 0) _ _ (Ok o) known.1
    (λ yes same. none_wanted setting o same)
    (λ no later.
    let held = bind_passed (slot_pair setting touched r) (λ p. given (Some p)) o later in
    some_wanted setting held.0 o held.2 (slot_pair_wanted setting touched r held.0 named referred held.1))

relocation_wanted : (setting : Setting) (earlier : List Relocation) (x : Relocation) (o : Option Pair) → NamesSymbols setting → IsReferred setting x → wanted setting earlier x ≡ Ok o → IfSome o (IsWantedPair setting)
relocation_wanted setting earlier (Entry e) o named referred h =
    let held = bind_passed (entry_pair setting (touches (slot_of (Entry e)) earlier) e) (λ p. given (Some p)) o h in
    some_wanted setting held.0 o held.2 (entry_pair_wanted setting (touches (slot_of (Entry e)) earlier) e held.0 named held.1)
relocation_wanted setting earlier (Record r) o named referred h =
    record_pair_wanted setting (touches (slot_of (Record r)) earlier) r o named referred h

pairs_wanted : (setting : Setting) (pairs : List Pair) → NamesSymbols setting → wanted_pairs setting ≡ Ok pairs → All (IsWantedPair setting) pairs
pairs_wanted setting pairs named h =
    let all = bind_passed (gather (λ x. wanted setting x.0 x.1) (with_earlier (relocations_of (own setting)))) (λ os. given (filter_map (λ p. p) os)) pairs h in
    let last : given (filter_map (λ p. p) all.0) ≡ Ok pairs = all.2 in
    let e : pairs ≡ filter_map (λ p. p) all.0 = cc in
    All-same (IsWantedPair setting) pairs (filter_map (λ p. p) all.0) e
    (filter_map_all (λ p. p) (IsWantedPair setting) all.0
    (gather_all (λ x. wanted setting x.0 x.1) (λ x. IsReferred setting x.1) (λ o. IfSome o (IsWantedPair setting))
    (λ x o referred is. relocation_wanted setting x.0 x.1 o named referred is)
    (with_earlier (relocations_of (own setting))) all.0
    (with_earlier_all (IsReferred setting) [] (relocations_of (own setting)) (relocations_referred setting named))
    all.1))

-- ---- the laws
content_noted : (setting : Setting) (content : Content) → IsWantedContent setting content → IsNoted setting.objects content
content_noted setting (Number n) h = tt
content_noted setting (Untagged n) h = tt
content_noted setting (Tagged c note) h = h.noted

pub notes_are_symbols : (setting : Setting) (pairs : List Pair) → NamesSymbols setting → wanted_pairs setting ≡ Ok pairs → All (λ p. IsNoted setting.objects p.content) pairs
notes_are_symbols setting pairs named h =
    All-weaker (IsWantedPair setting) (λ p. IsNoted setting.objects p.content) (λ p is. content_noted setting p.content is) pairs (pairs_wanted setting pairs named h)

abbrev IsNotedWord : List DynRecords → TaggedWord → Type 0
IsNotedWord objects w = w.note < length (object_at objects w.cap.owner).symbols

word_noted : (objects : List DynRecords) (slot : ℕ) (content : Content) → IsNoted objects content → IfSome (tagged_in slot content) (IsNotedWord objects)
word_noted objects slot (Number n) h = tt
word_noted objects slot (Untagged n) h = tt
word_noted objects slot (Tagged c note) h = h.symbol

pub words_are_noted : (setting : Setting) (pairs : List Pair) (memory : TaggedMemory) → NamesSymbols setting → wanted_pairs setting ≡ Ok pairs → AreNoted setting.objects (with_pairs pairs memory)
words_are_noted setting pairs memory named h =
    by_owner_all (IsNotedWord setting.objects) (tagged_pairs pairs)
    (filter_map_all (λ p. tagged_in p.slot p.content) (IsNotedWord setting.objects) pairs
    (All-weaker (λ p. IsNoted setting.objects p.content) (λ p. IfSome (tagged_in p.slot p.content) (IsNotedWord setting.objects)) (λ p is. word_noted setting.objects p.slot p.content is) pairs (notes_are_symbols setting pairs named h)))

pub placed_names : (roots : List Mapping) (setting : Setting) → IsPlaced roots setting → NamesSymbols setting
placed_names roots setting placed =
    let read : IsRead (own setting) = All-get_or IsRead setting.objects setting.index no_records placed.index placed.read in
    record { index = placed.index; scope = placed.scope; symbol_some = read.symbol_some; references = read.references }
