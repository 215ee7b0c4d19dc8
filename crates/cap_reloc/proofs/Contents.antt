-- What each content says: it was narrowed from its mapping, or bounds are refused of what doesn't fit.
use Rattle.std.proofs.Common.{◌≡◌, ℕ, ◌<◌, ◌≤◌, ◌^◌, Bool, true, false, not, ◌&&◌, ◌==◌, List, length, Some, None, Result, Ok, Err, refl, arith, ℤ, pos, negsuc}
use Rattle.std.specs.Prelude.{nat_le, slice_index, if◌then◌else◌}
use Rattle.std.proofs.lemmas.Bool.{not-false, eqb-true, leb-true, lt-ltb}
use Rattle.std.proofs.lemmas.List.Elements.{All-get_or}
use Rattle.cap_own.specs.Cap.{Mapping, IsSubset}
use Rattle.cap_base.specs.Steps.{◌>>=◌, ◌>>◌}
use Rattle.cap_base.specs.declared.check.Check.TheVariants.{SymbolInterval, Addend, CapabilityPermissions}
use Rattle.cap_elf.specs.declared.records.Symbol.{Symbol}
use Rattle.cap_elf.specs.declared.records.CapReloc.{CapReloc}
use Rattle.cap_elf.specs.declared.records.DynReloc.{DynReloc}
use Rattle.cap_elf.specs.DynView.{DynRecords}
use Rattle.cap_elf.specs.IsRead.{IsRead}
use Rattle.cap_fits.specs.Places.{reading, writing, is_in_code, data_permissions, is_absolute, is_function}
use Rattle.cap_fits.specs.Fits.{is_data_entry}
use Rattle.cap_scope.specs.declared.choice.Hit.{Hit}
use Rattle.cap_scope.specs.Chosen.{object_at, no_records}
use Rattle.cap_reloc.specs.declared.refusal.RelocRefusal.{RelocRefusal}
use Rattle.cap_reloc.specs.declared.refusal.RelocRefusal.TheVariants.{Unresolved}
use Rattle.cap_reloc.specs.declared.target.Target.{Target}
use Rattle.cap_reloc.specs.declared.target.Target.TheVariants.{Definition, Zero, Missing}
use Rattle.cap_reloc.specs.Refusing.{refuse, or_refuse, malformed}
use Rattle.cap_reloc.specs.Wanted.{Setting, Content, Untagged, own, bias, symbol_of, data_cap, function_cap, exact_cap, function_content, data_content, definition_content, capability_for, entry_function, entry_data, entry_content, target_of, is_zero, is_no_place, offset_in, plus_signed}
use Rattle.cap_reloc.specs.Binding.{IsUnfitCause}
use Rattle.cap_reloc.specs.Sound.{IsPlaced, IsCodeIn}
use Rattle.cap_reloc.proofs.Within.{data_within, code_within}
use Rattle.cap_reloc.proofs.Saying.{Says, says_ok, says_err, says_refuse, says_or, says_if}
use Rattle.cap_reloc.proofs.Holdings.{IsLong, data_there, code_there, data_rights, exact_says, data_long, code_long}
use Rattle.cap_reloc.proofs.Unfit.{IsData, unfit_data, unfit_code, symbol_is_data}
use Rattle.cap_reloc.proofs.Defined.{IsDefined, TargetDefined, target_defined}

pub object_read : (roots : List Mapping) (setting : Setting) (i : ℕ) → IsPlaced roots setting → i < length setting.objects → IsRead (object_at setting.objects i)
object_read roots setting i placed lt = All-get_or IsRead setting.objects i no_records lt placed.read

offset_low : (addend : ℤ) (len n : ℕ) → offset_in addend len ≡ Some n → n ≤ len
offset_low (pos m) len n is = go (nat_le m len) refl is
  where
    go : (b : Bool) → nat_le m len ≡ b → (if b then Some m else None) ≡ Some n → n ≤ len
    go true h e = let same : m ≡ n = cc in let low = leb-true m len h in omega (arith, same, low)
    go false h e = let none : None ≡ Some n = e in cc
offset_low (negsuc m) len n is = let none : None ≡ Some n = is in cc

-- ---- references
function_says : (roots : List Mapping) (setting : Setting) (hit : Hit) (addend : ℤ) (at : ℕ) → IsPlaced roots setting → Says (IsLong roots setting) (IsUnfitCause setting) (function_content setting hit addend at)
unfolding function_content
function_says roots setting hit addend at placed =
    let object : DynRecords = object_at setting.objects hit.object in
    let v : ℕ = (symbol_of setting hit).value in
    let P = IsLong roots setting in
    let Q = IsUnfitCause setting in
    let last = exact_cap (Some hit) hit.symbol (function_cap object (slice_index setting.bases hit.object) hit.object v) in
    says_refuse P Q (not (is_in_code object v)) (malformed SymbolInterval at) (refuse (not (is_zero addend)) (malformed Addend at) >> last) (λ h. tt) (λ h.
    let code : is_in_code object v ≡ true = not-false (is_in_code object v) h in
    let lt : hit.object < length setting.objects = code_there setting.objects hit.object v code in
    let inside : IsCodeIn object v = code_within object v (object_read roots setting hit.object placed lt) code in
    says_refuse P Q (not (is_zero addend)) (malformed Addend at) last (λ k. tt) (λ k.
    exact_says roots setting Q (Some hit) hit.symbol (function_cap object (slice_index setting.bases hit.object) hit.object v)
    (λ exact. code_long roots setting hit.object v hit.symbol placed lt inside exact)
    (λ inexact. unfit_code roots setting hit.object v placed lt inside inexact)))

data_says : (roots : List Mapping) (setting : Setting) (hit : Hit) (addend : ℤ) (at : ℕ) → IsPlaced roots setting → IsDefined setting.objects hit → is_absolute (symbol_of setting hit).place ≡ false → is_function (symbol_of setting hit) ≡ false
    → Says (IsLong roots setting) (IsUnfitCause setting) (data_content setting hit addend at)
unfolding data_content
data_says roots setting hit addend at placed defined relative no_code =
    let object : DynRecords = object_at setting.objects hit.object in
    let s : Symbol = symbol_of setting hit in
    let base : ℕ = slice_index setting.bases hit.object in
    let P = IsLong roots setting in
    let Q = IsUnfitCause setting in
    let last : ℕ → ℕ → Result Content RelocRefusal = λ perms offset. exact_cap (Some hit) hit.symbol (data_cap base hit.object s.value s.size offset perms) in
    let others : ℕ → Result Content RelocRefusal = λ perms. or_refuse (offset_in addend s.size) (malformed Addend at) >>= λ offset. last perms offset in
    says_refuse P Q (is_no_place s) (malformed SymbolInterval at) (or_refuse (data_permissions object s.value s.size) (malformed SymbolInterval at) >>= others) (λ h. tt) (λ h.
    says_or P Q (data_permissions object s.value s.size) (malformed SymbolInterval at) others tt (λ perms is.
    says_or P Q (offset_in addend s.size) (malformed Addend at) (last perms) tt (λ offset of.
    let lt : hit.object < length setting.objects = data_there setting.objects hit.object s.value s.size perms is in
    let within = data_within object s.value s.size perms (object_read roots setting hit.object placed lt) is in
    exact_says roots setting Q (Some hit) hit.symbol (data_cap base hit.object s.value s.size offset perms)
    (λ exact. data_long roots setting hit.object s.value s.size offset perms hit.symbol placed lt within (offset_low addend s.size offset of) (data_rights object s.value s.size perms is) (symbol_is_data object hit.symbol defined relative no_code) exact)
    (λ inexact. unfit_data roots setting hit.object s.value s.size placed lt (symbol_is_data object hit.symbol defined relative no_code) inexact))))

untagged_says : (roots : List Mapping) (setting : Setting) (n : ℕ) → Says (IsLong roots setting) (IsUnfitCause setting) (Ok (Untagged n))
untagged_says roots setting n = says_ok (IsLong roots setting) (IsUnfitCause setting) (Untagged n) (record { long = refl; narrowed = tt; data_is = tt; few = tt })

definition_says : (roots : List Mapping) (setting : Setting) (hit : Hit) (addend : ℤ) (at : ℕ) → IsPlaced roots setting → IsDefined setting.objects hit → Says (IsLong roots setting) (IsUnfitCause setting) (definition_content setting hit addend at)
unfolding definition_content
definition_says roots setting hit addend at placed defined =
    let s : Symbol = symbol_of setting hit in
    let P = IsLong roots setting in
    let Q = IsUnfitCause setting in
    says_if P Q (is_absolute s.place) (Ok (Untagged (plus_signed s.value addend))) (if is_function s then function_content setting hit addend at else data_content setting hit addend at)
    (λ h. untagged_says roots setting (plus_signed s.value addend))
    (λ relative. says_if P Q (is_function s) (function_content setting hit addend at) (data_content setting hit addend at)
    (λ h. function_says roots setting hit addend at placed)
    (λ no_code. data_says roots setting hit addend at placed defined relative no_code))

target_says : (roots : List Mapping) (setting : Setting) (r : DynReloc) (target : Target) → IsPlaced roots setting → TargetDefined setting.objects target → Says (IsLong roots setting) (IsUnfitCause setting) (capability_for setting r target)
unfolding capability_for
target_says roots setting r (Definition hit) placed defined = definition_says roots setting hit r.addend r.at placed defined
target_says roots setting r Zero placed defined = untagged_says roots setting (plus_signed 0 r.addend)
target_says roots setting r Missing placed defined = says_err (IsLong roots setting) (IsUnfitCause setting) (Unresolved r.symbol) tt

pub reference_says : (roots : List Mapping) (setting : Setting) (r : DynReloc) → IsPlaced roots setting → Says (IsLong roots setting) (IsUnfitCause setting) (capability_for setting r (target_of setting r.symbol))
reference_says roots setting r placed = target_says roots setting r (target_of setting r.symbol) placed (target_defined setting r.symbol)

-- ---- entries
entry_function_says : (roots : List Mapping) (setting : Setting) (e : CapReloc) → IsPlaced roots setting → Says (IsLong roots setting) (IsUnfitCause setting) (entry_function setting e)
unfolding entry_function
entry_function_says roots setting e placed =
    let object : DynRecords = own setting in
    let P = IsLong roots setting in
    let Q = IsUnfitCause setting in
    let last = exact_cap None 0 (function_cap object (bias setting) setting.index e.object) in
    says_refuse P Q (not (is_in_code object e.object)) (malformed SymbolInterval e.at) (refuse (not (e.offset == 0)) (malformed Addend e.at) >> last) (λ h. tt) (λ h.
    let code : is_in_code object e.object ≡ true = not-false (is_in_code object e.object) h in
    let inside : IsCodeIn object e.object = code_within object e.object (object_read roots setting setting.index placed placed.index) code in
    says_refuse P Q (not (e.offset == 0)) (malformed Addend e.at) last (λ k. tt) (λ k.
    exact_says roots setting Q None 0 (function_cap object (bias setting) setting.index e.object)
    (λ exact. code_long roots setting setting.index e.object 0 placed placed.index inside exact)
    (λ inexact. unfit_code roots setting setting.index e.object placed placed.index inside inexact)))

rights_chosen : (b : Bool) → IsSubset (if b then reading else writing) 0x7D
rights_chosen true = refl
rights_chosen false = refl

entry_data_says : (roots : List Mapping) (setting : Setting) (e : CapReloc) (for_reading : Bool) → IsPlaced roots setting → IsData (own setting) e.object e.size → Says (IsLong roots setting) (IsUnfitCause setting) (entry_data setting e for_reading)
unfolding entry_data
entry_data_says roots setting e for_reading placed member =
    let object : DynRecords = own setting in
    let P = IsLong roots setting in
    let Q = IsUnfitCause setting in
    let rights : ℕ = if for_reading then reading else writing in
    let last = exact_cap None 0 (data_cap (bias setting) setting.index e.object e.size e.offset rights) in
    let others : ℕ → Result Content RelocRefusal = λ perms. refuse (not for_reading && not (perms == writing)) (malformed CapabilityPermissions e.at) >> (refuse (not (nat_le e.offset e.size)) (malformed Addend e.at) >> last) in
    says_or P Q (data_permissions object e.object e.size) (malformed SymbolInterval e.at) others tt (λ perms is.
    let within = data_within object e.object e.size perms (object_read roots setting setting.index placed placed.index) is in
    says_refuse P Q (not for_reading && not (perms == writing)) (malformed CapabilityPermissions e.at) (refuse (not (nat_le e.offset e.size)) (malformed Addend e.at) >> last) (λ h. tt) (λ h.
    says_refuse P Q (not (nat_le e.offset e.size)) (malformed Addend e.at) last (λ k. tt) (λ k.
    let low : e.offset ≤ e.size = leb-true e.offset e.size (not-false (nat_le e.offset e.size) k) in
    exact_says roots setting Q None 0 (data_cap (bias setting) setting.index e.object e.size e.offset rights)
    (λ exact. data_long roots setting setting.index e.object e.size e.offset rights 0 placed placed.index within low (rights_chosen for_reading) member exact)
    (λ inexact. unfit_data roots setting setting.index e.object e.size placed placed.index member inexact))))

pub entry_says : (roots : List Mapping) (setting : Setting) (e : CapReloc) → IsPlaced roots setting → (is_data_entry e ≡ true → IsData (own setting) e.object e.size) → Says (IsLong roots setting) (IsUnfitCause setting) (entry_content setting e)
unfolding entry_content
entry_says roots setting e placed member =
    let P = IsLong roots setting in
    let Q = IsUnfitCause setting in
    let third = if e.permissions == 0 then entry_data setting e false else Err (malformed CapabilityPermissions e.at) in
    says_if P Q (e.permissions == 2 ^ 63) (entry_function setting e) (if e.permissions == 2 ^ 62 then entry_data setting e true else third)
    (λ h. entry_function_says roots setting e placed)
    (λ h. says_if P Q (e.permissions == 2 ^ 62) (entry_data setting e true) third
    (λ k. let same = eqb-true e.permissions (2 ^ 62) k in entry_data_says roots setting e true placed (member (lt-ltb _ _ (omega (arith, same)))))
    (λ k. says_if P Q (e.permissions == 0) (entry_data setting e false) (Err (malformed CapabilityPermissions e.at))
    (λ l. let same = eqb-true e.permissions 0 l in entry_data_says roots setting e false placed (member (lt-ltb _ _ (omega (arith, same)))))
    (λ l. says_err P Q (malformed CapabilityPermissions e.at) tt)))
