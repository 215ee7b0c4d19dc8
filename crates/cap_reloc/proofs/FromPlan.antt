-- What a call says of the plan that it made.
use Rattle.std.proofs.Common.{◌≡◌, ℕ, ◌%◌, ◌<◌, ◌≤◌, List, [], length, get_or, map, Option, Some, Result, Ok, Err, refl, sym, ◌∙◌, subst, arith}
use Rattle.std.specs.Prelude.{All, IfOk, IfErr, IsSomeAnd, slice_get}
use Rattle.std.proofs.lemmas.List.{length-map, get_or-map}
use Rattle.std.proofs.lemmas.Option.{slice_get-get_or}
use Rattle.cap_own.specs.Cap.{Mapping}
use Rattle.cap_mem.specs.Tagged.{TaggedMemory}
use Rattle.cap_elf.specs.DynView.{DynValue}
use Rattle.cap_elf.specs.IsRead.{IsRead}
use Rattle.cap_scope.specs.declared.choice.Rule.{Rule}
use Rattle.cap_scope.specs.Chosen.{no_file}
use Rattle.cap_reloc.specs.declared.refusal.RelocRefusal.{RelocRefusal}
use Rattle.cap_reloc.specs.declared.refusal.RelocRefusal.TheVariants.{Malformed, Unsupported, Unresolved, Inexact, NoMemory}
use Rattle.cap_reloc.specs.Wanted.{Setting, Pair, Content, Number, Untagged, Tagged, bias, own, wanted_pairs}
use Rattle.cap_reloc.specs.Stored.{content_bytes}
use Rattle.cap_reloc.specs.Setting.{setting_of}
use Rattle.cap_reloc.specs.Binding.{AreMappings, IsUnrelocated, IsRefusedBy, IsUnfitCause}
use Rattle.cap_reloc.specs.Planned.{IsSlotIn, IsNarrowedIn, FitsGranule}
use Rattle.cap_reloc.specs.Laws.{IsOfData}
use Rattle.cap_reloc.specs.Sound.{IsPlaced}
use Rattle.cap_reloc.proofs.Mappings.{as_many, mapping_of}
use Rattle.cap_reloc.proofs.Pages.{multiple_pages}
use Rattle.cap_reloc.proofs.Holdings.{HasFewOwners}
use Rattle.cap_reloc.proofs.SoundPlan.{AreSound, pairs_say}
use Rattle.cap_reloc.proofs.Contents.{object_read}

pub placed_from : (objects : List DynValue) (roots : List Mapping) (index : ℕ) (scope : List ℕ) (rule : Rule) → length objects ≤ 256 → AreMappings (map (λ o. o.records) objects) 0 roots → index < length objects
    → All (λ i. i < length objects) scope → All (λ o. IsRead o.records) objects → IsPlaced roots (setting_of objects roots index scope rule)
placed_from objects roots index scope rule few mappings low scoped read =
    let many : length (map (λ (o : DynValue). o.records) objects) ≡ length objects = length-map objects (λ o. o.records) in
    record {
      read = λ k d lt.
          let below : k < length objects = omega (arith, many, lt) in
          subst IsRead (sym (get_or-map (λ o. o.records) objects k no_file d below)) (read k no_file below);
      mappings = mappings;
      bases = refl;
      index = omega (arith, many, low);
      few = omega (arith, many, few);
      scope = λ k d lt. let h = scoped k d lt in omega (arith, many, h);
    }

pub then_ok : {X E : Type 0} (P Q : X → Type 0) (r : Result X E) → IfOk r P → ((x : X) → P x → Q x) → IfOk r Q
then_ok P Q (Ok x) h f = f x h
then_ok P Q (Err e) h f = tt

pub then_err : {X E : Type 0} (P Q : E → Type 0) (r : Result X E) → IfErr r P → ((e : E) → P e → Q e) → IfErr r Q
then_err P Q (Ok x) h f = tt
then_err P Q (Err e) h f = f e h

pub sound_pairs : (roots : List Mapping) (setting : Setting) (pairs : List Pair) → IsPlaced roots setting → wanted_pairs setting ≡ Ok pairs → AreSound roots setting pairs
sound_pairs roots setting pairs placed is = (pairs_say roots setting placed).ok pairs is

pub unfit_cause : (roots : List Mapping) (setting : Setting) (e : RelocRefusal) → IsPlaced roots setting → IsRefusedBy (wanted_pairs setting) e → IsUnfitCause setting e
unfit_cause roots setting (Malformed check at) placed is = tt
unfit_cause roots setting (Unsupported check at) placed is = tt
unfit_cause roots setting (Unresolved symbol) placed is = tt
unfit_cause roots setting (Inexact hit base len) placed is = (pairs_say roots setting placed).err (Inexact hit base len) is
unfit_cause roots setting NoMemory placed is = tt

pub narrowed_pairs : (roots : List Mapping) (setting : Setting) (pairs : List Pair) → AreSound roots setting pairs → All (λ p. IsNarrowedIn roots p.content) pairs
narrowed_pairs roots setting pairs sound = λ k d lt. (sound.each k d lt).sound.narrowed

pub data_pairs : (roots : List Mapping) (setting : Setting) (pairs : List Pair) → AreSound roots setting pairs → All (λ p. IsOfData setting p.content) pairs
data_pairs roots setting pairs sound = λ k d lt. (sound.each k d lt).sound.data_is

fits_granule : (slot : ℕ) (content : Content) → (length (content_bytes content) ≡ 16 → slot % 16 ≡ 0) → HasFewOwners content → FitsGranule slot content
fits_granule slot (Number n) h few = tt
fits_granule slot (Untagged n) h few = tt
fits_granule slot (Tagged c note) h few = (h refl, few)

pub slots_in : (roots : List Mapping) (setting : Setting) (pairs : List Pair) (memory : TaggedMemory) → IsPlaced roots setting → AreSound roots setting pairs → IsUnrelocated roots setting.index memory → All (IsSlotIn memory) pairs
slots_in roots setting pairs memory placed sound memory_is = λ k d lt.
    let none : Mapping = record { base = 0; len = 0; owner = 0 } in
    let i : ℕ = setting.index in
    let root : Mapping = get_or roots i none in
    let many = as_many setting.objects 0 roots placed.mappings in
    let index = placed.index in
    let at : slice_get roots i ≡ Some root = slice_get-get_or roots i none (omega (arith, many, index)) in
    let is : (memory.base ≡ root.base) × (length memory.bytes ≡ root.len) × (memory.words ≡ []) = subst (λ (o : Option Mapping). IsSomeAnd o (λ r. (memory.base ≡ r.base) × (length memory.bytes ≡ r.len) × (memory.words ≡ []))) at memory_is in
    let of = mapping_of roots setting i none placed index in
    let size = of.mapping.size in
    let base = of.base in
    let p : Pair = get_or pairs k d in
    let place : ℕ × ℕ = (sound.each k d lt).slot in
    let pair = (sound.each k d lt).sound in
    let slot = pair.at in
    let long = pair.long in
    let within = pair.within in
    let read = object_read roots setting i placed index in
    let turned : bias setting % (own setting).align ≡ 0 = subst (λ (b : ℕ). b % (own setting).align ≡ 0) base of.mapping.aligned in
    let pages : bias setting % 4096 ≡ 0 = multiple_pages (bias setting) (own setting).align read.align_power read.align_low turned in
    let first : memory.base ≡ bias setting = is.0 ∙ base in
    let whole : length memory.bytes ≡ (own setting).span = is.1 ∙ size in
    record {
      inside = record { from = omega (arith, first, slot); to = omega (arith, first, whole, slot, long, within) };
      granule = fits_granule p.slot p.content (λ l.
          let low : place.0 % 16 ≡ 0 = pair.aligned (sym long ∙ l) in
          let high : bias setting % 4096 ≡ 0 = pages in omega (arith, slot, low, high)) pair.few;
    }
