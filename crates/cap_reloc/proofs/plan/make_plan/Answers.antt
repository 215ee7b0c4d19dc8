use Rattle.std.proofs.Common.{◌≡◌, List, [], ◌∷◌, map, Ok, ap, ◌∙◌, refl}
use Rattle.std.specs.Prelude.{All}
use Rattle.cap_elf.specs.DynView.{DynValue}
use Rattle.cap_fits.specs.Places.{code_range}
use Rattle.cap_mem.specs.Tagged.{TaggedMemory}
use Rattle.cap_reloc.specs.Wanted.{Setting, wanted_pairs}
use Rattle.cap_reloc.specs.Setting.{setting_of}
use Rattle.cap_reloc.specs.Binding.{IsUnrelocated, IsRefusedBy, IsUnfitCause}
use Rattle.cap_reloc.specs.Planned.{IsSlotIn, SlotsAreApart, IsNarrowedIn}
use Rattle.cap_reloc.proofs.FromPlan.{placed_from, then_ok, then_err, sound_pairs, unfit_cause, narrowed_pairs, slots_in}
use Rattle.cap_reloc.specs.Noted.{NamesSymbols}
use Rattle.cap_reloc.proofs.NotedWords.{placed_names}
use Rattle.cap_reloc.proofs.plan.make_plan.Goals as goal

maps : (xs : List DynValue) → map (λ o. code_range o.records) xs ≡ map code_range (map (λ o. o.records) xs)
maps [] = refl
maps (x ∷ xs) = ap (λ l. code_range x.records ∷ l) (maps xs)

pub invariant_of-loaded : goal.invariant_of-loaded
invariant_of-loaded c = record {
  placed = placed_from c.args.objects.now c.args.roots.now c.args.index c.args.scope.now c.args.rule c.requires.few c.requires.mappings c.requires.index c.requires.scope c.in_ok-code.ensures.sound;
  code = c.as_slice.ensures.value ∙ c.in_ok-code.ensures.value ∙ maps c.args.objects.now;
}

pub returns-clause-slots : goal.returns-clause-slots
returns-clause-slots c =
    let roots = c.args.roots.now in
    let setting : Setting = setting_of c.args.objects.now roots c.args.index c.args.scope.now c.args.rule in
    let placed = placed_from c.args.objects.now roots c.args.index c.args.scope.now c.args.rule c.requires.few c.requires.mappings c.requires.index c.requires.scope c.in_ok-code.ensures.sound in
    then_ok (λ planned. wanted_pairs setting ≡ Ok planned.items) (λ planned. (memory : TaggedMemory) → IsUnrelocated roots c.args.index memory → All (IsSlotIn memory) planned.items) c.plan_all.result c.plan_all.ensures.pairs
    (λ planned is memory memory_is. slots_in roots setting planned.items memory placed (sound_pairs roots setting planned.items placed is) memory_is)

pub returns-clause-apart : goal.returns-clause-apart
returns-clause-apart c =
    let roots = c.args.roots.now in
    let setting : Setting = setting_of c.args.objects.now roots c.args.index c.args.scope.now c.args.rule in
    let placed = placed_from c.args.objects.now roots c.args.index c.args.scope.now c.args.rule c.requires.few c.requires.mappings c.requires.index c.requires.scope c.in_ok-code.ensures.sound in
    then_ok (λ planned. wanted_pairs setting ≡ Ok planned.items) (λ planned. SlotsAreApart planned.items) c.plan_all.result c.plan_all.ensures.pairs
    (λ planned is. (sound_pairs roots setting planned.items placed is).apart)

pub returns-clause-narrowed : goal.returns-clause-narrowed
returns-clause-narrowed c =
    let roots = c.args.roots.now in
    let setting : Setting = setting_of c.args.objects.now roots c.args.index c.args.scope.now c.args.rule in
    let placed = placed_from c.args.objects.now roots c.args.index c.args.scope.now c.args.rule c.requires.few c.requires.mappings c.requires.index c.requires.scope c.in_ok-code.ensures.sound in
    then_ok (λ planned. wanted_pairs setting ≡ Ok planned.items) (λ planned. All (λ p. IsNarrowedIn roots p.content) planned.items) c.plan_all.result c.plan_all.ensures.pairs
    (λ planned is. narrowed_pairs roots setting planned.items (sound_pairs roots setting planned.items placed is))

pub returns-clause-unfit : goal.returns-clause-unfit
returns-clause-unfit c =
    let roots = c.args.roots.now in
    let setting : Setting = setting_of c.args.objects.now roots c.args.index c.args.scope.now c.args.rule in
    let placed = placed_from c.args.objects.now roots c.args.index c.args.scope.now c.args.rule c.requires.few c.requires.mappings c.requires.index c.requires.scope c.in_ok-code.ensures.sound in
    then_err (IsRefusedBy (wanted_pairs setting)) (IsUnfitCause setting) c.plan_all.result c.plan_all.ensures.refusal (λ e said. unfit_cause roots setting e placed said)

pub returns-clause-named : goal.returns-clause-named
returns-clause-named c =
    let roots = c.args.roots.now in
    let setting : Setting = setting_of c.args.objects.now roots c.args.index c.args.scope.now c.args.rule in
    let placed = placed_from c.args.objects.now roots c.args.index c.args.scope.now c.args.rule c.requires.few c.requires.mappings c.requires.index c.requires.scope c.in_ok-code.ensures.sound in
    then_ok (λ planned. wanted_pairs setting ≡ Ok planned.items) (λ planned. NamesSymbols setting) c.plan_all.result c.plan_all.ensures.pairs
    (λ planned is. placed_names roots setting placed)
