-- The mapping of each object.
use Rattle.std.proofs.Common.{◌≡◌, ℕ, zero, suc, ◌+◌, ◌<◌, List, [], ◌∷◌, length, get_or, refl, sym, ap, ◌∙◌, subst, arith}
use Rattle.std.specs.Prelude.{slice_index}
use Rattle.std.proofs.lemmas.List.{get_or-map}
use Rattle.cap_own.specs.Cap.{Mapping}
use Rattle.cap_elf.specs.DynView.{DynRecords}
use Rattle.cap_scope.specs.Chosen.{object_at}
use Rattle.cap_reloc.specs.Wanted.{Setting}
use Rattle.cap_reloc.specs.Binding.{AreMappings, IsMapping}
use Rattle.cap_reloc.specs.Sound.{IsPlaced, IsMappingOf}

pub as_many : (objects : List DynRecords) (n : ℕ) (roots : List Mapping) → AreMappings objects n roots → length roots ≡ length objects
as_many [] n [] h = refl
as_many [] n (root ∷ roots) h = absurd h
as_many (object ∷ objects) n [] h = absurd h
as_many (object ∷ objects) n (root ∷ roots) h = let rest = as_many objects (n + 1) roots h.1 in omega (arith, rest)

mapping_at : (objects : List DynRecords) (n : ℕ) (roots : List Mapping) (i : ℕ) (d : Mapping) → AreMappings objects n roots → i < length objects → IsMapping (object_at objects i) (n + i) (get_or roots i d)
mapping_at [] n roots i d h lt = absurd (omega arith)
mapping_at (object ∷ objects) n [] i d h lt = absurd h
mapping_at (object ∷ objects) n (root ∷ roots) zero d h lt = let same : n + zero ≡ n = omega arith in rw same h.0
mapping_at (object ∷ objects) n (root ∷ roots) (suc i) d h lt =
    let same : n + suc i ≡ (n + 1) + i = omega arith in
    rw same (mapping_at objects (n + 1) roots i d h.1 (omega arith))

pub mapping_of : (roots : List Mapping) (setting : Setting) (i : ℕ) (d : Mapping) → IsPlaced roots setting → i < length setting.objects → IsMappingOf setting i (get_or roots i d)
mapping_of roots setting i d placed lt =
    let many = as_many setting.objects 0 roots placed.mappings in
    record {
      mapping = subst (λ (n : ℕ). IsMapping (object_at setting.objects i) n (get_or roots i d)) (omega arith) (mapping_at setting.objects 0 roots i d placed.mappings lt);
      base = sym (get_or-map (λ r. r.base) roots i d 0 (omega (arith, many))) ∙ ap (λ bs. slice_index bs i) (sym placed.bases);
    }
