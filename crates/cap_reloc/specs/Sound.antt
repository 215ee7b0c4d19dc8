-- What holds of the setting of a call.
use Rattle.std.specs.Prelude.{◌≡◌, ℕ, ◌<◌, ◌≤◌, List, length, map, All, slice_index, unwrap_or}
use Rattle.cap_own.specs.Cap.{Mapping}
use Rattle.cap_elf.specs.DynView.{DynRecords}
use Rattle.cap_elf.specs.IsRead.{IsRead}
use Rattle.cap_fits.specs.Places.{code_range}
use Rattle.cap_scope.specs.declared.choice.Hit.{Hit}
use Rattle.cap_scope.specs.declared.choice.Choice.{Choice}
use Rattle.cap_scope.specs.declared.choice.Choice.TheVariants as choices
use Rattle.cap_scope.specs.Chosen.{object_at}
use Rattle.cap_reloc.specs.declared.loaded.Loaded.TheInside.{Inside}
use Rattle.cap_reloc.specs.declared.target.Target.{Target}
use Rattle.cap_reloc.specs.declared.target.Target.TheVariants.{Definition, Zero, Missing}
use Rattle.cap_reloc.specs.Wanted.{Setting}
use Rattle.cap_reloc.specs.Setting.{setting_of}
use Rattle.cap_reloc.specs.Binding.{AreMappings, IsMapping}

-- the objects were read, and each has its mapping
pub record IsPlaced (roots : List Mapping) (setting : Setting) : Type 0 where
  pub read : All IsRead setting.objects
  pub mappings : AreMappings setting.objects 0 roots
  pub bases : setting.bases ≡ map (λ r. r.base) roots
  pub index : setting.index < length setting.objects
  pub few : length setting.objects ≤ 256
  pub scope : All (λ i. i < length setting.objects) setting.scope

-- the setting of the loaded objects
abbrev pub setting_in : Inside → Setting
setting_in l = setting_of l.objects.now l.roots.now l.index l.scope.now l.rule

-- the loaded objects have their mappings, and their ranges of code are at hand
pub record IsLoaded (l : Inside) : Type 0 where
  pub placed : IsPlaced l.roots.now (setting_in l)
  pub code : l.code.now ≡ map code_range (setting_in l).objects

-- the object and its symbol are there
pub record IsIn (setting : Setting) (hit : Hit) : Type 0 where
  pub object : hit.object < length setting.objects
  pub symbol : hit.symbol < length (object_at setting.objects hit.object).symbols

-- the definition that is chosen, if one is, is there
abbrev pub IsChoiceIn : Setting → Choice → Type 0
IsChoiceIn setting (choices.Strong hit) = IsIn setting hit
IsChoiceIn setting (choices.Weak hit) = IsIn setting hit
IsChoiceIn setting choices.None = Unit {0}

-- the definition that is meant, if one is, is there
abbrev pub IsTargetIn : Setting → Target → Type 0
IsTargetIn setting (Definition hit) = IsIn setting hit
IsTargetIn setting Zero = Unit {0}
IsTargetIn setting Missing = Unit {0}

-- the mapping of an object of the setting
pub record IsMappingOf (setting : Setting) (i : ℕ) (root : Mapping) : Type 0 where
  pub mapping : IsMapping (object_at setting.objects i) i root
  pub base : root.base ≡ slice_index setting.bases i

-- the range of code of an object; 0 and 0 where it has none
abbrev pub code_of : DynRecords → ℕ × ℕ
code_of object = unwrap_or (code_range object) (0, 0)

-- the range of code of the object has the address, and lies in its span
pub record IsCodeIn (object : DynRecords) (at : ℕ) : Type 0 where
  pub from : (code_of object).0 ≤ at
  pub to : at < (code_of object).1
  pub within : (code_of object).1 ≤ object.span
