-- The entries of the dynamic table (gABI, "Dynamic Section").
use Rattle.std.specs.Prelude.{ℕ, Bool, ◌&&◌, ◌||◌, ◌==◌, bit_and, List, [], ◌∷◌, ◌++◌, take, find, position, if◌then◌else◌, Option, is_some, ok_or, Result, Ok}
use Rattle.std.specs.Option.{option_map}
use Rattle.std.specs.List.{list_any}
use Rattle.cap_base.specs.declared.check.Check.TheVariants.{DynamicEnd, DynamicTag, RepeatedTag}
use Rattle.cap_base.specs.declared.refusal.Fault.{Fault}
use Rattle.cap_elf.specs.declared.decode.DynEntry.{DynEntry}
use Rattle.cap_elf.specs.declared.decode.Table.{Table}
use Rattle.cap_elf.specs.Numbers.{DT_FLAGS, DT_SYMBOLIC, DF_SYMBOLIC}
use Rattle.cap_elf.specs.Records.{table, dyn_entry_at}
use Rattle.cap_base.specs.Steps.{◌>>=◌, ◌>>◌, refuse, steps}
use Rattle.cap_elf.specs.Tags.{is_single, is_refused}

-- the entries before the first DT_NULL
unfoldable pub listed_of : List ℕ → Table → Result (List DynEntry) Fault
listed_of bytes place = do
  let entries = table (dyn_entry_at bytes) place.at 16 place.count
  end ← ok_or (position (λ e. e.tag == 0) entries) (record { check = DynamicEnd; at = place.at })
  Ok (take end entries)

-- the value of the first entry of a tag
abbrev pub value_of : List DynEntry → ℕ → Option ℕ
value_of entries tag = option_map (λ e. e.value) (find (λ e. e.tag == tag) entries)

-- the entries so far of tags that stand once, and one more entry
unfoldable pub tag_step : List DynEntry → DynEntry → Result (List DynEntry) Fault
tag_step used e = do
  refuse (is_refused e) DynamicTag e.at
  if is_single e.tag then (do
    refuse (is_some (value_of used e.tag)) RepeatedTag e.at
    Ok (used ++ e ∷ [])) else Ok used

-- the entries of tags that stand once
abbrev pub used_of : List DynEntry → Result (List DynEntry) Fault
used_of listed = steps tag_step [] listed

-- DF_SYMBOLIC of a DT_FLAGS
abbrev pub has_symbolic_flag : List DynEntry → Bool
has_symbolic_flag listed = list_any (λ e. e.tag == DT_FLAGS && (bit_and e.value DF_SYMBOLIC == DF_SYMBOLIC)) listed

-- the object looks a name up in itself first
abbrev pub is_symbolic : List DynEntry → List DynEntry → Bool
is_symbolic listed used = is_some (value_of used DT_SYMBOLIC) || has_symbolic_flag listed
