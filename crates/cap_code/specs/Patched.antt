-- The bytes of pieces, stubs and slots with code relocated.
use Rattle.std.specs.Prelude.{ℕ, ◌+◌, ◌-◌, ◌*◌, ◌/◌, ◌%◌, ◌^◌, ◌||◌, ◌==◌, if◌then◌else◌, List, [], ◌∷◌, filter, unwrap_or, Result, Ok}
use Rattle.std.specs.List.{flat_map}
use Rattle.cap_base.specs.Field.{number_at, number_bytes}
use Rattle.cap_base.specs.Steps.{◌>>=◌, steps, in_file}
use Rattle.cap_base.specs.declared.refusal.Refusal.{Refusal}
use Rattle.cap_elf.specs.RelObject.{file_of}
use Rattle.cap_table.specs.declared.target.Target.{Target}
use Rattle.cap_table.specs.declared.target.Step.{Step}
use Rattle.cap_table.specs.Kinds.{is_call, is_high, is_slot_high, is_add, is_sub, value_bits, width_of}
use Rattle.cap_table.specs.Checks.{reloc_of}
use Rattle.cap_table.specs.Lists.{CapTableValue, slot_in, stub_in}
use Rattle.cap_table.specs.Bodies.{BodiesValue, plain_of, piece_bytes, put_in, offset_in_piece}
use Rattle.cap_code.specs.Forms.{with_form, upper_form, immediate_form, store_form, branch_form, jump_form, short_branch_form, short_jump_form}
use Rattle.cap_code.specs.Values.{Scene, is_patched, distance, checked_value}

-- the high part and the low part of a value, of 20 and of 12 bits: the high part carries what the low one, read as a
-- signed number, takes away
abbrev pub high_part : ℕ → ℕ
high_part value = (value + 0x800) / 2 ^ 12 % 2 ^ 20

abbrev pub low_part : ℕ → ℕ
low_part value = value % 2 ^ 12

-- the low bits of a field after a sum, after a difference, or in place of the old ones
abbrev pub amount : ℕ → ℕ → ℕ → ℕ
amount kind field value =
    if is_add kind then field + value else if is_sub kind then field + 2 ^ 64 - value else value

unfoldable pub computed : ℕ → ℕ → ℕ → ℕ
computed kind field value =
    let modulus = 2 ^ value_bits kind in field / modulus * modulus + amount kind field value % modulus

-- the field of a call: two words, the high part (AUIPC) and the low part
abbrev pub patched_call : ℕ → ℕ → ℕ
patched_call field value =
    with_form upper_form (field % 2 ^ 32) (high_part value) + 2 ^ 32 * with_form immediate_form (field / 2 ^ 32) (low_part value)

-- the field, a number, with the value in it
unfoldable pub patched_field : ℕ → ℕ → ℕ → ℕ
patched_field kind field value =
    if kind == 16 then with_form branch_form field value
    else if kind == 17 then with_form jump_form field value
    else if kind == 44 then with_form short_branch_form field value
    else if kind == 45 then with_form short_jump_form field value
    else if is_call kind then patched_call field value
    else if is_high kind || is_slot_high kind then with_form upper_form field (high_part value)
    else if kind == 24 then with_form immediate_form field (low_part value)
    else if kind == 25 then with_form store_form field (low_part value)
    else if kind == 57 then value % 2 ^ 32
    else computed kind field value

-- the bytes of the field of a step with the value in it
abbrev pub field_bytes : List (List ℕ) → ℕ → ℕ → ℕ → ℕ → List ℕ
field_bytes bodies piece offset kind value =
    number_bytes (width_of kind) (patched_field kind (number_at (width_of kind) (piece_bytes bodies piece) offset) value)

abbrev pub with_value : Scene → List (List ℕ) → Step → ℕ → List (List ℕ)
with_value scene bodies s value =
    let offset = offset_in_piece scene.named.rels scene.laid.pieces.all s in
    put_in bodies s.piece offset (field_bytes bodies s.piece offset (reloc_of scene.named.rels s).kind value)

-- the pieces with one more field, or the check that it fails
unfoldable pub patch_step : Scene → List (List ℕ) → Step → Result (List (List ℕ)) Refusal
patch_step scene bodies s = do
  value ← in_file (file_of scene.named.rels s.file).number (checked_value scene s)
  Ok (with_value scene bodies s value)

-- a stub: AUIPC and a load of the capability of its slot, a jump to it, and a NOP
abbrev pub stub_words : ℕ → List ℕ
stub_words value =
    with_form upper_form 0x00000397 (high_part value) ∷ with_form immediate_form 0x0003A38F (low_part value) ∷ 0xFEC3805B ∷ 0x00000013 ∷ []

abbrev pub stub_value : CapTableValue → Target → ℕ
stub_value lists t =
    distance (unwrap_or (slot_in lists t.file t.symbol) 0) (unwrap_or (stub_in lists t.file t.symbol) 0)

unfoldable pub stub_bytes : CapTableValue → Target → List ℕ
stub_bytes lists t = flat_map (number_bytes 4) (stub_words (stub_value lists t))

-- the bytes of the linked file's pieces, stubs and slots, or the first check that a relocation fails
unfoldable pub patch_of : Scene → Result BodiesValue Refusal
patch_of scene = do
  let plain = plain_of scene.named scene.lists.plan scene.laid.pieces.all
  pieces ← steps (patch_step scene) plain.pieces (filter (is_patched scene.named) scene.lists.plan.steps)
  Ok (record { pieces = pieces; stubs = flat_map (stub_bytes scene.lists) scene.lists.plan.stubs; slots = plain.slots })
