-- The linked file: the first refusal, or the file and all that it was made from.
use Rattle.std.specs.Prelude.{◌≢◌, ℕ, ◌≤◌, ◌&&◌, ◌==◌, if◌then◌else◌, List, [], find, codes, pos, length, All, IfSome, Option, Some, None, unwrap_or, slice_get, Result, Ok, Err}
use Rattle.std.specs.Option.{option_map_or}
use Rattle.cap_base.specs.Steps.{◌>>=◌}
use Rattle.cap_base.specs.declared.kind.Kind.{Kind}
use Rattle.cap_base.specs.declared.refusal.Refusal.{Refusal}
use Rattle.cap_base.specs.declared.refusal.Refusal.TheVariants as refusals
use Rattle.cap_elf.specs.Classes.{is_kept}
use Rattle.cap_elf.specs.ReadLaws.{AreFileBytes}
use Rattle.cap_elf.specs.RelObject.{RelObject, name_of, no_object}
use Rattle.cap_syms.specs.Output.{is_program, soname_of}
use Rattle.cap_syms.specs.Resolved.{Resolved, resolve_of, index_of}
use Rattle.cap_layout.specs.Pieces.{PieceList, pieces_of}
use Rattle.cap_layout.specs.Points.{Laid, point_of}
use Rattle.cap_layout.specs.Laid.{lay_of}
use Rattle.cap_table.specs.declared.target.Target.{Target}
use Rattle.cap_table.specs.Targets.{Named, row_target, is_address, is_section_at}
use Rattle.cap_table.specs.Planned.{Planned, plan_of}
use Rattle.cap_table.specs.Lists.{CapTableValue, filled}
use Rattle.cap_table.specs.Bodies.{BodiesValue}
use Rattle.cap_code.specs.Patched.{patch_of}
use Rattle.cap_emit.specs.File.{emit_of}
use Rattle.cap_link.specs.Inputs.{Input, FilesRead, files_of}

-- an accepted link
pub record Linked : Type 0 where
  pub named : Named
  pub laid : Laid
  pub lists : CapTableValue
  pub bodies : BodiesValue
  pub flags : ℕ
  pub entry : ℕ

-- the flags are those of the first relocatable input, and without one the two of the pure-capability profile
abbrev pub flags_of : List RelObject → ℕ
flags_of rels = option_map_or (λ r. r.flags) (slice_get rels 0) 0x30000

-- the address of `_start`, where a kept section defines it
unfoldable pub start_address : Laid → Target → ℕ
start_address laid t =
    if is_address t && is_section_at t.as_is.place && is_kept t.class then unwrap_or (point_of laid t.file t.symbol (pos 0)) 0 else 0

abbrev pub start_name : List ℕ
start_name = codes "_start"

abbrev pub start_of_row : Named → Laid → Option ℕ → ℕ
start_of_row named laid None = 0
start_of_row named laid (Some row) = start_address laid (row_target named row)

-- a program is entered there (e_entry)
unfoldable pub entry_of : Named → Laid → Kind → ℕ
entry_of named laid kind = if is_program kind then start_of_row named laid (index_of named.table start_name) else 0

-- the passes behind the layout
unfoldable pub linked_laid : Named → Planned → Laid → Kind → Result Linked Refusal
linked_laid named plan laid kind = do
  let lists = filled named plan laid
  bodies ← patch_of (record { named = named; laid = laid; lists = lists })
  Ok (record { named = named; laid = laid; lists = lists; bodies = bodies; flags = flags_of named.rels; entry = entry_of named laid kind })

-- those behind the plan
unfoldable pub linked_planned : Named → PieceList → Planned → Kind → Result Linked Refusal
linked_planned named pieces plan kind = lay_of named.rels pieces plan.sizes >>= λ laid. linked_laid named plan laid kind

-- those behind the pieces
unfoldable pub linked_pieces : FilesRead → List Resolved → PieceList → Kind → Result Linked Refusal
linked_pieces files table pieces kind = do
  let named : Named = record { rels = files.rels; table = table }
  plan ← plan_of named pieces.all files.needed (soname_of kind)
  linked_planned named pieces plan kind

-- those behind the resolved names
unfoldable pub linked_of : FilesRead → List Resolved → Kind → Result Linked Refusal
linked_of files table kind = pieces_of files.rels table >>= λ pieces. linked_pieces files table pieces kind

-- the passes behind reading
abbrev pub linked_files : FilesRead → Kind → Result Linked Refusal
linked_files files kind = resolve_of files.rels files.dyns (is_program kind) >>= λ table. linked_of files table kind

-- all passes in order, each of which may refuse
unfoldable pub link_of : List Input → Kind → Result Linked Refusal
link_of inputs kind = files_of inputs >>= λ files. linked_files files kind

abbrev pub file_of_link : Linked → List ℕ
file_of_link l = emit_of l.laid l.lists l.bodies l.flags l.entry

abbrev pub written : Result Linked Refusal → Result (List ℕ) Refusal
written link = link >>= λ l. Ok (file_of_link l)

-- the bytes of the linked file, or the first refusal
abbrev pub linked_file : List Input → Kind → Result (List ℕ) Refusal
linked_file inputs kind = written (link_of inputs kind)

-- the name that a refusal speaks of: that of the unresolved symbol
abbrev pub numbered : List RelObject → ℕ → RelObject
numbered rels number = unwrap_or (find (λ r. r.number == number) rels) no_object

abbrev pub name_in_refusal : List RelObject → Refusal → List ℕ
name_in_refusal rels (refusals.Malformed _ _ _) = []
name_in_refusal rels (refusals.Unsupported _ _ _) = []
name_in_refusal rels (refusals.Unresolved file symbol) = name_of (numbered rels file) symbol
name_in_refusal rels (refusals.Full _ _) = []
name_in_refusal rels (refusals.Limit _) = []
name_in_refusal rels refusals.NoMemory = []

abbrev pub readable : Result FilesRead Refusal → List RelObject
readable (Ok files) = files.rels
readable (Err _) = []

abbrev pub refused_name : List Input → Refusal → List ℕ
refused_name inputs refusal = name_in_refusal (readable (files_of inputs)) refusal

-- at most 255 bytes, and no zero byte
pub record IsInputName (name : List ℕ) : Type 0 where
  pub short : length name ≤ 255
  pub no_zero : All (λ b. b ≢ 0) name

-- what a link is given: at most 256 files, with such names
pub record AreInputs (inputs : List Input) (kind : Kind) : Type 0 where
  pub few : length inputs ≤ 256
  pub names : All (λ i. IsInputName i.0) inputs
  pub files : All (λ i. AreFileBytes i.1) inputs
  pub soname : IfSome (soname_of kind) IsInputName
