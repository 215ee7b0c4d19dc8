-- Which objects are loaded, in which order (gABI, "Shared Object Dependencies"), and where.
use Rattle.std.specs.Prelude.{ℕ, zero, suc, ◌+◌, ◌-◌, ◌^◌, Bool, false, not, ◌&&◌, ◌||◌, ◌==◌, nat_lt, nat_le, List, [], ◌∷◌, ◌++◌, length, map, find, filter_map, flat_map, codes, Option, Some, None, option_map, is_none, is_some, Result, Ok, Err, if◌then◌else◌}
use Rattle.std.specs.Int.{next_multiple_of}
use Rattle.std.specs.List.{enumerate_from}
use Rattle.std.specs.Str.{bytes_eq}
use Rattle.cap_base.specs.Check.{number_of, class_of}
use Rattle.cap_base.specs.Outside.{Store, file_in}
use Rattle.cap_base.specs.Steps.{◌>>=◌, ◌>>◌}
use Rattle.cap_base.specs.declared.check.Check.TheVariants.{HashChain, ObjectCount, FileSize}
use Rattle.cap_base.specs.declared.check.Class.{Class}
use Rattle.cap_base.specs.declared.check.Class.TheVariants as classes
use Rattle.cap_base.specs.declared.refusal.Fault.{Fault}
use Rattle.cap_elf.specs.DynView.{DynRecords, dyn_view}
use Rattle.cap_chain.specs.Adopted.{is_sound}
use Rattle.cap_scope.specs.Candidates.{hash_table}
use Rattle.cap_reloc.specs.Refusing.{refuse, or_refuse}
use Rattle.cap_session.specs.declared.refusal.OpenCause.{OpenCause}
use Rattle.cap_session.specs.declared.refusal.OpenCause.TheVariants.{NoFile, Malformed, Unsupported, Full, Limit}
use Rattle.cap_session.specs.declared.refusal.OpenRefusal.{OpenRefusal}

-- the same, with another refusal in the place of each
abbrev pub refusal_as : {A E F : Type 0} → (E → F) → Result A E → Result A F
refusal_as view (Ok x) = Ok x
refusal_as view (Err e) = Err (view e)

-- the elements, each with its place
abbrev pub numbered : {X : Type 0} → List X → List (ℕ × X)
numbered xs = enumerate_from 0 xs

-- the place of the first element that passes
abbrev pub place_of_first : {X : Type 0} → (X → Bool) → List X → Option ℕ
place_of_first p [] = None
place_of_first p (x ∷ xs) = if p x then Some 0 else option_map (λ i. i + 1) (place_of_first p xs)

-- a file that can be loaded: its bytes, and its records
pub record Source : Type 0 where
  pub bytes : List ℕ
  pub records : DynRecords

-- what a path gives: a file that can be loaded, or why there is none
abbrev pub Fetch : Type 0
Fetch = List ℕ → Result Source OpenCause

-- the cause that the first failing check of a file gives
abbrev pub cause_by : Class → ℕ → ℕ → OpenCause
cause_by classes.Malformed check at = Malformed check at
cause_by classes.Unsupported check at = Unsupported check at
cause_by classes.Limit check at = Limit check

abbrev pub cause_of : Fault → OpenCause
cause_of fault = cause_by (class_of fault.check) (number_of fault.check) fault.at

abbrev pub has_sound_table : DynRecords → Bool
has_sound_table records = is_sound (hash_table records).words (hash_table records).names

-- the bytes of a file that is there and is not above 2 ^ 26 bytes
abbrev pub bytes_from : Store → List ℕ → Result (List ℕ) OpenCause
bytes_from store path = do
  bytes ← or_refuse (file_in store path) NoFile
  refuse (nat_lt (2 ^ 26) (length bytes)) (Limit (number_of FileSize))
  Ok bytes

-- the records of a file that passes each check of its reader, and has a hash table that can be adopted
abbrev pub records_from : List ℕ → Result DynRecords OpenCause
records_from bytes = do
  records ← refusal_as cause_of (dyn_view bytes)
  refuse (not (has_sound_table records)) (Malformed (number_of HashChain) records.hash_at)
  Ok records

-- what a path gives in a store
abbrev pub fetch_from : Store → Fetch
fetch_from store path = do
  bytes ← bytes_from store path
  records ← records_from bytes
  Ok (record { bytes = bytes; records = records })

-- a loaded object: the word under which it was first sought, its file, and where it begins
pub record Loaded : Type 0 where
  pub name : List ℕ
  pub source : Source
  pub base : ℕ

abbrev pub records_of : Loaded → DynRecords
records_of o = o.source.records

-- the first free address
abbrev pub next_free : List Loaded → ℕ
next_free [] = 0x40000000
next_free (o ∷ []) = o.base + o.source.records.span
next_free (o ∷ p ∷ objects) = next_free (p ∷ objects)

-- the path of an object: the main object's is its word, and a library's stands in the directory
abbrev pub path_of : List ℕ → ℕ → List ℕ → List ℕ
path_of dir i name = if i == 0 then name else dir ++ codes "/" ++ name

-- an object that is loaded behind so many others, from a free address on, at the next multiple of its alignment; why
-- not, in this order: 256 are loaded, the file, no room
abbrev pub next_object : Fetch → List ℕ → ℕ → ℕ → List ℕ → Result Loaded OpenCause
next_object fetch path count free name = do
  refuse (nat_le 256 count) (Limit (number_of ObjectCount))
  source ← fetch path
  let base = next_multiple_of free source.records.align
  refuse (nat_lt 0x44000000 (base + source.records.span)) (Full source.records.span (0x44000000 - free))
  Ok (record { name = name; source = source; base = base })

-- one object more
abbrev pub one_more : Fetch → List ℕ → List Loaded → List ℕ → Result (List Loaded) OpenCause
one_more fetch path objects name = do
  object ← next_object fetch path (length objects) (next_free objects) name
  Ok (objects ++ object ∷ [])

abbrev pub at_path : List ℕ → OpenCause → OpenRefusal
at_path path cause = record { path = path; cause = cause }

-- the same, where a refusal tells the path
abbrev pub loaded_next : Fetch → List ℕ → List Loaded → List ℕ → Result (List Loaded) OpenRefusal
loaded_next fetch dir objects name =
    let path = path_of dir (length objects) name in
    refusal_as (at_path path) (one_more fetch path objects name)

-- what an object is called: the word under which it was first sought, and its records
abbrev pub Called : Type 0
Called = List ℕ × DynRecords

abbrev pub called : Loaded → Called
called o = (o.name, records_of o)

abbrev pub has_soname : List ℕ → Option (List ℕ) → Bool
has_soname name None = false
has_soname name (Some soname) = bytes_eq soname name

-- an object answers to the name under which it was sought, and to its DT_SONAME; the main object to that alone
abbrev pub is_answer : List ℕ → ℕ × Called → Bool
is_answer name n = (nat_lt 0 n.0 && bytes_eq n.1.0 name) || has_soname name n.1.1.soname

-- the first of them that answers to a name
abbrev pub answer_among : List Called → List ℕ → Option ℕ
answer_among objects name = place_of_first (is_answer name) (numbered objects)

abbrev pub answerer : List Loaded → List ℕ → Option ℕ
answerer objects name = answer_among (map called objects) name

-- the needed names of objects, one object after another
abbrev pub needed_names : List Loaded → List (List ℕ)
needed_names objects = flat_map (λ o. (records_of o).needed) objects

-- the first of them to which no object answers
abbrev pub first_unanswered : List Loaded → Option (List ℕ)
first_unanswered objects = find (λ name. is_none (answerer objects name)) (needed_names objects)

-- objects are loaded, each for the first needed name to which none before it answers, until each such name is
-- answered: at most one more than the number says, and that one is refused where 256 are loaded
abbrev pub closed_by : ℕ → Fetch → List ℕ → List Loaded → Result (List Loaded) OpenRefusal
closed_by zero fetch dir objects =
    elim (first_unanswered objects) [ None ↦ Ok objects | Some name ↦ loaded_next fetch dir objects name ]
closed_by (suc more) fetch dir objects =
    elim (first_unanswered objects) [ None ↦ Ok objects | Some name ↦ loaded_next fetch dir objects name >>= λ next. closed_by more fetch dir next ]

-- the same for as many as there may be more: there are never more than 256. So each needed name is answered at the end
abbrev pub closed : Fetch → List ℕ → List Loaded → Result (List Loaded) OpenRefusal
closed fetch dir objects = closed_by (256 - length objects) fetch dir objects

-- the objects with this one behind them, and then with all that are needed
abbrev pub with_needed : Fetch → List ℕ → List Loaded → List ℕ → Result (List Loaded) OpenRefusal
with_needed fetch dir objects name = do
  next ← loaded_next fetch dir objects name
  closed fetch dir next

-- the objects, among which one answers to the name
abbrev pub with_named : Fetch → List ℕ → List Loaded → List ℕ → Result (List Loaded) OpenRefusal
with_named fetch dir objects name =
    if is_some (answerer objects name) then Ok objects else with_needed fetch dir objects name

-- for each object those that answer to its needed names
abbrev pub dependencies : List Loaded → List (List ℕ)
dependencies objects = map (λ o. filter_map (answerer objects) (records_of o).needed) objects
