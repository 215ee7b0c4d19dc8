-- What `audit` and `init` say of the image that `load` would write.
use Rattle.std.proofs.Common.{◌≡◌, ℕ, zero, suc, ◌-◌, ◌^◌, true, List, [], ◌∷◌, length, map, Option, Some, None, IfSome, Result, Ok, Err, refl, sym, ap, subst, ◌∙◌, arith}
use Rattle.std.specs.Prelude.{◌==◌, ◌↔◌, All, nat_lt}
use Rattle.std.proofs.lemmas.Bool.Decides.{nat_tests}
use Rattle.std.proofs.lemmas.List.Elements.{All-head, All-nil, All-tail, All-weaker}
use Rattle.cap_audit.specs.declared.finding.Finding.{Finding}
use Rattle.cap_audit.specs.AuditLaws.{NoneWhereWritten}
use Rattle.cap_audit.specs.Findings.{findings}
use Rattle.cap_base.specs.Check.{number_of}
use Rattle.cap_base.specs.Outside.{Store, file_in}
use Rattle.cap_base.specs.declared.check.Check.TheVariants.{FileSize}
use Rattle.cap_base.specs.declared.refusal.Fault.{Fault}
use Rattle.cap_elf.proofs.Passing.{choice_passed, find_all, find_passes}
use Rattle.cap_image.specs.Accepted.{AreBytes}
use Rattle.cap_image.specs.Granules.{is_tagged_at, object_at}
use Rattle.cap_image.specs.Parts.{ImageParts}
use Rattle.cap_image.specs.Reading.{read_image}
use Rattle.cap_image.specs.Writing.{image_bytes}
use Rattle.cap_init.specs.Calls.{memory_at}
use Rattle.cap_init.specs.Post.{init_order}
use Rattle.cap_init.specs.Laws.{AllAreCalls, IsCall}
use Rattle.cap_init.specs.declared.call.Call.{Call}
use Rattle.cap_loaded.specs.Images.{HoldsWord, LeadsTo, StatesAreReadBack, StatesHoldWords, state_image}
use Rattle.cap_mem.specs.Held.{cap_in, fields_in}
use Rattle.cap_mem.specs.Tagged.{TaggedMemory, TaggedWord, stands_at}
use Rattle.cap_own.specs.Cap.{Cap}
use Rattle.cap_session.specs.declared.refusal.OpenRefusal.{OpenRefusal}
use Rattle.cap_session.specs.Loading.{dependencies, records_of}
use Rattle.cap_session.specs.State.{State, memories_of}
use Rattle.purecap.specs.declared.faults.Failure.{Failure}
use Rattle.purecap.specs.declared.faults.Failure.TheVariants.{Limit}
use Rattle.purecap.specs.Answer.{audit_by, audit_story, called, compared, compared_by, ended_by, init_story, program_outcome}
use Rattle.purecap.specs.Faults.{status_of}
use Rattle.purecap.specs.Images.{image_in, image_or}
use Rattle.purecap.specs.Initial.{initial_calls}
use Rattle.purecap.specs.LoadImage.{IsEntry, IsImageOf, IsImageRun, PrintsEntries, SpeaksOfImage, TellsImage}
use Rattle.purecap.specs.ProgramWords.{IsProgram, ProgramWords}
use Rattle.purecap.specs.Run.{Disk, EndsAs, Ends, IsGiven, Runs, Stream, end_status}
use Rattle.purecap.specs.Story.{Differing, Product, Stop, Story}
use Rattle.purecap.specs.Words.{Audit, Command, Demo, Init, Link, Load, Reach, Show, command_of}
use Rattle.purecap.proofs.Accepted.{command_passed}
use Rattle.purecap.proofs.Ways.{CutShort, Different, Done, Refused, Starved, Unread, Way, way_of}

-- what is known of the images of states, of findings and of calls
pub record ImageLaws : Type 0 where
  pub reads_back : StatesAreReadBack
  pub holds : StatesHoldWords
  pub written : NoneWhereWritten
  pub calls : AllAreCalls

pub leads_to : (words : ProgramWords) (store : Store) (state : State) → IsProgram words → (program_outcome words store).«end» ≡ Ok state → LeadsTo store words.dir words.main words.rule words.calls state
leads_to words store state is e = record { main_is = is.main; calls_are = λ k d below. (is.names k d below).0; «end» = e }

-- ---- entries

entry_at : (image : ImageParts) (c : Call) (w : TaggedWord) → HoldsWord image w → w.granule ≡ c.slot → w.cap.sealed ≡ true → w.cap.cursor ≡ c.cursor → IsEntry image c
entry_at image c w holds at sealed cursor =
    let decoded : ℕ → Cap = λ slot. cap_in (object_at image slot).bytes (slot - (object_at image slot).base) w.cap.owner in
    let is : decoded c.slot ≡ w.cap = ap decoded (sym at) ∙ holds.decodes in
    let seal : ((fields_in (object_at image c.slot).bytes (c.slot - (object_at image c.slot).base)).otype == 262142) ≡ true = ap (λ (cap : Cap). cap.sealed) is ∙ sealed in
    record {
      tagged = ap (is_tagged_at image) (sym at) ∙ holds.tagged;
      sealed = grind (arith, nat_tests, seal);
      cursor = ap (λ (cap : Cap). cap.cursor) is ∙ cursor;
    }

-- the word of a call stands in one of the memories
entry_of : (image : ImageParts) (memories : List TaggedMemory) → All (λ (m : TaggedMemory). All (HoldsWord image) m.words) memories → (c : Call) → IsCall memories c → IsEntry image c
entry_of image memories holds c is =
    let w : TaggedWord = is.word in
    entry_at image c w
    (find_all (stands_at c.slot) (HoldsWord image) (memory_at memories c.object).words w is.tagged (held_at memories c.object holds))
    (granule (find_passes (stands_at c.slot) (memory_at memories c.object).words w is.tagged)) is.sealed is.cursor
  where
    granule : (is.word.granule == c.slot) ≡ true → is.word.granule ≡ c.slot
    granule same = grind (arith, nat_tests, same)

    held_at : (memories : List TaggedMemory) (i : ℕ) → All (λ (m : TaggedMemory). All (HoldsWord image) m.words) memories → All (HoldsWord image) (memory_at memories i).words
    held_at [] i all = All-nil (HoldsWord image)
    held_at (m ∷ memories) zero all = All-head (λ (m : TaggedMemory). All (HoldsWord image) m.words) m memories all
    held_at (m ∷ memories) (suc i) all = held_at memories i (All-tail (λ (m : TaggedMemory). All (HoldsWord image) m.words) m memories all)

abbrev order_in : State → List ℕ
order_in state = init_order (dependencies state.objects) state.starts (length state.objects)

entries : ImageLaws → (words : ProgramWords) (store : Store) (state : State) → IsProgram words → (program_outcome words store).«end» ≡ Ok state → All (IsEntry (state_image state)) (initial_calls state)
entries laws words store state is e =
    let holds = laws.holds store words.dir words.main words.rule words.calls state (leads_to words store state is e) in
    All-weaker (IsCall (memories_of state)) (IsEntry (state_image state)) (entry_of (state_image state) (memories_of state) holds) (initial_calls state)
    (laws.calls (map records_of state.objects) (memories_of state) (order_in state))

-- ---- how a story ends

-- the state of which a command made a product
pub record IsProductOf (product : State → Product) (end : Result State OpenRefusal) (made : Product) : Type 0 where
  pub state : State
  pub leads : end ≡ Ok state
  pub is : product state ≡ made

pub product_of : (product : State → Product) (end : Result State OpenRefusal) (made : Product) → ended_by product end ≡ Ok made → IsProductOf product end made
product_of product (Ok state) made e = record { state = state; leads = refl; is = same (product state) e }
  where
    same : (p : Product) → ◌≡◌ {A = Result Product Stop} (Ok p) (Ok made) → p ≡ made
    same p e = cc
product_of product (Err refusal) made e = absurd cc

-- ---- the image in a file

read_passed : (bytes : List ℕ) (given : ImageParts) → image_in (Some bytes) ≡ Ok given → read_image bytes ≡ Ok given
read_passed bytes given e =
    choice_passed (nat_lt (2 ^ 31) (length bytes)) (Err (Limit (number_of FileSize))) (image_or (read_image bytes)) (Ok given) e
    (λ _ limit. absurd (cc)) (λ _ is. passed (read_image bytes) is)
  where
    passed : (read : Result ImageParts Fault) → image_or read ≡ Ok given → read ≡ Ok given
    passed (Ok image) is = cc
    passed (Err fault) is = absurd cc

-- ---- `audit`

-- an image that was read, and the state beside whose image it was compared
record IsCompared (image : List ℕ) (words : ProgramWords) (store : Store) (given : Result ImageParts Failure) (made : Product) : Type 0 where
  parts : ImageParts
  read : given ≡ Ok parts
  compared_is : IsProductOf (λ state. compared image parts (state_image state)) (program_outcome words store).«end» made

compared_of : (image : List ℕ) (words : ProgramWords) (store : Store) (given : Result ImageParts Failure) (made : Product) → (audit_by image given (program_outcome words store)).«end» ≡ Ok made → IsCompared image words store given made
compared_of image words store (Ok parts) made e =
    record { parts = parts; read = refl; compared_is = product_of (λ state. compared image parts (state_image state)) (program_outcome words store).«end» made e }
compared_of image words store (Err failure) made e = absurd cc

none_given : (image : List ℕ) (disk : Disk) (out : Stream) (kept : List TaggedMemory) (found : List Finding) (made : Product) → compared_by image found ≡ made → IsGiven made disk out kept → found ≡ []
none_given image disk out kept [] made e given = refl
none_given image disk out kept (finding ∷ others) made e given = absurd (subst (λ (p : Product). IsGiven p disk out kept) (sym e) given)

some_differ : (image path output : List ℕ) (found : List Finding) → compared_by image found ≡ Differing path output → found ≡ [] → ⊥
some_differ image path output [] e none = cc
some_differ image path output (finding ∷ others) e none = cc

same_state : (end : Result State OpenRefusal) (a b : State) → end ≡ Ok a → end ≡ Ok b → a ≡ b
same_state end a b first second = cc

module _ (laws : ImageLaws) (image : List ℕ) (words : ProgramWords) (is : IsProgram words) (store : Store) (disk : Disk) (out err : Stream) (kept : List TaggedMemory) (end : Result Unit Failure) where
  -- the bytes of a file were read and compared
  module _ (bytes : List ℕ) (are : AreBytes bytes) where
    by_law : (parts : ImageParts) (state : State) → read_image bytes ≡ Ok parts → (program_outcome words store).«end» ≡ Ok state → (findings parts (state_image state) ≡ []) ↔ (bytes ≡ image_bytes (state_image state))
    by_law parts state read leads =
        let back = laws.reads_back store words.dir words.main words.rule words.calls state (leads_to words store state is leads) in
        laws.written bytes parts (state_image state) are read back.read back.objects

    is_image : (made : Product) → IsCompared image words store (image_in (Some bytes)) made → IsGiven made disk out kept → IsImageOf words store bytes
    is_image made c given =
        let state : State = c.compared_is.state in
        let none = none_given image disk out kept (findings c.parts (state_image state)) made c.compared_is.is given in
        record {
          state = state;
          leads = c.compared_is.leads;
          bytes_are = (by_law c.parts state (read_passed bytes c.parts c.read) c.compared_is.leads).0 none;
        }

    is_other : (path output : List ℕ) → IsCompared image words store (image_in (Some bytes)) (Differing path output) → IsImageOf words store bytes → ⊥
    is_other path output c of =
        let state : State = c.compared_is.state in
        let same : of.state ≡ state = same_state (program_outcome words store).«end» of.state state of.leads c.compared_is.leads in
        let bytes_are : bytes ≡ image_bytes (state_image state) = of.bytes_are ∙ ap (λ (s : State). image_bytes (state_image s)) same in
        some_differ image path output (findings c.parts (state_image state)) c.compared_is.is ((by_law c.parts state (read_passed bytes c.parts c.read) c.compared_is.leads).1 bytes_are)

    neither : (end_status end ≡ 0 → ⊥) → (end_status end ≡ 15 → ⊥) → TellsImage words store bytes (end_status end)
    neither ended fifteen = record { same = λ e. absurd (ended e); other = λ e. absurd (fifteen e) }

    tells : Way (audit_story image words (Some bytes) store) disk out err kept end → TellsImage words store bytes (end_status end)
    tells (Done e d) =
        let status : end_status end ≡ 0 = ap end_status e in
        record {
          same = λ ended. is_image d.product (compared_of image words store (image_in (Some bytes)) d.product d.defined) d.given;
          other = λ fifteen. absurd (omega (arith, status, fifteen));
        }
    tells (Unread e u) = let status : end_status end ≡ 10 = ap end_status e in neither (λ ended. omega (arith, status, ended)) (λ fifteen. omega (arith, status, fifteen))
    tells (CutShort e c) = let status : end_status end ≡ 11 = ap end_status e in neither (λ ended. omega (arith, status, ended)) (λ fifteen. omega (arith, status, fifteen))
    tells (Starved e s) = let status : end_status end ≡ 12 = ap end_status e in neither (λ ended. omega (arith, status, ended)) (λ fifteen. omega (arith, status, fifteen))
    tells (Different e d) =
        let status : end_status end ≡ 15 = ap end_status e in
        record {
          same = λ ended. absurd (omega (arith, status, ended));
          other = λ fifteen. is_other d.path d.output (compared_of image words store (image_in (Some bytes)) (Differing d.path d.output) d.defined);
        }
    tells (Refused failure e own r) =
        let status : end_status end ≡ status_of failure = ap end_status e in
        neither (λ ended. own.not_done (sym status ∙ ended)) (λ fifteen. own.not_different (sym status ∙ fifteen))

  audits : (file : Option (List ℕ)) → EndsAs (audit_story image words file store) disk out err kept end → IfSome file (λ bytes. AreBytes bytes → TellsImage words store bytes (end_status end))
  audits None ends = tt
  audits (Some bytes) ends = λ are. tells bytes are (way_of _ disk out err kept end ends)

-- ---- `init`

module _ (laws : ImageLaws) (words : ProgramWords) (is : IsProgram words) (store : Store) (disk : Disk) (out err : Stream) (kept : List TaggedMemory) (end : Result Unit Failure) where
  prints : Way (init_story words store) disk out err kept end → end_status end ≡ 0 → PrintsEntries words store out
  prints (Done e d) ended =
      let of = product_of called (program_outcome words store).«end» d.product d.defined in
      let given = subst (λ (p : Product). IsGiven p disk out kept) (sym of.is) d.given in
      record { state = of.state; leads = of.leads; entries = entries laws words store of.state is of.leads; written = given.1 }
  prints (Unread e u) ended = let status : end_status end ≡ 10 = ap end_status e in absurd (omega (arith, status, ended))
  prints (CutShort e c) ended = let status : end_status end ≡ 11 = ap end_status e in absurd (omega (arith, status, ended))
  prints (Starved e s) ended = let status : end_status end ≡ 12 = ap end_status e in absurd (omega (arith, status, ended))
  prints (Different e d) ended = let status : end_status end ≡ 15 = ap end_status e in absurd (omega (arith, status, ended))
  prints (Refused failure e own r) ended = let status : end_status end ≡ status_of failure = ap end_status e in absurd (own.not_done (sym status ∙ ended))

-- ---- all commands

speaks : ImageLaws → (words : List (List ℕ)) (command : Result Command Failure) → command_of words ≡ command → (store : Store) (disk : Disk) (out err : Stream) (kept : List TaggedMemory) (end : Result Unit Failure) → disk.old ≡ Some store
    → Ends command disk out err kept end → SpeaksOfImage command store out (end_status end)
speaks laws words (Ok (Show image)) is store disk out err kept end told ends = tt
speaks laws words (Ok (Load asked)) is store disk out err kept end told ends = tt
speaks laws words (Ok (Link asked)) is store disk out err kept end told ends = tt
speaks laws words (Ok (Demo number)) is store disk out err kept end told ends = tt
speaks laws words (Ok (Init asked)) is store disk out err kept end told ends =
    let story = subst (λ (o : Option Store). IfSome o (λ s. ends.story ≡ init_story asked s)) told ends.is_story in
    prints laws asked (command_passed words (Init asked) is) store disk out err kept end (way_of _ disk out err kept end (subst (λ (story : Story). EndsAs story disk out err kept end) story ends.ends))
speaks laws words (Ok (Reach image slot)) is store disk out err kept end told ends = tt
speaks laws words (Ok (Audit image asked)) is store disk out err kept end told ends =
    let there = subst (λ (o : Option Store). IfSome o (λ s. (ends.file ≡ file_in s image) × (ends.story ≡ audit_story image asked ends.file s))) told ends.is_story in
    let accepted = command_passed words (Audit image asked) is in
    let story : ends.story ≡ audit_story image asked (file_in store image) store = there.1 ∙ ap (λ (file : Option (List ℕ)). audit_story image asked file store) there.0 in
    audits laws image asked accepted.1 store disk out err kept end (file_in store image) (subst (λ (story : Story). EndsAs story disk out err kept end) story ends.ends)
speaks laws words (Err failure) is store disk out err kept end told ends = tt

by_store : ImageLaws → (words : List (List ℕ)) (disk : Disk) (out err : Stream) (kept : List TaggedMemory) (end : Result Unit Failure) → Ends (command_of words) disk out err kept end
    → (told : Option Store) → disk.old ≡ told → IsImageRun (command_of words) told out (end_status end)
by_store laws words disk out err kept end ends None is = tt
by_store laws words disk out err kept end ends (Some store) is = speaks laws words (command_of words) refl store disk out err kept end is ends

pub image_run : ImageLaws → (words : List (List ℕ)) (disk : Disk) (out err : Stream) (kept : List TaggedMemory) (status : ℕ) → Runs words disk out err kept status → IsImageRun (command_of words) disk.old out status
image_run laws words disk out err kept status ran =
    subst (λ (s : ℕ). IsImageRun (command_of words) disk.old out s) (sym ran.is_status) (by_store laws words disk out err kept ran.end ran.ends disk.old refl)
