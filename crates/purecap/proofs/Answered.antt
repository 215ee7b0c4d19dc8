-- A run that reads its files gives the answer that its words and files define, or a part of it.
use Rattle.std.proofs.Common.{◌≡◌, ◌≢◌, ℕ, List, [], ◌++◌, map, codes, Option, Some, None, IfSome, Result, Ok, Err, refl, sym, ap, subst, ◌∙◌, inl, inr, ◌⊎◌, append-nil}
use Rattle.std.specs.Io.KnownBytes.{Appends}
use Rattle.cap_base.specs.Outside.{Store, file_in, AppendsFront, with_file}
use Rattle.cap_base.specs.SaveFile.{WritesFront}
use Rattle.cap_mem.specs.Tagged.{TaggedMemory}
use Rattle.purecap.specs.declared.faults.Failure.{Failure}
use Rattle.purecap.specs.declared.faults.Failure.TheVariants.{WriteFault}
use Rattle.purecap.specs.Linking.{Found, found_in, link_story}
use Rattle.purecap.specs.Words.{Command, Show, Load, Link, Demo, Init, Reach, Audit, command_of}
use Rattle.purecap.specs.Story.{stopped, Product, Printed, Saved, Differing, Stop, Story}
use Rattle.purecap.specs.Answer.{show_story, demo_story, init_story, reach_story, audit_story, command_story, answer_by, answer_of, answer_to}
use Rattle.purecap.specs.Run.{Stream, Disk, IsStill, IsWritten, IsGiven, IsGivenPart, EndsAs, HasRisen, Ends, end_status, Runs, Gave, IsHalf, Answers, target_of, Says}
use Rattle.purecap.specs.Answer as answer
use Rattle.purecap.proofs.Ways.{Way, Done, Unread, CutShort, Starved, Different, Refused, way_of}

nothing_appended : (old new : Option (List ℕ)) → new ≡ old → Appends old new []
nothing_appended None new e = tt
nothing_appended (Some xs) None e = cc
nothing_appended (Some xs) (Some ys) e = subst (λ (o : Option (List ℕ)). Appends (Some xs) o []) (sym e) (sym (append-nil xs))

nothing_written : (out : Stream) → IsStill out → IsWritten out []
nothing_written out still = record { appended = nothing_appended out.old out.new still.bytes; count = still.count }

nothing_in_front : (out : Stream) → IsStill out → AppendsFront out.old out.new []
nothing_in_front out still = ([], [], refl, nothing_appended out.old out.new still.bytes)

module _ (store : Store) (disk : Disk) (told : disk.old ≡ Some store) (out err : Stream) (kept : List TaggedMemory) (end : Result Unit Failure) (story : Story) where
  -- notes, and nothing behind them
  all_said : Says err (answer.note_lines story.notes) → Says err (answer.note_lines story.notes ++ [])
  all_said says = subst (λ (l : List (List ℕ)). Says err l) (sym (append-nil (answer.note_lines story.notes))) says

  gave_product : (product : Product) → end_status end ≡ 0 → IsGiven product disk out kept → Says err (answer.note_lines story.notes)
      → Gave (answer_by story.notes (Ok product)) store disk out err kept (end_status end)
  gave_product (Printed output) is given says =
      record { is_status = is; written = given.1; says = all_said says; files = given.0.files ∙ told; writes = given.0.count; memories = given.2 }
  gave_product (Saved name bytes memories) is given says = record {
    is_status = is;
    written = nothing_written out given.1;
    says = all_said says;
    files = (subst (λ (o : Option Store). IfSome o (λ s. (disk.new ≡ Some (with_file s name bytes)) × (disk.writing ≡ None))) told given.0.files).0;
    writes = given.0.count;
    memories = given.2;
  }
  gave_product (Differing path output) is given says = absurd given

  half_product : (product : Product) → end_status end ≡ 11 → IsGivenPart product disk out kept → Says err (answer.lines_before story.notes (target_of product) WriteFault)
      → IsHalf (answer_by story.notes (Ok product)) store disk out err kept (end_status end)
  half_product (Printed output) is given says = record {
    is_status = is;
    succeeds = inl refl;
    rose = inl given.1.rose;
    front = given.1.front;
    files = given.0.files ∙ told;
    writing = inl given.0.writing;
    path = codes "-";
    says = says;
    memories = given.2;
  }
  half_product (Saved name bytes memories) is given says =
      let files = subst (λ (o : Option Store). IfSome o (λ s. (disk.new ≡ Some s) × WritesFront disk.writing name bytes)) told given.0.files in
      record {
        is_status = is;
        succeeds = inl refl;
        rose = inr given.0.rose;
        front = nothing_in_front out given.1;
        files = files.0;
        writing = inr (name, bytes, refl, files.1);
        path = name;
        says = says;
        memories = given.2;
      }
  half_product (Differing path output) is given says = record {
    is_status = is;
    succeeds = inr refl;
    rose = inl given.1.rose;
    front = given.1.front;
    files = given.0.files ∙ told;
    writing = inl given.0.writing;
    path = codes "-";
    says = says;
    memories = given.2;
  }

  gave : Way story disk out err kept end → (HasRisen disk.reads → ⊥) → end_status end ≢ 12
      → Gave (answer_of story) store disk out err kept (end_status end) ⊎ IsHalf (answer_of story) store disk out err kept (end_status end)
  gave (Done e d) read memory =
      inl (subst (λ (given : Result Product Stop). Gave (answer_by story.notes given) store disk out err kept (end_status end)) (sym d.defined) (gave_product d.product (ap end_status e) d.given d.says))
  gave (Unread e u) read memory = absurd (read u.rose)
  gave (CutShort e c) read memory =
      inr (subst (λ (given : Result Product Stop). IsHalf (answer_by story.notes given) store disk out err kept (end_status end)) (sym c.defined) (half_product c.product (ap end_status e) c.given c.says))
  gave (Starved e s) read memory = absurd (memory (ap end_status e))
  gave (Different e d) read memory =
      inl (subst (λ (given : Result Product Stop). Gave (answer_by story.notes given) store disk out err kept (end_status end)) (sym d.defined)
      (record {
        is_status = ap end_status e;
        written = d.written;
        says = d.says;
        files = d.untouched.files ∙ told;
        writes = d.untouched.count;
        memories = d.none;
      }))
  gave (Refused failure e own r) read memory =
      inl (subst (λ (given : Result Product Stop). Gave (answer_by story.notes given) store disk out err kept (end_status end)) (sym r.defined)
      (record {
        is_status = ap end_status e;
        written = nothing_written out r.nothing.still;
        says = r.says;
        files = r.nothing.untouched.files ∙ told;
        writes = r.nothing.untouched.count;
        memories = r.nothing.none;
      }))

command_gave : (command : Result Command Failure) (store : Store) (disk : Disk) → disk.old ≡ Some store → (out err : Stream) (kept : List TaggedMemory) (end : Result Unit Failure)
    → Ends command disk out err kept end → (HasRisen disk.reads → ⊥) → end_status end ≢ 12
    → Gave (answer_of (command_story command store)) store disk out err kept (end_status end) ⊎ IsHalf (answer_of (command_story command store)) store disk out err kept (end_status end)
command_gave (Ok (Show image)) store disk told out err kept end ends =
    let is = subst (λ (o : Option Store). IfSome o (λ s. ends.file ≡ file_in s image)) told ends.is_file in
    let there = subst (λ (file : Option (List ℕ)). EndsAs (show_story image file) disk out err kept end) is ends.ends in
    gave store disk told out err kept end (show_story image (file_in store image)) (way_of _ disk out err kept end there)
command_gave (Ok (Load words)) store disk told out err kept end ends =
    let is = subst (λ (o : Option Store). IfSome o (λ s. ends.story ≡ answer.load_story words s)) told ends.is_story in
    let there = subst (λ (story : Story). EndsAs story disk out err kept end) is ends.ends in
    gave store disk told out err kept end (answer.load_story words store) (way_of _ disk out err kept end there)
command_gave (Ok (Link words)) store disk told out err kept end ends =
    let is = subst (λ (o : Option Store). IfSome o (λ s. ends.found ≡ map (found_in s) words.inputs)) told ends.are_found.files_are in
    let there = subst (λ (found : List Found). EndsAs (link_story words found) disk out err kept end) is ends.ends in
    gave store disk told out err kept end (link_story words (map (found_in store) words.inputs)) (way_of _ disk out err kept end there)
command_gave (Ok (Demo number)) store disk told out err kept end ends =
    gave store disk told out err kept end (demo_story number) (way_of _ disk out err kept end ends.ends)
command_gave (Ok (Init words)) store disk told out err kept end ends =
    let is = subst (λ (o : Option Store). IfSome o (λ s. ends.story ≡ init_story words s)) told ends.is_story in
    let there = subst (λ (story : Story). EndsAs story disk out err kept end) is ends.ends in
    gave store disk told out err kept end (init_story words store) (way_of _ disk out err kept end there)
command_gave (Ok (Reach image slot)) store disk told out err kept end ends =
    let is = subst (λ (o : Option Store). IfSome o (λ s. ends.file ≡ file_in s image)) told ends.is_file in
    let there = subst (λ (file : Option (List ℕ)). EndsAs (reach_story image slot file) disk out err kept end) is ends.ends in
    gave store disk told out err kept end (reach_story image slot (file_in store image)) (way_of _ disk out err kept end there)
command_gave (Ok (Audit image words)) store disk told out err kept end ends =
    let is = subst (λ (o : Option Store). IfSome o (λ s. (ends.file ≡ file_in s image) × (ends.story ≡ audit_story image words ends.file s))) told ends.is_story in
    let there = subst (λ (story : Story). EndsAs story disk out err kept end) (is.1 ∙ ap (λ (file : Option (List ℕ)). audit_story image words file store) is.0) ends.ends in
    gave store disk told out err kept end (audit_story image words (file_in store image) store) (way_of _ disk out err kept end there)
command_gave (Err failure) store disk told out err kept end ends =
    gave store disk told out err kept end (stopped [] failure) (way_of _ disk out err kept end ends.ends)

answered_by : (words : List (List ℕ)) (disk : Disk) (out err : Stream) (kept : List TaggedMemory) (end : Result Unit Failure) → Ends (command_of words) disk out err kept end
    → (told : Option Store) → disk.old ≡ told
    → IfSome told (λ store. (HasRisen disk.reads → ⊥) → end_status end ≢ 12
    → Gave (answer_to words store) store disk out err kept (end_status end) ⊎ IsHalf (answer_to words store) store disk out err kept (end_status end))
answered_by words disk out err kept end ends None is = tt
answered_by words disk out err kept end ends (Some store) is = command_gave (command_of words) store disk is out err kept end ends

pub answered : (words : List (List ℕ)) (disk : Disk) (out err : Stream) (kept : List TaggedMemory) (status : ℕ) → Runs words disk out err kept status → Answers words disk out err kept status
answered words disk out err kept status ran =
    subst (λ (s : ℕ). Answers words disk out err kept s) (sym ran.is_status) (answered_by words disk out err kept ran.end ran.ends disk.old refl)
