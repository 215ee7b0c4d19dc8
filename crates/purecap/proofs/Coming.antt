-- What a command comes to that loads a program, from what its steps give.
use Rattle.std.proofs.Common.{◌≡◌, ℕ, Bool, true, List, [], ◌∷◌, ◌++◌, map, Option, Some, None, option_map, IfSome, Result, Ok, Err, refl, sym, ap, subst, ◌∙◌, append-nil, arith}
use Rattle.cap_base.specs.Outside.{Store}
use Rattle.cap_mem.specs.Tagged.{TaggedMemory}
use Rattle.cap_scope.specs.Candidates.{hash_table}
use Rattle.cap_image.specs.Parts.{ImageParts}
use Rattle.cap_image.specs.Writing.{image_of, image_bytes}
use Rattle.cap_session.specs.declared.refusal.OpenCause.{OpenCause}
use Rattle.cap_session.specs.declared.refusal.OpenCause.TheVariants.{NoFile, Malformed, Unsupported, Unresolved, Inexact, Full, Limit, ReadFault, NoMemory}
use Rattle.cap_session.specs.declared.refusal.OpenRefusal.{OpenRefusal}
use Rattle.cap_session.specs.Loading.{Loaded, records_of}
use Rattle.cap_session.specs.State.{State}
use Rattle.cap_session.specs.Calls.{Call, Outcome}
use Rattle.cap_session.specs.Session.{SessionValue, IsSession, StandsFor}
use Rattle.cap_session.specs.Refused.{CauseCounted}
use Rattle.purecap.specs.declared.faults.Failure.{Failure}
use Rattle.purecap.specs.declared.faults.Failure.TheVariants as failures
use Rattle.purecap.specs.Faults.{failure_of, refusal_line}
use Rattle.purecap.specs.Story.{Product, Saved, Story}
use Rattle.cap_loaded.specs.Images.{state_image}
use Rattle.purecap.specs.Answer.{ended_by, story_by, saved, note_lines}
use Rattle.purecap.specs.Run.{Count, Stream, streamed, Disk, IsStill, IsKept, IsUntouched, IsEndOf, EndsAs, Says}
use Rattle.purecap.specs.Printing.{Told}
use Rattle.purecap.specs.Calling.{Tells, Leads, LeadsOn, EndsCalls, HasCalled, IsEnded, Finishes, Comes, with_notes}
use Rattle.purecap.proofs.Said.{says_last, says_same}
use Rattle.purecap.proofs.Shown.{nothing}
use Rattle.purecap.proofs.Ways.{is_decided, Kind, OfReading, OfWriting, OfMemory, OfAudit, Decided, kind_of, decided_ends}

-- no step behind the calls fails so
module _ (product : Product) (disk : Disk) (out err : Stream) (kept : List TaggedMemory) (so_far : Told) where
  undecided : (failure : Failure) → is_decided failure ≡ true → Finishes product disk out err kept so_far (Err failure) → ⊥
  undecided failures.Usage is finishes = finishes
  undecided failures.NoFile is finishes = finishes
  undecided (failures.Malformed check at) is finishes = finishes
  undecided (failures.Unsupported check at) is finishes = finishes
  undecided (failures.Unresolved name) is finishes = finishes
  undecided (failures.Inexact name base len) is finishes = finishes
  undecided (failures.Full asked) is finishes = finishes
  undecided (failures.Limit check) is finishes = finishes
  undecided failures.ReadFault is finishes = finishes
  undecided failures.WriteFault is finishes = cc
  undecided failures.NoMemory is finishes = cc
  undecided (failures.NoWord slot) is finishes = finishes
  undecided failures.Differs is finishes = cc

module _ (product : State → Product) (IsProduct : Product → Type 0) (products : (state : State) → IsProduct (product state)) where
  -- what a start and calls lead to is a product or a refusal of theirs
  pub end_is : (given : Result State OpenRefusal) → IsEndOf IsProduct (ended_by product given)
  end_is (Ok state) = products state
  end_is (Err refusal) = (refusal, refl)

  -- some story with these notes in front
  record SomeStory (outcome : Option Outcome) (notes : List OpenRefusal) : Type 0 where
    pub story : Story
    pub is_story : IfSome outcome (λ o. story ≡ story_by product o)
    pub is_end : IsEndOf IsProduct story.«end»
    pub later : List OpenRefusal
    pub front : story.notes ≡ notes ++ later

  some_story : (outcome : Option Outcome) (notes : List OpenRefusal) (refusal : OpenRefusal) → IfSome outcome (λ o. (later : List OpenRefusal) × (o.notes ≡ notes ++ later)) → SomeStory outcome notes
  some_story None notes refusal ends =
      record { story = story_by product (record { notes = notes; «end» = Err refusal }); is_story = tt; is_end = (refusal, refl); later = []; front = sym (append-nil notes) }
  some_story (Some o) notes refusal ends =
      record { story = story_by product o; is_story = refl; is_end = end_is o.«end»; later = ends.0; front = ends.1 }

  story_is : (outcome : Option Outcome) (notes : List OpenRefusal) (given : Result State OpenRefusal) → IfSome outcome (λ o. o ≡ record { notes = notes; «end» = given })
      → IfSome outcome (λ o. story_by product (record { notes = notes; «end» = given }) ≡ story_by product o)
  story_is None notes given is = tt
  story_is (Some o) notes given is = sym (ap (story_by product) is)

  module _ (outcome : Option Outcome) (disk : Disk) (out err : Stream) (notes : List OpenRefusal) (path : List ℕ) (untouched : IsUntouched disk) (still : IsStill out) where
    abbrev at_path : OpenCause → OpenRefusal
    at_path cause = record { path = path; cause = cause }

    comes_refused : (cause : OpenCause) → is_decided (failure_of cause) ≡ true → Says err (note_lines notes ++ refusal_line (at_path cause) ∷ [])
        → IfSome outcome (λ o. o ≡ record { notes = notes; «end» = Err (at_path cause) }) → IsKept disk.reads → Comes product IsProduct outcome disk out err [] (Err (failure_of cause))
    comes_refused cause decided says ends kept = record {
      story = story_by product (record { notes = notes; «end» = Err (at_path cause) });
      is_story = story_is outcome notes _ ends;
      is_end = (at_path cause, refl);
      ends = decided_ends _ disk out err [] (failure_of cause) decided
          (record { path = path; defined = refl; nothing = nothing disk out untouched still; says = says; reads_kept = kept });
    }

    comes_by : (cause : OpenCause) → Says err (note_lines notes ++ refusal_line (at_path cause) ∷ [])
        → IfSome outcome (EndsCalls notes (at_path cause) cause) → CauseCounted disk.reads.before disk.reads.now cause
        → Comes product IsProduct outcome disk out err [] (Err (failure_of cause))
    comes_by NoFile says ends counted = comes_refused NoFile refl says ends counted
    comes_by (Malformed check at) says ends counted = comes_refused (Malformed check at) refl says ends counted
    comes_by (Unsupported check at) says ends counted = comes_refused (Unsupported check at) refl says ends counted
    comes_by (Unresolved name) says ends counted = comes_refused (Unresolved name) refl says ends counted
    comes_by (Inexact name base len) says ends counted = comes_refused (Inexact name base len) refl says ends counted
    comes_by (Full asked room) says ends counted = comes_refused (Full asked room) refl says ends counted
    comes_by (Limit check) says ends counted = comes_refused (Limit check) refl says ends counted
    comes_by ReadFault says ends counted =
        let some = some_story outcome notes (at_path ReadFault) ends in
        record {
          story = some.story;
          is_story = some.is_story;
          is_end = some.is_end;
          ends = record { told = notes; later = some.later; notes = some.front; path = path; nothing = nothing disk out untouched still; says = says; rose = counted.1 };
        }
    comes_by NoMemory says ends counted =
        let some = some_story outcome notes (at_path NoMemory) ends in
        record {
          story = some.story;
          is_story = some.is_story;
          is_end = some.is_end;
          ends = record { told = notes; later = some.later; notes = some.front; nothing = nothing disk out untouched still; says = says; reads_later = counted };
        }

  -- the start or a call ended the run
  pub comes_ended : (outcome : Option Outcome) (disk : Disk) (out err : Stream) (failure : Failure) → IsEnded outcome disk.reads err failure → IsUntouched disk → IsStill out
      → Comes product IsProduct outcome disk out err [] (Err failure)
  comes_ended outcome disk out err failure ended untouched still =
      subst (λ (f : Failure). Comes product IsProduct outcome disk out err [] (Err f)) (sym ended.is_failure)
      (comes_by outcome disk out err ended.notes ended.refusal.path untouched still ended.refusal.cause ended.says ended.ends ended.counted)

  -- the story of a session whose calls are all made, and of which this is made
  abbrev session_story : Product → List OpenRefusal → Story
  session_story p notes = record { notes = notes; «end» = Ok p }

  story_led : (told : Option Store) (s : SessionValue) (p : Product) (notes : List OpenRefusal) (outcome : Option Outcome) → ((state : State) → StandsFor s state → p ≡ product state) → LeadsOn told s [] notes outcome
      → IfSome outcome (λ o. session_story p notes ≡ story_by product o)
  story_led None s p notes outcome is on =
      let none : outcome ≡ None = on.is ∙ ap (option_map (with_notes notes)) on.leads in
      subst (λ (o : Option Outcome). IfSome o (λ o. session_story p notes ≡ story_by product o)) (sym none) tt
  story_led (Some store) s p notes outcome is on =
      let state = on.leads.0 in
      let some : outcome ≡ Some (record { notes = notes ++ []; «end» = Ok state }) = on.is ∙ ap (option_map (with_notes notes)) on.leads.2 in
      subst (λ (o : Option Outcome). IfSome o (λ o. session_story p notes ≡ story_by product o)) (sym some)
      (ap (λ (q : Product). session_story q notes) (is state on.leads.1)
      ∙ ap (λ (n : List OpenRefusal). record { notes = n; «end» = ended_by product (Ok state) }) (sym (append-nil notes)))

  -- the calls were made, and the product given, or not
  module _ (p : Product) (disk : Disk) (out : Stream) (kept : List TaggedMemory) (e0 e1 e2 : Option (List ℕ)) (n0 n1 n2 : ℕ) (notes : List OpenRefusal) (next : Told) (tells : Tells (streamed e0 e1 n0 n1) (note_lines notes) next) where
    abbrev Ended : Result Unit Failure → Type 0
    Ended end = EndsAs (session_story p notes) disk out (streamed e0 e2 n0 n2) kept end

    abbrev Last : Result Unit Failure → Type 0
    Last end = Finishes p disk out (streamed e1 e2 n1 n2) kept next end

    ends_failed : (failure : Failure) → Last (Err failure) → Kind failure → Ended (Err failure)
    ends_failed failure finishes (OfReading e) = absurd (subst (λ (f : Failure). Last (Err f)) e finishes)
    ends_failed failure finishes (OfWriting e) =
        let cut = subst (λ (f : Failure). Last (Err f)) e finishes in
        subst (λ (f : Failure). Ended (Err f)) (sym e)
        (record { product = p; defined = refl; given = cut.0; says = says_last e0 e1 e2 n0 n1 n2 (note_lines notes) _ next cut.1.0 tells cut.1.1; reads_kept = cut.2 })
    ends_failed failure finishes (OfMemory e) =
        let starved = subst (λ (f : Failure). Last (Err f)) e finishes in
        subst (λ (f : Failure). Ended (Err f)) (sym e)
        (record {
          told = notes;
          later = [];
          notes = sym (append-nil notes);
          nothing = starved.0;
          says = says_last e0 e1 e2 n0 n1 n2 (note_lines notes) _ next starved.1.0 tells starved.1.1;
          reads_later = let kept = starved.2 in omega (arith, kept);
        })
    ends_failed failure finishes (OfAudit e) =
        let differs = subst (λ (f : Failure). Last (Err f)) e finishes in
        subst (λ (f : Failure). Ended (Err f)) (sym e)
        (record {
          path = differs.path;
          output = differs.output;
          defined = ap (λ (q : Product). Ok q) differs.is;
          untouched = differs.untouched;
          written = differs.written;
          none = differs.none;
          says = says_last e0 e1 e2 n0 n1 n2 (note_lines notes) _ next differs.told.0 tells differs.told.1;
          reads_kept = differs.reads_kept;
        })
    ends_failed failure finishes (Decided is) = absurd (undecided p disk out (streamed e1 e2 n1 n2) kept next failure is finishes)

    ends_finished : (end : Result Unit Failure) → Last end → Ended end
    ends_finished (Ok _) finishes =
        record { product = p; defined = refl; given = finishes.0; says = says_same e0 e1 e2 n0 n1 n2 (note_lines notes) next tells finishes.1; reads_kept = finishes.2 }
    ends_finished (Err failure) finishes = ends_failed failure finishes (kind_of failure)

  pub comes_finished : (told : Option Store) (s old : SessionValue) (calls : List Call) (outcome : Option Outcome) (called : Count) (p : Product) (disk : Disk) (out : Stream) (kept : List TaggedMemory) (e0 e1 e2 : Option (List ℕ)) (n0 n1 n2 : ℕ) (next : Told) (end : Result Unit Failure)
      → HasCalled told old s calls [] called (streamed e0 e1 n0 n1) next → ((state : State) → StandsFor s state → p ≡ product state) → IsProduct p → Leads told old calls outcome
      → Finishes p disk out (streamed e1 e2 n1 n2) kept next end → Comes product IsProduct outcome disk out (streamed e0 e2 n0 n2) kept end
  comes_finished told s old calls outcome called p disk out kept e0 e1 e2 n0 n1 n2 next end has is is_product leads finishes = record {
    story = session_story p has.notes;
    is_story = story_led told s p has.notes outcome is (has.leads outcome leads);
    is_end = is_product;
    ends = ends_finished p disk out kept e0 e1 e2 n0 n1 n2 has.notes next has.says end finishes;
  }

-- ---- what is made of a session is made of the state for which it stands

symbols_of : (objects : List Loaded) → map (λ o. (hash_table o).names) (map records_of objects) ≡ map (λ o. (hash_table (records_of o)).names) objects
symbols_of [] = refl
symbols_of (o ∷ objects) = ap (λ (rest : List (List (List ℕ × Bool))). (hash_table (records_of o)).names ∷ rest) (symbols_of objects)

-- the image
pub image_is : (s : SessionValue) (state : State) → IsSession s → StandsFor s state → image_of s.names s.symbols s.memories ≡ state_image state
image_is s state is stands =
    let symbols : s.symbols ≡ map (λ o. (hash_table (records_of o)).names) state.objects =
    is.roster.symbols_are ∙ ap (map (λ o. (hash_table o).names)) stands.objects_are ∙ symbols_of state.objects in
    ap (λ (names : List (List ℕ × Bool)). image_of names s.symbols s.memories) stands.names_are
    ∙ ap (λ (sy : List (List (List ℕ × Bool))). image_of (map (λ (o : Loaded). (o.name, true)) state.objects) sy s.memories) symbols
    ∙ ap (λ (ms : List TaggedMemory). image_of (map (λ (o : Loaded). (o.name, true)) state.objects) (map (λ o. (hash_table (records_of o)).names) state.objects) ms) stands.memories_are

pub session_saved : (image : List ℕ) (s : SessionValue) → IsSession s → (state : State) → StandsFor s state
    → Saved image (image_bytes (image_of s.names s.symbols s.memories)) s.memories ≡ saved image state
session_saved image s is state stands =
    ap (λ (i : ImageParts). Saved image (image_bytes i) s.memories) (image_is s state is stands)
    ∙ ap (λ (ms : List TaggedMemory). Saved image (image_bytes (state_image state)) ms) stands.memories_are
