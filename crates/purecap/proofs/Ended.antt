-- How a run whose words are no command ends, and one for which memory ran out before they were read.
use Rattle.std.proofs.Common.{true, false, ap, ◌∙◌, ◌≡◌, ℕ, List, [], ◌∷◌, Option, Some, None, IfSome, Result, Ok, Err, refl, sym, subst, inl, inr, arith}
use Rattle.cap_base.specs.Outside.{Store, file_in}
use Rattle.cap_mem.specs.Tagged.{TaggedMemory}
use Rattle.cap_image.specs.Parts.{ImageParts}
use Rattle.cap_session.specs.declared.refusal.OpenCause.TheVariants as causes
use Rattle.cap_session.specs.Calls.{Outcome}
use Rattle.cap_session.specs.State.{State}
use Rattle.purecap.specs.declared.faults.Failure.{Failure}
use Rattle.purecap.specs.declared.faults.Failure.TheVariants.{Usage, NoFile, Malformed, Unsupported, Unresolved, Inexact, Full, Limit, ReadFault, WriteFault, NoMemory, NoWord, Differs}
use Rattle.purecap.specs.Faults.{line_of}
use Rattle.purecap.specs.WordRules.{FailsAs}
use Rattle.purecap.specs.Linking.{link_story}
use Rattle.purecap.specs.ProgramWords.{ProgramWords}
use Rattle.purecap.specs.Words.{Command, Show, Load, Link, Demo, Init, Reach, Audit}
use Rattle.purecap.specs.Images.{image_in}
use Rattle.purecap.specs.Story.{Product, Story, stopped}
use Rattle.cap_loaded.specs.Images.{state_image}
use Rattle.purecap.specs.Answer.{show_story, demo_story, reach_story, audit_story, audit_by, story_by, program_outcome, saved, called, compared}
use Rattle.purecap.specs.Run.{Stream, Disk, IsKept, IsNothing, IsStarved, EndsAs, Says, IsEndOf, IsImageFile, IsCallList, IsComparison, IsAudited, Ends, IsOfWords}
use Rattle.purecap.proofs.Ways.{is_of_words, or_fails}
use Rattle.purecap.proofs.Coming.{end_is}
use Rattle.purecap.proofs.LinkSteps.{some_found}
use Rattle.purecap.proofs.Shown.{some_file}

not_of_words : (command : Result Command Failure) (failure : Failure) → command ≡ Err failure → or_fails is_of_words command ≡ true → is_of_words failure ≡ false → ⊥
not_of_words command failure is words other = let e = sym words ∙ ap (or_fails is_of_words) is ∙ other in cc

-- some story of a command that loads a program
record SomeStory (product : State → Product) (IsProduct : Product → Type 0) (told : Option Store) (words : ProgramWords) : Type 0 where
  pub story : Story
  pub is_story : IfSome told (λ store. story ≡ story_by product (program_outcome words store))
  pub is_end : IsEndOf IsProduct story.«end»

some_story : (product : State → Product) (IsProduct : Product → Type 0) → ((state : State) → IsProduct (product state)) → (told : Option Store) (words : ProgramWords) → SomeStory product IsProduct told words
some_story product IsProduct products None words = record {
  story = stopped [] NoFile;
  is_story = tt;
  is_end = (record { path = []; cause = causes.NoFile }, refl);
}
some_story product IsProduct products (Some store) words =
    record { story = story_by product (program_outcome words store); is_story = refl; is_end = end_is product IsProduct products (program_outcome words store).«end» }

-- each product of a command is of its kind
pub saved_is : (image : List ℕ) (state : State) → IsImageFile image (saved image state)
saved_is image state = (refl, (_, _, refl))

pub called_is : (state : State) → IsCallList (called state)
called_is state = (_, (_, refl))

pub compared_is : (image : List ℕ) (given : ImageParts) (state : State) → IsComparison image given (compared image given (state_image state))
compared_is image given state = (state_image state, refl)

-- some story of `audit`
record SomeAudit (image : List ℕ) (told : Option Store) (words : ProgramWords) : Type 0 where
  pub file : Option (List ℕ)
  pub story : Story
  pub is_story : IfSome told (λ store. (file ≡ file_in store image) × (story ≡ audit_story image words file store))
  pub audited : IsAudited image (image_in file) story

pub audited_is : (image : List ℕ) (given : Result ImageParts Failure) (outcome : Outcome) → IsAudited image given (audit_by image given outcome)
audited_is image (Ok given) outcome = end_is (λ state. compared image given (state_image state)) (IsComparison image given) (compared_is image given) outcome.«end»
audited_is image (Err failure) outcome = refl

some_audit : (image : List ℕ) (told : Option Store) (words : ProgramWords) → SomeAudit image told words
some_audit image None words = record { file = None; story = stopped image NoFile; is_story = tt; audited = refl }
some_audit image (Some store) words = record {
  file = file_in store image;
  story = audit_story image words (file_in store image) store;
  is_story = (refl, refl);
  audited = audited_is image (image_in (file_in store image)) (program_outcome words store);
}

module _ (disk : Disk) (out err : Stream) (kept : List TaggedMemory) (nothing : IsNothing disk out kept) (reads : IsKept disk.reads) where
  starved : (story : Story) → Says err (line_of [] NoMemory ∷ []) → IsStarved story disk out err kept
  starved story says = record { told = []; later = story.notes; notes = refl; nothing = nothing; says = says; reads_later = omega (arith, reads) }

  -- memory ran out before the words were read
  starves : (command : Result Command Failure) → Says err (line_of [] NoMemory ∷ []) → Ends command disk out err kept (Err NoMemory)
  starves (Ok (Show image)) says =
      let file = some_file disk.old image in
      record { file = file.0; is_file = file.1; ends = starved (show_story image file.0) says; calm = λ e. reads }
  starves (Ok (Load words)) says =
      let some = some_story (saved words.image) (IsImageFile words.image) (saved_is words.image) disk.old words.program in
      record { story = some.story; is_story = some.is_story; loaded = some.is_end; ends = starved some.story says }
  starves (Ok (Link words)) says =
      let some = some_found disk.old words.inputs in
      record { found = some.0; are_found = some.1; ends = starved (link_story words some.0) says; calm = λ e. reads }
  starves (Ok (Demo number)) says = record { ends = starved (demo_story number) says; reads_kept = reads }
  starves (Ok (Init words)) says =
      let some = some_story called IsCallList called_is disk.old words in
      record { story = some.story; is_story = some.is_story; called = some.is_end; ends = starved some.story says }
  starves (Ok (Reach image slot)) says =
      let file = some_file disk.old image in
      record { file = file.0; is_file = file.1; ends = starved (reach_story image slot file.0) says; calm = λ e. reads }
  starves (Ok (Audit image words)) says =
      let some = some_audit image disk.old words in
      record { file = some.file; story = some.story; is_story = some.is_story; audited = some.audited; ends = starved some.story says }
  starves (Err failure) says = record { is_end = inr refl; ends = starved (stopped [] failure) says; calm = λ e. reads }

  -- the words fail
  fails : (command : Result Command Failure) (failure : Failure) → command ≡ Err failure → IsOfWords failure → EndsAs (stopped [] failure) disk out err kept (Err failure)
      → Ends command disk out err kept (Err failure)
  fails command failure is words ends =
      subst (λ (c : Result Command Failure). Ends c disk out err kept (Err failure)) (sym is) (record { is_end = inl (refl, words); ends = ends; calm = λ e. reads })

  pub fails_of : (command : Result Command Failure) (failure : Failure) → FailsAs failure command → or_fails is_of_words command ≡ true → Says err (line_of [] failure ∷ []) → Ends command disk out err kept (Err failure)
  fails_of command Usage is words says = fails command Usage is tt (record { path = []; defined = refl; nothing = nothing; says = says; reads_kept = reads })
  fails_of command (Limit check) is words says = fails command (Limit check) is tt (record { path = []; defined = refl; nothing = nothing; says = says; reads_kept = reads })
  fails_of command NoMemory is words says = starves command says
  fails_of command NoFile is words says = absurd (not_of_words command NoFile is words refl)
  fails_of command (Malformed check at) is words says = absurd (not_of_words command (Malformed check at) is words refl)
  fails_of command (Unsupported check at) is words says = absurd (not_of_words command (Unsupported check at) is words refl)
  fails_of command (Unresolved name) is words says = absurd (not_of_words command (Unresolved name) is words refl)
  fails_of command (Inexact name base len) is words says = absurd (not_of_words command (Inexact name base len) is words refl)
  fails_of command (Full asked) is words says = absurd (not_of_words command (Full asked) is words refl)
  fails_of command ReadFault is words says = absurd (not_of_words command ReadFault is words refl)
  fails_of command WriteFault is words says = absurd (not_of_words command WriteFault is words refl)
  fails_of command (NoWord slot) is words says = absurd (not_of_words command (NoWord slot) is words refl)
  fails_of command Differs is words says = absurd (not_of_words command Differs is words refl)
