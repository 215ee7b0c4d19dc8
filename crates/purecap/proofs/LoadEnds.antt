-- How the commands end that load a program, from what these come to.
use Rattle.std.proofs.Common.{◌≡◌, ℕ, List, [], ◌∷◌, Option, Some, None, IfSome, Result, Ok, Err, refl, sym, ap, subst, ◌∙◌, arith}
use Rattle.cap_base.specs.Outside.{Store, file_in}
use Rattle.cap_mem.specs.Tagged.{TaggedMemory}
use Rattle.cap_image.specs.Parts.{ImageParts}
use Rattle.cap_session.specs.declared.refusal.OpenCause.TheVariants as causes
use Rattle.cap_session.specs.State.{State}
use Rattle.purecap.specs.declared.faults.Failure.{Failure}
use Rattle.purecap.specs.declared.faults.Failure.TheVariants.{NoFile}
use Rattle.purecap.specs.Faults.{line_of}
use Rattle.purecap.specs.ProgramWords.{ProgramWords}
use Rattle.purecap.specs.Words.{LoadWords}
use Rattle.purecap.specs.Images.{image_in}
use Rattle.purecap.specs.Story.{Product, Story, stopped}
use Rattle.cap_loaded.specs.Images.{state_image}
use Rattle.purecap.specs.Answer.{audit_by, audit_story, called, compared, program_outcome, saved, story_by}
use Rattle.purecap.specs.Run.{Stream, Disk, IsStill, IsUntouched, EndsAs, Says, IsImageFile, IsCallList, IsComparison, IsAudited, Loads, Inits, Audits}
use Rattle.purecap.specs.Printing.{Yields, YieldsOf}
use Rattle.purecap.specs.Calling.{outcome_in, Comes}
use Rattle.purecap.proofs.Ended.{audited_is}
use Rattle.purecap.proofs.Shown.{nothing, yields_decided}
use Rattle.purecap.proofs.Ways.{Kind, OfReading, OfWriting, OfMemory, OfAudit, Decided, kind_of, decided_ends}

-- where the store tells its files, the outcome is theirs
story_told : (product : State → Product) (told : Option Store) (words : ProgramWords) (story : Story) → IfSome (outcome_in told words) (λ o. story ≡ story_by product o)
    → IfSome told (λ store. story ≡ story_by product (program_outcome words store))
story_told product None words story is = tt
story_told product (Some store) words story is = is

pub loads_of : (words : LoadWords) (disk : Disk) (out err : Stream) (kept : List TaggedMemory) (end : Result Unit Failure)
    → Comes (saved words.image) (IsImageFile words.image) (outcome_in disk.old words.program) disk out err kept end → Loads words disk out err kept end
loads_of words disk out err kept end comes = record {
  story = comes.story;
  is_story = story_told (saved words.image) disk.old words.program comes.story comes.is_story;
  loaded = comes.is_end;
  ends = comes.ends;
}

pub inits_of : (words : ProgramWords) (disk : Disk) (out err : Stream) (kept : List TaggedMemory) (end : Result Unit Failure)
    → Comes called IsCallList (outcome_in disk.old words) disk out err kept end → Inits words disk out err kept end
inits_of words disk out err kept end comes =
    record { story = comes.story; is_story = story_told called disk.old words comes.story comes.is_story; called = comes.is_end; ends = comes.ends }

module _ (image : List ℕ) (words : ProgramWords) (disk : Disk) (out err : Stream) where
  abbrev told_by : Option (List ℕ) → Story → Type 0
  told_by file story = IfSome disk.old (λ store. (file ≡ file_in store image) × (story ≡ audit_story image words file store))

  -- what is told of a file and of a story
  joined : (told : Option Store) (file : Option (List ℕ)) (given : ImageParts) (story : Story) → image_in file ≡ Ok given → IfSome told (λ store. file ≡ file_in store image)
      → IfSome (outcome_in told words) (λ o. story ≡ story_by (λ state. compared image given (state_image state)) o)
      → IfSome told (λ store. (file ≡ file_in store image) × (story ≡ audit_story image words file store))
  joined None file given story is file_is story_is = tt
  joined (Some store) file given story is file_is story_is =
      (file_is, story_is ∙ ap (λ (r : Result ImageParts Failure). audit_by image r (program_outcome words store)) (sym is))

  -- of an image that was read
  pub audits_of : (given : ImageParts) (end : Result Unit Failure) (file : Option (List ℕ)) → image_in file ≡ Ok given → IfSome disk.old (λ store. file ≡ file_in store image)
      → Comes (λ state. compared image given (state_image state)) (IsComparison image given) (outcome_in disk.old words) disk out err [] end
      → Audits image words disk out err [] end
  audits_of given end file is file_is comes = record {
    file = file;
    story = comes.story;
    is_story = joined disk.old file given comes.story is file_is comes.is_story;
    audited = subst (λ (r : Result ImageParts Failure). IsAudited image r comes.story) (sym is) comes.is_end;
    ends = comes.ends;
  }

  -- where there is no image, the story of a store that tells its files
  unread_story : (told : Option Store) (file : Option (List ℕ)) → IfSome told (λ store. file ≡ file_in store image)
      → (story : Story) × IfSome told (λ store. (file ≡ file_in store image) × (story ≡ audit_story image words file store)) × IsAudited image (image_in file) story
  unread_story None file file_is = some (image_in file)
    where
      some : (given : Result ImageParts Failure) → (story : Story) × Unit {0} × IsAudited image given story
      some (Ok given) = (stopped image NoFile, tt, (record { path = image; cause = causes.NoFile }, refl))
      some (Err failure) = (stopped image failure, tt, refl)
  unread_story (Some store) file file_is =
      (audit_story image words file store, (file_is, refl), audited_is image (image_in file) (program_outcome words store))

  -- a read failed, or memory ran out
  unread_ends : (failure : Failure) → ((story : Story) → EndsAs story disk out err [] (Err failure)) → (file : Option (List ℕ)) → IfSome disk.old (λ store. file ≡ file_in store image)
      → Audits image words disk out err [] (Err failure)
  unread_ends failure ends file file_is =
      let some = unread_story disk.old file file_is in
      record { file = file; story = some.0; is_story = some.1; audited = some.2; ends = ends some.0 }

  refused_story : (told : Option Store) (file : Option (List ℕ)) (failure : Failure) → image_in file ≡ Err failure → IfSome told (λ store. file ≡ file_in store image)
      → IfSome told (λ store. (file ≡ file_in store image) × (stopped image failure ≡ audit_story image words file store))
  refused_story None file failure is file_is = tt
  refused_story (Some store) file failure is file_is = (file_is, ap (λ (r : Result ImageParts Failure). audit_by image r (program_outcome words store)) (sym is))

  module _ {X : Type 0} (view : X → ImageParts) (failure : Failure) (of : YieldsOf view image_in disk.old image disk.reads (Err failure)) (untouched : IsUntouched disk) (still : IsStill out) (says : Says err (line_of image failure ∷ [])) where
    audits_by : Kind failure → Audits image words disk out err [] (Err failure)
    audits_by (OfReading e) =
        unread_ends failure (λ story. subst (λ (f : Failure). EndsAs story disk out err [] (Err f)) (sym e)
        (record {
          told = [];
          later = story.notes;
          notes = refl;
          path = image;
          nothing = nothing disk out untouched still;
          says = subst (λ (f : Failure). Says err (line_of image f ∷ [])) e says;
          rose = subst (λ (f : Failure). Yields view (image_in of.file) disk.reads (Err f)) e of.yields;
        })) of.file of.is_file
    audits_by (OfWriting e) = absurd (subst (λ (f : Failure). Yields view (image_in of.file) disk.reads (Err f)) e of.yields)
    audits_by (OfMemory e) =
        let kept = subst (λ (f : Failure). Yields view (image_in of.file) disk.reads (Err f)) e of.yields in
        unread_ends failure (λ story. subst (λ (f : Failure). EndsAs story disk out err [] (Err f)) (sym e)
        (record {
          told = [];
          later = story.notes;
          notes = refl;
          nothing = nothing disk out untouched still;
          says = subst (λ (f : Failure). Says err (line_of image f ∷ [])) e says;
          reads_later = omega (arith, kept);
        })) of.file of.is_file
    audits_by (OfAudit e) = absurd (subst (λ (f : Failure). Yields view (image_in of.file) disk.reads (Err f)) e of.yields)
    audits_by (Decided is) =
        let decided = yields_decided view (image_in of.file) disk.reads failure is of.yields in
        record {
          file = of.file;
          story = stopped image failure;
          is_story = refused_story disk.old of.file failure decided.0 of.is_file;
          audited = subst (λ (r : Result ImageParts Failure). IsAudited image r (stopped image failure)) (sym decided.0) refl;
          ends = decided_ends (stopped image failure) disk out err [] failure is
              (record { path = image; defined = refl; nothing = nothing disk out untouched still; says = says; reads_kept = decided.1 });
        }

    -- there is no image, for this failure
    pub audits_unread : Audits image words disk out err [] (Err failure)
    audits_unread = audits_by (kind_of failure)
