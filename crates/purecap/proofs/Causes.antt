-- The causes of the answers of a run.
use Rattle.std.proofs.Common.{◌≡◌, ◌≢◌, ◌<◌, ◌⊎◌, ℕ, Bool, true, false, cond, List, [], ◌∷◌, Option, Result, Ok, Err, refl, sym, ap, subst, ◌∙◌, inl, inr, ⊎_elim, arith}
use Rattle.cap_audit.specs.Findings.{findings}
use Rattle.cap_audit.specs.declared.finding.Finding.{Finding}
use Rattle.cap_mem.specs.Tagged.{TaggedMemory}
use Rattle.cap_image.specs.Granules.{is_tagged_at}
use Rattle.cap_image.specs.Parts.{ImageParts}
use Rattle.cap_image.specs.Report.{report_of}
use Rattle.cap_session.specs.declared.refusal.OpenCause.{OpenCause}
use Rattle.cap_session.specs.declared.refusal.OpenCause.TheVariants as causes
use Rattle.purecap.specs.declared.faults.Failure.{Failure}
use Rattle.purecap.specs.declared.faults.Failure.TheVariants.{Usage, NoFile, Malformed, Unsupported, Unresolved, Inexact, Full, Limit, ReadFault, WriteFault, NoMemory, NoWord, Differs}
use Rattle.purecap.specs.Faults.{status_of, failure_of}
use Rattle.purecap.specs.Linking.{link_end, link_story}
use Rattle.purecap.specs.ProgramWords.{ProgramWords}
use Rattle.purecap.specs.Words.{Command, Show, Load, Link, Demo, Init, Reach, Audit, command_of}
use Rattle.purecap.specs.Images.{image_in, shown, reached, reached_in}
use Rattle.purecap.specs.Story.{Product, Printed, Saved, Differing, Stop, stop_at, Story, stopped}
use Rattle.purecap.specs.Answer.{compared_by, printed, show_story, demo_story, demo_text, reach_story, note_lines}
use Rattle.purecap.specs.Run.{Stream, Disk, IsStill, IsKept, HasRisen, IsUntouched, IsNothing, IsGiven, IsGivenPart, IsCalm, IsEndOf, IsImageFile, IsCallList, IsComparison, IsAudited, IsOfWords, Says, EndsAs, Ends, end_status, Runs, output_count, IsPlain, IsAside, IsReach, IsAudit, HasCauses}
use Rattle.purecap.proofs.DemoEnds.{demo_fails, demo_product}
use Rattle.purecap.proofs.ImageFails.{IsOfNoFile, fails_by, image_fails, made_fails}
use Rattle.purecap.proofs.LinkEnds.{IsLinkEnd, link_end_is}
use Rattle.purecap.proofs.Shown.{no_notes}
use Rattle.purecap.proofs.Ways.{of_no_file, IsRefusal, Way, Done, Unread, CutShort, Starved, Different, Refused, way_of, refusal_2, status_usage}

no_file_fails : IsOfNoFile of_no_file
no_file_fails = record { no_file = refl; malformed = λ check at. refl; unsupported = λ check at. refl; limit = λ check. refl }

shown_fails : (file : Option (List ℕ)) → fails_by of_no_file (shown file) ≡ false
shown_fails file = made_fails of_no_file no_file_fails (λ image. Ok (report_of image)) (λ image. refl) (image_in file) (image_fails of_no_file no_file_fails file)

-- `reach` fails by none that the words alone give, but for want of a tagged word
abbrev is_usage : Failure → Bool
is_usage Usage = true
is_usage failure = false

none_usage : IsOfNoFile is_usage
none_usage = record { no_file = refl; malformed = λ check at. refl; unsupported = λ check at. refl; limit = λ check. refl }

reached_fails : (slot : ℕ) (file : Option (List ℕ)) → fails_by is_usage (reached slot file) ≡ false
reached_fails slot file = made_fails is_usage none_usage (reached_in slot) by_slot (image_in file) (image_fails is_usage none_usage file)
  where
    by_tag : (tagged : Bool) (text : List ℕ) → fails_by is_usage (cond tagged (Ok text) (Err (NoWord slot))) ≡ false
    by_tag true text = refl
    by_tag false text = refl

    by_slot : (image : ImageParts) → fails_by is_usage (reached_in slot image) ≡ false
    by_slot image = by_tag (is_tagged_at image slot) _

not_usage : (image : List ℕ) (answer : Result (List ℕ) Failure) (path : List ℕ) → fails_by is_usage answer ≡ false → (printed image answer).«end» ≡ Err (stop_at path Usage) → ⊥
not_usage image (Ok text) path fails is = cc
not_usage image (Err failure) path fails is =
    let same : failure ≡ Usage = ap failure_in is in let e = sym fails ∙ ap is_usage same in cc
  where
    failure_in : Result Product Stop → Failure
    failure_in (Ok product) = NoFile
    failure_in (Err stop) = stop.failure

cause_fails : (cause : OpenCause) → of_no_file (failure_of cause) ≡ false
cause_fails causes.NoFile = refl
cause_fails (causes.Malformed check at) = refl
cause_fails (causes.Unsupported check at) = refl
cause_fails (causes.Unresolved name) = refl
cause_fails (causes.Inexact name base len) = refl
cause_fails (causes.Full asked left) = refl
cause_fails (causes.Limit check) = refl
cause_fails causes.ReadFault = refl
cause_fails causes.NoMemory = refl

-- how an end fails
abbrev end_fails : Result Product Stop → Bool
end_fails (Ok product) = false
end_fails (Err stop) = of_no_file stop.failure

printed_fails : (image : List ℕ) (answer : Result (List ℕ) Failure) → fails_by of_no_file answer ≡ false → end_fails (printed image answer).«end» ≡ false
printed_fails image (Ok report) fails = refl
printed_fails image (Err failure) fails = fails

loaded_fails : (IsProduct : Product → Type 0) (given : Result Product Stop) → IsEndOf IsProduct given → end_fails given ≡ false
loaded_fails IsProduct (Ok product) is = refl
loaded_fails IsProduct (Err stop) is = ap (λ (s : Stop). of_no_file s.failure) is.1 ∙ cause_fails is.0.cause

audited_fails : (image : List ℕ) (given : Result ImageParts Failure) (story : Story) → fails_by of_no_file given ≡ false → IsAudited image given story → end_fails story.«end» ≡ false
audited_fails image (Ok given) story fails is = loaded_fails _ story.«end» is
audited_fails image (Err failure) story fails is = ap (λ (s : Story). end_fails s.«end») is ∙ fails

abbrev IsFile : Product → Type 0
IsFile (Printed output) = ⊥
IsFile (Saved name bytes memories) = Unit {0}
IsFile (Differing path output) = ⊥

-- it is a text
abbrev IsText : Product → Type 0
IsText (Printed output) = Unit {0}
IsText (Saved name bytes memories) = ⊥
IsText (Differing path output) = ⊥

-- a product of a command: `load` and `link` alone write a file, and `audit` alone says how an image differs
abbrev IsOf : Result Command Failure → Product → Type 0
IsOf (Ok (Load words)) product = IsFile product
IsOf (Ok (Link words)) product = IsFile product
IsOf (Ok (Audit image words)) (Saved name bytes memories) = ⊥
IsOf (Ok (Audit image words)) (Printed output) = Unit {0}
IsOf (Ok (Audit image words)) (Differing path output) = Unit {0}
IsOf command product = IsText product

-- a run ends in a way of its command, whose words alone make it usage
pub record Faces (command : Result Command Failure) (disk : Disk) (out err : Stream) (kept : List TaggedMemory) (end : Result Unit Failure) : Type 0 where
  pub story : Story
  pub way : Way story disk out err kept end
  pub by_words : (path : List ℕ) → story.«end» ≡ Err (stop_at path Usage) → command ≡ Err Usage
  pub products : (product : Product) → story.«end» ≡ Ok product → IsOf command product

not_defined : (given : Result Product Stop) (failure : Failure) (path : List ℕ) → end_fails given ≡ false → of_no_file failure ≡ true → given ≡ Err (stop_at path failure) → ⊥
not_defined given failure path fails own is = let e = sym fails ∙ ap end_fails is ∙ own in cc

printed_product : (image : List ℕ) (answer : Result (List ℕ) Failure) (product : Product) → (printed image answer).«end» ≡ Ok product → IsText product
printed_product image (Ok text) (Printed output) is = tt
printed_product image (Ok text) (Saved name bytes memories) is = cc
printed_product image (Ok text) (Differing path output) is = cc
printed_product image (Err failure) product is = cc

link_fails : (given : Result Product Stop) → IsLinkEnd given → end_fails given ≡ false
link_fails (Ok product) is = refl
link_fails (Err stop) is = is

link_product : (product : Product) → IsLinkEnd (Ok product) → IsFile product
link_product (Printed output) is = is
link_product (Saved name bytes memories) is = tt
link_product (Differing path output) is = is

loaded_product : (image : List ℕ) (product : Product) → IsImageFile image product → IsFile product
loaded_product image (Printed output) is = is
loaded_product image (Saved name bytes memories) is = tt
loaded_product image (Differing path output) is = is

called_product : (product : Product) → IsCallList product → IsText product
called_product (Printed output) is = tt
called_product (Saved name bytes memories) is = is
called_product (Differing path output) is = is

compared_product : (image : List ℕ) (words : ProgramWords) (found : List Finding) → IsOf (Ok (Audit image words)) (compared_by image found)
compared_product image words [] = tt
compared_product image words (finding ∷ others) = tt

audited_product : (image : List ℕ) (words : ProgramWords) (given : Result ImageParts Failure) (story : Story) (product : Product) → IsAudited image given story → story.«end» ≡ Ok product
    → IsOf (Ok (Audit image words)) product
audited_product image words (Ok given) story product audited is =
    let compared = subst (IsEndOf (IsComparison image given)) is audited in
    subst (IsOf (Ok (Audit image words))) (sym compared.1) (compared_product image words (findings given compared.0))
audited_product image words (Err failure) story product audited is = let e = ap (λ (s : Story). s.«end») (sym audited) ∙ is in cc

-- `demo` fails by none that the words alone give, and prints
demo_ends : (number : ℕ) (given : Result Product Stop) → (demo_story number).«end» ≡ given → end_fails given ≡ false
demo_ends number (Ok product) is = refl
demo_ends number (Err stop) is = demo_fails number stop is

demo_prints : (number : ℕ) (product : Product) → (demo_story number).«end» ≡ Ok product → IsText product
demo_prints number product is = let text = demo_product (demo_text number) product is in subst IsText (sym text.1) tt

same_failure : (f failure : Failure) (path : List ℕ) → stop_at [] f ≡ stop_at path failure → f ≡ failure
same_failure f failure path is = ap (λ (s : Stop). s.failure) is

abbrev stop_or : Stop → Result Product Stop → Stop
stop_or stop (Ok product) = stop
stop_or stop (Err other) = other

faces : (command : Result Command Failure) (disk : Disk) (out err : Stream) (kept : List TaggedMemory) (end : Result Unit Failure) → Ends command disk out err kept end → Faces command disk out err kept end
faces (Ok (Show image)) disk out err kept end ends = record {
  story = show_story image ends.file;
  way = way_of (show_story image ends.file) disk out err kept end ends.ends;
  by_words = λ path is. absurd (not_defined _ Usage path (printed_fails image (shown ends.file) (shown_fails ends.file)) refl is);
  products = printed_product image (shown ends.file);
}
faces (Ok (Reach image slot)) disk out err kept end ends = record {
  story = reach_story image slot ends.file;
  way = way_of (reach_story image slot ends.file) disk out err kept end ends.ends;
  by_words = λ path is. absurd (not_usage image (reached slot ends.file) path (reached_fails slot ends.file) is);
  products = printed_product image (reached slot ends.file);
}
faces (Ok (Init words)) disk out err kept end ends = record {
  story = ends.story;
  way = way_of ends.story disk out err kept end ends.ends;
  by_words = λ path is. absurd (not_defined ends.story.«end» Usage path (loaded_fails _ ends.story.«end» ends.called) refl is);
  products = λ product is. called_product product (subst (IsEndOf IsCallList) is ends.called);
}
faces (Ok (Audit image words)) disk out err kept end ends = record {
  story = ends.story;
  way = way_of ends.story disk out err kept end ends.ends;
  by_words = λ path is. absurd (not_defined ends.story.«end» Usage path
      (audited_fails image (image_in ends.file) ends.story (image_fails of_no_file no_file_fails ends.file) ends.audited) refl is);
  products = λ product. audited_product image words (image_in ends.file) ends.story product ends.audited;
}
faces (Ok (Load words)) disk out err kept end ends = record {
  story = ends.story;
  way = way_of ends.story disk out err kept end ends.ends;
  by_words = λ path is. absurd (not_defined ends.story.«end» Usage path (loaded_fails _ ends.story.«end» ends.loaded) refl is);
  products = λ product is. loaded_product words.image product (subst (IsEndOf (IsImageFile words.image)) is ends.loaded);
}
faces (Ok (Link words)) disk out err kept end ends = record {
  story = link_story words ends.found;
  way = way_of (link_story words ends.found) disk out err kept end ends.ends;
  by_words = λ path is. absurd (not_defined (link_end words ends.found) Usage path (link_fails (link_end words ends.found) (link_end_is words ends.found)) refl is);
  products = λ product is. link_product product (subst IsLinkEnd is (link_end_is words ends.found));
}
faces (Ok (Demo number)) disk out err kept end ends = record {
  story = demo_story number;
  way = way_of (demo_story number) disk out err kept end ends.ends;
  by_words = λ path is. absurd (not_defined (demo_story number).«end» Usage path (demo_ends number (demo_story number).«end» refl) refl is);
  products = demo_prints number;
}
faces (Err f) disk out err kept end ends = record {
  story = stopped [] f;
  way = way_of (stopped [] f) disk out err kept end ends.ends;
  by_words = λ path is. ap (λ (g : Failure). Err g) (same_failure f Usage path (ap (stop_or (stop_at [] f)) is));
  products = λ product is. cc;
}

-- the words give their failure, or memory runs out
gives_failure : (command : Result Command Failure) (disk : Disk) (out err : Stream) (kept : List TaggedMemory) (end : Result Unit Failure) → Ends command disk out err kept end
    → (failure : Failure) → command ≡ Err failure → (end_status end ≡ status_of failure) ⊎ (end_status end ≡ 12)
gives_failure command disk out err kept end ends failure is =
    let given = subst (λ (c : Result Command Failure). Ends c disk out err kept end) is ends in
    ⊎_elim (λ (h : (end ≡ Err failure) × _). inl (ap end_status h.0)) (λ (h : end ≡ Err NoMemory). inr (ap end_status h)) given.is_end

kept_count : (command : Result Command Failure) (disk : Disk) (out : Stream) → IsKept disk.writes → IsKept out.faults → IsKept (output_count command disk out)
kept_count (Ok (Show image)) disk out writes faults = faults
kept_count (Ok (Load words)) disk out writes faults = writes
kept_count (Ok (Link words)) disk out writes faults = writes
kept_count (Ok (Demo number)) disk out writes faults = faults
kept_count (Ok (Init words)) disk out writes faults = faults
kept_count (Ok (Reach image slot)) disk out writes faults = faults
kept_count (Ok (Audit image words)) disk out writes faults = faults
kept_count (Err failure) disk out writes faults = faults

-- a text was given
text_kept : (disk : Disk) (out : Stream) (kept : List TaggedMemory) (product : Product) → IsText product → IsGiven product disk out kept → IsKept out.faults
text_kept disk out kept (Printed output) of given = given.1.count
text_kept disk out kept (Saved name bytes memories) of given = absurd of
text_kept disk out kept (Differing path output) of given = absurd of

file_kept : (disk : Disk) (out : Stream) (kept : List TaggedMemory) (product : Product) → IsFile product → IsGiven product disk out kept → IsKept disk.writes
file_kept disk out kept (Printed output) of given = absurd of
file_kept disk out kept (Saved name bytes memories) of given = given.0.count
file_kept disk out kept (Differing path output) of given = absurd of

audit_kept : (image : List ℕ) (words : ProgramWords) (disk : Disk) (out : Stream) (kept : List TaggedMemory) (product : Product) → IsOf (Ok (Audit image words)) product → IsGiven product disk out kept → IsKept out.faults
audit_kept image words disk out kept (Printed output) of given = given.1.count
audit_kept image words disk out kept (Saved name bytes memories) of given = absurd of
audit_kept image words disk out kept (Differing path output) of given = absurd given

given_kept : (command : Result Command Failure) (disk : Disk) (out : Stream) (kept : List TaggedMemory) (product : Product) → IsOf command product → IsGiven product disk out kept → IsKept (output_count command disk out)
given_kept (Ok (Show image)) disk out kept product of given = text_kept disk out kept product of given
given_kept (Ok (Load words)) disk out kept product of given = file_kept disk out kept product of given
given_kept (Ok (Link words)) disk out kept product of given = file_kept disk out kept product of given
given_kept (Ok (Demo number)) disk out kept product of given = text_kept disk out kept product of given
given_kept (Ok (Init words)) disk out kept product of given = text_kept disk out kept product of given
given_kept (Ok (Reach image slot)) disk out kept product of given = text_kept disk out kept product of given
given_kept (Ok (Audit image words)) disk out kept product of given = audit_kept image words disk out kept product of given
given_kept (Err failure) disk out kept product of given = text_kept disk out kept product of given

-- a front of a text was given
text_rose : (disk : Disk) (out : Stream) (kept : List TaggedMemory) (product : Product) → IsText product → IsGivenPart product disk out kept → HasRisen out.faults
text_rose disk out kept (Printed output) of given = given.1.rose
text_rose disk out kept (Saved name bytes memories) of given = absurd of
text_rose disk out kept (Differing path output) of given = absurd of

file_rose : (disk : Disk) (out : Stream) (kept : List TaggedMemory) (product : Product) → IsFile product → IsGivenPart product disk out kept → HasRisen disk.writes
file_rose disk out kept (Printed output) of given = absurd of
file_rose disk out kept (Saved name bytes memories) of given = given.0.rose
file_rose disk out kept (Differing path output) of given = absurd of

audit_rose : (image : List ℕ) (words : ProgramWords) (disk : Disk) (out : Stream) (kept : List TaggedMemory) (product : Product) → IsOf (Ok (Audit image words)) product → IsGivenPart product disk out kept → HasRisen out.faults
audit_rose image words disk out kept (Printed output) of given = given.1.rose
audit_rose image words disk out kept (Saved name bytes memories) of given = absurd of
audit_rose image words disk out kept (Differing path output) of given = given.1.rose

part_rose : (command : Result Command Failure) (disk : Disk) (out : Stream) (kept : List TaggedMemory) (product : Product) → IsOf command product → IsGivenPart product disk out kept
    → HasRisen (output_count command disk out)
part_rose (Ok (Show image)) disk out kept product of given = text_rose disk out kept product of given
part_rose (Ok (Load words)) disk out kept product of given = file_rose disk out kept product of given
part_rose (Ok (Link words)) disk out kept product of given = file_rose disk out kept product of given
part_rose (Ok (Demo number)) disk out kept product of given = text_rose disk out kept product of given
part_rose (Ok (Init words)) disk out kept product of given = text_rose disk out kept product of given
part_rose (Ok (Reach image slot)) disk out kept product of given = text_rose disk out kept product of given
part_rose (Ok (Audit image words)) disk out kept product of given = audit_rose image words disk out kept product of given
part_rose (Err failure) disk out kept product of given = text_rose disk out kept product of given

-- `audit` alone gives a product that says how an image differs
differing : (command : Result Command Failure) (path output : List ℕ) → IsOf command (Differing path output) → IsAudit command
differing (Ok (Show image)) path output of = of
differing (Ok (Load words)) path output of = of
differing (Ok (Link words)) path output of = of
differing (Ok (Demo number)) path output of = of
differing (Ok (Init words)) path output of = of
differing (Ok (Reach image slot)) path output of = of
differing (Ok (Audit image words)) path output of = tt
differing (Err failure) path output of = of

differing_kept : (command : Result Command Failure) (disk : Disk) (out : Stream) → IsAudit command → IsKept out.faults → IsKept (output_count command disk out)
differing_kept (Ok (Show image)) disk out is faults = absurd is
differing_kept (Ok (Load words)) disk out is faults = absurd is
differing_kept (Ok (Link words)) disk out is faults = absurd is
differing_kept (Ok (Demo number)) disk out is faults = absurd is
differing_kept (Ok (Init words)) disk out is faults = absurd is
differing_kept (Ok (Reach image slot)) disk out is faults = absurd is
differing_kept (Ok (Audit image words)) disk out is faults = faults
differing_kept (Err failure) disk out is faults = absurd is

part_unkept : (disk : Disk) (out : Stream) (kept : List TaggedMemory) (product : Product) → IsGivenPart product disk out kept → kept ≡ []
part_unkept disk out kept (Printed output) given = given.2
part_unkept disk out kept (Saved name bytes memories) given = given.2
part_unkept disk out kept (Differing path output) given = given.2

module _ (command : Result Command Failure) (disk : Disk) (out err : Stream) (kept : List TaggedMemory) (end : Result Unit Failure) (story : Story) where
  -- a failure with a status of its own
  own_status : Way story disk out err kept end → (failure : Failure) → IsRefusal (status_of failure) → ((other : Failure) → status_of other ≡ status_of failure → other ≡ failure)
      → end_status end ≡ status_of failure → (path : List ℕ) × (story.«end» ≡ Err (stop_at path failure))
  own_status (Done e d) failure refusal own is = absurd (refusal.not_done (sym is ∙ ap end_status e))
  own_status (Unread e u) failure refusal own is = absurd (refusal.not_unread (sym is ∙ ap end_status e))
  own_status (CutShort e c) failure refusal own is = absurd (refusal.not_cut (sym is ∙ ap end_status e))
  own_status (Starved e s) failure refusal own is = absurd (refusal.not_starved (sym is ∙ ap end_status e))
  own_status (Different e d) failure refusal own is = absurd (refusal.not_different (sym is ∙ ap end_status e))
  own_status (Refused other e d r) failure refusal own is = (r.path, r.defined ∙ ap (λ (f : Failure). Err (stop_at r.path f)) (own other (sym (ap end_status e) ∙ is)))

  read_fault : Way story disk out err kept end → end_status end ≡ 10 → HasRisen disk.reads
  read_fault (Done e d) is = let s = sym is ∙ ap end_status e in absurd (omega (arith, s))
  read_fault (Unread e u) is = u.rose
  read_fault (CutShort e c) is = let s = sym is ∙ ap end_status e in absurd (omega (arith, s))
  read_fault (Starved e u) is = let s = sym is ∙ ap end_status e in absurd (omega (arith, s))
  read_fault (Different e d) is = let s = sym is ∙ ap end_status e in absurd (omega (arith, s))
  read_fault (Refused other e d r) is = absurd (d.not_unread (sym (ap end_status e) ∙ is))

  read_rose : Way story disk out err kept end → disk.reads.before < disk.reads.now → (end_status end ≡ 10) ⊎ (end_status end ≡ 12)
  read_rose (Done e d) rose = let same = d.reads_kept in absurd (omega (arith, same, rose))
  read_rose (Unread e u) rose = inl (ap end_status e)
  read_rose (CutShort e c) rose = let same = c.reads_kept in absurd (omega (arith, same, rose))
  read_rose (Starved e u) rose = inr (ap end_status e)
  read_rose (Different e d) rose = let same = d.reads_kept in absurd (omega (arith, same, rose))
  read_rose (Refused other e d r) rose = let same = r.reads_kept in absurd (omega (arith, same, rose))

  module _ (products : (product : Product) → story.«end» ≡ Ok product → IsOf command product) where
    write_fault : Way story disk out err kept end → end_status end ≡ 11 → HasRisen (output_count command disk out)
    write_fault (Done e d) is = let s = sym is ∙ ap end_status e in absurd (omega (arith, s))
    write_fault (Unread e u) is = let s = sym is ∙ ap end_status e in absurd (omega (arith, s))
    write_fault (CutShort e c) is = part_rose command disk out kept c.product (products c.product c.defined) c.given
    write_fault (Starved e u) is = let s = sym is ∙ ap end_status e in absurd (omega (arith, s))
    write_fault (Different e d) is = let s = sym is ∙ ap end_status e in absurd (omega (arith, s))
    write_fault (Refused other e d r) is = absurd (d.not_cut (sym (ap end_status e) ∙ is))

    write_rose : Way story disk out err kept end → (output_count command disk out).before < (output_count command disk out).now → end_status end ≡ 11
    write_rose (Done e d) rose = let same = given_kept command disk out kept d.product (products d.product d.defined) d.given in absurd (omega (arith, same, rose))
    write_rose (Unread e u) rose = let same = kept_count command disk out u.nothing.untouched.count u.nothing.still.count in absurd (omega (arith, same, rose))
    write_rose (CutShort e c) rose = ap end_status e
    write_rose (Starved e u) rose = let same = kept_count command disk out u.nothing.untouched.count u.nothing.still.count in absurd (omega (arith, same, rose))
    write_rose (Different e d) rose =
        let same = differing_kept command disk out (differing command d.path d.output (products (Differing d.path d.output) d.defined)) d.written.count in absurd (omega (arith, same, rose))
    write_rose (Refused other e d r) rose = let same = kept_count command disk out r.nothing.untouched.count r.nothing.still.count in absurd (omega (arith, same, rose))

    differs : Way story disk out err kept end → end_status end ≡ 15 → IsAudit command
    differs (Done e d) is = let s = sym is ∙ ap end_status e in absurd (omega (arith, s))
    differs (Unread e u) is = let s = sym is ∙ ap end_status e in absurd (omega (arith, s))
    differs (CutShort e c) is = let s = sym is ∙ ap end_status e in absurd (omega (arith, s))
    differs (Starved e u) is = let s = sym is ∙ ap end_status e in absurd (omega (arith, s))
    differs (Different e d) is = differing command d.path d.output (products (Differing d.path d.output) d.defined)
    differs (Refused other e d r) is = absurd (d.not_different (sym (ap end_status e) ∙ is))

  quiet : Way story disk out err kept end → end_status end ≢ 0 → end_status end ≢ 11 → end_status end ≢ 15 → IsNothing disk out kept
  quiet (Done e d) failed uncut same = absurd (failed (ap end_status e))
  quiet (Unread e u) failed uncut same = u.nothing
  quiet (CutShort e c) failed uncut same = absurd (uncut (ap end_status e))
  quiet (Starved e u) failed uncut same = u.nothing
  quiet (Different e d) failed uncut same = absurd (same (ap end_status e))
  quiet (Refused other e d r) failed uncut same = r.nothing

  none_kept : Way story disk out err kept end → end_status end ≢ 0 → kept ≡ []
  none_kept (Done e d) failed = absurd (failed (ap end_status e))
  none_kept (Unread e u) failed = u.nothing.none
  none_kept (CutShort e c) failed = part_unkept disk out kept c.product c.given
  none_kept (Starved e u) failed = u.nothing.none
  none_kept (Different e d) failed = d.none
  none_kept (Refused other e d r) failed = r.nothing.none

-- a command that writes a file writes nothing to standard output
given_still : (disk : Disk) (out : Stream) (kept : List TaggedMemory) (product : Product) → IsFile product → IsGiven product disk out kept → IsStill out
given_still disk out kept (Printed output) of given = absurd of
given_still disk out kept (Saved name bytes memories) of given = given.1
given_still disk out kept (Differing path output) of given = absurd of

part_still : (disk : Disk) (out : Stream) (kept : List TaggedMemory) (product : Product) → IsFile product → IsGivenPart product disk out kept → IsStill out
part_still disk out kept (Printed output) of given = absurd of
part_still disk out kept (Saved name bytes memories) of given = given.1
part_still disk out kept (Differing path output) of given = absurd of

file_still : (disk : Disk) (out err : Stream) (kept : List TaggedMemory) (end : Result Unit Failure) (story : Story) → ((product : Product) → story.«end» ≡ Ok product → IsFile product)
    → Way story disk out err kept end → IsStill out
file_still disk out err kept end story products (Done e d) = given_still disk out kept d.product (products d.product d.defined) d.given
file_still disk out err kept end story products (Unread e u) = u.nothing.still
file_still disk out err kept end story products (CutShort e c) = part_still disk out kept c.product (products c.product c.defined) c.given
file_still disk out err kept end story products (Starved e u) = u.nothing.still
file_still disk out err kept end story products (Different e d) = absurd (products (Differing d.path d.output) d.defined)
file_still disk out err kept end story products (Refused other e d r) = r.nothing.still

-- it is no file
abbrev IsNoFile : Product → Type 0
IsNoFile (Printed output) = Unit {0}
IsNoFile (Saved name bytes memories) = ⊥
IsNoFile (Differing path output) = Unit {0}

text_no_file : (product : Product) → IsText product → IsNoFile product
text_no_file (Printed output) is = tt
text_no_file (Saved name bytes memories) is = is
text_no_file (Differing path output) is = tt

audit_no_file : (image : List ℕ) (words : ProgramWords) (product : Product) → IsOf (Ok (Audit image words)) product → IsNoFile product
audit_no_file image words (Printed output) is = tt
audit_no_file image words (Saved name bytes memories) is = is
audit_no_file image words (Differing path output) is = tt

-- the other commands touch no file, and keep nothing
module _ (disk : Disk) (out err : Stream) (kept : List TaggedMemory) (end : Result Unit Failure) (story : Story) (products : (product : Product) → story.«end» ≡ Ok product → IsNoFile product) where
  given_untouched : (product : Product) → IsNoFile product → IsGiven product disk out kept → IsUntouched disk × (kept ≡ [])
  given_untouched (Printed output) of given = (given.0, given.2)
  given_untouched (Saved name bytes memories) of given = absurd of
  given_untouched (Differing path output) of given = absurd given

  part_untouched : (product : Product) → IsNoFile product → IsGivenPart product disk out kept → IsUntouched disk × (kept ≡ [])
  part_untouched (Printed output) of given = (given.0, given.2)
  part_untouched (Saved name bytes memories) of given = absurd of
  part_untouched (Differing path output) of given = (given.0, given.2)

  untouched : Way story disk out err kept end → IsUntouched disk × (kept ≡ [])
  untouched (Done e d) = given_untouched d.product (products d.product d.defined) d.given
  untouched (Unread e u) = (u.nothing.untouched, u.nothing.none)
  untouched (CutShort e c) = part_untouched c.product (products c.product c.defined) c.given
  untouched (Starved e u) = (u.nothing.untouched, u.nothing.none)
  untouched (Different e d) = (d.untouched, d.none)
  untouched (Refused other e d r) = (r.nothing.untouched, r.nothing.none)

-- a product without memories
abbrev IsBare : Product → Type 0
IsBare (Printed output) = Unit {0}
IsBare (Saved name bytes memories) = memories ≡ []
IsBare (Differing path output) = ⊥

text_bare : (product : Product) → IsText product → IsBare product
text_bare (Printed output) of = tt
text_bare (Saved name bytes memories) of = absurd of
text_bare (Differing path output) of = of

link_bare : (product : Product) → IsLinkEnd (Ok product) → IsBare product
link_bare (Printed output) is = absurd is
link_bare (Saved name bytes memories) is = is
link_bare (Differing path output) is = is

-- a command that loads no program tells nothing where it succeeds, and keeps nothing
module _ (disk : Disk) (out err : Stream) (kept : List TaggedMemory) (end : Result Unit Failure) (story : Story) (none : story.notes ≡ [])
    (calm : IsCalm disk.reads end) (bare : (product : Product) → story.«end» ≡ Ok product → IsBare product) where
  bare_given : (product : Product) → IsBare product → IsGiven product disk out kept → kept ≡ []
  bare_given (Printed output) bare given = given.2
  bare_given (Saved name bytes memories) bare given = given.2 ∙ bare
  bare_given (Differing path output) bare given = absurd bare

  plain : Way story disk out err kept end → IsPlain disk err kept (end_status end)
  plain (Done e d) =
      (bare_given d.product (bare d.product d.defined) d.given, λ is. subst (λ (notes : _). Says err (note_lines notes)) none d.says, λ is. let s = sym is ∙ ap end_status e in absurd (omega (arith, s)))
  plain (Unread e u) = (u.nothing.none, λ is. let s = sym is ∙ ap end_status e in absurd (omega (arith, s)), λ is. let s = sym is ∙ ap end_status e in absurd (omega (arith, s)))
  plain (CutShort e c) =
      (part_unkept disk out kept c.product c.given, λ is. let s = sym is ∙ ap end_status e in absurd (omega (arith, s)), λ is. let s = sym is ∙ ap end_status e in absurd (omega (arith, s)))
  plain (Starved e u) = (u.nothing.none, λ is. let s = sym is ∙ ap end_status e in absurd (omega (arith, s)), λ is. calm e)
  plain (Different e d) = absurd (bare (Differing d.path d.output) d.defined)
  plain (Refused other e d r) =
      (r.nothing.none, λ is. absurd (d.not_done (sym (ap end_status e) ∙ is)), λ is. absurd (d.not_starved (sym (ap end_status e) ∙ is)))

-- a command that prints the text of one image
printed_aside : (image : List ℕ) (answer : Result (List ℕ) Failure) (disk : Disk) (out err : Stream) (kept : List TaggedMemory) (end : Result Unit Failure) → EndsAs (printed image answer) disk out err kept end
    → IsCalm disk.reads end → IsUntouched disk × IsPlain disk err kept (end_status end)
printed_aside image answer disk out err kept end ends calm =
    let story = printed image answer in
    let products = printed_product image answer in
    let way = way_of story disk out err kept end ends in (
      (untouched disk out err kept end story (λ product is. text_no_file product (products product is)) way).0,
      plain disk out err kept end story (no_notes image answer) calm (λ product is. text_bare product (products product is)) way,
    )

aside : (command : Result Command Failure) (disk : Disk) (out err : Stream) (kept : List TaggedMemory) (end : Result Unit Failure) → Ends command disk out err kept end
    → IsAside command disk out err kept (end_status end)
aside (Ok (Show image)) disk out err kept end ends = printed_aside image (shown ends.file) disk out err kept end ends.ends ends.calm
aside (Ok (Reach image slot)) disk out err kept end ends = printed_aside image (reached slot ends.file) disk out err kept end ends.ends ends.calm
aside (Ok (Load words)) disk out err kept end ends =
    let face = faces (Ok (Load words)) disk out err kept end ends in file_still disk out err kept end face.story face.products face.way
aside (Ok (Link words)) disk out err kept end ends =
    let face = faces (Ok (Link words)) disk out err kept end ends in (
      file_still disk out err kept end face.story face.products face.way,
      plain disk out err kept end (link_story words ends.found) refl ends.calm (λ product is. link_bare product (subst IsLinkEnd is (link_end_is words ends.found))) (way_of _ disk out err kept end ends.ends),
    )
aside (Ok (Demo number)) disk out err kept end ends =
    let way = way_of (demo_story number) disk out err kept end ends.ends in (
      (untouched disk out err kept end (demo_story number) (λ product is. text_no_file product (demo_prints number product is)) way).0,
      ends.reads_kept,
      plain disk out err kept end (demo_story number) refl (λ e. ends.reads_kept) (λ product is. text_bare product (demo_prints number product is)) way,
    )
aside (Ok (Init words)) disk out err kept end ends =
    let face = faces (Ok (Init words)) disk out err kept end ends in
    untouched disk out err kept end face.story (λ product is. text_no_file product (face.products product is)) face.way
aside (Ok (Audit image words)) disk out err kept end ends =
    let face = faces (Ok (Audit image words)) disk out err kept end ends in
    untouched disk out err kept end face.story (λ product is. audit_no_file image words product (face.products product is)) face.way
aside (Err failure) disk out err kept end ends =
    let way = way_of (stopped [] failure) disk out err kept end ends.ends in
    ((untouched disk out err kept end (stopped [] failure) (λ product is. cc) way).0, plain disk out err kept end (stopped [] failure) refl ends.calm (λ product is. cc) way)

-- ---- a slot without a tagged word

status_no_word : (failure : Failure) → status_of failure ≡ 14 → (slot : ℕ) × (failure ≡ NoWord slot)
status_no_word Usage is = absurd (omega (arith, is))
status_no_word NoFile is = absurd (omega (arith, is))
status_no_word (Malformed check at) is = absurd (omega (arith, is))
status_no_word (Unsupported check at) is = absurd (omega (arith, is))
status_no_word (Unresolved name) is = absurd (omega (arith, is))
status_no_word (Inexact name base len) is = absurd (omega (arith, is))
status_no_word (Full asked) is = absurd (omega (arith, is))
status_no_word (Limit check) is = absurd (omega (arith, is))
status_no_word ReadFault is = absurd (omega (arith, is))
status_no_word WriteFault is = absurd (omega (arith, is))
status_no_word NoMemory is = absurd (omega (arith, is))
status_no_word (NoWord slot) is = (slot, refl)
status_no_word Differs is = absurd (omega (arith, is))

-- a story that no file ends so
no_word_by : (disk : Disk) (out err : Stream) (kept : List TaggedMemory) (end : Result Unit Failure) (story : Story) → end_fails story.«end» ≡ false → Way story disk out err kept end → end_status end ≡ 14 → ⊥
no_word_by disk out err kept end story fails (Done e d) is = let s = sym is ∙ ap end_status e in omega (arith, s)
no_word_by disk out err kept end story fails (Unread e u) is = let s = sym is ∙ ap end_status e in omega (arith, s)
no_word_by disk out err kept end story fails (CutShort e c) is = let s = sym is ∙ ap end_status e in omega (arith, s)
no_word_by disk out err kept end story fails (Starved e u) is = let s = sym is ∙ ap end_status e in omega (arith, s)
no_word_by disk out err kept end story fails (Different e d) is = let s = sym is ∙ ap end_status e in omega (arith, s)
no_word_by disk out err kept end story fails (Refused other e d r) is =
    let slot = status_no_word other (sym (ap end_status e) ∙ is) in
    not_defined story.«end» other r.path fails (ap of_no_file slot.1) r.defined

words_status : (failure : Failure) → IsOfWords failure → status_of failure ≡ 14 → ⊥
words_status Usage words is = omega (arith, is)
words_status (Limit check) words is = omega (arith, is)
words_status NoFile words is = words
words_status (Malformed check at) words is = words
words_status (Unsupported check at) words is = words
words_status (Unresolved name) words is = words
words_status (Inexact name base len) words is = words
words_status (Full asked) words is = words
words_status ReadFault words is = words
words_status WriteFault words is = words
words_status NoMemory words is = words
words_status (NoWord slot) words is = words
words_status Differs words is = words

no_word : (command : Result Command Failure) (disk : Disk) (out err : Stream) (kept : List TaggedMemory) (end : Result Unit Failure) → Ends command disk out err kept end → end_status end ≡ 14 → IsReach command
no_word (Ok (Show image)) disk out err kept end ends =
    no_word_by disk out err kept end (show_story image ends.file) (printed_fails image (shown ends.file) (shown_fails ends.file)) (way_of _ disk out err kept end ends.ends)
no_word (Ok (Load words)) disk out err kept end ends = no_word_by disk out err kept end ends.story (loaded_fails _ ends.story.«end» ends.loaded) (way_of _ disk out err kept end ends.ends)
no_word (Ok (Link words)) disk out err kept end ends =
    no_word_by disk out err kept end (link_story words ends.found) (link_fails (link_end words ends.found) (link_end_is words ends.found)) (way_of _ disk out err kept end ends.ends)
no_word (Ok (Demo number)) disk out err kept end ends = no_word_by disk out err kept end (demo_story number) (demo_ends number (demo_story number).«end» refl) (way_of _ disk out err kept end ends.ends)
no_word (Ok (Init words)) disk out err kept end ends = no_word_by disk out err kept end ends.story (loaded_fails _ ends.story.«end» ends.called) (way_of _ disk out err kept end ends.ends)
no_word (Ok (Reach image slot)) disk out err kept end ends = λ is. tt
no_word (Ok (Audit image words)) disk out err kept end ends =
    no_word_by disk out err kept end ends.story (audited_fails image (image_in ends.file) ends.story (image_fails of_no_file no_file_fails ends.file) ends.audited) (way_of _ disk out err kept end ends.ends)
no_word (Err failure) disk out err kept end ends = λ is.
    ⊎_elim (λ (h : (end ≡ Err failure) × IsOfWords failure). words_status failure h.1 (sym (ap end_status h.0) ∙ is)) (λ (h : end ≡ Err NoMemory). let s = sym is ∙ ap end_status h in omega (arith, s)) ends.is_end

-- the causes, for the status of the end
end_causes : (words : List (List ℕ)) (disk : Disk) (out err : Stream) (kept : List TaggedMemory) (end : Result Unit Failure) → Ends (command_of words) disk out err kept end
    → HasCauses words disk out err kept (end_status end)
end_causes words disk out err kept end ends =
    let command = command_of words in
    let face = faces command disk out err kept end ends in
    let given = gives_failure command disk out err kept end ends in
    let own = own_status command disk out err kept end face.story face.way in
    record {
      usage = λ is. let at = own Usage refusal_2 status_usage is in face.by_words at.0 at.1;
      is_usage = given Usage;
      is_limit = λ check. given (Limit check);
      read_fault = read_fault command disk out err kept end face.story face.way;
      read_rose = read_rose command disk out err kept end face.story face.way;
      write_fault = write_fault command disk out err kept end face.story face.products face.way;
      write_rose = write_rose command disk out err kept end face.story face.products face.way;
      no_word = no_word command disk out err kept end ends;
      differs = differs command disk out err kept end face.story face.products face.way;
      aside = aside command disk out err kept end ends;
      quiet = quiet command disk out err kept end face.story face.way;
      none_kept = none_kept command disk out err kept end face.story face.way;
    }

pub causes_of : (words : List (List ℕ)) (disk : Disk) (out err : Stream) (kept : List TaggedMemory) (status : ℕ) → Runs words disk out err kept status → HasCauses words disk out err kept status
causes_of words disk out err kept status ran =
    subst (λ (s : ℕ). HasCauses words disk out err kept s) (sym ran.is_status) (end_causes words disk out err kept ran.end ran.ends)
