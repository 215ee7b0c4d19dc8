-- The file that `load` writes keeps the claim.
use Rattle.std.proofs.Common.{◌≡◌, ℕ, List, Option, Some, None, IfSome, Result, Ok, Err, refl, sym, ap, subst, ◌∙◌, arith}
use Rattle.std.proofs.lemmas.List.Elements.{All-weaker}
use Rattle.cap_base.specs.Outside.{Store, with_file}
use Rattle.cap_exact.proofs.Standing.{Stands, all-stand}
use Rattle.cap_exact.specs.Loads.{LoadsKeepBounds}
use Rattle.cap_image.specs.Writing.{image_bytes}
use Rattle.cap_loaded.specs.Images.{LeadsTo, StatesAreReadBack, state_image}
use Rattle.cap_loaded.specs.Shown.{StatesAreShown}
use Rattle.cap_mem.specs.Tagged.{TaggedMemory}
use Rattle.cap_session.specs.Exact.{RunsAreSound, StatesAreReached}
use Rattle.cap_session.specs.Loading.{Loaded}
use Rattle.cap_session.specs.State.{State}
use Rattle.purecap.specs.declared.faults.Failure.{Failure}
use Rattle.purecap.specs.Answer.{load_story, program_outcome, saved}
use Rattle.purecap.specs.Claim.{Claim, IsClaimOf, IsClaimedRun, IsOfFile}
use Rattle.purecap.specs.Exact.{run_of}
use Rattle.purecap.specs.Faults.{status_of}
use Rattle.purecap.specs.ProgramWords.{IsProgram, ProgramWords}
use Rattle.purecap.specs.Run.{Disk, EndsAs, Ends, IsEntered, IsGiven, Runs, Stream, end_status}
use Rattle.purecap.specs.Story.{Product, Story}
use Rattle.purecap.specs.Words.{Audit, Command, Demo, Init, Link, Load, LoadWords, Reach, Show, command_of}
use Rattle.purecap.proofs.Accepted.{command_passed}
use Rattle.purecap.proofs.LoadImages.{leads_to, product_of}
use Rattle.purecap.proofs.Ways.{CutShort, Different, Done, Refused, Starved, Unread, Way, way_of}

-- what is known of states, of their images, and of exact bounds
pub record ClaimLaws : Type 0 where
  pub reads_back : StatesAreReadBack
  pub shown : StatesAreShown
  pub reached : StatesAreReached
  pub sound : RunsAreSound
  pub exact : LoadsKeepBounds

of_file : (store : Store) (o : Loaded) → Stands store o → IsOfFile store o
of_file store o h = record { path = h.path; file = h.stands; records = h.read }

-- the image of the state to which the words lead was written
claimed : ClaimLaws → (words : LoadWords) (store : Store) (new : Option Store) (state : State) → IsProgram words.program → (program_outcome words.program store).«end» ≡ Ok state
    → new ≡ Some (with_file store words.image (image_bytes (state_image state))) → Claim words store new
claimed laws words store new state is leads written =
    let p : ProgramWords = words.program in
    let to : LeadsTo store p.dir p.main p.rule p.calls state = leads_to p store state is leads in
    record {
      state = state;
      leads = leads;
      files = All-weaker (Stands store) (IsOfFile store) (of_file store) state.objects (all-stand store state.objects (laws.sound.fetched store p.dir p.main p.rule p.calls state leads));
      behind = (laws.reached.run store p.dir p.main p.rule p.calls state leads).behind;
      bytes = image_bytes (state_image state);
      written = written;
      image = state_image state;
      reads = (laws.reads_back store p.dir p.main p.rule p.calls state to).read;
      shows = laws.shown store p.dir p.main p.rule p.calls state to;
      exact = laws.exact store (run_of p);
    }

entered : (disk : Disk) (name bytes : List ℕ) (store : Store) → disk.old ≡ Some store → IsEntered disk name bytes → disk.new ≡ Some (with_file store name bytes)
entered disk name bytes store told h = (subst (λ (o : Option Store). IfSome o (λ s. (disk.new ≡ Some (with_file s name bytes)) × (disk.writing ≡ None))) told h.files).0

module _ (laws : ClaimLaws) (words : LoadWords) (is : IsProgram words.program) (store : Store) (disk : Disk) (out err : Stream) (kept : List TaggedMemory) (end : Result Unit Failure) (told : disk.old ≡ Some store) where
  claims : Way (load_story words store) disk out err kept end → end_status end ≡ 0 → Claim words store disk.new
  claims (Done e d) ended =
      let of = product_of (saved words.image) (program_outcome words.program store).«end» d.product d.defined in
      let given = subst (λ (p : Product). IsGiven p disk out kept) (sym of.is) d.given in
      claimed laws words store disk.new of.state is of.leads (entered disk words.image (image_bytes (state_image of.state)) store told given.0)
  claims (Unread e u) ended = let status : end_status end ≡ 10 = ap end_status e in absurd (omega (arith, status, ended))
  claims (CutShort e c) ended = let status : end_status end ≡ 11 = ap end_status e in absurd (omega (arith, status, ended))
  claims (Starved e s) ended = let status : end_status end ≡ 12 = ap end_status e in absurd (omega (arith, status, ended))
  claims (Different e d) ended = let status : end_status end ≡ 15 = ap end_status e in absurd (omega (arith, status, ended))
  claims (Refused failure e own r) ended = let status : end_status end ≡ status_of failure = ap end_status e in absurd (own.not_done (sym status ∙ ended))

by_command : ClaimLaws → (words : List (List ℕ)) (command : Result Command Failure) → command_of words ≡ command → (store : Store) (disk : Disk) (out err : Stream) (kept : List TaggedMemory) (end : Result Unit Failure) → disk.old ≡ Some store
    → Ends command disk out err kept end → IsClaimOf command store disk.new (end_status end)
by_command laws words (Ok (Show image)) is store disk out err kept end told ends = tt
by_command laws words (Ok (Load asked)) is store disk out err kept end told ends =
    let story = subst (λ (o : Option Store). IfSome o (λ s. ends.story ≡ load_story asked s)) told ends.is_story in
    claims laws asked (command_passed words (Load asked) is).program store disk out err kept end told (way_of _ disk out err kept end (subst (λ (story : Story). EndsAs story disk out err kept end) story ends.ends))
by_command laws words (Ok (Link asked)) is store disk out err kept end told ends = tt
by_command laws words (Ok (Demo number)) is store disk out err kept end told ends = tt
by_command laws words (Ok (Init asked)) is store disk out err kept end told ends = tt
by_command laws words (Ok (Reach image slot)) is store disk out err kept end told ends = tt
by_command laws words (Ok (Audit image asked)) is store disk out err kept end told ends = tt
by_command laws words (Err failure) is store disk out err kept end told ends = tt

by_told : ClaimLaws → (words : List (List ℕ)) (disk : Disk) (out err : Stream) (kept : List TaggedMemory) (end : Result Unit Failure) → Ends (command_of words) disk out err kept end
    → (told : Option Store) → disk.old ≡ told → IsClaimedRun (command_of words) told disk.new (end_status end)
by_told laws words disk out err kept end ends None is = tt
by_told laws words disk out err kept end ends (Some store) is = by_command laws words (command_of words) refl store disk out err kept end is ends

pub claimed_run : ClaimLaws → (words : List (List ℕ)) (disk : Disk) (out err : Stream) (kept : List TaggedMemory) (status : ℕ) → Runs words disk out err kept status → IsClaimedRun (command_of words) disk.old disk.new status
claimed_run laws words disk out err kept status ran =
    subst (λ (s : ℕ). IsClaimedRun (command_of words) disk.old disk.new s) (sym ran.is_status) (by_told laws words disk out err kept ran.end ran.ends disk.old refl)
