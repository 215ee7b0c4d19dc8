-- How the commands end that print a text of one image, from what their steps give.
use Rattle.std.proofs.Common.{◌≡◌, ◌<◌, ◌≤◌, ◌^◌, ◌+◌, ℕ, Bool, true, false, cond, nat_lt, List, [], ◌∷◌, length, Option, Some, None, Result, Ok, Err, refl, sym, ap, subst, ◌∙◌, arith}
use Rattle.std.specs.Prelude.{MatchResult}
use Rattle.std.proofs.Math.ListN.{replicate}
use Rattle.std.proofs.lemmas.Bool.Decides.{nat_tests}
use Rattle.std.proofs.lemmas.List.{length-replicate}
use Rattle.cap_base.specs.Check.{number_of}
use Rattle.cap_base.specs.Outside.{Store, file_in}
use Rattle.cap_base.specs.ReadFile.{IsFile, IsLarger, FileRefused, FaultCounted}
use Rattle.cap_base.specs.Steps.{◌>>=◌}
use Rattle.cap_base.specs.declared.check.Check.TheVariants.{FileSize}
use Rattle.cap_base.specs.declared.reading.FileRefusal.{FileRefusal}
use Rattle.cap_base.specs.declared.reading.FileRefusal.TheVariants as files
use Rattle.cap_image.specs.Parts.{ImageParts}
use Rattle.cap_image.specs.Reading.{read_image}
use Rattle.cap_image.specs.Report.{report_of}
use Rattle.purecap.specs.declared.faults.Failure.{Failure}
use Rattle.purecap.specs.declared.faults.Failure.TheVariants.{Usage, NoFile, Malformed, Unsupported, Unresolved, Inexact, Full, Limit, ReadFault, WriteFault, NoMemory, NoWord, Differs}
use Rattle.purecap.specs.Faults.{line_of}
use Rattle.purecap.specs.Images.{image_or, image_in}
use Rattle.purecap.specs.Inputs.{Has}
use Rattle.purecap.specs.Reading.{unread, IsFailureOf}
use Rattle.purecap.specs.Run.{Count, Stream, Disk, IsStill, IsKept, IsUntouched, IsNothing, IsCalm, IsRefused, Says, EndsAs}
use Rattle.purecap.specs.Answer.{printed}
use Rattle.purecap.specs.Story.{Printed}
use Rattle.purecap.specs.Printing.{PrintsOr, PrintsTold, Yields, YieldsOf}
use Rattle.purecap.proofs.Ways.{is_decided, Kind, OfReading, OfWriting, OfMemory, OfAudit, Decided, kind_of, decided_ends}

-- ---- a file

-- there are bytes that are more than the limit
large : (limit : ℕ) → (bytes : List ℕ) × (limit < length bytes)
large limit = (replicate (limit + 1) 0, omega (arith, length-replicate {A = ℕ} (limit + 1) 0))

-- a file within the limit gives its image, and a larger one is refused
image_within : (bytes : List ℕ) → length bytes ≤ 2 ^ 31 → image_in (Some bytes) ≡ image_or (read_image bytes)
image_within bytes within =
    let small : nat_lt (2 ^ 31) (length bytes) ≡ false = grind (arith, nat_tests) in
    ap (λ (t : Bool). cond t (Err (Limit (number_of FileSize))) (image_or (read_image bytes))) small

image_beyond : (bytes : List ℕ) → 2 ^ 31 < length bytes → image_in (Some bytes) ≡ Err (Limit (number_of FileSize))
image_beyond bytes beyond =
    let larger : nat_lt (2 ^ 31) (length bytes) ≡ true = grind (arith, nat_tests) in
    ap (λ (t : Bool). cond t (Err (Limit (number_of FileSize))) (image_or (read_image bytes))) larger

pub some_file : (told : Option Store) (image : List ℕ) → (file : Option (List ℕ)) × Has told image file
some_file None image = (None, tt)
some_file (Some store) image = (file_in store image, refl)

pub no_file : (told : Option Store) (image : List ℕ) (limit : ℕ) → FileRefused told image limit files.NoFile → Has told image None
no_file None image limit is = tt
no_file (Some store) image limit is = sym is

pub this_file : (told : Option Store) (image bytes : List ℕ) (limit : ℕ) → IsFile told image limit bytes → Has told image (Some bytes)
this_file None image bytes limit is = tt
this_file (Some store) image bytes limit is = sym is.1

larger_is : (file : Option (List ℕ)) (limit : ℕ) → IsLarger file limit → (bytes : List ℕ) × (Some bytes ≡ file) × (limit < length bytes)
larger_is None limit is = absurd is
larger_is (Some bytes) limit is = (bytes, refl, is)

pub large_file : (told : Option Store) (image : List ℕ) (limit : ℕ) → FileRefused told image limit files.TooLarge → (bytes : List ℕ) × Has told image (Some bytes) × (limit < length bytes)
large_file None image limit is = let some = large limit in (some.0, tt, some.1)
large_file (Some store) image limit is = larger_is (file_in store image) limit is

-- a failure that is said, or want of memory
pub yields_failure : {X Y : Type 0} (view : X → Y) (said : Result Y Failure) (reads : Count) (failure : Failure) → IsFailureOf said failure → IsKept reads → Yields view said reads (Err failure)
yields_failure view said reads Usage is kept = (is, kept)
yields_failure view said reads NoFile is kept = (is, kept)
yields_failure view said reads (Malformed check at) is kept = (is, kept)
yields_failure view said reads (Unsupported check at) is kept = (is, kept)
yields_failure view said reads (Unresolved name) is kept = (is, kept)
yields_failure view said reads (Inexact name base len) is kept = (is, kept)
yields_failure view said reads (Full asked) is kept = (is, kept)
yields_failure view said reads (Limit check) is kept = (is, kept)
yields_failure view said reads ReadFault is kept = absurd is
yields_failure view said reads WriteFault is kept = absurd is
yields_failure view said reads NoMemory is kept = kept
yields_failure view said reads (NoWord slot) is kept = (is, kept)
yields_failure view said reads Differs is kept = absurd is

-- a failure of another step, where what it says is what is said here
pub yields_other : {X Y A B : Type 0} (view : X → Y) (said : Result Y Failure) (view_here : A → B) (said_here : Result B Failure) (reads : Count) (failure : Failure)
    → (said ≡ Err failure → said_here ≡ Err failure) → Yields view said reads (Err failure) → Yields view_here said_here reads (Err failure)
yields_other view said view_here said_here reads Usage same yields = (same yields.0, yields.1)
yields_other view said view_here said_here reads NoFile same yields = (same yields.0, yields.1)
yields_other view said view_here said_here reads (Malformed check at) same yields = (same yields.0, yields.1)
yields_other view said view_here said_here reads (Unsupported check at) same yields = (same yields.0, yields.1)
yields_other view said view_here said_here reads (Unresolved name) same yields = (same yields.0, yields.1)
yields_other view said view_here said_here reads (Inexact name base len) same yields = (same yields.0, yields.1)
yields_other view said view_here said_here reads (Full asked) same yields = (same yields.0, yields.1)
yields_other view said view_here said_here reads (Limit check) same yields = (same yields.0, yields.1)
yields_other view said view_here said_here reads ReadFault same yields = yields
yields_other view said view_here said_here reads WriteFault same yields = yields
yields_other view said view_here said_here reads NoMemory same yields = yields
yields_other view said view_here said_here reads (NoWord slot) same yields = (same yields.0, yields.1)
yields_other view said view_here said_here reads Differs same yields = yields

pub yields_decided : {X Y : Type 0} (view : X → Y) (said : Result Y Failure) (reads : Count) (failure : Failure) → is_decided failure ≡ true → Yields view said reads (Err failure)
    → (said ≡ Err failure) × IsKept reads
yields_decided view said reads Usage is yields = yields
yields_decided view said reads NoFile is yields = yields
yields_decided view said reads (Malformed check at) is yields = yields
yields_decided view said reads (Unsupported check at) is yields = yields
yields_decided view said reads (Unresolved name) is yields = yields
yields_decided view said reads (Inexact name base len) is yields = yields
yields_decided view said reads (Full asked) is yields = yields
yields_decided view said reads (Limit check) is yields = yields
yields_decided view said reads ReadFault is yields = cc
yields_decided view said reads WriteFault is yields = cc
yields_decided view said reads NoMemory is yields = cc
yields_decided view said reads (NoWord slot) is yields = yields
yields_decided view said reads Differs is yields = cc

-- ---- its image

module _ {X : Type 0} (view : X → ImageParts) (told : Option Store) (path : List ℕ) (reads : Count) where
  -- the file was not read
  pub image_unread : (refusal : FileRefusal) → FileRefused told path (2 ^ 31) refusal → FaultCounted {T = Unit {0}} reads.before reads.now (Err refusal)
      → YieldsOf view image_in told path reads (Err (unread refusal))
  image_unread files.NoFile is counted = record { file = None; is_file = no_file told path (2 ^ 31) is; yields = (refl, counted) }
  image_unread files.TooLarge is counted =
      let some = large_file told path (2 ^ 31) is in record { file = Some some.0; is_file = some.1; yields = (image_beyond some.0 some.2, counted) }
  image_unread files.Fault is counted = let some = some_file told path in record { file = some.0; is_file = some.1; yields = counted.1 }
  image_unread files.NoMemory is counted = let some = some_file told path in record { file = some.0; is_file = some.1; yields = counted }

  image_by : (bytes : List ℕ) (result : Result X Failure) → IsFile told path (2 ^ 31) bytes → Yields view (image_or (read_image bytes)) reads result → YieldsOf view image_in told path reads result
  image_by bytes result is yields = record {
    file = Some bytes;
    is_file = this_file told path bytes (2 ^ 31) is;
    yields = subst (λ (said : Result ImageParts Failure). Yields view said reads result) (sym (image_within bytes is.0)) yields;
  }

  -- the file was read, and its image, or what it fails
  pub image_read : (bytes : List ℕ) (result : Result X Failure) → IsFile told path (2 ^ 31) bytes → IsKept reads
      → MatchResult result (λ x. image_or (read_image bytes) ≡ Ok (view x)) (λ failure. IsFailureOf (image_or (read_image bytes)) failure) → YieldsOf view image_in told path reads result
  image_read bytes (Ok x) is kept said = image_by bytes (Ok x) is (said, kept)
  image_read bytes (Err failure) is kept said = image_by bytes (Err failure) is (yields_failure view (image_or (read_image bytes)) reads failure said kept)

-- ---- what is made of the image

module _ {X Y B : Type 0} (view : X → ImageParts) (view_here : Y → B) (next : ImageParts → Result B Failure) (told : Option Store) (path : List ℕ) (reads : Count) where
  abbrev made : Option (List ℕ) → Result B Failure
  made file = image_in file >>= next

  -- there is no image
  pub made_unread : (failure : Failure) → YieldsOf view image_in told path reads (Err failure) → YieldsOf view_here made told path reads (Err failure)
  made_unread failure of = record {
    file = of.file;
    is_file = of.is_file;
    yields = yields_other view (image_in of.file) view_here (made of.file) reads failure (λ e. ap (λ (r : Result ImageParts Failure). r >>= next) e) of.yields;
  }

  -- of the image this is made, or it fails
  pub made_read : (x : X) (result : Result Y Failure) → YieldsOf view image_in told path reads (Ok x)
      → MatchResult result (λ y. next (view x) ≡ Ok (view_here y)) (λ failure. IsFailureOf (next (view x)) failure) → YieldsOf view_here made told path reads result
  made_read x (Ok y) of said = record {
    file = of.file;
    is_file = of.is_file;
    yields = (ap (λ (r : Result ImageParts Failure). r >>= next) of.yields.0 ∙ said, of.yields.1);
  }
  made_read x (Err failure) of said = record {
    file = of.file;
    is_file = of.is_file;
    yields = yields_other view_here (next (view x)) view_here (made of.file) reads failure (λ e. ap (λ (r : Result ImageParts Failure). r >>= next) of.yields.0 ∙ e)
        (yields_failure view_here (next (view x)) reads failure said of.yields.1);
  }

abbrev gives_text : List ℕ → Result (List ℕ) Failure
gives_text text = Ok text

-- the report of an image, or want of memory
pub reported : {Y : Type 0} (view : Y → List ℕ) (image : ImageParts) (result : Result Y Failure) → MatchResult result (λ y. view y ≡ report_of image) (λ failure. failure ≡ NoMemory)
    → MatchResult result (λ y. gives_text (report_of image) ≡ gives_text (view y)) (λ failure. IsFailureOf (gives_text (report_of image)) failure)
reported view image (Ok y) is = ap gives_text (sym is)
reported view image (Err failure) is = subst (λ (f : Failure). IsFailureOf (gives_text (report_of image)) f) (sym is) tt

-- ---- what is printed

abbrev fails : Failure → Result Unit Failure
fails failure = Err failure

same_failure : (f g : Failure) → fails f ≡ fails g → f ≡ g
same_failure f g is = cc

pub nothing : (disk : Disk) (out : Stream) → IsUntouched disk → IsStill out → IsNothing disk out []
nothing disk out untouched still = record { untouched = untouched; still = still; none = refl }

pub no_notes : (path : List ℕ) (said : Result (List ℕ) Failure) → (printed path said).notes ≡ []
no_notes path (Ok bytes) = refl
no_notes path (Err failure) = refl

module _ {X : Type 0} (view : X → List ℕ) (path : List ℕ) (disk : Disk) (out err : Stream) (untouched : IsUntouched disk) where
  -- the text of some bytes
  text_ends : (said : Result (List ℕ) Failure) (bytes : List ℕ) (end : Result Unit Failure) → said ≡ Ok bytes → IsKept disk.reads → PrintsTold bytes out err end
      → EndsAs (printed path said) disk out err [] end
  text_ends said bytes (Ok _) is kept prints =
      subst (λ (a : Result (List ℕ) Failure). EndsAs (printed path a) disk out err [] (Ok tt)) (sym is)
      (record { product = Printed bytes; defined = refl; given = (untouched, prints.0, refl); says = prints.1; reads_kept = kept })
  text_ends said bytes (Err failure) is kept prints =
      subst (λ (f : Failure). EndsAs (printed path said) disk out err [] (Err f)) (sym prints.0)
      (subst (λ (a : Result (List ℕ) Failure). EndsAs (printed path a) disk out err [] (Err WriteFault)) (sym is)
      (record { product = Printed bytes; defined = refl; given = (untouched, prints.1, refl); says = prints.2; reads_kept = kept }))

  -- a failure in place of a text
  failure_ends : (said : Result (List ℕ) Failure) (failure : Failure) → Yields view said disk.reads (Err failure) → IsStill out → Says err (line_of path failure ∷ [])
      → Kind failure → EndsAs (printed path said) disk out err [] (Err failure)
  failure_ends said failure yields still says (OfReading e) =
      subst (λ (f : Failure). EndsAs (printed path said) disk out err [] (Err f)) (sym e)
      (record {
        told = [];
        later = [];
        notes = no_notes path said;
        path = path;
        nothing = nothing disk out untouched still;
        says = subst (λ (f : Failure). Says err (line_of path f ∷ [])) e says;
        rose = subst (λ (f : Failure). Yields view said disk.reads (Err f)) e yields;
      })
  failure_ends said failure yields still says (OfWriting e) = absurd (subst (λ (f : Failure). Yields view said disk.reads (Err f)) e yields)
  failure_ends said failure yields still says (OfMemory e) =
      let kept = subst (λ (f : Failure). Yields view said disk.reads (Err f)) e yields in
      subst (λ (f : Failure). EndsAs (printed path said) disk out err [] (Err f)) (sym e)
      (record {
        told = [];
        later = [];
        notes = no_notes path said;
        nothing = nothing disk out untouched still;
        says = subst (λ (f : Failure). Says err (line_of path f ∷ [])) e says;
        reads_later = omega (arith, kept);
      })
  failure_ends said failure yields still says (OfAudit e) = absurd (subst (λ (f : Failure). Yields view said disk.reads (Err f)) e yields)
  failure_ends said failure yields still says (Decided is) =
      let decided = yields_decided view said disk.reads failure is yields in
      decided_ends (printed path said) disk out err [] failure is
      (subst (λ (a : Result (List ℕ) Failure). IsRefused (printed path a) failure disk out err []) (sym decided.0)
      (record { path = path; defined = refl; nothing = nothing disk out untouched still; says = says; reads_kept = decided.1 }))

  pub printed_ends : (said : Option (List ℕ) → Result (List ℕ) Failure) (text : Result X Failure) (end : Result Unit Failure) → (of : YieldsOf view said disk.old path disk.reads text)
      → PrintsOr view path text out err end → EndsAs (printed path (said of.file)) disk out err [] end
  printed_ends said (Ok text) end of prints = text_ends (said of.file) (view text) end of.yields.0 of.yields.1 prints
  printed_ends said (Err failure) end of prints =
      subst (λ (e : Result Unit Failure). EndsAs (printed path (said of.file)) disk out err [] e) (sym prints.0)
      (failure_ends (said of.file) failure of.yields prints.1 prints.2 (kind_of failure))

  -- want of memory leaves the count of failed reads
  pub printed_calm : (said : Option (List ℕ) → Result (List ℕ) Failure) (text : Result X Failure) (end : Result Unit Failure) → YieldsOf view said disk.old path disk.reads text
      → PrintsOr view path text out err end → IsCalm disk.reads end
  printed_calm said (Ok text) end of prints = λ e. of.yields.1
  printed_calm said (Err failure) end of prints = λ e.
      let is = same_failure failure NoMemory (sym prints.0 ∙ e) in
      subst (λ (f : Failure). Yields view (said of.file) disk.reads (Err f)) is of.yields
