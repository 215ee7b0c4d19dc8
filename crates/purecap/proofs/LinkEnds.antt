-- How `link` ends, from what its steps give.
use Rattle.std.proofs.Common.{◌≡◌, ℕ, Bool, true, false, cond, List, [], ◌∷◌, ◌++◌, Option, Some, None, Result, Ok, Err, refl, sym, subst, arith}
use Rattle.cap_base.specs.Check.{number_of}
use Rattle.cap_base.specs.Outside.{Store}
use Rattle.cap_base.specs.Steps.{◌>>=◌, steps}
use Rattle.cap_base.specs.declared.check.Check.TheVariants.{FileSize, InputSize}
use Rattle.cap_base.specs.declared.refusal.Refusal.{Refusal}
use Rattle.cap_base.specs.declared.refusal.Refusal.TheVariants as refusals
use Rattle.cap_link.specs.Inputs.{Input}
use Rattle.cap_link.specs.Linked.{linked_file, refused_name}
use Rattle.purecap.specs.declared.faults.Failure.{Failure}
use Rattle.purecap.specs.declared.faults.Failure.TheVariants.{Usage, NoFile, Malformed, Unsupported, Unresolved, Inexact, Full, Limit, ReadFault, WriteFault, NoMemory, NoWord, Differs}
use Rattle.purecap.specs.Faults.{line_of}
use Rattle.purecap.specs.LinkWords.{LinkWords}
use Rattle.purecap.specs.Story.{Product, Printed, Saved, Differing, Stop, stop_at}
use Rattle.purecap.specs.Linking.{Found, input_of, with_input, input_step, inputs_of, kind_of, link_failure, linked_by, linked, link_end, link_story}
use Rattle.purecap.specs.Run.{Count, counted, Stream, streamed, Disk, stored, IsStill, IsKept, IsUntouched, IsNothing, EndsAs, Says, Links}
use Rattle.purecap.specs.Calling.{SavesFile}
use Rattle.purecap.specs.Inputs.{StopsAs, LinksFiles}
use Rattle.purecap.proofs.Said.{first_line}
use Rattle.purecap.proofs.Ways.{of_no_file}

-- ---- a stop, and a file that was written

module _ (words : LinkWords) (found : List Found) (disk : Disk) (out err : Stream) (nothing : IsNothing disk out []) where
  stops_end : (path : List ℕ) (failure : Failure) → StopsAs (link_end words found) disk.reads path failure → Says err (line_of path failure ∷ []) → EndsAs (link_story words found) disk out err [] (Err failure)
  stops_end path Usage is says = record { path = path; defined = is.0; nothing = nothing; says = says; reads_kept = is.1 }
  stops_end path NoFile is says = record { path = path; defined = is.0; nothing = nothing; says = says; reads_kept = is.1 }
  stops_end path (Malformed check at) is says = record { path = path; defined = is.0; nothing = nothing; says = says; reads_kept = is.1 }
  stops_end path (Unsupported check at) is says = record { path = path; defined = is.0; nothing = nothing; says = says; reads_kept = is.1 }
  stops_end path (Unresolved name) is says = record { path = path; defined = is.0; nothing = nothing; says = says; reads_kept = is.1 }
  stops_end path (Inexact name base len) is says = record { path = path; defined = is.0; nothing = nothing; says = says; reads_kept = is.1 }
  stops_end path (Full asked) is says = record { path = path; defined = is.0; nothing = nothing; says = says; reads_kept = is.1 }
  stops_end path (Limit check) is says = record { path = path; defined = is.0; nothing = nothing; says = says; reads_kept = is.1 }
  stops_end path ReadFault is says = record { told = []; later = []; notes = refl; path = path; nothing = nothing; says = says; rose = is }
  stops_end path WriteFault is says = absurd is
  stops_end path NoMemory is says = record { told = []; later = []; notes = refl; nothing = nothing; says = says; reads_later = omega (arith, is) }
  stops_end path (NoWord slot) is says = record { path = path; defined = is.0; nothing = nothing; says = says; reads_kept = is.1 }
  stops_end path Differs is says = absurd is

abbrev fail : Failure → Result Unit Failure
fail failure = Err failure

same_failure : (f g : Failure) → fail f ≡ fail g → f ≡ g
same_failure f g is = cc

pub links_stopped : {X : Type 0} (bytes_of : X → List ℕ) (words : LinkWords) (disk : Disk) (out err : Stream) (stop : Stop) → LinksFiles bytes_of disk.old words disk.reads (Err stop) → IsUntouched disk → IsStill out
    → Says err (line_of stop.path stop.failure ∷ []) → Links words disk out err [] (Err stop.failure)
links_stopped bytes_of words disk out err stop is untouched still says = record {
  found = is.found;
  are_found = is.are_found;
  ends = stops_end words is.found disk out err (record { untouched = untouched; still = still; none = refl }) stop.path stop.failure is.takes says;
  calm = λ e. subst (λ (f : Failure). StopsAs (link_end words is.found) disk.reads stop.path f) (same_failure stop.failure NoMemory e) is.takes;
}

saved_end : (words : LinkWords) (found : List Found) (bytes : List ℕ) (disk : Disk) (out : Stream) (e0 e1 : Option (List ℕ)) (n0 n1 : ℕ) (end : Result Unit Failure)
    → link_end words found ≡ Ok (Saved words.output bytes []) → IsStill out → SavesFile words.output bytes disk (streamed e0 e1 n0 n1) (Ok tt) end
    → EndsAs (link_story words found) disk out (streamed e0 e1 n0 n1) [] end
saved_end words found bytes disk out e0 e1 n0 n1 (Ok _) is still saves =
    record { product = Saved words.output bytes []; defined = is; given = (saves.0, still, refl); says = saves.1; reads_kept = saves.2 }
saved_end words found bytes disk out e0 e1 n0 n1 (Err failure) is still saves =
    subst (λ (f : Failure). EndsAs (link_story words found) disk out (streamed e0 e1 n0 n1) [] (Err f)) (sym saves.0)
    (record {
      product = Saved words.output bytes [];
      defined = is;
      given = (saves.1, still, refl);
      says = first_line e0 e1 n0 n1 _ saves.2.0 saves.2.1;
      reads_kept = saves.3;
    })

saved_kept : (path bytes : List ℕ) (disk : Disk) (err : Stream) (end : Result Unit Failure) → SavesFile path bytes disk err (Ok tt) end → IsKept disk.reads
saved_kept path bytes disk err (Ok _) saves = saves.2
saved_kept path bytes disk err (Err failure) saves = saves.3

pub links_saved : {X : Type 0} (bytes_of : X → List ℕ) (words : LinkWords) (told new : Option Store) (old_writing writing : Option (List ℕ × List ℕ)) (r0 r1 r2 : ℕ) (writes : Count) (out : Stream) (e0 e1 : Option (List ℕ)) (n0 n1 : ℕ)
    (x : X) (end : Result Unit Failure) → LinksFiles bytes_of told words (counted r0 r1) (Ok x) → IsStill out
    → SavesFile words.output (bytes_of x) (stored told new old_writing writing (counted r1 r2) writes) (streamed e0 e1 n0 n1) (Ok tt) end
    → Links words (stored told new old_writing writing (counted r0 r2) writes) out (streamed e0 e1 n0 n1) [] end
links_saved bytes_of words told new old_writing writing r0 r1 r2 writes out e0 e1 n0 n1 x end is still saves =
    let bytes = bytes_of x in
    let from_start = subst (λ (n : ℕ). SavesFile words.output bytes (stored told new old_writing writing (counted n r2) writes) (streamed e0 e1 n0 n1) (Ok tt) end) is.takes.1 saves in
    record {
      found = is.found;
      are_found = is.are_found;
      ends = saved_end words is.found bytes (stored told new old_writing writing (counted r0 r2) writes) out e0 e1 n0 n1 end is.takes.0 still from_start;
      calm = λ e. saved_kept words.output bytes (stored told new old_writing writing (counted r0 r2) writes) (streamed e0 e1 n0 n1) end from_start;
    }

-- ---- what every end is

-- a file without memories, or a failure that the words do not give
abbrev pub IsLinkEnd : Result Product Stop → Type 0
IsLinkEnd (Ok (Printed output)) = ⊥
IsLinkEnd (Ok (Saved name bytes memories)) = memories ≡ []
IsLinkEnd (Ok (Differing path output)) = ⊥
IsLinkEnd (Err stop) = of_no_file stop.failure ≡ false

abbrev StopsSo : {X : Type 0} → Result X Stop → Type 0
StopsSo (Ok x) = Unit {0}
StopsSo (Err stop) = of_no_file stop.failure ≡ false

bind_so : {X Y : Type 0} (said : Result X Stop) (next : X → Result Y Stop) → StopsSo said → ((x : X) → StopsSo (next x)) → StopsSo (said >>= next)
bind_so (Ok x) next is more = more x
bind_so (Err stop) next is more = is

bind_end : {X : Type 0} (said : Result X Stop) (next : X → Result Product Stop) → StopsSo said → ((x : X) → IsLinkEnd (next x)) → IsLinkEnd (said >>= next)
bind_end (Ok x) next is more = more x
bind_end (Err stop) next is more = is

cond_so : {X : Type 0} (b : Bool) (x y : Result X Stop) → StopsSo x → StopsSo y → StopsSo (cond b x y)
cond_so true x y xs ys = xs
cond_so false x y xs ys = ys

input_so : (word : List ℕ) (file : Option (List ℕ)) → StopsSo (input_of word file)
input_so word None = refl
input_so word (Some bytes) = cond_so _ (Err (stop_at word (Limit (number_of FileSize)))) (Ok (word, bytes)) refl tt

with_so : (inputs : List Input) (input : Input) → StopsSo (with_input inputs input)
with_so inputs input = cond_so _ (Err (stop_at input.0 (Limit (number_of InputSize)))) (Ok (inputs ++ input ∷ [])) refl tt

step_so : (inputs : List Input) (found : Found) → StopsSo (input_step inputs found)
unfolding input_step
step_so inputs found = bind_so (input_of found.0 found.1) (with_input inputs) (input_so found.0 found.1) (with_so inputs)

steps_so : (inputs : List Input) (found : List Found) → StopsSo (steps input_step inputs found)
steps_so inputs [] = tt
steps_so inputs (f ∷ found) = bind_so (input_step inputs f) (λ b. steps input_step b found) (step_so inputs f) (λ b. steps_so b found)

refusal_so : (name : List ℕ) (refusal : Refusal) → of_no_file (link_failure name refusal) ≡ false
refusal_so name (refusals.Malformed file check at) = refl
refusal_so name (refusals.Unsupported file check at) = refl
refusal_so name (refusals.Unresolved file symbol) = refl
refusal_so name (refusals.Full asked room) = refl
refusal_so name (refusals.Limit check) = refl
refusal_so name refusals.NoMemory = refl

linked_by_is : (words : LinkWords) (inputs : List Input) (given : Result (List ℕ) Refusal) → IsLinkEnd (linked_by words inputs given)
linked_by_is words inputs (Ok bytes) = refl
linked_by_is words inputs (Err refusal) = refusal_so (refused_name inputs refusal) refusal

linked_is : (words : LinkWords) (inputs : List Input) → IsLinkEnd (linked words inputs)
unfolding linked
linked_is words inputs = linked_by_is words inputs (linked_file inputs (kind_of words.soname))

pub link_end_is : (words : LinkWords) (found : List Found) → IsLinkEnd (link_end words found)
link_end_is words found = bind_end (inputs_of found) (linked words) (steps_so [] found) (linked_is words)
