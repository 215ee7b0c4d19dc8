-- How `demo` ends, from what its steps give.
use Rattle.std.proofs.Common.{◌≡◌, ℕ, Bool, true, false, List, [], ◌∷◌, ◌++◌, codes, Option, Some, None, Result, Ok, Err, refl, sym, ap, subst, arith}
use Rattle.cap_base.specs.Outside.{Store}
use Rattle.cap_base.specs.Steps.{◌>>=◌}
use Rattle.cap_base.specs.declared.refusal.Refusal.{Refusal}
use Rattle.cap_base.specs.declared.refusal.Refusal.TheVariants as refusals
use Rattle.cap_link.specs.Inputs.{Input}
use Rattle.cap_link.specs.Linked.{linked_file, refused_name}
use Rattle.cap_session.specs.declared.refusal.OpenCause.{OpenCause}
use Rattle.cap_session.specs.declared.refusal.OpenCause.TheVariants as causes
use Rattle.cap_session.specs.declared.refusal.OpenRefusal.{OpenRefusal}
use Rattle.cap_session.specs.State.{State}
use Rattle.purecap.specs.declared.demo.Halt.{Halt}
use Rattle.purecap.specs.declared.demo.Halt.TheVariants as halts
use Rattle.purecap.specs.declared.faults.Failure.{Failure}
use Rattle.purecap.specs.declared.faults.Failure.TheVariants.{Usage, NoFile, Malformed, Unsupported, Unresolved, Inexact, Full, Limit, ReadFault, WriteFault, NoMemory, NoWord, Differs}
use Rattle.purecap.specs.Faults.{line_of}
use Rattle.purecap.specs.LinkWords.{LinkWords}
use Rattle.purecap.specs.Linking.{kind_of, link_failure, linked, linked_by}
use Rattle.purecap.specs.Story.{Product, Printed, Stop, stop_at}
use Rattle.cap_loaded.specs.Images.{state_image}
use Rattle.purecap.specs.Answer.{demo_story, demo_text, summed}
use Rattle.purecap.specs.Demo.{demo_failure, demo_linked, demo_opened, demo_started, demo_store, link_for, linked_bytes, linked_parts, or_stop, product_bytes, summary_of}
use Rattle.purecap.specs.Run.{Stream, Disk, IsStill, IsKept, IsUntouched, IsNothing, EndsAs, Says, Demos}
use Rattle.purecap.specs.Printing.{PrintsTold}
use Rattle.purecap.specs.Summing.{Halts, Tells}
use Rattle.purecap.proofs.Ways.{of_no_file}

-- ---- what every end is

-- a failure that is none of the words, of a read or of a write
abbrev pub can_end : Failure → Bool
can_end Usage = false
can_end ReadFault = false
can_end WriteFault = false
can_end (NoWord slot) = false
can_end Differs = false
can_end failure = true

abbrev EndsWell : {X : Type 0} → Result X Stop → Type 0
EndsWell (Ok x) = Unit {0}
EndsWell (Err stop) = can_end stop.failure ≡ true

bind_well : {X Y : Type 0} (said : Result X Stop) (next : X → Result Y Stop) → EndsWell said → ((x : X) → EndsWell (next x)) → EndsWell (said >>= next)
bind_well (Ok x) next is more = more x
bind_well (Err stop) next is more = is

refusal_well : (name : List ℕ) (refusal : Refusal) → can_end (link_failure name refusal) ≡ true
refusal_well name (refusals.Malformed file check at) = refl
refusal_well name (refusals.Unsupported file check at) = refl
refusal_well name (refusals.Unresolved file symbol) = refl
refusal_well name (refusals.Full asked room) = refl
refusal_well name (refusals.Limit check) = refl
refusal_well name refusals.NoMemory = refl

linked_by_well : (words : LinkWords) (inputs : List Input) (given : Result (List ℕ) Refusal) → EndsWell (linked_by words inputs given)
linked_by_well words inputs (Ok bytes) = tt
linked_by_well words inputs (Err refusal) = refusal_well (refused_name inputs refusal) refusal

linked_well : (words : LinkWords) (inputs : List Input) → EndsWell (linked words inputs)
unfolding linked
linked_well words inputs = linked_by_well words inputs (linked_file inputs (kind_of words.soname))

bytes_well : (output : List ℕ) (soname : Option (List ℕ)) (inputs : List Input) → EndsWell (linked_bytes output soname inputs)
unfolding linked_bytes
bytes_well output soname inputs = bind_well (linked (link_for output soname inputs) inputs) (λ product. Ok (product_bytes product)) (linked_well (link_for output soname inputs) inputs) (λ product. tt)

parts_well : (a b c : List Input) → EndsWell (linked_parts a b c)
unfolding linked_parts
parts_well a b c =
    bind_well (linked_bytes (codes "d.so") (Some (codes "d.so")) a) _ (bytes_well (codes "d.so") (Some (codes "d.so")) a) (λ needed.
    bind_well (linked_bytes (codes "e.so") (Some (codes "e.so")) c) _ (bytes_well (codes "e.so") (Some (codes "e.so")) c) (λ other.
    bind_well (linked_bytes (codes "d") None (b ++ (codes "d.so", needed) ∷ [])) (λ program. Ok (demo_store program needed other)) (bytes_well (codes "d") None (b ++ (codes "d.so", needed) ∷ [])) (λ program. tt)))

links_well : (number : ℕ) → EndsWell (demo_linked number)
unfolding demo_linked
links_well number = parts_well _ _ _

cause_well : (cause : OpenCause) → can_end (demo_failure cause) ≡ true
cause_well causes.NoFile = refl
cause_well (causes.Malformed check at) = refl
cause_well (causes.Unsupported check at) = refl
cause_well (causes.Unresolved name) = refl
cause_well (causes.Inexact name base len) = refl
cause_well (causes.Full asked room) = refl
cause_well (causes.Limit check) = refl
cause_well causes.ReadFault = refl
cause_well causes.NoMemory = refl

load_well : {X : Type 0} (wanted : Result X OpenRefusal) → EndsWell (or_stop wanted)
load_well (Ok x) = tt
load_well (Err refusal) = cause_well refusal.cause

started_well : (store : Store) → EndsWell (demo_started store)
unfolding demo_started
started_well store = load_well _

opened_well : (store : Store) (state : State) → EndsWell (demo_opened store state)
unfolding demo_opened
opened_well store state = load_well _

text_well : (number : ℕ) → EndsWell (demo_text number)
unfolding demo_text
text_well number =
    bind_well (demo_linked number) _ (links_well number) (λ store.
    bind_well (demo_started store) _ (started_well store) (λ first.
    bind_well (demo_opened store first) (λ next. Ok (summary_of number (state_image next))) (opened_well store first) (λ next. tt)))

-- no end is a failure of the words, and each product is printed
story_well : (given : Result (List ℕ) Stop) → EndsWell given → EndsWell (summed given)
story_well (Ok text) well = tt
story_well (Err stop) well = well

own_failure : (failure : Failure) → can_end failure ≡ true → of_no_file failure ≡ false
own_failure Usage can = cc
own_failure NoFile can = refl
own_failure (Malformed check at) can = refl
own_failure (Unsupported check at) can = refl
own_failure (Unresolved name) can = refl
own_failure (Inexact name base len) can = refl
own_failure (Full asked) can = refl
own_failure (Limit check) can = refl
own_failure ReadFault can = cc
own_failure WriteFault can = cc
own_failure NoMemory can = refl
own_failure (NoWord slot) can = cc
own_failure Differs can = cc

pub demo_fails : (number : ℕ) (stop : Stop) → (demo_story number).«end» ≡ Err stop → of_no_file stop.failure ≡ false
demo_fails number stop is = own_failure stop.failure (subst EndsWell is (story_well (demo_text number) (text_well number)))

pub demo_product : (given : Result (List ℕ) Stop) (product : Product) → summed given ≡ Ok product → (text : List ℕ) × (product ≡ Printed text)
demo_product (Ok text) product is = (text, cc)
demo_product (Err stop) product is = cc

-- ---- how it ends

module _ (number : ℕ) (disk : Disk) (out err : Stream) (untouched : IsUntouched disk) (reads : IsKept disk.reads) where
  nothing : IsStill out → IsNothing disk out []
  nothing still = record { untouched = untouched; still = still; none = refl }

  stopped_so : IsStill out → (path : List ℕ) (failure : Failure) → (demo_story number).«end» ≡ Err (stop_at path failure) → can_end failure ≡ true → Says err (line_of path failure ∷ [])
      → EndsAs (demo_story number) disk out err [] (Err failure)
  stopped_so still path Usage is can says = cc
  stopped_so still path NoFile is can says = record { path = path; defined = is; nothing = nothing still; says = says; reads_kept = reads }
  stopped_so still path (Malformed check at) is can says = record { path = path; defined = is; nothing = nothing still; says = says; reads_kept = reads }
  stopped_so still path (Unsupported check at) is can says = record { path = path; defined = is; nothing = nothing still; says = says; reads_kept = reads }
  stopped_so still path (Unresolved name) is can says = record { path = path; defined = is; nothing = nothing still; says = says; reads_kept = reads }
  stopped_so still path (Inexact name base len) is can says = record { path = path; defined = is; nothing = nothing still; says = says; reads_kept = reads }
  stopped_so still path (Full asked) is can says = record { path = path; defined = is; nothing = nothing still; says = says; reads_kept = reads }
  stopped_so still path (Limit check) is can says = record { path = path; defined = is; nothing = nothing still; says = says; reads_kept = reads }
  stopped_so still path ReadFault is can says = cc
  stopped_so still path WriteFault is can says = cc
  stopped_so still path NoMemory is can says = record { told = []; later = []; notes = refl; nothing = nothing still; says = says; reads_later = omega (arith, reads) }
  stopped_so still path (NoWord slot) is can says = cc
  stopped_so still path Differs is can says = cc

  pub demo_halted : IsStill out → (halt : Halt) (failure : Failure) → Halts halt (demo_text number) → Tells halt err failure → Demos number disk out err [] (Err failure)
  demo_halted still halts.Memory failure is tells = subst (λ (f : Failure). Demos number disk out err [] (Err f)) (sym tells.0) (record {
    ends = record { told = []; later = []; notes = refl; nothing = nothing still; says = tells.1; reads_later = omega (arith, reads) };
    reads_kept = reads;
  })
  demo_halted still (halts.Stop stop) failure is tells = subst (λ (f : Failure). Demos number disk out err [] (Err f)) (sym tells.0) (record {
    ends = stopped_so still stop.path stop.failure (ap summed is) (subst EndsWell is (text_well number)) tells.1;
    reads_kept = reads;
  })

  pub demo_printed : (text : List ℕ) (end : Result Unit Failure) → demo_text number ≡ Ok text → PrintsTold text out err end → Demos number disk out err [] end
  demo_printed text (Ok _) is prints = record {
    ends = record { product = Printed text; defined = ap summed is; given = (untouched, prints.0, refl); says = prints.1; reads_kept = reads };
    reads_kept = reads;
  }
  demo_printed text (Err failure) is prints = subst (λ (f : Failure). Demos number disk out err [] (Err f)) (sym prints.0) (record {
    ends = record { product = Printed text; defined = ap summed is; given = (untouched, prints.1, refl); says = prints.2; reads_kept = reads };
    reads_kept = reads;
  })
