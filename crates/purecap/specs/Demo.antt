-- What `demo` comes to, by its number.
use Rattle.std.specs.Prelude.{ℕ, ◌-◌, ◌^◌, ◌%◌, List, [], ◌∷◌, ◌++◌, length, map, flat_map, take, drop, sum, codes, decimal, Option, Some, None, Result, Ok, Err}
use Rattle.std.specs.List.{zip}
use Rattle.cap_base.specs.Fakes.{store_of}
use Rattle.cap_base.specs.Outside.{Store, with_file}
use Rattle.cap_base.specs.Steps.{◌>>=◌}
use Rattle.cap_demo.specs.Objects.{demo_files}
use Rattle.cap_image.specs.Parts.{ImageObject, ImageParts, tagged_granules}
use Rattle.cap_image.specs.Report.{hex, last_line, word_count, word_in}
use Rattle.cap_image.specs.Writing.{image_bytes}
use Rattle.cap_link.specs.Inputs.{Input}
use Rattle.cap_scope.specs.declared.choice.Rule.TheVariants.{NonWeak}
use Rattle.cap_session.specs.declared.refusal.Mode.TheVariants.{Global}
use Rattle.cap_session.specs.declared.refusal.OpenCause.{OpenCause}
use Rattle.cap_session.specs.declared.refusal.OpenCause.TheVariants as causes
use Rattle.cap_session.specs.declared.refusal.OpenRefusal.{OpenRefusal}
use Rattle.cap_session.specs.Loading.{fetch_from}
use Rattle.cap_session.specs.State.{State, started, opened}
use Rattle.purecap.specs.declared.faults.Failure.{Failure}
use Rattle.purecap.specs.declared.faults.Failure.TheVariants.{NoMemory}
use Rattle.purecap.specs.Faults.{failure_of}
use Rattle.purecap.specs.LinkWords.{LinkWords}
use Rattle.purecap.specs.Linking.{linked}
use Rattle.purecap.specs.Story.{Differing, Product, Printed, Saved, Stop, stop_at}

-- ---- the objects

abbrev pub object_names : List (List ℕ)
object_names =
    codes "d0.o" ∷ codes "d1.o" ∷ codes "d2.o" ∷ codes "d3.o" ∷ codes "d4.o" ∷ codes "d5.o" ∷ codes "d6.o" ∷ codes "d7.o" ∷ []

-- the objects of a number, each under its name
unfoldable pub demo_objects : ℕ → List Input
demo_objects number = zip object_names (demo_files number)

-- ---- the files that they are linked to

-- a link of these inputs, to a shared object where there is a name
abbrev pub link_for : List ℕ → Option (List ℕ) → List Input → LinkWords
link_for output soname inputs = record { output = output; soname = soname; inputs = map (λ i. i.0) inputs }

abbrev pub product_bytes : Product → List ℕ
product_bytes (Printed output) = output
product_bytes (Saved name bytes memories) = bytes
product_bytes (Differing path output) = output

-- the bytes of the linked file
unfoldable pub linked_bytes : List ℕ → Option (List ℕ) → List Input → Result (List ℕ) Stop
linked_bytes output soname inputs = linked (link_for output soname inputs) inputs >>= λ product. Ok (product_bytes product)

-- the linked files in a store: the program, the library that it needs, and one that it does not
unfoldable pub demo_store : List ℕ → List ℕ → List ℕ → Store
demo_store program needed other =
    with_file (with_file (with_file (store_of []) (codes "d") program) (codes "./d.so") needed) (codes "./e.so") other

unfoldable pub linked_parts : List Input → List Input → List Input → Result Store Stop
linked_parts needed_objects program_objects other_objects = do
  needed ← linked_bytes (codes "d.so") (Some (codes "d.so")) needed_objects
  other ← linked_bytes (codes "e.so") (Some (codes "e.so")) other_objects
  program ← linked_bytes (codes "d") None (program_objects ++ (codes "d.so", needed) ∷ [])
  Ok (demo_store program needed other)

-- the first three objects are the library that the program needs, the last two the other, and those between the program
unfoldable pub demo_linked : ℕ → Result Store Stop
demo_linked number =
    let objects = demo_objects number in
    linked_parts (take 3 objects) (take 3 (drop 3 objects)) (drop 6 objects)

-- ---- the load

-- the failure of a start or a call; reads of files in memory do not fail
abbrev pub demo_failure : OpenCause → Failure
demo_failure causes.ReadFault = NoMemory
demo_failure cause = failure_of cause

abbrev pub or_stop : {X : Type 0} → Result X OpenRefusal → Result X Stop
or_stop (Ok x) = Ok x
or_stop (Err refusal) = Err (stop_at refusal.path (demo_failure refusal.cause))

-- the program is started, and then the other library opened
unfoldable pub demo_started : Store → Result State Stop
demo_started store = or_stop (started (fetch_from store) (codes ".") (codes "d") NonWeak)

unfoldable pub demo_opened : Store → State → Result State Stop
demo_opened store state = or_stop (opened (fetch_from store) (codes ".") NonWeak state (codes "e.so") Global)

-- ---- the summary

-- the address of the word at a granule of an object
abbrev pub address_at : ImageObject → ℕ → ℕ
address_at o granule = (word_in o.bytes (granule - o.base)).address

-- the addresses of the tagged words of an object, and of an image
unfoldable pub object_addresses : ImageObject → List ℕ
object_addresses o = map (address_at o) (tagged_granules o)

abbrev pub word_addresses : ImageParts → List ℕ
word_addresses image = flat_map object_addresses image.objects

unfoldable pub number_line : ℕ → List ℕ
number_line number = codes "demo " ++ decimal number ++ codes "\n"

-- how many bytes an image has, with a sum
unfoldable pub image_line : ℕ → ℕ → List ℕ
image_line size total = codes "image " ++ decimal size ++ codes " sum 0x" ++ hex 16 total ++ codes "\n"

-- the number, the last line of the report, and the line of the image
unfoldable pub summary_lines : ℕ → List ℕ → ℕ → ℕ → List ℕ
summary_lines number report_end size total = number_line number ++ report_end ++ image_line size total

unfoldable pub summary_of : ℕ → ImageParts → List ℕ
summary_of number image =
    summary_lines number (last_line (length image.objects) (word_count image)) (length (image_bytes image)) (sum (word_addresses image) % 2 ^ 64)
