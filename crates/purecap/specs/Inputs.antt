-- How the steps of `link` go.
use Rattle.std.specs.Prelude.{◌≡◌, ℕ, List, [], ◌++◌, Option, IfSome, Result, Ok, Err}
use Rattle.cap_base.specs.Outside.{Store, file_in}
use Rattle.cap_link.specs.Inputs.{Input}
use Rattle.purecap.specs.declared.faults.Failure.{Failure}
use Rattle.purecap.specs.declared.faults.Failure.TheVariants.{ReadFault, WriteFault, NoMemory, Differs}
use Rattle.purecap.specs.LinkWords.{LinkWords}
use Rattle.purecap.specs.Story.{Saved, Stop, stop_at}
use Rattle.purecap.specs.Linking.{Found, input_of, input_step, inputs_of, link_end}
use Rattle.purecap.specs.Run.{Count, IsKept, HasRisen, AreFound}

-- a step stops as is said here, unless a read failed or memory ran out
abbrev pub StopsAs : {Y : Type 0} → Result Y Stop → Count → List ℕ → Failure → Type 0
StopsAs said reads path ReadFault = HasRisen reads
StopsAs said reads path WriteFault = ⊥
StopsAs said reads path NoMemory = IsKept reads
StopsAs said reads path Differs = ⊥
StopsAs said reads path failure = (said ≡ Err (stop_at path failure)) × IsKept reads

-- a step gives, seen by view, what is said here, or stops
abbrev pub Takes : {X Y : Type 0} → (X → Y) → Result Y Stop → Count → Result X Stop → Type 0
Takes view said reads (Ok x) = (said ≡ Ok (view x)) × IsKept reads
Takes view said reads (Err stop) = StopsAs said reads stop.path stop.failure

-- a step that reads no file
abbrev pub Makes : {X Y : Type 0} → (X → Y) → Result Y Stop → Result X Stop → Type 0
Makes view said result = (reads : Count) → IsKept reads → Takes view said reads result

-- what a store has under a word, where it tells its files
abbrev pub Has : Option Store → List ℕ → Option (List ℕ) → Type 0
Has told word file = IfSome told (λ store. file ≡ file_in store word)

-- a file of these bytes was read, by what the store has under its word
pub record Fetches {X : Type 0} (bytes_of : X → List ℕ) (told : Option Store) (word : List ℕ) (reads : Count) (result : Result X Stop) : Type 0 where
  pub file : Option (List ℕ)
  pub is_file : Has told word file
  pub takes : Takes (λ x. (word, bytes_of x)) (input_of word file) reads result

-- a file was read behind other inputs; these are all
pub record ReadsOne {X : Type 0} (told : Option Store) (word : List ℕ) (reads : Count) (old new : List Input) (result : Result X Stop) : Type 0 where
  pub file : Option (List ℕ)
  pub is_file : Has told word file
  pub takes : Takes (λ _. new) (input_step old (word, file)) reads result

-- the files of some words were read, and others are left
pub record HasRead (told : Option Store) (words left : List (List ℕ)) (reads : Count) (inputs : List Input) : Type 0 where
  pub begun : List (List ℕ)
  pub words_are : words ≡ begun ++ left
  pub found : List Found
  pub are_found : AreFound told begun found
  pub gives : inputs_of found ≡ Ok inputs
  pub reads_kept : IsKept reads

-- the files of all words were read, or one of them was not
pub record ReadsAll (told : Option Store) (words : List (List ℕ)) (reads : Count) (result : Result (List Input) Stop) : Type 0 where
  pub found : List Found
  pub are_found : AreFound told words found
  pub takes : Takes (λ inputs. inputs) (inputs_of found) reads result

-- a linked file of these bytes was made
pub record LinksFiles {X : Type 0} (bytes_of : X → List ℕ) (told : Option Store) (words : LinkWords) (reads : Count) (result : Result X Stop) : Type 0 where
  pub found : List Found
  pub are_found : AreFound told words.inputs found
  pub takes : Takes (λ x. Saved words.output (bytes_of x) []) (link_end words found) reads result
