-- What a command comes to.
use Rattle.std.specs.Prelude.{ℕ, List, [], Result, Err}
use Rattle.cap_mem.specs.Tagged.{TaggedMemory}
use Rattle.cap_session.specs.declared.refusal.OpenRefusal.{OpenRefusal}
use Rattle.purecap.specs.declared.faults.Failure.{Failure}

-- what a command gives: bytes on standard output; or a file of this name and these bytes, and the memories of what was
-- loaded; or bytes on standard output that say how the image of this path differs from the one that was wanted
pub data Product : Type 0 where
  Printed : List ℕ → Product
  Saved : List ℕ → List ℕ → List TaggedMemory → Product
  Differing : List ℕ → List ℕ → Product

-- a failure, over the file of this path
pub record Stop : Type 0 where
  pub path : List ℕ
  pub failure : Failure

abbrev pub stop_at : List ℕ → Failure → Stop
stop_at path failure = record { path = path; failure = failure }

-- what a command comes to, if its words and the files alone decide: the refusals that it passes over, and what it gives
-- or why it fails
pub record Story : Type 0 where
  pub notes : List OpenRefusal
  pub «end» : Result Product Stop

abbrev pub stopped : List ℕ → Failure → Story
stopped path failure = record { notes = []; «end» = Err (stop_at path failure) }
