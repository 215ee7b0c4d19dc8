-- Which failures the image in a file can have.
use Rattle.std.proofs.Common.{◌≡◌, ℕ, Bool, true, false, cond, List, Option, Some, None, Result, Ok, Err, refl}
use Rattle.cap_base.specs.Check.{number_of, class_of}
use Rattle.cap_base.specs.Steps.{◌>>=◌}
use Rattle.cap_base.specs.declared.check.Check.TheVariants.{FileSize}
use Rattle.cap_base.specs.declared.check.Class.{Class}
use Rattle.cap_base.specs.declared.check.Class.TheVariants as classes
use Rattle.cap_base.specs.declared.refusal.Fault.{Fault}
use Rattle.cap_image.specs.Parts.{ImageParts}
use Rattle.cap_image.specs.Reading.{read_image}
use Rattle.purecap.specs.declared.faults.Failure.{Failure}
use Rattle.purecap.specs.declared.faults.Failure.TheVariants.{NoFile, Malformed, Unsupported, Limit}
use Rattle.purecap.specs.Images.{failure_by, image_or, image_in}

-- the test holds of the failure, where there is one
abbrev pub fails_by : {A : Type 0} → (Failure → Bool) → Result A Failure → Bool
fails_by test (Ok a) = false
fails_by test (Err failure) = test failure

-- a test that holds of no failure of a file
pub record IsOfNoFile (test : Failure → Bool) : Type 0 where
  pub no_file : test NoFile ≡ false
  pub malformed : (check at : ℕ) → test (Malformed check at) ≡ false
  pub unsupported : (check at : ℕ) → test (Unsupported check at) ≡ false
  pub limit : (check : ℕ) → test (Limit check) ≡ false

module _ (test : Failure → Bool) (none : IsOfNoFile test) where
  either : {A : Type 0} (b : Bool) (x y : Result A Failure) → fails_by test x ≡ false → fails_by test y ≡ false → fails_by test (cond b x y) ≡ false
  either true x y xs ys = xs
  either false x y xs ys = ys

  class_fails : (class : Class) (check at : ℕ) → test (failure_by class check at) ≡ false
  class_fails classes.Malformed check at = none.malformed check at
  class_fails classes.Unsupported check at = none.unsupported check at
  class_fails classes.Limit check at = none.limit check

  or_fails : (image : Result ImageParts Fault) → fails_by test (image_or image) ≡ false
  or_fails (Ok image) = refl
  or_fails (Err fault) = class_fails (class_of fault.check) (number_of fault.check) fault.at

  pub image_fails : (file : Option (List ℕ)) → fails_by test (image_in file) ≡ false
  image_fails None = none.no_file
  image_fails (Some bytes) = either _ (Err (Limit (number_of FileSize))) (image_or (read_image bytes)) (none.limit (number_of FileSize)) (or_fails (read_image bytes))

  -- nor of what is made of the image
  pub made_fails : {B : Type 0} (next : ImageParts → Result B Failure) → ((image : ImageParts) → fails_by test (next image) ≡ false) → (given : Result ImageParts Failure) → fails_by test given ≡ false
      → fails_by test (given >>= next) ≡ false
  made_fails next more (Ok image) fails = more image
  made_fails next more (Err failure) fails = fails
