-- Causes of refusals, step by step.
use Rattle.std.proofs.Common.{◌≡◌, ℕ, ◌⊎◌, inl, inr, Bool, true, false, Result, Ok, Err, List, refl, sym, ap, ◌∙◌, subst}
use Rattle.std.specs.Prelude.{not}
use Rattle.cap_base.specs.Check.{class_of, number_of, row_of}
use Rattle.cap_base.specs.Refusal.{refusal_of, by_class}
use Rattle.cap_base.specs.Steps.{◌>>=◌, ◌>>◌, fault}
use Rattle.cap_base.specs.declared.check.Check.TheVariants.{HashChain}
use Rattle.cap_base.specs.declared.check.Class.TheVariants as classes
use Rattle.cap_base.specs.declared.refusal.Refusal.{Refusal}
use Rattle.cap_base.specs.declared.refusal.Refusal.TheVariants as refusals
use Rattle.cap_elf.specs.DynView.{DynValue, DynRecords, dyn_view}
use Rattle.cap_reloc.specs.Refusing.{refuse}
use Rattle.cap_scope.specs.Making.{has_sound_table as is_sound_file}
use Rattle.cap_session.specs.declared.refusal.OpenCause.{OpenCause}
use Rattle.cap_session.specs.declared.refusal.OpenCause.TheVariants.{NoFile, Malformed, Unsupported, Unresolved, Inexact, Full, Limit, ReadFault, NoMemory}
use Rattle.cap_session.specs.Causes.{IsCausedBy, refusal_cause}
use Rattle.cap_session.specs.Loading.{cause_of, has_sound_table, records_from, refusal_as}

chain_class : class_of HashChain ≡ classes.Malformed
unfolding row_of
chain_class = refl

-- an object that its hash table refuses
pub adopt_refused : (bytes : List ℕ) (file : DynValue) (refusal : Refusal) → dyn_view bytes ≡ Ok file.records
    → ((refusal ≡ refusals.NoMemory) ⊎ ((refusal ≡ refusal_of file.number (fault HashChain file.records.hash_at)) × (is_sound_file file ≡ false)))
    → IsCausedBy (records_from bytes) (refusal_cause refusal)
adopt_refused bytes file refusal view (inl e) = subst (λ (r : Refusal). IsCausedBy (records_from bytes) (refusal_cause r)) (sym e) tt
adopt_refused bytes file refusal view (inr h) =
    let records = file.records in
    let at = records.hash_at in
    let gives : records_from bytes ≡ Err (Malformed (number_of HashChain) at) =
    ap (λ d. refusal_as cause_of d >>= λ records. refuse (not (has_sound_table records)) (Malformed (number_of HashChain) records.hash_at) >> Ok records) view
    ∙ ap (λ b. refuse (not b) (Malformed (number_of HashChain) at) >> Ok records) h.1 in
    let is : by_class (class_of HashChain) file.number (number_of HashChain) at ≡ refusals.Malformed file.number (number_of HashChain) at =
    ap (λ k. by_class k file.number (number_of HashChain) at) chain_class in
    subst (λ (r : Refusal). IsCausedBy (records_from bytes) (refusal_cause r)) (sym (h.0 ∙ is)) gives
