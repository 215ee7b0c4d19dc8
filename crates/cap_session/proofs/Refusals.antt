-- A refused relocation refuses the call.
use Rattle.std.proofs.Common.{◌≡◌, ℕ, List, [], refl, ap, sym, ◌∙◌, subst, ⊎_elim}
use Rattle.std.specs.Prelude.{◌≢◌, Result, Ok, Err}
use Rattle.cap_base.specs.Steps.{◌>>=◌}
use Rattle.cap_scope.specs.declared.choice.Rule.{Rule}
use Rattle.cap_scope.specs.Chosen.{object_at}
use Rattle.cap_reloc.specs.declared.refusal.RelocRefusal.{RelocRefusal}
use Rattle.cap_reloc.specs.declared.refusal.RelocRefusal.TheVariants as relocs
use Rattle.cap_reloc.specs.Binding.{IsRefusedBy as IsRelocRefusedBy}
use Rattle.cap_reloc.specs.Wanted.{Pair, Setting, wanted_pairs}
use Rattle.cap_reloc.specs.Stored.{with_pairs}
use Rattle.cap_session.specs.declared.refusal.OpenCause.{OpenCause}
use Rattle.cap_session.specs.declared.refusal.OpenCause.TheVariants.{NoFile, Malformed, Unsupported, Unresolved, Inexact, Full, Limit, ReadFault, NoMemory}
use Rattle.cap_session.specs.declared.refusal.OpenRefusal.{OpenRefusal}
use Rattle.cap_session.specs.Binding.{Objects, Tells, Rebinds, Relocates, memory_at, with_memory, pairs_for, reloc_refusal, setting_with}
use Rattle.cap_session.specs.Loading.{refusal_as}
use Rattle.cap_session.specs.Refused.{IsRefusedBy}
use Rattle.cap_session.specs.Roster.{RosterValue}
use Rattle.cap_session.specs.Scope.{Opening, scope_of}

-- what refuses a first step refuses all
pub refused_bind : {A B : Type 0} (r : Result A OpenRefusal) (f : A → Result B OpenRefusal) (refusal : OpenRefusal) (cause : OpenCause) → IsRefusedBy r refusal cause → IsRefusedBy (r >>= f) refusal cause
refused_bind r f refusal NoFile h = rw h refl
refused_bind r f refusal (Malformed check at) h = rw h refl
refused_bind r f refusal (Unsupported check at) h = rw h refl
refused_bind r f refusal (Unresolved name) h = rw h refl
refused_bind r f refusal (Inexact name base len) h = rw h refl
refused_bind r f refusal (Full asked left) h = rw h refl
refused_bind r f refusal (Limit check) h = rw h refl
refused_bind r f refusal ReadFault h = tt
refused_bind r f refusal NoMemory h = h

-- want of memory
pub refused_memory : {A : Type 0} (r : Result A OpenRefusal) (refusal : OpenRefusal) → refusal.path ≡ [] → refusal.cause ≡ NoMemory → IsRefusedBy r refusal refusal.cause
refused_memory r refusal p c = subst (λ (cause : OpenCause). IsRefusedBy r refusal cause) (sym c) p

told : (dir : List ℕ) (objects : Objects) (i : ℕ) (wanted : Result (List Pair) RelocRefusal) (refusal : RelocRefusal) → IsRelocRefusedBy wanted refusal → refusal ≢ relocs.NoMemory
    → IsRefusedBy (refusal_as (reloc_refusal dir objects i) wanted) (reloc_refusal dir objects i refusal) (reloc_refusal dir objects i refusal).cause
told dir objects i wanted (relocs.Malformed check at) h some = ap (refusal_as (reloc_refusal dir objects i)) h
told dir objects i wanted (relocs.Unsupported check at) h some = ap (refusal_as (reloc_refusal dir objects i)) h
told dir objects i wanted (relocs.Unresolved symbol) h some = ap (refusal_as (reloc_refusal dir objects i)) h
told dir objects i wanted (relocs.Inexact hit base len) h some = ap (refusal_as (reloc_refusal dir objects i)) h
told dir objects i wanted relocs.NoMemory h some = absurd (some refl)

pub refused_as : (dir : List ℕ) (objects : Objects) (i : ℕ) (wanted : Result (List Pair) RelocRefusal) (refusal : RelocRefusal) (result : OpenRefusal) → IsRelocRefusedBy wanted refusal
    → Tells (reloc_refusal dir objects i refusal) refusal result → IsRefusedBy (refusal_as (reloc_refusal dir objects i) wanted) result result.cause
refused_as dir objects i wanted refusal result h t =
    ⊎_elim (λ (none : (result.path ≡ []) × (result.cause ≡ NoMemory)). refused_memory (refusal_as (reloc_refusal dir objects i) wanted) result none.0 none.1)
    (λ (said : (result ≡ reloc_refusal dir objects i refusal) × (refusal ≢ relocs.NoMemory)).
    subst (λ (r : OpenRefusal). IsRefusedBy (refusal_as (reloc_refusal dir objects i) wanted) r r.cause) (sym said.0) (told dir objects i wanted refusal h said.1))
    t

-- an object that was relocated with its scope
pub relocates_ok : (rule : Rule) (objects : Objects) (start_count : ℕ) (openings : List Opening) (i : ℕ) (scope dir : List ℕ) (old new : RosterValue)
    → scope ≡ scope_of (object_at objects.records i).symbolic start_count openings i
    → Rebinds {T = Unit {0}} (setting_with rule objects scope i) old new (Ok tt) → Relocates {T = Unit {0}} (pairs_for rule dir objects start_count openings i) i old new (Ok tt)
relocates_ok rule objects start_count openings i scope dir old new e h =
    let said = subst (λ (s : List ℕ). wanted_pairs (setting_with rule objects s i) ≡ Ok h.0) e h.1 in
    (h.0, ap (refusal_as (reloc_refusal dir objects i)) said, h.2)

-- an object that was refused
pub relocates_err : (rule : Rule) (objects : Objects) (start_count : ℕ) (openings : List Opening) (i : ℕ) (scope dir : List ℕ) (old new : RosterValue) (refusal : RelocRefusal) (result : OpenRefusal)
    → scope ≡ scope_of (object_at objects.records i).symbolic start_count openings i
    → Rebinds {T = Unit {0}} (setting_with rule objects scope i) old new (Err refusal) → Tells (reloc_refusal dir objects i refusal) refusal result
    → Relocates {T = Unit {0}} (pairs_for rule dir objects start_count openings i) i old new (Err result)
relocates_err rule objects start_count openings i scope dir old new refusal result e h t =
    let said = subst (λ (s : List ℕ). IsRelocRefusedBy (wanted_pairs (setting_with rule objects s i)) refusal) e h.0 in
    (refused_as dir objects i (wanted_pairs (setting_with rule objects (scope_of (object_at objects.records i).symbolic start_count openings i) i)) refusal result said t, h.1)
