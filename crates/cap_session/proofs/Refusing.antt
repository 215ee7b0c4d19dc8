-- Refusals, step by step.
use Rattle.std.proofs.Common.{◌≡◌, ℕ, inl, inr, Bool, true, false, Result, Ok, Err, List, [], refl, sym, ap, ◌∙◌, subst}
use Rattle.cap_base.specs.Steps.{◌>>=◌}
use Rattle.cap_session.specs.declared.refusal.OpenCause.{OpenCause}
use Rattle.cap_session.specs.declared.refusal.OpenCause.TheVariants.{NoFile, Malformed, Unsupported, Unresolved, Inexact, Full, Limit, ReadFault, NoMemory}
use Rattle.cap_session.specs.declared.refusal.OpenRefusal.{OpenRefusal}
use Rattle.cap_session.specs.Adding.{TellsPath, is_no_memory}
use Rattle.cap_session.specs.Causes.{IsCausedBy}
use Rattle.cap_session.specs.Loading.{at_path, refusal_as}
use Rattle.cap_session.specs.Refused.{IsRefusedBy, NamesNoFile}

told_at : {T : Type 0} (w : Result T OpenCause) (path : List ℕ) (cause : OpenCause) → is_no_memory cause ≡ false → IsCausedBy w cause → IsRefusedBy (refusal_as (at_path path) w) (at_path path cause) cause
told_at w path NoFile n h = ap (refusal_as (at_path path)) h
told_at w path (Malformed check at) n h = ap (refusal_as (at_path path)) h
told_at w path (Unsupported check at) n h = ap (refusal_as (at_path path)) h
told_at w path (Unresolved name) n h = ap (refusal_as (at_path path)) h
told_at w path (Inexact name base len) n h = ap (refusal_as (at_path path)) h
told_at w path (Full asked left) n h = ap (refusal_as (at_path path)) h
told_at w path (Limit check) n h = ap (refusal_as (at_path path)) h
told_at w path ReadFault n h = tt
told_at w path NoMemory n h = absurd cc

-- a cause, told with its path
pub refused_at : {T : Type 0} (w : Result T OpenCause) (path : List ℕ) (cause : OpenCause) (refusal : OpenRefusal) → TellsPath path cause refusal → IsCausedBy w cause
    → IsRefusedBy (refusal_as (at_path path) w) refusal refusal.cause
refused_at w path cause refusal (inl h) by = subst (λ (k : OpenCause). IsRefusedBy (refusal_as (at_path path) w) refusal k) (sym h.0) h.1
refused_at w path cause refusal (inr h) by = subst (λ (r : OpenRefusal). IsRefusedBy (refusal_as (at_path path) w) r r.cause) (sym h.0) (told_at w path cause h.1 by)

-- a refusal of one result is one of another that ends with it
pub refused_too : {T U : Type 0} (w : Result T OpenRefusal) (v : Result U OpenRefusal) (refusal : OpenRefusal) (cause : OpenCause) → (w ≡ Err refusal → v ≡ Err refusal) → IsRefusedBy w refusal cause → IsRefusedBy v refusal cause
refused_too w v refusal NoFile f h = f h
refused_too w v refusal (Malformed check at) f h = f h
refused_too w v refusal (Unsupported check at) f h = f h
refused_too w v refusal (Unresolved name) f h = f h
refused_too w v refusal (Inexact name base len) f h = f h
refused_too w v refusal (Full asked left) f h = f h
refused_too w v refusal (Limit check) f h = f h
refused_too w v refusal ReadFault f h = tt
refused_too w v refusal NoMemory f h = h

-- a step that refuses
pub bind_refused : {T U : Type 0} (w : Result T OpenRefusal) (f : T → Result U OpenRefusal) (refusal : OpenRefusal) → w ≡ Err refusal → (w >>= f) ≡ Err refusal
bind_refused w f refusal h = ap (λ r. r >>= f) h

pub as_refused : {T U : Type 0} (view : OpenCause → OpenRefusal) (w : Result T OpenCause) (f : T → Result U OpenCause) (refusal : OpenRefusal)
    → refusal_as view w ≡ Err refusal → refusal_as view (w >>= f) ≡ Err refusal
as_refused view (Ok x) f refusal h = absurd cc
as_refused view (Err e) f refusal h = refused_err (view e) refusal h
  where
    refused_err : {A B : Type 0} (a b : OpenRefusal) → ◌≡◌ {A = Result A OpenRefusal} (Err a) (Err b) → ◌≡◌ {A = Result B OpenRefusal} (Err a) (Err b)
    refused_err a b h = cc

pub tells_starved : (path : List ℕ) (cause : OpenCause) (refusal : OpenRefusal) → TellsPath path cause refusal → NamesNoFile refusal
tells_starved path cause refusal (inl h) e = h.1
tells_starved path cause refusal (inr h) e =
    let same : cause ≡ NoMemory = sym (ap (λ (r : OpenRefusal). r.cause) h.0) ∙ e in
    let none : is_no_memory NoMemory ≡ false = subst (λ (c : OpenCause). is_no_memory c ≡ false) same h.1 in
    let no : true ≡ false = none in cc
