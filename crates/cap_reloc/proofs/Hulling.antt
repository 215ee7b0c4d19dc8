-- The range of code of an object, gathered segment by segment.
use Rattle.std.proofs.Common.{◌≡◌, ℕ, ◌+◌, ◌<◌, ◌≤◌, Bool, true, false, cond, List, [], ◌∷◌, length, get_or, drop, Option, Some, None, refl, sym, ap, ◌∙◌}
use Rattle.std.specs.Prelude.{fold}
use Rattle.std.specs.List.{reduce}
use Rattle.std.proofs.lemmas.List.{drop_more, drop_all}
use Rattle.cap_elf.specs.declared.records.Segment.{Segment}
use Rattle.cap_elf.specs.DynView.{DynRecords}
use Rattle.cap_fits.specs.Places.{hull, code_range, fixed_parts, unless_empty}
use Rattle.cap_reloc.specs.Hulls.{hull_from, is_fixed, interval_of_segment, fixed_part, fixed_from}

hull_from_some : (range : ℕ × ℕ) (parts : List (ℕ × ℕ)) → hull_from (Some range) parts ≡ Some (fold hull range parts)
hull_from_some range [] = refl
hull_from_some range (part ∷ parts) = hull_from_some (hull range part) parts

hull_from_none : (parts : List (ℕ × ℕ)) → hull_from None parts ≡ reduce hull parts
hull_from_none [] = refl
hull_from_none (part ∷ parts) = hull_from_some part parts

pub hull_begins : (object : DynRecords) → hull_from None (fixed_from object.segments object.relro) ≡ code_range object
hull_begins object = hull_from_none (fixed_parts object)

hull_one : (range : Option (ℕ × ℕ)) (s : Segment) (rest : List (ℕ × ℕ)) (b : Bool) → is_fixed s ≡ b → hull_from (hull_from range (fixed_part s)) rest ≡ hull_from range (cond b (interval_of_segment s ∷ rest) rest)
hull_one range s rest false e = rw e refl
hull_one None s rest true e = rw e refl
hull_one (Some range) s rest true e = rw e refl

fixed_cons : (s : Segment) (segments : List Segment) (relro : Option (ℕ × ℕ)) (b : Bool) → is_fixed s ≡ b → fixed_from (s ∷ segments) relro ≡ cond b (interval_of_segment s ∷ fixed_from segments relro) (fixed_from segments relro)
fixed_cons s segments relro true e = rw e refl
fixed_cons s segments relro false e = rw e refl

hull_step : (range : Option (ℕ × ℕ)) (s : Segment) (segments : List Segment) (relro : Option (ℕ × ℕ)) → hull_from (hull_from range (fixed_part s)) (fixed_from segments relro) ≡ hull_from range (fixed_from (s ∷ segments) relro)
hull_step range s segments relro =
    hull_one range s (fixed_from segments relro) (is_fixed s) refl ∙ ap (hull_from range) (sym (fixed_cons s segments relro (is_fixed s) refl))

-- a segment more
pub hull_more : (segments : List Segment) (relro : Option (ℕ × ℕ)) (i : ℕ) (d : Segment) (range next total : Option (ℕ × ℕ)) → i < length segments → next ≡ hull_from range (fixed_part (get_or segments i d)) → hull_from range (fixed_from (drop i segments) relro) ≡ total → hull_from next (fixed_from (drop (i + 1) segments) relro) ≡ total
hull_more segments relro i d range next total lt is so_far =
    ap (λ r. hull_from r (fixed_from (drop (i + 1) segments) relro)) is
    ∙ hull_step range (get_or segments i d) (drop (i + 1) segments) relro
    ∙ ap (λ ss. hull_from range (fixed_from ss relro)) (sym (drop_more segments i d lt))
    ∙ so_far

-- no segment is left
pub hull_done : (segments : List Segment) (relro : Option (ℕ × ℕ)) (i : ℕ) (range total : Option (ℕ × ℕ)) → length segments ≤ i → hull_from range (fixed_from (drop i segments) relro) ≡ total → hull_from range (unless_empty relro) ≡ total
hull_done segments relro i range total le so_far = ap (λ ss. hull_from range (fixed_from ss relro)) (sym (drop_all i segments le)) ∙ so_far
