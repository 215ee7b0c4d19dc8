use Rattle.std.proofs.Common.{◌≡◌, ℕ, ◌<◌, ◌≤◌, ◌*◌, ◌^◌, List, map, take, drop}
use Rattle.std.specs.Prelude.{find, None, IfSome, sum_by, slice_index}
use Rattle.cap_elf.specs.DynView.{DynRecords}
use Rattle.cap_scope.specs.Candidates.{candidates_in, list_of}
use Rattle.cap_scope.specs.Chosen.{candidates, chosen, chosen_from, decides, object_at, walk_in, IsHit}
use Rattle.cap_scope.proofs.choosing.choose.Given as goal

-- no definition so far ends the search, and what is left gives the choice
abbrev pub invariant-loop-i : goal.invariant-loop-i
invariant-loop-i l =
    let objects : List DynRecords = map (λ o. o.records) l.objects in
    record {
      choice : chosen_from l.rule l.first (candidates objects (drop l.i-index l.scope) l.name) ≡ chosen l.rule objects l.scope l.name;
      walked : l.walked ≡ sum_by (walk_in objects l.name) (take l.i-index l.scope);
      small : l.walked ≤ l.i-index * 2 ^ 32;
      first : find (decides l.rule) (list_of l.first) ≡ None;
      there : IfSome l.first (λ c. IsHit l.objects c.hit);
      none : (j : ℕ) → j < l.i-index → find (decides l.rule) (candidates_in (object_at objects (slice_index l.scope j)) (slice_index l.scope j) l.name) ≡ None;
    }
