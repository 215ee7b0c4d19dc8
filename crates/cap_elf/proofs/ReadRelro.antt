-- The range of a shared object that is read-only once it is loaded.
use Rattle.std.proofs.Common.{◌≡◌, ℕ, ◌+◌, ◌≤◌, Bool, true, List, Some, None, Ok, subst, arith}
use Rattle.std.specs.Prelude.{min, not, ◌||◌, ◌&&◌, ◌==◌, ◌%◌, nat_le, nat_lt, find, IfSome, is_some, is_none}
use Rattle.std.specs.List.{list_any}
use Rattle.std.proofs.lemmas.Bool.{leb-true, ltb-true, le-leb, and_parts, and_from}
use Rattle.std.proofs.lemmas.List.Folds.{Any-from_list_any}
use Rattle.cap_base.specs.declared.check.Check.TheVariants.{DynamicHeader, RelroHeader}
use Rattle.cap_elf.specs.declared.records.Segment.{Segment}
use Rattle.cap_elf.specs.declared.decode.ProgramHeader.{ProgramHeader}
use Rattle.cap_elf.specs.declared.program.Marks.{Marks}
use Rattle.cap_elf.specs.Numbers.{PT_DYNAMIC, PT_GNU_RELRO}
use Rattle.cap_elf.specs.Ends.{end_of, writes, is_writable_at, writable_range, file_place}
use Rattle.cap_elf.specs.Marks.{mark_step, marks_of}
use Rattle.cap_elf.specs.IsRead.{IsRelro}
use Rattle.cap_elf.proofs.Passing.{check_passed, choice_passed, steps_keep, map_passed, same_value, if_some, find_passes, find_any}

abbrev holds_range : ℕ → ℕ → Segment → Bool
holds_range from to s = nat_le s.vaddr from && nat_le to (end_of s) && writes s

range_in : (loads : List Segment) (from to : ℕ) (s : Segment) → find (λ t. is_writable_at t from) loads ≡ Some s → to ≤ end_of s → list_any (holds_range from to) loads ≡ true
range_in loads from to s found ends =
    let test = find_passes (λ t. is_writable_at t from) loads s found in
    let most = and_parts (nat_le s.vaddr from && nat_lt from (end_of s)) (writes s) test in
    let first = and_parts (nat_le s.vaddr from) (nat_lt from (end_of s)) most.0 in
    find_any (λ t. is_writable_at t from) (holds_range from to) loads s found
    (and_from (nat_le s.vaddr from && nat_le to (end_of s)) (writes s) (and_from (nat_le s.vaddr from) (nat_le to (end_of s)) first.0 (le-leb to (end_of s) ends)) most.1)

range_is : (loads : List Segment) (from size : ℕ) (range : ℕ × ℕ) → writable_range loads from size ≡ Some range → IsRelro loads range
range_is loads from size range passed =
    let one = map_passed (λ s. (from, min (from + size) (end_of s))) (find (λ t. is_writable_at t from) loads) range passed in
    let s = one.0 in
    let to = min (from + size) (end_of s) in
    let test = find_passes (λ t. is_writable_at t from) loads s one.1 in
    let most = and_parts (nat_le s.vaddr from && nat_lt from (end_of s)) (writes s) test in
    let first = and_parts (nat_le s.vaddr from) (nat_lt from (end_of s)) most.0 in
    let below = ltb-true from (end_of s) first.1 in
    let any = Any-from_list_any (holds_range from to) loads (range_in loads from to s one.1 (omega arith)) in
    let t = any.1 in
    let t_most = and_parts (nat_le t.vaddr from && nat_le to (end_of t)) (writes t) any.4 in
    let t_first = and_parts (nat_le t.vaddr from) (nat_le to (end_of t)) t_most.0 in
    subst (λ (r : ℕ × ℕ). IsRelro loads r) one.2 (record {
      ordered = omega (arith, below);
      held = (any.0, t, any.2, any.3, (leb-true t.vaddr from t_first.0, leb-true to (end_of t) t_first.1, t_most.1));
    })

abbrev HasRelro : List Segment → Marks → Type 0
HasRelro loads m = IfSome m.relro (IsRelro loads)

mark_keeps : (loads : List Segment) (marks : Marks) (h : ProgramHeader) (next : Marks) → HasRelro loads marks → mark_step loads marks h ≡ Ok next → HasRelro loads next
unfolding mark_step
mark_keeps loads marks h next has passed =
    choice_passed (h.kind == PT_DYNAMIC) _ _ (Ok next) passed
    (λ _ dynamic.
    let place = file_place loads h.segment.vaddr h.segment.filesz in
    let one = check_passed (is_some marks.dynamic || not ((h.segment.filesz % 16) == 0) || is_none place) DynamicHeader h.at _ next dynamic in
    subst (HasRelro loads) (same_value _ next one.1) has)
    (λ _ other. choice_passed (h.kind == PT_GNU_RELRO) _ _ (Ok next) other
    (λ _ relro.
    let range = writable_range loads h.segment.vaddr h.segment.memsz in
    let one = check_passed (is_some marks.relro || is_none range) RelroHeader h.at _ next relro in
    subst (HasRelro loads) (same_value _ next one.1)
    (if_some range (IsRelro loads) (range_is loads h.segment.vaddr h.segment.memsz)))
    (λ _ none. subst (HasRelro loads) (same_value marks next none) has))

pub relro_passed : (loads : List Segment) (headers : List ProgramHeader) (marks : Marks) → marks_of loads headers ≡ Ok marks → IfSome marks.relro (IsRelro loads)
relro_passed loads headers marks passed = steps_keep (mark_step loads) (HasRelro loads) (mark_keeps loads) (record { dynamic = None; relro = None }) headers marks tt passed
