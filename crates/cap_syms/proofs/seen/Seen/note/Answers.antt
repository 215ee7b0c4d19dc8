use Rattle.std.proofs.Common.{◌≡◌, ◌≤◌, ◌<◌, ◌+◌, ◌^◌, ℕ, List, length, not, sym, ap, ◌∙◌, arith}
use Rattle.std.specs.Prelude.{zip}
use Rattle.std.specs.List.{position_or_len}
use Rattle.std.specs.Str.{bytes_eq}
use Rattle.std.proofs.lemmas.List.Sums.{prefix_len-le-length}
use Rattle.cap_syms.specs.declared.tally.Tally.{Tally}
use Rattle.cap_syms.specs.Distinct.{with_new}
use Rattle.cap_syms.specs.Occurrences.{Occurrence}
use Rattle.cap_syms.specs.Tally.{noted, entered}
use Rattle.cap_syms.proofs.Noted.{zip_entered, one_more}
use Rattle.cap_syms.proofs.seen.Seen.note.Goals as goal

module _ (o : Occurrence) (names more_names : List (List ℕ)) (tallies room more : List Tally) (row : ℕ)
    (same : length names ≡ length tallies)
    (kept : room ≡ tallies)
    (at : row ≡ position_or_len (bytes_eq o.name) names)
    (with_name : more_names ≡ with_new bytes_eq names o.name)
    (with_tally : more ≡ entered room row o) where
  with_one : more ≡ entered tallies (position_or_len (bytes_eq o.name) names) o
  with_one = with_tally ∙ (λ j. entered (kept j) (at j) o)

  -- names and tallies stay beside each other
  beside : length tallies + 1 < 2 ^ 32 → (length more_names ≡ length more) × (length more < 2 ^ 32)
  beside few = (
    ap length with_name ∙ (zip_entered o names tallies same).1 ∙ sym (ap length with_one),
    omega (arith, few, ap length with_one, one_more o tallies (position_or_len (bytes_eq o.name) names)),
  )

  rows : zip more_names more ≡ noted (zip names tallies) o
  rows = (λ j. zip (with_name j) (with_one j)) ∙ (zip_entered o names tallies same).0

pub enter-requires-clause-there : goal.enter-requires-clause-there
enter-requires-clause-there c =
    let ns : List (List ℕ) = c.self.inside.names in
    let le : position_or_len (bytes_eq c.args.name.now) ns ≤ length ns = prefix_len-le-length (λ n. not (bytes_eq c.args.name.now n)) ns in
    let at : c.in_ok-row.row ≡ position_or_len (bytes_eq c.args.name.now) ns = c.in_ok-row.ensures.place in
    omega (arith, le, at, c.self.invariant.0, ap length c.reserve.ensures.items)

pub invariant_of-self-2 : goal.invariant_of-self-2
invariant_of-self-2 c =
    let o : Occurrence = record { name = c.args.name.now; file = c.args.spot.file; symbol = c.args.spot.symbol; as_is = c.args.symbol } in
    beside o c.self.inside.names _ c.self.inside.tallies.items _ _ c.in_ok-row.row c.self.invariant.0 c.reserve.ensures.items c.in_ok-row.ensures.place c.in_ok-row.ensures.names c.enter.ensures (omega (arith, c.if-len.false, c.len.ensures))

pub invariant_of-self-in_err-push : goal.invariant_of-self-in_err-push
invariant_of-self-in_err-push c =
    let o : Occurrence = record { name = c.args.name.now; file = c.args.spot.file; symbol = c.args.spot.symbol; as_is = c.args.symbol } in
    beside o c.self.inside.names _ c.self.inside.tallies.items _ _ c.in_ok-row.row c.self.invariant.0 c.reserve.ensures.items c.in_ok-row.ensures.place c.in_ok-row.ensures.names c.enter.ensures (omega (arith, c.if-len.false, c.len.ensures))

pub returns : goal.returns
returns c =
    let o : Occurrence = record { name = c.args.name.now; file = c.args.spot.file; symbol = c.args.spot.symbol; as_is = c.args.symbol } in
    rows o c.self.inside.names _ c.self.inside.tallies.items _ _ c.in_ok-row.row c.self.invariant.0 c.reserve.ensures.items c.in_ok-row.ensures.place c.in_ok-row.ensures.names c.enter.ensures
    ∙ ap (λ rows. noted rows o) c.self.view_is
