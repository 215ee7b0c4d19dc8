-- The entries of a map from starts to ends, as intervals.
use Rattle.std.specs.Prelude.{ℕ, Bool, List}
use Rattle.std.specs.List.{list_any}
use Rattle.cap_intervals.specs.declared.interval.Interval.{Interval}
use Rattle.cap_intervals.specs.Clash.{clash}

abbrev pub interval_of : ℕ × ℕ → Interval
interval_of e = record { start = e.0; end = e.1 }

-- x clashes with an entry
abbrev pub any_clashes : Bool → Interval → List (ℕ × ℕ) → Bool
any_clashes aliases x es = list_any (λ e. clash aliases x (interval_of e)) es
