use Rattle.std.proofs.Common.{◌≡◌, drop}
use Rattle.std.specs.List.{list_all}
use Rattle.cap_gnu.specs.Adopted.{bucket_words, is_run}
use Rattle.cap_gnu.proofs.adopting.are_runs.Given as goal

abbrev pub invariant-loop-first : goal.invariant-loop-first
invariant-loop-first l = list_all (is_run l.words) (drop l.first-index (bucket_words l.words)) ≡ list_all (is_run l.words) (bucket_words l.words)
