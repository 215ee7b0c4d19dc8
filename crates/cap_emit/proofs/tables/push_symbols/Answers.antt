use Rattle.std.proofs.Common.{◌≡◌, [], ◌++◌, ap, sym, ◌∙◌, append-nil, ⊎_elim}
use Rattle.std.specs.List.{flat_map, zip}
use Rattle.std.specs.Iterator.Adapters.{zip_first, zip_second}
use Rattle.std.specs.Slice.Iter.{iter_rest}
use Rattle.cap_emit.specs.Records.{symbol_bytes}
use Rattle.cap_emit.proofs.Growing.{no_firsts, no_seconds}
use Rattle.cap_emit.proofs.tables.push_symbols.Goals as goal

pub returns : goal.returns
returns c =
    let xs = iter_rest (zip_first c.loop-offset.offset-iterator) in
    let ys = iter_rest (zip_second c.loop-offset.offset-iterator) in
    let none : flat_map symbol_bytes (zip xs ys) ≡ [] = ap (flat_map symbol_bytes) (⊎_elim (λ h. no_firsts xs ys h.1.0) (λ h. no_seconds xs ys h.1.0) c.in-None.ensures.steps) in
    sym (append-nil c.loop-offset.file.items) ∙ ap (λ zs. c.loop-offset.file.items ++ zs) (sym none) ∙ c.loop-offset.invariant
