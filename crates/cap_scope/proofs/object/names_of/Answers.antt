use Rattle.std.proofs.Common.{ℕ, ◌<◌, ◌≤◌, [], ◌∷◌, ◌++◌, length, map, zip, get_or, take, ◌∙◌, refl, ap, arith}
use Rattle.std.proofs.lemmas.List.{take_all}
use Rattle.std.proofs.lemmas.Slice.Zip.{length-zip}
use Rattle.cap_elf.specs.Records.{null_symbol}
use Rattle.cap_elf.specs.DynView.{DynRecords}
use Rattle.cap_scope.specs.Candidates.{defined_name, can_be_chosen}
use Rattle.cap_scope.proofs.Candidates.{names_more}
use Rattle.cap_scope.proofs.object.names_of.Goals as goal

pub loop-i-preserved : goal.loop-i-preserved
loop-i-preserved c =
    let object : DynRecords = c.args.file.now.records in
    let i : ℕ = c.loop-i.i in
    let read = c.symbols-symbols.ensures.sound in
    let same = c.symbols-symbols.ensures.symbols in
    let lt : i < length object.symbols = omega (arith, ap length same, c.loop-i-test.true) in
    c.in_ok-push.ensures.ok
    ∙ ap (λ ns. ns ++ (c.name.result.now, c.can_be_chosen.result) ∷ []) c.loop-i.invariant
    ∙ ap (λ b. map defined_name (take i (zip object.symbols object.names)) ++ (c.name.result.now, b) ∷ []) (c.can_be_chosen.ensures ∙ ap (λ xs. can_be_chosen (get_or xs i (null_symbol 0))) same)
    ∙ names_more object.symbols object.names i (get_or object.symbols i (null_symbol 0)) c.name.result.now read.name_count lt refl c.name.ensures

pub returns : goal.returns
returns c =
    let object : DynRecords = c.args.file.now.records in
    let zs = zip object.symbols object.names in
    let past : length zs ≤ c.loop-i.i = omega (arith, length-zip object.symbols object.names, ap length c.symbols-symbols.ensures.symbols, c.loop-i-test.false, c.symbols-symbols.ensures.sound.name_count) in
    c.loop-i.invariant ∙ ap (map defined_name) (take_all c.loop-i.i zs past)
