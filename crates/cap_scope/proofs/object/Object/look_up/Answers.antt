use Rattle.std.proofs.Common.{◌≡◌, ℕ, ◌<◌, [], ◌∷◌, length, ◌∙◌, sym, ap, arith}
use Rattle.cap_elf.specs.DynView.{DynRecords}
use Rattle.cap_scope.specs.Candidates.{candidates_in}
use Rattle.cap_scope.proofs.Tables.{length-names}
use Rattle.cap_scope.proofs.Candidates.{none_in, one_in, found_inside}
use Rattle.cap_scope.proofs.object.Object.look_up.Goals as goal

pub candidate-requires : goal.candidate-requires
candidate-requires c =
    let object : DynRecords = c.self.inside.file.records in
    omega (arith, found_inside c.args.name.now object c.args.i c.in-Some.symbol c.in-Some.ensures.first, length-names object c.hash_words.ensures.sound)

pub returns-in-Some-clause-value : goal.returns-in-Some-clause-value
returns-in-Some-clause-value c =
    let name = c.args.name.now in
    let object : DynRecords = c.self.inside.file.records in
    let k : ℕ = c.in-Some.symbol in
    let lt : k < length object.symbols = omega (arith, found_inside name object c.args.i k c.in-Some.ensures.first, length-names object c.hash_words.ensures.sound) in
    ap (λ o. candidates_in o.records c.args.i name) (sym c.self.view_is)
    ∙ one_in name object c.args.i k lt (omega (arith, lt, c.hash_words.ensures.sound.name_count)) c.in-Some.ensures.first c.in-Some.ensures.only
    ∙ ap (λ d. d ∷ []) (sym c.candidate.ensures)

pub returns-in-Some-clause-there : goal.returns-in-Some-clause-there
returns-in-Some-clause-there c =
    let object : DynRecords = c.self.inside.file.records in
    let lt : c.in-Some.symbol < length object.symbols = omega (arith, found_inside c.args.name.now object c.args.i c.in-Some.symbol c.in-Some.ensures.first, length-names object c.hash_words.ensures.sound) in
    let same : length object.symbols ≡ length c.args.self.now.records.symbols = ap (λ o. length o.records.symbols) c.self.view_is in
    (ap (λ d. d.hit.object) c.candidate.ensures, omega (arith, lt, same, ap (λ d. d.hit.symbol) c.candidate.ensures))

pub returns-in-None-clause-value : goal.returns-in-None-clause-value
returns-in-None-clause-value c =
    ap (λ o. candidates_in o.records c.args.i c.args.name.now) (sym c.self.view_is)
    ∙ none_in c.args.name.now c.self.inside.file.records c.args.i c.in-None.ensures.only
