use Rattle.std.proofs.Common.{◌&&◌, cond, Some, ap, ◌∙◌, sym}
use Rattle.std.specs.Prelude.{◌==◌}
use Rattle.cap_layout.specs.CommonMap.{common_in}
use Rattle.cap_layout.proofs.PointCommons.{same_key}
use Rattle.cap_layout.proofs.common_map.CommonMap.note.Goals as goal

pub returns-in_ok-insert : goal.returns-in_ok-insert
returns-in_ok-insert c = λ file symbol.
    let p = c.args.piece.now in
    let old = common_in c.args.self.now file symbol in
    c.in_ok-insert.ensures.updates.0 (file, symbol)
    ∙ ap (λ b. cond b (Some c.args.number) old) (same_key (p.file, p.place) (file, symbol))
    ∙ ap (λ b. cond (b && (p.file == file) && (p.place == symbol)) (Some c.args.number) old) (sym c.if-piece.true)
