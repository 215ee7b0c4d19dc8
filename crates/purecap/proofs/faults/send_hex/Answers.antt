use Rattle.std.proofs.Common.{◌≡◌, ℕ, ◌-◌, false, length, drop, take, subst, ◌∙◌, rules}
use Rattle.std.proofs.lemmas.List.{take_rest}
use Rattle.std.specs.Fmt.{digits}
use Rattle.purecap.proofs.faults.send_hex.Goals as goal

pub returns : goal.returns
returns g c =
    let start = c.write_hex-start.result in
    let buf = c.write_hex-start.new.buf in
    let long : length buf ≡ 16 = search rules in
    let shown : take (16 - start) (drop start buf) ≡ digits 16 false c.args.n =
    subst (λ (m : ℕ). take (m - start) (drop start buf) ≡ drop start buf) long (take_rest buf start) ∙ c.write_hex-start.ensures.digits in
    rw shown at c.send_next.ensures
