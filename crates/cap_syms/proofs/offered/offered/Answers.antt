use Rattle.std.proofs.Common.{◌≡◌, List, ℕ, Bool, not, ◌&&◌, Result, Ok, Err, [], ap, ◌∙◌}
use Rattle.std.specs.Prelude.{fold, IfOk}
use Rattle.std.specs.List.{list_any}
use Rattle.std.specs.Str.{bytes_eq}
use Rattle.cap_elf.specs.DynView.{DynValue}
use Rattle.cap_syms.specs.Resolved.{is_offered}
use Rattle.cap_syms.specs.Tally.{with_choosables}
use Rattle.cap_syms.proofs.Offers.{any-offered}
use Rattle.cap_syms.proofs.offered.offered.Goals as goal

asked : (E : Type 0) (program : Bool) (ds : List DynValue) (r : Result (List (List ℕ)) E) → IfOk r (λ names. names ≡ fold with_choosables [] ds) → IfOk r (λ names. (q : List ℕ) → (program && not (list_any (bytes_eq q) names)) ≡ (program && not (is_offered ds q)))
asked E program ds (Ok names) e = λ q. ap (λ b. program && not b) (ap (list_any (bytes_eq q)) e ∙ any-offered q ds)
asked E program ds (Err x) e = tt

pub returns-then-program : goal.returns-then-program
returns-then-program c = asked _ c.args.program c.args.dyns.now c.all_offered.result c.all_offered.ensures
