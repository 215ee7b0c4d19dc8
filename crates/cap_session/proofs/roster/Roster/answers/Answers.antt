use Rattle.std.proofs.Common.{◌≡◌, ℕ, ◌<◌, false, Bool, List, [], Option, length, sym, ap, ◌∙◌, arith}
use Rattle.std.specs.Prelude.{◌&&◌, ◌||◌, nat_lt, bytes_eq, option_copied, slice_index_or}
use Rattle.cap_elf.specs.DynView.{DynValue}
use Rattle.cap_session.specs.Loading.{Called, has_soname, is_answer}
use Rattle.cap_session.specs.Roster.{RosterValue, called_in, no_called}
use Rattle.cap_session.specs.RosterFields.{roster_of}
use Rattle.cap_session.proofs.RosterLemmas.{called_at}
use Rattle.cap_session.proofs.roster.Roster.answers.Goals as goal

pub returns : goal.returns
returns c =
    let r = roster_of c.self.inside in
    let name = c.args.name.now in
    let i : ℕ = c.args.i in
    let count = ap (λ (s : RosterValue). length s.objects) c.self.view_is in
    let lt : i < length r.objects = omega (arith, count, c.requires) in
    let object : c.file.result.now ≡ _ = c.file.ensures ∙ c.index.ensures in
    c.is_called.ensures
    ∙ ap (λ (sought : List ℕ). (nat_lt 0 i && bytes_eq sought name) || has_soname name (option_copied c.soname-soname.result)) c.name-sought.ensures
    ∙ ap (λ (soname : Option (List ℕ)). (nat_lt 0 i && bytes_eq (slice_index_or r.names i ([], false)).0 name) || has_soname name soname) (c.soname-soname.ensures.soname ∙ ap (λ (o : DynValue). o.records.soname) object)
    ∙ ap (λ (x : Called). is_answer name (i, x)) (sym (called_at r c.self.invariant.roster i no_called ([], false) c.index.result.now lt))
    ∙ ap (λ (s : RosterValue). is_answer name (i, slice_index_or (called_in s) i no_called)) c.self.view_is
