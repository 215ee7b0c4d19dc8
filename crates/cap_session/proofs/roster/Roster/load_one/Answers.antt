use Rattle.std.proofs.Common.{◌≡◌, ℕ, List, Option, length, sym, ap, ◌∙◌, subst}
use Rattle.std.specs.Prelude.{IfSome, string_bytes}
use Rattle.cap_base.specs.Outside.{Store}
use Rattle.cap_session.specs.Adding.{TellsPath}
use Rattle.cap_session.specs.Causes.{IsCausedBy}
use Rattle.cap_session.specs.Closing.{next_in, next_path}
use Rattle.cap_session.specs.Loading.{fetch_from, next_object, path_of}
use Rattle.cap_session.specs.Refused.{IsRefusedBy}
use Rattle.cap_session.specs.Roster.{RosterValue}
use Rattle.cap_session.proofs.OneMore.{if_some_map}
use Rattle.cap_session.proofs.Refusing.{refused_at}
use Rattle.cap_session.proofs.roster.Roster.load_one.Goals as goal

pub returns-clause-adds : goal.returns-clause-adds
returns-clause-adds g c =
    let r = c.args.self.now in
    let name = c.args.name.now in
    let path : string_bytes c.in-Ok.path ≡ next_path r name =
    c.in-Ok.ensures
    ∙ ap (λ (dir : List ℕ). path_of dir c.len.result c.text_of.result.now) (c.deref.ensures ∙ ap (λ (s : RosterValue). s.dir) c.self.view_is)
    ∙ ap (λ (n : ℕ). path_of r.dir n c.text_of.result.now) c.len.ensures.len
    ∙ ap (λ (text : List ℕ). path_of r.dir (length r.objects) text) c.text_of.ensures in
    let tells : TellsPath (next_path r name) c.in-Err.cause c.refusal_at.result =
    subst (λ (p : List ℕ). TellsPath p c.in-Err.cause c.refusal_at.result) (c.deref-in-Err.ensures ∙ path) c.refusal_at.ensures.tells in
    let adds : IfSome (g.F.Files.told c.args.files.now) (λ store. IsCausedBy (next_object (fetch_from store) (next_path r name) (length r.objects) r.next name) c.in-Err.cause) =
    subst (λ (p : List ℕ). IfSome (g.F.Files.told c.args.files.now) (λ store. IsCausedBy (next_object (fetch_from store) p (length r.objects) r.next name) c.in-Err.cause)) (c.deref-2.ensures ∙ path) c.in-Err.ensures.adds.0 in (
      if_some_map (λ (store : Store). IsCausedBy (next_object (fetch_from store) (next_path r name) (length r.objects) r.next name) c.in-Err.cause) (λ (store : Store). IsRefusedBy (next_in store r name) c.refusal_at.result c.refusal_at.result.cause)
          (g.F.Files.told c.args.files.now)
          (λ store by. refused_at (next_object (fetch_from store) (next_path r name) (length r.objects) r.next name) (next_path r name) c.in-Err.cause c.refusal_at.result tells by) adds,
      c.in-Err.ensures.adds.1,
    )
