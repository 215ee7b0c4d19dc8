use Rattle.cap_session.proofs.Texts.{name_utf8, ok_unless}
use Rattle.cap_session.proofs.adding.text_of.Goals as goal

pub unwrap-requires : goal.unwrap-requires
unwrap-requires c = ok_unless _ _ c.from_utf8.result (name_utf8 c.args.name.now c.requires) c.from_utf8.ensures.cases
