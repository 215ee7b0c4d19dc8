use Rattle.purecap.specs.Images.{reached}
use Rattle.purecap.proofs.Shown.{printed_ends, printed_calm}
use Rattle.purecap.proofs.reaching.reach.Goals as goal

pub returns : goal.returns
returns g c =
    let text = c.reach_text-text.ensures in
    record {
      file = text.text.file;
      is_file = text.text.is_file;
      ends = printed_ends _ _ _ _ _ (record { files = text.same_told; writing = text.same_writing; count = text.write_count }) (reached c.args.slot) _ _ text.text c.print_or.ensures;
      calm = printed_calm _ _ _ _ _ (record { files = text.same_told; writing = text.same_writing; count = text.write_count }) (reached c.args.slot) _ _ text.text c.print_or.ensures;
    }
