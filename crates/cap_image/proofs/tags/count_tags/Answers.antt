use Rattle.std.proofs.Common.{◌≡◌, ◌+◌, ◌*◌, ◌<◌, count_ones, arith, rules}
use Rattle.std.specs.Prelude.{slice_index}
use Rattle.cap_image.specs.Words.{count_below}
use Rattle.cap_image.proofs.TagCounts.{count_more, count_few}
use Rattle.cap_image.proofs.tags.count_tags.Goals as goal

pub loop-byte-preserved : goal.loop-byte-preserved
loop-byte-preserved c =
    let tags = c.args.tags.now in
    let j = c.loop-byte.byte-index in
    let byte : slice_index tags j < 256 = search rules in
    let more : c.loop-byte.count + count_ones (slice_index tags j) ≡ count_below tags (8 * (j + 1)) = count_more tags j c.loop-byte.count byte c.loop-byte.invariant.so_far in
    record { so_far = more; small = omega (arith, more, count_few tags (8 * (j + 1))) }
