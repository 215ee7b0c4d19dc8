use Rattle.std.proofs.Common.{List, length, subst}
use Rattle.std.specs.Prelude.{All}
use Rattle.cap_elf.specs.declared.records.Segment.{Segment}
use Rattle.cap_elf.specs.Ends.{IsInFile}
use Rattle.cap_map.proofs.Objects.{object_pages, object_is}
use Rattle.cap_map.proofs.placing.map_object.Goals as goal

pub map-requires-clause-base : goal.map-requires-clause-base
map-requires-clause-base c = object_pages c.args.file.now.records c.args.root.now.base c.segments-segments.ensures.sound c.requires.base

pub returns : goal.returns
returns c =
    let read = c.segments-segments.ensures in
    let in_file = subst (λ (segments : List Segment). All (IsInFile (length c.args.bytes.now)) segments) read.segments (read.in_file c.args.bytes.now c.requires.read) in
    rw (c.store_segments.ensures, c.in_ok-memory.ensures, c.requires.len, read.segments) (object_is c.args.file.now.records c.args.bytes.now c.args.root.now.base read.sound in_file)
