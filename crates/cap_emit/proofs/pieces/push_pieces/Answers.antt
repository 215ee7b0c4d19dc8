use Rattle.std.proofs.Common.{arith}
use Rattle.cap_emit.proofs.Chunks.{chunks_more, chunks_first, chunks_done}
use Rattle.cap_emit.proofs.pieces.push_pieces.Goals as goal

pub loop-piece-init : goal.loop-piece-init
loop-piece-init c = chunks_first c.args.layout.now c.args.bodies.now c.args.class c.span-first.result.0 c.span-first.result.1 c.span-first.ensures c.args.file.now.items

pub loop-piece-preserved : goal.loop-piece-preserved
loop-piece-preserved c =
    chunks_more c.args.layout.now c.args.bodies.now c.args.class c.loop-piece.piece c.loop-piece.file.items c.push_piece.new.file.items _ c.push_piece.ensures.laid c.requires.count (omega (arith, c, c.span-first.ensures.within)) c.in_ok-push_piece.ensures.written c.loop-piece.invariant

pub returns : goal.returns
returns c =
    chunks_done c.args.layout.now c.args.bodies.now c.args.class c.span-first.result.0 c.span-first.result.1 c.span-first.ensures c.loop-piece.piece c.loop-piece.file.items _ (omega (arith, c, c.span-first.ensures.order)) c.loop-piece.invariant
