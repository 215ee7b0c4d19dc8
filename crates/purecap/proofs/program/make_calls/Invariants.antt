use Rattle.std.proofs.Common.{◌≡◌, map, drop}
use Rattle.cap_session.specs.Session.{IsSession}
use Rattle.purecap.specs.ProgramWords.{call_meant}
use Rattle.purecap.specs.Run.{counted, streamed}
use Rattle.purecap.specs.Calling.{HasCalled}
use Rattle.purecap.proofs.program.make_calls.Given as goal

abbrev pub invariant-loop-call : goal.invariant-loop-call
invariant-loop-call g l =
    HasCalled (g.F.Files.told l.initial.files) l.initial.session l.session (map call_meant l.calls) (map call_meant (drop l.call-index l.calls))
    (counted (g.F.Files.read_faults l.initial.files) (g.F.Files.read_faults l.files))
    (streamed (g.E.Sink.told l.initial.err) (g.E.Sink.told l.err) (g.E.Sink.faults l.initial.err) (g.E.Sink.faults l.err)) l.so_far
    × IsSession l.session
    × (g.F.Files.told l.files ≡ g.F.Files.told l.initial.files)
    × (g.F.Files.writing l.files ≡ g.F.Files.writing l.initial.files)
    × (g.F.Files.write_faults l.files ≡ g.F.Files.write_faults l.initial.files)
