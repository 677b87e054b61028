use Rattle.std.specs.Io.KnownBytes.{Keeps}
use Rattle.cy_store.proofs.real.read_some.Given as goal

abbrev pub invariant-loop : goal.invariant-loop
invariant-loop g l = Keeps (g.F.Read.remaining l.initial.reader) (g.F.Read.remaining l.reader)
