-- The words of the vertices below u are written.
use Rattle.std.proofs.Common.{◌≡◌, ℕ, ◌<◌, get_or, length}
use Rattle.limits.specs.Limits.{most_vertices}
use Rattle.sweeps.specs.Outgoing.{outgoing}
use Rattle.sweeps.proofs.outgoing.Given as goal

abbrev pub invariant-loop-u : goal.invariant-loop-u
invariant-loop-u l = (length l.words ≡ most_vertices) × ((w : ℕ) → w < l.u → get_or l.words w 0 ≡ outgoing l.arcs.weights.now w l.arcs.vertices)
