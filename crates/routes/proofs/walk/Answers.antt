-- A turn writes the next vertex and goes to the state after it.
use Rattle.std.proofs.Common.{arith}
use Rattle.routes.proofs.Guiding.{node}
use Rattle.routes.proofs.Walking.{walking_start, walking_turn, walk-length, walking_done}
use Rattle.routes.proofs.walk.Goals as goal

pub loop-vertex-init : goal.loop-vertex-init
loop-vertex-init c = walking_start _ _ _ _ _ _ _ _ c.requires.start_within c.requires.start_near

pub next-v-requires : goal.next-v-requires
next-v-requires c = node c.requires.guiding c.loop-vertex.q c.loop-vertex.invariant.state-below

pub loop-vertex-preserved : goal.loop-vertex-preserved
loop-vertex-preserved c = rw c.next-v.ensures (walking_turn _ _ _ _ _ _ _ _ c.loop-vertex.vertex-index c.requires.guiding c.loop-vertex.invariant (omega arith) (omega arith))

pub returns-clause-counted : goal.returns-clause-counted
returns-clause-counted c = walk-length _ _ _ _ _ _ _

pub returns-clause-area_after : goal.returns-clause-area_after
returns-clause-area_after c = walking_done _ _ _ _ _ _ _ c.args.area.now c.requires.area_room c.loop-vertex.invariant (omega arith)
