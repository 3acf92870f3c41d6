-- From one level to the next.
use Rattle.std.proofs.Common.{◌≡◌, arith, rules}
use Rattle.automaton.proofs.Levels.{finished}
use Rattle.automaton.proofs.Whole.{begun, onward}
use Rattle.automaton.proofs.build.Goals as goal

pub loop-level-init : goal.loop-level-init
loop-level-init c =
    let kept = c.singles.ensures.kept in
    record {
      done = λ F s b. begun s b c.singles.ensures.singles c.starts.ensures (record { of_steps = omega arith; of_blockeds = omega arith; of-latests = omega arith; of-fails = omega arith });
      kept = search rules;
    }

pub rows-requires : goal.rows-requires
rows-requires c =
    let given = c.requires.given in
    record {
      paths = given.paths;
      level = c.loop-level.level;
      turns = c.args.paths.count;
      latests = c.children-states.new.self.latest.now;
      current = c.children-states.new.current;
      taken = omega (arith, given.spells.paths);
      so_far = c.children-states.ensures.taken given.paths c.args.vertices given.spells (c.loop-level.invariant.done given.paths given.spells given.bounded);
    }

pub loop-level-preserved : goal.loop-level-preserved
loop-level-preserved c = record {
  done = λ F s b.
      rw c.rows.ensures.same_latest
      (onward s
      (c.rows.ensures.filled F c.loop-level.level c.args.paths.count _ _ (omega (arith, s.paths)) (c.children-states.ensures.taken F c.args.vertices s (c.loop-level.invariant.done F s b))));
  kept = search rules;
}

pub returns : goal.returns
returns c F s b =
    let at = c.loop-level in
    let done : at.level ≡ 8 = omega arith in
    let built = finished (rw done at (at.invariant.done F s b)) in
    search (rules, built)
