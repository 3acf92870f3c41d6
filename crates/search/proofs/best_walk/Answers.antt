-- There are no more states than the smaller tables have room for, by the test.
use Rattle.search.proofs.best_walk.Goals as goal

pub search_in-requires-clause-states_fit : goal.search_in-requires-clause-states_fit
search_in-requires-clause-states_fit c = c.if-arcs-paths-le-USUAL_STATES.true
