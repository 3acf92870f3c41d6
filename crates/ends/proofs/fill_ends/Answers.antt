-- The table starts without entries, and what is told of it are the entries.
use Rattle.std.proofs.Common.{◌*◌, ◌++◌, drop, ap, ◌∙◌, arith}
use Rattle.std.proofs.lemmas.List.{get_or-replicate}
use Rattle.limits.specs.Limits.{most_vertices}
use Rattle.distances.specs.Table.{inf}
use Rattle.ends.proofs.Least.{numbers-same}
use Rattle.ends.proofs.fill_ends.Goals as goal

pub gather-requires-clause-unreached : goal.gather-requires-clause-unreached
gather-requires-clause-unreached c v h = get_or-replicate most_vertices v inf 0 h

pub returns : goal.returns
returns c =
    c.tell.ensures ∙ ap (λ l. l ++ drop (2 * c.args.n) c.args.ends.now) (numbers-same _ _ c.args.n (λ v h. c.gather.ensures.entry v (omega arith)))
