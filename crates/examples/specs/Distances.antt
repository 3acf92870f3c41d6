-- A worked example, by computation: five states, the target is state 3, and no edge leaves state 4.
-- From state 0 the ways 0 1 2 3 and 0 2 3 weigh 3 each, and the second has fewer edges.
use Rattle.std.specs.Prelude.{ℕ, ◌≡◌, refl, List, [], ◌∷◌}
use Rattle.distances.specs.Edge.{Edge}
use Rattle.std.proofs.Common.{ap, arith}
use Rattle.distances.specs.Table.{at, Least, inf, pass, passes, made}
use Rattle.examples.specs.LeastTable.{certificate}
use Rattle.distances.specs.Pack.{pack}
use Rattle.distances.specs.Made.{Short}
use Rattle.distances.proofs.PassLaws.{passes-least}

abbrev graph : List Edge
graph =
    record { tail = 0; head = 1; cost = pack 1 1 }
    ∷ record { tail = 1; head = 2; cost = pack 1 1 }
    ∷ record { tail = 2; head = 3; cost = pack 1 1 }
    ∷ record { tail = 0; head = 2; cost = pack 2 1 }
    ∷ record { tail = 3; head = 4; cost = pack 7 1 }
    ∷ []

abbrev base : List ℕ
base = inf ∷ inf ∷ inf ∷ 0 ∷ inf ∷ []

abbrev table : List ℕ
table = pack 3 2 ∷ pack 2 2 ∷ pack 1 1 ∷ 0 ∷ inf ∷ []

pub two-passes : passes graph 2 base ≡ table
unfolding passes pass
two-passes = refl

-- The third pass changes none, and is the last.
pub three-made : made graph 5 base ≡ 3
unfolding made pass
three-made = refl

-- They are one more than the most edges of a least path: no fewer than 02, order 3, allows.
pub two-edges : Short 2 5 graph base
two-edges q h =
    let (p, r, path, few, e) = (passes-least graph base 2 q).attained in
    (p, r, path, few, λ p' r' path'. omega (arith, ap (λ t. at t q) two-passes, (certificate graph base table tt q).least p' r' path'))

pub shortest : Least graph base 0 (pack 3 2)
shortest = certificate graph base table tt 0

pub unreached : Least graph base 4 inf
unreached = certificate graph base table tt 4
