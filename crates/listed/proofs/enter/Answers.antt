-- The item's arc is entered into a book's table.
use Rattle.book.specs.Reading.{arc_of}
use Rattle.listed.proofs.StandingLaws.{item_stands}
use Rattle.listed.proofs.enter.Goals as goal

pub returns : goal.returns
returns c b h = item_stands c.args.vertices b c.args.weights.now h c.args.i (arc_of c.args.arc) _ _ (c.enter_arc.ensures.enters b h)
