use Rattle.wait_graph.proofs.Steps.{waiter_is, place_below}
use Rattle.wait_graph.proofs.trail.Trail.waiter.Goals as goal

pub returns : goal.returns
returns c = rw (← c.self.view_is) (waiter_is c.args.place c.self.inside.steps.items c.index.result.now (place_below c.args.place c.self.inside.steps.items (rw (← c.self.view_is) at c.requires)) c.index.ensures)
