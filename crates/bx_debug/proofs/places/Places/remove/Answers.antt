use Rattle.bx_debug.proofs.Words.{ap, ◌∙◌, numbers}
use Rattle.std.specs.FinSet as set
use Rattle.bx_debug.proofs.Sets.{held_less}
use Rattle.bx_debug.proofs.places.Places.remove.Goals as goal

pub returns : goal.returns
returns c =
    held_less c.self.inside.numbers.keys c.remove.new.self.keys (numbers c.args.place) c.remove.ensures.updates.0
    ∙ ap (λ s. set.remove s (numbers c.args.place)) c.self.view_is
