use Rattle.bx_debug.proofs.Words.{sym, ap, ◌∙◌, numbers}
use Rattle.std.specs.FinSet as set
use Rattle.bx_debug.proofs.Sets.{held}
use Rattle.bx_debug.proofs.places.Places.contains.Goals as goal

pub returns : goal.returns
returns c = c.contains.ensures ∙ sym (held c.self.inside.numbers.keys (numbers c.args.place)) ∙ ap (λ s. set.contains s (numbers c.args.place)) c.self.view_is
