use Rattle.bx_debug.proofs.Words.{ap, ◌∙◌, refusal}
use Rattle.bx_debug.proofs.Moving.{shown_there}
use Rattle.bx_debug.proofs.sessions.Session.refusal.Goals as goal

pub returns : goal.returns
returns c = c.refusal.ensures ∙ ap (λ w. refusal w c.args.choice) (shown_there c.self.invariant c.self.view_is)
