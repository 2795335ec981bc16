use Rattle.bx_debug.proofs.Words.{take, ap, ◌∙◌, led, History}
use Rattle.bx_debug.proofs.Moving.{led_to}
use Rattle.bx_debug.proofs.sessions.Session.world_at.Goals as goal

pub returns : goal.returns
returns c = c.into_world.ensures ∙ led_to c.self.invariant c.args.at c.in_ok-end.ensures ∙ ap (λ (h : History). led h.image (take c.args.at h.choices) h.start) c.self.view_is
