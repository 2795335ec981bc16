use Rattle.bx_debug.proofs.Words.{◌≡◌, None, subst, ran, unchosen, History, behind}
use Rattle.bx_debug.proofs.Moving.{run_shown, shown_there}
use Rattle.bx_debug.proofs.sessions.Session.world.Goals as goal

pub returns : goal.returns
returns c = record {
  shown = shown_there c.self.invariant c.self.view_is;
  run = subst (λ (h : History). ran h.image (behind h) (unchosen h.start) ≡ record { world = c.self.inside.world; applied = h.at; refused = None }) c.self.view_is (run_shown c.self.invariant);
}
