use Rattle.bx_debug.proofs.Words.{◌∙◌, Ok, sym, ap, History, tidy_of}
use Rattle.bx_debug.proofs.Swapping.{session_exchanged, session_tidied}
use Rattle.bx_debug.proofs.sessions.Session.tidy.Goals as goal

pub invariant_of-self : goal.invariant_of-self
invariant_of-self c = session_exchanged c.self.invariant c.in_ok-self-inside.ensures.exchanged

pub returns : goal.returns
returns c = ap (λ (h : History). Ok (h, tt)) (sym (ap tidy_of c.self.view_is) ∙ sym (session_tidied c.self.invariant c.self.inside.places c.in_ok-self-inside.ensures))
