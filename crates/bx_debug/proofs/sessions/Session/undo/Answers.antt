use Rattle.bx_debug.proofs.Words.{◌≡◌, ◌∙◌, Ok, sym, ap, subst, arith, long_after, History, undo_of}
use Rattle.bx_debug.proofs.Moving.{history, led_to}
use Rattle.bx_debug.proofs.Swapping.{all_before, session_exchanged, session_undone, undo_there}
use Rattle.bx_debug.proofs.sessions.Session.undo.Goals as goal

pub undone-requires-clause-all : goal.undone-requires-clause-all
undone-requires-clause-all c = all_before c.self.invariant

pub end_at-requires : goal.end_at-requires
end_at-requires c =
    let aside = c.in_ok-trail.ensures.aside in
    omega (arith, long_after c.self.inside.at c.self.inside.trail c.in_ok-trail.trail aside.exchanged, aside.within, c.self.invariant.within)

pub invariant_of-self : goal.invariant_of-self
invariant_of-self c =
    let aside = c.in_ok-trail.ensures.aside in
    let moved = session_exchanged c.self.invariant aside.exchanged in
    let within = moved.within in
    let less = aside.within in
    record { begins = moved.begins; within = omega arith; made = moved.made; shown = c.into_world-world.ensures ∙ led_to moved c.in_ok-trail.before c.in_ok-end_at.ensures }

pub returns : goal.returns
returns c =
    let here = c.self.inside in
    let is = session_undone c.self.invariant here.places c.args.number c.in_ok-trail.ensures in
    subst (λ (h : History). undo_of c.args.number h ≡ Ok (history c.in_ok-trail.trail c.in_ok-trail.before here.places, tt)) c.self.view_is
    (undo_there (history here.trail here.at here.places) c.args.number c.if-number-eq0.false c.if-number-self.false ∙ ap (λ (h : History). Ok (h, tt)) (sym is))
