use Rattle.bx_swaps.proofs.Words.{sym, subst, Course, IsSetAside}
use Rattle.bx_swaps.proofs.Aside.{undone_leads}
use Rattle.bx_swaps.proofs.undoing.undone.Goals as goal

pub returns : goal.returns
returns c =
    let old = c.args.trail.now in
    let count = c.args.count in
    let k = c.args.position in
    let before = c.in_ok-before.before in
    undone_leads count k old c.in_ok-trail.trail before c.requires.within c.requires.all
    (subst (λ (t : Course). IsSetAside count k old t before) (sym c.in_ok-trail.ensures)
    (subst (λ (t : Course). IsSetAside count k t c.set_aside.new.row before) c.in_ok-row.ensures c.in_ok-before.ensures))
