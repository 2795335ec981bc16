use Rattle.bx_debug.proofs.Words.{sym, subst, State, IsSession}
use Rattle.bx_debug.proofs.Going.{begins_here, told_from, went_from}
use Rattle.bx_debug.proofs.Moving.{begins_there, session_gone, session_made}
use Rattle.bx_debug.proofs.sessions.Session.make.Goals as goal

pub follow-requires-clause-begun : goal.follow-requires-clause-begun
follow-requires-clause-begun c = begins_here c.in_ok-walk.ensures.begun

pub replace_tail-requires : goal.replace_tail-requires
replace_tail-requires c =
    let way = went_from c.in_ok-walk.ensures.begun c.in_ok-follow.ensures.way in
    let (start, all) = begins_there c.self.invariant way in
    record { within = c.self.invariant.within; image = way.code; start = start; all = all }

pub invariant_of-self-2 : goal.invariant_of-self-2
invariant_of-self-2 c =
    subst (λ (w : State). IsSession c.replace_tail.new.self c.len-self-inside.result w) (sym c.into_world.ensures)
    (session_made c.self.invariant (went_from c.in_ok-walk.ensures.begun c.in_ok-follow.ensures.way) c.in_ok-replace_tail.ensures.ok c.len-self-inside.ensures.count)

pub returns-clause-ok : goal.returns-clause-ok
returns-clause-ok c =
    session_gone c.self.invariant c.follow.new.self.made c.args.choices.now c.self.view_is (told_from c.in_ok-walk.ensures.begun c.self.inside.places c.args.choices.now c.in_ok-follow.ensures.told) c.requires
    c.in_ok-replace_tail.ensures.ok c.len-self-inside.ensures.count
