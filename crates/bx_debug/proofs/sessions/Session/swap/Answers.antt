use Rattle.bx_debug.proofs.Words.{◌-◌, true, subst, arith, Bool}
use Rattle.bx_replay.specs.Exchanges.{Exchanges}
use Rattle.bx_debug.proofs.Swapping.{session_swapped}
use Rattle.bx_debug.proofs.sessions.Session.swap.Goals as goal

pub invariant_of-self-2 : goal.invariant_of-self-2
invariant_of-self-2 c =
    let i = c.args.number - 1 in
    let done : Exchanges i c.self.inside.trail c.exchange.new.self true = subst (λ (b : Bool). Exchanges i c.self.inside.trail c.exchange.new.self b) c.if-not-branch.false c.in_ok-exchange.ensures.done in
    session_swapped c.self.invariant i (omega arith) done.0 done.1
