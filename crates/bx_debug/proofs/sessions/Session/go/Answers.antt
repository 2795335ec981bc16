use Rattle.bx_debug.proofs.Words.{Ok, ap, rules, GoTakes}
use Rattle.bx_debug.proofs.Moving.{gone_nowhere, goes_on, shown_there}
use Rattle.bx_debug.proofs.sessions.Session.go.Goals as goal

pub returns-in-Some : goal.returns-in-Some
returns-in-Some c = ap Ok (gone_nowhere c.args.self.now c.args.choices.now (shown_there c.self.invariant c.self.view_is) c.stop_at_once.ensures c.in-Some.is)

pub make-requires : goal.make-requires
make-requires c = goes_on c.args.self.now c.args.choices.now (shown_there c.self.invariant c.self.view_is) c.stop_at_once.ensures c.in_default.is

pub returns-in_err-make : goal.returns-in_err-make
returns-in_err-make c =
    let takes : GoTakes c.args.choices.now c.args.self.now = goes_on c.args.self.now c.args.choices.now (shown_there c.self.invariant c.self.view_is) c.stop_at_once.ensures c.in_default.is in
    search rules
