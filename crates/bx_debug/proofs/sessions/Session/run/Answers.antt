use Rattle.bx_debug.proofs.Words.{List, ◌++◌, Ok, replicate, rules, sym, ap, subst, ◌∙◌, Choice, Run, pause_before, pause_of, runs_to, gone, GoTakes, world_of}
use Rattle.bx_debug.specs.Pausing.{RunTakes}
use Rattle.bx_debug.proofs.Moving.{paused_there, seen_there}
use Rattle.bx_debug.proofs.Pausing.{goes_at_once, ran_nowhere, ran_so, run_takes}
use Rattle.bx_debug.proofs.sessions.Session.run.Goals as goal

pub returns-in-Some : goal.returns-in-Some
returns-in-Some c =
    ap Ok (ran_nowhere c.args.bound c.args.pid c.args.self.now c.in-Some.pause (paused_there c.self.invariant c.args.bound c.args.pid c.image.ensures c.self.view_is c.pause_before.ensures c.in-Some.is))

pub make-requires : goal.make-requires
make-requires c =
    let s = c.args.self.now in
    let none = paused_there c.self.invariant c.args.bound c.args.pid c.image.ensures c.self.view_is c.pause_before.ensures c.in_default.is in
    let times = c.in_ok-times.times in
    let all = c.in_ok-push.ensures.ok ∙ ap (λ (cs : List Choice). cs ++ replicate times (Run c.args.pid)) c.new-choices.ensures in
    subst (λ (cs : List Choice). GoTakes cs s) (sym all) (run_takes s c.args.pid times c.in_ok-times.ensures.some (goes_at_once c.args.bound s.image s.places c.args.pid (world_of s) none))

pub returns-in_err-times : goal.returns-in_err-times
returns-in_err-times c =
    let none : RunTakes c.args.bound c.args.pid c.args.self.now = paused_there c.self.invariant c.args.bound c.args.pid c.image.ensures c.self.view_is c.pause_before.ensures c.in_default.is in search rules

pub returns-in_err-push : goal.returns-in_err-push
returns-in_err-push c =
    let none : RunTakes c.args.bound c.args.pid c.args.self.now = paused_there c.self.invariant c.args.bound c.args.pid c.image.ensures c.self.view_is c.pause_before.ensures c.in_default.is in search rules

pub returns-in_err-make : goal.returns-in_err-make
returns-in_err-make c =
    let none : RunTakes c.args.bound c.args.pid c.args.self.now = paused_there c.self.invariant c.args.bound c.args.pid c.image.ensures c.self.view_is c.pause_before.ensures c.in_default.is in search rules

pub returns : goal.returns
returns c =
    let s = c.args.self.now in
    let times = c.in_ok-times.times in
    let all = c.in_ok-push.ensures.ok ∙ ap (λ (cs : List Choice). cs ++ replicate times (Run c.args.pid)) c.new-choices.ensures in
    let times_seen = seen_there c.self.invariant (λ i ps w. runs_to c.args.bound i ps c.args.pid w) c.image.ensures c.self.view_is in
    let pause_seen = seen_there c.self.invariant (λ i ps w. pause_of c.args.bound i ps c.args.pid w) c.image.ensures c.self.view_is in
    ap Ok (ran_so c.args.bound c.args.pid s c.make.new.self times c.in_ok-times.pause c.in_ok-make.field-0 (c.in_ok-times.ensures.times ∙ times_seen) (c.in_ok-times.ensures.pause ∙ pause_seen)
    (ap (λ (cs : List Choice). gone cs s) (sym all) ∙ c.in_ok-make.ensures.ok))
