use Rattle.bx_plan.proofs.Words.{◌≡◌, ◌<◌, ◌++◌, List, length, take, replicate, sym, ap, subst, ◌∙◌, arith, length-append, length-replicate, Choice, NextRun, take-append_seam}
use Rattle.bx_plan.proofs.schedules.Schedule.append.Goals as goal

pub returns-in-Err-clause-err : goal.returns-in-Err-clause-err
returns-in-Err-clause-err c =
    let old = c.args.self.now in
    let at = c.loop-run in
    let run = c.in-Some.run' in
    let next = subst (NextRun at.left c.next_run.new.self) c.in-Some.is c.next_run.ensures in
    let done = at.invariant.0 in
    let kept : c.push.new.self ≡ old ++ done = c.in-Err.ensures.err.0 ∙ at.invariant.1 in
    let some : 0 < length c.args.part = omega (arith, ap length (sym at.invariant.2), length-append done at.left, ap length next.1, length-append (replicate run.times run.choice) c.next_run.new.self, length-replicate run.times run.choice, next.0) in (
      c.truncate.ensures ∙ ap (λ (cs : List Choice). take c.len-count.result cs) kept ∙ ap (λ n. take n (old ++ done)) c.len-count.ensures.count ∙ take-append_seam old done,
      λ none. omega (arith, ap length none, some),
    )
