use Rattle.std.proofs.Common.{◌≡◌, ◌<◌, ◌-◌, length, sym, ap, subst, ◌∙◌, arith, rules}
use Rattle.std.specs.Prelude.{slice_index_or}
use Rattle.bx_world.specs.Running.{Ended}
use Rattle.bx_replay.specs.Keeping.{IsReached}
use Rattle.bx_replay.proofs.Keeps.{pushed}
use Rattle.bx_replay.proofs.kept.keep_if_due.Goals as goal

pub returns-clause-kept : goal.returns-clause-kept
returns-clause-kept c = λ course begins are is.
    let kept = c.args.kept.now.items in
    let found = c.last_of.result.now in
    let long : c.len.result ≡ length kept = search rules in
    let some : 0 < length kept → found ≡ slice_index_or kept (length kept - 1) found = λ h. rw (c.deref.ensures.value, long) at (c.last_of.ensures.kept (omega arith)) in
    let same = c.new-here.ensures ∙ c.in_ok-copied.ensures in
    rw c.in_ok-push.ensures.items (pushed course kept c.args.start.now found c.new-here.result are begins (λ none. c.last_of.ensures.start (omega arith)) some
    (omega (arith, c.is_due.ensures c.if-not-is_due.false, ap (λ (e : Ended). e.applied) c.end.view_is, ap (λ (e : Ended). e.applied) same)) (subst (IsReached course) (sym same) is))
