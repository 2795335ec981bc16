use Rattle.std.proofs.Common.{string_bytes}
use Rattle.bx_engine.proofs.PlanRows.{entries_next}
use Rattle.bx_engine.proofs.plan_lines.push_entries.Goals as goal

pub loop-run-preserved : goal.loop-run-preserved
loop-run-preserved c =
    let run = c.in-Some.run' in
    entries_next run.times run.choice c.loop-run.left c.next_run.new.self (string_bytes c.loop-run.out) (string_bytes c.push_entry.new.out) _ c.in-Some.ensures.0 c.in-Some.ensures.1 c.in-Some.ensures.2 c.in_ok-push_entry.ensures
    c.loop-run.invariant
