use Rattle.bx_debug.proofs.Words.{arith}
use Rattle.bx_debug.proofs.Pausing.{ran_found, ran_most, ran_none, ran_on}
use Rattle.bx_debug.proofs.pauses.Runner.runs.Goals as goal

pub loop-made-init : goal.loop-made-init
loop-made-init c = ran_none c.in_ok-here.ensures c.requires

pub loop-made-preserved : goal.loop-made-preserved
loop-made-preserved c = ran_on c.loop-made.invariant c.meeting-met.ensures c.in_ok-run_once.ensures c.pause_behind.ensures c.in_default.is

pub returns-in-Some : goal.returns-in-Some
returns-in-Some c =
    let (times, pause) = ran_found c.loop-made.invariant c.meeting-met.ensures c.in_ok-run_once.ensures c.pause_behind.ensures c.in-Some.is (omega arith) in
    record { some = omega arith; times = times; pause = pause }

pub returns : goal.returns
returns c = let (times, pause) = ran_most c.loop-made.invariant (omega arith) in record { some = omega arith; times = times; pause = pause }
