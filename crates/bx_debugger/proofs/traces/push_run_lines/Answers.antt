use Rattle.std.proofs.Common.{◌≡◌, ◌∙◌, ◌+◌, ◌-◌, ◌++◌, replicate, string_bytes, arith, sym, ap}
use Rattle.bx_debugger.specs.Trace.{made, trace_lines}
use Rattle.bx_debugger.proofs.TraceRows.{trace_next}
use Rattle.bx_debugger.proofs.traces.push_run_lines.Goals as goal

pub loop-made-init : goal.loop-made-init
loop-made-init c = λ rest.
    let before = c.args.numbered.0 in
    let times = c.args.numbered.1.times in
    let all : before + times - before ≡ times = omega arith in
    ap (λ k. string_bytes c.args.out.now ++ trace_lines c.args.program.now (before + 1) c.args.world.now (replicate k c.args.numbered.1.choice ++ rest)) all

pub loop-made-preserved : goal.loop-made-preserved
loop-made-preserved c = λ rest.
    let past = c.args.numbered.0 + c.args.numbered.1.times in
    let count = c.loop-made.made in
    let choice = c.args.numbered.1.choice in
    trace_next c.args.program.now (count + 1) (past - count) (past - (count + 1)) c.loop-made.world c.make.new.world choice rest (string_bytes c.loop-made.out) (string_bytes c.push_trace_line.new.out) _ (omega arith)
    c.in_ok-push_trace_line.ensures (c.in_ok-make.ensures ∙ ap (λ i. made i choice c.loop-made.world) c.image.ensures) (c.loop-made.invariant rest)

pub returns : goal.returns
returns c = λ rest.
    let past = c.args.numbered.0 + c.args.numbered.1.times in
    let choice = c.args.numbered.1.choice in
    let all : c.loop-made.made ≡ past = omega arith in
    let none : past - c.loop-made.made ≡ 0 = omega arith in
    ap (λ k. string_bytes c.loop-made.out ++ trace_lines c.args.program.now (k + 1) c.loop-made.world rest) (sym all)
    ∙ ap (λ k. string_bytes c.loop-made.out ++ trace_lines c.args.program.now (c.loop-made.made + 1) c.loop-made.world (replicate k choice ++ rest)) (sym none)
    ∙ c.loop-made.invariant rest
