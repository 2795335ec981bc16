use Rattle.std.proofs.Common.{◌≡◌, ◌∙◌, ◌+◌, ◌-◌, ◌≤◌, List, ◌++◌, append-nil, arith, drop, length, length-append, replicate, string_bytes, subst, sym, take, ap}
use Rattle.std.proofs.lemmas.Grind.{common_steps}
use Rattle.std.proofs.lemmas.List.{length-replicate}
use Rattle.bx_world.specs.declared.choices.Choice.{Choice}
use Rattle.bx_debug.specs.Leading.{led}
use Rattle.bx_debug.specs.Sessions.{behind}
use Rattle.bx_debugger.specs.Trace.{trace_lines}
use Rattle.bx_debugger.proofs.TraceRows.{between, between_long}
use Rattle.bx_debugger.proofs.traces.push_trace.Goals as goal

pub loop-run-init : goal.loop-run-init
loop-run-init c =
    let first = c.args.first in
    let session = c.args.session.now in
    let left : c.part-left.result ≡ take (session.at - first) (drop first session.choices) = c.part-left.ensures ∙ (λ i. take (c.at.ensures.at i - first) (drop first (c.schedule.ensures i))) in
    let within : session.at ≤ length session.choices = subst (λ n. n ≤ length session.choices) c.at.ensures.at c.at.ensures.within in
    let written = string_bytes c.args.out.now in
    record {
      count = ap (λ (cs : List Choice). first + length cs) left ∙ between_long first session.at session.choices c.requires within;
      written = ap (λ w. written ++ trace_lines c.args.program.now (first + 1) w c.part-left.result) c.in_ok-world.ensures
          ∙ ap (λ cs. written ++ trace_lines c.args.program.now (first + 1) (led session.image (take first session.choices) session.start) cs) (left ∙ between first session.at session.choices c.requires);
    }

pub loop-run-preserved : goal.loop-run-preserved
loop-run-preserved c =
    let run = c.in-Some.run' in
    let so_far = c.loop-run.invariant.count in
    let long = ap length c.in-Some.ensures.1 in
    record {
      count = omega (arith, so_far, long, length-append (replicate run.times run.choice) c.next_run.new.self, length-replicate run.times run.choice);
      written = c.in_ok-push_run_lines.ensures c.next_run.new.self
          ∙ ap (λ cs. string_bytes c.loop-run.out ++ trace_lines c.args.program.now (c.loop-run.made + 1) c.loop-run.world cs) (sym c.in-Some.ensures.1)
          ∙ c.loop-run.invariant.written;
    }

pub returns : goal.returns
returns c =
    let session = c.args.session.now in
    let all : string_bytes c.loop-run.out ≡ string_bytes c.args.out.now ++ trace_lines c.args.program.now (c.args.first + 1) (led session.image (take c.args.first session.choices) session.start) (drop c.args.first (behind session)) =
    sym (append-nil (string_bytes c.loop-run.out))
    ∙ ap (λ cs. string_bytes c.loop-run.out ++ trace_lines c.args.program.now (c.loop-run.made + 1) c.loop-run.world cs) (sym c.in_default.ensures.0)
    ∙ c.loop-run.invariant.written in
    grind (arith, common_steps)
