use Rattle.std.proofs.Common.{◌≡◌, ◌∙◌, ◌+◌, ◌<◌, Bool, true, false, ap, drop, if◌then◌else◌, length, sym, arith}
use Rattle.std.specs.Option.{option_map_or}
use Rattle.std.specs.Prelude.{bytes_eq, find, slice_get}
use Rattle.bx_plan.specs.Planned.{schedules}
use Rattle.bx_plan.specs.Plans.{Named}
use Rattle.bx_chart.proofs.Asking.{next_found}
use Rattle.bx_chart.proofs.charts.with_name.Goals as goal

pub returns-then-is_named : goal.returns-then-is_named
returns-then-is_named c =
    let plan = schedules c.args.plan.now in
    let n = c.loop-number.number in
    let test : Named → Bool = λ schedule. bytes_eq schedule.0 c.args.name.now in
    let within : n < length plan = omega (arith, c.len-number-end.ensures) in
    let hit : option_map_or test (slice_get plan n) false ≡ true = sym c.is_named.ensures ∙ c.if-is_named.true in
    sym (c.loop-number.invariant ∙ next_found test plan n within ∙ ap (λ (b : Bool). if b then slice_get plan n else find test (drop (n + 1) plan)) hit)

pub loop-number-preserved : goal.loop-number-preserved
loop-number-preserved c =
    let plan = schedules c.args.plan.now in
    let n = c.loop-number.number in
    let test : Named → Bool = λ schedule. bytes_eq schedule.0 c.args.name.now in
    let within : n < length plan = omega (arith, c.len-number-end.ensures) in
    let miss : option_map_or test (slice_get plan n) false ≡ false = sym c.is_named.ensures ∙ c.if-is_named.false in
    c.loop-number.invariant ∙ next_found test plan n within ∙ ap (λ (b : Bool). if b then slice_get plan n else find test (drop (n + 1) plan)) miss
