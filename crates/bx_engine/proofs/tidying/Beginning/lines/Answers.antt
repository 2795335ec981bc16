use Rattle.std.proofs.Common.{◌<◌, ◌≤◌, length, string_bytes, subst, arith}
use Rattle.std.specs.Prelude.{List}
use Rattle.std.proofs.lemmas.List.{take_all}
use Rattle.bx_load.specs.Image.{export}
use Rattle.bx_plan.specs.Plans.{Named}
use Rattle.bx_plan.specs.Planned.{schedules}
use Rattle.bx_world.specs.World.{started}
use Rattle.bx_swaps.proofs.Begun.{export_there}
use Rattle.bx_engine.specs.Tidying.{AreLinesOf}
use Rattle.bx_engine.proofs.TidyRows.{done_at, lines_more, there_ok}
use Rattle.bx_engine.proofs.tidying.Beginning.lines.Goals as goal

pub loop-number-preserved : goal.loop-number-preserved
loop-number-preserved c = λ start begins.
    let plan = schedules c.args.plan.now in
    let within : c.loop-number.number < length plan = omega (arith, c.len-number-end.ensures) in
    lines_more c.args.self.now.image.now start plan c.loop-number.number (string_bytes c.loop-number.out) (string_bytes c.push_tidied.new.out) within
    (c.loop-number.invariant start begins) (c.in_ok-push_tidied.ensures start begins)

pub returns : goal.returns
returns c =
    let image = c.args.self.now.image.now in
    let plan = schedules c.args.plan.now in
    let place = export image c.args.self.now.module c.args.self.now.function 0 in
    let past : length plan ≤ c.loop-number.number = omega (arith, c.len-number-end.ensures) in
    done_at (started image c.args.self.now.module c.args.self.now.function) (λ start text. AreLinesOf image start plan (string_bytes text)) c.loop-number.out
    (there_ok place (export_there place c.entry.result c.is_none.result c.entry.ensures c.is_none.ensures c.if-is_none.false))
    (λ start begins. subst (λ (p : List Named). AreLinesOf image start p (string_bytes c.loop-number.out)) (take_all c.loop-number.number plan past) (c.loop-number.invariant start begins))
