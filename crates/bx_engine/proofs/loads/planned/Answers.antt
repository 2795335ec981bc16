use Rattle.bx_plan.specs.Planned.{Planned, schedules}
use Rattle.bx_plan.specs.Plans.{TakesMemory, plan_of}
use Rattle.bx_plan.specs.Reading.{parts_of}
use Rattle.bx_engine.proofs.FileRows.{file_fails}
use Rattle.bx_engine.proofs.loads.planned.Goals as goal

pub returns-in-Err : goal.returns-in-Err
returns-in-Err c =
    file_fails (TakesMemory (parts_of 10 c.args.text.now)) (λ (plan : Planned). schedules plan) c.args.file c.in-Err.fault c.in_file.result (plan_of c.args.text.now) c.in-Err.ensures c.in_file.ensures
