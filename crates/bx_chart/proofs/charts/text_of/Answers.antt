use Rattle.std.proofs.Common.{Global, String, length, option_map, string_bytes}
use Rattle.bx_plan.specs.Planned.{schedules}
use Rattle.bx_engine.specs.Loads.{ClearUpTo}
use Rattle.bx_engine.proofs.FileRows.{same_length}
use Rattle.bx_chart.proofs.Asking.{text_refused}
use Rattle.bx_chart.proofs.charts.text_of.Goals as goal

pub returns : goal.returns
returns g c given planned known there =
    text_refused (λ (text : String Global). string_bytes text) c.args.start.now (option_map (λ text. text.now) c.args.schedule) given planned
    c.in-Ok.located.0 c.in-Ok.located.1 (schedules c.in-Ok-plan_in.plan) (length c.args.listings.now) c.in-Err-chart_at.fault c.failure_of.result (ClearUpTo given)
    (c.in-Ok.ensures.loaded given known) (c.in-Ok.ensures.located given known) (same_length g.R.Read.remaining c.args.listings.now given known)
    (c.in-Ok-plan_in.ensures planned there) c.in-Err-chart_at.ensures c.failure_of.ensures
