use Rattle.std.proofs.Common.{List, ℕ, option_map}
use Rattle.bx_engine.proofs.Failing.{nothing_written}
use Rattle.bx_chart.specs.Charts.{chart_behind}
use Rattle.bx_chart.proofs.charts.chart_text.Goals as goal

pub returns-in-Err-text_of-clause-written : goal.returns-in-Err-text_of-clause-written
returns-in-Err-text_of-clause-written g c given planned known there =
    nothing_written {X = List ℕ} (λ text. text) c.in-Err-text_of.failure c.in-Ok.start c.args.start.now given (λ names. chart_behind names (option_map (λ text. text.now) c.args.schedule) given planned) (g.W.Write.contents c.args.writer.now)
    c.in-Ok.ensures.ok (c.in-Err-text_of.ensures given planned known there)
