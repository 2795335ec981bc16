use Rattle.std.proofs.Common.{append_assoc}
use Rattle.bx_chart.proofs.sheets.push_view.Goals as goal

pub returns : goal.returns
returns c = rw (c.in_ok-write.ensures.bytes) (simp append_assoc)
