use Rattle.std.proofs.Common.{append_assoc}
use Rattle.bx_summary.proofs.texts.push_heading.Goals as goal

pub returns : goal.returns
returns c = rw (c.in_ok-push_str-2.ensures.bytes, c.in_ok-push_str.ensures.bytes, c.in_ok-write.ensures.bytes, c.as_str-name.ensures) (simp append_assoc)
