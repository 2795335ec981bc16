use Rattle.bx_world.proofs.Words.{append_assoc}
use Rattle.bx_world.proofs.texts.push_process.Goals as goal

pub returns : goal.returns
returns c = rw (c.in_ok-push_str.ensures.bytes, c.in_ok-push_status.ensures, c.in_ok-write.ensures.bytes) (simp append_assoc)
