use Rattle.bx_plan.proofs.Words.{◌≡◌, ◌++◌, map, take, vec_capacity}
use Rattle.bx_plan.proofs.Edits.{put_later}
use Rattle.bx_plan.proofs.schedules.stretches.chain.Given as goal

-- so many of those behind are there, and the room is as it was
abbrev pub invariant-loop-stretch : goal.invariant-loop-stretch
invariant-loop-stretch l = record {
  items : l.stretches.items ≡ l.initial.stretches.items ++ map (put_later l.count) (take l.stretch-index l.behind);
  room : vec_capacity l.stretches ≡ vec_capacity l.initial.stretches;
}
