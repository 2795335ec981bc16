use Rattle.std.proofs.Common.{◌≡◌, ◌++◌, ℕ, length, replicate}
use Rattle.bx_plan.proofs.schedules.part.Part.skip_all.Given as goal

-- the choice was taken so many times, and the others are left
abbrev pub invariant-loop-choice : goal.invariant-loop-choice
invariant-loop-choice l = (times : ℕ) × (l.fn.self ≡ replicate times l.choice ++ l.self)

abbrev pub decreases-loop-choice : goal.decreases-loop-choice
decreases-loop-choice l = length l.self
