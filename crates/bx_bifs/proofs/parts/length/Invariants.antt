use Rattle.bx_bifs.proofs.Words.{◌≡◌, ◌+◌, ◌≤◌, option_map, height, length_of}
use Rattle.bx_bifs.proofs.parts.length.Given as goal

-- what was counted and what is left make the whole
abbrev pub invariant-loop-tail : goal.invariant-loop-tail
invariant-loop-tail l = (option_map (λ n. l.count + n) (length_of l.rest) ≡ length_of l.list) × (l.count + height l.rest ≤ 10000)
