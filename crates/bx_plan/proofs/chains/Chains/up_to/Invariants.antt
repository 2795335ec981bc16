use Rattle.bx_plan.proofs.Words.{◌≡◌, ◌-◌, ◌<◌, ◌≤◌, length, take, chain_path, head, lines_view}
use Rattle.bx_plan.proofs.chains.Chains.up_to.Given as goal

-- the chain lies on the way, and leads as deep at least
abbrev pub invariant-loop-at : goal.invariant-loop-at
invariant-loop-at l = record {
  there : l.at < length l.self.heads;
  front : chain_path (lines_view l.lines) l.self l.at ≡ take (head l.self l.at).past (chain_path (lines_view l.lines) l.self (length l.self.heads - 1));
  deep : l.depth ≤ (head l.self l.at).past;
}

abbrev pub decreases-loop-at : goal.decreases-loop-at
decreases-loop-at l = l.at
