use Rattle.std.proofs.Common.{◌≡◌, ℕ, ◌<◌}
use Rattle.bx_plan.specs.Chains.{chain_path}
use Rattle.bx_board.proofs.books.Book.chain_at.Given as goal

-- the chains so far have other paths
abbrev pub invariant-loop-chain : goal.invariant-loop-chain
invariant-loop-chain l = (n : ℕ) → n < l.chain → l.piece.path ≡ chain_path l.self.job.plan l.self.job.chains n → ⊥
