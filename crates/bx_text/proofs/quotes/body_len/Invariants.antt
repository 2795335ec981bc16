use Rattle.std.proofs.Common.{length, ◌-◌, ◌≡◌, ◌≤◌, drop, ◌+◌}
use Rattle.bx_text.specs.Lexing.{body_len}
use Rattle.bx_text.proofs.quotes.body_len.Given as goal

abbrev pub invariant-loop-n : goal.invariant-loop-n
invariant-loop-n l = (l.n + body_len l.quote (drop l.n l.bytes) ≡ body_len l.quote l.bytes) × (l.n ≤ length l.bytes)

abbrev pub decreases-loop-n : goal.decreases-loop-n
decreases-loop-n l = length l.bytes - l.n
