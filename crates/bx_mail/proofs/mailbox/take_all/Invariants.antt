use Rattle.std.proofs.Common.{◌≡◌, ◌+◌, ◌++◌, [], length}
use Rattle.bx_mail.proofs.mailbox.take_all.Given as goal

-- what was taken, and what is left
abbrev pub invariant-loop-turn : goal.invariant-loop-turn
invariant-loop-turn l = (l.messages.items ++ l.mailbox.rest ≡ l.fn.mailbox.rest) × (l.mailbox.passed ≡ []) × (l._turn + length l.mailbox.rest ≡ length l.fn.mailbox.rest)
