use Rattle.std.proofs.Common.{take}
use Rattle.bx_debugger.specs.Talks.{Follows}
use Rattle.bx_debugger.proofs.talks.Talk.feed.Given as goal

-- the bytes so far were heard
abbrev pub invariant-loop-byte : goal.invariant-loop-byte
invariant-loop-byte g l = Follows (g.W.Write.contents l.fn.writer) (g.W.Write.contents l.writer) l.fn.self l.self (take l.byte-index l.bytes)
