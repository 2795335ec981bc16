use Rattle.std.proofs.Common.{List, ℕ}
use Rattle.bx_debugger.specs.Talks.{Hears}
use Rattle.bx_debugger.proofs.talks.Talk.answer_all.Given as goal

-- what the reader gave was heard
abbrev pub invariant-loop : goal.invariant-loop
invariant-loop g l = (read : List ℕ) × Hears (g.W.Write.contents l.fn.writer) (g.W.Write.contents l.writer) (g.C.Read.remaining l.fn.commands) (g.C.Read.remaining l.commands)
    l.fn.self l.talk read
