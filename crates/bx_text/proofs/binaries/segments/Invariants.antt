use Rattle.std.proofs.Common.{◌≡◌, ◌-◌}
use Rattle.bx_text.specs.Token.{lexeme_of}
use Rattle.bx_text.specs.Terms.{parts, parts_at, segment_at}
use Rattle.bx_text.proofs.binaries.segments.Given as goal

abbrev pub invariant-loop-turn : goal.invariant-loop-turn
invariant-loop-turn l = parts (segment_at l.depth) (l._turn-end - l._turn) (lexeme_of l.l) ≡ parts_at (segment_at l.depth) (lexeme_of l.fn.l)
