use Rattle.std.proofs.Common.{◌≡◌, ◌+◌, ◌*◌, ◌-◌, ◌<◌, IsOk}
use Rattle.bx_text.specs.Token.{lexeme_of}
use Rattle.bx_text.specs.Terms.{many, elements_at, term_at}
use Rattle.bx_text.specs.Rows.{prefixed}
use Rattle.bx_text.specs.Grammar.{IsToken}
use Rattle.bx_text.proofs.terms.+term.Given as goal

-- each function's rank, over the depth
abbrev pub decreases-group : goal.decreases-group
decreases-group l = 16 * l.depth

abbrev pub decreases-term : goal.decreases-term
decreases-term l = 16 * l.depth + 1

abbrev pub decreases-element : goal.decreases-element
decreases-element l = 16 * l.depth + 2

abbrev pub decreases-improper : goal.decreases-improper
decreases-improper l = 16 * l.depth + 2

abbrev pub decreases-elements : goal.decreases-elements
decreases-elements l = 16 * l.depth + 3

abbrev pub decreases-proper : goal.decreases-proper
decreases-proper l = 16 * l.depth

abbrev pub decreases-tail : goal.decreases-tail
decreases-tail l = 16 * l.depth + 3

abbrev pub decreases-closed_tail : goal.decreases-closed_tail
decreases-closed_tail l = 16 * l.depth + 4

abbrev pub decreases-end : goal.decreases-end
decreases-end l = 16 * l.depth + 5

abbrev pub decreases-rest : goal.decreases-rest
decreases-rest l = 16 * l.depth + 6

abbrev pub decreases-spliced : goal.decreases-spliced
decreases-spliced l = 16 * l.depth + 7

abbrev pub decreases-list : goal.decreases-list
decreases-list l = 16 * l.depth + 8

abbrev pub decreases-tuple : goal.decreases-tuple
decreases-tuple l = 16 * l.depth + 8

abbrev pub decreases-bracket : goal.decreases-bracket
decreases-bracket l = 16 * l.depth + 9

abbrev pub invariant-elements-loop-turn : goal.invariant-elements-loop-turn
invariant-elements-loop-turn l = record {
  reads : prefixed l.found.items (many (term_at l.depth) (l._turn-end - l._turn) (lexeme_of l.l)) ≡ prefixed l.fn.found.items (elements_at (term_at l.depth) (lexeme_of l.fn.l));
  starts : l._turn ≡ 0 → lexeme_of l.l ≡ lexeme_of l.fn.l;
  stands : IsToken (lexeme_of l.l);
  goes : 0 < l._turn → IsOk (term_at l.depth (lexeme_of l.fn.l));
}
