use Rattle.std.proofs.Common.{◌≡◌, ◌+◌, ◌*◌, ◌-◌}
use Rattle.bx_text.specs.Token.{lexeme_of}
use Rattle.bx_text.specs.Terms.{parts, parts_at, pair_at, term_at}
use Rattle.bx_text.specs.Passing.{element_passed}
use Rattle.bx_text.specs.Grammar.{IsToken}
use Rattle.bx_text.proofs.passing.+pass.Given as goal

-- each function's rank, over the depth
abbrev pub decreases-pass_group : goal.decreases-pass_group
decreases-pass_group l = 16 * l.depth

abbrev pub decreases-pass : goal.decreases-pass
decreases-pass l = 16 * l.depth + 1

abbrev pub decreases-pass_next : goal.decreases-pass_next
decreases-pass_next l = 16 * l.depth + 2

abbrev pub decreases-pass_element : goal.decreases-pass_element
decreases-pass_element l = 16 * l.depth + 2

abbrev pub decreases-pass_elements : goal.decreases-pass_elements
decreases-pass_elements l = 16 * l.depth + 3

abbrev pub decreases-pass_pair : goal.decreases-pass_pair
decreases-pass_pair l = 16 * l.depth + 3

abbrev pub decreases-pass_pairs : goal.decreases-pass_pairs
decreases-pass_pairs l = 16 * l.depth + 4

abbrev pub decreases-pass_tail : goal.decreases-pass_tail
decreases-pass_tail l = 16 * l.depth + 3

abbrev pub decreases-pass_end : goal.decreases-pass_end
decreases-pass_end l = 16 * l.depth + 4

abbrev pub decreases-pass_tuple : goal.decreases-pass_tuple
decreases-pass_tuple l = 16 * l.depth + 5

abbrev pub decreases-pass_list : goal.decreases-pass_list
decreases-pass_list l = 16 * l.depth + 5

abbrev pub decreases-map : goal.decreases-map
decreases-map l = 16 * l.depth + 5

abbrev pub decreases-pass_bracket : goal.decreases-pass_bracket
decreases-pass_bracket l = 16 * l.depth + 6

abbrev pub invariant-pass_elements-loop-turn : goal.invariant-pass_elements-loop-turn
invariant-pass_elements-loop-turn l = record {
  reads : parts (element_passed (term_at l.depth)) (l._turn-end - l._turn) (lexeme_of l.l) ≡ parts_at (element_passed (term_at l.depth)) (lexeme_of l.fn.l);
  stands : IsToken (lexeme_of l.l);
}

abbrev pub invariant-pass_pairs-loop-turn : goal.invariant-pass_pairs-loop-turn
invariant-pass_pairs-loop-turn l = record {
  reads : parts (pair_at (term_at l.depth)) (l._turn-end - l._turn) (lexeme_of l.l) ≡ parts_at (pair_at (term_at l.depth)) (lexeme_of l.fn.l);
  stands : IsToken (lexeme_of l.l);
}
