use Rattle.std.proofs.Common.{◌≡◌, ◌++◌, drop, string_bytes}
use Rattle.bx_debugger.specs.Words.{term_lines}
use Rattle.bx_debugger.proofs.words.push_terms.Given as goal

-- what is written and what is left to write make the whole
abbrev pub invariant-loop-term : goal.invariant-loop-term
invariant-loop-term l = string_bytes l.out ++ term_lines l.atoms l.word (drop l.term-index l.terms) ≡ string_bytes l.fn.out ++ term_lines l.atoms l.word l.terms
