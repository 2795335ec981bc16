use Rattle.std.proofs.Common.{◌≡◌, ◌++◌, drop, string_bytes}
use Rattle.bx_summary.specs.Tallied.{shared_texts}
use Rattle.bx_summary.proofs.texts.push_outcomes.Given as goal

-- what is written and what is left to write make the whole
abbrev pub invariant-loop-shared : goal.invariant-loop-shared
invariant-loop-shared l = string_bytes l.out ++ shared_texts l.atoms (drop l.shared-index l.outcomes) ≡ string_bytes l.fn.out ++ shared_texts l.atoms l.outcomes
