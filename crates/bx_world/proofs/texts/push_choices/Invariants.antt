use Rattle.bx_world.proofs.Words.{◌≡◌, ◌++◌, drop, string_bytes}
use Rattle.bx_world.specs.Texts.{spellings}
use Rattle.bx_world.proofs.texts.push_choices.Given as goal

-- what is written and what is left to write make the whole
abbrev pub invariant-loop-choice : goal.invariant-loop-choice
invariant-loop-choice l = string_bytes l.out ++ spellings (drop l.choice-index l.choices) ≡ string_bytes l.fn.out ++ spellings l.choices
