use Rattle.std.proofs.Common.{◌≡◌}
use Rattle.std.specs.List.{fold}
use Rattle.bx_text.specs.declared.escapes.Escape.TheVariants.{Plain}
use Rattle.bx_text.specs.Escapes.{step}
use Rattle.bx_text.proofs.escapes.open_in.Given as goal

abbrev pub invariant-loop-c : goal.invariant-loop-c
invariant-loop-c l = l.escape ≡ fold step Plain l.yielded
