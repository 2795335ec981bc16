use Rattle.std.proofs.Common.{◌≡◌, codes}
use Rattle.std.specs.List.{fold}
use Rattle.bx_text.specs.declared.escapes.Escape.TheVariants.{Plain}
use Rattle.bx_text.specs.Escapes.{step, known_in}
use Rattle.bx_text.specs.Left.{IsLeft}
use Rattle.bx_text.proofs.escapes.means_utf8.Given as goal

abbrev pub invariant-loop-c : goal.invariant-loop-c
invariant-loop-c l = record {
  left : IsLeft (codes "utf8") (known_in Plain l.yielded) l.left;
  opened : l.escape ≡ fold step Plain l.yielded;
}
