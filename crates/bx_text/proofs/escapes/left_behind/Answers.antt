use Rattle.std.proofs.Common.{sym, subst, ◌++◌}
use Rattle.bx_text.specs.Escapes.{one_of}
use Rattle.bx_text.specs.Left.{IsLeft}
use Rattle.bx_text.proofs.Lefts.{behind_more}
use Rattle.bx_text.proofs.escapes.left_behind.Goals as goal

pub returns-in_ok-left-in-Some : goal.returns-in_ok-left-in-Some
returns-in_ok-left-in-Some c = λ word ks h.
    subst (λ o. IsLeft word (ks ++ one_of o) c.rest_behind.result) (sym c.in-Some.is)
    (behind_more word ks c.in_ok-left-in-Some.field-0.now c.in-Some.c c.rest_behind.result c.rest_behind.ensures (subst (λ o. IsLeft word ks o) c.in_ok-left-in-Some.was h))
