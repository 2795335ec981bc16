use Rattle.bx_debug.proofs.Words.{◌≡◌, ◌∙◌, [], false, true, refl, sym, ap, arith, is_some}
use Rattle.bx_debug.proofs.Stretches.{far_ends, far_none, far_on, far_short, none_of, reaches_none}
use Rattle.bx_debug.proofs.walks.stretch.Goals as goal

pub loop-run-init : goal.loop-run-init
loop-run-init c = far_none refl

pub overflow_add-made : goal.overflow_add-made
overflow_add-made c = let short = far_short c.next_run.new.self c.loop-run.invariant c.in-Some.ensures.1 c.in_ok-more.ensures refl in omega (arith, short, c.requires)

pub returns-then-is_some : goal.returns-then-is_some
returns-then-is_some c =
    far_ends c.next_run.new.self c.loop-run.invariant c.in-Some.ensures.1 c.in_ok-more.ensures refl (λ none. let no : true ≡ false = sym c.if-is_some.true ∙ c.is_some.ensures ∙ ap is_some none in cc)

pub loop-run-preserved : goal.loop-run-preserved
loop-run-preserved c = far_on c.next_run.new.self c.loop-run.invariant c.in-Some.ensures.1 c.in_ok-more.ensures refl (none_of c.in_ok-more.stop (sym c.is_some.ensures ∙ c.if-is_some.false))

pub returns : goal.returns
returns c = far_ends [] c.loop-run.invariant c.in_default.ensures.0 reaches_none (omega arith) (λ none. refl)
