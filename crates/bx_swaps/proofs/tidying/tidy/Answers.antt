use Rattle.bx_swaps.proofs.Words.{◌≡◌, ◌∙◌, length, ap, sym, subst, arith, List, Ok, Choice, started, Ended, reached, bounded, IsTidy}
use Rattle.bx_swaps.proofs.Begun.{none_before, tidy_done}
use Rattle.bx_swaps.proofs.tidying.tidy.Goals as goal

pub tidied-requires : goal.tidied-requires
tidied-requires c =
    let image = c.args.image.now in
    let found = started image c.args.module c.args.function in
    let choices = c.args.schedule.now in
    let trail = c.in_ok-trail.trail in
    let zero = none_before image found choices trail c.in_ok-trail.ensures in
    let len : c.len.result ≡ length trail.choices = c.len.ensures.count in
    let made : c.made.inside.applied ≡ (reached (length trail.choices) trail).applied =
    ap (λ (e : Ended). e.applied) (c.made.view_is ∙ c.in_ok-made.ensures) ∙ ap (λ n. (reached n trail).applied) len in
    omega (arith, bounded trail (length trail.choices) (omega arith))

pub returns : goal.returns
returns c =
    let image = c.args.image.now in
    let found = started image c.args.module c.args.function in
    let choices = c.args.schedule.now in
    let trail = c.in_ok-trail.trail in
    let zero = none_before image found choices trail c.in_ok-trail.ensures in
    let len : c.len.result ≡ length trail.choices = c.len.ensures.count in
    let made : c.made.inside.applied ≡ (reached (length trail.choices) trail).applied =
    ap (λ (e : Ended). e.applied) (c.made.view_is ∙ c.in_ok-made.ensures) ∙ ap (λ n. (reached n trail).applied) len in
    subst (λ (cs : List Choice). IsTidy image found choices (Ok cs)) (sym c.into_schedule.ensures)
    (tidy_done image found choices trail c.made.inside.applied c.in_ok-trail.ensures made c.in_ok-trail-2.trail c.in_ok-trail-2.ensures)
