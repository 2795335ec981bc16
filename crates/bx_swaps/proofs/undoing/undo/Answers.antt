use Rattle.bx_swaps.proofs.Words.{◌≡◌, ◌∙◌, length, ap, sym, subst, arith, List, Ok, Choice, started, Ended, reached, bounded, IsUndo}
use Rattle.bx_load.specs.Image.{export}
use Rattle.bx_swaps.proofs.Begun.{applied_first, export_there, none_before, undo_done, undo_past}
use Rattle.bx_swaps.proofs.undoing.undo.Goals as goal

pub returns-then-position-len : goal.returns-then-position-len
returns-then-position-len c =
    let place = export c.args.image.now c.args.module c.args.function 0 in
    undo_past c.args.image.now place c.args.schedule.now c.args.position (export_there place c.entry.result c.is_none.result c.entry.ensures c.is_none.ensures c.if-is_none.false) (omega (arith, c.len.ensures.count))

pub undone-requires-clause-within : goal.undone-requires-clause-within
undone-requires-clause-within c =
    let image = c.args.image.now in
    let found = started image c.args.module c.args.function in
    let choices = c.args.schedule.now in
    let trail = c.in_ok-trail.trail in
    let zero = none_before image found choices trail c.in_ok-trail.ensures in
    let len : c.len-2.result ≡ length trail.choices = c.len-2.ensures.count in
    let made : c.made.inside.applied ≡ (reached (length trail.choices) trail).applied =
    ap (λ (e : Ended). e.applied) (c.made.view_is ∙ c.in_ok-made.ensures) ∙ ap (λ n. (reached n trail).applied) len in
    omega (arith, bounded trail (length trail.choices) (omega arith))

pub undone-requires-clause-all : goal.undone-requires-clause-all
undone-requires-clause-all c =
    let image = c.args.image.now in
    let found = started image c.args.module c.args.function in
    let choices = c.args.schedule.now in
    let trail = c.in_ok-trail.trail in
    let zero = none_before image found choices trail c.in_ok-trail.ensures in
    let len : c.len-2.result ≡ length trail.choices = c.len-2.ensures.count in
    let made : c.made.inside.applied ≡ (reached (length trail.choices) trail).applied =
    ap (λ (e : Ended). e.applied) (c.made.view_is ∙ c.in_ok-made.ensures) ∙ ap (λ n. (reached n trail).applied) len in
    applied_first trail c.made.inside.applied zero made

pub returns : goal.returns
returns c =
    let image = c.args.image.now in
    let found = started image c.args.module c.args.function in
    let choices = c.args.schedule.now in
    let trail = c.in_ok-trail.trail in
    let zero = none_before image found choices trail c.in_ok-trail.ensures in
    let len : c.len-2.result ≡ length trail.choices = c.len-2.ensures.count in
    let made : c.made.inside.applied ≡ (reached (length trail.choices) trail).applied =
    ap (λ (e : Ended). e.applied) (c.made.view_is ∙ c.in_ok-made.ensures) ∙ ap (λ n. (reached n trail).applied) len in
    subst (λ (cs : List Choice). IsUndo image found choices c.args.position (Ok (cs, c.in_ok-trail-2.before))) (sym c.into_schedule.ensures)
    (undo_done image found choices trail c.made.inside.applied c.in_ok-trail.ensures made c.in_ok-trail-2.trail c.args.position c.in_ok-trail-2.before c.in_ok-trail-2.ensures)
