use Rattle.bx_debug.proofs.Words.{◌≡◌, ℕ, Option, sym, ap, ◌∙◌, subst, State, Ended, halted, Reaches, Stop}
use Rattle.std.specs.FinSet as set
use Rattle.bx_debug.proofs.Unbroken.{all_unbroken, reaches_nowhere, why}
use Rattle.bx_debug.proofs.walks.stretch_unbroken.Goals as goal

pub returns-in-Some : goal.returns-in-Some
returns-in-Some c =
    reaches_nowhere c.args.image.now c.args.choices c.args.end.now.world c.in-Some.stop c.requires.some
    (ap (λ (e : Ended). halted e.world.trap) (sym c.end.view_is) ∙ sym c.halted.ensures ∙ c.in-Some.is)

pub returns : goal.returns
returns c =
    let image = c.args.image.now in
    let choices = c.args.choices in
    let from = c.args.end.now.world in
    let next = c.advance_all.new.end in
    let there : c.end.inside.world ≡ from = ap (λ (e : Ended). e.world) c.end.view_is in
    let applied = ap (λ (e : Ended). e.applied) c.end-2.view_is in
    let on = all_unbroken image choices c.end.inside.world next c.in_ok-advance_all.ensures.ok (sym c.halted.ensures ∙ c.in_default.is) in
    subst (λ (s : Option Stop). Reaches image set.empty choices from c.end-2.inside.applied next.world s) (sym c.ended_by.ensures)
    (subst (λ (n : ℕ). Reaches image set.empty choices from n next.world (why next)) (sym applied)
    (subst (λ (w : State). Reaches image set.empty choices w next.applied next.world (why next)) there on))
