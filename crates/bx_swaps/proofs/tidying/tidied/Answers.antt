use Rattle.bx_swaps.proofs.Words.{◌≡◌, ◌∙◌, ◌-◌, ◌<◌, ◌≤◌, refl, ap, subst, arith, Course, gathered, switches, IsTidied}
use Rattle.bx_swaps.proofs.Begun.{same_then}
use Rattle.bx_swaps.proofs.Gathering.{gathered_tidy, given_so, tidied_so}
use Rattle.bx_swaps.proofs.tidying.tidied.Goals as goal

pub returns-then-switches-given : goal.returns-then-switches-given
returns-then-switches-given c =
    let trail = c.args.trail.now in
    let count = c.args.count in
    let new = c.gather.new.row in
    let is : new ≡ gathered (count - 1) 1 trail = c.in_ok-gather.ensures ∙ ap (gathered (count - 1) 1) c.in_ok-row.ensures in
    let given : c.switches-given.result ≡ switches trail.choices = c.switches-given.ensures ∙ ap switches c.choices.ensures ∙ ap (λ (r : Course). switches r.choices) c.in_ok-row.ensures in
    let made : c.switches.result ≡ switches new.choices = c.switches.ensures ∙ ap switches c.choices-2.ensures in
    let more : switches trail.choices < switches new.choices = omega (arith, given, made) in
    same_then c.into_trail.result (IsTidied count trail) c.in_ok-row-2.field-0 trail c.into_trail.ensures c.in_ok-row-2.ensures
    (subst (λ (d : Course). IsTidied count trail d) (given_so count trail new is more) (tidied_so count trail))

pub returns : goal.returns
returns c =
    let trail = c.args.trail.now in
    let count = c.args.count in
    let new = c.gather.new.row in
    let is : new ≡ gathered (count - 1) 1 trail = c.in_ok-gather.ensures ∙ ap (gathered (count - 1) 1) c.in_ok-row.ensures in
    let given : c.switches-given.result ≡ switches trail.choices = c.switches-given.ensures ∙ ap switches c.choices.ensures ∙ ap (λ (r : Course). switches r.choices) c.in_ok-row.ensures in
    let made : c.switches.result ≡ switches new.choices = c.switches.ensures ∙ ap switches c.choices-2.ensures in
    let few : switches new.choices ≤ switches trail.choices = omega (arith, given, made) in
    same_then c.into_trail-2.result (IsTidied count trail) new new c.into_trail-2.ensures refl
    (subst (λ (d : Course). IsTidied count trail d) (gathered_tidy count trail new is few) (tidied_so count trail))
