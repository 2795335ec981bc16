use Rattle.std.proofs.Common.{◌⊎◌, Bool, true, refl, sym, inl, inr, ap, ◌∙◌, arith}
use Rattle.std.specs.Prelude.{◌↔◌, IsTrue}
use Rattle.std.proofs.lemmas.Grind.{common_steps}
use Rattle.bx_world.specs.Enabled.{actor}
use Rattle.bx_world.specs.Running.{Ended}
use Rattle.bx_world.proofs.Orders.{either_way}
use Rattle.bx_replay.specs.Exchanges.{IsSettled, SameProcess}
use Rattle.bx_replay.specs.Moving.{IndependentAt}
use Rattle.bx_replay.proofs.Pairs.{both_made, tried}
use Rattle.bx_replay.proofs.independence.are_independent.Goals.{After-is_settled}
use Rattle.bx_replay.proofs.independence.are_independent.Goals as goal

pub returns-then-not-both_made : goal.returns-then-not-both_made
returns-then-not-both_made c =
    (λ h. cc, λ h. sym c.if-not-both_made.true ∙ c.both_made.ensures.1 (both_made c.args.image.now c.args.first c.args.second c.args.here.now c.in_ok-one.one h c.in_ok-one.ensures))

pub returns-then-not-both_made-2 : goal.returns-then-not-both_made-2
returns-then-not-both_made-2 c = (
  λ h. cc,
  λ h.
      let turned = either_way c.args.image.now c.args.here.now.world c.args.first c.args.second h.1 in
      sym c.if-not-both_made-2.true ∙ c.both_made-2.ensures.1 (both_made c.args.image.now c.args.second c.args.first c.args.here.now c.in_ok-other.other (h.0, turned) c.in_ok-other.ensures),
)

-- both orders were made
decided : (c : After-is_settled) (agree : Bool)
    → (IsTrue agree → IsSettled c.args.image.now c.args.here.now.world c.args.first c.args.second ⊎ (SameProcess (actor c.args.first) c.in_ok-one.one.world c.in_ok-other.other.world × SameProcess (actor c.args.second) c.in_ok-one.one.world c.in_ok-other.other.world))
    → (SameProcess (actor c.args.first) c.in_ok-one.one.world c.in_ok-other.other.world × SameProcess (actor c.args.second) c.in_ok-one.one.world c.in_ok-other.other.world → IsTrue agree)
    → IsTrue agree ↔ IndependentAt c.args.image.now c.args.here.now c.args.first c.args.second
decided c agree told known =
    tried c.args.image.now c.args.first c.args.second c.args.here.now (grind (arith, common_steps)) (rw (ap (λ (e : Ended). e.world) c.here.view_is) at (c.may_go_first.ensures.0 c.if-not-may_go_first.false)) c.requires.apart
    c.in_ok-one.one c.in_ok-other.other agree c.in_ok-one.ensures c.in_ok-other.ensures (c.both_made.ensures.0 c.if-not-both_made.false) (c.both_made-2.ensures.0 c.if-not-both_made-2.false) told known

pub returns-then-is_settled : goal.returns-then-is_settled
returns-then-is_settled c =
    decided (goal.at.returns-then-is_settled c).After-is_settled true (λ _. inl (rw (ap (λ (e : Ended). e.world) c.here.view_is) at (c.is_settled.ensures c.if-is_settled.true))) (λ _. refl)

pub returns : goal.returns
returns c =
    let same = rw (ap (λ (e : Ended). e.world) c.one.view_is, ap (λ (e : Ended). e.world) c.other.view_is) at c.same_processes.ensures in
    decided (goal.at.returns c).After-is_settled c.same_processes.result (λ h. inr (same.0 h)) same.1
