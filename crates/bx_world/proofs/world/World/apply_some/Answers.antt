use Rattle.bx_world.proofs.Words.{ℕ, Some, sym, subst, Option, Choice, Tried, WorldRunsOn}
use Rattle.bx_world.proofs.Batches.{heard_in_world, expired_in_world}
use Rattle.bx_world.proofs.world.World.apply_some.Goals as goal

pub returns-in-Run-clause-done : goal.returns-in-Run-clause-done
returns-in-Run-clause-done g c =
    subst (λ (choice : Choice). WorldRunsOn c.args.image.now choice c.args.self.now c.run.new.self c.run.result.ran c.run.result.last) (sym c.in-Run.is) c.run.ensures.done

pub returns-in-Deliver-clause-done : goal.returns-in-Deliver-clause-done
returns-in-Deliver-clause-done g c =
    let image = c.args.image.now in
    let old = c.args.self.now in
    let new = c.hear.new.self in
    subst (λ (n : ℕ). WorldRunsOn image c.args.choice old new n c.one.result.last) (sym c.one.ensures.ran)
    (subst (λ (o : Option Tried). WorldRunsOn image c.args.choice old new 0 o) (sym c.one.ensures.last)
    (subst (λ (choice : Choice). WorldRunsOn image choice old new 0 (Some c.hear.result)) (sym c.in-Deliver.is)
    (heard_in_world image c.in-Deliver.from c.in-Deliver.pid old new c.hear.result c.requires.going c.hear.ensures)))

pub returns-in-Expire-clause-done : goal.returns-in-Expire-clause-done
returns-in-Expire-clause-done g c =
    let image = c.args.image.now in
    let old = c.args.self.now in
    let new = c.expire.new.self in
    subst (λ (n : ℕ). WorldRunsOn image c.args.choice old new n c.one-in-Expire.result.last) (sym c.one-in-Expire.ensures.ran)
    (subst (λ (o : Option Tried). WorldRunsOn image c.args.choice old new 0 o) (sym c.one-in-Expire.ensures.last)
    (subst (λ (choice : Choice). WorldRunsOn image choice old new 0 (Some c.expire.result)) (sym c.in-Expire.is)
    (expired_in_world image c.in-Expire.pid old new c.expire.result c.requires.going c.expire.ensures)))
