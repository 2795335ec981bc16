use Rattle.bx_world.proofs.Words.{◌≡◌, ℕ, None, Some, sym, ap, subst, ◌∙◌, Option, Trap, Run, Tried, LivesRunOn, WorldRunsOn, state_after, State}
use Rattle.bx_world.proofs.Batches.{in_world, stopped_in_world}
use Rattle.bx_world.proofs.world.World.run.Goals as goal

pub returns-in_default-clause-done : goal.returns-in_default-clause-done
returns-in_default-clause-done g c =
    let image = c.args.by.image.now in
    let pid = c.args.by.pid in
    let l = g.C.Hold.shown c.self.inside.lanes in
    let m = g.C.Hold.shown c.run-batch.new.lanes in
    let old : State = record { processes = c.self.inside.procs; lanes = l; trap = c.self.inside.trap } in
    let new : State = record { processes = c.run-batch.new.self; lanes = m; trap = c.self.inside.trap } in
    let free : old.trap ≡ None = ap (λ (w : State). w.trap) c.self.view_is ∙ c.requires.going in
    let ran = c.run-batch.result.ran in
    let runs = subst (λ (o : Option Tried). LivesRunOn image pid (old.processes, l) (new.processes, m) ran o) c.in_default.is c.run-batch.ensures.done in
    subst (λ (o : Option Tried). WorldRunsOn image (Run pid) c.args.self.now new ran o) (sym c.in_default.is)
    (subst (λ (w : State). WorldRunsOn image (Run pid) w new ran None) c.self.view_is
    (subst (λ (t : Option (Trap × ℕ)). WorldRunsOn image (Run pid) (record old { trap = t }) (record new { trap = t }) ran None) (sym free)
    (in_world image (Run pid) ran (old.processes, l) (new.processes, m) runs)))

pub returns-clause-done : goal.returns-clause-done
returns-clause-done g c =
    let image = c.args.by.image.now in
    let pid = c.args.by.pid in
    let l = g.C.Hold.shown c.self.inside.lanes in
    let m = g.C.Hold.shown c.run-batch.new.lanes in
    let old : State = record { processes = c.self.inside.procs; lanes = l; trap = c.self.inside.trap } in
    let new : State = record { processes = c.run-batch.new.self; lanes = m; trap = c.self.inside.trap } in
    let free : old.trap ≡ None = ap (λ (w : State). w.trap) c.self.view_is ∙ c.requires.going in
    let ran = c.run-batch.result.ran in
    let tried = c.in-Some.tried in
    let runs = subst (λ (o : Option Tried). LivesRunOn image pid (old.processes, l) (new.processes, m) ran o) c.in-Some.is c.run-batch.ensures.done in
    subst (λ (o : Option Tried). WorldRunsOn image (Run pid) c.args.self.now c.stop_if_trapped.new.self ran o) (sym c.in-Some.is)
    (subst (λ (w : State). WorldRunsOn image (Run pid) w c.stop_if_trapped.new.self ran (Some tried)) c.self.view_is
    (subst (λ (w : State). WorldRunsOn image (Run pid) old w ran (Some tried)) (sym c.stop_if_trapped.ensures)
    (subst (λ (t : Option (Trap × ℕ)). WorldRunsOn image (Run pid) (record old { trap = t }) (state_after pid (record new { trap = t }) tried) ran (Some tried)) (sym free)
    (stopped_in_world image (Run pid) ran (old.processes, l) (new.processes, m) tried runs))))
