use Rattle.bx_world.proofs.Words.{◌≡◌, None, sym, ap, subst, ◌∙◌, slice_get, Tried, lives_acted, MayLack, WorldActs, state_after, State}
use Rattle.bx_world.proofs.Batches.{acted_there}
use Rattle.bx_world.proofs.world.World.act.Goals as goal

pub returns : goal.returns
returns g c =
    let image = c.args.by.image.now in
    let pid = c.args.by.pid in
    let lives = c.self.inside.procs in
    let l = g.C.Hold.shown c.self.inside.lanes in
    let new : State = record { processes = c.act.new.self; lanes = g.C.Hold.shown c.act.new.lanes; trap = c.self.inside.trap } in
    let free : c.self.inside.trap ≡ None = ap (λ (w : State). w.trap) c.self.view_is ∙ c.requires in
    let old : State = record { processes = lives; lanes = l; trap = c.self.inside.trap } in
    subst (λ (w : State). WorldActs image pid c.args.act w c.stop_if_trapped.new.self c.of-tried.result) c.self.view_is
    (subst (λ (w : State). WorldActs image pid c.args.act old w c.of-tried.result) (sym c.stop_if_trapped.ensures)
    (subst (λ (t : Tried). WorldActs image pid c.args.act old (state_after pid new t) t) (sym c.of-tried.ensures)
    (acted_there pid (MayLack c.args.act pid l (slice_get lives pid)) (lives, l) (new.processes, new.lanes) c.self.inside.trap c.act.result (lives_acted image pid c.args.act l lives) free c.act.ensures)))
