use Rattle.bx_world.proofs.Words.{◌≡◌, ◌<◌, Some, length, map, refl, sym, ap, subst, ◌∙◌, arith, List, Option, IsOk, OnErr, slice_get, set, map-set_same, Lanes, LivesRunOn, StopsAt, may_at, may_run, life, Life, Live}
use Rattle.bx_world.specs.declared.slots.Slot.TheVariants as slots
use Rattle.bx_world.proofs.Acted.{seen_at}
use Rattle.bx_world.proofs.Batches.{stopped_among, one_whole, whole_alone}
use Rattle.bx_world.proofs.procs.Procs.halt_at.Goals as goal

pub returns-in_default-edit : goal.returns-in_default-edit
returns-in_default-edit g c =
    let image = c.args.by.image.now in
    let p = c.args.by.pid in
    let seen = life g.P.Hold.shown in
    let all = c.self.inside.slots.items in
    let here : p < length all = omega arith in
    let slot = c.index_mut-slot.result.now in
    let x = g.P.Hold.shown c.in-Live.holder in
    let y = g.P.Hold.shown c.edit.follows.lender-at-none in
    let back = slots.Live c.edit.follows.lender-at-none in
    let l = g.C.Hold.shown c.args.lanes.now in
    let kept : y ≡ x = subst (λ r. OnErr r (y ≡ x)) c.in_default-edit.is c.edit.follows.holds-at-none in
    let there : slice_get c.args.self.now p ≡ Some (Live x) = ap (λ (xs : List Life). slice_get xs p) (sym c.self.view_is) ∙ seen_at seen all p slot here c.index_mut-slot.ensures.value ∙ ap Some (ap seen c.in-Live.is) in
    let stops = subst (λ (o : Option Life). StopsAt image p o c.args.stop) there c.requires in
    let same : map seen (set all p back) ≡ c.args.self.now = map-set_same seen all p back slot (ap Live kept ∙ ap seen (sym c.in-Live.is ∙ c.index_mut-slot.ensures.value)) ∙ c.self.view_is in
    (ap (may_at may_run) there ∙ stops.1, ap (λ (xs : List Life). (xs, l)) same)

pub returns : goal.returns
returns g c =
    let image = c.args.by.image.now in
    let p = c.args.by.pid in
    let seen = life g.P.Hold.shown in
    let all = c.self.inside.slots.items in
    let here : p < length all = omega arith in
    let x = c.in-Ok.process.now in
    let y = c.halt-done.new.process in
    let back = slots.Live (c.edit.follows.lender y) in
    let l = g.C.Hold.shown c.args.lanes.now in
    let m = g.C.Hold.shown c.halt-done.new.lanes in
    let done = c.halt-done.result in
    let after : List Life × Lanes = (c.settle.new.self, g.C.Hold.shown c.settle.new.lanes) in
    let lent : g.P.Hold.shown (c.edit.follows.lender y) ≡ y = c.edit.follows.holds y (subst (λ r. IsOk r) (sym c.in-Ok.is) refl) in
    let there : slice_get c.args.self.now p ≡ Some (Live x) = ap (λ (xs : List Life). slice_get xs p) (sym c.self.view_is) ∙ seen_at seen all p c.index_mut-slot.result.now here c.index_mut-slot.ensures.value ∙ ap Some (ap seen c.in-Live.is ∙ ap Live (sym c.in-Ok.ensures.value)) in
    let stops = subst (λ (o : Option Life). StopsAt image p o c.args.stop) there c.requires in
    whole_alone image p (c.args.self.now, l) after c.settle.result
    (subst (λ (xs : List Life). LivesRunOn image p (xs, l) after 0 (Some c.settle.result)) c.self.view_is
    (stopped_among image p seen all c.index_mut-slot.result.now back x y here c.index_mut-slot.ensures.value (ap seen c.in-Live.is ∙ ap Live (sym c.in-Ok.ensures.value)) (ap Live lent)
    0 l m done after c.settle.result c.settle.ensures (one_whole image p x y l m done stops.1 (c.halt-done.ensures stops.0 stops.2))))
