use Rattle.bx_world.proofs.Words.{◌≡◌, ◌<◌, ◌≤◌, true, false, None, Some, length, map, refl, sym, ap, subst, ◌∙◌, arith, List, Option, IsOk, OnErr, slice_get, set, map-set_same, can_run, Why, Lanes, Tried}
use Rattle.bx_world.proofs.Words.{GoesOn, LivesRunOn, StopsAt, sent_so, may_at, may_run, life, Life, Live}
use Rattle.std.proofs.lemmas.List.{length-map}
use Rattle.std.proofs.lemmas.Option.{slice_get_past}
use Rattle.bx_world.specs.declared.turns.Tried.TheVariants as tries
use Rattle.bx_world.specs.Batches.{StopsIf}
use Rattle.bx_world.specs.declared.slots.Slot.TheVariants as slots
use Rattle.bx_world.proofs.Acted.{seen_at}
use Rattle.bx_world.proofs.Batches.{one_told, unable_among, lacked_among, live_at, went_among, went_on, sent_among, stands_sending, one_behind}
use Rattle.bx_world.proofs.procs.Procs.run.Goals as goal

pub returns-then-at-len-clause-done : goal.returns-then-at-len-clause-done
returns-then-at-len-clause-done g c =
    let image = c.args.by.image.now in
    let p = c.args.by.pid in
    let lives = map (life g.P.Hold.shown) c.self.inside.slots.items in
    let l = g.C.Hold.shown c.args.lanes.now in
    let past : length lives ≤ p = omega (arith, length-map c.self.inside.slots.items (life g.P.Hold.shown)) in
    one_told image p (c.args.self.now, l) (c.args.self.now, l) c.one.result.ran c.one.result.last tries.NotEnabled c.one.ensures.ran c.one.ensures.last
    (subst (λ (xs : List Life). LivesRunOn image p (xs, l) (xs, l) 0 (Some tries.NotEnabled)) c.self.view_is (unable_among image p (lives, l) (lives, l) (ap (may_at may_run) (slice_get_past lives p past)) refl))

pub returns-in_default-clause-done : goal.returns-in_default-clause-done
returns-in_default-clause-done g c =
    let image = c.args.by.image.now in
    let p = c.args.by.pid in
    let seen = life g.P.Hold.shown in
    let all = c.self.inside.slots.items in
    let here : p < length all = omega arith in
    let slot = c.index_mut-slot.result.now in
    let l = g.C.Hold.shown c.args.lanes.now in
    let cannot : may_run (seen slot) ≡ false = ap (λ s. may_run (seen s)) c.in_default.is in
    let same : map seen (set all p slot) ≡ c.args.self.now = map-set_same seen all p slot slot (ap seen c.index_mut-slot.ensures.value) ∙ c.self.view_is in
    one_told image p (c.args.self.now, l) (map seen (set all p slot), l) c.one-in_default.result.ran c.one-in_default.result.last tries.NotEnabled c.one-in_default.ensures.ran c.one-in_default.ensures.last
    (unable_among image p (c.args.self.now, l) (map seen (set all p slot), l)
    (ap (λ (xs : List Life). may_at may_run (slice_get xs p)) (sym c.self.view_is) ∙ ap (may_at may_run) (seen_at seen all p slot here c.index_mut-slot.ensures.value) ∙ cannot)
    (ap (λ (xs : List Life). (xs, l)) same))

pub returns-then-not-can_run-clause-done : goal.returns-then-not-can_run-clause-done
returns-then-not-can_run-clause-done g c =
    let image = c.args.by.image.now in
    let p = c.args.by.pid in
    let seen = life g.P.Hold.shown in
    let all = c.self.inside.slots.items in
    let here : p < length all = omega arith in
    let slot = c.index_mut-slot.result.now in
    let back = slots.Live c.in-Live.holder in
    let l = g.C.Hold.shown c.args.lanes.now in
    let cannot : may_run (seen slot) ≡ false = ap (λ s. may_run (seen s)) c.in-Live.is ∙ ap can_run (sym c.see.ensures) ∙ sym c.can_run.ensures ∙ c.if-not-can_run.true in
    let same : map seen (set all p back) ≡ c.args.self.now = map-set_same seen all p back slot (ap seen (sym c.in-Live.is ∙ c.index_mut-slot.ensures.value)) ∙ c.self.view_is in
    one_told image p (c.args.self.now, l) (map seen (set all p back), l) c.one-then-not-can_run.result.ran c.one-then-not-can_run.result.last tries.NotEnabled c.one-then-not-can_run.ensures.ran c.one-then-not-can_run.ensures.last
    (unable_among image p (c.args.self.now, l) (map seen (set all p back), l)
    (ap (λ (xs : List Life). may_at may_run (slice_get xs p)) (sym c.self.view_is) ∙ ap (may_at may_run) (seen_at seen all p slot here c.index_mut-slot.ensures.value) ∙ cannot)
    (ap (λ (xs : List Life). (xs, l)) same))

pub returns-in_default-edit-clause-done : goal.returns-in_default-edit-clause-done
returns-in_default-edit-clause-done g c =
    let image = c.args.by.image.now in
    let p = c.args.by.pid in
    let seen = life g.P.Hold.shown in
    let all = c.self.inside.slots.items in
    let here : p < length all = omega arith in
    let slot = c.index_mut-slot.result.now in
    let x = g.P.Hold.shown c.in-Live.holder in
    let y = g.P.Hold.shown c.edit.follows.lender-at-none in
    let back = slots.Live c.edit.follows.lender-at-none in
    let l = g.C.Hold.shown c.args.lanes.now in
    let kept : y ≡ x = subst (λ r. OnErr r (y ≡ x)) c.in_default-edit.is c.edit.follows.holds-at-none in
    let can : may_run (seen slot) ≡ true = ap (λ s. may_run (seen s)) c.in-Live.is ∙ ap can_run (sym c.see.ensures) ∙ sym c.can_run.ensures ∙ c.if-not-can_run.false in
    let same : map seen (set all p back) ≡ c.args.self.now = map-set_same seen all p back slot (ap Live kept ∙ ap seen (sym c.in-Live.is ∙ c.index_mut-slot.ensures.value)) ∙ c.self.view_is in
    one_told image p (c.args.self.now, l) (map seen (set all p back), l) c.one-in_default-edit.result.ran c.one-in_default-edit.result.last tries.Memory c.one-in_default-edit.ensures.ran c.one-in_default-edit.ensures.last
    (lacked_among image p (c.args.self.now, l) (map seen (set all p back), l)
    (ap (λ (xs : List Life). may_at may_run (slice_get xs p)) (sym c.self.view_is) ∙ ap (may_at may_run) (seen_at seen all p slot here c.index_mut-slot.ensures.value) ∙ can)
    (ap (λ (xs : List Life). (xs, l)) same))

pub run_on-ran-requires-clause-able : goal.run_on-ran-requires-clause-able
run_on-ran-requires-clause-able g c = ap can_run (c.in-Ok.ensures.value ∙ sym c.see.ensures) ∙ sym c.can_run.ensures ∙ c.if-not-can_run.false

pub returns-in_default-stop-clause-done : goal.returns-in_default-stop-clause-done
returns-in_default-stop-clause-done g c =
    let image = c.args.by.image.now in
    let p = c.args.by.pid in
    let seen = life g.P.Hold.shown in
    let all = c.self.inside.slots.items in
    let here : p < length all = omega arith in
    let x = c.in-Ok.process.now in
    let y = c.run_on-ran.new.process in
    let back = slots.Live (c.edit.follows.lender y) in
    let ran = c.run_on-ran.result.ran in
    let l = g.C.Hold.shown c.args.lanes.now in
    let lent : g.P.Hold.shown (c.edit.follows.lender y) ≡ y = c.edit.follows.holds y (subst (λ r. IsOk r) (sym c.in-Ok.is) refl) in
    subst (λ (xs : List Life). LivesRunOn image p (xs, l) (map seen (set all p back), l) ran None) c.self.view_is
    (went_among image p seen all c.index_mut-slot.result.now back x y here c.index_mut-slot.ensures.value (ap seen c.in-Live.is ∙ ap Live (sym c.in-Ok.ensures.value)) (ap Live lent) ran l
    (went_on image p c.args.times ran x y c.run_on-ran.result.stop l c.run_on-ran.ensures))

pub sends-sent-requires : goal.sends-sent-requires
sends-sent-requires g c =
    let image = c.args.by.image.now in
    let p = c.args.by.pid in
    let mid = c.run_on-ran.new.process in
    let stops = subst (λ (o : Option Why). StopsIf image p mid o) c.in-Some.is c.run_on-ran.ensures.2 in
    stands_sending image p mid (subst (λ (w : Why). StopsIf image p mid (Some w)) (sym c.why.ensures ∙ c.in-Sends.is) stops)

pub returns-in-Sends-clause-done : goal.returns-in-Sends-clause-done
returns-in-Sends-clause-done g c =
    let image = c.args.by.image.now in
    let p = c.args.by.pid in
    let seen = life g.P.Hold.shown in
    let all = c.self.inside.slots.items in
    let here : p < length all = omega arith in
    let x = c.in-Ok.process.now in
    let mid = c.run_on-ran.new.process in
    let y = c.sends-sent.new.process in
    let back = slots.Live (c.edit.follows.lender y) in
    let ran = c.run_on-ran.result.ran in
    let l = g.C.Hold.shown c.args.lanes.now in
    let m = g.C.Hold.shown c.sends-sent.new.lanes in
    let lent : g.P.Hold.shown (c.edit.follows.lender y) ≡ y = c.edit.follows.holds y (subst (λ r. IsOk r) (sym c.in-Ok.is) refl) in
    let went = subst (λ (w : Why). GoesOn image p c.args.times x mid ran (Some w)) (sym c.why.ensures ∙ c.in-Sends.is) (subst (λ (o : Option Why). GoesOn image p c.args.times x mid ran o) c.in-Some.is c.run_on-ran.ensures) in
    subst (λ (t : Tried). LivesRunOn image p (c.args.self.now, l) (map seen (set all p back), m) ran (Some t)) (sym c.sent.ensures)
    (subst (λ (xs : List Life). LivesRunOn image p (xs, l) (map seen (set all p back), m) ran (Some (sent_so c.sends-sent.result))) c.self.view_is
    (sent_among image p seen all c.index_mut-slot.result.now back x y here c.index_mut-slot.ensures.value (ap seen c.in-Live.is ∙ ap Live (sym c.in-Ok.ensures.value)) (ap Live lent)
    c.args.times ran mid l m c.sends-sent.result went c.sends-sent.ensures.sent c.sends-sent.ensures.lacked))

pub halt_at-last-requires : goal.halt_at-last-requires
halt_at-last-requires g c =
    let image = c.args.by.image.now in
    let p = c.args.by.pid in
    let seen = life g.P.Hold.shown in
    let all = c.self.inside.slots.items in
    let here : p < length all = omega arith in
    let y = c.run_on-ran.new.process in
    let back = slots.Live (c.edit.follows.lender y) in
    let lent : g.P.Hold.shown (c.edit.follows.lender y) ≡ y = c.edit.follows.holds y (subst (λ r. IsOk r) (sym c.in-Ok.is) refl) in
    let stops = subst (λ (o : Option Why). StopsIf image p y o) c.in-Some.is c.run_on-ran.ensures.2 in
    subst (λ (o : Option Life). StopsAt image p o c.in-Some.stop) (sym (live_at image p seen all back y here (ap Live lent))) stops

pub returns-clause-done : goal.returns-clause-done
returns-clause-done g c =
    let image = c.args.by.image.now in
    let p = c.args.by.pid in
    let seen = life g.P.Hold.shown in
    let all = c.self.inside.slots.items in
    let here : p < length all = omega arith in
    let x = c.in-Ok.process.now in
    let y = c.run_on-ran.new.process in
    let back = slots.Live (c.edit.follows.lender y) in
    let ran = c.run_on-ran.result.ran in
    let l = g.C.Hold.shown c.args.lanes.now in
    let after : List Life × Lanes = (c.halt_at-last.new.self, g.C.Hold.shown c.halt_at-last.new.lanes) in
    let lent : g.P.Hold.shown (c.edit.follows.lender y) ≡ y = c.edit.follows.holds y (subst (λ r. IsOk r) (sym c.in-Ok.is) refl) in
    one_behind image p (c.args.self.now, l) (map seen (set all p back), l) after ran c.halt_at-last.result
    (subst (λ (xs : List Life). LivesRunOn image p (xs, l) (map seen (set all p back), l) ran None) c.self.view_is
    (went_among image p seen all c.index_mut-slot.result.now back x y here c.index_mut-slot.ensures.value (ap seen c.in-Live.is ∙ ap Live (sym c.in-Ok.ensures.value)) (ap Live lent) ran l
    (went_on image p c.args.times ran x y c.run_on-ran.result.stop l c.run_on-ran.ensures)))
    c.halt_at-last.ensures
