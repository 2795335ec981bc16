use Rattle.bx_world.proofs.Words.{◌≡◌, ◌<◌, ◌+◌, false, None, Some, Ok, refl, sym, ap, subst, ◌∙◌, arith, Option, Bool, is_some, ◌||◌, Tried, Fits, WorldRunsOn, Ended, DoesSome, Lacks}
use Rattle.bx_world.proofs.Many.{some_ended, none_tried, noted_ok, noted_err}
use Rattle.bx_world.proofs.runs.advance_some.Goals as goal

fresh : {A : Type 0} (o : Option A) (b : Bool) → (is_some o || b) ≡ false → o ≡ None
fresh None b e = refl
fresh (Some t) b e = cc

pub returns-then-is_over : goal.returns-then-is_over
returns-then-is_over g c = some_ended c.args.image.now c.args.choice c.args.times c.args.end.now c.requires.some (sym c.is_over.ensures ∙ c.if-is_over.true)

pub returns-in_default : goal.returns-in_default
returns-in_default g c =
    let image = c.args.image.now in
    let choice = c.args.choice in
    let old : Ended = record { world = c.end.inside.world; applied = c.end.inside.applied; refused = c.end.inside.refused } in
    let new = c.apply_some-ran.new.self in
    let ran = c.apply_some-ran.result.ran in
    let free : old.refused ≡ None = ap (λ (e : Ended). e.refused) c.end.view_is ∙ fresh c.args.end.now.refused (is_some c.args.end.now.world.trap) (sym c.is_over.ensures ∙ c.if-is_over.false) in
    subst (λ (e : Ended). DoesSome image choice c.args.times e (record old { world = new; applied = old.applied + ran }) (Ok ran)) c.end.view_is
    (none_tried image choice c.args.times ran old new free
    (subst (λ (o : Option Tried). Fits c.args.times ran o) c.in_default.is c.apply_some-ran.ensures.fits)
    (subst (λ (o : Option Tried). WorldRunsOn image choice old.world new ran o) c.in_default.is c.apply_some-ran.ensures.done))

pub note-requires : goal.note-requires
note-requires g c =
    let ran = c.apply_some-ran.result.ran in
    let few : ran < c.args.times = subst (λ (o : Option Tried). Fits c.args.times ran o) c.in-Some.is c.apply_some-ran.ensures.fits in
    let same : c.end.inside.applied ≡ c.args.end.now.applied = ap (λ (e : Ended). e.applied) c.end.view_is in
    omega (arith, few, same, c.requires.few)

pub returns-in-Ok : goal.returns-in-Ok
returns-in-Ok g c =
    let image = c.args.image.now in
    let choice = c.args.choice in
    let old : Ended = record { world = c.end.inside.world; applied = c.end.inside.applied; refused = c.end.inside.refused } in
    let new = c.apply_some-ran.new.self in
    let ran = c.apply_some-ran.result.ran in
    let last = c.note.new.end in
    let free : old.refused ≡ None = ap (λ (e : Ended). e.refused) c.end.view_is ∙ fresh c.args.end.now.refused (is_some c.args.end.now.world.trap) (sym c.is_over.ensures ∙ c.if-is_over.false) in
    let few : ran < c.args.times = subst (λ (o : Option Tried). Fits c.args.times ran o) c.in-Some.is c.apply_some-ran.ensures.fits in
    subst (λ (e : Ended). DoesSome image choice c.args.times e last (Ok (ran + 1))) c.end.view_is
    (noted_ok image choice c.args.times ran old new last c.in-Some.tried tt free few
    (subst (λ (o : Option Tried). WorldRunsOn image choice old.world new ran o) c.in-Some.is c.apply_some-ran.ensures.done) c.in-Ok.ensures)

pub returns-in-Err : goal.returns-in-Err
returns-in-Err g c =
    let image = c.args.image.now in
    let choice = c.args.choice in
    let old : Ended = record { world = c.end.inside.world; applied = c.end.inside.applied; refused = c.end.inside.refused } in
    let new = c.apply_some-ran.new.self in
    let ran = c.apply_some-ran.result.ran in
    let last = c.note.new.end in
    let free : old.refused ≡ None = ap (λ (e : Ended). e.refused) c.end.view_is ∙ fresh c.args.end.now.refused (is_some c.args.end.now.world.trap) (sym c.is_over.ensures ∙ c.if-is_over.false) in
    let few : ran < c.args.times = subst (λ (o : Option Tried). Fits c.args.times ran o) c.in-Some.is c.apply_some-ran.ensures.fits in
    subst (λ (e : Ended). Lacks image choice c.args.times e last) c.end.view_is
    (noted_err image choice c.args.times ran old new last c.in-Some.tried c.in-Err.failed free few
    (subst (λ (o : Option Tried). WorldRunsOn image choice old.world new ran o) c.in-Some.is c.apply_some-ran.ensures.done) c.in-Err.ensures)
