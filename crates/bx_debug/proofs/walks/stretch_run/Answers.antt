use Rattle.bx_debug.proofs.Words.{◌≡◌, ◌+◌, ◌-◌, ◌∙◌, [], replicate, refl, sym, ap, arith}
use Rattle.bx_debug.proofs.Stretches.{chose_none, chose_some, far_ends, far_none, far_on, next_one, reaches_none}
use Rattle.bx_debug.proofs.walks.stretch_run.Goals as goal

pub returns-in-Some : goal.returns-in-Some
returns-in-Some c =
    far_ends (replicate (c.args.run.times - (c.loop-made.made + 1)) c.args.run.choice) c.loop-made.invariant (next_one c.args.run.choice (omega arith))
    (chose_some c.args.run.choice c.loop-made.world c.choose.new.world c.in_ok-stop.field-0 c.in-Some.is c.in_ok-stop.ensures) (omega arith) (λ none. cc)

pub returns-in-Some-stop_behind : goal.returns-in-Some-stop_behind
returns-in-Some-stop_behind c =
    far_ends (replicate (c.args.run.times - (c.loop-made.made + 1)) c.args.run.choice) c.loop-made.invariant (next_one c.args.run.choice (omega arith))
    (chose_none c.args.run.choice c.loop-made.world c.choose.new.world c.in_ok-stop.field-0 c.in_default.is c.in_ok-stop.ensures (sym c.in-Some-stop_behind.is ∙ c.stop_behind.ensures)) (omega arith) (λ none. cc)

pub loop-made-preserved : goal.loop-made-preserved
loop-made-preserved c =
    far_on (replicate (c.args.run.times - (c.loop-made.made + 1)) c.args.run.choice) c.loop-made.invariant (next_one c.args.run.choice (omega arith))
    (chose_none c.args.run.choice c.loop-made.world c.choose.new.world c.in_ok-stop.field-0 c.in_default.is c.in_ok-stop.ensures c.stop_behind.ensures) (omega arith) c.in_default-stop_behind.is

pub loop-made-init : goal.loop-made-init
loop-made-init c = far_none (ap (λ n. replicate n c.args.run.choice) (omega arith))

pub returns : goal.returns
returns c =
    let over : c.args.run.times - c.loop-made.made ≡ 0 = omega arith in
    far_ends [] c.loop-made.invariant (ap (λ n. replicate n c.args.run.choice) over) reaches_none (omega arith) (λ none. refl)
