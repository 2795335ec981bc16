use Rattle.bx_plan.proofs.Words.{◌≡◌, List, [], ◌∷◌, length, replicate, Result, Ok, Err, refl, ap, ◌-◌, arith, length-append, length-replicate, Stretch, choices_from, AreStretches, common_steps, OnErr}
use Rattle.bx_plan.proofs.schedules.Schedule.replace_tail.Goals as goal

none_there : (ss : List Stretch) → AreStretches 0 ss → length (choices_from 0 ss) ≡ 0 → length ss ≡ 0
none_there [] j e = refl
none_there (s ∷ ss) j e = absurd (omega (arith, j.0, e, length-append (replicate (s.past - 0) s.choice) (choices_from s.past ss), length-replicate (s.past - 0) s.choice))

on_err : {A E P : Type 0} (r : Result A E) → P → OnErr r P
on_err (Ok a) p = tt
on_err (Err e) p = p

pub chain-requires-clause-room : goal.chain-requires-clause-room
chain-requires-clause-room c = omega (arith, c.cut.ensures.fewer, c.cut.ensures.room, c.deref.ensures.len, ap length c.in_ok-reserve.ensures.items, c.in_ok-reserve.ensures.ok, c.len.ensures, c.tail.inside.stretches.ok.0, c.reserve.new.self.ok.0, c.self.inside.stretches.ok.0)

pub returns-in_err-reserve-clause-err : goal.returns-in_err-reserve-clause-err
returns-in_err-reserve-clause-err c = grind (arith, common_steps, on_err, none_there)
