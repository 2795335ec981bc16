use Rattle.bx_plan.proofs.Words.{List, take, sym, subst, Stretch, AreStretches}
use Rattle.bx_plan.proofs.Stretching.{sides}
use Rattle.bx_plan.proofs.schedules.stretches.begin.Goals as goal

pub made-requires : goal.made-requires
made-requires c = subst (λ (xs : List Stretch). AreStretches 0 (take c.over_by-at.result xs)) (sym c.deref-2.ensures.value) (sides c.args.stretches.now.items c.requires.rising c.over_by-at.result).0
