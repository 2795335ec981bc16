use Rattle.bx_plan.proofs.Words.{◌≡◌, ℕ, ◌+◌, ◌<◌, ◌++◌, List, length, get_or, drop, replicate, sym, ap, ◌∙◌, arith, length-append, append_assoc, drop_more, length-replicate, Choice, spread_runs, common_steps}
use Rattle.bx_world.specs.declared.choices.Choice.TheVariants as choices
use Rattle.bx_plan.specs.declared.schedules.Run.{Run}
use Rattle.bx_plan.proofs.schedules.Schedule.of.Goals as goal

abbrev no_run : Run
no_run = record { choice = choices.Run 0; times = 0 }

-- the runs that are left are the next one and those behind it
next : (schedule : List Choice) (runs : List Run) (i : ℕ) → i < length runs → schedule ++ spread_runs (drop i runs) ≡ spread_runs runs
    → schedule ++ (replicate (get_or runs i no_run).times (get_or runs i no_run).choice ++ spread_runs (drop (i + 1) runs)) ≡ spread_runs runs
next schedule runs i h is = sym (ap (λ (rs : List Run). schedule ++ spread_runs rs) (drop_more runs i no_run h)) ∙ is

pub returns-in_err-push-clause-err : goal.returns-in_err-push-clause-err
returns-in_err-push-clause-err c = grind (arith, common_steps, next, length-append, length-replicate)

pub loop-run-preserved : goal.loop-run-preserved
loop-run-preserved c = grind (arith, common_steps, append_assoc, next)
