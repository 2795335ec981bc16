-- Runs that are cut into chains in one way or another.
use Rattle.std.proofs.Common.{◌≡◌, ap}
use Rattle.bx_board.specs.Jobs.{IsSameRun, Work, end_of, run_alone}

pub same_run : {work other : Work} → work ≡ other → IsSameRun work other
same_run e = record { image = ap (λ (w : Work). w.image) e; start = ap (λ (w : Work). w.start) e; path = ap (λ (w : Work). w.path) e }

-- the same run has the same end
pub same_end : (work other : Work) → IsSameRun work other → end_of work ≡ end_of other
same_end work other same = λ i. run_alone (same.image i) (same.start i) (same.path i)
