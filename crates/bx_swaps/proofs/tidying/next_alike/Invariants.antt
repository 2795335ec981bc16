use Rattle.bx_swaps.proofs.Words.{◌≡◌, ◌-◌, next_alike}
use Rattle.bx_swaps.proofs.Gathering.{found}
use Rattle.bx_swaps.proofs.tidying.next_alike.Given as goal

-- those that are left tell of all
abbrev pub invariant-loop-next : goal.invariant-loop-next
invariant-loop-next l = found l.at l.next (l.count - l.next) l.actor l.choices ≡ next_alike l.at (l.count - l.at) l.choices
