use Rattle.bx_swaps.proofs.Words.{◌≡◌, ◌+◌, ◌-◌, ◌<◌, drop, switches}
use Rattle.bx_swaps.proofs.tidying.switches.Given as goal

-- those so far, and those that are left
abbrev pub invariant-loop-at : goal.invariant-loop-at
invariant-loop-at l = record {
  so_far : l.count + switches (drop (l.at - 1) l.choices) ≡ switches l.choices;
  few : l.count < l.at;
}
