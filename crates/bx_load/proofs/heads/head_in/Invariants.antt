use Rattle.std.proofs.Common.{◌≡◌, ◌+◌, drop}
use Rattle.bx_asm.specs.Unit.{total}
use Rattle.bx_load.specs.Functions.{head_from}
use Rattle.bx_load.proofs.heads.head_in.Given as goal

-- the function is looked for among those that are left, behind the items of the others
abbrev pub invariant-loop-head : goal.invariant-loop-head
invariant-loop-head l =
    (head_from 0 l.name l.arity l.functions ≡ head_from l.before l.name l.arity (drop l.head-index l.functions))
    × (l.before + total (drop l.head-index l.functions) ≡ total l.functions)
