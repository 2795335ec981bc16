-- Whether an exchange may be made, by tests. Worlds are compared by their codes.
use Rattle.std.specs.Prelude.{ℕ, ◌==◌, Bool, true, false, ◌&&◌, not, List, [], ◌∷◌, drop, is_none}
use Rattle.std.specs.Coded.{Coded}
use base.Stored.{Gv, gnil, gnum, gcons}
use Rattle.bx_terms.specs.TreeCode.{tree_code}
use Rattle.bx_terms.specs.contracts.kinds.Trap as traps
use Rattle.bx_load.specs.Image.{Loaded}
use Rattle.bx_proc.specs.contracts.process.Proc as process
use Rattle.bx_world.specs.contracts.lanes.Lanes as lane
use Rattle.bx_world.specs.declared.choices.Choice.{Choice}
use Rattle.bx_world.specs.Choosing.{chosen}
use Rattle.bx_world.specs.Enabled.{actor, can}
use Rattle.bx_world.specs.Independent.{one_is_local}
use Rattle.bx_world.specs.Posting.{all_behind}
use Rattle.bx_world.specs.Running.{Ended}
use Rattle.bx_world.specs.World.{State, state_code}
use Rattle.bx_replay.specs.Courses.{Course, reached}

abbrev pub code_eq : Gv → Gv → Bool
code_eq gnil gnil = true
code_eq (gnum m) (gnum n) = m == n
code_eq (gcons a b) (gcons c d) = code_eq a c && code_eq b d
code_eq _ _ = false

abbrev pub world_code : Coded State
world_code = state_code process.the_row.coded tree_code lane.the_row.coded traps.the_row.coded

unfoldable pub world_eq : State → State → Bool
world_eq v w = code_eq (world_code.code v) (world_code.code w)

-- the first choice and then the second are applied from this world, and neither traps
abbrev pub both_run : Loaded → State → Choice → Choice → Bool
both_run image w first second =
    let next = chosen image first w in
    is_none next.trap && (can next second && is_none (chosen image second next).trap)

-- both are enabled; they concern different processes, and of two runs at least one is local
abbrev pub may_go_first : Loaded → State → Choice → Choice → Bool
may_go_first image w first second =
    can w first && (can w second && (not (actor first == actor second) && one_is_local image w first second))

-- both orders lead to the same world
abbrev pub are_independent : Loaded → State → Choice → Choice → Bool
are_independent image w first second =
    may_go_first image w first second
    && (both_run image w first second && world_eq (all_behind image (first ∷ second ∷ []) w) (all_behind image (second ∷ first ∷ []) w))

-- the next two choices where a run has come, which refused none
abbrev pub next_independent : Loaded → Ended → List Choice → Bool
next_independent image end [] = false
next_independent image end (choice ∷ []) = false
next_independent image end (first ∷ second ∷ more) = is_none end.refused && are_independent image end.world first second

-- the choices at i and i + 1
abbrev pub may_exchange : ℕ → Course → Bool
may_exchange i course = next_independent course.image (reached i course) (drop i course.choices)
