-- What spawn and spawn_link make of the processes and of the lanes.
-- Source: Erlang Reference Manual, "Processes", "Process Creation".
use Rattle.std.specs.Prelude.{ℕ, List, [], ◌∷◌, ◌++◌, Result, Ok, length, if◌then◌else◌}
use Rattle.bx_terms.specs.declared.faults.Fault.{Fault}
use Rattle.bx_load.specs.Image.{Loaded}
use Rattle.bx_world.specs.declared.acts.Act.TheVariants.{Spawned, Unspawned}
use Rattle.bx_world.specs.declared.lanes.Lanes.{Lanes}
use Rattle.bx_world.specs.declared.requests.SpawnRequest.{SpawnRequest}
use Rattle.bx_world.specs.declared.turns.Turn.TheVariants.{Trapped}
use Rattle.bx_world.specs.World.{Life, Live}
use Rattle.bx_world.specs.Deeds.{past_limits, new_child}
use Rattle.bx_world.specs.Lifetimes.{Among}
use Rattle.bx_world.specs.Acting.{lives_acted}

-- after a trap there is no child
abbrev pub childless_at_trap : List Life → Lanes → Result Among Fault → Result Among Fault
childless_at_trap lives lanes (Ok (w, Trapped kind)) = Ok ((lives, lanes), Trapped kind)
childless_at_trap lives lanes answer = answer

abbrev pub lives_with_child : Loaded → ℕ → SpawnRequest → Lanes → List Life → Result Among Fault
lives_with_child image p spawn lanes lives =
    childless_at_trap lives lanes (lives_acted image p (Spawned (length lives) spawn.linked) lanes (lives ++ Live (new_child image p spawn) ∷ []))

abbrev pub lives_spawned : Loaded → ℕ → SpawnRequest → Lanes → List Life → Result Among Fault
lives_spawned image p spawn lanes lives = if past_limits spawn (length lives) then lives_acted image p Unspawned lanes lives else lives_with_child image p spawn lanes lives
