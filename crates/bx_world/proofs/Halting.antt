-- An answer that a process was given, told.
use Rattle.bx_world.proofs.Words.{◌≡◌, ◌∙◌, Result, Ok, Err, Process, Effect, Why, TakenBack}
use Rattle.bx_proc.specs.Telling.{Settles}
use Rattle.bx_proc.specs.declared.stops.Why.TheVariants as stops

-- wherever memory may run out
pub any_takes : (takes : Type 0) (old new : Process) (r : Result (Unit {0}) Why) (said : Process × Effect) → Settles takes old new r said → Settles (Unit {0}) old new r said
any_takes takes old new (Ok done) said h = h
any_takes takes old new (Err stops.Memory) said h = (tt, h.1)
any_takes takes old new (Err (stops.Trapped kind)) said h = h
any_takes takes old new (Err (stops.Asks native)) said h = h
any_takes takes old new (Err stops.Sends) said h = h
any_takes takes old new (Err stops.Ends) said h = h

-- what waits in one that does not is taken out again
pub settled_back : (takes : Type 0) (x y z : Process) (stop : Why) (said : Process × Effect) → Settles takes x y (Err stop) said → TakenBack y z stop → z ≡ x
settled_back takes x y z stops.Memory said h back = back ∙ h.1
settled_back takes x y z (stops.Trapped kind) said h back = back ∙ h.1
settled_back takes x y z (stops.Asks native) said h back = absurd h
settled_back takes x y z stops.Sends said h back = absurd h
settled_back takes x y z stops.Ends said h back = back ∙ h.1
