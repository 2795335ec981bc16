-- A run of a local item does something to its own process, ends it, or traps; it neither sends nor asks.
use Rattle.bx_world.proofs.Words.{◌≡◌, ℕ, true, false, refl, Bool, Option, Some, None, Result, Ok, Err, Trap, Place, Loaded, Effect, Process, to_itself, is_local_at}
use Rattle.bx_terms.specs.Outcomes.{◌>>=◌}
use Rattle.bx_ops.specs.Classes.{is_local}
use Rattle.bx_listing.specs.Items.{Item}
use Rattle.bx_bifs.specs.declared.natives.Native.{Native}
use Rattle.bx_load.specs.Numbering.{numbered_at}
use Rattle.bx_proc.specs.declared.parts.Effect.TheVariants as effects
use Rattle.bx_proc.specs.declared.parts.Status.{Status}
use Rattle.bx_proc.specs.declared.parts.Status.TheVariants as states
use Rattle.bx_proc.specs.Table.{row}
use Rattle.bx_proc.specs.Stepping.{run, tried, told, attempted, there, allowed, allowed_if, is_held_up, woken}
use Rattle.bx_proc.proofs.Own.{Own, own_row}
use Rattle.bx_world.specs.Independent.{is_local_item}

allowed_row : (number : ℕ) (image : Loaded) (here : Place) (b : Bool) (i : Item) (p : Process) → is_local i.op ≡ true → Own (allowed_if b i >>= λ j. row number image here j p)
allowed_row number image here true i p local = tt
allowed_row number image here false i p local = own_row number image here i p local

at_item : (number : ℕ) (image : Loaded) (here : Place) (o : Option Item) (p : Process) → is_local_item o ≡ true → Own (there o >>= allowed p.fault >>= λ i. row number image here i p)
at_item number image here None p local = tt
at_item number image here (Some i) p local = allowed_row number image here (is_held_up p.fault i) i p local

run_own : (number : ℕ) (image : Loaded) (o : Option Place) (p : Process) → is_local_at image o ≡ true → Own (run number image o p)
unfolding run
run_own number image None p local = absurd (cc)
run_own number image (Some here) p local = at_item number image here (numbered_at image here) p local

tried_own : (number : ℕ) (image : Loaded) (status : Status) (asked : Option Native) (p : Process) → is_local_at image p.place ≡ true → Own (tried number image status asked p)
tried_own number image status (Some native) p local = tt
tried_own number image states.Ready None p local = run_own number image p.place p local
tried_own number image states.Waiting None p local = run_own number image p.place (woken p) local
tried_own number image (states.Ended reason) None p local = tt

told_own : (p : Process) (said : Result (Process × Effect) Trap) → Own said → to_itself (told p said).1 ≡ true
told_own p (Ok (q, effects.Ran)) h = refl
told_own p (Ok (q, effects.Ended reason)) h = refl
told_own p (Ok (q, effects.Trap kind)) h = refl
told_own p (Ok (q, effects.Send to message)) h = h
told_own p (Ok (q, effects.Ask native arguments)) h = h
told_own p (Err kind) h = refl

pub attempt_own : (image : Loaded) (number : ℕ) (p : Process) → is_local_at image p.place ≡ true → to_itself (attempted image number p).1 ≡ true
unfolding attempted
attempt_own image number p local = told_own p (tried number image p.status p.asked p) (tried_own number image p.status p.asked p local)
