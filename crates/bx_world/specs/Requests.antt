-- What a native asks of the world, told by its arguments.
-- Source: module `erlang` of the ERTS Reference Manual.
use Rattle.std.specs.Prelude.{ℕ, List, [], ◌∷◌, Bool, true, false, Option, Some, None}
use Rattle.bx_terms.specs.Tree.{Tree, atom, pid}
use Rattle.bx_bifs.specs.Values.{elements}
use Rattle.bx_bifs.specs.declared.natives.Native.{Native}
use Rattle.bx_bifs.specs.declared.natives.Native.TheVariants as natives
use Rattle.bx_world.specs.declared.requests.Request.{Request}
use Rattle.bx_world.specs.declared.requests.Request.TheVariants.{Refused, Send, Exit, Link, Unlink, Display, Spawn}

-- an argument that has to be a pid
abbrev pub of_pid : (ℕ → Request) → Tree → Request
of_pid f (pid q) = f q
of_pid f t = Refused

-- a process to be spawned: the names of its module and its function are atoms, its arguments a proper list
abbrev pub with_arguments : Bool → ℕ → ℕ → Option (List Tree) → Request
with_arguments linked m f None = Refused
with_arguments linked m f (Some arguments) = Spawn (record { linked = linked; «module» = record { 0 = m }; function = record { 0 = f }; arguments = arguments })

abbrev pub spawning : Bool → Tree → Tree → Tree → Request
spawning linked (atom m) (atom f) arguments = with_arguments linked m f (elements arguments)
spawning linked m f arguments = Refused

abbrev pub requested : Native → List Tree → Request
requested natives.Send (to ∷ message ∷ []) = of_pid (λ q. Send q message) to
requested natives.ExitSignal (to ∷ reason ∷ []) = of_pid (λ q. Exit q reason) to
requested natives.Link (to ∷ []) = of_pid Link to
requested natives.Unlink (to ∷ []) = of_pid Unlink to
requested natives.Display (term ∷ []) = Display term
requested natives.Spawn (m ∷ f ∷ arguments ∷ []) = spawning false m f arguments
requested natives.SpawnLink (m ∷ f ∷ arguments ∷ []) = spawning true m f arguments
requested native arguments = Refused

-- one whose arguments are of the kinds that its native takes
abbrev pub IsMeant : Request → Type 0
IsMeant Refused = ⊥
IsMeant request = Unit {0}
