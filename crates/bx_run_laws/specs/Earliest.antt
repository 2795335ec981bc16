-- Which message is the earliest that was not passed over, and what it is to take it.
-- Source: The BEAM Book, "The Mailbox"; Erlang Reference Manual, "Receive".
use Rattle.std.specs.Prelude.{◌≡◌, ◌↔◌, ℕ, ◌≤◌, List, map, [], ◌∷◌, ◌++◌, Some, None, true, slice_get}
use Rattle.bx_terms.specs.Tree.{Tree}
use Rattle.bx_ops.specs.declared.opcode.Op.TheVariants.{RemoveMessage}
use Rattle.bx_load.specs.Image.{Loaded}
use Rattle.bx_mail.specs.Mail.{Mail}
use Rattle.bx_mail.specs.History.{Operation, Add, Current, Pass, Take, Reset, history, In, Rises, IsLeft, Waits}
use Rattle.bx_proc.specs.Process.{Process}
use Rattle.bx_world.specs.declared.choices.Choice.TheVariants.{Run}
use Rattle.bx_world.specs.World.{Live, State}
use Rattle.bx_world.specs.Enabled.{can}
use Rattle.bx_world.specs.Choosing.{chosen}
use Rattle.bx_run_laws.specs.Mailings.{op_at}

-- the messages that arrived, in order
abbrev pub arrived : List Operation → List Tree
arrived [] = []
arrived (Add message ∷ more) = message ∷ arrived more
arrived (Current ∷ more) = arrived more
arrived (Pass ∷ more) = arrived more
arrived (Take ∷ more) = arrived more
arrived (Reset ∷ more) = arrived more

-- this message arrived as number n, and of those that were not taken, nor passed over since the last reset or the last message
-- that was taken, it is the earliest
pub record IsEarliest (operations : List Operation) (n : ℕ) (message : Tree) : Type 0 where
  pub arrives : slice_get (arrived operations) n ≡ Some message
  pub waits : Waits (history operations) n
  pub first : (k : ℕ) → Waits (history operations) k → n ≤ k

-- these messages are those that arrived and that no take gave, in order of arrival
pub record AreLeft (operations : List Operation) (messages : List Tree) : Type 0 where
  pub numbers : List ℕ
  pub rise : Rises numbers
  pub left : (n : ℕ) → In n numbers ↔ IsLeft (history operations) n
  pub arrive : map (slice_get (arrived operations)) numbers ≡ map Some messages

-- process p is x, which stands at a `remove_message`; a run of it is enabled, and no trap
pub record Removes (image : Loaded) (w : State) (p : ℕ) (x : Process) : Type 0 where
  pub lives : slice_get w.processes p ≡ Some (Live x)
  pub stands : op_at image x.place ≡ Some RemoveMessage
  pub enabled : can w (Run p) ≡ true
  pub runs : (chosen image (Run p) w).trap ≡ None

-- it lives on, without the message; the others are as they were, in order, and none is passed over any more
pub record TakesOut (message : Tree) (old new : Mail) : Type 0 where
  pub behind : List Tree
  pub had : old.rest ≡ message ∷ behind
  pub has : new ≡ record { passed = []; rest = old.passed ++ behind }
