-- Where the processes of a world are kept.
use Rattle.bx_proc.specs.Process.{Process}
use Rattle.bx_world.specs.declared.slots.Slot.{Slot}
use Rattle.bx_world.specs.declared.slots.Slot.TheVariants as slots
use Rattle.bx_world.specs.World.{Life, Live, Exited}

-- what is seen of a slot whose holder shows its process
abbrev pub life : {P : Type 0} → (P → Process) → Slot P → Life
life shown (slots.Live holder) = Live (shown holder)
life shown (slots.Exited reason) = Exited reason
