-- What a copy of a world takes, in cells of some twenty bytes.
use Rattle.std.specs.Prelude.{ℕ, ◌+◌, length, sum_by}
use Rattle.std.specs.FinMap as map
use Rattle.bx_cells.specs.Weights.{stack_cells}
use Rattle.bx_mail.specs.Mail.{Mail}
use Rattle.bx_signals.specs.Weights.{channel_cells}
use Rattle.bx_proc.specs.Process.{Process}
use Rattle.bx_world.specs.World.{Life, Live, Exited, State}

abbrev pub mail_cells : Mail → ℕ
mail_cells mail = length mail.passed + length mail.rest

-- sixteen for a process itself, and one for each x register that holds something, frame, y register, message and link
abbrev pub process_cells : Process → ℕ
process_cells p = 16 + length (map.entries p.x) + stack_cells p.frames + mail_cells p.mailbox + length p.links

-- of a process that has ended the reason alone is left
abbrev pub life_cells : Life → ℕ
life_cells (Live process) = process_cells process
life_cells (Exited reason) = 1

-- those of all processes, of the channels, and one for each term that was displayed
abbrev pub cells : State → ℕ
cells w = sum_by life_cells w.processes + channel_cells w.lanes.channels + length w.lanes.output
