-- Items at which a process meets others than itself.
-- Source: `genop.tab` of Erlang/OTP; modules `erlang` and `trace` of its reference manuals.
use Rattle.std.specs.Prelude.{ℕ, Bool, true, false, ◌||◌, Option, Some, None, if◌then◌else◌, slice_get}
use Rattle.bx_terms.specs.Options.{◌>>=◌}
use Rattle.bx_terms.specs.declared.places.Place.{Place}
use Rattle.bx_ops.specs.declared.opcode.Op.{Op}
use Rattle.bx_ops.specs.declared.opcode.Op.TheVariants as ops
use Rattle.bx_listing.specs.Items.{Item}
use Rattle.bx_listing.specs.declared.items.Operand.{Operand, TheVariants.Import}
use Rattle.bx_bifs.specs.Asks.{is_ask}
use Rattle.bx_bifs.specs.declared.natives.Native.{Native, TheVariants.ProcessFlag}
use Rattle.bx_load.specs.Callees.{callee}
use Rattle.bx_load.specs.Image.{Loaded}
use Rattle.bx_load.specs.Numbering.{numbered_at}
use Rattle.bx_load.specs.declared.callees.Callee.{Callee}
use Rattle.bx_load.specs.declared.callees.Callee.TheVariants as callees
use Rattle.bx_world.specs.Seen.{place_in}
use Rattle.bx_world.specs.World.{State}

abbrev pub calls_by_name : Op → Bool
calls_by_name ops.CallExt = true
calls_by_name ops.CallExtLast = true
calls_by_name ops.CallExtOnly = true
calls_by_name op = false

abbrev pub native_of : Callee → Option Native
native_of (callees.Native native) = Some native
native_of callee = None

-- the native that an operand names
abbrev pub native_named : Loaded → Option Operand → Option Native
native_named image (Some (Import import)) = native_of (callee image import)
native_named image operand = None

-- the native that an item calls
abbrev pub native_called : Loaded → Item → Option Native
native_called image i = if calls_by_name i.op then native_named image (slice_get i.operands 1) else None

abbrev pub is_send : Op → Bool
is_send ops.Send = true
is_send op = false

abbrev pub is_timeout : Op → Bool
is_timeout ops.Timeout = true
is_timeout op = false

abbrev pub sets_flag : Native → Bool
sets_flag ProcessFlag = true
sets_flag native = false

-- whether a run of an item of this opcode, which calls this native where it calls one, concerns others: it sends, or asks the world
abbrev pub meets_by : Op → Option Native → Bool
meets_by op None = is_send op
meets_by op (Some native) = is_ask native

abbrev pub meets : Loaded → Item → Bool
meets image i = meets_by i.op (native_called image i)

-- whether a trace of the process tells of it: it concerns others, ends a wait, or sets how the process takes exits
abbrev pub tells_by : Op → Option Native → Bool
tells_by op None = is_send op || is_timeout op
tells_by op (Some native) = is_ask native || sets_flag native

abbrev pub is_event : Loaded → Item → Bool
is_event image i = tells_by i.op (native_called image i)

-- where a process stands, if a run of the item there concerns others
abbrev pub meeting : Loaded → ℕ → State → Option Place
meeting image p w = do
  place ← place_in p w
  i ← numbered_at image place
  if meets image i then Some place else None

-- where a process stands, if the item there is an event
abbrev pub event : Loaded → ℕ → State → Option Place
event image p w = do
  place ← place_in p w
  i ← numbered_at image place
  if is_event image i then Some place else None
