-- The natives that concern others than their caller.
-- Source: module `erlang` of the ERTS Reference Manual.
use Rattle.std.specs.Prelude.{Bool, true, false}
use Rattle.bx_bifs.specs.declared.natives.Native.{Native}
use Rattle.bx_bifs.specs.declared.natives.Native.TheVariants.{Spawn, SpawnLink, Link, Unlink, ExitSignal, Send, Display}

abbrev pub is_ask : Native → Bool
is_ask Spawn = true
is_ask SpawnLink = true
is_ask Link = true
is_ask Unlink = true
is_ask ExitSignal = true
is_ask Send = true
is_ask Display = true
is_ask _ = false
