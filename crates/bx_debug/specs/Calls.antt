-- Lists of calls on a session.
use Rattle.std.specs.Prelude.{ℕ, List, [], ◌∷◌, Result, Ok, Err}
use Rattle.bx_terms.specs.declared.faults.Fault.{Fault}
use Rattle.bx_terms.specs.declared.places.Place.{Place}
use Rattle.bx_world.specs.declared.choices.Choice.{Choice}
use Rattle.bx_debug.specs.Exchanging.{swap_of}
use Rattle.bx_debug.specs.Pausing.{run_of}
use Rattle.bx_debug.specs.declared.pauses.Bound.{Bound}
use Rattle.bx_debug.specs.Sessions.{History, stepped, back, forward, gone, with_break, without_break}
use Rattle.bx_debug.specs.Tidying.{tidy_of, undo_of}

pub data Call : Type 0 where
  Step : Choice → Call
  Back : ℕ → Call
  Forward : ℕ → Call
  Go : List Choice → Call
  Run : Bound → ℕ → Call
  Swap : ℕ → Call
  Tidy : Call
  Undo : ℕ → Call
  SetBreak : Place → Call
  ClearBreak : Place → Call

-- a call that is refused changes nothing
abbrev pub kept_unless : History → Result (History × Unit {0}) Fault → History
kept_unless s (Ok after) = after.0
kept_unless s (Err fault) = s

abbrev pub called : Call → History → History
called (Step choice) s = kept_unless s (stepped choice s)
called (Back n) s = kept_unless s (back n s)
called (Forward n) s = kept_unless s (forward n s)
called (Go choices) s = (gone choices s).0
called (Run bound p) s = (run_of bound p s).0
called (Swap number) s = kept_unless s (swap_of number s)
called Tidy s = tidy_of s
called (Undo number) s = kept_unless s (undo_of number s)
called (SetBreak place) s = with_break place s
called (ClearBreak place) s = without_break place s

abbrev pub after_calls : List Call → History → History
after_calls [] s = s
after_calls (call ∷ more) s = after_calls more (called call s)
