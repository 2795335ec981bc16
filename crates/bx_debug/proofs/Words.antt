-- The words that more than one proof here uses, passed on from where they stand.
pub use Rattle.std.proofs.Common.{◌≡◌, ℕ, ◌-◌, true, ◌+◌, ◌≤◌, List, ◌++◌, length, take, drop, Option, None, refl, sym, ap, ◌∙◌, subst, arith, ◌<◌, [], ◌∷◌, replicate, Bool, false, Some, Ok, Err, length-append}
pub use Rattle.std.proofs.Common.{suc, ◌≢◌, ◌⊎◌, inl, inr, zero, append_assoc, rules}
pub use Rattle.std.specs.Prelude.{◌&&◌, nat_lt, ◌==◌, ◌||◌, is_some, if◌then◌else◌}
pub use Rattle.bx_debug.specs.Exchanging.{may_swap}
pub use Rattle.bx_debug.specs.Going.{walked, stop_at_once, else_stop, halted, stop_before, stop_behind, behind_choice, unless_stopped, break_at, break_behind, resumed}
pub use Rattle.bx_debug.specs.Leading.{come, Leads, Reaches, Walks, Went, led, all_enabled, IsSession, Chooses}
pub use Rattle.bx_debug.specs.Pausing.{runs_to, after_runs, least, pause_at, pause_before, pause_of, run_of}
pub use Rattle.bx_debug.specs.Places.{PlaceSet, pair_cmp, numbers}
pub use Rattle.bx_debug.specs.Sessions.{History, behind, world_of, with_made, or_refused, stepped, gone, GoTakes}
pub use Rattle.bx_debug.specs.Swapping.{course_of}
pub use Rattle.bx_debug.specs.Tidying.{tidy_of, undone, undo_of}
pub use Rattle.bx_debug.specs.declared.pauses.Bound.{Bound}
pub use Rattle.bx_debug.specs.declared.pauses.Pause.{Pause}
pub use Rattle.bx_debug.specs.declared.stops.Stop.{Stop, TheVariants.NotEnabled, TheVariants.Done, TheVariants.Break, TheVariants.Trapped}
pub use Rattle.bx_load.specs.Image.{Loaded}
pub use Rattle.bx_replay.proofs.Bringing.{ends_after, one_made, long_after}
pub use Rattle.bx_replay.specs.Courses.{Course, reached}
pub use Rattle.bx_replay.specs.Exchanges.{with_exchange}
pub use Rattle.bx_replay.specs.Moving.{IsExchanged}
pub use Rattle.bx_swaps.proofs.Ends.{exchanged_is}
pub use Rattle.bx_swaps.specs.Tidying.{tidied_of, undone_of}
pub use Rattle.bx_terms.specs.declared.kinds.Trap.{Trap}
pub use Rattle.bx_terms.specs.declared.places.Place.{Place}
pub use Rattle.bx_world.specs.Choosing.{refusal, chosen}
pub use Rattle.bx_world.specs.Enabled.{can}
pub use Rattle.bx_world.specs.Running.{Ended, ran, unchosen, advanced}
pub use Rattle.bx_world.specs.Seen.{place_in}
pub use Rattle.bx_world.specs.World.{State}
pub use Rattle.bx_world.specs.declared.choices.Choice.{Choice, TheVariants.Run}
