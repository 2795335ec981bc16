-- The words that more than one proof here uses, passed on from where they stand.
pub use Rattle.std.proofs.Common.{◌≡◌, ◌≢◌, ℕ, zero, suc, ◌<◌, List, [], ◌∷◌, ◌++◌, Bool, true, false, ◌⊎◌, inl, inr, Option, Some, None, Result, Ok, Err, length, refl, sym, ap, subst, ◌∙◌, arith, append_assoc, append-nil, length-append, length-set, ◌+◌, map, ◌≤◌, get_or, ◌-◌, replicate, cond, take, drop, string_bytes}
pub use Rattle.std.proofs.Math.ListN.{set}
pub use Rattle.std.proofs.Math.Seq.{map-set_same}
pub use Rattle.std.specs.Prelude.{◌==◌, ◌&&◌, ◌||◌, is_some, is_none, if◌then◌else◌, slice_get, slice_set, option_map, IsTrue, OnErr, IsSome, nat_lt, not, IsOk}
pub use Rattle.std.specs.declared.alloc.AllocError.{AllocError}
pub use Rattle.bx_cells.specs.Links.{among}
pub use Rattle.bx_load.specs.Image.{Loaded}
pub use Rattle.bx_proc.proofs.Attempts.{settled_whole, settled_with_whole}
pub use Rattle.bx_proc.proofs.Own.{to_itself}
pub use Rattle.bx_proc.specs.Bursts.{Repeated, Bursts}
pub use Rattle.bx_proc.specs.Process.{Process, can_run, can_expire}
pub use Rattle.bx_proc.specs.Signals.{expired, with_link, without_link}
pub use Rattle.bx_proc.specs.Stepping.{attempted, settled, settled_with, Whole}
pub use Rattle.bx_proc.specs.declared.parts.Answer.{Answer, TheVariants.Value}
pub use Rattle.bx_proc.specs.declared.parts.Effect.{Effect}
pub use Rattle.bx_proc.specs.declared.stops.Why.{Why}
pub use Rattle.bx_signals.proofs.Maps.{equal_pair, waiting_empty}
pub use Rattle.bx_signals.specs.Channels.{Channels, waiting, put}
pub use Rattle.bx_signals.specs.Waiting.{first, front}
pub use Rattle.bx_signals.specs.declared.signal.Signal.{Signal, TheVariants.Message}
pub use Rattle.bx_terms.specs.Outcomes.{Does}
pub use Rattle.bx_terms.specs.Tree.{Tree, atom, pid}
pub use Rattle.bx_terms.specs.declared.faults.Fault.{Fault, TheVariants.NotEnabled, TheVariants.Memory, TheVariants.Halted}
pub use Rattle.bx_terms.specs.declared.fixed.TheConstants.{KILLED}
pub use Rattle.bx_terms.specs.declared.kinds.Trap.{Trap}
pub use Rattle.bx_terms.specs.declared.places.Place.{Place}
pub use Rattle.bx_world.specs.Acting.{lives_acted, acted_at, life_acted, MayLack}
pub use Rattle.bx_world.specs.Asking.{Done, whole, done, closing, done_by}
pub use Rattle.bx_world.specs.Batches.{Plainly, GoesOn, TakenBack, sent_so, tell, LivesRunOn, lives_after, turn_after, RunsOnce, RunsWhole, WorldRunsOn, state_after, world_if, WorldActs, Fits, StopsAt}
pub use Rattle.bx_world.specs.Cells.{life_cells}
pub use Rattle.bx_world.specs.Changes.{Coming, turned_to, run_turn, run_coming, signal_coming, expire_coming, change_of, heeds, coming, with_life, with_child, after, change, spawned}
pub use Rattle.bx_world.specs.Choosing.{chosen, spawned_too, made, applied, unless_refused}
pub use Rattle.bx_world.specs.Deeds.{Posts, Deed, did, instruction, signalled, closes, puts, exit_message, low_enough, yes, is_kill, is_normal, past_limits, system_limit, other_if, is_answered, new_child, performs, hears, dies, is_told, exit_comes, alone}
pub use Rattle.bx_world.specs.Delivering.{heard}
pub use Rattle.bx_world.specs.Enabled.{able, can, actor, may_at, may_run, may_expire, choices_from, delivery, open_choices, unless_trapped, enabled}
pub use Rattle.bx_world.specs.Entering.{request_in}
pub use Rattle.bx_world.specs.Independent.{is_local_at, runs_local, one_is_local, AreIndependent, IsLocal}
pub use Rattle.bx_world.specs.Lifetimes.{Among, lived, lived_if, life_run, put_back, at_life, lives_run, exited_if}
pub use Rattle.bx_world.specs.Lives.{life}
pub use Rattle.bx_world.specs.Posting.{same_pair, in_channel, as_row, first_of, put_by, taken_by, behind, all_behind}
pub use Rattle.bx_world.specs.Requests.{requested}
pub use Rattle.bx_world.specs.Running.{Ended, advanced, ran, Lacks, DoesSome}
pub use Rattle.bx_world.specs.Seen.{status_of}
pub use Rattle.bx_world.specs.Sharing.{all_posted}
pub use Rattle.bx_world.specs.Spawning.{childless_at_trap, lives_spawned, lives_with_child}
pub use Rattle.bx_world.specs.Turning.{turned, runs}
pub use Rattle.bx_world.specs.World.{Life, Live, Exited, State, begun}
pub use Rattle.bx_world.specs.declared.acts.Act.TheVariants.{Spawned}
pub use Rattle.bx_world.specs.declared.choices.Choice.{Choice, TheVariants.Run, TheVariants.Deliver, TheVariants.Expire}
pub use Rattle.bx_world.specs.declared.lanes.Lanes.{Lanes}
pub use Rattle.bx_world.specs.declared.requests.Request.{Request}
pub use Rattle.bx_world.specs.declared.requests.SpawnRequest.{SpawnRequest}
pub use Rattle.bx_world.specs.declared.turns.Tried.{Tried}
pub use Rattle.bx_world.specs.declared.turns.Turn.{Turn, TheVariants.Ran}
