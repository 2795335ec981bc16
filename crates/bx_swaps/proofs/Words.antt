-- The words that more than one proof here uses, passed on from where they stand.
pub use Rattle.std.proofs.Common.{◌≡◌, ◌∙◌, ℕ, ◌+◌, ◌-◌, ◌<◌, ◌≤◌, Bool, true, false, length, take, drop, refl, sym, ap, arith, zero, suc, List, [], ◌∷◌, Result, Ok, Err, Some, None, Option, subst, inl, eq-eqb}
pub use Rattle.std.specs.Prelude.{◌==◌, if◌then◌else◌, slice_get, not, option_map, IfSome, slice_index_or}
pub use Rattle.bx_load.specs.Image.{Loaded}
pub use Rattle.bx_replay.proofs.Bringing.{among_more, ends_after, further, long_after, none_made}
pub use Rattle.bx_replay.proofs.Prefixes.{bounded}
pub use Rattle.bx_replay.specs.Courses.{Course, reached}
pub use Rattle.bx_replay.specs.Exchanges.{with_exchange, MayExchange}
pub use Rattle.bx_replay.specs.Moving.{brought, Brings, IsExchanged}
pub use Rattle.bx_swaps.specs.Exchanges.{from_start, AtFaultAtOnce, ExchangesAll}
pub use Rattle.bx_swaps.specs.Telling.{may_exchange}
pub use Rattle.bx_swaps.specs.Tidying.{behind_came, set_aside, IsSetAside, IsUndone, IsTidied, IsTidy, IsUndo, forward, gathered, next_alike, settled, switches}
pub use Rattle.bx_terms.specs.declared.faults.Fault.{Fault, TheVariants.Memory}
pub use Rattle.bx_world.proofs.Lawful.{few_applied}
pub use Rattle.bx_world.specs.Enabled.{can, actor}
pub use Rattle.bx_world.specs.Running.{Ended, ran}
pub use Rattle.bx_world.specs.World.{State, started}
pub use Rattle.bx_world.specs.declared.choices.Choice.{Choice, TheVariants.Run}
