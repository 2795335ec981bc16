-- How a queue holds its signals: none, one, or a row of them.
use Rattle.std.specs.Prelude.{List, [], ◌∷◌}
use Rattle.bx_signals.specs.declared.signal.Signal.{Signal}
use Rattle.bx_signals.specs.declared.queue.Held.{Held, TheVariants.Nothing, TheVariants.One, TheVariants.Row}

abbrev pub in_turn : Held → List Signal
in_turn Nothing = []
in_turn (One first) = first ∷ []
in_turn (Row signals) = signals.value.items
