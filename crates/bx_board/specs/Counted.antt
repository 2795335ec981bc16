-- How many chains stand how.
use Rattle.std.specs.Prelude.{length}
use Rattle.bx_board.specs.declared.slots.Counts.{Counts}
use Rattle.bx_board.specs.Machine.{how_many, is_finished, is_free, is_held, is_unborn}
use Rattle.bx_board.specs.Kept.{Kept}

abbrev pub counts_of : Kept → Counts
counts_of b = record {
  unborn = how_many (is_unborn b.job b.state) (length b.state.slots);
  free = how_many (is_free b.job b.state) (length b.state.slots);
  leased = how_many (is_held b.state) (length b.state.slots);
  done = how_many (is_finished b.state) (length b.state.slots);
}
