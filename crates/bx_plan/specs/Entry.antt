-- An entry of a schedule: a choice, and how many times it is made in a row.
use Rattle.std.specs.Prelude.{ℕ}
use Rattle.bx_world.specs.declared.choices.Choice.{Choice}

abbrev pub Entry : Type 0
Entry = Choice × ℕ
