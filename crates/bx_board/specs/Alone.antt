-- A book that one worker goes on with.
use Rattle.std.specs.Prelude.{◌≡◌, ℕ, ◌+◌, false, length}
use Rattle.bx_board.specs.Kept.{Kept}
use Rattle.bx_board.specs.Machine.{Holds, how_many, is_finished, is_held}

-- nobody holds a chain
abbrev pub IsUnheld : Kept → Type 0
IsUnheld b = (k : ℕ) → Holds b.state k → ⊥

pub record IsIdle (b : Kept) : Type 0 where
  pub going : b.state.stopped ≡ false
  pub unheld : IsUnheld b

abbrev pub done_in : Kept → ℕ
done_in b = how_many (is_finished b.state) (length b.state.slots)

abbrev pub held_in : Kept → ℕ
held_in b = how_many (is_held b.state) (length b.state.slots)

-- one chain more is done
pub record GoesOn (old new : Kept) : Type 0 where
  pub job : new.job ≡ old.job
  pub idle : IsIdle new
  pub more : done_in new ≡ done_in old + 1
  pub as_many : length new.state.slots ≡ length old.state.slots

-- one chain fewer is held
pub record TakesBack (old new : Kept) : Type 0 where
  pub job : new.job ≡ old.job
  pub stopped : new.state.stopped ≡ old.state.stopped
  pub fewer : held_in new + 1 ≡ held_in old
