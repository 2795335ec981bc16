-- What a book has at hand: how each chain stands, the free chains, the holders by worker, and how many are leased and done.
use Rattle.std.specs.Prelude.{◌≡◌, ◌↔◌, ℕ, Bool, Some, List, length}
use Rattle.std.specs.Ordering.{nat_cmp}
use Rattle.std.specs.BTreeMap.{BTreeMap, get}
use Rattle.bx_load.specs.Image.{Loaded}
use Rattle.bx_plan.specs.Planned.{Planned}
use Rattle.bx_plan.specs.Chains.{Chained, one_if, times}
use Rattle.bx_board.specs.declared.books.stands.Stand.{Stand}
use Rattle.bx_board.specs.Jobs.{Entry}
use Rattle.bx_board.specs.Machine.{Leased, standing, is_free, is_held, is_finished, how_many}
use Rattle.bx_board.specs.Kept.{Kept, IsKept}
use Rattle.bx_board.specs.Stands.{book_view}

abbrev pub kept_view : Loaded → Entry → Planned → Chained → List Stand → Bool → Kept
kept_view image start plan chains = book_view (record { image = image; start = start; plan = plan; chains = chains })

pub record IsTended (b : Kept) (ready : List ℕ) (holders : BTreeMap ℕ ℕ) (leased done : ℕ) : Type 0 where
  pub kept : IsKept b
  -- the free chains, each once, and no others
  pub free : (n : ℕ) → times n ready ≡ one_if (is_free b.job b.state n)
  -- by worker, the chain that it holds
  pub held : (k n : ℕ) → (get nat_cmp holders k ≡ Some n) ↔ (standing b.state n ≡ Leased k)
  pub some_leased : leased ≡ how_many (is_held b.state) (length b.state.slots)
  pub some_done : done ≡ how_many (is_finished b.state) (length b.state.slots)
