use Rattle.std.proofs.Common.{◌≡◌, ◌≤◌, ◌-◌, ◌∷◌, replicate, vec_len, vec_capacity}
use Rattle.bx_board.specs.declared.books.stands.Stand.TheVariants.{Waiting}
use Rattle.bx_board.proofs.books.opening.stands_of.Given as goal

abbrev pub invariant-loop-next : goal.invariant-loop-next
invariant-loop-next l = record {
  items : l.stands.items ≡ l.fn.root ∷ replicate (l._next - 1) Waiting;
  len : vec_len l.stands ≡ l._next;
  capacity : l.count ≤ vec_capacity l.stands;
}
