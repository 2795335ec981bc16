use Rattle.std.proofs.Common.{refl, arith}
use Rattle.bx_board.proofs.Holding.{seen_long}
use Rattle.bx_board.proofs.Keeping.{counted, ways_sum}
use Rattle.bx_board.proofs.books.Book.counts.Goals as goal

pub overflow_sub-unborn : goal.overflow_sub-unborn
overflow_sub-unborn c =
    let i = c.self.inside in
    let sum = ways_sum _ i.ready.items i.holders i.leased i.done c.self.invariant.0 in
    omega (arith, i.ready.ok.0, i.stands.ok.0, seen_long c.self.invariant.2 refl)

pub overflow_sub-unborn-2 : goal.overflow_sub-unborn-2
overflow_sub-unborn-2 c =
    let i = c.self.inside in
    let sum = ways_sum _ i.ready.items i.holders i.leased i.done c.self.invariant.0 in
    omega (arith, i.ready.ok.0, i.stands.ok.0, seen_long c.self.invariant.2 refl)

pub overflow_sub-unborn-3 : goal.overflow_sub-unborn-3
overflow_sub-unborn-3 c =
    let i = c.self.inside in
    let sum = ways_sum _ i.ready.items i.holders i.leased i.done c.self.invariant.0 in
    omega (arith, i.ready.ok.0, i.stands.ok.0, seen_long c.self.invariant.2 refl)

pub returns : goal.returns
returns c =
    let i = c.self.inside in
    let sum = ways_sum _ i.ready.items i.holders i.leased i.done c.self.invariant.0 in
    rw (← c.self.view_is) (counted _ i.ready.items i.holders i.leased i.done _ c.len-free.result c.self.invariant.0 (omega (arith, i.ready.ok.0)) (omega (arith, i.ready.ok.0, i.stands.ok.0, seen_long c.self.invariant.2 refl)))
