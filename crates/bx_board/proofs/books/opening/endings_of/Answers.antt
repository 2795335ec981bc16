use Rattle.std.proofs.Common.{arith}
use Rattle.bx_board.proofs.books.opening.endings_of.Goals as goal

pub end-chain-requires : goal.end-chain-requires
end-chain-requires c = omega (arith, c.requires.long)

pub index-requires : goal.index-requires
index-requires c = omega (arith, (c.requires.ends c.loop-number.number (omega arith)).0)
