use Rattle.std.proofs.Common.{◌≡◌, take}
use Rattle.bx_dis.proofs.disassembling.exports_of.Given as goal

abbrev pub invariant-loop-export : goal.invariant-loop-export
invariant-loop-export l = l.exports.items ≡ take l.export-index l.unit.exports
