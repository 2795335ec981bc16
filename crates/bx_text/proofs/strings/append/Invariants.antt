use Rattle.std.proofs.Common.{◌≡◌, ◌++◌, take}
use Rattle.bx_text.proofs.strings.append.Given as goal

abbrev pub invariant-loop-i : goal.invariant-loop-i
invariant-loop-i l = l.found.items ≡ l.fn.found.items ++ take l.i l.letters
