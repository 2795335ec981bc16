use Rattle.std.proofs.Common.{◌≡◌, ◌++◌, map}
use Rattle.bx_text.proofs.Lettered.{letter_of}
use Rattle.bx_text.proofs.letters.Letters.add.Given as goal

abbrev pub invariant-loop-code : goal.invariant-loop-code
invariant-loop-code l = record {
  strings : l.self-inside.strings.items ≡ l.initial.self-inside.strings.items;
  letters : l.self-inside.letters.items ≡ l.initial.self-inside.letters.items ++ map (letter_of l.string) l.yielded;
}
