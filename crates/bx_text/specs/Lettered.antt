-- How the characters of strings are kept: each with the number of its string, and of each string where it stands.
use Rattle.std.specs.Prelude.{◌<◌, pos, List, get_or, length}
use Rattle.std.specs.List.{All}
use Rattle.bx_text.specs.declared.node.Span.{Span}
use Rattle.bx_text.specs.declared.letters.Letter.{Letter}
use Rattle.bx_text.specs.Tree.{Tree, integer}

abbrev pub nowhere : Span
nowhere = record { from = 0; to = 0; line = 0 }

-- a character is an integer that stands where its string does
abbrev pub lettered : List Span → Letter → Tree
lettered strings l = integer (get_or strings l.string nowhere) (pos l.code)

-- the string of each character is there
abbrev pub AreLettered : List Span → List Letter → Type 0
AreLettered strings letters = All (λ l. l.string < length strings) letters
