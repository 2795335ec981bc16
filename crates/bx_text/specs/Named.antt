-- The marks, and what can be open between quotes, under names that crates above can use.
use Rattle.std.specs.Prelude.{ℕ}
use Rattle.bx_text.specs.declared.tokens.Mark.TheVariants as marks
use Rattle.bx_text.specs.declared.kinds.Kind.{Kind}
use Rattle.bx_text.specs.declared.escapes.Escape.{Escape}
use Rattle.bx_text.specs.declared.escapes.Escape.TheVariants as escapes
use Rattle.bx_text.specs.Token.{Token, mark}

abbrev pub close_tuple : Token
close_tuple = mark marks.CloseTuple

abbrev pub close_list : Token
close_list = mark marks.CloseList

abbrev pub close_binary : Token
close_binary = mark marks.CloseBinary

abbrev pub comma : Token
comma = mark marks.Comma

abbrev pub bar : Token
bar = mark marks.Bar

abbrev pub arrow : Token
arrow = mark marks.Arrow

abbrev pub colon : Token
colon = mark marks.Colon

abbrev pub slash : Token
slash = mark marks.Slash

abbrev pub full_stop : Token
full_stop = mark marks.Stop

abbrev pub the_word_fun : Token
the_word_fun = mark marks.Fun

abbrev pub parenthesis : Token
parenthesis = mark marks.Other

-- what a token can be by its first byte
abbrev pub Beginning : Type 0
Beginning = Kind

-- what is open behind some characters between quotes
abbrev pub Open : Type 0
Open = Escape

abbrev pub nothing : Open
nothing = escapes.Plain

abbrev pub backslash : Open
backslash = escapes.Begun

abbrev pub octal_digit : ℕ → Open
octal_digit v = escapes.Octal v

abbrev pub octal_digits : ℕ → Open
octal_digits v = escapes.Octals v

abbrev pub hex : Open
hex = escapes.Hex

abbrev pub hex_digit : ℕ → Open
hex_digit v = escapes.HexDigit v

abbrev pub brace : Open
brace = escapes.Brace

abbrev pub braced : ℕ → Open
braced v = escapes.Braced v

abbrev pub control : Open
control = escapes.Control

abbrev pub bad : Open
bad = escapes.Bad
