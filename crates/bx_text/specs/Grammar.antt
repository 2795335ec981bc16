-- The grammar of term texts: the rules at the tokens that are found in the text.
use Rattle.std.specs.Prelude.{◌≡◌, ℕ, false, List, [], Ok}
use Rattle.bx_text.specs.declared.node.Span.{Span}
use Rattle.bx_text.specs.declared.node.Sort.{Sort}
use Rattle.bx_text.specs.Bytes.{begins}
use Rattle.bx_text.specs.Place.{Place}
use Rattle.bx_text.specs.Blank.{skip}
use Rattle.bx_text.specs.Token.{Lexeme}
use Rattle.bx_text.specs.Lexing.{lexeme_at}
use Rattle.bx_text.specs.Tree.{Tree, other}
use Rattle.bx_text.specs.Terms.{is_quote, kept_at, term_at}
use Rattle.bx_text.specs.Rules as rules
pub use Rattle.bx_text.specs.Rules.{Kept, no_string, a_string, a_number, a_text, no_size, a_size, no_encoding, in_utf8, a_segment, one_segment, more_segments, an_integer, an_atom, strings, empty_tuple, a_tuple, empty_list, a_list, a_list_with_tail, a_float, an_empty_map, a_map, an_empty_binary, a_binary, a_fun, one, more, one_pair, more_pairs, a_form}

-- the first token from p on, behind spaces and comments
abbrev pub Next : Place → Lexeme → Type 0
Next p l = lexeme_at p ≡ Ok l

-- behind spaces and comments no string begins
abbrev pub NoString : Place → Type 0
NoString p = (q : Place) × (skip p ≡ Ok q) × (begins is_quote q.rest ≡ false)

-- the strings that follow p, the codes of their characters, and the place behind the last one
abbrev pub Strings : Place → List Tree → Place → Type 0
Strings = rules.Strings Next NoString

-- the term that the tokens from l on spell, where brackets nest at most d deep, and the place behind it
abbrev pub Spells : ℕ → Lexeme → Tree → Place → Type 0
Spells = rules.Spells Next NoString

-- elements from the token l on, a comma between two, and the token m behind the last
abbrev pub Row : ℕ → Lexeme → List Tree → Lexeme → Type 0
Row = rules.Row Next NoString

-- a term from p on and its full stop, where brackets nest at most d deep, and the place behind the stop
abbrev pub Form : ℕ → Place → Tree → Place → Type 0
Form = rules.Form Next NoString

-- only space and comments follow p
abbrev pub OnlyBlank : Place → Type 0
OnlyBlank p = (q : Place) × (skip p ≡ Ok q) × (q.rest ≡ [])

-- the token stands in some text
abbrev pub IsToken : Lexeme → Type 0
IsToken l = (p : Place) × Next p l

-- some text spells these bytes as a term that is kept as it is written
abbrev pub SpelledAs : Sort → List ℕ → Type 0
SpelledAs k w = (d : ℕ) × (p : Place) × (l : Lexeme) × (s : Span) × (q : Place) × Next p l × Spells d l (other s k w) q

-- the term that begins with a token of some text ends at q, and is kept as it is written
abbrev pub IsKept : Sort → Lexeme → Place → Type 0
IsKept k l q = IsToken l × ((d : ℕ) × (term_at d l ≡ kept_at k l q))
