-- Terms and their full stops, down to the bytes (Erlang Reference Manual, "Data Types"): the rules at the tokens that the bytes
-- spell. A place is one of the text; a lexeme is a token, the text's bytes from its first one on, and the place behind it.
use Rattle.std.specs.Prelude.{◌≡◌, ◌≢◌, ℕ, List, [], ◌∷◌}
use Rattle.bx_text.specs.Place.{Place}
use Rattle.bx_text.specs.Rules as rules
use Rattle.bx_text.specs.Token.{Lexeme}
use Rattle.bx_text.specs.Tree.{Tree}
use Rattle.bx_text_laws.specs.Blanks.{Passes}
use Rattle.bx_text_laws.specs.Tokens.{Longest}

-- behind the blanks at p stands the longest spelling of a token
abbrev pub Stood : Place → Lexeme → Type 0
Stood p l = (q : Place) × Passes p q × Longest q l.token l.after × (l.from ≡ q.at)
    × (l.line ≡ q.line) × (l.begin ≡ q.rest)

-- no double quote comes first
abbrev pub NoQuote : List ℕ → Type 0
NoQuote [] = Unit {0}
NoQuote (b ∷ bs) = b ≢ 34

-- behind the blanks at p no string begins
abbrev pub NoText : Place → Type 0
NoText p = (q : Place) × Passes p q × NoQuote q.rest

-- the strings that follow p, the codes of their characters, and the place behind the last one
abbrev pub Texts : Place → List Tree → Place → Type 0
Texts = rules.Strings Stood NoText

-- the term that the tokens from l on are, where brackets nest at most d deep, and the place behind it
abbrev pub Term : ℕ → Lexeme → Tree → Place → Type 0
Term = rules.Spells Stood NoText

-- a term from p on and its full stop, where brackets nest at most d deep, and the place behind the stop
abbrev pub Sentence : ℕ → Place → Tree → Place → Type 0
Sentence = rules.Form Stood NoText

-- only spaces and comments follow p
abbrev pub OnlyBlanks : Place → Type 0
OnlyBlanks p = (q : Place) × Passes p q × (q.rest ≡ [])
