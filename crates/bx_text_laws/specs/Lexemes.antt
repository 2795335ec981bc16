-- A token behind blanks, and where it stands.
use Rattle.std.specs.Prelude.{◌≡◌, ◌⊎◌, Ok}
use Rattle.bx_terms.specs.declared.faults.Fault.{Fault, TheVariants.NotUtf8}
use Rattle.bx_text.specs.Place.{Place}
use Rattle.bx_text.specs.Token.{Token, Lexeme}
use Rattle.bx_text.specs.Lexing.{lexeme_at}
use Rattle.bx_text_laws.specs.Blanks.{Passes, Spoilt}
use Rattle.bx_text_laws.specs.Refusals.{Fails}
use Rattle.bx_text_laws.specs.Spelling.{NoToken}
use Rattle.bx_text_laws.specs.Tokens.{meant}

-- the reader finds t as the next token from p on, at the place q, and goes on at r
abbrev pub Finds : Place → Place → Token → Place → Type 0
Finds p q t r =
    (l : Lexeme) × (lexeme_at p ≡ Ok l) × (meant l.token ≡ t) × (l.after ≡ r) × (l.from ≡ q.at)
    × (l.line ≡ q.line) × (l.begin ≡ q.rest)

-- no token follows p: a comment is no text in UTF-8, or behind the blanks no token's spelling begins
abbrev pub NoNext : Place → Type 0
NoNext p = (q : Place) → Passes p q → NoToken q.rest

-- the fault of the next token from p on, and its line: a comment is no text in UTF-8, or behind the
-- blanks no token is spelled
abbrev pub NextFails : Place → Fault → Type 0
NextFails p f = ((q : Place) × Spoilt p q × (f ≡ NotUtf8 q.line))
    ⊎ ((q : Place) × Passes p q × NoToken q.rest × Fails q.rest q.line f)
