-- Which token stands at a place: the longest that is spelled there.
use Rattle.std.specs.Prelude.{◌≡◌, ◌≤◌, ℕ, ◌+◌, ◌==◌, if◌then◌else◌, List, [], ◌∷◌, length, Ok}
use Rattle.bx_text.specs.Place.{Place}
use Rattle.bx_text.specs.Token as token
use Rattle.bx_text.specs.Token.{Body, Token, spelled}
use Rattle.bx_text.specs.Lexing.{token_at}
use Rattle.bx_text_laws.specs.Spelling.{Begins}

-- how many lines end in these bytes
abbrev pub lines : List ℕ → ℕ
lines [] = 0
lines (b ∷ bs) = if b == 10 then 1 + lines bs else lines bs

-- the bytes stand at a place p, and q is the place behind them
abbrev pub Stands : Place → List ℕ → Place → Type 0
Stands p bytes q = (q.at ≡ p.at + length bytes) × (q.line ≡ p.line + lines bytes)

-- the token with the text that is meant, whether it was spelled with escapes or without
abbrev pub meant : Token → Token
meant (token.atom b) = token.atom (token.plain (spelled b))
meant (token.text b) = token.text (token.plain (spelled b))
meant t = t

-- no longer spelling of any token begins the text
abbrev pub NoLonger : List ℕ → List ℕ → Type 0
NoLonger text bytes = (others : List ℕ) (u : Token) (rest : List ℕ) → Begins text others u rest
    → length others ≤ length bytes

-- the longest spelling that begins at p is one of t, and q is the place behind it
abbrev pub Longest : Place → Token → Place → Type 0
Longest p t q = (bytes : List ℕ) × Begins p.rest bytes t q.rest × NoLonger p.rest bytes
    × Stands p bytes q

-- the reader takes t at p, and goes on at q
abbrev pub Takes : Place → Token → Place → Type 0
Takes p t q = (u : Token) × (token_at p ≡ Ok (u, q)) × (meant u ≡ t)
