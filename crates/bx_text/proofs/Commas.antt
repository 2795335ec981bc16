-- A comma that follows at once is the next token, and so is a closing mark.
use Rattle.std.proofs.Common.{◌≡◌, ℕ, List, ◌∷◌, Ok, refl, sym, subst}
use Rattle.bx_terms.specs.Outcomes.{◌>>=◌}
use Rattle.bx_text.specs.Place.{Place, after}
use Rattle.bx_text.specs.declared.tokens.Mark.TheVariants.{CloseTuple, CloseList}
use Rattle.bx_text.specs.Token.{mark}
use Rattle.bx_text.specs.Holding.{held}
use Rattle.bx_text.specs.Lexing.{lexeme_at}
use Rattle.bx_text.specs.Terms.{next, end, follow_at}

at_comma : (bs : List ℕ) (at line : ℕ)
    → follow_at (record { rest = 44 ∷ bs; at = at; line = line }) ≡ (lexeme_at (after (record { rest = 44 ∷ bs; at = at; line = line }) 1) >>= λ n. Ok (next n))
at_comma bs at line = refl

pub comma_follows : (p : Place) (bs : List ℕ) → p.rest ≡ 44 ∷ bs → follow_at p ≡ (lexeme_at (after p 1) >>= λ n. Ok (next n))
comma_follows p bs e =
    let P : List ℕ → Type 0 = λ xs. follow_at (record { rest = xs; at = p.at; line = p.line }) ≡ (lexeme_at (after (record { rest = xs; at = p.at; line = p.line }) 1) >>= λ n. Ok (next n)) in
    subst P (sym e) (at_comma bs p.at p.line)

at_brace : (bs : List ℕ) (at line : ℕ)
    → follow_at (record { rest = 125 ∷ bs; at = at; line = line }) ≡ Ok (end (held (record { rest = 125 ∷ bs; at = at; line = line }) (mark CloseTuple, after (record { rest = 125 ∷ bs; at = at; line = line }) 1)))
at_brace bs at line = refl

pub brace_follows : (p : Place) (bs : List ℕ) → p.rest ≡ 125 ∷ bs → follow_at p ≡ Ok (end (held p (mark CloseTuple, after p 1)))
brace_follows p bs e =
    let P : List ℕ → Type 0 = λ xs. follow_at (record { rest = xs; at = p.at; line = p.line }) ≡ Ok (end (held (record { rest = xs; at = p.at; line = p.line }) (mark CloseTuple, after (record { rest = xs; at = p.at; line = p.line }) 1))) in
    subst P (sym e) (at_brace bs p.at p.line)

at_bracket : (bs : List ℕ) (at line : ℕ)
    → follow_at (record { rest = 93 ∷ bs; at = at; line = line }) ≡ Ok (end (held (record { rest = 93 ∷ bs; at = at; line = line }) (mark CloseList, after (record { rest = 93 ∷ bs; at = at; line = line }) 1)))
at_bracket bs at line = refl

pub bracket_follows : (p : Place) (bs : List ℕ) → p.rest ≡ 93 ∷ bs → follow_at p ≡ Ok (end (held p (mark CloseList, after p 1)))
bracket_follows p bs e =
    let P : List ℕ → Type 0 = λ xs. follow_at (record { rest = xs; at = p.at; line = p.line }) ≡ Ok (end (held (record { rest = xs; at = p.at; line = p.line }) (mark CloseList, after (record { rest = xs; at = p.at; line = p.line }) 1))) in
    subst P (sym e) (at_bracket bs p.at p.line)
