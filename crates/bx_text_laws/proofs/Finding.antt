-- The next token is the longest that is spelled behind the blanks.
use Rattle.bx_text_laws.proofs.Commons.{◌≡◌, ◌↔◌, Ok, refl, sym, ap, ◌∙◌, ◌>>=◌, Place, skip, Token, Lexeme, token_at, lexeme_from, lexeme_at, ok_same, bind_ok, Passes, meant, Longest}
use Rattle.bx_text_laws.specs.Lexemes.{Finds}
use Rattle.bx_text_laws.proofs.Blanking.{skipped_is_blank}
use Rattle.bx_text_laws.proofs.Longest.{same_place, taken_is_longest}

-- a token where it stands
abbrev pub standing : Place → Token × Place → Lexeme
standing q x = record { token = x.0; from = q.at; line = q.line; begin = q.rest; after = x.1 }

pub parts : (p : Place) (l : Lexeme) → lexeme_at p ≡ Ok l → (q : Place) × (x : Token × Place) × (skip p ≡ Ok q) × (token_at q ≡ Ok x) × (standing q x ≡ l)
parts p l h =
    let s = bind_ok (skip p) lexeme_from l h in
    let t = bind_ok (token_at s.0) (λ x. Ok (standing s.0 x)) l s.2 in
    (s.0, t.0, s.1, t.1, ok_same (standing s.0 t.0) l t.2)

found_is : (p q : Place) (t : Token) (r : Place) → Finds p q t r → Passes p q × Longest q t r
found_is p q t r (l, h, m, a, f, n, b) =
    let (s, x, e, g, is) = parts p l h in
    let there : s ≡ q = same_place s q (ap (λ (l : Lexeme). l.begin) is ∙ b) (ap (λ (l : Lexeme). l.from) is ∙ f) (ap (λ (l : Lexeme). l.line) is ∙ n) in
    let end_is : x.1 ≡ r = ap (λ (l : Lexeme). l.after) is ∙ a in
    let taken : token_at q ≡ Ok (x.0, r) = ap token_at (sym there) ∙ g ∙ ap (λ (r : Place). Ok (x.0, r)) end_is in
    ((skipped_is_blank p q).0 (e ∙ ap (λ (s : Place). Ok s) there), (taken_is_longest q t r).0 (x.0, taken, ap (λ (l : Lexeme). meant l.token) is ∙ m))

is_found : (p q : Place) (t : Token) (r : Place) → Passes p q → Longest q t r → Finds p q t r
is_found p q t r passed longest =
    let (u, h, m) = (taken_is_longest q t r).1 longest in
    (standing q (u, r), ap (λ s. s >>= lexeme_from) ((skipped_is_blank p q).1 passed) ∙ ap (λ s. s >>= λ x. Ok (standing q x)) h, m, refl, refl, refl, refl)

pub next_is_longest : (p q : Place) (t : Token) (r : Place) → Finds p q t r ↔ (Passes p q × Longest q t r)
next_is_longest p q t r = (found_is p q t r, λ x. is_found p q t r x.0 x.1)
