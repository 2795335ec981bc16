-- What was taken at a place is a spelling, and what is spelled is taken.
use Rattle.bx_text_laws.proofs.Commons.{◌≡◌, ℕ, ◌+◌, ◌≤◌, eqb, List, [], ◌∷◌, ◌++◌, drop, length, Result, Ok, refl, sym, ap, ◌∙◌, subst, arith, drop_at, le_of_eq, cond_both, Fault, Place, after, Token}
use Rattle.bx_text_laws.proofs.Commons.{token_at, ok_same, Spelling, MayFollow, Begins, lines, Stands, meant}

abbrev pub on : List ℕ → ℕ → ℕ → Place
on bs at line = record { rest = bs; at = at; line = line }

-- the bytes that were taken
abbrev pub Spelled : Place → Token × Place → Type 0
Spelled p x = (bytes : List ℕ) × Begins p.rest bytes (meant x.0) x.1.rest × Stands p bytes x.1

-- a token is taken, and as much of the text at least as up to this rest; if just so much, it is t
abbrev pub Found : Place → Token → List ℕ → Type 0
Found p t rest = (x : Token × Place) × (token_at p ≡ Ok x) × (length x.1.rest ≤ length rest) × (length x.1.rest ≡ length rest → meant x.0 ≡ t)

-- bytes with no line feed
pub spelled_at : (p : Place) (bytes rest : List ℕ) (n : ℕ) (u : Token) → p.rest ≡ bytes ++ rest → Spelling bytes (meant u) → MayFollow (meant u) rest → lines bytes ≡ 0 → n ≡ length bytes → Spelled p (u, after p n)
spelled_at p bytes rest n u t s f l e =
    let gone : drop n p.rest ≡ rest = ap (λ ws. drop n ws) t ∙ drop_at bytes rest n (sym e) in
    (bytes, (t ∙ ap (λ ys. bytes ++ ys) (sym gone), s, subst (MayFollow (meant u)) (sym gone) f), (ap (λ m. p.at + m) e, omega (arith, l)))

pub spelled_on : (bytes rest : List ℕ) (at line n : ℕ) (u : Token) (x : Token × Place) → Spelling bytes (meant u) → MayFollow (meant u) rest → lines bytes ≡ 0 → n ≡ length bytes
    → ◌≡◌ {A = Result (Token × Place) Fault} (Ok (u, after (on (bytes ++ rest) at line) n)) (Ok x) → Spelled (on (bytes ++ rest) at line) x
spelled_on bytes rest at line n u x s f l e h =
    subst (Spelled (on (bytes ++ rest) at line)) (ok_same (u, after (on (bytes ++ rest) at line) n) x h) (spelled_at (on (bytes ++ rest) at line) bytes rest n u refl s f l e)

pub found_exact : (p q : Place) (u t : Token) (rest : List ℕ) → token_at p ≡ Ok (u, q) → q.rest ≡ rest → meant u ≡ t → Found p t rest
found_exact p q u t rest h e m = ((u, q), h, le_of_eq (ap length e), λ _. m)

pub lines-append : (xs ys : List ℕ) → lines (xs ++ ys) ≡ lines xs + lines ys
lines-append [] ys = omega arith
lines-append (x ∷ xs) ys = cond_both (eqb x 10) _ _ (λ a. a ≡ lines (x ∷ xs) + lines ys) (λ e. rw e (omega (arith, lines-append xs ys))) (λ e. rw e (lines-append xs ys))
