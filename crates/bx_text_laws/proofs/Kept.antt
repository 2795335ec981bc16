-- What is kept as it was written stands in each text where what follows does not go on in it.
use Rattle.bx_text_laws.proofs.Commons.{◌≡◌, ℕ, List, [], ◌++◌, refl, sym, ap, ◌∙◌, subst, arith, Span, Sort, Place, Lexeme, Tree, other, nothing, StandsAs, Stood, Term}
use Rattle.bx_text.specs.Terms.{taken}
use Rattle.bx_text.specs.Rules as rules
use Rattle.bx_text_laws.proofs.Frame.{on}
use Rattle.bx_text_laws.proofs.Moving.{Run, Closes, taken_is}
use Rattle.bx_text_laws.proofs.Moved.{TermFrom, term_run}

-- the text that is kept is that from the first token on
abbrev TakenAs : Tree → Lexeme → Place → Type 0
TakenAs (other s k w) l q = w ≡ taken l q
TakenAs t l q = Unit {0}

term_taken : {d : ℕ} {l : Lexeme} {t : Tree} {q : Place} → Term d l t q → TakenAs t l q
term_taken (rules.a_float t w) = refl
term_taken s = search

-- the place of the first token itself
beginning : (p : Place) (l : Lexeme) → Stood p l → (q : Place) × Stood q l × (l.begin ≡ q.rest) × (l.from ≡ q.at)
beginning p l (q, (blank, e, b, n, s), longest, from_is, line_is, begin_is) =
    (q, (q, ([], refl, nothing, n, (omega arith, omega arith)), longest, from_is, line_is, begin_is), begin_is, from_is)

pub kept_moves : (d : ℕ) (k : Sort) (w : List ℕ) → StandsAs d k w → (rest : List ℕ) → Closes rest → (at line : ℕ)
    → (m : Lexeme) × (s : Span) × (q : Place) × Stood (on (w ++ rest) at line) m × Term d m (other s k w) q × (q.rest ≡ rest)
kept_moves d k w (p, l, s, q, st, t) rest c at line =
    let (b, stood, begin_is, from_is) = beginning p l st in
    let run : Run b q Closes (TermFrom d (other s k w)) = term_run t b stood in
    let text_is : run.text ≡ w = sym (taken_is l q [] run.text q.rest (begin_is ∙ run.rest) (omega (arith, from_is, run.size))) ∙ sym (term_taken t) in
    let (r, x, left, size) = run.again rest c (on (w ++ rest) at line) (ap (λ ws. ws ++ rest) (sym text_is)) in
    let (m, u, there, term, same) = x in
    let (z, is) = same in
    (m, z, r, there, subst (λ u. Term d m u r) is term, left)
