-- Elements in a loop, and the depth of brackets.
use Rattle.std.proofs.Common.{◌≡◌, ℕ, zero, suc, ◌+◌, ◌-◌, ◌<◌, ◌≤◌, inr, List, [], ◌∷◌, ◌++◌, Result, Ok, Err, IsOk, refl, sym, ap, ◌∙◌, subst, arith}
use Rattle.bx_terms.specs.Outcomes.{Gives, ◌>>=◌}
use Rattle.bx_terms.specs.declared.faults.Fault.{Fault, TheVariants.Truncated}
use Rattle.bx_text.specs.Token.{Lexeme}
use Rattle.bx_text.specs.Tree.{Tree}
use Rattle.bx_text.specs.Terms.{Reading, Follow, next, end, element_at, many, go_on, follow_at, term_at, kept}
use Rattle.bx_text.specs.Rows.{prefixed, joined}
use Rattle.bx_text.proofs.Outcomes.{gives_err, ok_same}
use Rattle.bx_text.proofs.Rows.{prefixed_more, turns}

pub deeper : (d : ℕ) → (d ≡ 0 → ⊥) → suc (d - 1) ≡ d
deeper d n = omega (arith, n)

-- what an element that was read leaves to read
step_on : (xs ys : List Tree) (k : ℕ) (term : Reading) (n : Lexeme) (r : Result (Tree × Follow) Fault) → joined xs r ≡ Ok (ys, next n)
    → prefixed ys (many term k n) ≡ prefixed xs (r >>= λ x. go_on (many term k) x.0 x.1)
step_on xs ys k term n (Ok x) h =
    let same = ok_same {A = List Tree × Follow} (xs ++ x.0 ∷ [], x.1) (ys, next n) h in
    let f : x.1 ≡ next n = ap (λ p. p.1) same in
    let row : xs ++ x.0 ∷ [] ≡ ys = ap (λ p. p.0) same in
    ap (λ l. prefixed l (many term k n)) (sym row) ∙ sym (prefixed_more xs (x.0 ∷ []) (many term k n)) ∙ ap (λ g. prefixed xs (go_on (many term k) x.0 g)) (sym f)
step_on xs ys k term n (Err e) h = cc

pub many_step : (size turn : ℕ) (xs ys : List Tree) (term : Reading) (l n : Lexeme) → turn < size → joined xs (element_at term l) ≡ Ok (ys, next n)
    → prefixed ys (many term (size - (turn + 1)) n) ≡ prefixed xs (many term (size - turn) l)
many_step size turn xs ys term l n t h =
    step_on xs ys (size - (turn + 1)) term n (element_at term l) h ∙ ap (λ k. prefixed xs (many term k l)) (sym (turns size turn t))

end_on : (xs ys : List Tree) (k : ℕ) (term : Reading) (m : Lexeme) (r : Result (Tree × Follow) Fault) → joined xs r ≡ Ok (ys, end m)
    → prefixed xs (r >>= λ x. go_on (many term k) x.0 x.1) ≡ Ok (ys, m)
end_on xs ys k term m (Ok x) h =
    let same = ok_same {A = List Tree × Follow} (xs ++ x.0 ∷ [], x.1) (ys, end m) h in
    let f : x.1 ≡ end m = ap (λ p. p.1) same in
    let row : xs ++ x.0 ∷ [] ≡ ys = ap (λ p. p.0) same in
    ap (λ g. prefixed xs (go_on (many term k) x.0 g)) f ∙ ap (λ l. Ok (l, m)) row
end_on xs ys k term m (Err e) h = cc

pub many_end : (size turn : ℕ) (xs ys : List Tree) (term : Reading) (l m : Lexeme) → turn < size → joined xs (element_at term l) ≡ Ok (ys, end m)
    → prefixed xs (many term (size - turn) l) ≡ Ok (ys, m)
many_end size turn xs ys term l m t h =
    ap (λ k. prefixed xs (many term k l)) (turns size turn t) ∙ end_on xs ys (size - (turn + 1)) term m (element_at term l) h

fail_on : {A B : Type 0} (f : Tree × Follow → Result A Fault) (g : A → Result B Fault) (xs : List Tree) (r : Result (Tree × Follow) Fault) (e : Fault) → joined xs r ≡ Err e → ((r >>= f) >>= g) ≡ Err e
fail_on f g xs (Ok x) e h = cc
fail_on f g xs (Err d) e h = let s : d ≡ e = cc in ap Err s

pub many_fail : {X Y : Type 0} (T U : Type 0) (v : X → List Tree × Follow) (w : Y → List Tree × Lexeme) (e : Fault) (size turn : ℕ) (xs : List Tree) (term : Reading) (l : Lexeme) (said : Result (List Tree × Lexeme) Fault)
    → turn < size → (T → U) → prefixed xs (many term (size - turn) l) ≡ said → Gives T v (Err e) (joined xs (element_at term l)) → Gives U w (Err e) said
many_fail T U v w e size turn xs term l said t f s h =
    gives_err v w e (joined xs (element_at term l)) said f
    (λ g. sym s ∙ ap (λ k. prefixed xs (many term k l)) (turns size turn t) ∙ fail_on (λ x. go_on (many term (size - (turn + 1))) x.0 x.1) (λ x. Ok (xs ++ x.0, x.1)) xs (element_at term l) e g) h

-- an element that was read is a term
begun_on : {A : Type 0} (f : Tree → A → Result (Tree × Follow) Fault) (xs : List Tree) (ys : List Tree × Follow) (r : Result (Tree × A) Fault) → joined xs (r >>= λ x. f x.0 x.1) ≡ Ok ys → IsOk r
begun_on f xs ys (Ok x) h = refl
begun_on f xs ys (Err e) h = cc

pub element_begun : (d turn : ℕ) (xs : List Tree) (here first : Lexeme) (ys : List Tree × Follow) → (turn ≡ 0 → here ≡ first) → (0 < turn → IsOk (term_at d first))
    → joined xs (element_at (term_at d) here) ≡ Ok ys → IsOk (term_at d first)
element_begun d zero xs here first ys s g h = subst (λ l. IsOk (term_at d l)) (s refl) (begun_on (λ t p. follow_at p >>= λ f. Ok (t, f)) xs ys (term_at d here) h)
element_begun d (suc turn) xs here first ys s g h = g (omega arith)

pub kept_first : (d turn : ℕ) (here first : Lexeme) → (turn ≡ 0 → here ≡ first) → (0 < turn → IsOk (term_at d first)) → kept d here → kept d first
kept_first d zero here first s g h = subst (kept d) (s refl) h
kept_first d (suc turn) here first s g h = inr (g (omega arith))

-- no turn is left
pub many_unended : {X : Type 0} (T : Type 0) (v : X → List Tree × Lexeme) (e : Fault) (size turn : ℕ) (xs : List Tree) (term : Reading) (l : Lexeme) (said : Result (List Tree × Lexeme) Fault)
    → size ≤ turn → e ≡ Truncated l.line → prefixed xs (many term (size - turn) l) ≡ said → Gives T v (Err e) said
many_unended T v e size turn xs term l said t f s =
    let none : size - turn ≡ 0 = omega arith in
    subst (λ e. Gives T v (Err e) said) (sym f) (sym s ∙ ap (λ k. prefixed xs (many term k l)) none)
