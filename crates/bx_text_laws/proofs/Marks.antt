-- Punctuation.
use Rattle.bx_text_laws.proofs.Commons.{◌≡◌, ℕ, true, eqb, ◌||◌, List, [], ◌∷◌, Result, Ok, refl, arith, ◌⊎◌, eqb-true, cond_both, nat_tests, Fault, is_space, is_percent, Place, after, Token, pair_on}
use Rattle.bx_text_laws.proofs.Commons.{stop_at, IsSpace, Spelling, MayFollow, StopsAt, full_stop, lines, meant}
use Rattle.bx_text.specs.Named as named
use Rattle.bx_text.specs.Lexing.{ends}
use Rattle.bx_text_laws.proofs.Frame.{on, Spelled, spelled_on}

pub one_byte : (b c : ℕ) (bs : List ℕ) (at line : ℕ) (u : Token) (x : Token × Place) → lines (c ∷ []) ≡ 0 → Spelling (c ∷ []) (meant u) → MayFollow (meant u) bs → eqb b c ≡ true
    → ◌≡◌ {A = Result (Token × Place) Fault} (Ok (u, after (on (b ∷ bs) at line) 1)) (Ok x) → Spelled (on (b ∷ bs) at line) x
one_byte b c bs at line u x l s f e h = let same : b ≡ c = eqb-true b c e in rw same (spelled_on (c ∷ []) bs at line 1 u x s f l refl h)

pub two_bytes : (b c d : ℕ) (bs : List ℕ) (at line : ℕ) (u : Token) (x : Token × Place) → lines (c ∷ d ∷ []) ≡ 0 → Spelling (c ∷ d ∷ []) (meant u) → ((rest : List ℕ) → MayFollow (meant u) rest)
    → eqb b c ≡ true → pair_on d u bs (on (b ∷ bs) at line) ≡ Ok x → Spelled (on (b ∷ bs) at line) x
two_bytes b c d [] at line u x l s f e h = cc
two_bytes b c d (y ∷ ys) at line u x l s f e h =
    cond_both (eqb y d) _ _ (λ (r : Result (Token × Place) Fault). r ≡ Ok x → Spelled (on (b ∷ y ∷ ys) at line) x)
    (λ is g. let first : b ≡ c = eqb-true b c e in let second : y ≡ d = eqb-true y d is in rw (first, second) (spelled_on (c ∷ d ∷ []) ys at line 2 u x s (f ys) l refl g)) (λ _ g. cc) h

space_or_percent : (b : ℕ) → (is_space b || is_percent b) ≡ true → IsSpace b ⊎ (b ≡ 37)
space_or_percent b e = grind (arith, nat_tests)

or_space : (b : ℕ) → IsSpace b ⊎ (b ≡ 37) → (is_space b || is_percent b) ≡ true
or_space b h = grind (arith, nat_tests)

stops : (bs : List ℕ) → ends bs ≡ true → StopsAt bs
stops [] e = tt
stops (b ∷ bs) e = space_or_percent b e

pub ends_there : (bs : List ℕ) → StopsAt bs → ends bs ≡ true
ends_there [] s = refl
ends_there (b ∷ bs) s = or_space b s

pub a_stop : (b : ℕ) (bs : List ℕ) (at line : ℕ) (x : Token × Place) → eqb b 46 ≡ true → stop_at (on (b ∷ bs) at line) ≡ Ok x → Spelled (on (b ∷ bs) at line) x
a_stop b bs at line x e =
    cond_both (ends bs) _ _ (λ (r : Result (Token × Place) Fault). r ≡ Ok x → Spelled (on (b ∷ bs) at line) x) (λ is g. one_byte b 46 bs at line named.full_stop x refl full_stop (λ _. stops bs is) e g) (λ _ g. cc)
