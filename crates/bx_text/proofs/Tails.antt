-- Tails of lists, whose own elements and tail go on with the list's.
use Rattle.std.proofs.Common.{arith, ◌≡◌, ℕ, suc, true, false, List, Result, Ok, Err, refl, sym, ap, ◌∙◌, subst}
use Rattle.bx_terms.specs.Outcomes.{Gives, ◌>>=◌}
use Rattle.bx_terms.specs.declared.faults.Fault.{Fault}
use Rattle.bx_text.specs.Place.{Place}
use Rattle.bx_text.specs.Token as token
use Rattle.bx_text.specs.Token.{Token, Lexeme}
use Rattle.bx_text.specs.Tree.{Tree, list, nil, chain}
use Rattle.bx_text.specs.Lexing.{lexeme_at}
use Rattle.bx_text.specs.Terms.{Reading, span, closes_list, is_bar, spells_list, elements_at, tail_of, tail_at, end_at, rest_at, strings_at, bracket_by, begin_by, begin, group_at, term_at}
use Rattle.bx_text.specs.Rows.{prefixed, chained, closing, splicing}
use Rattle.bx_text.specs.Grammar.{Spells, strings, empty_list, a_list, a_list_with_tail}
use Rattle.bx_text.proofs.Outcomes.{gives_err}
use Rattle.bx_text.proofs.Rows.{chain_append}
use Rattle.bx_text.proofs.Sound.{sound}

rest_then : (xs ys : List Tree) (ends : Lexeme → Result (Tree × Place) Fault) (r : Result (List Tree × Lexeme) Fault) (m : Lexeme) → prefixed xs r ≡ Ok (ys, m)
    → chained ys (ends m) ≡ chained xs (r >>= λ x. ends x.1 >>= λ y. Ok (chain x.0 y.0, y.1))
rest_then xs ys ends r m h = grind (arith, chain_append)

-- behind a list's elements
pub rest_from : (xs ys : List Tree) (term : Reading) (p : Place) (first m : Lexeme) → lexeme_at p ≡ Ok first → closes_list first.token ≡ false
    → prefixed xs (elements_at term first) ≡ Ok (ys, m) → chained ys (end_at term m) ≡ chained xs (rest_at term p)
rest_from xs ys term p first m e f h = rw (e, f) (rest_then xs ys (end_at term) (elements_at term first) m h)

pub closing_is : (xs : List Tree) (term : Reading) (m : Lexeme) → is_bar m.token ≡ true → closing xs term m ≡ chained xs (end_at term m)
closing_is xs term m e = grind arith

-- the steps of these readers, by name
abbrev untailed : Tree × Place → Result (Tree × Place) Fault
untailed x = Ok (tail_of x.0, x.1)

abbrev text_done : Lexeme → List Tree × Place → Result (Tree × Place) Fault
text_done l x = Ok (list (span l x.1) (chain x.0 nil), x.1)

abbrev list_done : Lexeme → Tree × Place → Result (Tree × Place) Fault
list_done l x = Ok (list (span l x.1) x.0, x.1)

abbrev row_done : List Tree × Place → Result (Tree × Place) Fault
row_done x = Ok (chain x.0 nil, x.1)

-- what was read is no list, where its first token begins none
no_list : {d : ℕ} {l : Lexeme} {t : Tree} {q : Place} → Spells d l t q → spells_list l.token ≡ false → tail_of t ≡ t
no_list (strings e s) f = let both = sym (ap spells_list e) ∙ f in cc
no_list (empty_list e n c) f = let both = sym (ap spells_list e) ∙ f in cc
no_list (a_list e n r c) f = let both = sym (ap spells_list e) ∙ f in cc
no_list (a_list_with_tail e n r b g s h c) f = let both = sym (ap spells_list e) ∙ f in cc
no_list s f = refl

untailed_is : (r : Result (Tree × Place) Fault) → ((x : Tree × Place) → r ≡ Ok x → tail_of x.0 ≡ x.0) → (r >>= untailed) ≡ r
untailed_is r h = grind arith

pub improper_is : (d : ℕ) (l : Lexeme) → spells_list l.token ≡ false → term_at d l ≡ tail_at (term_at d) l
improper_is d l e = sym (untailed_is (term_at d l) (λ x h. no_list (sound d l x h) e))

-- such a tail behind what was found
pub improper_gives : {X : Type 0} (T : Type 0) (tree : X → Tree) (xs : List Tree) (p : Place) (r : Result X Fault) (d : ℕ) (l : Lexeme) → spells_list l.token ≡ false → Gives T (λ x. (tree x, p)) r (term_at d l)
    → Gives T (λ x. (chain xs (tree x), p)) r (chained xs (tail_at (term_at d) l))
improper_gives T tree xs p (Ok x) d l e h = ap (chained xs) (sym (improper_is d l e) ∙ h)
improper_gives T tree xs p (Err f) d l e h =
    gives_err (λ x. (tree x, p)) (λ x. (chain xs (tree x), p)) f (term_at d l) (chained xs (tail_at (term_at d) l)) (λ t. t) (λ g. ap (chained xs) (sym (improper_is d l e) ∙ g)) h

-- a list goes on behind what was found
text_on : (xs : List Tree) (l : Lexeme) (r : Result (List Tree × Place) Fault)
    → (prefixed xs r >>= row_done) ≡ chained xs ((r >>= text_done l) >>= untailed)
text_on xs l r = grind (arith, chain_append)

list_on : (xs : List Tree) (l : Lexeme) (r : Result (Tree × Place) Fault)
    → chained xs r ≡ chained xs ((r >>= list_done l) >>= untailed)
list_on xs l r = grind arith

pub splicing_is : (xs : List Tree) (d : ℕ) (l : Lexeme) → spells_list l.token ≡ true → splicing xs (term_at d) l l.token ≡ chained xs (tail_at (term_at (suc d)) l)
splicing_is xs d l e = by_token l.token refl e
  where
    by_token : (k : Token) → l.token ≡ k → spells_list k ≡ true → splicing xs (term_at d) l k ≡ chained xs (begin_by (group_at (suc d)) l k >>= untailed)
    by_token (token.text w) t e =
        let P : Token → Type 0 = λ k. (prefixed xs (strings_at l) >>= row_done) ≡ chained xs (bracket_by d (begin (group_at d)) l k >>= untailed) in
        subst P (sym t) (text_on xs l (strings_at l))
    by_token token.open_list t e =
        let P : Token → Type 0 = λ k. chained xs (rest_at (term_at d) l.after) ≡ chained xs (bracket_by d (begin (group_at d)) l k >>= untailed) in
        subst P (sym t) (list_on xs l (rest_at (term_at d) l.after))
    by_token s t e = cc
