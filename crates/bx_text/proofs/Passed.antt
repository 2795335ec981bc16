-- A term that is passed over ends where it ends when it is built.
use Rattle.std.proofs.Common.{arith, ◌≡◌, ℕ, zero, suc, ◌+◌, ◌-◌, ◌<◌, Bool, true, false, if◌then◌else◌, List, ◌++◌, length, Option, Some, None, Result, Ok, Err, refl, sym, ap, ◌∙◌}
use Rattle.bx_terms.specs.Outcomes.{Gives, ◌>>=◌}
use Rattle.bx_terms.specs.declared.faults.Fault.{Fault}
use Rattle.bx_text.specs.Place.{Place}
use Rattle.bx_text.specs.Token as token
use Rattle.bx_text.specs.Token.{Body, Lexeme}
use Rattle.bx_text.specs.Lexing.{lexeme_at}
use Rattle.bx_text.specs.Tree.{Tree, tuple, list, nil, chain}
use Rattle.bx_text.specs.Terms.{Reading, next, span, closed, closes_tuple, closes_list, follow_at, passed, parts, parts_at, many, elements_at, tuple_on, tuple_at, end_at, rest_on, list_at, letters_of, text_next, texts, texts_on, strings_at, string_at, bracket_by, begin, group_at, term_at}
use Rattle.bx_text.specs.Passing.{element_passed, tuple_passed, end_passed, list_passed}
use Rattle.bx_text.specs.Grammar.{IsToken}
use Rattle.bx_text.proofs.Outcomes.{gives_err, bind_ok}
use Rattle.bx_text.proofs.Rows.{turns}
use Rattle.bx_text.proofs.Keeping.{followed}

-- what is made of what was read makes no difference
behind : {A B Q : Type 0} (f : A → Q → B) (r : Result (A × Q) Fault) → passed (r >>= λ x. Ok (f x.0 x.1, x.1)) ≡ passed r
behind f s = grind arith

-- what is made of a list's elements and what ends them
abbrev ended : List Tree → Tree × Place → Result (Tree × Place) Fault
ended ts y = Ok (chain ts y.0, y.1)

abbrev listed : Lexeme → Tree × Place → Result (Tree × Place) Fault
listed l x = Ok (list (span l x.1) x.0, x.1)

abbrev nothing : Lexeme → Result (Tree × Place) Fault
nothing m = Ok (nil, m.after)

elements_are : (term : Reading) (k : ℕ) (l : Lexeme) → passed (many term k l) ≡ parts (element_passed term) k l
elements_are term zero l = refl
elements_are term (suc k) l = grind (arith, elements_are term k)

all_are : (term : Reading) (m : Lexeme) → passed (elements_at term m) ≡ parts_at (element_passed term) m
all_are term m = elements_are term (length m.after.rest + 1) m

-- tuples
tuple_by : (l : Lexeme) (r : Result (List Tree × Lexeme) Fault) → passed (r >>= λ x. closed closes_tuple x.1 >>= λ q. Ok (tuple (span l q) (chain x.0 nil), q)) ≡ (passed r >>= closed closes_tuple)
tuple_by l r = grind arith

tuple_from : (term : Reading) (l m : Lexeme) (b : Bool)
    → passed (if b then Ok (tuple (span l m.after) nil, m.after) else (elements_at term m >>= λ x. closed closes_tuple x.1 >>= λ q. Ok (tuple (span l q) (chain x.0 nil), q)))
    ≡ (if b then Ok m.after else (parts_at (element_passed term) m >>= closed closes_tuple))
tuple_from term l m true = refl
tuple_from term l m false = tuple_by l (elements_at term m) ∙ ap (λ r. r >>= closed closes_tuple) (all_are term m)

tuple_begun : (term : Reading) (l : Lexeme) (r : Result Lexeme Fault)
    → passed (r >>= tuple_on term l) ≡ (r >>= λ m. if closes_tuple m.token then Ok m.after else (parts_at (element_passed term) m >>= closed closes_tuple))
tuple_begun term l (Ok m) = tuple_from term l m (closes_tuple m.token)
tuple_begun term l (Err e) = refl

tuple_is : (term : Reading) (l : Lexeme) → passed (tuple_at term l) ≡ tuple_passed term l
tuple_is term l = tuple_begun term l (lexeme_at l.after)

-- lists
rest_by : (term : Reading) (l : Lexeme) (r : Result (List Tree × Lexeme) Fault)
    → passed ((r >>= λ x. end_at term x.1 >>= ended x.0) >>= listed l) ≡ (passed r >>= end_passed term)
rest_by term l r = grind arith

list_from : (term : Reading) (l m : Lexeme) (b : Bool)
    → passed ((if b then nothing m else (elements_at term m >>= λ x. end_at term x.1 >>= ended x.0)) >>= listed l)
    ≡ (if b then Ok m.after else (parts_at (element_passed term) m >>= end_passed term))
list_from term l m true = refl
list_from term l m false = rest_by term l (elements_at term m) ∙ ap (λ r. r >>= end_passed term) (all_are term m)

list_begun : (term : Reading) (l : Lexeme) (r : Result Lexeme Fault)
    → passed ((r >>= rest_on term) >>= listed l) ≡ (r >>= λ m. if closes_list m.token then Ok m.after else (parts_at (element_passed term) m >>= end_passed term))
list_begun term l (Ok m) = list_from term l m (closes_list m.token)
list_begun term l (Err e) = refl

list_is : (term : Reading) (l : Lexeme) → passed (list_at term l) ≡ list_passed term l
list_is term l = list_begun term l (lexeme_at l.after)

string_is : (l : Lexeme) → passed (string_at l) ≡ passed (strings_at l)
string_is l = behind (λ ts q. list (span l q) (chain ts nil)) (strings_at l)

-- what a bracket's token leads to
pub text_group : (d : ℕ) (l : Lexeme) (b : Body) → l.token ≡ token.text b → passed (strings_at l) ≡ passed (group_at (suc d) l)
text_group d l b t = sym (ap (λ k. passed (bracket_by d (begin (group_at d)) l k)) t ∙ string_is l)

pub tuple_group : (d : ℕ) (l : Lexeme) → l.token ≡ token.open_tuple → tuple_passed (term_at d) l ≡ passed (group_at (suc d) l)
tuple_group d l t = sym (ap (λ k. passed (bracket_by d (begin (group_at d)) l k)) t ∙ tuple_is (term_at d) l)

pub list_group : (d : ℕ) (l : Lexeme) → l.token ≡ token.open_list → list_passed (term_at d) l ≡ passed (group_at (suc d) l)
list_group d l t = sym (ap (λ k. passed (bracket_by d (begin (group_at d)) l k)) t ∙ list_is (term_at d) l)

-- strings
pub strings_begun : (l : Lexeme) → passed (texts (length l.after.rest + 1) l.after) ≡ passed (strings_at l)
strings_begun l = sym (behind (λ ts q. letters_of l l.token ++ ts) (texts (length l.after.rest + 1) l.after))

pub strings_step : (size turn : ℕ) (p : Place) (l : Lexeme) → turn < size → text_next p ≡ Ok (Some l) → passed (texts (size - (turn + 1)) l.after) ≡ passed (texts (size - turn) p)
strings_step size turn p l t e =
    sym (ap (λ k. passed (texts k p)) (turns size turn t)
    ∙ ap (λ r. passed (r >>= texts_on (texts (size - (turn + 1))) p)) e
    ∙ behind (λ ts q. letters_of l l.token ++ ts) (texts (size - (turn + 1)) l.after))

pub strings_end : (size turn : ℕ) (p : Place) → turn < size → text_next p ≡ Ok None → passed (texts (size - turn) p) ≡ Ok p
strings_end size turn p t e = ap (λ k. passed (texts k p)) (turns size turn t) ∙ ap (λ r. passed (r >>= texts_on (texts (size - (turn + 1))) p)) e

pub strings_fail : {X Y : Type 0} (v : X → Option Lexeme) (w : Y → Place) (e : Fault) (size turn : ℕ) (p : Place) (said : Result Place Fault)
    → turn < size → passed (texts (size - turn) p) ≡ said → Gives ⊥ v (Err e) (text_next p) → Gives ⊥ w (Err e) said
strings_fail v w e size turn p said t s h =
    gives_err v w e (text_next p) said (λ k. k)
    (λ g. sym s ∙ ap (λ k. passed (texts k p)) (turns size turn t) ∙ ap (λ r. passed (r >>= texts_on (texts (size - (turn + 1))) p)) g) h

-- what follows an element
pub element_next : (d : ℕ) (l n : Lexeme) → element_passed (term_at d) l ≡ Ok (next n) → IsToken n
element_next d l n h = let a = bind_ok (passed (term_at d l)) follow_at (next n) h in followed a.0 n a.2
