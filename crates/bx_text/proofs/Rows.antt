-- Rows of elements, read a part at a time.
use Rattle.std.proofs.Common.{◌≡◌, ℕ, zero, suc, IsOkAnd, IsSome, ◌+◌, ◌-◌, ◌<◌, ◌⊎◌, inl, inr, length, List, [], ◌∷◌, ◌++◌, Result, Ok, Err, Option, Some, None, refl, sym, ap, ◌∙◌, subst, append_assoc, append-nil, Bool, true, false, arith}
use Rattle.bx_terms.specs.Outcomes.{Gives, ◌>>=◌}
use Rattle.bx_terms.specs.declared.faults.Fault.{Fault}
use Rattle.bx_text.specs.Place.{Place}
use Rattle.bx_text.specs.Token.{Lexeme}
use Rattle.bx_text.specs.Tree.{Tree, cons, list, chain}
use Rattle.bx_text.specs.Terms as terms
use Rattle.std.proofs.lemmas.Str.{chars-nil}
use Rattle.bx_text.specs.Token as token
use Rattle.bx_text.specs.Token.{Token}
use Rattle.bx_text.specs.Terms.{HasLetters, strings_at, Reading, Follow, follow_by, next_text, span, rest_at, list_at, text_next, texts, texts_on, letters_of}
use Rattle.bx_text.specs.Rows.{prefixed, chained}
use Rattle.bx_text.proofs.Outcomes.{gives_err, ok_same}

pub prefixed_more : {Q : Type 0} (xs ys : List Tree) (r : Result (List Tree × Q) Fault) → prefixed xs (prefixed ys r) ≡ prefixed (xs ++ ys) r
prefixed_more xs ys (Ok x) = ap (λ l. Ok (l, x.1)) (sym (append_assoc xs ys x.0))
prefixed_more xs ys (Err e) = refl

pub turns : (end turn : ℕ) → turn < end → end - turn ≡ suc (end - (turn + 1))
turns end turn l = omega arith

-- a string more
pub texts_step : (end turn : ℕ) (xs : List Tree) (p : Place) (l : Lexeme) → turn < end → text_next p ≡ Ok (Some l)
    → prefixed (xs ++ letters_of l l.token) (texts (end - (turn + 1)) l.after) ≡ prefixed xs (texts (end - turn) p)
texts_step end turn xs p l t e =
    sym (prefixed_more xs (letters_of l l.token) (texts (end - (turn + 1)) l.after)) ∙ sym (
    ap (λ k. prefixed xs (texts k p)) (turns end turn t) ∙ ap (λ r. prefixed xs (r >>= texts_on (texts (end - (turn + 1))) p)) e)

pub texts_fail : {X Y : Type 0} (U : Type 0) (v : X → Option Lexeme) (w : Y → List Tree × Place) (e : Fault) (end turn : ℕ) (xs : List Tree) (p : Place) (said : Result (List Tree × Place) Fault)
    → turn < end → prefixed xs (texts (end - turn) p) ≡ said → Gives ⊥ v (Err e) (text_next p) → Gives U w (Err e) said
texts_fail U v w e end turn xs p said t s h =
    gives_err v w e (text_next p) said (λ f. absurd f)
    (λ g. sym s ∙ ap (λ k. prefixed xs (texts k p)) (turns end turn t) ∙ ap (λ r. prefixed xs (r >>= texts_on (texts (end - (turn + 1))) p)) g) h

-- once a string follows, one followed at first
pub goes_on : (turn : ℕ) (here first : Place) (l : Lexeme) → (turn ≡ 0 → here ≡ first) → (0 < turn → IsOkAnd (text_next first) IsSome) → text_next here ≡ Ok (Some l)
    → IsOkAnd (text_next first) IsSome
goes_on zero here first l s g e = subst (λ r. IsOkAnd r IsSome) (sym e ∙ ap text_next (s refl)) refl
goes_on (suc turn) here first l s g e = g (omega arith)

pub prefixed_none : {Q : Type 0} (r : Result (List Tree × Q) Fault) → prefixed [] r ≡ r
prefixed_none s = grind arith

pub chained_none : {Q : Type 0} (r : Result (Tree × Q) Fault) → chained [] r ≡ r
chained_none s = grind arith

pub chain_append : (xs ys : List Tree) (u : Tree) → chain xs (chain ys u) ≡ chain (xs ++ ys) u
chain_append [] ys u = refl
chain_append (x ∷ xs) ys u = ap (cons x) (chain_append xs ys u)

-- what a flag says of what follows
pub text_none : (b : Bool) (m : Lexeme) (r : Result (Option Lexeme) Fault) → b ≡ false → r ≡ Ok (next_text b m) → r ≡ Ok None
text_none b m r e h = rw e at h

pub text_found : (b : Bool) (m : Lexeme) (r : Result (Option Lexeme) Fault) → b ≡ true → r ≡ Ok (next_text b m) → r ≡ Ok (Some m)
text_found b m r e h = rw e at h

pub part_last : (b : Bool) (m : Lexeme) (r : Result Follow Fault) → b ≡ false → r ≡ Ok (follow_by b m) → r ≡ Ok (terms.end m)
part_last b m r e h = rw e at h

pub part_next : (b : Bool) (m : Lexeme) (r : Result Follow Fault) → b ≡ true → r ≡ Ok (follow_by b m) → r ≡ Ok (terms.next m)
part_next b m r e h = rw e at h

pub row_last : (b : Bool) (xs : List Tree) (m : Lexeme) (r : Result (List Tree × Follow) Fault) → b ≡ false → r ≡ Ok (xs, follow_by b m) → r ≡ Ok (xs, terms.end m)
row_last b xs m r e h = rw e at h

pub row_next : (b : Bool) (xs : List Tree) (m : Lexeme) (r : Result (List Tree × Follow) Fault) → b ≡ true → r ≡ Ok (xs, follow_by b m) → r ≡ Ok (xs, terms.next m)
row_next b xs m r e h = rw e at h

-- no string more
pub texts_none : (size turn : ℕ) (xs : List Tree) (p q : Place) → turn < size → text_next p ≡ Ok None → q ≡ p → prefixed xs (texts (size - turn) p) ≡ Ok (xs, q)
texts_none size turn xs p q t e s = rw (turns size turn t, e, append-nil xs, s) refl

pub row_gives : (xs : List Tree) (r s : Result (List Tree × Place) Fault) → xs ≡ [] → prefixed xs r ≡ s → r ≡ s
row_gives xs r s n h = sym (ap (λ xs. prefixed xs r) n ∙ prefixed_none r) ∙ h

list_on : (xs : List Tree) (term : Reading) (l : Lexeme) (r : Result (Tree × Place) Fault) → xs ≡ [] → chained xs (rest_at term l.after) ≡ r → list_at term l ≡ (r >>= λ x. Ok (list (span l x.1) x.0, x.1))
list_on xs term l r n h =
    ap (λ r. r >>= λ x. Ok (list (span l x.1) x.0, x.1)) (sym (ap (λ xs. chained xs (rest_at term l.after)) n ∙ chained_none (rest_at term l.after)) ∙ h)

pub list_fails : {X Y : Type 0} (T : Type 0) (v : X → Tree × Place) (w : Y → Tree × Place) (e : Fault) (xs : List Tree) (term : Reading) (l : Lexeme) → xs ≡ [] → Gives T v (Err e) (chained xs (rest_at term l.after))
    → Gives T w (Err e) (list_at term l)
list_fails T v w e xs term l n h = gives_err v w e (chained xs (rest_at term l.after)) (list_at term l) (λ t. t) (λ g. list_on xs term l (Err e) n g) h

pub list_gives : (xs : List Tree) (term : Reading) (l : Lexeme) (t : Tree) (q : Place) (node : Tree) → xs ≡ [] → chained xs (rest_at term l.after) ≡ Ok (t, q) → node ≡ list (span l q) t → list_at term l ≡ Ok (node, q)
list_gives xs term l t q node n h e = list_on xs term l (Ok (t, q)) n h ∙ ap (λ u. Ok (u, q)) (sym e)

-- strings that spell something have a character in the first of them, or there is a second
some_letters : (l : Lexeme) (t : Token) → 0 < length (letters_of l t) → HasLetters t
some_letters l (token.text (token.plain [])) h = absurd (omega (arith, rw chars-nil at h))
some_letters l (token.text (token.plain (b ∷ bs))) h = omega arith
some_letters l (token.text (token.escaped raw)) h = tt
some_letters l t h = absurd (omega (arith, h))

pub some_spelled : (l : Lexeme) (xs : List Tree) (q : Place) → strings_at l ≡ Ok (xs, q) → 0 < length xs → HasLetters l.token ⊎ IsOkAnd (text_next l.after) IsSome
some_spelled l xs q read some = by (text_next l.after) refl
  where
    size : ℕ
    size = length l.after.rest + 1

    first : List Tree
    first = letters_of l l.token

    by : (r : Result (Option Lexeme) Fault) → text_next l.after ≡ r → HasLetters l.token ⊎ IsOkAnd r IsSome
    by (Ok (Some m)) e = inr refl
    by (Ok None) e =
        let whole : prefixed first (texts (size - 0) l.after) ≡ Ok (first, l.after) = texts_none size 0 first l.after l.after (omega arith) e refl in
        let turns : size ≡ size - 0 = omega arith in
        let said : ◌≡◌ {A = Result (List Tree × Place) Fault} (Ok (xs, q)) (Ok (first, l.after)) = sym read ∙ ap (λ n. prefixed first (texts n l.after)) turns ∙ whole in
        inl (some_letters l l.token (subst (λ ys. 0 < length ys) (ap (λ p. p.0) (ok_same {A = List Tree × Place} (xs, q) (first, l.after) said)) some))
    by (Err f) e =
        let one : size ≡ suc (size - 1) = omega arith in
        let fails : strings_at l ≡ Err f = ap (λ n. prefixed first (texts n l.after)) one ∙ ap (λ r. prefixed first (r >>= texts_on (texts (size - 1)) l.after)) e in
        let both : ◌≡◌ {A = Result (List Tree × Place) Fault} (Ok (xs, q)) (Err f) = sym read ∙ fails in
        absurd (cc)
