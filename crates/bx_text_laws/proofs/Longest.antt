-- What is taken is the longest spelling.
use Rattle.bx_text_laws.proofs.Commons.{◌≡◌, ℕ, ◌+◌, ◌≤◌, true, eqb, leb, ◌||◌, ◌↔◌, pos, neg_ℤ, List, [], ◌∷◌, ◌++◌, take, drop, length, Result, Ok, refl, sym, ap, ◌∙◌, subst, arith, drop_at, take_at}
use Rattle.bx_text_laws.proofs.Commons.{length-append, inl, inr, eqb-true, or_cases, cond_both, Fault, is_digit, is_lower, Place, after, Token, kind_of, punctuation_of, token_by, token_at, ok_same}
use Rattle.bx_text_laws.proofs.Commons.{Spelling, MayFollow, Begins, no_minus, a_minus, open_tuple, close_tuple, open_list, close_list, open_map, open_binary, close_binary, comma, bar, arrow, colon}
use Rattle.bx_text_laws.proofs.Commons.{open_parenthesis, close_parenthesis, full_stop, the_word_fun, negative, float, bare_atom, quoted_atom, string, lines, meant, Longest, Takes}
use Rattle.std.specs.Str.Lossy.{utf8_valid_len}
use Rattle.bx_text.specs.Named as named
use Rattle.bx_text.specs.Token as token
use Rattle.bx_text_laws.specs.Spelling.{slash, integer}
use Rattle.bx_text_laws.proofs.Frame.{on, Spelled, Found, found_exact}
use Rattle.bx_text_laws.proofs.Marks.{one_byte, two_bytes, a_stop, ends_there}
use Rattle.bx_text_laws.proofs.Numbers.{a_number}
use Rattle.bx_text_laws.proofs.NumbersFound.{integer_found, float_found}
pub use Rattle.bx_text_laws.proofs.Runs.{unsigned}
use Rattle.bx_text_laws.proofs.Runs.{digits_of}
use Rattle.bx_text_laws.proofs.Words.{a_letter, an_accent, no_foreign, atom_found, fun_found}
use Rattle.bx_text_laws.proofs.Quotes.{a_quoted_atom, a_string, quoted_found, string_found}

by_parenthesis : (b : ℕ) (bs : List ℕ) (at line : ℕ) (x : Token × Place) → (eqb b 40 || eqb b 41) ≡ true
    → ◌≡◌ {A = Result (Token × Place) Fault} (Ok (named.parenthesis, after (on (b ∷ bs) at line) 1)) (Ok x) → Spelled (on (b ∷ bs) at line) x
by_parenthesis b bs at line x e h =
    elim (or_cases (eqb b 40) (eqb b 41) e) [
      | inl e ↦ one_byte b 40 bs at line named.parenthesis x refl open_parenthesis (λ e. cc) e h
      | inr e ↦ one_byte b 41 bs at line named.parenthesis x refl close_parenthesis (λ e. cc) e h
    ]

by_punctuation : (b : ℕ) (bs : List ℕ) (at line : ℕ) (x : Token × Place) → token_by (punctuation_of b) (on (b ∷ bs) at line) ≡ Ok x → Spelled (on (b ∷ bs) at line) x
by_punctuation b bs at line x =
    let P : named.Beginning → Type 0 = λ k. token_by k (on (b ∷ bs) at line) ≡ Ok x → Spelled (on (b ∷ bs) at line) x in
    cond_both (eqb b 123) _ _ P (one_byte b 123 bs at line token.open_tuple x refl open_tuple (λ e. cc)) (λ _.
    cond_both (eqb b 125) _ _ P (one_byte b 125 bs at line named.close_tuple x refl close_tuple (λ e. cc)) (λ _.
    cond_both (eqb b 91) _ _ P (one_byte b 91 bs at line token.open_list x refl open_list (λ e. cc)) (λ _.
    cond_both (eqb b 93) _ _ P (one_byte b 93 bs at line named.close_list x refl close_list (λ e. cc)) (λ _.
    cond_both (eqb b 44) _ _ P (one_byte b 44 bs at line named.comma x refl comma (λ e. cc)) (λ _.
    cond_both (eqb b 124) _ _ P (one_byte b 124 bs at line named.bar x refl bar (λ e. cc)) (λ _.
    cond_both (eqb b 46) _ _ P (a_stop b bs at line x) (λ _.
    cond_both (eqb b 39) _ _ P (a_quoted_atom b bs at line x) (λ _.
    cond_both (eqb b 34) _ _ P (a_string b bs at line x) (λ _.
    cond_both (eqb b 45) _ _ P (λ e. let is : b ≡ 45 = eqb-true b 45 e in rw is (a_number (45 ∷ []) bs at line x a_minus)) (λ _.
    cond_both (eqb b 58) _ _ P (one_byte b 58 bs at line named.colon x refl colon (λ e. cc)) (λ _.
    cond_both (eqb b 47) _ _ P (one_byte b 47 bs at line named.slash x refl slash (λ e. cc)) (λ _.
    cond_both (eqb b 40 || eqb b 41) _ _ P (by_parenthesis b bs at line x) (λ _.
    cond_both (eqb b 35) _ _ P (two_bytes b 35 123 bs at line token.open_map x refl open_map (λ rest e. cc)) (λ _.
    cond_both (eqb b 60) _ _ P (two_bytes b 60 60 bs at line token.open_binary x refl open_binary (λ rest e. cc)) (λ _.
    cond_both (eqb b 61) _ _ P (two_bytes b 61 62 bs at line named.arrow x refl arrow (λ rest e. cc)) (λ _.
    cond_both (eqb b 62) _ _ P (two_bytes b 62 62 bs at line named.close_binary x refl close_binary (λ rest e. cc)) (λ _ h. cc)))))))))))))))))

by_byte : (b : ℕ) (bs : List ℕ) (at line : ℕ) (x : Token × Place) → token_by (kind_of b) (on (b ∷ bs) at line) ≡ Ok x → Spelled (on (b ∷ bs) at line) x
by_byte b bs at line x =
    let P : named.Beginning → Type 0 = λ k. token_by k (on (b ∷ bs) at line) ≡ Ok x → Spelled (on (b ∷ bs) at line) x in
    cond_both (is_lower b) _ _ P (a_letter b bs at line x) (λ _.
    cond_both (is_digit b) _ _ P (λ _. a_number [] (b ∷ bs) at line x no_minus) (λ _.
    cond_both (eqb b 195) _ _ P (an_accent b bs at line x) (λ _.
    cond_both (leb 128 b) _ _ P (λ _ h. absurd (no_foreign (eqb (utf8_valid_len (b ∷ bs)) 0) line x h)) (λ _. by_punctuation b bs at line x))))

pub sound : (p : Place) (x : Token × Place) → token_at p ≡ Ok x → Spelled p x
sound p x h = by_list p.rest p.at p.line x h
  where
    by_list : (bs : List ℕ) (at line : ℕ) (x : Token × Place) → token_at (on bs at line) ≡ Ok x → Spelled (on bs at line) x
    by_list [] at line x h = cc
    by_list (b ∷ bs) at line x h = by_byte b bs at line x h

-- what is spelled is taken
complete : {bytes : List ℕ} {t : Token} → Spelling bytes t → (rest : List ℕ) (at line : ℕ) → MayFollow t rest → Found (on (bytes ++ rest) at line) t rest
complete full_stop rest at line f = let p : Place = on (46 ∷ rest) at line in found_exact p (after p 1) named.full_stop named.full_stop rest (rw (ends_there rest (f refl))) refl refl
complete the_word_fun rest at line f = fun_found rest at line
complete (integer {ds = ds} {n = n} k) rest at line f =
    let d = digits_of k refl in
    subst (λ z. Found (on (ds ++ rest) at line) (token.integer z) rest) (unsigned ds d.0 ∙ ap (λ n. pos n) d.1) (integer_found no_minus ds rest at line d.0 d.2)
complete (negative {ds = ds} {n = n} k) rest at line f =
    let d = digits_of k refl in
    subst (λ n. Found (on (45 ∷ (ds ++ rest)) at line) (token.integer (neg_ℤ (pos n))) rest) d.1 (integer_found a_minus ds rest at line d.0 d.2)
complete (float {ds = ds} {fs = fs} mi (m, k) (n, l) ex) rest at line f =
    let d = digits_of k refl in
    let e = digits_of l refl in
    float_found mi ds fs rest at line d.0 d.2 e.0 e.2 ex
complete (bare_atom x cs {bytes = bytes} small a utf8 other) rest at line f = atom_found x cs bytes rest at line small a utf8 other
complete (quoted_atom {cs = cs} {vs = vs} {bytes = bytes} q utf8) rest at line f = quoted_found cs vs bytes rest at line q utf8
complete (string {cs = cs} {vs = vs} {bytes = bytes} q utf8) rest at line f = string_found cs vs bytes rest at line q utf8
complete {bytes = bytes} {t = t} s rest at line f =
    let p : Place = on (bytes ++ rest) at line in found_exact p (after p (length bytes)) t t rest refl (drop_at bytes rest (length bytes) refl) refl

pub found : (p : Place) (bytes : List ℕ) (t : Token) (rest : List ℕ) → Begins p.rest bytes t rest → Found p t rest
found p bytes t rest (e, s, f) = subst (λ text. Found (on text p.at p.line) t rest) (sym e) (complete s rest p.at p.line f)

-- both ways
sizes : (text bytes rest : List ℕ) → text ≡ bytes ++ rest → length text ≡ length bytes + length rest
sizes text bytes rest e = ap length e ∙ length-append bytes rest

furthest : (p : Place) (x : Token × Place) → token_at p ≡ Ok x → (bytes : List ℕ) (t : Token) (rest : List ℕ) → Begins p.rest bytes t rest → length x.1.rest ≤ length rest
furthest p x h bytes t rest b =
    let (y, g, short, same) = found p bytes t rest b in
    subst (λ (z : Token × Place). length z.1.rest ≤ length rest) (ok_same y x (sym g ∙ h)) short

takes_longest : (p : Place) (t : Token) (q : Place) → Takes p t q → Longest p t q
takes_longest p t q (u, h, m) =
    let (bytes, b, st) = sound p (u, q) h in (
      bytes,
      subst (λ t. Begins p.rest bytes t q.rest) m b,
      (λ others v rest d. omega (arith, sizes p.rest bytes q.rest b.0, sizes p.rest others rest d.0, furthest p (u, q) h others v rest d)),
      st,
    )

same_front : (text xs ys us vs : List ℕ) → text ≡ xs ++ us → text ≡ ys ++ vs → length xs ≡ length ys → (xs ≡ ys) × (us ≡ vs)
same_front text xs ys us vs e f l = (
  sym (take_at xs us (length ys) l) ∙ ap (λ w. take (length ys) w) (sym e ∙ f) ∙ take_at ys vs (length ys) refl,
  sym (drop_at xs us (length ys) l) ∙ ap (λ w. drop (length ys) w) (sym e ∙ f) ∙ drop_at ys vs (length ys) refl,
)

pub same_place : (p q : Place) → p.rest ≡ q.rest → p.at ≡ q.at → p.line ≡ q.line → p ≡ q
same_place p q a b c = λ i. record { rest = a i; at = b i; line = c i }

longest_takes : (p : Place) (t : Token) (q : Place) → Longest p t q → Takes p t q
longest_takes p t q (bytes, b, none, st) =
    let (x, h, short, same) = found p bytes t q.rest b in
    let (u, r) = x in
    let (others, c, su) = sound p (u, r) h in
    let short2 : length others ≤ length bytes = none others (meant u) r.rest c in
    let exact : length others ≡ length bytes = omega (arith, short, short2, sizes p.rest bytes q.rest b.0, sizes p.rest others r.rest c.0) in
    let left : length r.rest ≡ length q.rest = omega (arith, exact, sizes p.rest bytes q.rest b.0, sizes p.rest others r.rest c.0) in
    let fronts = same_front p.rest others bytes r.rest q.rest c.0 b.0 exact in
    let there : r ≡ q = same_place r q fronts.1 (su.0 ∙ ap (λ w. p.at + length w) fronts.0 ∙ sym st.0) (su.1 ∙ ap (λ w. p.line + lines w) fronts.0 ∙ sym st.1) in
    (u, h ∙ ap (λ r. Ok (u, r)) there, same left)

pub taken_is_longest : (p : Place) (t : Token) (q : Place) → Takes p t q ↔ Longest p t q
taken_is_longest p t q = (takes_longest p t q, longest_takes p t q)
