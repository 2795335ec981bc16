-- What was read is printed and read back.
use Rattle.bx_text_laws.proofs.Commons.{◌≡◌, ℕ, zero, suc, ◌*◌, ◌^◌, ◌%◌, ◌≤◌, ◌<◌, true, pos, List, [], ◌∷◌, ◌++◌, map, length, length-append, Some, Ok, refl, ap, subst, arith, IsUtf8, chars}
use Rattle.bx_text_laws.proofs.Commons.{encode_utf8_all, AllByRecursion, all_scalars, and_parts, and_from, Span, Place, Token, Lexeme, span, letters, tail_of, Tree, other, nil, chain, Quoted, Named}
use Rattle.bx_text_laws.proofs.Commons.{StandsAs, Shown, ShownRow, ShownList, ShownRest, IsReadBack, Spelling, Sort, Stood, NoText, Texts, Term, Sentence, Numeral, one_digit, Body, spelled}
use Rattle.bx_text_laws.proofs.Commons.{digit_more}
use Rattle.std.proofs.Math.Utf8.{low_scalar}
use Rattle.std.proofs.Math.Nat.{pow-zero, pow-succ', pow-le-pow_right, mul-le-mul_left}
use Rattle.bx_text.specs.Token as token
use Rattle.bx_text.specs.Forms.{form_at}
use Rattle.bx_text.specs.Tree.{integer}
use Rattle.bx_text_laws.specs.Quoted as quoted
use Rattle.bx_text_laws.specs.Spelling as spelling
use Rattle.bx_text.specs.Rules as rules
use Rattle.bx_text_laws.proofs.ReadBack.{read_back}
use Rattle.bx_text_laws.proofs.Sentences.{forms_are_sentences, term}

-- quoted characters are characters
value_below : {b n : ℕ} {ds : List ℕ} → Numeral b ds n → n < b ^ length ds
value_below (one_digit {base = b} d) = rw (pow-succ' b 0, pow-zero) (omega (arith, d.0))
value_below (digit_more {base = b} {n = n} {c = c} {x = x} {cs = cs} k d) =
    let more : b * suc n ≤ b * b ^ length cs = mul-le-mul_left b (value_below k) in
    let long : length (cs ++ c ∷ []) ≡ suc (length cs) = omega (arith, length-append cs (c ∷ [])) in
    rw (long, pow-succ' b (length cs)) (omega (arith, more, d.0))

named_low : {c v : ℕ} → Named c v → v < 55296
named_low s = grind arith

scalars_past : (xs ys : List ℕ) → all_scalars (xs ++ ys) ≡ true → all_scalars ys ≡ true
scalars_past [] ys a = a
scalars_past (x ∷ xs) ys a = scalars_past xs ys (and_parts _ (all_scalars (xs ++ ys)) a).1

quoted_scalars : {q : ℕ} {cs vs : List ℕ} → Quoted q cs vs → all_scalars cs ≡ true → all_scalars vs ≡ true
quoted_scalars quoted.none a = refl
quoted_scalars (quoted.itself {cs = cs} {vs = vs} o p k) a = let both = and_parts _ (all_scalars cs) a in and_from _ (all_scalars vs) both.0 (quoted_scalars k both.1)
quoted_scalars (quoted.named {c = c} {v = v} {cs = cs} {vs = vs} n k) a = and_from _ (all_scalars vs) (low_scalar v (named_low n)) (quoted_scalars k (scalars_past (92 ∷ c ∷ []) cs a))
quoted_scalars (quoted.octal {v = v} {ds = ds} {cs = cs} {vs = vs} n l e k) a =
    and_from _ (all_scalars vs) (low_scalar v (omega (arith, value_below n, pow-le-pow_right {n = 8} (omega arith) {i = length ds} {j = 3} l))) (quoted_scalars k (scalars_past (92 ∷ ds) cs a))
quoted_scalars (quoted.hex {v = v} {ds = ds} {cs = cs} {vs = vs} n l k) a =
    and_from _ (all_scalars vs) (low_scalar v (omega (arith, value_below n, ap (λ k. 16 ^ k) l))) (quoted_scalars k (scalars_past (92 ∷ 120 ∷ ds) cs a))
quoted_scalars (quoted.braced {ds = ds} {cs = cs} {vs = vs} n s k) a =
    and_from _ (all_scalars vs) s (quoted_scalars k (scalars_past (125 ∷ []) cs (scalars_past (92 ∷ 120 ∷ 123 ∷ ds) (125 ∷ cs) a)))
quoted_scalars (quoted.control {c = c} {cs = cs} {vs = vs} h k) a =
    let low : c % 32 < 32 = omega arith in
    and_from _ (all_scalars vs) (low_scalar (c % 32) (omega arith)) (quoted_scalars k (scalars_past (92 ∷ 94 ∷ c ∷ []) cs a))
quoted_scalars (quoted.other {c = c} {cs = cs} {vs = vs} h k) a =
    let both = and_parts _ (all_scalars cs) (scalars_past (92 ∷ []) (c ∷ cs) a) in and_from _ (all_scalars vs) both.0 (quoted_scalars k both.1)

-- an atom's text is in UTF-8
atom_utf8 : {bytes : List ℕ} {t : Token} → Spelling bytes t → (b : Body) → t ≡ token.atom b → IsUtf8 (spelled b)
atom_utf8 (spelling.bare_atom c cs {bytes = bytes} h a u o) b e = let is : token.plain bytes ≡ b = cc in subst (λ b. IsUtf8 (spelled b)) is (c ∷ cs, (u.0, u.1))
atom_utf8 (spelling.quoted_atom {vs = vs} r u) b e = let is : token.plain (encode_utf8_all vs) ≡ b = cc in subst (λ b. IsUtf8 (spelled b)) is (vs, (quoted_scalars r u.0, refl))
atom_utf8 s b e = cc

abbrev Somewhere : Lexeme → Type 0
Somewhere l = (p : Place) × Stood p l

spoken : (l : Lexeme) → Somewhere l → (bytes : List ℕ) × Spelling bytes l.token
spoken l (p, (q, passed, (bytes, b, more, st), f, n, e)) = (bytes, b.1)

-- deeper is no harm
term_up : {d : ℕ} {l : Lexeme} {t : Tree} {q : Place} → Term d l t q → (e : ℕ) → d ≤ e → Term e l t q
term_up {l = l} t e h = term Stood Stood NoText NoText (λ p l st. (l.token, refl, st)) (λ p n. n) t l.token refl e h

-- rows of shown terms
row_of : (d : ℕ) (ts : List Tree) → AllByRecursion (Shown d) ts → ShownRow d (chain ts nil)
row_of d [] a = tt
row_of d (t ∷ ts) (h, a) = (h, row_of d ts a)

rest_of : (d : ℕ) (ts : List Tree) (u : Tree) → AllByRecursion (Shown d) ts → ShownRest d u → ShownRest d (chain ts u)
rest_of d [] u a r = r
rest_of d (t ∷ ts) u (h, a) r = (h, rest_of d ts u a r)

list_of : (d : ℕ) (ts : List Tree) (u : Tree) → 0 < length ts → AllByRecursion (Shown d) ts → ShownRest d u → ShownList d (chain ts u)
list_of d [] u l a r = absurd (omega arith)
list_of d (t ∷ ts) u l (h, a) r = (h, rest_of d ts u a r)

proper_of : (d : ℕ) (ts : List Tree) → AllByRecursion (Shown d) ts → ShownList d (chain ts nil)
proper_of d [] a = tt
proper_of d (t ∷ ts) (h, a) = (h, rest_of d ts nil a tt)

-- a string's characters are integers
letters_shown : (d : ℕ) (s : Span) (cs : List ℕ) (ts : List Tree) → AllByRecursion (Shown d) ts → AllByRecursion (Shown d) (map (λ c. integer s (pos c)) cs ++ ts)
letters_shown d s [] ts a = a
letters_shown d s (c ∷ cs) ts a = (tt, letters_shown d s cs ts a)

texts_shown : {p q : Place} {ts : List Tree} → Texts p ts q → (d : ℕ) → AllByRecursion (Shown d) ts
texts_shown (rules.no_string n) d = tt
texts_shown (rules.a_string {l = l} {b = b} {ts = ts} st t s) d = letters_shown d (span l l.after) (chars (spelled b)) ts (texts_shown s d)

some_elements : {d : ℕ} {l m : Lexeme} {ts : List Tree} → rules.Row Stood NoText d l ts m → 0 < length ts
some_elements s = grind arith

kept_shown : {d : ℕ} {l : Lexeme} {s : Span} {k : Sort} {w : List ℕ} {q : Place} → Term d l (other s k w) q → Somewhere l → (e : ℕ) → d ≤ e → StandsAs e k w × StandsAs e k w
kept_shown {l = l} {s = s} {k = k} {w = w} {q = q} t (p, st) e h = let x : StandsAs e k w = (p, l, s, q, st, term_up t e h) in (x, x)

-- it is shown, and so is what is a tail of it
mutual
  term_shown : {d : ℕ} {l : Lexeme} {t : Tree} {q : Place} → Term d l t q → Somewhere l → (e : ℕ) → d ≤ e → Shown e t × ShownRest e (tail_of t)
  term_shown (rules.an_integer t) s e h = (tt, tt)
  term_shown (rules.an_atom {l = l} {b = b} t) s e h = let u : IsUtf8 (spelled b) = atom_utf8 (spoken l s).1 b t in (u, u)
  term_shown (rules.a_float t w) s e h = kept_shown (rules.a_float t w) s e h
  term_shown (rules.an_empty_map t a z w) s e h = kept_shown (rules.an_empty_map t a z w) s e h
  term_shown (rules.a_map t a r z w) s e h = kept_shown (rules.a_map t a r z w) s e h
  term_shown (rules.an_empty_binary t a z w) s e h = kept_shown (rules.an_empty_binary t a z w) s e h
  term_shown (rules.a_binary t a r z w) s e h = kept_shown (rules.a_binary t a r z w) s e h
  term_shown (rules.a_fun t a x b y c z i o k j r) s e h = kept_shown (rules.a_fun t a x b y c z i o k j r) s e h
  term_shown (rules.strings {l = l} {b = b} {ts = ts} t r) s (suc e) h =
      let all : (d : ℕ) → AllByRecursion (Shown d) (letters (span l l.after) (spelled b) ++ ts) = λ d. letters_shown d (span l l.after) (chars (spelled b)) ts (texts_shown r d) in
      (proper_of e _ (all e), rest_of (suc e) _ nil (all (suc e)) tt)
  term_shown (rules.a_tuple {l = l} {ts = ts} t a w z) s (suc e) h = let r : ShownRow e (chain ts nil) = row_of e ts (elements_shown w (l.after, a) e (omega arith)) in (r, r)
  term_shown (rules.a_list {l = l} {ts = ts} t a w z) s (suc e) h =
      (proper_of e ts (elements_shown w (l.after, a) e (omega arith)), rest_of (suc e) ts nil (elements_shown w (l.after, a) (suc e) (omega arith)) tt)
  term_shown (rules.a_list_with_tail {l = l} {bar = bar} {ts = ts} {t = tail} t a w b c u y z) s (suc e) h = (
    list_of e ts (tail_of tail) (some_elements w) (elements_shown w (l.after, a) e (omega arith)) (term_shown u (bar.after, c) e (omega arith)).1,
    rest_of (suc e) ts (tail_of tail) (elements_shown w (l.after, a) (suc e) (omega arith)) (term_shown u (bar.after, c) (suc e) (omega arith)).1,
  )
  term_shown t s zero h = absurd (omega arith)
  term_shown t s (suc e) h = (tt, tt)

  elements_shown : {d : ℕ} {l m : Lexeme} {ts : List Tree} → rules.Row Stood NoText d l ts m → Somewhere l → (e : ℕ) → d ≤ e → AllByRecursion (Shown e) ts
  elements_shown (rules.one t st) s e h = ((term_shown t s e h).0, tt)
  elements_shown (rules.more {comma = comma} t st k n r) s e h = ((term_shown t s e h).0, elements_shown r (comma.after, n) e h)

sentence_shown : {d : ℕ} {p q : Place} {t : Tree} → Sentence d p t q → Shown d t
sentence_shown (rules.a_form {d = d} {p = p} st t a z) = (term_shown t (p, st) d (omega arith)).0

pub read_and_back : (p : Place) (t : Tree) (q : Place) → form_at p ≡ Ok (Some (t, q)) → IsReadBack t
read_and_back p t q h = read_back t (sentence_shown ((forms_are_sentences p t q).0 h))
