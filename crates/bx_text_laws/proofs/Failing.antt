-- A token is refused where none is spelled, with the fault that the bytes say.
use Rattle.std.proofs.Common.{◌≡◌, ℕ, ◌+◌, ◌≤◌, Bool, true, false, cond, eqb, leb, ◌||◌, ◌↔◌, List, [], ◌∷◌, ◌++◌, drop, length, Result, Ok, Err, refl, sym, ap, ◌∙◌, subst, arith, inl, inr, IsUtf8, not, take, append-nil, take_at, length-append, ◌⊎◌}
use Rattle.std.specs.List.{prefix_len, fold}
use Rattle.std.specs.Str.Lossy.{utf8_valid_len}
use Rattle.std.proofs.lemmas.Bool.{eqb-true, eq-eqb, leb-false, cases_lt, cond-true, cond-false, cond_both, false_from_ne_true, both_ways}
use Rattle.std.proofs.lemmas.Bool.Decides.{nat_tests}
use Rattle.std.proofs.lemmas.Str.{utf8_valid_len-IsValidUpTo}
use Rattle.bx_terms.specs.Outcomes.{◌>>=◌}
use Rattle.bx_terms.specs.declared.faults.Fault.{Fault, TheVariants.BadToken, TheVariants.Truncated, TheVariants.NotUtf8}
use Rattle.bx_text.specs.Bytes.{begins, is_digit, is_lower, is_accented_lower}
use Rattle.bx_text.specs.Place.{Place, feeds}
use Rattle.bx_text.specs.Named as named
use Rattle.bx_text.specs.Token as token
use Rattle.bx_text.specs.Token.{Token, Body}
use Rattle.bx_text.specs.Lexing.{lexeme_at, lexeme_from, token_at, token_by, kind_of, foreign_at, word_at, number_at, number_by, fraction_len, ends, pair_on, quoted_at, body_len}
use Rattle.bx_text_laws.specs.Quoted.{IsQuote, Quoted}
use Rattle.bx_text_laws.specs.Lexemes.{NoNext}
use Rattle.bx_text_laws.specs.Spelling.{NoToken, InUtf8}
use Rattle.bx_text_laws.specs.Tokens.{lines}
use Rattle.bx_text_laws.specs.Refusals.{Unclosed, Cut, minus, hash, less, equals, greater, quoted, escape, Awaits, slash, NoCharacter, Breaks, Fails, truncated, not_utf8, bad_token, Unfinished}
use Rattle.bx_text_laws.specs.Refusals as refusals
use Rattle.bx_text_laws.proofs.Frame.{on}
use Rattle.bx_text_laws.proofs.Blanking.{skipped_is_blank}
use Rattle.bx_text_laws.proofs.Finding.{standing}
use Rattle.bx_text_laws.proofs.Finding as finding
use Rattle.bx_text_laws.proofs.Longest.{sound, found}
use Rattle.bx_text_laws.proofs.Seams.{Seam, to_seam, ascii, seam, from_seam}
use Rattle.bx_text_laws.proofs.Unclosed.{Left, spans, Parts, parts}
use Rattle.bx_text_laws.proofs.Leftover.{Slash, leaves, left_good, slash_left, slash_goes, quoted_open}
use Rattle.bx_text_laws.proofs.Words.{accent_utf8}
use Rattle.bx_text.specs.Escapes.{step, is_bad, may_go_on}
use Rattle.bx_text.specs.Named.{Open}
use Rattle.bx_text_laws.proofs.Escapes.{whole}
use Rattle.bx_text_laws.proofs.Quotes.{feeds_lines, quote_line, quote_low, open_text, codes_same, no_seam, no_mark, Parsed, Scan, closed, unclosed, spoilt, scan}

-- lines
pub open_lines : (q : ℕ) (bytes : List ℕ) → IsQuote q → lines (q ∷ bytes) ≡ feeds bytes
open_lines q bytes h = cond-false (eqb q 10) _ _ (quote_line q h) ∙ feeds_lines bytes

-- what a fault says of a text's bytes
abbrev pub Says : List ℕ → ℕ → Fault → Type 0
Says text line f = ((f ≡ Truncated (line + lines text)) × Cut text) ⊎ (((front : List ℕ) × (f ≡ NotUtf8 (line + lines front)) × Breaks text front) ⊎ (f ≡ BadToken line))

pub says : (q : ℕ) (body : List ℕ) (at line : ℕ) (f : Fault) → IsQuote q → quoted_at q (on (q ∷ body) at line) ≡ Err f → Says (q ∷ body) line f
says q body at line f h g = by (scan q body at line h) g
  where
    same : (x : Fault) → ◌≡◌ {A = Parsed} (Err x) (Err f) → f ≡ x
    same x e = cc

    bad : ◌≡◌ {A = Parsed} (Err (BadToken line)) (Err f) → Says (q ∷ body) line f
    bad e = inr (inr (same (BadToken line) e))

    opening : (cs xs es vs bytes : List ℕ) → InUtf8 cs bytes → cs ≡ xs ++ es → Quoted q xs vs → Unclosed (q ∷ bytes) es
    opening cs xs es vs bytes u e k = (q, bytes, xs, vs, refl, h, k, subst (λ cs. InUtf8 cs bytes) e u)

    cut : (cs : List ℕ) → InUtf8 cs body → {e : Open} → Parts q e cs → Cut (q ∷ body)
    cut cs u k =
        elim k.left [
          | inl n ↦ refusals.quoted (subst (Unclosed (q ∷ body)) n (opening cs k.front k.rest k.codes body u k.is k.quoted))
          | inr l ↦ refusals.escape (opening cs k.front k.rest k.codes body u k.is k.quoted) l.0
        ]

    awaits : (cs bytes : List ℕ) → InUtf8 cs bytes → {e : Open} → may_go_on e ≡ true → Parts q e cs → Awaits (q ∷ bytes)
    awaits cs bytes u m k =
        elim k.left [
          | inl n ↦ refusals.quoted (subst (Unclosed (q ∷ bytes)) n (opening cs k.front k.rest k.codes bytes u k.is k.quoted))
          | inr l ↦ refusals.slash (subst (Unclosed (q ∷ bytes)) (l.2 m) (opening cs k.front k.rest k.codes bytes u k.is k.quoted))
        ]

    by : {r : Parsed} → Scan q body at line r → r ≡ Err f → Says (q ∷ body) line f
    by (closed cs raw zs b e n u o s) = cond_both (whole named.nothing cs) _ _ (λ (r : Parsed). r ≡ Err f → Says (q ∷ body) line f) (λ _ g. cc) (λ _ g. bad g)
    by (unclosed cs u o) =
        cond_both (is_bad (fold step named.nothing cs)) _ _ (λ (x : Fault). ◌≡◌ {A = Parsed} (Err x) (Err f) → Says (q ∷ body) line f) (λ _ g. bad g)
        (λ i g. inl (
          same (Truncated (line + feeds body)) g ∙ ap (λ n. Truncated (line + n)) (sym (open_lines q body h)),
          cut cs u (parts (λ s. not (is_bad s)) q h refl cs (sym (open_text q cs body h u) ∙ o) (ap not i)),
        ))
    by (spoilt cs bytes rest e u o n) =
        cond_both (may_go_on (fold step named.nothing cs)) _ _ (λ (x : Fault). ◌≡◌ {A = Parsed} (Err x) (Err f) → Says (q ∷ body) line f)
        (λ m g. inr (inl (
          q ∷ bytes,
          same (NotUtf8 (line + feeds bytes)) g ∙ ap (λ n. NotUtf8 (line + n)) (sym (open_lines q bytes h)),
          (rest, ap (λ us. q ∷ us) e, awaits cs bytes u m (parts may_go_on q h refl cs (sym (open_text q cs bytes h u) ∙ o) m), n),
        )))
        (λ _ g. bad g)

-- and what the bytes say is the fault: the text ends
pub cut_found : (q : ℕ) (xs es vs body : List ℕ) (at line : ℕ) → IsQuote q → Quoted q xs vs → Left es → InUtf8 (xs ++ es) body → quoted_at q (on (q ∷ body) at line) ≡ Err (Truncated (line + feeds body))
cut_found q xs es vs body at line h k l u = by (scan q body at line h) refl
  where
    p : Place
    p = on (q ∷ body) at line

    long : length body ≤ body_len q body
    long = omega (arith, (spans q h body []).0 (open_text q (xs ++ es) body h u ∙ quoted_open k h es l), ap (body_len q) (append-nil body))

    by : {r : Parsed} → Scan q body at line r → quoted_at q p ≡ r → quoted_at q p ≡ Err (Truncated (line + feeds body))
    by (closed cs raw zs b e n v o s) i = absurd (omega (arith, long, n, ap length e, length-append raw (q ∷ zs)))
    by (unclosed cs v o) i =
        i ∙ ap (λ t. Err (cond t (BadToken line) (Truncated (line + feeds body))))
        (ap (λ cs. is_bad (fold step named.nothing cs)) (codes_same cs (xs ++ es) body body v u refl) ∙ (leaves k es l).tests is_bad (λ v. refl, λ v. refl) ∙ left_good es l)
    by (spoilt cs bytes rest e v o n) i = absurd (no_seam bytes rest (cs, (v.0, v.1)) n (subst IsUtf8 e (xs ++ es, (u.0, u.1))))

-- or no character follows
pub break_found : (q : ℕ) (xs es vs bytes rest : List ℕ) (at line : ℕ) → IsQuote q → Quoted q xs vs → Slash es → InUtf8 (xs ++ es) bytes → NoCharacter rest
    → quoted_at q (on (q ∷ (bytes ++ rest)) at line) ≡ Err (NotUtf8 (line + feeds bytes))
break_found q xs es vs bytes rest at line h k stop u none = by (scan q body at line h) refl
  where
    body : List ℕ
    body = bytes ++ rest

    p : Place
    p = on (q ∷ body) at line

    l : Left es
    l = slash_left es stop

    text : IsUtf8 bytes
    text = (xs ++ es, (u.0, u.1))

    long : length bytes ≤ body_len q body
    long = (spans q h bytes rest).0 (open_text q (xs ++ es) bytes h u ∙ quoted_open k h es l)

    by : {r : Parsed} → Scan q body at line r → quoted_at q p ≡ r → quoted_at q p ≡ Err (NotUtf8 (line + feeds bytes))
    by (closed cs raw zs b e n v o s) i =
        let x = seam bytes rest raw (q ∷ zs) e (omega (arith, long, n)) in
        absurd (no_mark bytes x.0 q zs text (subst IsUtf8 x.1 (cs, (v.0, v.1))) (quote_low q h) (subst NoCharacter x.2 none))
    by (unclosed cs v o) i = absurd (no_seam bytes rest text none (cs, (v.0, v.1)))
    by (spoilt cs front zs e v o n) i =
        let size : length front ≡ length bytes = omega (arith, from_seam front zs (cs, (v.0, v.1)) n, from_seam bytes rest text none, ap utf8_valid_len e) in
        let same : front ≡ bytes = sym (take_at front zs (length bytes) size) ∙ ap (λ us. take (length bytes) us) (sym e) ∙ take_at bytes rest (length bytes) refl in
        i ∙ ap (λ t. Err (cond t (NotUtf8 (line + feeds front)) (BadToken line)))
        (ap (λ cs. may_go_on (fold step named.nothing cs)) (codes_same cs (xs ++ es) front bytes v u same) ∙ (leaves k es l).tests may_go_on (λ v. refl, λ v. refl) ∙ slash_goes es stop)
        ∙ ap (λ us. Err (NotUtf8 (line + feeds us))) same

abbrev IsRefused : {A : Type 0} → Result A Fault → Type 0
IsRefused r = (f : Fault) × (r ≡ Err f)

both : {A : Type 0} (r : Result A Fault) (x : A) → IsRefused r → r ≡ Ok x → ⊥
both r x (f, e) h = cc

unless : {A : Type 0} (r : Result A Fault) → ((x : A) → r ≡ Ok x → ⊥) → IsRefused r
unless (Ok x) n = absurd (n x refl)
unless (Err f) n = (f, refl)

none : (p : Place) → IsRefused (token_at p) → NoToken p.rest
none p r bytes t rest b = let x = found p bytes t rest b in both (token_at p) x.0 r x.1

pub no_token_is_refused : (p : Place) → ((f : Fault) × (token_at p ≡ Err f)) ↔ NoToken p.rest
no_token_is_refused p = (none p, λ n. unless (token_at p) (λ x e. let s = sound p x e in n s.0 _ x.1.rest s.1))

-- and so behind blanks
pub no_next_is_refused : (p : Place) → ((f : Fault) × (lexeme_at p ≡ Err f)) ↔ NoNext p
no_next_is_refused p = (no_next, λ n. unless (lexeme_at p) (λ l e. let x = finding.parts p l e in both (token_at x.0) x.1 ((no_token_is_refused x.0).1 (n x.0 ((skipped_is_blank p x.0).0 x.2))) x.3))
  where
    no_next : IsRefused (lexeme_at p) → NoNext p
    no_next r q passed = none q (unless (token_at q) (λ x e. both (lexeme_at p) (standing q x) r (ap (λ s. s >>= lexeme_from) ((skipped_is_blank p q).1 passed) ∙ ap (λ s. s >>= λ x. Ok (standing q x)) e)))

abbrev Read : Type 0
Read = Result (Token × Place) Fault

here : (line : ℕ) → line ≡ line + 0
here line = omega arith

-- where a quote comes first
quote_token : (q : ℕ) (bs : List ℕ) (at line : ℕ) (f : Fault) → IsQuote q → quoted_at q (on (q ∷ bs) at line) ≡ Err f → token_at (on (q ∷ bs) at line) ≡ Err f
quote_token q bs at line f (inl e) = subst (λ q. quoted_at q (on (q ∷ bs) at line) ≡ Err f → token_at (on (q ∷ bs) at line) ≡ Err f) (sym e) (λ h. ap (λ r. r >>= λ y. Ok (token.atom y.0, y.1)) h)
quote_token q bs at line f (inr e) = subst (λ q. quoted_at q (on (q ∷ bs) at line) ≡ Err f → token_at (on (q ∷ bs) at line) ≡ Err f) (sym e) (λ h. ap (λ r. r >>= λ y. Ok (token.text y.0, y.1)) h)

open_cut : {text es : List ℕ} → Unclosed text es → Left es → (at line : ℕ) → token_at (on text at line) ≡ Err (Truncated (line + lines text))
open_cut {es = es} (q, bytes, cs, vs, e, h, k, u) l at line =
    subst (λ text. token_at (on text at line) ≡ Err (Truncated (line + lines text))) (sym e)
    (quote_token q bytes at line (Truncated (line + lines (q ∷ bytes))) h (cut_found q cs es vs bytes at line h k l u ∙ ap (λ n. Err (Truncated (line + n))) (sym (open_lines q bytes h))))

open_break : {front es : List ℕ} → Unclosed front es → Slash es → (rest : List ℕ) → NoCharacter rest → (at line : ℕ) → token_at (on (front ++ rest) at line) ≡ Err (NotUtf8 (line + lines front))
open_break {es = es} (q, bytes, cs, vs, e, h, k, u) s rest n at line =
    subst (λ front. token_at (on (front ++ rest) at line) ≡ Err (NotUtf8 (line + lines front))) (sym e)
    (quote_token q (bytes ++ rest) at line (NotUtf8 (line + lines (q ∷ bytes))) h (break_found q cs es vs bytes rest at line h k s u n ∙ ap (λ n. Err (NotUtf8 (line + n))) (sym (open_lines q bytes h))))

-- bytes beyond ASCII that begin no character
not_lower : (b : ℕ) → 128 ≤ b → (is_lower b ≡ false) × (is_digit b ≡ false)
not_lower b l = (grind (arith, nat_tests), grind (arith, nat_tests))

no_accent : (b : ℕ) (bs : List ℕ) → NoCharacter (b ∷ bs) → eqb b 195 ≡ true → begins is_accented_lower bs ≡ false
no_accent b [] n e = refl
no_accent b (d ∷ ds) n e = false_from_ne_true (is_accented_lower d) (λ i. n.longest 2 (omega arith) (subst (λ b. IsUtf8 (b ∷ d ∷ [])) (sym (eqb-true b 195 e)) (accent_utf8 d i)))

none_begins : (bs : List ℕ) (at line : ℕ) → NoCharacter bs → token_at (on bs at line) ≡ Err (NotUtf8 (line + 0))
none_begins [] at line n = absurd (omega (arith, n.short))
none_begins (b ∷ bs) at line n =
    elim (cases_lt b 128) [
      | inl l ↦ absurd (ascii b bs l n)
      | inr l ↦
          cond_both (is_lower b) _ _ Goes (λ e. absurd (both_ways (is_lower b) (not_lower b l).0 e)) (λ _. cond_both (is_digit b) _ _ Goes (λ e. absurd (both_ways (is_digit b) (not_lower b l).1 e))
          (λ _. cond_both (eqb b 195) _ _ Goes (λ e. cond-false (begins is_accented_lower bs) (word_at p) (foreign_at p) (no_accent b bs n e) ∙ foreign)
          (λ _. cond_both (leb 128 b) _ _ Goes (λ _. foreign) (λ e. absurd (omega (arith, l, leb-false 128 b e))))))
    ]
  where
    p : Place
    p = on (b ∷ bs) at line

    Goes : named.Beginning → Type 0
    Goes k = token_by k p ≡ Err (NotUtf8 (line + 0))

    foreign : foreign_at p ≡ Err (NotUtf8 (line + 0))
    foreign = cond-true (eqb (utf8_valid_len (b ∷ bs)) 0) (Err (NotUtf8 line)) (Err (BadToken line)) (eq-eqb (utf8_valid_len (b ∷ bs)) 0 (utf8_valid_len-IsValidUpTo (b ∷ bs) 0 n)) ∙ ap (λ n. Err (NotUtf8 n)) (here line)

-- what the bytes say is the fault
cut_at : {text : List ℕ} → Cut text → (at line : ℕ) → token_at (on text at line) ≡ Err (Truncated (line + lines text))
cut_at (quoted u) at line = open_cut u (inl refl) at line
cut_at (escape u e) at line = open_cut u (inr e) at line
cut_at s at line = ap (λ n. Err (Truncated n)) (here line)

break_at : {text front : List ℕ} → Breaks text front → (at line : ℕ) → token_at (on text at line) ≡ Err (NotUtf8 (line + lines front))
break_at {front = front} (rest, e, a, n) at line = subst (λ text. token_at (on text at line) ≡ Err (NotUtf8 (line + lines front))) (sym e) (by a)
  where
    by : {front : List ℕ} → Awaits front → token_at (on (front ++ rest) at line) ≡ Err (NotUtf8 (line + lines front))
    by refusals.nothing = none_begins rest at line n
    by (refusals.quoted u) = open_break u (inl refl) rest n at line
    by (slash u) = open_break u (inr refl) rest n at line

bad : (text : List ℕ) (at line : ℕ) → token_at (on text at line) ≡ Err (BadToken line) → Fails text line (BadToken line)
bad text at line h =
    bad_token (λ c. let no : ◌≡◌ {A = Read} (Err (Truncated (line + lines text))) (Err (BadToken line)) = sym (cut_at c at line) ∙ h in cc)
    (λ front b. let no : ◌≡◌ {A = Read} (Err (NotUtf8 (line + lines front))) (Err (BadToken line)) = sym (break_at b at line) ∙ h in cc)

-- and a fault is what the bytes say
never : {A : Type 0} (x : Token × Place) (f : Fault) → ◌≡◌ {A = Read} (Ok x) (Err f) → A
never x f e = cc

same : (g f : Fault) → ◌≡◌ {A = Read} (Err g) (Err f) → f ≡ g
same g f e = cc

abbrev Told : List ℕ → ℕ → Fault → Read → Type 0
Told text line f r = r ≡ Err f → Says text line f

other : (text : List ℕ) (line : ℕ) (f : Fault) → Told text line f (Err (BadToken line))
other text line f e = inr (inr (same (BadToken line) f e))

short : (text : List ℕ) (line : ℕ) (f : Fault) → Cut text → lines text ≡ 0 → Told text line f (Err (Truncated line))
short text line f c n e = inl (same (Truncated line) f e ∙ ap (λ n. Truncated n) (omega (arith, n)), c)

a_pair : (b c d : ℕ) (bs : List ℕ) (at line : ℕ) (t : Token) (f : Fault) → Cut (c ∷ []) → lines (c ∷ []) ≡ 0 → eqb b c ≡ true → Told (b ∷ bs) line f (pair_on d t bs (on (b ∷ bs) at line))
a_pair b c d [] at line t f k n e = subst (λ b. Told (b ∷ []) line f (Err (Truncated line))) (sym (eqb-true b c e)) (short (c ∷ []) line f k n)
a_pair b c d (y ∷ ys) at line t f k n e = cond_both (eqb y d) _ _ (Told (b ∷ y ∷ ys) line f) (λ _. never _ f) (λ _. other (b ∷ y ∷ ys) line f)

no_number : (p : Place) (m k : ℕ) (text : List ℕ) (line : ℕ) (f : Fault) → Told text line f (number_by p m k)
no_number p m k text line f = cond_both (eqb k 0) _ _ (Told text line f) (λ _. never _ f) (λ _. never _ f)

a_minus : (b : ℕ) (bs : List ℕ) (at line : ℕ) (f : Fault) → eqb b 45 ≡ true → Told (b ∷ bs) line f (number_at (on (b ∷ bs) at line) 1)
a_minus b [] at line f e = subst (λ b. Told (b ∷ []) line f (Err (Truncated line))) (sym (eqb-true b 45 e)) (short (45 ∷ []) line f minus refl)
a_minus b (y ∷ ys) at line f e =
    let p = on (b ∷ y ∷ ys) at line in
    let n = prefix_len is_digit (y ∷ ys) in
    cond_both (eqb n 0) _ _ (Told p.rest line f) (λ _. cond_both (eqb (length p.rest) 1) _ _ (Told p.rest line f) (λ i. absurd (omega (arith, eqb-true (length (b ∷ y ∷ ys)) 1 i))) (λ _. other p.rest line f))
    (λ _. no_number p (1 + n) (fraction_len (drop (1 + n) p.rest)) p.rest line f)

a_digit : (b : ℕ) (bs : List ℕ) (at line : ℕ) (f : Fault) → is_digit b ≡ true → Told (b ∷ bs) line f (number_at (on (b ∷ bs) at line) 0)
a_digit b bs at line f e =
    let p = on (b ∷ bs) at line in
    let n = prefix_len is_digit (b ∷ bs) in
    cond_both (eqb n 0) _ _ (Told p.rest line f) (λ i. absurd (omega (arith, cond-true (is_digit b) (1 + prefix_len is_digit bs) 0 e, eqb-true n 0 i)))
    (λ _. no_number p (0 + n) (fraction_len (drop (0 + n) p.rest)) p.rest line f)

none_valid : (b : ℕ) (bs : List ℕ) → utf8_valid_len (b ∷ bs) ≡ 0 → NoCharacter (b ∷ bs)
none_valid b bs e = by (to_seam (b ∷ bs) (λ i. absurd (omega (arith, e, i))))
  where
    by : Seam (b ∷ bs) → NoCharacter (b ∷ bs)
    by ([], rest, i, v, n, m) = subst NoCharacter (sym i) n
    by (c ∷ cs, rest, i, v, n, m) = absurd (omega (arith, e, m))

a_foreign : (b : ℕ) (bs : List ℕ) (at line : ℕ) (f : Fault) → Told (b ∷ bs) line f (foreign_at (on (b ∷ bs) at line))
a_foreign b bs at line f =
    cond_both (eqb (utf8_valid_len (b ∷ bs)) 0) _ _ (Told (b ∷ bs) line f)
    (λ e g. inr (inl ([], same (NotUtf8 line) f g ∙ ap (λ n. NotUtf8 n) (here line), (b ∷ bs, refl, refusals.nothing, none_valid b bs (eqb-true (utf8_valid_len (b ∷ bs)) 0 e)))))
    (λ _. other (b ∷ bs) line f)

pub err_from : {A B : Type 0} (r : Result A Fault) (g : A → B) (f : Fault) → (r >>= λ x. Ok (g x)) ≡ Err f → r ≡ Err f
err_from (Ok x) g f h = cc
err_from (Err e) g f h = let same : e ≡ f = cc in ap (λ e. Err e) same

a_quote : (q : ℕ) (make : Body → Token) (b : ℕ) (bs : List ℕ) (at line : ℕ) (f : Fault) → IsQuote q → eqb b q ≡ true → Told (b ∷ bs) line f (quoted_at q (on (b ∷ bs) at line) >>= λ y. Ok (make y.0, y.1))
a_quote q make b bs at line f h e =
    subst (λ b. Told (b ∷ bs) line f (quoted_at q (on (b ∷ bs) at line) >>= λ y. Ok (make y.0, y.1))) (sym (eqb-true b q e))
    (λ g. says q bs at line f h (err_from (quoted_at q (on (q ∷ bs) at line)) (λ y. (make y.0, y.1)) f g))

-- by the first byte
by_byte : (b : ℕ) (bs : List ℕ) (at line : ℕ) (f : Fault) → Told (b ∷ bs) line f (token_by (kind_of b) (on (b ∷ bs) at line))
by_byte b bs at line f =
    pick (is_lower b) _ _ (λ _. never _ f) (pick (is_digit b) _ _ (a_digit b bs at line f)
    (pick (eqb b 195) _ _ (λ _. cond_both (begins is_accented_lower bs) _ _ (Told (b ∷ bs) line f) (λ _. never _ f) (λ _. a_foreign b bs at line f)) (pick (leb 128 b) _ _ (λ _. a_foreign b bs at line f)
    (pick (eqb b 123) _ _ (λ _. never _ f) (pick (eqb b 125) _ _ (λ _. never _ f) (pick (eqb b 91) _ _ (λ _. never _ f) (pick (eqb b 93) _ _ (λ _. never _ f)
    (pick (eqb b 44) _ _ (λ _. never _ f) (pick (eqb b 124) _ _ (λ _. never _ f)
    (pick (eqb b 46) _ _ (λ _. cond_both (ends bs) _ _ (Told (b ∷ bs) line f) (λ _. never _ f) (λ _. other (b ∷ bs) line f))
    (pick (eqb b 39) _ _ (a_quote 39 token.atom b bs at line f (inl refl)) (pick (eqb b 34) _ _ (a_quote 34 token.text b bs at line f (inr refl))
    (pick (eqb b 45) _ _ (a_minus b bs at line f) (pick (eqb b 58) _ _ (λ _. never _ f) (pick (eqb b 47) _ _ (λ _. never _ f) (pick (eqb b 40 || eqb b 41) _ _ (λ _. never _ f)
    (pick (eqb b 35) _ _ (a_pair b 35 123 bs at line _ f hash refl) (pick (eqb b 60) _ _ (a_pair b 60 60 bs at line _ f less refl)
    (pick (eqb b 61) _ _ (a_pair b 61 62 bs at line _ f equals refl) (pick (eqb b 62) _ _ (a_pair b 62 62 bs at line _ f greater refl) (other (b ∷ bs) line f)))))))))))))))))))))
  where
    pick : (t : Bool) (k l : named.Beginning) → (t ≡ true → Told (b ∷ bs) line f (token_by k (on (b ∷ bs) at line)))
        → Told (b ∷ bs) line f (token_by l (on (b ∷ bs) at line)) → Told (b ∷ bs) line f (token_by (cond t k l) (on (b ∷ bs) at line))
    pick t k l g h = cond_both t k l (λ k. Told (b ∷ bs) line f (token_by k (on (b ∷ bs) at line))) g (λ _. h)

fails : (text : List ℕ) (at line : ℕ) (f : Fault) → token_at (on text at line) ≡ Err f → Fails text line f
fails text at line f h = by (said text h)
  where
    said : (text : List ℕ) → token_at (on text at line) ≡ Err f → Says text line f
    said [] h = short [] line f refusals.nothing refl h
    said (b ∷ bs) h = by_byte b bs at line f h

    by : Says text line f → Fails text line f
    by (inl (e, c)) = subst (Fails text line) (sym e) (truncated c)
    by (inr (inl (front, e, b))) = subst (Fails text line) (sym e) (not_utf8 b)
    by (inr (inr e)) = subst (Fails text line) (sym e) (bad text at line (h ∙ ap (λ f. Err f) e))

neither : {text : List ℕ} {line : ℕ} {f : Fault} (r : Read) → (Cut text → ⊥) → ((front : List ℕ) → Breaks text front → ⊥) → Fails text line f → r ≡ Err f → r ≡ Err (BadToken line)
neither r c b (truncated k) e = absurd (c k)
neither r c b (not_utf8 {front = front} k) e = absurd (b front k)
neither r c b (bad_token d k) e = e

refused : {text : List ℕ} {line : ℕ} {f : Fault} → NoToken text → Fails text line f → (at : ℕ) → token_at (on text at line) ≡ Err f
refused {line = line} n (truncated c) at = cut_at c at line
refused {line = line} n (not_utf8 b) at = break_at b at line
refused {text = text} {line = line} n (bad_token c b) at =
    let r = (no_token_is_refused (on text at line)).1 n in
    neither (token_at (on text at line)) c b (fails text at line r.0 r.1) r.1

pub fails_by_its_bytes : (p : Place) (f : Fault) → (token_at p ≡ Err f) ↔ (NoToken p.rest × Fails p.rest p.line f)
fails_by_its_bytes p f = (λ e. ((no_token_is_refused p).0 (f, e), fails p.rest p.at p.line f e), λ x. refused x.0 x.1 p.at)
