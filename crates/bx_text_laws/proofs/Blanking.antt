-- What is skipped: all blanks that stand there, up to a comment that is no text in UTF-8.
use Rattle.bx_text_laws.proofs.Commons.{◌≡◌, ◌≢◌, ℕ, ◌+◌, Bool, true, false, cond, eqb, ◌↔◌, List, [], ◌∷◌, ◌++◌, drop, length, Ok, Err, refl, sym, ap, ◌∙◌, subst, arith, append_assoc, add-zero, ◌⊎◌, inl}
use Rattle.bx_text_laws.proofs.Commons.{inr, drop_at, take_at, length-append, IsUtf8, AllByRecursion, prefix_len, is_utf8, eq-eqb, ne_eqb, both_ways, cases_Bool, cases_eq, cases_lt, nat_tests}
use Rattle.bx_text_laws.proofs.Commons.{utf8_valid_len-IsUtf8, IsUtf8-from_is_utf8, is_utf8-from_IsUtf8, NotUtf8, is_space, is_not_feed, Place, skip, skip_from, line_of, ok_same, IsSpace, Blank, nothing}
use Rattle.bx_text_laws.proofs.Commons.{comment, LineEnds, NoBlank, Passes, Spoilt, lines, Stands}
use Rattle.std.specs.Str.Lossy.{utf8_valid_len}
use Rattle.bx_text.proofs.Skipping.{line_skipped}
use Rattle.bx_text_laws.specs.Blanks.{space}
use Rattle.bx_text_laws.proofs.Frame.{on, lines-append}
use Rattle.bx_text.proofs.Texts.{valid_is}

abbrev NoFeed : List ℕ → Type 0
NoFeed text = AllByRecursion (λ b. b ≢ 10) text

-- a comment begins that is no text in UTF-8
abbrev Spoils : List ℕ → Type 0
Spoils bs = (text rest : List ℕ) × (bs ≡ 37 ∷ (text ++ rest)) × NoFeed text × LineEnds rest × (IsUtf8 text → ⊥)

-- the blanks in front
abbrev Split : List ℕ → Type 0
Split bs = (bytes rest : List ℕ) × (bs ≡ bytes ++ rest) × Blank bytes rest × (NoBlank rest ⊎ Spoils rest)

-- the same behind the inside of a comment
abbrev Inside : List ℕ → Type 0
Inside bs = (text rest : List ℕ) × (bs ≡ text ++ rest) × NoFeed text × LineEnds rest × Split rest

at_comment : (bs : List ℕ) → Inside bs → Split (37 ∷ bs)
at_comment bs (text, ends, e, a, l, (bytes, rest, f, k, r)) =
    elim (cases_Bool (is_utf8 text)) [
      | inl u ↦ (37 ∷ (text ++ bytes), rest, ap (λ us. 37 ∷ us) (e ∙ ap (λ us. text ++ us) f ∙ sym (append_assoc text bytes rest)), comment text (a, IsUtf8-from_is_utf8 text u) (subst LineEnds f l) k, r)
      | inr u ↦ ([], 37 ∷ bs, refl, nothing, inr (text, ends, ap (λ us. 37 ∷ us) e, a, l, λ v. both_ways (is_utf8 text) u (is_utf8-from_IsUtf8 text v)))
    ]

at_byte : (b : ℕ) (bs : List ℕ) → Split bs → Inside bs → Split (b ∷ bs)
at_byte b bs (bytes, rest, e, k, r) i =
    elim (cases_lt 32 b) [
      | inr s ↦ (b ∷ bytes, rest, ap (λ us. b ∷ us) e, space s k, r)
      | inl s ↦ elim (cases_eq b 37) [ inl c ↦ rw c (at_comment bs i) | inr c ↦ ([], b ∷ bs, refl, nothing, inl (λ t. omega arith, c)) ]
    ]

in_byte : (b : ℕ) (bs : List ℕ) → Split bs → Inside bs → Inside (b ∷ bs)
in_byte b bs (bytes, rest, e, k, r) (text, ends, f, a, l, s) =
    elim (cases_eq b 10) [
      | inl feed ↦ ([], b ∷ bs, refl, tt, feed, (b ∷ bytes, rest, ap (λ us. b ∷ us) e, space (omega arith) k, r))
      | inr c ↦ (b ∷ text, ends, ap (λ us. b ∷ us) f, (c, a), l, s)
    ]

sides : (bs : List ℕ) → Split bs × Inside bs
sides [] = (([], [], refl, nothing, inl tt), ([], [], refl, tt, tt, ([], [], refl, nothing, inl tt)))
sides (b ∷ bs) = let s = sides bs in (at_byte b bs s.0 s.1, in_byte b bs s.0 s.1)

-- the inside of a comment
line_len : (text rest : List ℕ) → NoFeed text → LineEnds rest → prefix_len is_not_feed (text ++ rest) ≡ length text
line_len [] [] a e = refl
line_len [] (r ∷ rs) a e = rw e refl
line_len (t ∷ text) rest (n, a) e = rw (ne_eqb t 10 n) (omega (arith, line_len text rest a e))

line_is : (text rest : List ℕ) → NoFeed text → LineEnds rest → line_of (text ++ rest) ≡ text
line_is text rest a e = take_at text rest (prefix_len is_not_feed (text ++ rest)) (sym (line_len text rest a e))

text_lines : (text : List ℕ) → NoFeed text → lines text ≡ 0
text_lines [] a = refl
text_lines (t ∷ text) (n, a) = rw (ne_eqb t 10 n) (text_lines text a)

pub not_line : (b : ℕ) → is_space b ≡ false → eqb b 10 ≡ false
not_line b e = grind (arith, nat_tests)

pub tests_by : (b : ℕ) (bs : List ℕ) (at line : ℕ) (f s : Bool) → eqb b 37 ≡ false → eqb b 10 ≡ f → is_space b ≡ s
    → skip_from (b ∷ bs) at line ≡ cond f (skip_from bs (at + 1) (line + 1)) (cond s (skip_from bs (at + 1) line) (Ok (on (b ∷ bs) at line)))
tests_by b bs at line f s c ef es = rw (c, ef, es)

-- blanks are skipped
abbrev Gone : List ℕ → List ℕ → Type 0
Gone bytes rest = (at line : ℕ) → skip_from (bytes ++ rest) at line ≡ skip_from rest (at + length bytes) (line + lines bytes)

moved : (rest : List ℕ) (a b c d : ℕ) → a ≡ b → c ≡ d → skip_from rest a c ≡ skip_from rest b d
moved rest a b c d e f = cc

gone_space : (b : ℕ) (bs : List ℕ) (at line : ℕ) → IsSpace b → skip_from (b ∷ bs) at line ≡ skip_from bs (at + 1) (line + lines (b ∷ []))
gone_space b bs at line h =
    let percent : eqb b 37 ≡ false = ne_eqb b 37 (λ e. omega arith) in
    elim (cases_Bool (eqb b 10)) [ inl e ↦ rw (percent, e) | inr e ↦ let spaced : is_space b ≡ true = is_space_from b h in rw (percent, e, spaced, add-zero) ]
  where
    is_space_from : (b : ℕ) → IsSpace b → is_space b ≡ true
    is_space_from b h = grind (arith, nat_tests)

gone_comment : (text rest : List ℕ) (at line : ℕ) → NoFeed text → LineEnds rest → IsUtf8 text → skip_from (37 ∷ (text ++ rest)) at line ≡ skip_from rest (at + (1 + length text)) line
gone_comment text rest at line a l u =
    let Y : List ℕ = text ++ rest in
    let valid : eqb (utf8_valid_len (line_of Y)) (length (line_of Y)) ≡ true = rw (line_is text rest a l) (eq-eqb _ _ (utf8_valid_len-IsUtf8 text u)) in
    rw valid (line_skipped Y (at + 1) line ∙ ap (λ n. skip_from (drop n Y) (at + 1 + n) line) (line_len text rest a l) ∙ ap (λ us. skip_from us (at + 1 + length text) line) (drop_at text rest (length text) refl)
    ∙ moved rest (at + 1 + length text) (at + (1 + length text)) line line (omega arith) refl)

gone : {bytes rest : List ℕ} → Blank bytes rest → Gone bytes rest
gone (nothing {rest = rest}) at line = moved rest at (at + 0) line (line + 0) (omega arith) (omega arith)
gone (space {b = b} {bytes = bytes} {rest = rest} h k) at line =
    gone_space b (bytes ++ rest) at line h ∙ gone k (at + 1) (line + lines (b ∷ [])) ∙ moved rest _ (at + length (b ∷ bytes)) _ (line + lines (b ∷ bytes)) (omega arith) (omega (arith, lines-append (b ∷ []) bytes))
gone (comment text {bytes = bytes} {rest = rest} (a, u) l k) at line =
    ap (λ us. skip_from (37 ∷ us) at line) (append_assoc text bytes rest) ∙ gone_comment text (bytes ++ rest) at line a l u ∙ gone k (at + (1 + length text)) line
    ∙ moved rest _ (at + length (37 ∷ (text ++ bytes))) _ (line + lines (37 ∷ (text ++ bytes))) (omega (arith, length-append text bytes)) (omega (arith, lines-append text bytes, text_lines text a))

up_to : (p q : Place) (bytes : List ℕ) → p.rest ≡ bytes ++ q.rest → Blank bytes q.rest → Stands p bytes q → skip p ≡ skip q
up_to p q bytes e k (a, l) = ap (λ us. skip_from us p.at p.line) e ∙ gone k p.at p.line ∙ moved q.rest _ q.at _ q.line (sym a) (sym l)

-- but for what follows them
no_more : (rest : List ℕ) (at line : ℕ) → NoBlank rest → skip_from rest at line ≡ Ok (on rest at line)
no_more [] at line n = refl
no_more (b ∷ bs) at line (s, p) = let none : is_space b ≡ false = no_space b s in tests_by b bs at line false false (ne_eqb b 37 p) (not_line b none) none
  where
    no_space : (b : ℕ) → (IsSpace b → ⊥) → is_space b ≡ false
    no_space b s = grind (arith, nat_tests)

skips : (p q : Place) → Passes p q → skip p ≡ Ok q
skips p q (bytes, e, k, n, st) = up_to p q bytes e k st ∙ no_more q.rest q.at q.line n

no_text : (text rest : List ℕ) (at line : ℕ) → NoFeed text → LineEnds rest → (IsUtf8 text → ⊥) → skip_from (37 ∷ (text ++ rest)) at line ≡ Err (NotUtf8 line)
no_text text rest at line a l bad =
    let bs = line_of (text ++ rest) in
    let spoilt : eqb (utf8_valid_len bs) (length bs) ≡ false = ne_eqb (utf8_valid_len bs) (length bs) (λ e. bad (subst IsUtf8 (line_is text rest a l) (valid_is bs e))) in
    rw spoilt

pub fails : (p q : Place) → Spoilt p q → skip p ≡ Err (NotUtf8 q.line)
fails p q (bytes, text, rest, t, k, e, a, l, bad, st) = up_to p q bytes t k st ∙ ap (λ us. skip_from us q.at q.line) e ∙ no_text text rest q.at q.line a l bad

-- one of the two
pub went : (p : Place) → ((q : Place) × Passes p q × (skip p ≡ Ok q)) ⊎ ((q : Place) × Spoilt p q × (skip p ≡ Err (NotUtf8 q.line)))
went p =
    let (bytes, rest, e, k, r) = (sides p.rest).0 in
    let q : Place = on rest (p.at + length bytes) (p.line + lines bytes) in
    elim r [
      | inl n ↦ let s : Passes p q = (bytes, e, k, n, (refl, refl)) in inl (q, s, skips p q s)
      | inr x ↦ let (text, ends, f, a, l, bad) = x in let s : Spoilt p q = (bytes, text, ends, e, k, f, a, l, bad, (refl, refl)) in inr (q, s, fails p q s)
    ]

pub skipped_is_blank : (p q : Place) → (skip p ≡ Ok q) ↔ Passes p q
skipped_is_blank p q = (λ h. elim (went p) [ inl x ↦ subst (Passes p) (ok_same x.0 q (sym x.2 ∙ h)) x.1 | inr x ↦ cc ], skips p q)
