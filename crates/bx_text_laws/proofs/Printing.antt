-- What is printed of an integer or an atom is taken as the same one, where a delimiter follows.
use Rattle.std.proofs.Common.{◌≡◌, ◌≢◌, ℕ, zero, suc, ◌+◌, ◌*◌, ◌/◌, ◌%◌, ◌≤◌, ◌<◌, Bool, true, false, not, eqb, ◌&&◌, ◌||◌, List, [], ◌∷◌, ◌++◌, take, drop, length, refl, sym, ap, ◌∙◌, subst, arith, codes, append_assoc, append-nil, drop_at, take_at, length-append, ◌⊎◌, inl, inr, chars, IsUtf8, encode_utf8_all}
use Rattle.std.specs.Prelude.{nat_lt}
use Rattle.std.specs.List.{list_all, prefix_len, flat_map, AllByRecursion}
use Rattle.std.specs.Char.{encode_utf8}
use Rattle.std.specs.Fmt.{digits, digit_glyph}
use Rattle.std.specs.Str.{all_scalars}
use Rattle.std.proofs.lemmas.Bool.{cases_lt, eqb-true, eqb-false, ltb-true, ltb-false, and_parts, and_from, not-true, both_ways, cond_both}
use Rattle.std.proofs.lemmas.Bool.Decides.{nat_tests}
use Rattle.std.proofs.lemmas.Fmt.{hex_one_digit, hex_two_digits}
use Rattle.std.proofs.lemmas.Str.{encode_ascii, encodes-append, encodes-chars, scalars-chars}
use Rattle.std.proofs.Math.Utf8.{low_scalar}
use Rattle.bx_terms.specs.AtomText.{is_name_byte, is_reserved, is_bare, by_code, printed_atom}
use Rattle.bx_terms.specs.AtomText as atoms
use Rattle.bx_text.specs.Bytes.{is_digit}
use Rattle.bx_text.specs.Number.{number}
use Rattle.bx_text.specs.Place.{after}
use Rattle.bx_text.specs.Token as token
use Rattle.bx_text.specs.Lexing.{fraction_len, name_len, word}
use Rattle.bx_text.specs.Printed.{digits_within}
use Rattle.bx_text_laws.specs.Characters.{IsSmall, IsNameCharacter}
use Rattle.bx_text_laws.specs.Numerals.{Digit, Numeral, one_digit, digit_more}
use Rattle.bx_text_laws.specs.Quoted as quoted
use Rattle.bx_text_laws.specs.Quoted.{Quoted, Named, IsOther, line_feed, carriage_return, tab}
use Rattle.bx_text_laws.specs.Spelling.{Minus, InUtf8}
use Rattle.bx_text_laws.specs.Tokens.{meant}
use Rattle.bx_text_laws.proofs.Frame.{on}
use Rattle.bx_text_laws.proofs.NumbersFound.{integer_reads}
use Rattle.bx_text_laws.proofs.Words.{word_taken, no_fun}
use Rattle.bx_text_laws.proofs.Readings.{no_octal_is}
pub use Rattle.bx_text_laws.proofs.Quotes.{Exactly}
use Rattle.bx_text_laws.proofs.Quotes.{atom_quoting, quote_exact}

-- no digit, name character or fraction begins
pub record Delimits (rest : List ℕ) : Type 0 where
  pub digits : prefix_len is_digit rest ≡ 0
  pub fraction : fraction_len rest ≡ 0
  pub name : name_len rest ≡ 0

-- integers
digit_is : (n : ℕ) → n < 10 → Digit 10 (48 + n) n
digit_is n h = (h, inl (refl, h))

pub decimal_is : (k n : ℕ) → n < k → Numeral 10 (digits_within k n) n
unfolding digits_within
decimal_is zero n h = absurd (omega arith)
decimal_is (suc k) n h = by (nat_lt n 10) refl (λ low. decimal_is k (n / 10) low)
  where
    tens : 10 * (n / 10) + n % 10 ≡ n
    tens = omega arith

    by : (t : Bool) → nat_lt n 10 ≡ t → (n / 10 < k → Numeral 10 (digits_within k (n / 10)) (n / 10))
        → Numeral 10 (elim t [ true ↦ (48 + n) ∷ [] | false ↦ digits_within k (n / 10) ++ (48 + n % 10) ∷ [] ]) n
    by true e more = one_digit (digit_is n (ltb-true n 10 e))
    by false e more =
        let long : 10 ≤ n = ltb-false n 10 e in
        let left : n % 10 < 10 = omega arith in
        subst (Numeral 10 (digits_within k (n / 10) ++ (48 + n % 10) ∷ [])) tens (digit_more (more (omega arith)) (digit_is (n % 10) left))

pub numeral_exact : {front : List ℕ} → Minus front → (ds rest : List ℕ) → list_all is_digit ds ≡ true → 0 < length ds → Delimits rest → Exactly (front ++ ds) (token.integer (number (front ++ ds))) rest
numeral_exact {front} mi ds rest a l d at line =
    let left : drop (length front + length ds) ((front ++ ds) ++ rest) ≡ rest = drop_at (front ++ ds) rest (length front + length ds) (length-append front ds) in
    rw (append_assoc front ds rest) (_, _, integer_reads mi ds rest at line a l d.digits d.fraction, rw (append_assoc front ds rest) at left, refl)

-- bare atoms
pub word_exact : (c : ℕ) (cs bytes rest : List ℕ) → IsSmall c → AllByRecursion IsNameCharacter cs → InUtf8 (c ∷ cs) bytes → bytes ≢ codes "fun" → Delimits rest → Exactly bytes (token.atom (token.plain bytes)) rest
word_exact c cs bytes rest small a u other d at line =
    let text : List ℕ = bytes ++ rest in
    let t = word_taken c cs bytes rest at line small a u in
    let count : name_len text ≡ length bytes = omega (arith, t.1, d.name) in (
      word (take (name_len text) text),
      after (on text at line) (name_len text),
      t.0,
      ap (λ n. drop n text) count ∙ drop_at bytes rest (length bytes) refl,
      ap (λ n. meant (word (take n text))) count ∙ ap (λ w. meant (word w)) (take_at bytes rest (length bytes) refl) ∙ no_fun bytes other,
    )

bare_character : (b : ℕ) → is_name_byte b ≡ true → IsNameCharacter b
bare_character b e = grind (arith, nat_tests)

bare_low : (b : ℕ) → is_name_byte b ≡ true → b < 128
bare_low b e = grind (arith, nat_tests)

bare_small : (b : ℕ) → atoms.is_lower b ≡ true → IsSmall b
bare_small b e = inl (grind (arith, nat_tests), grind (arith, nat_tests))

bare_text : (bs : List ℕ) → list_all is_name_byte bs ≡ true → AllByRecursion IsNameCharacter bs × InUtf8 bs bs
bare_text [] a = (tt, (refl, refl))
bare_text (b ∷ bs) a =
    let both = and_parts (is_name_byte b) (list_all is_name_byte bs) a in
    let low : b < 128 = bare_low b both.0 in
    let more = bare_text bs both.1 in
    ((bare_character b both.0, more.0), (and_from _ _ (low_scalar b (omega arith)) more.1.0, ap (λ ws. ws ++ encode_utf8_all bs) (encode_ascii b low) ∙ ap (λ ws. b ∷ ws) more.1.1))

bare_exact : (w rest : List ℕ) → is_bare w ≡ true → Delimits rest → Exactly w (token.atom (token.plain w)) rest
bare_exact [] rest e d = cc
bare_exact (b ∷ bs) rest e d =
    let first = and_parts (atoms.is_lower b && list_all is_name_byte (b ∷ bs)) (not (is_reserved (b ∷ bs))) e in
    let names = and_parts (atoms.is_lower b) (list_all is_name_byte (b ∷ bs)) first.0 in
    let text = bare_text (b ∷ bs) names.1 in
    word_exact b bs (b ∷ bs) rest (bare_small b names.0) text.0.1 text.1 (λ is. both_ways (is_reserved (b ∷ bs)) (not-true (is_reserved (b ∷ bs)) first.1) (ap is_reserved is)) d

-- quoted atoms: the characters that are written for one, and what they say
abbrev Written : ℕ → List ℕ → Type 0
Written c bytes =
    (src : List ℕ) × InUtf8 src bytes × ((cs vs : List ℕ) → Quoted 39 cs vs → Quoted 39 (src ++ cs) (c ∷ vs))

pub ascii_utf8 : (bs : List ℕ) → AllByRecursion (λ b. b < 128) bs → InUtf8 bs bs
ascii_utf8 [] a = (refl, refl)
ascii_utf8 (b ∷ bs) (low, a) =
    let more = ascii_utf8 bs a in
    (and_from _ _ (low_scalar b (omega arith)) more.0, ap (λ ws. ws ++ encode_utf8_all bs) (encode_ascii b low) ∙ ap (λ ws. b ∷ ws) more.1)

pair_utf8 : (b : ℕ) → b < 128 → InUtf8 (92 ∷ b ∷ []) (92 ∷ b ∷ [])
pair_utf8 b low = ascii_utf8 (92 ∷ b ∷ []) (omega arith, (low, tt))

unnamed : {c v : ℕ} → Named c v → (c ≡ 39) ⊎ (c ≡ 92) → ⊥
unnamed s h = grind arith

quote_other : IsOther 39
quote_other = (λ x. unnamed x.1 (inl refl), no_octal_is 39 refl, λ e. omega arith, λ e. omega arith)

slash_other : IsOther 92
slash_other = (λ x. unnamed x.1 (inr refl), no_octal_is 92 refl, λ e. omega arith, λ e. omega arith)

other_written : (c : ℕ) → c < 128 → IsOther c → Written c (92 ∷ c ∷ [])
other_written c low h = (92 ∷ c ∷ [], pair_utf8 c low, λ cs vs k. quoted.other h k)

named_written : (c n : ℕ) → n < 128 → Named n c → Written c (92 ∷ n ∷ [])
named_written c n low h = (92 ∷ n ∷ [], pair_utf8 n low, λ cs vs k. quoted.named h k)

-- codes of control characters
glyph_digit : (x : ℕ) → x < 16 → Digit 16 (digit_glyph false x) x
glyph_digit x h = (h, grind (arith, nat_tests))

glyph_low : (x : ℕ) → x < 16 → digit_glyph false x < 128
glyph_low x h = grind (arith, nat_tests)

abbrev Code : ℕ → List ℕ → Type 0
Code c ds = Numeral 16 ds c × AllByRecursion (λ b. b < 128) ds

code_written : (c : ℕ) → c < 256 → Code c (digits 16 false c)
code_written c h =
    let low : c % 16 < 16 = omega arith in
    let high : c / 16 < 16 = omega arith in
    let value : 16 * (c / 16) + c % 16 ≡ c = omega arith in
    elim (cases_lt c 16) [
      | inl l ↦ subst (Code c) (sym (hex_one_digit false c l)) (one_digit (glyph_digit c l), (glyph_low c l, tt))
      | inr l ↦
          subst (Code c) (sym (hex_two_digits false c l h)) (
            subst (Numeral 16 (digit_glyph false (c / 16) ∷ digit_glyph false (c % 16) ∷ [])) value (digit_more (one_digit (glyph_digit (c / 16) high)) (glyph_digit (c % 16) low)),
            (glyph_low (c / 16) high, (glyph_low (c % 16) low, tt)),
          )
    ]

all_low_append : (xs ys : List ℕ) → AllByRecursion (λ b. b < 128) xs → AllByRecursion (λ b. b < 128) ys → AllByRecursion (λ b. b < 128) (xs ++ ys)
all_low_append [] ys a b = b
all_low_append (x ∷ xs) ys (l, a) b = (l, all_low_append xs ys a b)

braced_written : (c : ℕ) → c < 128 → Written c (by_code c)
braced_written c h =
    let ds : List ℕ = digits 16 false c in
    let code = code_written c (omega arith) in (
      92 ∷ 120 ∷ 123 ∷ (ds ++ 125 ∷ []),
      ascii_utf8 (92 ∷ 120 ∷ 123 ∷ (ds ++ 125 ∷ [])) (omega arith, (omega arith, (omega arith, all_low_append ds (125 ∷ []) code.1 (omega arith, tt)))),
      λ cs vs k. subst (λ us. Quoted 39 (92 ∷ 120 ∷ 123 ∷ us) (c ∷ vs)) (sym (append_assoc ds (125 ∷ []) cs)) (quoted.braced code.0 (low_scalar c (omega arith)) k),
    )

plain_written : (c : ℕ) → all_scalars (c ∷ []) ≡ true → eqb c 39 ≡ false → eqb c 92 ≡ false → Written c (encode_utf8 c)
plain_written c s e f = (c ∷ [], (s, append-nil (encode_utf8 c)), λ cs vs k. quoted.itself (eqb-false c 39 e) (eqb-false c 92 f) k)

control_code : (c : ℕ) → (nat_lt c 32 || eqb c 127) ≡ true → c < 128
control_code c e = grind (arith, nat_tests)

written : (c : ℕ) → all_scalars (c ∷ []) ≡ true → Written c (atoms.escaped c)
written c s =
    cond_both (eqb c 39) _ _ (Written c) (λ e. at 39 _ e (other_written 39 (omega arith) quote_other))
    (λ a. cond_both (eqb c 92) _ _ (Written c) (λ e. at 92 _ e (other_written 92 (omega arith) slash_other))
    (λ b. cond_both (eqb c 10) _ _ (Written c) (λ e. at 10 _ e (named_written 10 110 (omega arith) line_feed))
    (λ _. cond_both (eqb c 13) _ _ (Written c) (λ e. at 13 _ e (named_written 13 114 (omega arith) carriage_return))
    (λ _. cond_both (eqb c 9) _ _ (Written c) (λ e. at 9 _ e (named_written 9 116 (omega arith) tab))
    (λ _. cond_both (nat_lt c 32 || eqb c 127) _ _ (Written c) (λ e. braced_written c (control_code c e)) (λ _. plain_written c s a b))))))
  where
    at : (d : ℕ) (bytes : List ℕ) → eqb c d ≡ true → Written d bytes → Written c bytes
    at d bytes e w = subst (λ c. Written c bytes) (sym (eqb-true c d e)) w

abbrev AllWritten : List ℕ → List ℕ → Type 0
AllWritten cs bytes = (src : List ℕ) × InUtf8 src bytes × Quoted 39 src cs

pub scalars_append : (xs ys : List ℕ) → all_scalars xs ≡ true → all_scalars ys ≡ true → all_scalars (xs ++ ys) ≡ true
scalars_append [] ys a b = b
scalars_append (x ∷ xs) ys a b = let both = and_parts _ (all_scalars xs) a in and_from _ (all_scalars (xs ++ ys)) both.0 (scalars_append xs ys both.1 b)

all_written : (cs : List ℕ) → all_scalars cs ≡ true → AllWritten cs (flat_map atoms.escaped cs)
all_written [] s = ([], (refl, refl), quoted.none)
all_written (c ∷ cs) s =
    let both = and_parts _ (all_scalars cs) s in
    let x = written c (and_from _ true both.0 refl) in
    let y = all_written cs both.1 in
    (x.0 ++ y.0, (scalars_append x.0 y.0 x.1.0 y.1.0, encodes-append x.0 y.0 ∙ ap (λ us. us ++ encode_utf8_all y.0) x.1.1 ∙ ap (λ us. atoms.escaped c ++ us) y.1.1), x.2 y.0 cs y.2)

quoted_exact : (w rest : List ℕ) → IsUtf8 w → Exactly (atoms.quoted w) (token.atom (token.plain w)) rest
quoted_exact w rest utf8 =
    let a = all_written (chars w) (scalars-chars w utf8) in
    subst (λ v. Exactly (atoms.quoted w) (token.atom (token.plain v)) rest) (encodes-chars w utf8) (quote_exact 39 token.atom atom_quoting a.0 (chars w) (flat_map atoms.escaped (chars w)) rest a.2 a.1)

pub atom_exact : (w rest : List ℕ) → IsUtf8 w → Delimits rest → Exactly (printed_atom w) (token.atom (token.plain w)) rest
atom_exact w rest utf8 d = cond_both (is_bare w) w (atoms.quoted w) (λ bytes. Exactly bytes (token.atom (token.plain w)) rest) (λ e. bare_exact w rest e d) (λ _. quoted_exact w rest utf8)
