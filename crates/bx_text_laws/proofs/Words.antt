-- Bare atoms, and the word `fun`.
use Rattle.std.proofs.Common.{◌≡◌, ◌≢◌, ℕ, ◌+◌, ◌-◌, ◌/◌, ◌%◌, ◌≤◌, ◌<◌, Bool, true, false, cond, eqb, ltb, List, [], ◌∷◌, ◌++◌, take, drop, length, Result, Ok, Err, refl, sym, ap, ◌∙◌, subst, arith, codes, append_assoc, take_at, length-append, length-drop, inl, inr, bytes_eq, encode_utf8_all, IsUtf8}
use Rattle.std.specs.List.{AllByRecursion}
use Rattle.std.specs.Str.{all_scalars}
use Rattle.std.specs.Char.{encode_utf8, IsScalar}
use Rattle.std.proofs.lemmas.Str.{encode_ascii, IsUtf8-encode}
use Rattle.std.proofs.lemmas.Slice.Eq.{bytes_eq-Decides}
use Rattle.std.proofs.lemmas.Bool.{eqb-true, and_from, cases_lt, cond-true, cond-false, cond_both, false_from_ne_true, both_ways}
use Rattle.std.proofs.lemmas.Bool.Decides.{nat_tests}
use Rattle.std.proofs.Math.Utf8.{low_scalar}
use Rattle.std.specs.Str.Lossy.{utf8_valid_len}
use Rattle.bx_terms.specs.declared.faults.Fault.{Fault, TheVariants.NotUtf8, TheVariants.BadToken}
use Rattle.bx_text.specs.Bytes.{begins, is_lower, is_name, is_accented, is_accented_lower}
use Rattle.bx_text.specs.Place.{Place, after}
use Rattle.bx_text.specs.Named as named
use Rattle.bx_text.specs.Token as token
use Rattle.bx_text.specs.Token.{Token}
use Rattle.bx_text.specs.Lexing.{kind_of, token_by, token_at, name_len, accent_len, word, word_at, accent_at, foreign_at}
use Rattle.bx_text_laws.specs.Characters.{IsSmall, IsNameCharacter}
use Rattle.bx_text_laws.specs.Spelling.{Spelling, InUtf8, the_word_fun, bare_atom}
use Rattle.bx_text_laws.specs.Tokens.{lines, meant}
use Rattle.bx_text_laws.proofs.Frame.{on, Spelled, Found, spelled_on, lines-append}

-- characters of names and their bytes
name_low : (b : ℕ) → is_name b ≡ true → b < 128
name_low b e = grind (arith, nat_tests)

name_character : (b : ℕ) → is_name b ≡ true → IsNameCharacter b
name_character b e = grind (arith, nat_tests)

name_line : (b : ℕ) → is_name b ≡ true → eqb b 10 ≡ false
name_line b e = grind (arith, nat_tests)

accent_character : (b : ℕ) → is_accented b ≡ true → IsNameCharacter (b + 64)
accent_character b e = inr (inr (inr (inr (inr ((grind (arith, nat_tests), grind (arith, nat_tests)), grind (arith, nat_tests), grind (arith, nat_tests))))))

pub accent_bytes : (c : ℕ) → 192 ≤ c → c ≤ 255 → encode_utf8 c ≡ 195 ∷ (c - 64) ∷ []
unfolding encode_utf8
accent_bytes c l h =
    let long : ltb c 128 ≡ false = grind (arith, nat_tests) in
    let short : ltb c 2048 ≡ true = grind (arith, nat_tests) in
    let high : 192 + c / 64 ≡ 195 = omega arith in
    let low : 128 + c % 64 ≡ c - 64 = omega arith in
    rw (long, short, high, low) refl

accent_range : (b : ℕ) → is_accented b ≡ true → (192 ≤ b + 64) × (b + 64 ≤ 255)
accent_range b e = (grind (arith, nat_tests), grind (arith, nat_tests))

accented : (b : ℕ) → is_accented b ≡ true → encode_utf8 (b + 64) ≡ 195 ∷ b ∷ []
accented b e = let range = accent_range b e in let back : (b + 64) - 64 ≡ b = omega arith in accent_bytes (b + 64) range.0 range.1 ∙ ap (λ d. 195 ∷ d ∷ []) back

lower_accent : (b : ℕ) → is_accented_lower b ≡ true → is_accented b ≡ true
lower_accent b e = grind (arith, nat_tests)

accent_scalar : (c : ℕ) → c ≤ 255 → IsScalar c
accent_scalar c l = grind arith

pub accent_utf8 : (b : ℕ) → is_accented_lower b ≡ true → IsUtf8 (195 ∷ b ∷ [])
accent_utf8 b e = let is = lower_accent b e in subst IsUtf8 (accented b is) (IsUtf8-encode (b + 64) (accent_scalar (b + 64) (accent_range b is).1))

-- the bytes of a character in a name
ascii_class : (c : ℕ) → c < 192 → IsNameCharacter c → is_name c ≡ true
ascii_class c l h = grind (arith, nat_tests)

accent_class : (c : ℕ) → 192 ≤ c → IsNameCharacter c → is_accented (c - 64) ≡ true
accent_class c l h = grind (arith, nat_tests)

name_most : (c : ℕ) → IsNameCharacter c → c ≤ 255
name_most c h = grind arith

high_line : (c : ℕ) → 192 ≤ c → eqb (c - 64) 10 ≡ false
high_line c h = grind (arith, nat_tests)

abbrev Letters : List ℕ → Type 0
Letters ws = ((X : List ℕ) → name_len (ws ++ X) ≡ length ws + name_len X) × (lines ws ≡ 0)

letters : (c : ℕ) → IsNameCharacter c → Letters (encode_utf8 c)
letters c h =
    elim (cases_lt c 192) [
      | inl l ↦ let is = ascii_class c l h in subst Letters (sym (encode_ascii c (name_low c is))) (λ X. cond-true (is_name c) (1 + name_len X) _ is, cond-false (eqb c 10) 1 0 (name_line c is))
      | inr l ↦ subst Letters (sym (accent_bytes c l (name_most c h))) (λ X. cond-true (is_accented (c - 64)) (2 + name_len X) 0 (accent_class c l h), cond-false (eqb (c - 64) 10) 1 0 (high_line c l))
    ]

pub name_take : (cs rest : List ℕ) → AllByRecursion IsNameCharacter cs → name_len (encode_utf8_all cs ++ rest) ≡ length (encode_utf8_all cs) + name_len rest
name_take [] rest a = omega arith
name_take (c ∷ cs) rest (h, a) =
    ap (λ us. name_len us) (append_assoc (encode_utf8 c) (encode_utf8_all cs) rest)
    ∙ omega (arith, (letters c h).0 (encode_utf8_all cs ++ rest), name_take cs rest a, length-append (encode_utf8 c) (encode_utf8_all cs))

-- the longest name
abbrev NameSplit : List ℕ → ℕ → Type 0
NameSplit bs n = (cs zs : List ℕ) × (bs ≡ encode_utf8_all cs ++ zs) × AllByRecursion IsNameCharacter cs × (all_scalars cs ≡ true) × (n ≡ length (encode_utf8_all cs)) × (lines (encode_utf8_all cs) ≡ 0)

no_name : (bs : List ℕ) → NameSplit bs 0
no_name bs = ([], bs, refl, tt, refl, refl, refl)

letter_split : (c : ℕ) (ws bs : List ℕ) (n : ℕ) → IsNameCharacter c → encode_utf8 c ≡ ws → NameSplit bs n → NameSplit (ws ++ bs) (length ws + n)
letter_split c ws bs n h w (cs, zs, e, a, s, m, l) =
    let more : List ℕ = encode_utf8_all cs in (
      c ∷ cs,
      zs,
      ap (λ us. ws ++ us) e ∙ sym (append_assoc ws more zs) ∙ ap (λ us. (us ++ more) ++ zs) (sym w),
      (h, a),
      and_from _ _ (low_scalar c (omega (arith, name_most c h))) s,
      omega (arith, m, ap length w, length-append (encode_utf8 c) more),
      omega (arith, l, (letters c h).1, lines-append (encode_utf8 c) more),
    )

mutual
  pub name_split : (bs : List ℕ) → NameSplit bs (name_len bs)
  name_split [] = no_name []
  name_split (b ∷ bs) =
      cond_both (is_name b) _ _ (NameSplit (b ∷ bs)) (λ e. letter_split b (b ∷ []) bs (name_len bs) (name_character b e) (encode_ascii b (name_low b e)) (name_split bs))
      (λ _. cond_both (eqb b 195) _ _ (NameSplit (b ∷ bs)) (λ e. subst (λ b. NameSplit (b ∷ bs) (accent_len bs)) (sym (eqb-true b 195 e)) (accent_split bs)) (λ _. no_name (b ∷ bs)))

  accent_split : (bs : List ℕ) → NameSplit (195 ∷ bs) (accent_len bs)
  accent_split [] = no_name (195 ∷ [])
  accent_split (b ∷ bs) =
      cond_both (is_accented b) _ _ (NameSplit (195 ∷ b ∷ bs)) (λ e. letter_split (b + 64) (195 ∷ b ∷ []) bs (name_len bs) (accent_character b e) (accented b e) (name_split bs))
      (λ _. no_name (195 ∷ b ∷ bs))

name_le : (bs : List ℕ) → name_len bs ≤ length bs
name_le bs = let s = name_split bs in omega (arith, s.5, ap length s.2, length-append (encode_utf8_all s.0) s.1)

-- what is taken as a word is one
a_word : (c : ℕ) (cs bytes zs : List ℕ) (at line : ℕ) (x : Token × Place) → IsSmall c → AllByRecursion IsNameCharacter cs → InUtf8 (c ∷ cs) bytes → lines bytes ≡ 0 → name_len (bytes ++ zs) ≡ length bytes
    → word_at (on (bytes ++ zs) at line) ≡ Ok x → Spelled (on (bytes ++ zs) at line) x
a_word c cs bytes zs at line x small a utf8 l e h =
    cond_both (bytes_eq bytes (codes "fun")) _ _ (λ (t : Token). ◌≡◌ {A = Result (Token × Place) Fault} (Ok (t, after (on (bytes ++ zs) at line) n)) (Ok x) → Spelled (on (bytes ++ zs) at line) x)
    (λ is. spelled_on bytes zs at line n named.the_word_fun x (subst (λ ws. Spelling ws named.the_word_fun) (sym ((bytes_eq-Decides bytes (codes "fun")).0 is)) the_word_fun) (λ e. cc) l e)
    (λ is. spelled_on bytes zs at line n (token.atom (token.plain bytes)) x
    (bare_atom c cs small a utf8 (λ same. both_ways (bytes_eq bytes (codes "fun")) is ((bytes_eq-Decides bytes (codes "fun")).1 same))) (λ e. cc) l e)
    (subst (λ w. ◌≡◌ {A = Result (Token × Place) Fault} (Ok (word w, after (on (bytes ++ zs) at line) n)) (Ok x)) (take_at bytes zs n (sym e)) h)
  where
    n : ℕ
    n = name_len (bytes ++ zs)

pub small_name : (c : ℕ) → IsSmall c → IsNameCharacter c
small_name c h = grind arith

small_word : (c : ℕ) (bs : List ℕ) (at line : ℕ) (x : Token × Place) → IsSmall c → word_at (on (encode_utf8 c ++ bs) at line) ≡ Ok x → Spelled (on (encode_utf8 c ++ bs) at line) x
small_word c bs at line x small =
    let s = name_split bs in
    let name = small_name c small in
    let first = letters c name in
    let more : List ℕ = encode_utf8_all s.0 in
    let text : encode_utf8 c ++ bs ≡ (encode_utf8 c ++ more) ++ s.1 = ap (λ us. encode_utf8 c ++ us) s.2 ∙ sym (append_assoc (encode_utf8 c) more s.1) in
    let count : name_len ((encode_utf8 c ++ more) ++ s.1) ≡ length (encode_utf8 c ++ more) = ap (λ us. name_len us) (sym text) ∙ omega (arith, first.0 bs, s.5, length-append (encode_utf8 c) more) in
    subst (λ us. word_at (on us at line) ≡ Ok x → Spelled (on us at line) x) (sym text)
    (a_word c s.0 (encode_utf8 c ++ more) s.1 at line x small s.3 (and_from _ _ (low_scalar c (omega (arith, name_most c name))) s.4, refl) (omega (arith, first.1, s.6, lines-append (encode_utf8 c) more)) count)

small_letter : (b : ℕ) → is_lower b ≡ true → IsSmall b
small_letter b e = inl (grind (arith, nat_tests), grind (arith, nat_tests))

lower_name : (b : ℕ) → is_lower b ≡ true → is_name b ≡ true
lower_name b e = grind (arith, nat_tests)

pub a_letter : (b : ℕ) (bs : List ℕ) (at line : ℕ) (x : Token × Place) → is_lower b ≡ true → word_at (on (b ∷ bs) at line) ≡ Ok x → Spelled (on (b ∷ bs) at line) x
a_letter b bs at line x is = subst (λ ws. word_at (on (ws ++ bs) at line) ≡ Ok x → Spelled (on (ws ++ bs) at line) x) (encode_ascii b (name_low b (lower_name b is))) (small_word b bs at line x (small_letter b is))

small_accent : (b : ℕ) → is_accented_lower b ≡ true → IsSmall (b + 64)
small_accent b e = inr ((grind (arith, nat_tests), grind (arith, nat_tests)), grind (arith, nat_tests))

pub no_foreign : (t : Bool) (line : ℕ) (x : Token × Place) → cond {A = Result (Token × Place) Fault} t (Err (NotUtf8 line)) (Err (BadToken line)) ≡ Ok x → ⊥
no_foreign true line x h = cc
no_foreign false line x h = cc

pub an_accent : (b : ℕ) (bs : List ℕ) (at line : ℕ) (x : Token × Place) → eqb b 195 ≡ true → accent_at (on (b ∷ bs) at line) ≡ Ok x → Spelled (on (b ∷ bs) at line) x
an_accent b [] at line x is h = absurd (no_foreign (eqb (utf8_valid_len (b ∷ [])) 0) line x h)
an_accent b (d ∷ ds) at line x is h =
    cond_both (is_accented_lower d) _ _ (λ (r : Result (Token × Place) Fault). r ≡ Ok x → Spelled (on (b ∷ d ∷ ds) at line) x)
    (λ e. subst (λ ws. word_at (on (ws ++ ds) at line) ≡ Ok x → Spelled (on (ws ++ ds) at line) x) (accented d (lower_accent d e) ∙ ap (λ b. b ∷ d ∷ []) (sym (eqb-true b 195 is)))
    (small_word (d + 64) ds at line x (small_accent d e)))
    (λ _ g. absurd (no_foreign (eqb (utf8_valid_len (b ∷ d ∷ ds)) 0) line x g)) h

-- what is spelled as a word is taken
small_lower : (c : ℕ) → c < 192 → IsSmall c → is_lower c ≡ true
small_lower c l h = grind (arith, nat_tests)

small_accented : (c : ℕ) → 192 ≤ c → IsSmall c → is_accented_lower (c - 64) ≡ true
small_accented c l h = grind (arith, nat_tests)

letter_first : (c : ℕ) (p : Place) → is_lower c ≡ true → token_by (kind_of c) p ≡ word_at p
letter_first c p is = rw is refl

accent_first : (p : Place) (b : ℕ) (bs : List ℕ) → is_accented_lower b ≡ true → drop 1 p.rest ≡ b ∷ bs → accent_at p ≡ word_at p
accent_first p b bs is e = ap (λ (t : Bool). cond t (word_at p) (foreign_at p)) (ap (λ ws. begins is_accented_lower ws) e ∙ is)

pub first_small : (c : ℕ) (X : List ℕ) (at line : ℕ) → IsSmall c → token_at (on (encode_utf8 c ++ X) at line) ≡ word_at (on (encode_utf8 c ++ X) at line)
first_small c X at line h =
    elim (cases_lt c 192) [
      | inl l ↦
          let is = small_lower c l h in
          subst (λ ws. token_at (on (ws ++ X) at line) ≡ word_at (on (ws ++ X) at line)) (sym (encode_ascii c (name_low c (lower_name c is)))) (letter_first c (on (c ∷ X) at line) is)
      | inr l ↦
          subst (λ ws. token_at (on (ws ++ X) at line) ≡ word_at (on (ws ++ X) at line)) (sym (accent_bytes c l (name_most c (small_name c h))))
          (accent_first (on (195 ∷ (c - 64) ∷ X) at line) (c - 64) X (small_accented c l h) refl)
    ]

word_found : (bytes rest : List ℕ) (at line : ℕ) (t : Token) → token_at (on (bytes ++ rest) at line) ≡ word_at (on (bytes ++ rest) at line) → name_len (bytes ++ rest) ≡ length bytes + name_len rest
    → meant (word bytes) ≡ t → Found (on (bytes ++ rest) at line) t rest
word_found bytes rest at line t is count m =
    let text : List ℕ = bytes ++ rest in
    let n : ℕ = name_len text in
    let all : length text ≡ length bytes + length rest = length-append bytes rest in (
      (word (take n text), after (on text at line) n),
      is,
      omega (arith, count, all, length-drop n text),
      λ e. ap (λ w. meant (word w)) (take_at bytes rest n (omega (arith, count, e, all, length-drop n text, name_le rest))) ∙ m,
    )

pub word_taken : (c : ℕ) (cs bytes rest : List ℕ) (at line : ℕ) → IsSmall c → AllByRecursion IsNameCharacter cs → InUtf8 (c ∷ cs) bytes
    → (token_at (on (bytes ++ rest) at line) ≡ word_at (on (bytes ++ rest) at line)) × (name_len (bytes ++ rest) ≡ length bytes + name_len rest)
word_taken c cs bytes rest at line small a (s, e) = (
  subst (λ ws. token_at (on (ws ++ rest) at line) ≡ word_at (on (ws ++ rest) at line)) e
      (subst (λ ws. token_at (on ws at line) ≡ word_at (on ws at line)) (sym (append_assoc (encode_utf8 c) (encode_utf8_all cs) rest)) (first_small c (encode_utf8_all cs ++ rest) at line small)),
  subst (λ ws. name_len (ws ++ rest) ≡ length ws + name_len rest) e (name_take (c ∷ cs) rest (small_name c small, a)),
)

pub no_fun : (bytes : List ℕ) → bytes ≢ codes "fun" → meant (word bytes) ≡ token.atom (token.plain bytes)
no_fun bytes other = ap (λ t. meant (cond t named.the_word_fun (token.atom (token.plain bytes)))) (false_from_ne_true (bytes_eq bytes (codes "fun")) (λ e. other ((bytes_eq-Decides bytes (codes "fun")).0 e)))

pub atom_found : (c : ℕ) (cs bytes rest : List ℕ) (at line : ℕ) → IsSmall c → AllByRecursion IsNameCharacter cs → InUtf8 (c ∷ cs) bytes → bytes ≢ codes "fun"
    → Found (on (bytes ++ rest) at line) (token.atom (token.plain bytes)) rest
atom_found c cs bytes rest at line small a u other = let t = word_taken c cs bytes rest at line small a u in word_found bytes rest at line (token.atom (token.plain bytes)) t.0 t.1 (no_fun bytes other)

pub fun_found : (rest : List ℕ) (at line : ℕ) → Found (on (codes "fun" ++ rest) at line) named.the_word_fun rest
fun_found rest at line = word_found (codes "fun") rest at line named.the_word_fun refl (omega arith) refl
