-- Quotes that are not closed: what is quoted behind one, and what is left of an escape.
use Rattle.std.proofs.Common.{◌≡◌, ◌≢◌, ◌↔◌, ℕ, suc, ◌+◌, ◌*◌, ◌%◌, ◌≤◌, Bool, true, false, not, eqb, ◌&&◌, List, [], ◌∷◌, ◌++◌, length, refl, sym, ap, ◌∙◌, subst, arith, append_assoc, append-nil, ◌⊎◌, inl, inr}
use Rattle.std.specs.List.{fold}
use Rattle.std.specs.Char.{IsScalar}
use Rattle.std.proofs.lemmas.Bool.{eqb-true, eqb-false, and_parts, and_from, not-true, both_ways, cases_eq, cond-true, cond-false, cond_both}
use Rattle.std.proofs.lemmas.Bool.Decides.{nat_tests}
use Rattle.bx_text.specs.Named as named
use Rattle.bx_text.specs.Named.{Open}
use Rattle.bx_text.specs.Escapes.{digit, is_octal, is_hex, is_control, is_scalar, begins_with, step, is_whole, may_go_on}
use Rattle.bx_text.specs.Escapes as escapes
use Rattle.bx_text.specs.Lexing.{body_len, escaped_len, control_len}
use Rattle.bx_text_laws.specs.Characters.{IsControl}
use Rattle.bx_text_laws.specs.Numerals.{Digit, Numeral, one_digit, digit_more}
use Rattle.bx_text_laws.specs.Quoted as quoted
use Rattle.bx_text_laws.specs.Quoted.{IsQuote, Quoted, Named, IsNamed, NoOctal, backspace, delete, escape, form_feed, line_feed, carriage_return, space, tab, vertical_tab}
use Rattle.bx_text_laws.specs.Refusals.{Unfinished, slash, hex, hex_digit, brace, braced, control}
use Rattle.bx_text_laws.proofs.Free.{free, freed, capped, past_cap}
use Rattle.bx_text_laws.proofs.Escapes.{is_base, counts, below, Same, same_more, scalar_same, scalar_from}
use Rattle.bx_text_laws.proofs.Readings.{hex_plain, hex_uncapped, no_octal_is}

-- no quote closes these: a letter behind them is still between the quotes
abbrev pub then_letter : List ℕ → List ℕ
then_letter bs = bs ++ 97 ∷ []

pub letter : (q : ℕ) → IsQuote q → free q (97 ∷ []) ≡ true
letter q h = and_from (not (eqb 97 q)) true (grind (arith, nat_tests)) refl

pub quote_slash : (q : ℕ) → IsQuote q → q ≢ 92
quote_slash q h e = grind arith

free_past : (q c : ℕ) → eqb c 92 ≡ false → (zs : List ℕ) → free q (c ∷ zs) ≡ (not (eqb c q) && free q zs)
free_past q c e zs = cond-false (eqb c 92) _ _ e

free_escape : (q c : ℕ) → eqb c 92 ≡ true → (zs : List ℕ) → free q (c ∷ zs) ≡ freed q zs
free_escape q c e zs = cond-true (eqb c 92) _ _ e

no_slash : (c d : ℕ) → d ≢ 92 → eqb c d ≡ true → eqb c 92 ≡ false
no_slash c d n e = grind (arith, nat_tests)

one_more : {x y : Bool} {k n : ℕ} → x ≡ y → (y ≡ true) ↔ (k ≤ n) → (x ≡ true) ↔ (suc k ≤ 1 + n)
one_more e h = (λ f. let l = h.0 (sym e ∙ f) in omega (arith, l), λ l. e ∙ h.1 (omega (arith, l)))

no_more : {x : Bool} {k : ℕ} → x ≡ false → (x ≡ true) ↔ (suc k ≤ 0)
no_more {x = x} e = (λ f. absurd (both_ways x e f), λ l. absurd (omega (arith, l)))

mutual
  pub spans : (q : ℕ) → IsQuote q → (bs zs : List ℕ) → (free q (then_letter bs) ≡ true) ↔ (length bs ≤ body_len q (bs ++ zs))
  spans q h [] zs = (λ f. omega arith, λ l. letter q h)
  spans q h (b ∷ bs) zs =
      cond_both (eqb b q) _ _ (λ m. (free q (b ∷ then_letter bs) ≡ true) ↔ (suc (length bs) ≤ m))
      (λ e. no_more (free_past q b (no_slash b q (quote_slash q h) e) (then_letter bs) ∙ ap (λ t. not t && free q (then_letter bs)) e))
      (λ e. cond_both (eqb b 92) _ _ (λ m. (free q (b ∷ then_letter bs) ≡ true) ↔ (suc (length bs) ≤ m)) (λ i. one_more (free_escape q b i (then_letter bs)) (spans_slash q h bs zs))
      (λ i. one_more (free_past q b i (then_letter bs) ∙ ap (λ t. not t && free q (then_letter bs)) e) (spans q h bs zs)))

  spans_slash : (q : ℕ) → IsQuote q → (bs zs : List ℕ) → (freed q (then_letter bs) ≡ true) ↔ (length bs ≤ escaped_len q (bs ++ zs))
  spans_slash q h [] zs = (λ f. omega arith, λ l. refl)
  spans_slash q h (b ∷ bs) zs =
      cond_both (eqb b 94) _ _ (λ m. (freed q (b ∷ then_letter bs) ≡ true) ↔ (suc (length bs) ≤ m)) (λ e. one_more (cond-true (eqb b 94) _ _ e) (spans_control q h bs zs))
      (λ e. one_more (past_cap q b (then_letter bs) e) (spans q h bs zs))

  spans_control : (q : ℕ) → IsQuote q → (bs zs : List ℕ) → (capped q (then_letter bs) ≡ true) ↔ (length bs ≤ control_len q (bs ++ zs))
  spans_control q h [] zs = (λ f. omega arith, λ l. letter q h)
  spans_control q h (b ∷ bs) zs =
      cond_both (eqb b q) _ _ (λ m. (capped q (b ∷ then_letter bs) ≡ true) ↔ (suc (length bs) ≤ m)) (λ e. no_more (ap (λ t. not t && free q (then_letter bs)) e))
      (λ e. one_more (ap (λ t. not t && free q (then_letter bs)) e) (spans q h bs zs))

-- what is left of an escape
abbrev pub Left : List ℕ → Type 0
Left es = (es ≡ []) ⊎ Unfinished es

-- characters as far as they are quoted, and what is left of them where e is open behind them: any character may follow a
-- backslash, and nothing else that is left is whole
pub record Parts (q : ℕ) (e : Open) (cs : List ℕ) : Type 0 where
  pub front : List ℕ
  pub rest : List ℕ
  pub codes : List ℕ
  pub is : cs ≡ front ++ rest
  pub quoted : Quoted q front codes
  pub left : (rest ≡ []) ⊎ (Unfinished rest × (is_whole e ≡ false) × (may_go_on e ≡ true → rest ≡ 92 ∷ []))

none_left : {q : ℕ} {e : Open} → Parts q e []
none_left = record { front = []; rest = []; codes = []; is = refl; quoted = quoted.none; left = inl refl }

some_left : {q : ℕ} {e : Open} {es : List ℕ} → Unfinished es → is_whole e ≡ false → (may_go_on e ≡ true → es ≡ 92 ∷ []) → Parts q e es
some_left {es = es} u w m = record { front = []; rest = es; codes = []; is = refl; quoted = quoted.none; left = inr (u, w, m) }

-- what stands for one character, before them
before : {q : ℕ} {e : Open} {cs : List ℕ} (v : ℕ) (g : List ℕ → List ℕ) → ((xs es : List ℕ) → g (xs ++ es) ≡ g xs ++ es)
    → ((xs es vs : List ℕ) → cs ≡ xs ++ es → Quoted q xs vs → Quoted q (g xs) (v ∷ vs)) → Parts q e cs → Parts q e (g cs)
before v g over make k = record { front = g k.front; rest = k.rest; codes = v ∷ k.codes; is = ap g k.is ∙ over k.front k.rest; quoted = make k.front k.rest k.codes k.is k.quoted; left = k.left }

octal_before : {q : ℕ} {e : Open} {cs : List ℕ} (ds : List ℕ) (v : ℕ) → Numeral 8 ds v → length ds ≤ 3 → (length ds ≡ 3) ⊎ NoOctal cs → Parts q e cs → Parts q e (92 ∷ (ds ++ cs))
octal_before {cs = cs} ds v n l m = before v (λ xs. 92 ∷ (ds ++ xs)) (λ xs es. ap (λ us. 92 ∷ us) (sym (append_assoc ds xs es))) (λ xs es vs x k. quoted.octal n l (front m xs es x) k)
  where
    front : (length ds ≡ 3) ⊎ NoOctal cs → (xs es : List ℕ) → cs ≡ xs ++ es → (length ds ≡ 3) ⊎ NoOctal xs
    front (inl e) xs es x = inl e
    front (inr n) [] es x = inr tt
    front (inr n) (y ∷ ys) es x = inr (subst NoOctal x n)

braced_before : {q : ℕ} {e : Open} {cs : List ℕ} (ds : List ℕ) (v : ℕ) → Numeral 16 ds v → IsScalar v → Parts q e cs → Parts q e (92 ∷ 120 ∷ 123 ∷ (ds ++ 125 ∷ cs))
braced_before ds v n s = before v (λ xs. 92 ∷ 120 ∷ 123 ∷ (ds ++ 125 ∷ xs)) (λ xs es. ap (λ us. 92 ∷ 120 ∷ 123 ∷ us) (sym (append_assoc ds (125 ∷ xs) es))) (λ xs es vs x k. quoted.braced n s k)

-- behind a backslash a letter, or any other character
not_named : {c v : ℕ} → Named c v → c ≢ 98 → c ≢ 100 → c ≢ 101 → c ≢ 102 → c ≢ 110 → c ≢ 114 → c ≢ 115 → c ≢ 116 → c ≢ 118 → ⊥
not_named s a b d e f g h i j = grind arith

or_named : {R : Type 0} (c d v : ℕ) → Named d v → (c ≢ d → IsNamed c ⊎ R) → IsNamed c ⊎ R
or_named c d v n other = elim (cases_eq c d) [ inl e ↦ inl (v, subst (λ c. Named c v) (sym e) n) | inr a ↦ other a ]

name_or : (c : ℕ) → IsNamed c ⊎ (IsNamed c → ⊥)
name_or c =
    or_named c 98 8 backspace (λ a. or_named c 100 127 delete (λ b. or_named c 101 27 escape (λ d. or_named c 102 12 form_feed (λ e. or_named c 110 10 line_feed (λ f.
    or_named c 114 13 carriage_return (λ g. or_named c 115 32 space (λ h. or_named c 116 9 tab (λ i. or_named c 118 11 vertical_tab (λ j. inr (λ x. not_named x.1 a b d e f g h i j))))))))))

named_before : {q : ℕ} {o : Open} {cs : List ℕ} (c : ℕ) → is_octal c ≡ false → eqb c 120 ≡ false → eqb c 94 ≡ false → Parts q o cs → Parts q o (92 ∷ c ∷ cs)
named_before c o x y ps =
    elim (name_or c) [
      | inl n ↦ before n.0 (λ xs. 92 ∷ c ∷ xs) (λ xs es. refl) (λ xs es vs i k. quoted.named n.1 k) ps
      | inr n ↦ before c (λ xs. 92 ∷ c ∷ xs) (λ xs es. refl) (λ xs es vs i k. quoted.other (n, no_octal_is c o, eqb-false c 120 x, eqb-false c 94 y) k) ps
    ]

-- characters by their class
a_digit : (b c : ℕ) → b ≤ 16 → is_base b c ≡ true → Digit b c (digit c)
a_digit b c l e = let small = below b c e in (small, counts c (omega arith))

octal_hex : (c : ℕ) → is_octal c ≡ true → is_hex c ≡ true
octal_hex c e = grind (arith, nat_tests)

no_cap : (c : ℕ) → eqb c 120 ≡ true → eqb c 94 ≡ false
no_cap c e = grind (arith, nat_tests)

control_from : (c : ℕ) → is_control c ≡ true → IsControl c
control_from c e = grind (arith, nat_tests)

-- what is bad stays so
bad_stays : (cs : List ℕ) → fold step named.bad cs ≡ named.bad
bad_stays [] = refl
bad_stays (c ∷ cs) = bad_stays cs

-- where s is open before cs, and what is open behind them is good
record Way (good : Open → Bool) (q : ℕ) (within : List ℕ → Bool) (s : Open) (cs text : List ℕ) : Type 0 where
  go : within (then_letter cs) ≡ true → good (fold step s cs) ≡ true → Parts q (fold step s cs) text

-- each state in which characters can stand, with what stands before them
record Ways (good : Open → Bool) (q : ℕ) (cs : List ℕ) : Type 0 where
  plain : Way good q (free q) named.nothing cs cs
  octal : (a v : ℕ) → Numeral 8 (a ∷ []) v → Way good q (free q) (named.octal_digit v) cs (92 ∷ a ∷ cs)
  octals : (a b v : ℕ) → Numeral 8 (a ∷ b ∷ []) v → Way good q (free q) (named.octal_digits v) cs (92 ∷ a ∷ b ∷ cs)
  slash : Way good q (freed q) named.backslash cs (92 ∷ cs)
  hex : Way good q (free q) named.hex cs (92 ∷ 120 ∷ cs)
  one : (a v : ℕ) → Digit 16 a v → Way good q (free q) (named.hex_digit v) cs (92 ∷ 120 ∷ a ∷ cs)
  brace : Way good q (free q) named.brace cs (92 ∷ 120 ∷ 123 ∷ cs)
  braced : (ds : List ℕ) (v n : ℕ) → Numeral 16 ds n → Same v n → Way good q (free q) (named.braced v) cs (92 ∷ 120 ∷ 123 ∷ (ds ++ cs))
  control : Way good q (capped q) named.control cs (92 ∷ 94 ∷ cs)

at_end : (good : Open → Bool) (q : ℕ) → Ways good q []
at_end good q =
    record {
      plain = record { go = λ f g. none_left };
      octal = λ a v n. record { go = λ f g. octal_before (a ∷ []) v n (omega arith) (inr tt) none_left };
      octals = λ a b v n. record { go = λ f g. octal_before (a ∷ b ∷ []) v n (omega arith) (inr tt) none_left };
      slash = record { go = λ f g. some_left slash refl (λ m. refl) };
      hex = record { go = λ f g. some_left hex refl (λ m. cc) };
      one = λ a v d. record { go = λ f g. some_left (hex_digit d) refl (λ m. cc) };
      brace = record { go = λ f g. some_left brace refl (λ m. cc) };
      braced = λ ds v n k s. record { go = λ f g. subst (λ us. Parts q (named.braced v) (92 ∷ 120 ∷ 123 ∷ us)) (sym (append-nil ds)) (some_left (braced k) refl (λ m. cc)) };
      control = record { go = λ f g. some_left control refl (λ m. cc) };
    }

ways_on : (good : Open → Bool) (q : ℕ) → IsQuote q → good named.bad ≡ false → (c : ℕ) (cs : List ℕ) → Ways good q cs → Ways good q (c ∷ cs)
ways_on good q h n c cs ways =
    record {
      plain = plain;
      octal = λ a v k. cond_both (is_octal c) _ _ (Led (free q) (named.octal_digit v) (92 ∷ a ∷ c ∷ cs)) (λ o. over_hex (octal_hex c o) (ways.octals a c (8 * v + digit c) (digit_more k (a_digit 8 c (omega arith) o))))
          (λ o. ended (a ∷ []) v k (omega arith) o) refl;
      octals = λ a b v k. cond_both (is_octal c) _ _ (Led (free q) (named.octal_digits v) (92 ∷ a ∷ b ∷ c ∷ cs))
          (λ o. over_hex (octal_hex c o) (further (octal_before (a ∷ b ∷ c ∷ []) (8 * v + digit c) (digit_more k (a_digit 8 c (omega arith) o)) (omega arith) (inl refl))))
          (λ o. ended (a ∷ b ∷ []) v k (omega arith) o) refl;
      slash = cond_both (is_octal c) _ _ (Led (freed q) named.backslash (92 ∷ c ∷ cs)) (λ o. past (hex_uncapped c (octal_hex c o)) (ways.octal c (digit c) (one_digit (a_digit 8 c (omega arith) o))))
          (λ o. cond_both (eqb c 120) _ _ (Led (freed q) named.backslash (92 ∷ c ∷ cs)) (λ x. past (no_cap c x) (subst (λ c. Way good q (free q) named.hex cs (92 ∷ c ∷ cs)) (sym (eqb-true c 120 x)) ways.hex))
          (λ x. cond_both (eqb c 94) _ _ (Led (freed q) named.backslash (92 ∷ c ∷ cs))
          (λ y. on true (λ zs. cond-true (eqb c 94) _ _ y) (λ _. subst (λ c. Way good q (capped q) named.control cs (92 ∷ c ∷ cs)) (sym (eqb-true c 94 y)) ways.control))
          (λ y. past y (further (named_before c o x y))))) refl;
      hex = cond_both (eqb c 123) _ _ (Led (free q) named.hex (92 ∷ 120 ∷ c ∷ cs))
          (λ i. over (no_slash c 123 (λ e. omega (arith, e)) i) (subst (λ c. Way good q (free q) named.brace cs (92 ∷ 120 ∷ c ∷ cs)) (sym (eqb-true c 123 i)) ways.brace))
          (λ _. cond_both (is_hex c) _ _ (Led (free q) named.hex (92 ∷ 120 ∷ c ∷ cs)) (λ i. over_hex i (ways.one c (digit c) (a_digit 16 c (omega arith) i))) (λ _. off)) refl;
      one = λ a v d. cond_both (is_hex c) _ _ (Led (free q) (named.hex_digit v) (92 ∷ 120 ∷ a ∷ c ∷ cs))
          (λ i. over_hex i (further (before (16 * v + digit c) (λ xs. 92 ∷ 120 ∷ a ∷ c ∷ xs) (λ xs es. refl)
          (λ xs es vs x k. quoted.hex {ds = a ∷ c ∷ []} (digit_more (one_digit d) (a_digit 16 c (omega arith) i)) refl k))))
          (λ _. off) refl;
      brace = cond_both (is_hex c) _ _ (Led (free q) named.brace (92 ∷ 120 ∷ 123 ∷ c ∷ cs))
          (λ i. over_hex i (ways.braced (c ∷ []) (digit c) (digit c) (one_digit (a_digit 16 c (omega arith) i)) (inl refl))) (λ _. off) refl;
      braced = λ ds v n k s. cond_both (is_hex c) _ _ (Led (free q) (named.braced v) (92 ∷ 120 ∷ 123 ∷ (ds ++ c ∷ cs)))
          (λ i. over_hex i (subst (λ us. Way good q (free q) (named.braced (escapes.braced v (digit c))) cs (92 ∷ 120 ∷ 123 ∷ us)) (append_assoc ds (c ∷ []) cs)
          (ways.braced (ds ++ c ∷ []) (escapes.braced v (digit c)) (16 * n + digit c) (digit_more k (a_digit 16 c (omega arith) i)) (same_more v n (digit c) (below 16 c i) s))))
          (λ _. cond_both (eqb c 125 && is_scalar v) _ _ (Led (free q) (named.braced v) (92 ∷ 120 ∷ 123 ∷ (ds ++ c ∷ cs)))
          (λ i. let both = and_parts (eqb c 125) (is_scalar v) i in
          over (no_slash c 125 (λ e. omega (arith, e)) both.0)
          (subst (λ c. Way good q (free q) named.nothing cs (92 ∷ 120 ∷ 123 ∷ (ds ++ c ∷ cs))) (sym (eqb-true c 125 both.0))
          (further (braced_before ds n k (subst IsScalar (scalar_same v n s both.1) (scalar_from v both.1))))))
          (λ _. off)) refl;
      control = cond_both (is_control c) _ _ (Led (capped q) named.control (92 ∷ 94 ∷ c ∷ cs))
          (λ i. on (not (eqb c q)) (λ zs. refl) (λ _. further (before (c % 32) (λ xs. 92 ∷ 94 ∷ c ∷ xs) (λ xs es. refl) (λ xs es vs x k. quoted.control (control_from c i) k))))
          (λ _. off) refl;
    }
  where
    -- where c leads to this state
    Led : (List ℕ → Bool) → Open → List ℕ → Open → Type 0
    Led within s text t = step s c ≡ t → Way good q within s (c ∷ cs) text

    on : {within behind : List ℕ → Bool} {s t : Open} {text : List ℕ} (ok : Bool) → ((zs : List ℕ) → within (c ∷ zs) ≡ (ok && behind zs))
        → (ok ≡ true → Way good q behind t cs text) → step s c ≡ t → Way good q within s (c ∷ cs) text
    on {behind = behind} {text = text} ok same way e =
        record {
          go = λ f g. let both = and_parts ok (behind (then_letter cs)) (sym (same (then_letter cs)) ∙ f) in
              subst (λ t. Parts q (fold step t cs) text) (sym e) ((way both.0).go both.1 (ap (λ t. good (fold step t cs)) (sym e) ∙ g));
        }

    off : {within : List ℕ → Bool} {s : Open} {text : List ℕ} → step s c ≡ named.bad → Way good q within s (c ∷ cs) text
    off e = record { go = λ f g. absurd (both_ways (good named.bad) n (sym (ap (λ t. good (fold step t cs)) e ∙ ap good (bad_stays cs)) ∙ g)) }

    over : {s t : Open} {text : List ℕ} → eqb c 92 ≡ false → Way good q (free q) t cs text → step s c ≡ t → Way good q (free q) s (c ∷ cs) text
    over e way = on (not (eqb c q)) (free_past q c e) (λ _. way)

    over_hex : {s t : Open} {text : List ℕ} → is_hex c ≡ true → Way good q (free q) t cs text → step s c ≡ t → Way good q (free q) s (c ∷ cs) text
    over_hex i = over (hex_plain q c h i).0

    past : {t : Open} {text : List ℕ} → eqb c 94 ≡ false → Way good q (free q) t cs text → step named.backslash c ≡ t → Way good q (freed q) named.backslash (c ∷ cs) text
    past e way = on true (λ zs. past_cap q c zs e) (λ _. way)

    -- where c ends an escape
    further : {text : List ℕ} → (Parts q (fold step named.nothing cs) cs → Parts q (fold step named.nothing cs) text) → Way good q (free q) named.nothing cs text
    further make = record { go = λ f g. make (ways.plain.go f g) }

    plain : Way good q (free q) named.nothing (c ∷ cs) (c ∷ cs)
    plain =
        cond_both (eqb c 92) _ _ (Led (free q) named.nothing (c ∷ cs)) (λ i. on true (free_escape q c i) (λ _. subst (λ c. Way good q (freed q) named.backslash cs (c ∷ cs)) (sym (eqb-true c 92 i)) ways.slash))
        (λ i. on (not (eqb c q)) (free_past q c i) (λ o. further (before c (λ xs. c ∷ xs) (λ xs es. refl) (λ xs es vs x k. quoted.itself (eqb-false c q (not-true (eqb c q) o)) (eqb-false c 92 i) k)))) refl

    -- digits of base 8 that end before c
    ended : {s : Open} (ds : List ℕ) (v : ℕ) → Numeral 8 ds v → length ds ≤ 3 → is_octal c ≡ false → step s c ≡ begins_with c → Way good q (free q) s (c ∷ cs) (92 ∷ (ds ++ c ∷ cs))
    ended ds v k l o e =
        record { go = λ f g. subst (λ t. Parts q (fold step t cs) (92 ∷ (ds ++ c ∷ cs))) (sym e) (octal_before ds v k l (inr (no_octal_is c o)) (plain.go f (ap (λ t. good (fold step t cs)) (sym e) ∙ g))) }

ways_of : (good : Open → Bool) (q : ℕ) → IsQuote q → good named.bad ≡ false → (cs : List ℕ) → Ways good q cs
ways_of good q h n [] = at_end good q
ways_of good q h n (c ∷ cs) = ways_on good q h n c cs (ways_of good q h n cs)

-- characters that no quote closes are quoted, but for what is left of an escape
pub parts : (good : Open → Bool) (q : ℕ) → IsQuote q → good named.bad ≡ false → (cs : List ℕ) → free q (then_letter cs) ≡ true → good (fold step named.nothing cs) ≡ true → Parts q (fold step named.nothing cs) cs
parts good q h n cs = (ways_of good q h n cs).plain.go

-- where their escapes are whole, all are
pub all_quoted : (q : ℕ) (cs : List ℕ) → IsQuote q → free q (then_letter cs) ≡ true → is_whole (fold step named.nothing cs) ≡ true → (vs : List ℕ) × Quoted q cs vs
all_quoted q cs h f w =
    let k = parts is_whole q h refl cs f w in
    elim k.left [
      | inl e ↦ (k.codes, subst (λ us. Quoted q us k.codes) (sym (k.is ∙ ap (λ us. k.front ++ us) e ∙ append-nil k.front)) k.quoted)
      | inr l ↦ absurd (both_ways (is_whole (fold step named.nothing cs)) l.1 w)
    ]
