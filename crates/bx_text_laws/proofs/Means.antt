-- What is quoted is what the reader makes of it.
use Rattle.bx_text_laws.proofs.Commons.{◌≡◌, ◌≢◌, ℕ, ◌+◌, ◌*◌, ◌%◌, ◌≤◌, ◌<◌, true, false, not, eqb, ◌&&◌, List, [], ◌∷◌, ◌++◌, length, refl, sym, ap, ◌∙◌, subst, arith, append_assoc, append-nil, ◌⊎◌, inl}
use Rattle.bx_text_laws.proofs.Commons.{inr, fold, list_all, and_parts, false_from_ne_true, ne_eqb, nat_tests, IsControl, Quoted, Named, IsOctal, IsOther, NoOctal, backspace, delete, escape, form_feed}
use Rattle.bx_text_laws.proofs.Commons.{line_feed, carriage_return, tab, vertical_tab}
use Rattle.bx_text.specs.Named as named
use Rattle.bx_text.specs.Escapes.{digit, is_octal, is_hex, is_control, is_scalar, coded}
use Rattle.bx_text.specs.Escapes as escapes
use Rattle.bx_text_laws.specs.Quoted as quoted
use Rattle.bx_text_laws.specs.Quoted.{space}
use Rattle.bx_text_laws.proofs.Escapes.{run, whole, Turn, ends, one, then, over_itself, over_slash, first_octal, second_octal, third_octal, no_octal, octal_ends, octal_one, octal_two, first_hex, second_hex, first_braced, close_braced, over_braced, over_control, over_named, with_digit, Value, numeral_value, counts, below, saturated, same_fold, same_scalar, is_scalar_from, coded_is}

small_coded : (v : ℕ) → v < 0xd800 → coded v ≡ v ∷ []
small_coded v h = coded_is v (grind (arith, nat_tests))

octal_next : (c : ℕ) → (IsOctal c → ⊥) → is_octal c ≡ false
octal_next c f = false_from_ne_true (is_octal c) (λ e. let small : digit c < 8 = below 8 c e in f (digit c, (small, counts c (omega arith))))

none_next : (cs : List ℕ) → NoOctal cs → no_octal cs ≡ true
none_next [] n = refl
none_next (c ∷ cs) n = ap not (octal_next c n)

few : {A : Type 0} (n : ℕ) → n < 3 → (n ≡ 3) ⊎ A → A
few n l (inl e) = absurd (omega arith)
few n l (inr a) = a

pub one_turn : (a : ℕ) (cs : List ℕ) → is_octal a ≡ true → no_octal cs ≡ true → Turn named.nothing (92 ∷ a ∷ cs) (digit a ∷ []) named.nothing cs
one_turn a cs e n =
    subst (λ vs. Turn named.nothing (92 ∷ a ∷ cs) vs named.nothing cs) (small_coded (digit a) (omega (arith, below 8 a e)))
    (then (over_slash (a ∷ cs)) (then (first_octal a cs e) (octal_ends (named.octal_digit (digit a)) (digit a) cs (octal_one (digit a)) n)))

pub two_turn : (a b : ℕ) (cs : List ℕ) → is_octal a ≡ true → is_octal b ≡ true → no_octal cs ≡ true → Turn named.nothing (92 ∷ a ∷ b ∷ cs) ((8 * digit a + digit b) ∷ []) named.nothing cs
two_turn a b cs e f n =
    let v : ℕ = 8 * digit a + digit b in
    subst (λ vs. Turn named.nothing (92 ∷ a ∷ b ∷ cs) vs named.nothing cs) (small_coded v (omega (arith, below 8 a e, below 8 b f)))
    (then (over_slash (a ∷ b ∷ cs)) (then (first_octal a (b ∷ cs) e) (then (second_octal (digit a) b cs f) (octal_ends (named.octal_digits v) v cs (octal_two v) n))))

pub three_turn : (a b c : ℕ) (cs : List ℕ) → is_octal a ≡ true → is_octal b ≡ true → is_octal c ≡ true → Turn named.nothing (92 ∷ a ∷ b ∷ c ∷ cs) ((8 * (8 * digit a + digit b) + digit c) ∷ []) named.nothing cs
three_turn a b c cs e f g =
    subst (λ vs. Turn named.nothing (92 ∷ a ∷ b ∷ c ∷ cs) vs named.nothing cs) (small_coded (8 * (8 * digit a + digit b) + digit c) (omega (arith, below 8 a e, below 8 b f, below 8 c g)))
    (then (over_slash (a ∷ b ∷ c ∷ cs)) (then (first_octal a (b ∷ c ∷ cs) e) (then (second_octal (digit a) b (c ∷ cs) f) (third_octal (8 * digit a + digit b) c cs g))))

octal_turn : (ds cs : List ℕ) (v : ℕ) → Value 8 ds v → length ds ≤ 3 → (length ds ≡ 3) ⊎ NoOctal cs → Turn named.nothing (92 ∷ (ds ++ cs)) (v ∷ []) named.nothing cs
octal_turn (x ∷ []) cs v (a, e, some) l n =
    let value : digit x ≡ v = omega arith in rw (← value) (one_turn x cs (and_parts (is_octal x) true a).0 (none_next cs (few 1 (omega arith) n)))
octal_turn (x ∷ y ∷ []) cs v (a, e, some) l n =
    let value : 8 * digit x + digit y ≡ v = omega arith in
    let all = and_parts (is_octal x) (is_octal y && true) a in
    rw (← value) (two_turn x y cs all.0 (and_parts (is_octal y) true all.1).0 (none_next cs (few 2 (omega arith) n)))
octal_turn (x ∷ y ∷ z ∷ []) cs v (a, e, some) l n =
    let value : 8 * (8 * digit x + digit y) + digit z ≡ v = omega arith in
    let all = and_parts (is_octal x) (is_octal y && (is_octal z && true)) a in
    let rest = and_parts (is_octal y) (is_octal z && true) all.1 in
    rw (← value) (three_turn x y z cs all.0 rest.0 (and_parts (is_octal z) true rest.1).0)
octal_turn ds cs v (a, e, some) l n = absurd (omega arith)

pub hex_two : (x y : ℕ) (cs : List ℕ) → is_hex x ≡ true → is_hex y ≡ true → Turn named.nothing (92 ∷ 120 ∷ x ∷ y ∷ cs) ((16 * digit x + digit y) ∷ []) named.nothing cs
hex_two x y cs e f =
    subst (λ vs. Turn named.nothing (92 ∷ 120 ∷ x ∷ y ∷ cs) vs named.nothing cs) (small_coded (16 * digit x + digit y) (omega (arith, below 16 x e, below 16 y f)))
    (then (over_slash (120 ∷ x ∷ y ∷ cs)) (then (one named.backslash 120 (x ∷ y ∷ cs)) (then (first_hex x (y ∷ cs) e) (second_hex (digit x) y cs f))))

hex_turn : (ds cs : List ℕ) (v : ℕ) → Value 16 ds v → length ds ≡ 2 → Turn named.nothing (92 ∷ 120 ∷ (ds ++ cs)) (v ∷ []) named.nothing cs
hex_turn (x ∷ y ∷ []) cs v (a, e, some) l =
    let value : 16 * digit x + digit y ≡ v = omega arith in
    let all = and_parts (is_hex x) (is_hex y && true) a in
    rw (← value) (hex_two x y cs all.0 (and_parts (is_hex y) true all.1).0)
hex_turn ds cs v (a, e, some) l = absurd (omega arith)

-- digits between braces, whose code the reader has as w
pub braced_by : (x : ℕ) (ds cs : List ℕ) (w : ℕ) → is_hex x ≡ true → list_all is_hex ds ≡ true → fold saturated (digit x) ds ≡ w → is_scalar w ≡ true
    → Turn named.nothing (92 ∷ 120 ∷ 123 ∷ x ∷ (ds ++ 125 ∷ cs)) (w ∷ []) named.nothing cs
braced_by x ds cs w e a is s =
    subst (λ vs. Turn named.nothing (92 ∷ 120 ∷ 123 ∷ x ∷ (ds ++ 125 ∷ cs)) vs named.nothing cs) (coded_is w s)
    (then (over_slash (120 ∷ 123 ∷ x ∷ (ds ++ 125 ∷ cs))) (then (one named.backslash 120 (123 ∷ x ∷ (ds ++ 125 ∷ cs))) (then (one named.hex 123 (x ∷ (ds ++ 125 ∷ cs)))
    (then (first_braced x (ds ++ 125 ∷ cs) e) (then (subst (λ w. Turn (named.braced (digit x)) (ds ++ 125 ∷ cs) [] (named.braced w) (125 ∷ cs)) is (over_braced ds (digit x) (125 ∷ cs) a)) (close_braced w cs s))))))

braced_turn : (ds cs : List ℕ) (v : ℕ) → Value 16 ds v → is_scalar v ≡ true → Turn named.nothing (92 ∷ 120 ∷ 123 ∷ (ds ++ 125 ∷ cs)) (v ∷ []) named.nothing cs
braced_turn [] cs v (a, e, some) s = absurd (omega arith)
braced_turn (x ∷ ds) cs v (a, e, some) s =
    let all = and_parts (is_hex x) (list_all is_hex ds) a in
    let first : digit x ≡ with_digit 16 0 x = omega arith in
    let w : ℕ = fold saturated (digit x) ds in
    let is : w ≡ v = same_scalar w (fold (with_digit 16) (with_digit 16 0 x) ds) (same_fold ds (digit x) (with_digit 16 0 x) all.1 (inl first)) (subst (λ v. is_scalar v ≡ true) (sym e) s) ∙ e in
    braced_by x ds cs v all.0 all.1 is s

control_is : (c : ℕ) → IsControl c → is_control c ≡ true
control_is c h = grind (arith, nat_tests)

pub control_turn : (c : ℕ) (cs : List ℕ) → is_control c ≡ true → Turn named.nothing (92 ∷ 94 ∷ c ∷ cs) ((c % 32) ∷ []) named.nothing cs
control_turn c cs e =
    subst (λ vs. Turn named.nothing (92 ∷ 94 ∷ c ∷ cs) vs named.nothing cs) (small_coded (c % 32) (omega arith))
    (then (over_slash (94 ∷ c ∷ cs)) (then (one named.backslash 94 (c ∷ cs)) (over_control c cs e)))

pub named_turn : (c : ℕ) (cs : List ℕ) → is_octal c ≡ false → eqb c 120 ≡ false → eqb c 94 ≡ false → Turn named.nothing (92 ∷ c ∷ cs) (escapes.named c ∷ []) named.nothing cs
named_turn c cs o x k = then (over_slash (c ∷ cs)) (over_named c cs o x k)

named_by : {c v : ℕ} → Named c v → (cs : List ℕ) → Turn named.nothing (92 ∷ c ∷ cs) (v ∷ []) named.nothing cs
named_by backspace cs = named_turn 98 cs refl refl refl
named_by s cs = named_turn _ cs refl refl refl

pub names_itself : (c : ℕ) → c ≢ 98 → c ≢ 100 → c ≢ 101 → c ≢ 102 → c ≢ 110 → c ≢ 114 → c ≢ 115 → c ≢ 116 → c ≢ 118 → escapes.named c ≡ c
names_itself c a b d e f g h i j = grind (arith, nat_tests)

other_by : (c : ℕ) (cs : List ℕ) → IsOther c → Turn named.nothing (92 ∷ c ∷ cs) (c ∷ []) named.nothing cs
other_by c cs (n, o, x, k) =
    let is : escapes.named c ≡ c =
    names_itself c (λ e. n (8, subst (λ c. Named c 8) (sym e) backspace)) (λ e. n (127, subst (λ c. Named c 127) (sym e) delete)) (λ e. n (27, subst (λ c. Named c 27) (sym e) escape))
    (λ e. n (12, subst (λ c. Named c 12) (sym e) form_feed)) (λ e. n (10, subst (λ c. Named c 10) (sym e) line_feed)) (λ e. n (13, subst (λ c. Named c 13) (sym e) carriage_return))
    (λ e. n (32, subst (λ c. Named c 32) (sym e) space)) (λ e. n (9, subst (λ c. Named c 9) (sym e) tab)) (λ e. n (11, subst (λ c. Named c 11) (sym e) vertical_tab)) in
    subst (λ v. Turn named.nothing (92 ∷ c ∷ cs) (v ∷ []) named.nothing cs) is (named_turn c cs (octal_next c o) (ne_eqb c 120 x) (ne_eqb c 94 k))

-- over what is quoted, where no octal digit follows
octal_behind : (cs ys : List ℕ) → NoOctal cs → NoOctal ys → NoOctal (cs ++ ys)
octal_behind [] ys n m = m
octal_behind (c ∷ cs) ys n m = n

ended : (n : ℕ) (cs ys : List ℕ) → NoOctal ys → (n ≡ 3) ⊎ NoOctal cs → (n ≡ 3) ⊎ NoOctal (cs ++ ys)
ended n cs ys m (inl e) = inl e
ended n cs ys m (inr k) = inr (octal_behind cs ys k m)

pub over_quoted : {q : ℕ} {cs vs : List ℕ} → Quoted q cs vs → (ys : List ℕ) → NoOctal ys → Turn named.nothing (cs ++ ys) vs named.nothing ys
over_quoted quoted.none ys m = record { means = refl; tests = λ p o. refl }
over_quoted (quoted.itself {c = c} {cs = cs} other plain k) ys m = then (over_itself c (cs ++ ys) (ne_eqb c 92 plain)) (over_quoted k ys m)
over_quoted (quoted.named {cs = cs} n k) ys m = then (named_by n (cs ++ ys)) (over_quoted k ys m)
over_quoted (quoted.octal {v = v} {ds = ds} {cs = cs} n l e k) ys m =
    rw (append_assoc ds cs ys) (then (octal_turn ds (cs ++ ys) v (numeral_value n) l (ended (length ds) cs ys m e)) (over_quoted k ys m))
over_quoted (quoted.hex {v = v} {ds = ds} {cs = cs} n l k) ys m = rw (append_assoc ds cs ys) (then (hex_turn ds (cs ++ ys) v (numeral_value n) l) (over_quoted k ys m))
over_quoted (quoted.braced {v = v} {ds = ds} {cs = cs} n s k) ys m =
    rw (append_assoc ds (125 ∷ cs) ys) (then (braced_turn ds (cs ++ ys) v (numeral_value n) (is_scalar_from v s)) (over_quoted k ys m))
over_quoted (quoted.control {c = c} {cs = cs} h k) ys m = then (control_turn c (cs ++ ys) (control_is c h)) (over_quoted k ys m)
over_quoted (quoted.other {c = c} {cs = cs} h k) ys m = then (other_by c (cs ++ ys) h) (over_quoted k ys m)

abbrev pub Meant : List ℕ → List ℕ → Type 0
Meant cs vs = (run named.nothing cs ≡ vs) × (whole named.nothing cs ≡ true)

pub means : {q : ℕ} {cs vs : List ℕ} → Quoted q cs vs → Meant cs vs
means {cs = cs} {vs = vs} k =
    let turn : Turn named.nothing cs vs named.nothing [] = subst (λ us. Turn named.nothing us vs named.nothing []) (append-nil cs) (over_quoted k [] tt) in
    (turn.means ∙ append-nil vs, ends turn)
