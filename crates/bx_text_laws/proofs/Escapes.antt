-- What the reader makes of characters with escapes is what they stand for.
use Rattle.std.proofs.Common.{◌≡◌, ℕ, ◌+◌, ◌*◌, ◌%◌, ◌≤◌, ◌<◌, Bool, true, false, not, eqb, List, [], ◌∷◌, ◌++◌, length, refl, sym, ap, ◌∙◌, subst, arith, append_assoc, append-nil, ◌⊎◌}
use Rattle.std.specs.List.{fold, list_all}
use Rattle.std.specs.Char.{IsScalar}
use Rattle.std.specs.Prelude.{nat_lt}
use Rattle.std.proofs.lemmas.List.Sums.{fold-append}
use Rattle.std.proofs.lemmas.Bool.{cond-true, cond-false, and_parts, and_from, not-true}
use Rattle.std.proofs.lemmas.List.{length-append}
use Rattle.std.proofs.lemmas.Bool.Decides.{nat_tests}
use Rattle.bx_text.specs.Named as named
use Rattle.bx_text.specs.Named.{Open}
use Rattle.bx_text.specs.Escapes.{digit, is_octal, is_hex, is_control, is_scalar, begins_with, step, itself, coded, known, known_last, known_in, is_whole}
use Rattle.bx_text.specs.Escapes as escapes
use Rattle.bx_text_laws.specs.Numerals.{Counts, Numeral, one_digit, digit_more}
use Rattle.bx_text_laws.proofs.Runs.{push_all}

-- what characters mean where something is open, and whether all is closed behind them
abbrev pub run : Open → List ℕ → List ℕ
run s cs = known_in s cs ++ known_last (fold step s cs)

abbrev pub whole : Open → List ℕ → Bool
whole s cs = is_whole (fold step s cs)

-- a test that takes octal digits, to which more may come, for nothing open
abbrev pub Tests : (Open → Bool) → Type 0
Tests p = ((v : ℕ) → p (named.octal_digit v) ≡ p named.nothing) × ((v : ℕ) → p (named.octal_digits v) ≡ p named.nothing)

-- over xs the characters vs are meant, and t is open where ys follow
pub record Turn (s : Open) (xs vs : List ℕ) (t : Open) (ys : List ℕ) : Type 0 where
  pub means : run s xs ≡ vs ++ run t ys
  pub tests : (p : Open → Bool) → Tests p → p (fold step s xs) ≡ p (fold step t ys)

pub ends : {s t : Open} {xs vs ys : List ℕ} → Turn s xs vs t ys → whole s xs ≡ whole t ys
ends turn = turn.tests is_whole (λ v. refl, λ v. refl)

pub one : (s : Open) (c : ℕ) (cs : List ℕ) → Turn s (c ∷ cs) (known s c) (step s c) cs
one s c cs = record { means = append_assoc (known s c) (known_in (step s c) cs) (known_last (fold step (step s c) cs)); tests = λ p o. refl }

one_is : (s t : Open) (c : ℕ) (cs vs : List ℕ) → known s c ≡ vs → step s c ≡ t → Turn s (c ∷ cs) vs t cs
one_is s t c cs vs e f =
    subst (λ t. Turn s (c ∷ cs) vs t cs) f (subst (λ vs. Turn s (c ∷ cs) vs (step s c) cs) e (one s c cs))

pub then : {s t r : Open} {xs ys zs vs ws : List ℕ} → Turn s xs vs t ys → Turn t ys ws r zs → Turn s xs (vs ++ ws) r zs
then {r = r} {zs = zs} {vs = vs} {ws = ws} a b = record { means = a.means ∙ ap (λ us. vs ++ us) b.means ∙ sym (append_assoc vs ws (run r zs)); tests = λ p o. a.tests p o ∙ b.tests p o }

-- tests
hex_brace : (c : ℕ) → is_hex c ≡ true → eqb c 123 ≡ false
hex_brace c e = grind (arith, nat_tests)

hex_close : (c : ℕ) → is_hex c ≡ true → eqb c 125 ≡ false
hex_close c e = grind (arith, nat_tests)

-- single turns
pub over_itself : (c : ℕ) (cs : List ℕ) → eqb c 92 ≡ false → Turn named.nothing (c ∷ cs) (c ∷ []) named.nothing cs
over_itself c cs e = one_is _ _ c cs _ (cond-false (eqb c 92) _ _ e) (cond-false (eqb c 92) _ _ e)

pub over_slash : (cs : List ℕ) → Turn named.nothing (92 ∷ cs) [] named.backslash cs
over_slash cs = one named.nothing 92 cs

pub first_octal : (a : ℕ) (cs : List ℕ) → is_octal a ≡ true → Turn named.backslash (a ∷ cs) [] (named.octal_digit (digit a)) cs
first_octal a cs e = one_is _ _ a cs _ (rw e refl) (cond-true (is_octal a) _ _ e)

pub second_octal : (v a : ℕ) (cs : List ℕ) → is_octal a ≡ true → Turn (named.octal_digit v) (a ∷ cs) [] (named.octal_digits (8 * v + digit a)) cs
second_octal v a cs e = one_is _ _ a cs _ (cond-true (is_octal a) _ _ e) (cond-true (is_octal a) _ _ e)

pub third_octal : (v a : ℕ) (cs : List ℕ) → is_octal a ≡ true → Turn (named.octal_digits v) (a ∷ cs) (coded (8 * v + digit a)) named.nothing cs
third_octal v a cs e = one_is _ _ a cs _ (cond-true (is_octal a) _ _ e) (cond-true (is_octal a) _ _ e)

-- no octal digit comes next
abbrev pub no_octal : List ℕ → Bool
no_octal [] = true
no_octal (c ∷ cs) = not (is_octal c)

abbrev pub Ends : Open → ℕ → Type 0
Ends s v = (known_last s ≡ coded v) × ((p : Open → Bool) → Tests p → p s ≡ p named.nothing) × ((c : ℕ) → is_octal c ≡ false → (known s c ≡ coded v ++ itself c) × (step s c ≡ begins_with c))

pub octal_ends : (s : Open) (v : ℕ) (cs : List ℕ) → Ends s v → no_octal cs ≡ true → Turn s cs (coded v) named.nothing cs
octal_ends s v [] ends e = record { means = ends.0 ∙ sym (append-nil (coded v)); tests = ends.1 }
octal_ends s v (c ∷ cs) ends e =
    let next = ends.2 c (not-true (is_octal c) e) in
    let turned = one_is s (begins_with c) c cs (coded v ++ itself c) next.0 next.1 in
    let plain = one named.nothing c cs in
    record { means = turned.means ∙ append_assoc (coded v) (itself c) (run (begins_with c) cs) ∙ ap (λ us. coded v ++ us) (sym plain.means); tests = λ p o. turned.tests p o ∙ sym (plain.tests p o) }

pub octal_one : (v : ℕ) → Ends (named.octal_digit v) v
octal_one v = (refl, λ p o. o.0 v, λ c e. (cond-false (is_octal c) _ _ e, cond-false (is_octal c) _ _ e))

pub octal_two : (v : ℕ) → Ends (named.octal_digits v) v
octal_two v = (refl, λ p o. o.1 v, λ c e. (cond-false (is_octal c) _ _ e, cond-false (is_octal c) _ _ e))

pub first_hex : (a : ℕ) (cs : List ℕ) → is_hex a ≡ true → Turn named.hex (a ∷ cs) [] (named.hex_digit (digit a)) cs
first_hex a cs e = one_is _ _ a cs _ refl (cond-false (eqb a 123) _ _ (hex_brace a e) ∙ cond-true (is_hex a) _ _ e)

pub second_hex : (v a : ℕ) (cs : List ℕ) → is_hex a ≡ true → Turn (named.hex_digit v) (a ∷ cs) (coded (16 * v + digit a)) named.nothing cs
second_hex v a cs e = one_is _ _ a cs _ (cond-true (is_hex a) _ _ e) (cond-true (is_hex a) _ _ e)

pub first_braced : (a : ℕ) (cs : List ℕ) → is_hex a ≡ true → Turn named.brace (a ∷ cs) [] (named.braced (digit a)) cs
first_braced a cs e = one_is _ _ a cs _ refl (cond-true (is_hex a) _ _ e)

next_braced : (v a : ℕ) (cs : List ℕ) → is_hex a ≡ true → Turn (named.braced v) (a ∷ cs) [] (named.braced (escapes.braced v (digit a))) cs
next_braced v a cs e = one_is _ _ a cs _ (cond-false (eqb a 125) _ _ (hex_close a e)) (cond-true (is_hex a) _ _ e)

pub close_braced : (v : ℕ) (cs : List ℕ) → is_scalar v ≡ true → Turn (named.braced v) (125 ∷ cs) (coded v) named.nothing cs
close_braced v cs e = one_is _ _ 125 cs _ refl (cond-true (is_scalar v) _ _ e)

pub over_control : (c : ℕ) (cs : List ℕ) → is_control c ≡ true → Turn named.control (c ∷ cs) (coded (c % 32)) named.nothing cs
over_control c cs e = one_is _ _ c cs _ (cond-true (is_control c) _ _ e) (cond-true (is_control c) _ _ e)

pub over_named : (c : ℕ) (cs : List ℕ) → is_octal c ≡ false → eqb c 120 ≡ false → eqb c 94 ≡ false → Turn named.backslash (c ∷ cs) (escapes.named c ∷ []) named.nothing cs
over_named c cs o x k = one_is named.backslash named.nothing c cs (escapes.named c ∷ []) (rw (o, x, k) refl) (rw (o, x, k) refl)

-- numerals
abbrev pub is_base : ℕ → ℕ → Bool
is_base b c = nat_lt (digit c) b

abbrev pub with_digit : ℕ → ℕ → ℕ → ℕ
with_digit b n c = b * n + digit c

counted : (c x : ℕ) → Counts c x → digit c ≡ x
counted c x h = grind (arith, nat_tests)

pub counts : (c : ℕ) → digit c < 16 → Counts c (digit c)
counts c h = grind (arith, nat_tests)

in_base : (b c x : ℕ) → x < b → digit c ≡ x → is_base b c ≡ true
in_base b c x l e = grind (arith, nat_tests)

pub below : (b c : ℕ) → is_base b c ≡ true → digit c < b
below b c e = grind (arith, nat_tests)

abbrev pub Value : ℕ → List ℕ → ℕ → Type 0
Value b ds n = (list_all (is_base b) ds ≡ true) × (fold (with_digit b) 0 ds ≡ n) × (0 < length ds)

pub numeral_value : {b n : ℕ} {ds : List ℕ} → Numeral b ds n → Value b ds n
numeral_value (one_digit {base = b} {c = c} {x = x} (l, h)) =
    let is : digit c ≡ x = counted c x h in
    (and_from (is_base b c) true (in_base b c x l is) refl, omega (arith, is), omega arith)
numeral_value (digit_more {base = b} {n = n} {c = c} {x = x} {cs = cs} k (l, h)) =
    let is : digit c ≡ x = counted c x h in
    let front = numeral_value k in
    (push_all (is_base b) cs c front.0 (in_base b c x l is), fold-append (with_digit b) 0 cs (c ∷ []) ∙ ap (λ m. b * m + digit c) front.1 ∙ ap (λ y. b * n + y) is, omega (arith, length-append cs (c ∷ [])))

-- the code of many digits, which stays where no character's code is
abbrev pub Same : ℕ → ℕ → Type 0
Same w n = (w ≡ n) ⊎ ((0x110000 ≤ w) × (0x110000 ≤ n))

pub same_more : (w n x : ℕ) → x < 16 → Same w n → Same (escapes.braced w x) (16 * n + x)
same_more w n x l h = grind (arith, nat_tests)

pub same_scalar : (w n : ℕ) → Same w n → is_scalar n ≡ true → w ≡ n
same_scalar w n h e = grind (arith, nat_tests)

pub scalar_same : (w n : ℕ) → Same w n → is_scalar w ≡ true → w ≡ n
scalar_same w n h e = grind (arith, nat_tests)

pub is_scalar_from : (v : ℕ) → IsScalar v → is_scalar v ≡ true
is_scalar_from v h = grind (arith, nat_tests)

pub scalar_from : (v : ℕ) → is_scalar v ≡ true → IsScalar v
scalar_from v h = grind (arith, nat_tests)

abbrev pub saturated : ℕ → ℕ → ℕ
saturated w c = escapes.braced w (digit c)

pub same_fold : (ds : List ℕ) (w n : ℕ) → list_all is_hex ds ≡ true → Same w n → Same (fold saturated w ds) (fold (with_digit 16) n ds)
same_fold [] w n a h = h
same_fold (d ∷ ds) w n a h =
    let both = and_parts (is_hex d) (list_all is_hex ds) a in
    same_fold ds (saturated w d) (with_digit 16 n d) both.1 (same_more w n (digit d) (below 16 d both.0) h)

-- digits between braces
pub over_braced : (ds : List ℕ) (w : ℕ) (cs : List ℕ) → list_all is_hex ds ≡ true → Turn (named.braced w) (ds ++ cs) [] (named.braced (fold saturated w ds)) cs
over_braced [] w cs a = record { means = refl; tests = λ p o. refl }
over_braced (d ∷ ds) w cs a =
    let both = and_parts (is_hex d) (list_all is_hex ds) a in
    then (next_braced w d (ds ++ cs) both.0) (over_braced ds (saturated w d) cs both.1)

pub coded_is : (v : ℕ) → is_scalar v ≡ true → coded v ≡ v ∷ []
coded_is v e = cond-true (is_scalar v) _ _ e
