-- UTF-8 keeps the order of character codes: comparing two texts by bytes compares them by characters.
use Rattle.bx_terms.proofs.Words.{◌≡◌, ℕ, ◌+◌, ◌/◌, ◌<◌, ◌≤◌, ◌⊎◌, List, [], ◌∷◌, ◌++◌, inl, inr, refl, sym, ap, ◌∙◌, arith, Less, Equal, Greater, nat_cmp}
use Rattle.bx_terms.proofs.Words.{ordering_then, ordering_reverse, slice_cmp, nat_list_cmp_total, ranked, by_ranked, nat_tests, cases_lt, IsUtf8, encodes-chars}
use Rattle.std.specs.Str.{chars}
use lib.Utf8.{encode, encodes, next}

record IsBelow (xs ys : List ℕ) : Type 0 where
  pub is : slice_cmp nat_cmp xs ys ≡ Less

by_head : {x y : ℕ} {xs ys : List ℕ} → x < y → IsBelow (x ∷ xs) (y ∷ ys)
by_head h = record { is = grind (arith, nat_tests) }

by_rest : {x y : ℕ} {xs ys : List ℕ} → x ≡ y → IsBelow xs ys → IsBelow (x ∷ xs) (y ∷ ys)
by_rest h g = let e = g.is in record { is = grind (arith, nat_tests, g.is) }

-- the lowest six bits decide where the rest does not
apart : (c d : ℕ) → c < d → (c / 64 < d / 64) ⊎ ((c / 64 ≡ d / 64) × (next c < next d))
apart c d h = elim (cases_lt (c / 64) (d / 64)) [ inl q ↦ inl q | inr q ↦ inr (omega arith, omega arith) ]

below_2 : (b c d : ℕ) (r t : List ℕ) → c < d → IsBelow ((b + c / 64) ∷ next c ∷ r) ((b + d / 64) ∷ next d ∷ t)
below_2 b c d r t h = elim (apart c d h) [ inl q ↦ by_head (omega arith) | inr q ↦ by_rest (omega arith) (by_head q.1) ]

below_3 : (b c d : ℕ) (r t : List ℕ) → c < d → IsBelow ((b + c / 64 / 64) ∷ next (c / 64) ∷ next c ∷ r) ((b + d / 64 / 64) ∷ next (d / 64) ∷ next d ∷ t)
below_3 b c d r t h = elim (apart c d h) [
  | inl q ↦ below_2 b (c / 64) (d / 64) (next c ∷ r) (next d ∷ t) q
  | inr q ↦ by_rest (ap (λ x. b + x / 64) q.0) (by_rest (ap next q.0) (by_head q.1))
]

below_4 : (b c d : ℕ) (r t : List ℕ) → c < d → IsBelow ((b + c / 64 / 64 / 64) ∷ next (c / 64 / 64) ∷ next (c / 64) ∷ next c ∷ r) ((b + d / 64 / 64 / 64) ∷ next (d / 64 / 64) ∷ next (d / 64) ∷ next d ∷ t)
below_4 b c d r t h = elim (apart c d h) [
  | inl q ↦ below_3 b (c / 64) (d / 64) (next c ∷ r) (next d ∷ t) q
  | inr q ↦ by_rest (ap (λ x. b + x / 64 / 64) q.0) (by_rest (ap (λ x. next (x / 64)) q.0) (by_rest (ap next q.0) (by_head q.1)))
]

one_byte : (c : ℕ) → c < 128 → encode c ≡ c ∷ []
unfolding encode
one_byte c h = grind (arith, nat_tests)

two_bytes : (c : ℕ) → 128 ≤ c → c < 2048 → encode c ≡ (192 + c / 64) ∷ next c ∷ []
unfolding encode
two_bytes c h g = grind (arith, nat_tests)

three_bytes : (c : ℕ) → 2048 ≤ c → c < 65536 → encode c ≡ (224 + c / 64 / 64) ∷ next (c / 64) ∷ next c ∷ []
unfolding encode
three_bytes c h g = let e : c / 4096 ≡ c / 64 / 64 = omega arith in rw (← e) (grind (arith, nat_tests))

four_bytes : (c : ℕ) → 65536 ≤ c → encode c ≡ (240 + c / 64 / 64 / 64) ∷ next (c / 64 / 64) ∷ next (c / 64) ∷ next c ∷ []
unfolding encode
four_bytes c h =
    let e : c / 4096 ≡ c / 64 / 64 = omega arith in
    let f : c / 262144 ≡ c / 4096 / 64 = omega arith in
    rw (← e, ← f) (grind (arith, nat_tests))

-- by the number of bytes that a character takes
by_size : {P : Type 0} (c : ℕ) → (c < 128 → P) → (128 ≤ c → c < 2048 → P) → (2048 ≤ c → c < 65536 → P) → (65536 ≤ c → P) → P
by_size c one two three four = elim (cases_lt c 128) [
  | inl h ↦ one h
  | inr g ↦ elim (cases_lt c 2048) [ inl h ↦ two g h | inr g ↦ elim (cases_lt c 65536) [ inl h ↦ three g h | inr g ↦ four g ] ]
]

rises : (c d : ℕ) (r t : List ℕ) → c < d → IsBelow (encode c ++ r) (encode d ++ t)
rises c d r t h = by_size d (λ d1. rw (one_byte c (omega arith), one_byte d d1) (by_head h))
    (λ d1 d2. rw (two_bytes d d1 d2) (by_size c (λ c1. rw (one_byte c c1) (by_head (omega arith)))
    (λ c1 _. rw (two_bytes c c1 (omega arith)) (below_2 192 c d r t h)) (λ c1 _. absurd (omega arith)) (λ c1. absurd (omega arith))))
    (λ d1 d2. rw (three_bytes d d1 d2) (by_size c (λ c1. rw (one_byte c c1) (by_head (omega arith))) (λ c1 c2. rw (two_bytes c c1 c2) (by_head (omega arith)))
    (λ c1 _. rw (three_bytes c c1 (omega arith)) (below_3 224 c d r t h)) (λ c1. absurd (omega arith))))
    (λ d1. rw (four_bytes d d1) (by_size c (λ c1. rw (one_byte c c1) (by_head (omega arith))) (λ c1 c2. rw (two_bytes c c1 c2) (by_head (omega arith)))
    (λ c1 c2. rw (three_bytes c c1 c2) (by_head (omega arith))) (λ c1. rw (four_bytes c c1) (below_4 240 c d r t h))))

falls : (c d : ℕ) (r t : List ℕ) → d < c → slice_cmp nat_cmp (encode c ++ r) (encode d ++ t) ≡ Greater
falls c d r t h = nat_list_cmp_total.antisymm (encode c ++ r) (encode d ++ t) ∙ ap ordering_reverse (rises d c t r h).is

same_front : (xs r t : List ℕ) → slice_cmp nat_cmp (xs ++ r) (xs ++ t) ≡ slice_cmp nat_cmp r t
same_front [] r t = refl
same_front (x ∷ xs) r t = let e : nat_cmp x x ≡ Equal = grind (arith, nat_tests) in ap (λ o. ordering_then o (slice_cmp nat_cmp (xs ++ r) (xs ++ t))) e ∙ same_front xs r t

first_is : (x : ℕ) (xs ys r : List ℕ) → ys ≡ x ∷ xs → (slice_cmp nat_cmp [] (ys ++ r) ≡ Less) × (slice_cmp nat_cmp (ys ++ r) [] ≡ Greater)
first_is x xs ys r e = rw e (refl, refl)

-- a character takes a byte at least
not_empty : (c : ℕ) (r : List ℕ) → (slice_cmp nat_cmp [] (encode c ++ r) ≡ Less) × (slice_cmp nat_cmp (encode c ++ r) [] ≡ Greater)
not_empty c r = by_size c (λ h. first_is _ _ _ r (one_byte c h)) (λ g h. first_is _ _ _ r (two_bytes c g h))
    (λ g h. first_is _ _ _ r (three_bytes c g h)) (λ g. first_is _ _ _ r (four_bytes c g))

pub order_kept : (cs ds : List ℕ) → slice_cmp nat_cmp (encodes cs) (encodes ds) ≡ slice_cmp nat_cmp cs ds
order_kept [] [] = refl
order_kept [] (d ∷ ds) = (not_empty d (encodes ds)).0
order_kept (c ∷ cs) [] = (not_empty c (encodes cs)).1
order_kept (c ∷ cs) (d ∷ ds) = by_ranked (c < d) (c ≡ d) (d < c) (nat_cmp c d) (ranked c d (nat_cmp c d) refl)
    (λ e h. (rises c d (encodes cs) (encodes ds) h).is ∙ sym (ap (λ o. ordering_then o (slice_cmp nat_cmp cs ds)) e))
    (λ e h. ap (λ x. slice_cmp nat_cmp (encode c ++ encodes cs) (encode x ++ encodes ds)) (sym h) ∙ same_front (encode c) (encodes cs) (encodes ds) ∙ order_kept cs ds ∙ sym (ap (λ o. ordering_then o (slice_cmp nat_cmp cs ds)) e))
    (λ e h. falls c d (encodes cs) (encodes ds) h ∙ sym (ap (λ o. ordering_then o (slice_cmp nat_cmp cs ds)) e))

-- the order of two texts' bytes is that of their characters
pub bytes_by_codes : (s t : List ℕ) → IsUtf8 s → IsUtf8 t → slice_cmp nat_cmp s t ≡ slice_cmp nat_cmp (chars s) (chars t)
bytes_by_codes s t p q =
    ap (λ x. slice_cmp nat_cmp x t) (sym (encodes-chars s p))
    ∙ ap (λ x. slice_cmp nat_cmp (encodes (chars s)) x) (sym (encodes-chars t q))
    ∙ order_kept (chars s) (chars t)
