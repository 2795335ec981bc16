-- Where no quote stands but behind a backslash: the bytes between quotes, and their characters.
use Rattle.bx_text_laws.proofs.Commons.{◌≡◌, ◌≢◌, ℕ, suc, ◌+◌, ◌/◌, ◌≤◌, ◌<◌, Bool, true, false, cond, not, eqb, ltb, ◌&&◌, List, [], ◌∷◌, ◌++◌, length, refl, sym, ap, ◌∙◌, arith, ◌⊎◌, inl, inr}
use Rattle.bx_text_laws.proofs.Commons.{encode_utf8_all, AllByRecursion, eqb-true, eq-eqb, ltb-true, ltb-false, not-true, and_parts, cond-true, cond-false, cond_both, nat_tests, body_len, escaped_len}
use Rattle.bx_text_laws.proofs.Commons.{control_len}
use Rattle.std.specs.Char.{encode_utf8}

abbrev mutual
  pub free : ℕ → List ℕ → Bool
  free q [] = true
  free q (c ∷ cs) = cond (eqb c 92) (freed q cs) (not (eqb c q) && free q cs)

  -- behind a backslash any element may stand, and one has to
  pub freed : ℕ → List ℕ → Bool
  freed q [] = false
  freed q (c ∷ cs) = cond (eqb c 94) (capped q cs) (free q cs)

  -- and behind `^` there any but the quote
  pub capped : ℕ → List ℕ → Bool
  capped q [] = true
  capped q (c ∷ cs) = not (eqb c q) && free q cs

-- bytes beyond ASCII are none of these
abbrev pub High : List ℕ → Type 0
High bs = AllByRecursion (λ b. 128 ≤ b) bs

high_plain : (q b : ℕ) → q < 128 → 128 ≤ b → (eqb b 92 ≡ false) × (eqb b q ≡ false) × (eqb b 94 ≡ false)
high_plain q b l h = (grind (arith, nat_tests), grind (arith, nat_tests), grind (arith, nat_tests))

free_high : (q : ℕ) (hs bs : List ℕ) → q < 128 → High hs → free q (hs ++ bs) ≡ free q bs
free_high q [] bs l h = refl
free_high q (b ∷ hs) bs l (a, h) = let plain = high_plain q b l a in rw (plain.0, plain.1) (free_high q hs bs l h)

-- a character of ASCII is its byte, and any other only has bytes beyond
abbrev pub Shape : ℕ → List ℕ → Type 0
Shape c bytes = ((c < 128) × (bytes ≡ c ∷ [])) ⊎ ((128 ≤ c) × ((b : ℕ) × (hs : List ℕ) × (bytes ≡ b ∷ hs) × (128 ≤ b) × High hs))

pub shape : (c : ℕ) → Shape c (encode_utf8 c)
unfolding encode_utf8
shape c =
    cond_both (ltb c 128) _ _ (Shape c) (λ e. inl (ltb-true c 128 e, refl))
    (λ e. let high : 128 ≤ c = ltb-false c 128 e in
    cond_both (ltb c 2048) _ _ (Shape c) (λ _. inr (high, (192 + c / 64, _, refl, omega arith, (omega arith, tt))))
    (λ _. cond_both (ltb c 65536) _ _ (Shape c) (λ _. inr (high, (224 + c / 4096, _, refl, omega arith, (omega arith, (omega arith, tt)))))
    (λ _. inr (high, (240 + c / 262144, _, refl, omega arith, (omega arith, (omega arith, (omega arith, tt))))))))

pub past_cap : (q c : ℕ) (cs : List ℕ) → eqb c 94 ≡ false → freed q (c ∷ cs) ≡ free q cs
past_cap q c cs e = rw e

abbrev Alike : ℕ → List ℕ → List ℕ → Type 0
Alike q bs cs = (free q bs ≡ free q cs) × (freed q bs ≡ freed q cs) × (capped q bs ≡ capped q cs)

-- the bytes are free where the characters are
free_bytes : (q : ℕ) → q < 128 → (cs : List ℕ) → Alike q (encode_utf8_all cs) cs
free_bytes q l [] = (refl, refl, refl)
free_bytes q l (c ∷ cs) =
    let (a, b, d) = free_bytes q l cs in
    elim (shape c) [
      | inl s ↦ rw s.1 ((cc), (cc), (cc))
      | inr s ↦
          let (b, hs, e, first, rest) = s.1 in
          let plain = high_plain q c l s.0 in
          let lead = high_plain q b l first in
          let tail : free q (hs ++ encode_utf8_all cs) ≡ free q cs = free_high q hs (encode_utf8_all cs) l rest ∙ a in
          rw e (rw (lead.0, lead.1, plain.0, plain.1) tail, rw (lead.2, plain.2) tail, rw (lead.1, plain.1) tail)
    ]

pub free_text : (q : ℕ) (cs : List ℕ) → q < 128 → free q (encode_utf8_all cs) ≡ free q cs
free_text q cs l = (free_bytes q l cs).0

-- where the bytes between quotes end
pub len_cond : (q b : ℕ) (bs : List ℕ) (t u : Bool) → eqb b q ≡ t → eqb b 92 ≡ u → body_len q (b ∷ bs) ≡ cond t 0 (cond u (1 + escaped_len q bs) (1 + body_len q bs))
len_cond q b bs t u e f = rw (e, f)

-- free bytes go on to the quote
quote_len : (q : ℕ) (zs : List ℕ) → body_len q (q ∷ zs) ≡ 0
quote_len q zs = rw (eq-eqb q q refl)

pub slash_quote : (q b : ℕ) → q ≢ 92 → eqb b 92 ≡ true → eqb b q ≡ false
slash_quote q b n e = grind (arith, nat_tests)

mutual
  pub body_of : (q : ℕ) → q ≢ 92 → (bytes zs : List ℕ) → free q bytes ≡ true → body_len q (bytes ++ q ∷ zs) ≡ length bytes
  body_of q n [] zs f = quote_len q zs
  body_of q n (b ∷ bs) zs f =
      cond_both (eqb b 92) _ _ (λ t. t ≡ true → body_len q (b ∷ (bs ++ q ∷ zs)) ≡ suc (length bs))
      (λ e g. len_cond q b (bs ++ q ∷ zs) false true (slash_quote q b n e) e ∙ omega (arith, escaped_of q n bs zs g))
      (λ e g. let both = and_parts (not (eqb b q)) (free q bs) g in len_cond q b (bs ++ q ∷ zs) false false (not-true (eqb b q) both.0) e ∙ omega (arith, body_of q n bs zs both.1)) f

  escaped_of : (q : ℕ) → q ≢ 92 → (bytes zs : List ℕ) → freed q bytes ≡ true → escaped_len q (bytes ++ q ∷ zs) ≡ length bytes
  escaped_of q n [] zs f = cc
  escaped_of q n (b ∷ bs) zs f =
      cond_both (eqb b 94) _ _ (λ m. m ≡ suc (length bs)) (λ e. omega (arith, control_of q n bs zs (sym (cond-true (eqb b 94) _ _ e) ∙ f)))
      (λ e. omega (arith, body_of q n bs zs (sym (cond-false (eqb b 94) _ _ e) ∙ f)))

  control_of : (q : ℕ) → q ≢ 92 → (bytes zs : List ℕ) → capped q bytes ≡ true → control_len q (bytes ++ q ∷ zs) ≡ length bytes
  control_of q n [] zs f = cond-true (eqb q q) 0 (1 + body_len q zs) (eq-eqb q q refl)
  control_of q n (b ∷ bs) zs f =
      let both = and_parts (not (eqb b q)) (free q bs) f in
      cond-false (eqb b q) 0 (1 + body_len q (bs ++ q ∷ zs)) (not-true (eqb b q) both.0) ∙ omega (arith, body_of q n bs zs both.1)

-- the bytes before the first quote that is not escaped, or all
abbrev pub Ended : ℕ → (List ℕ → Bool) → List ℕ → List ℕ → Type 0
Ended q passes raw zs = (zs ≡ []) ⊎ ((passes raw ≡ true) × ((ws : List ℕ) × (zs ≡ q ∷ ws)))

abbrev pub Split : ℕ → (List ℕ → Bool) → List ℕ → ℕ → Type 0
Split q passes bs n = (raw zs : List ℕ) × (bs ≡ raw ++ zs) × (n ≡ length raw) × Ended q passes raw zs

ended_by : (q : ℕ) (p r : List ℕ → Bool) (xs ys zs : List ℕ) → (p xs ≡ true → r ys ≡ true) → Ended q p xs zs → Ended q r ys zs
ended_by q p r xs ys zs f (inl e) = inl e
ended_by q p r xs ys zs f (inr (e, w)) = inr (f e, w)

split_more : (q b n : ℕ) (p r : List ℕ → Bool) (bs : List ℕ) → ((raw : List ℕ) → p raw ≡ true → r (b ∷ raw) ≡ true) → Split q p bs n → Split q r (b ∷ bs) (1 + n)
split_more q b n p r bs f (raw, zs, e, l, d) = (b ∷ raw, zs, ap (λ us. b ∷ us) e, omega (arith, l), ended_by q p r raw (b ∷ raw) zs (f raw) d)

pub free_slash : (q b : ℕ) (raw : List ℕ) → eqb b 92 ≡ true → freed q raw ≡ true → free q (b ∷ raw) ≡ true
free_slash q b raw e f = rw e f

pub free_plain : (q b : ℕ) (raw : List ℕ) → eqb b 92 ≡ false → eqb b q ≡ false → free q raw ≡ true → free q (b ∷ raw) ≡ true
free_plain q b raw e g f = rw (e, g) f

mutual
  pub body_split : (q : ℕ) (bs : List ℕ) → Split q (free q) bs (body_len q bs)
  body_split q [] = ([], [], refl, refl, inl refl)
  body_split q (b ∷ bs) =
      cond_both (eqb b q) _ _ (Split q (free q) (b ∷ bs)) (λ e. ([], b ∷ bs, refl, refl, inr (refl, (bs, ap (λ c. c ∷ bs) (eqb-true b q e)))))
      (λ e. cond_both (eqb b 92) _ _ (Split q (free q) (b ∷ bs)) (λ f. split_more q b (escaped_len q bs) (freed q) (free q) bs (λ raw g. free_slash q b raw f g) (escaped_split q bs))
      (λ f. split_more q b (body_len q bs) (free q) (free q) bs (λ raw g. free_plain q b raw f e g) (body_split q bs)))

  escaped_split : (q : ℕ) (bs : List ℕ) → Split q (freed q) bs (escaped_len q bs)
  escaped_split q [] = ([], [], refl, refl, inl refl)
  escaped_split q (b ∷ bs) =
      cond_both (eqb b 94) _ _ (Split q (freed q) (b ∷ bs)) (λ e. split_more q b (control_len q bs) (capped q) (freed q) bs (λ raw g. cond-true (eqb b 94) _ _ e ∙ g) (control_split q bs))
      (λ e. split_more q b (body_len q bs) (free q) (freed q) bs (λ raw g. past_cap q b raw e ∙ g) (body_split q bs))

  control_split : (q : ℕ) (bs : List ℕ) → Split q (capped q) bs (control_len q bs)
  control_split q [] = ([], [], refl, refl, inl refl)
  control_split q (b ∷ bs) =
      cond_both (eqb b q) _ _ (Split q (capped q) (b ∷ bs)) (λ e. ([], b ∷ bs, refl, refl, inr (refl, (bs, ap (λ c. c ∷ bs) (eqb-true b q e)))))
      (λ e. split_more q b (body_len q bs) (free q) (capped q) bs (λ raw g. rw e g) (body_split q bs))
