-- Where bytes stop being UTF-8.
use Rattle.bx_text_laws.proofs.Commons.{◌≡◌, ◌≢◌, ℕ, zero, suc, ◌+◌, ◌-◌, ◌≤◌, ◌<◌, List, [], ◌∷◌, ◌++◌, take, drop, get_or, length, refl, sym, ap, ◌∙◌, subst, arith, drop_at, take_at, take_all}
use Rattle.bx_text_laws.proofs.Commons.{length-append, append-nil, le_refl, ◌⊎◌, inl, inr, IsUtf8, cases_lt, encode_ascii, IsUtf8-nil, IsUtf8-append}
use Rattle.bx_text_laws.proofs.Commons.{IsUtf8-encode, IsUtf8-take, IsUtf8-drop, IsCharBoundary-before_ascii, IsCharBoundary-from_take, utf8_valid_len_le}
use Rattle.bx_text_laws.proofs.Commons.{utf8_valid_len-IsValidUpTo}
use Rattle.std.specs.Str.Lossy.{utf8_valid_len}
use Rattle.std.proofs.Math.Seq.{take-append-add, take-length}
use Rattle.std.proofs.Math.Utf8.{low_scalar}
use Rattle.std.proofs.lemmas.List.{take-append-le, take-append-drop, length-take-le, get_or_at}
use Rattle.bx_text.proofs.Texts.{up_to}
use Rattle.bx_text_laws.specs.Refusals.{NoCharacter}

-- one text in two ways
pub seam : (xs us ys vs : List ℕ) → xs ++ us ≡ ys ++ vs → length xs ≤ length ys → (ts : List ℕ) × (ys ≡ xs ++ ts) × (us ≡ ts ++ vs)
seam [] us ys vs e l = (ys, refl, e)
seam (x ∷ xs) us [] vs e l = absurd (omega (arith, l))
seam (x ∷ xs) us (y ∷ ys) vs e l =
    let tail : xs ++ us ≡ ys ++ vs = cc in
    let (ts, a, b) = seam xs us ys vs tail (omega (arith, l)) in
    (ts, (cc), b)

-- a byte of ASCII is a character
pub ascii : (b : ℕ) (bs : List ℕ) → b < 128 → NoCharacter (b ∷ bs) → ⊥
ascii b bs l n = n.longest 1 (omega arith) (subst IsUtf8 (encode_ascii b l) (IsUtf8-encode b (low_scalar b (omega (arith, l)))))

-- the longest front that is UTF-8
pub valid_front : (bs : List ℕ) → IsUtf8 (take (utf8_valid_len bs) bs)
unfolding utf8_valid_len
valid_front bs = (up_to bs (length bs)).0

valid_most : (bs : List ℕ) (k : ℕ) → IsUtf8 (take k bs) → k ≤ length bs → k ≤ utf8_valid_len bs
unfolding utf8_valid_len
valid_most bs = (up_to bs (length bs)).1

-- bytes beyond which a text is UTF-8 no more
abbrev pub Seam : List ℕ → Type 0
Seam text = (bytes rest : List ℕ) × (text ≡ bytes ++ rest) × IsUtf8 bytes × NoCharacter rest × (utf8_valid_len text ≡ length bytes)

pub least : (m n : ℕ) → (m ≤ n) ⊎ (n ≤ m)
least m n = elim (cases_lt n m) [ inl l ↦ inr (omega arith) | inr l ↦ inl l ]

pub to_seam : (text : List ℕ) → utf8_valid_len text ≢ length text → Seam text
to_seam text d = (bytes, rest, e, valid_front text, record { short = short; front = IsUtf8-nil; longest = longest }, sym size)
  where
    n : ℕ
    n = utf8_valid_len text

    bytes : List ℕ
    bytes = take n text

    rest : List ℕ
    rest = drop n text

    e : text ≡ bytes ++ rest
    e = sym (take-append-drop n text)

    size : length bytes ≡ n
    size = length-take-le n text (utf8_valid_len_le text)

    all : length text ≡ n + length rest
    all = omega (arith, ap length e, length-append bytes rest, size)

    short : 0 < length rest
    short = omega (arith, all, d, utf8_valid_len_le text)

    joined : (k : ℕ) → take (n + k) text ≡ bytes ++ take k rest
    joined k = ap (λ us. take (n + k) us) e ∙ ap (λ m. take (m + k) (bytes ++ rest)) (sym size) ∙ take-append-add bytes rest k

    within : (k : ℕ) → 0 < k → k ≤ length rest → IsUtf8 (take k rest) → ⊥
    within k some l u =
        omega (arith, some, valid_most text (n + k) (subst IsUtf8 (sym (joined k)) (IsUtf8-append bytes (take k rest) (valid_front text) u)) (omega (arith, all, l)))

    longest : (k : ℕ) → 0 < k → IsUtf8 (take k rest) → ⊥
    longest k some u = elim (least k (length rest)) [ inl l ↦ within k some l u | inr l ↦ within (length rest) short (le_refl (length rest)) (subst IsUtf8 (take_all k rest l ∙ sym (take-length rest)) u) ]

pub from_seam : (bytes rest : List ℕ) → IsUtf8 bytes → NoCharacter rest → utf8_valid_len (bytes ++ rest) ≡ length bytes
from_seam bytes rest v n =
    utf8_valid_len-IsValidUpTo (bytes ++ rest) m
    (record { short = omega (arith, length-append bytes rest, n.short); front = subst IsUtf8 (sym (take_at bytes rest m refl)) v; longest = longest })
  where
    m : ℕ
    m = length bytes

    behind : (ys : List ℕ) → IsUtf8 (bytes ++ ys) → IsUtf8 ys
    behind ys u =
        subst IsUtf8 (drop_at bytes ys m refl)
        (IsUtf8-drop (bytes ++ ys) m u (IsCharBoundary-from_take (bytes ++ ys) m u (omega (arith, length-append bytes ys)) (subst IsUtf8 (sym (take_at bytes ys m refl)) v)))

    longest : (k : ℕ) → m < k → IsUtf8 (take k (bytes ++ rest)) → ⊥
    longest k l u =
        let whole : k ≡ m + (k - m) = omega (arith, l) in
        n.longest (k - m) (omega (arith, l)) (behind (take (k - m) rest) (subst IsUtf8 (ap (λ k. take k (bytes ++ rest)) whole ∙ take-append-add bytes rest (k - m)) u))

-- no character begins bytes, whatever of ASCII follows them
abbrev pub AsciiNext : List ℕ → Type 0
AsciiNext [] = Unit {0}
AsciiNext (b ∷ bs) = b < 128

pub more_bytes : (ts zs : List ℕ) → NoCharacter ts → AsciiNext zs → NoCharacter (ts ++ zs)
more_bytes ts zs n a = record { short = omega (arith, length-append ts zs, n.short); front = IsUtf8-nil; longest = longest }
  where
    none : IsUtf8 ts → ⊥
    none u = n.longest (length ts) n.short (subst IsUtf8 (sym (take-length ts)) u)

    beyond : (zs : List ℕ) → AsciiNext zs → (j : ℕ) → IsUtf8 (ts ++ take j zs) → ⊥
    beyond zs a zero u = none (subst IsUtf8 (append-nil ts) u)
    beyond [] a j u = none (subst IsUtf8 (append-nil ts) u)
    beyond (z ∷ zs) a (suc j) u =
        let text : List ℕ = ts ++ z ∷ take j zs in
        let low : get_or text (length ts) 0 < 128 = omega (arith, get_or_at ts z (take j zs) 0 (length ts) refl, a) in
        none (subst IsUtf8 (take_at ts (z ∷ take j zs) (length ts) refl) (IsUtf8-take text (length ts) u (IsCharBoundary-before_ascii text (length ts) (omega (arith, length-append ts (z ∷ take j zs))) low)))

    longest : (k : ℕ) → 0 < k → IsUtf8 (take k (ts ++ zs)) → ⊥
    longest k some u =
        elim (least k (length ts)) [
          | inl l ↦ n.longest k some (subst IsUtf8 (take-append-le k ts zs l) u)
          | inr l ↦ let whole : k ≡ length ts + (k - length ts) = omega (arith, l) in beyond zs a (k - length ts) (subst IsUtf8 (ap (λ k. take k (ts ++ zs)) whole ∙ take-append-add ts zs (k - length ts)) u)
        ]

pub fewer_bytes : (ts zs : List ℕ) → 0 < length ts → NoCharacter (ts ++ zs) → NoCharacter ts
fewer_bytes ts zs some n = record { short = some; front = IsUtf8-nil; longest = longest }
  where
    longest : (k : ℕ) → 0 < k → IsUtf8 (take k ts) → ⊥
    longest k more u =
        elim (least k (length ts)) [
          | inl l ↦ n.longest k more (subst IsUtf8 (sym (take-append-le k ts zs l)) u)
          | inr l ↦ n.longest (length ts) some (subst IsUtf8 (take_all k ts l ∙ sym (take_at ts zs (length ts) refl)) u)
        ]
