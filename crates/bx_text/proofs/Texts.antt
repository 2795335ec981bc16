-- Where texts stop being UTF-8, and those that are it whole.
use Rattle.std.proofs.Common.{◌≡◌, ◌≢◌, ℕ, zero, suc, ◌≤◌, List, length, sym, ap, ◌∙◌, subst, arith, take}
use Rattle.std.proofs.Math.Seq.{take-length}
use Rattle.std.proofs.lemmas.Bool.{both_ways, cond_both}
use Rattle.bx_text.specs.Lexing.{valid_front}
use Rattle.std.specs.Str.{IsUtf8, is_utf8, IsAscii}
use Rattle.std.specs.Str.Lossy.{utf8_valid_len, valid_len_up_to}
use Rattle.std.proofs.lemmas.Str.{utf8_valid_len-IsUtf8, IsUtf8-from_ascii, IsUtf8-nil, IsUtf8-from_is_utf8, is_utf8-from_IsUtf8}

-- the longest front that is UTF-8
pub up_to : (bs : List ℕ) (n : ℕ) → IsUtf8 (take (valid_len_up_to bs n) bs) × ((k : ℕ) → IsUtf8 (take k bs) → k ≤ n → k ≤ valid_len_up_to bs n)
up_to bs zero = (IsUtf8-nil, λ k u l. l)
up_to bs (suc n) =
    let P : ℕ → Type 0 = λ m. IsUtf8 (take m bs) × ((k : ℕ) → IsUtf8 (take k bs) → k ≤ suc n → k ≤ m) in
    let below = up_to bs n in
    cond_both (is_utf8 (take (suc n) bs)) _ _ P (λ e. (IsUtf8-from_is_utf8 (take (suc n) bs) e, λ k u l. l))
    (λ e. (below.0, λ k u l. let last : k ≢ suc n = λ is. both_ways (is_utf8 (take (suc n) bs)) e (is_utf8-from_IsUtf8 (take (suc n) bs) (subst (λ k. IsUtf8 (take k bs)) is u)) in below.1 k u (omega (arith, l, last))))

pub valid_is : (bs : List ℕ) → utf8_valid_len bs ≡ length bs → IsUtf8 bs
unfolding utf8_valid_len
valid_is bs e = subst IsUtf8 (ap (λ n. take n bs) e ∙ take-length bs) (up_to bs (length bs)).0

pub all_valid : (bs : List ℕ) → IsUtf8 bs → utf8_valid_len bs ≡ length bs
all_valid bs u = utf8_valid_len-IsUtf8 bs u

pub utf8_of_ascii : (bs : List ℕ) → IsAscii bs → IsUtf8 bs
utf8_of_ascii bs a = IsUtf8-from_ascii bs a

pub valid_all : (bs : List ℕ) → IsUtf8 bs → bs ≡ valid_front bs
valid_all bs u = sym (ap (λ n. take n bs) (all_valid bs u) ∙ take-length bs)
