-- Names are ASCII, and so UTF-8.
use Rattle.bx_plan.proofs.Words.{◌≡◌, ℕ, ◌<◌, ◌&&◌, true, false, List, [], ◌∷◌, length, arith, list_all, nat_le, is_utf8, and_parts, false_from_ne_true, nat_tests, IsUtf8-from_is_utf8, is_utf8-from_IsUtf8, is_name, IsUtf8, IsAscii}
use Rattle.bx_plan.proofs.Words.{IsUtf8-from_ascii, is_name_byte}
use Rattle.std.proofs.lemmas.Str.Ascii.{IsAscii-nil, IsAscii-cons}

name_byte_small : (b : ℕ) → is_name_byte b ≡ true → b < 128
name_byte_small b h = grind (arith, nat_tests)

name_bytes_ascii : (name : List ℕ) → list_all is_name_byte name ≡ true → IsAscii name
name_bytes_ascii [] h = IsAscii-nil
name_bytes_ascii (b ∷ bs) h =
    let parts = and_parts (is_name_byte b) (list_all is_name_byte bs) h in
    IsAscii-cons b bs (name_byte_small b parts.0) (name_bytes_ascii bs parts.1)

pub name_is_utf8 : (name : List ℕ) → is_name name ≡ true → IsUtf8 name
name_is_utf8 name h = IsUtf8-from_ascii name (name_bytes_ascii name (and_parts (nat_le 1 (length name) && nat_le (length name) 64) (list_all is_name_byte name) h).1)

pub is_utf8_where : (bs : List ℕ) → IsUtf8 bs → is_utf8 bs ≡ true
is_utf8_where = is_utf8-from_IsUtf8

pub not_utf8_where : (bs : List ℕ) → ¬ (IsUtf8 bs) → is_utf8 bs ≡ false
not_utf8_where bs h = false_from_ne_true (is_utf8 bs) (λ e. h (IsUtf8-from_is_utf8 bs e))
