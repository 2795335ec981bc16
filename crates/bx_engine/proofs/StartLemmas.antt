-- A start, by the tokens of its two atoms.
use Rattle.std.proofs.Common.{◌≡◌, ◌∙◌, ◌+◌, ℕ, Bool, List, Option, None, Some, ap, eq-eqb, false, length, nat_eq, not, refl, slice_get, true}
use Rattle.std.specs.Option.{option_eq}
use Rattle.std.proofs.lemmas.Bool.{eqb-true}
use Rattle.bx_engine.specs.Starts.{begun_by, ended_by, start_in, token_in}

pub start_found : (text m f : List ℕ) (colon end : ℕ) → token_in text 0 ≡ Some (m, colon) → slice_get text colon ≡ Some 58
    → token_in text (colon + 1) ≡ Some (f, end) → end ≡ length text → start_in text ≡ Some (m, f)
start_found text m f colon end module_is colon_is function_is end_is =
    let ended : ended_by text m (Some (f, end)) ≡ Some (m, f) = rw (eq-eqb end (length text) end_is) refl in
    let begun : begun_by text (Some (m, colon)) ≡ Some (m, f) = rw colon_is (ap (ended_by text m) function_is ∙ ended) in
    ap (begun_by text) module_is ∙ begun

-- a code that isn't unlike a colon is one
pub colon_read : (code : Option ℕ) → not (option_eq nat_eq code (Some 58)) ≡ false → code ≡ Some 58
colon_read None same = cc
colon_read (Some c) same = go (nat_eq c 58) refl same
  where
    go : (b : Bool) → nat_eq c 58 ≡ b → not b ≡ false → Some c ≡ Some 58
    go true e h = ap Some (eqb-true c 58 e)
    go false e h = cc
