-- A comment is skipped as its line's end.
use Rattle.std.proofs.Common.{◌≡◌, ℕ, suc, ◌+◌, Bool, true, false, eqb, List, [], ◌∷◌, drop, refl, arith, ap, ◌∙◌, sym, subst, add-zero, length, Ok, Err, Result, MatchResult}
use Rattle.std.specs.List.{prefix_len}
use Rattle.std.proofs.lemmas.Bool.{eqb-true}
use Rattle.bx_terms.specs.Outcomes.{Gives, ◌>>=◌}
use Rattle.bx_terms.specs.declared.faults.Fault.{Fault}
use Rattle.bx_text.specs.Bytes.{begins, is_not_feed, is_percent}
use Rattle.std.specs.Str.Lossy.{utf8_valid_len}
use Rattle.bx_text.proofs.Outcomes.{gives_err}
use Rattle.bx_text.specs.Place.{Place, after}
use Rattle.bx_text.specs.Blank.{skip_from, skip_line, line_of, comment_end, skip}

pub line_skipped : (bs : List ℕ) (at line : ℕ) → skip_line bs at line ≡ skip_from (drop (prefix_len is_not_feed bs) bs) (at + prefix_len is_not_feed bs) line
line_skipped [] at line = rw add-zero refl
line_skipped (b ∷ bs) at line = split (eqb b 10) refl (line_skipped bs (at + 1) line)
  where
    fed : (c : ℕ) → 10 ≡ c → skip_line (c ∷ bs) at line ≡ skip_from (drop (prefix_len is_not_feed (c ∷ bs)) (c ∷ bs)) (at + prefix_len is_not_feed (c ∷ bs)) line
    fed c e = let P : ℕ → Type 0 = λ c. skip_line (c ∷ bs) at line ≡ skip_from (drop (prefix_len is_not_feed (c ∷ bs)) (c ∷ bs)) (at + prefix_len is_not_feed (c ∷ bs)) line in subst P e (rw add-zero refl)

    split : (t : Bool) → eqb b 10 ≡ t → skip_line bs (at + 1) line ≡ skip_from (drop (prefix_len is_not_feed bs) bs) ((at + 1) + prefix_len is_not_feed bs) line
        → skip_line (b ∷ bs) at line ≡ skip_from (drop (prefix_len is_not_feed (b ∷ bs)) (b ∷ bs)) (at + prefix_len is_not_feed (b ∷ bs)) line
    split true e h = fed b (sym (eqb-true b 10 e))
    split false e h =
        let n = prefix_len is_not_feed bs in
        let P : ℕ → Type 0 = λ k. skip_from (drop n bs) ((at + 1) + n) line ≡ skip_from (drop k (b ∷ bs)) (at + k) line in
        let e1 : suc n ≡ 1 + n = omega arith in
        let e2 : (at + 1) + n ≡ at + suc n = omega arith in
        let moved : skip_from (drop n bs) ((at + 1) + n) line ≡ skip_from (drop (1 + n) (b ∷ bs)) (at + (1 + n)) line =
        subst P e1 (ap (λ a. skip_from (drop n bs) a line) e2) in
        rw e (h ∙ moved)

pub comment_skipped : (bs : List ℕ) (at line : ℕ) → skip_from (37 ∷ bs) at line ≡ (comment_end (record { rest = bs; at = at + 1; line = line }) >>= skip)
comment_skipped bs at line = by_test (eqb (utf8_valid_len (line_of bs)) (length (line_of bs))) refl
  where
    by_test : (t : Bool) → eqb (utf8_valid_len (line_of bs)) (length (line_of bs)) ≡ t
        → skip_from (37 ∷ bs) at line ≡ (comment_end (record { rest = bs; at = at + 1; line = line }) >>= skip)
    by_test true h = rw h (line_skipped bs (at + 1) line)
    by_test false h = rw h refl

-- the same at a place where the comment begins
pub from_comment : (p : Place) → begins is_percent p.rest ≡ true → skip p ≡ (comment_end (after p 1) >>= skip)
from_comment p is = at_list p.rest is
  where
    at_list : (bs : List ℕ) → begins is_percent bs ≡ true → skip_from bs p.at p.line ≡ (comment_end (record { rest = drop 1 bs; at = p.at + 1; line = p.line }) >>= skip)
    at_list [] is = cc
    at_list (c ∷ bs) is =
        let P : ℕ → Type 0 = λ c. skip_from (c ∷ bs) p.at p.line ≡ (comment_end (record { rest = drop 1 (c ∷ bs); at = p.at + 1; line = p.line }) >>= skip) in
        subst P (sym (eqb-true c 37 is)) (comment_skipped bs p.at p.line)

pub comment_gives : {X : Type 0} (view : X → Place) (p : Place) (r : Result X Fault) → begins is_percent p.rest ≡ true → Gives ⊥ view r (comment_end (after p 1))
    → MatchResult r (λ q. skip (view q) ≡ skip p) (λ e. Gives ⊥ view (Err e) (skip p))
comment_gives view p (Ok x) is h = sym (from_comment p is ∙ ap (λ r. r >>= skip) h)
comment_gives view p (Err e) is h = gives_err view view e (comment_end (after p 1)) (skip p) (λ t. t) (λ g. from_comment p is ∙ ap (λ r. r >>= skip) g) h
