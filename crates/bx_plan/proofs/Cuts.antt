-- A text cut at a mark, by the place of the mark, and the parts that come of it.
use Rattle.bx_plan.proofs.Words.{◌≡◌, ℕ, zero, suc, ◌+◌, ◌-◌, ◌<◌, true, List, [], ◌∷◌, Option, Some, None, length, take, drop, refl, sym, ap, ◌∙◌, arith, add-one, option_map, length-drop, nat_eq, common_steps, slice_index, take-length}
use Rattle.bx_plan.proofs.Words.{IsPlace, cond-false, cond-true, false_from_ne_true, cut, parts_of}
use Rattle.memchr.specs.Find.{is_byte, IsFirstByte}

-- a byte is the mark
abbrev IsMark : ℕ → List ℕ → ℕ → Type 0
IsMark mark text k = nat_eq (slice_index text k) mark ≡ true

abbrev with_first : ℕ → Option (List ℕ × List ℕ) → Option (List ℕ × List ℕ)
with_first b parts = option_map (λ parts. (b ∷ parts.0, parts.1)) parts

later : (mark b : ℕ) (bs : List ℕ) → (IsMark mark (b ∷ bs) 0 → ⊥) → cut mark (b ∷ bs) ≡ with_first b (cut mark bs)
later mark b bs apart = cond-false (nat_eq b mark) (Some ([], bs)) (with_first b (cut mark bs)) (false_from_ne_true (nat_eq b mark) apart)

no_mark : (mark : ℕ) (text : List ℕ) → ((k : ℕ) → k < length text → IsMark mark text k → ⊥) → cut mark text ≡ None
no_mark mark [] none = refl
no_mark mark (b ∷ bs) none = later mark b bs (none 0 (omega arith)) ∙ ap (with_first b) (no_mark mark bs (λ k h. none (suc k) (omega (arith, h))))

at_mark : (mark : ℕ) (text : List ℕ) (at : ℕ) → at < length text → ((k : ℕ) → k < at → IsMark mark text k → ⊥) → IsMark mark text at → cut mark text ≡ Some (take at text, drop (suc at) text)
at_mark mark [] at h none is = absurd (omega (arith, h))
at_mark mark (b ∷ bs) zero h none is = cond-true (nat_eq b mark) (Some ([], bs)) (with_first b (cut mark bs)) is
at_mark mark (b ∷ bs) (suc at) h none is =
    later mark b bs (none 0 (omega arith)) ∙ ap (with_first b) (at_mark mark bs at (omega (arith, h)) (λ k l. none (suc k) (omega (arith, l))) is)

pub placed : (mark : ℕ) (text : List ℕ) (place : Option ℕ) → IsFirstByte (is_byte mark) text place → IsPlace mark text place
placed mark text None none = no_mark mark text (λ k h. none k (omega arith) h)
placed mark text (Some at) is = (is.0.high, at_mark mark text at is.0.high (λ k h. is.0.before k (omega arith) h) is.1 ∙ ap (λ n. Some (take at text, drop n text)) (sym (add-one at)))

pub cut_some : (mark : ℕ) (text : List ℕ) (i : ℕ) → cut mark text ≡ Some (take i text, drop (i + 1) text) → Some (take i text, take (length text - (i + 1)) (drop (i + 1) text)) ≡ cut mark text
cut_some mark text i h = grind (arith, common_steps, length-drop, take-length)

-- the parts, by the first cut
abbrev parts_by : List ℕ → ℕ → Option (List ℕ × List ℕ) → List (List ℕ)
parts_by text mark None = text ∷ []
parts_by text mark (Some parts) = parts.0 ∷ parts_of mark parts.1

parts_by_cut : (mark : ℕ) (text : List ℕ) → parts_of mark text ≡ parts_by text mark (cut mark text)
parts_by_cut mark [] = refl
parts_by_cut mark (b ∷ bs) = grind (arith, parts_by_cut mark bs)

pub parts_none : (mark : ℕ) (text : List ℕ) → cut mark text ≡ None → parts_of mark text ≡ text ∷ []
parts_none mark text h = parts_by_cut mark text ∙ ap (parts_by text mark) h

pub parts_some : (mark : ℕ) (text part behind : List ℕ) → cut mark text ≡ Some (part, behind) → parts_of mark text ≡ part ∷ parts_of mark behind
parts_some mark text part behind h = parts_by_cut mark text ∙ ap (parts_by text mark) h
