-- Pids that rise, one more and one less.
use Rattle.std.proofs.Common.{◌≡◌, ℕ, ◌+◌, ◌==◌, ◌<◌, ◌≤◌, List, [], ◌∷◌, length, refl, ap, ◌∙◌, arith, inl, inr, false, drop, get_or, suc, zero}
use Rattle.std.specs.Prelude.{nat_lt}
use Rattle.std.specs.List.{insert}
use Rattle.std.proofs.lemmas.Bool.{cases_Bool, eq-eqb, or_parts}
use Rattle.std.proofs.lemmas.Bool.Decides.{nat_tests}
use Rattle.bx_cells.specs.Links.{AllAbove, IsRising, among, placed, linked, unlinked, rank}

-- what is above a number is above a smaller one
above_less : (m n : ℕ) (ns : List ℕ) → m < n → AllAbove n ns → AllAbove m ns
above_less m n [] h a = tt
above_less m n (k ∷ ns) h a = (omega (arith, a.0), above_less m n ns h a.1)

above_placed : (k n : ℕ) (ns : List ℕ) → k < n → AllAbove k ns → AllAbove k (placed n ns)
above_placed k n [] h a = (h, tt)
above_placed k n (m ∷ ms) h a = elim (cases_Bool (nat_lt m n)) [ inl t ↦ rw t (a.0, above_placed k n ms h a.1) | inr f ↦ rw f (h, a) ]

-- a pid that is not among them is placed where they still rise
pub rising_placed : (n : ℕ) (ns : List ℕ) → IsRising ns → among n ns ≡ false → IsRising (placed n ns)
rising_placed n [] r e = (tt, tt)
rising_placed n (m ∷ ms) r e =
    let apart = or_parts (m == n) (among n ms) e in elim (cases_Bool (nat_lt m n)) [
      | inl t ↦ rw t (above_placed m n ms (grind (arith, nat_tests)) r.0, rising_placed n ms r.1 apart.1)
      | inr f ↦ let less : n < m = let other = apart.0 in grind (arith, nat_tests) in rw f ((less, above_less n m ms less r.0), r)
    ]

-- it is placed behind those that are less
pub insert_rank : (n : ℕ) (ns : List ℕ) → insert ns (rank n ns) n ≡ placed n ns
insert_rank n [] = refl
insert_rank n (m ∷ ms) = elim (cases_Bool (nat_lt m n)) [
  | inl t ↦ let e : 1 + rank n ms ≡ suc (rank n ms) = omega arith in rw (t, e, insert_rank n ms)
  | inr f ↦ rw f
]

pub rank_le : (n : ℕ) (ns : List ℕ) → rank n ns ≤ length ns
rank_le n [] = omega arith
rank_le n (m ∷ ms) = grind (arith, rank_le n ms)

-- what is taken out keeps the order of the others
above_kept : (k n : ℕ) (ns : List ℕ) → AllAbove k ns → AllAbove k (unlinked n ns)
above_kept k n [] a = tt
above_kept k n (m ∷ ms) a = elim (cases_Bool (m == n)) [ inl t ↦ rw t (above_kept k n ms a.1) | inr f ↦ rw f (a.0, above_kept k n ms a.1) ]

pub rising_kept : (n : ℕ) (ns : List ℕ) → IsRising ns → IsRising (unlinked n ns)
rising_kept n [] r = tt
rising_kept n (m ∷ ms) r = elim (cases_Bool (m == n)) [ inl t ↦ rw t (rising_kept n ms r.1) | inr f ↦ rw f (above_kept m n ms r.0, rising_kept n ms r.1) ]

-- a pid that was not among them leaves no trace once it is taken out again
none_out : (n : ℕ) (ns : List ℕ) → among n ns ≡ false → unlinked n ns ≡ ns
none_out n [] e = refl
none_out n (m ∷ ms) e = let apart = or_parts (m == n) (among n ms) e in rw (apart.0, none_out n ms apart.1)

placed_out : (n : ℕ) (ns : List ℕ) → among n ns ≡ false → unlinked n (placed n ns) ≡ ns
placed_out n [] e = rw (eq-eqb n n refl)
placed_out n (m ∷ ms) e =
    let apart = or_parts (m == n) (among n ms) e in elim (cases_Bool (nat_lt m n)) [
      | inl t ↦ rw (t, apart.0, placed_out n ms apart.1)
      | inr f ↦ rw (f, eq-eqb n n refl) (none_out n (m ∷ ms) e)
    ]

pub unlinked_linked : (n : ℕ) (ns : List ℕ) → among n ns ≡ false → unlinked n (linked n ns) ≡ ns
unlinked_linked n ns e = rw e (placed_out n ns e)

-- counting those that are less, from the front
pub rank_here : (n : ℕ) (ns : List ℕ) (i d : ℕ) → i < length ns → n ≤ get_or ns i d → rank n (drop i ns) ≡ 0
rank_here n [] i d h l = absurd (omega arith)
rank_here n (m ∷ ms) zero d h l = grind (arith, nat_tests)
rank_here n (m ∷ ms) (suc i) d h l = rank_here n ms i d (omega arith) l

pub rank_next : (n : ℕ) (ns : List ℕ) (i d : ℕ) → i < length ns → get_or ns i d < n → rank n (drop i ns) ≡ 1 + rank n (drop (i + 1) ns)
rank_next n [] i d h l = absurd (omega arith)
rank_next n (m ∷ ms) zero d h l = grind (arith, nat_tests)
rank_next n (m ∷ ms) (suc i) d h l =
    rank_next n ms i d (omega arith) l ∙ ap (λ k. 1 + rank n (drop k (m ∷ ms))) {x = suc (i + 1)} {y = suc i + 1} (omega arith)
