-- Sets of breakpoints, kept as numbers in order.
use Rattle.bx_debug.proofs.Words.{◌≡◌, ℕ, List, [], ◌∷◌, length, Bool, true, false, refl, sym, ap, subst, ◌∙◌, arith, pair_cmp}
use Rattle.std.proofs.Common.{BTreeSet, cond}
use Rattle.std.proofs.lemmas.Grind.{common_steps}
use Rattle.std.proofs.lemmas.Map.Lookups.{exact_pairs, exact_unsigned}
use Rattle.std.specs.Prelude.{IsTrue}
use Rattle.std.specs.BTreeSet.{IsSubset}
use Rattle.std.specs.List.{list_any}
use Rattle.std.specs.Ordering.{nat_cmp, eq_by_cmp}
use Rattle.std.specs.Cmp.{IsTotalOrder, tied_itself, nat_cmp_total, on_total, then_total, eq_by_cmp_equiv}
use Rattle.std.specs.FinSet as set
use Rattle.std.specs.FinSet.{contains-from_list, contains-insert, contains-remove, same_set, IsAntisymmetric}

pair_cmp_total : IsTotalOrder pair_cmp
pair_cmp_total = then_total (on_total (λ (r : ℕ × ℕ). r.0) nat_cmp_total) (on_total (λ (r : ℕ × ℕ). r.1) nat_cmp_total)

exact : IsAntisymmetric pair_cmp
exact = exact_pairs nat_cmp nat_cmp exact_unsigned exact_unsigned

pub held : (keys : List (ℕ × ℕ)) (q : ℕ × ℕ) → set.contains (set.from_list {R = pair_cmp} keys) q ≡ list_any (eq_by_cmp pair_cmp q) keys
held keys q = contains-from_list pair_cmp_total keys q

-- a key more
pub held_more : (old new : List (ℕ × ℕ)) (k : ℕ × ℕ) → ((q : ℕ × ℕ) → list_any (eq_by_cmp pair_cmp q) new ≡ cond (eq_by_cmp pair_cmp k q) true (list_any (eq_by_cmp pair_cmp q) old))
    → set.from_list {R = pair_cmp} new ≡ set.insert (set.from_list old) k
held_more old new k is = same_set pair_cmp_total exact _ _ (λ q.
    grind (arith, common_steps, held new q, is q, (eq_by_cmp_equiv pair_cmp_total).symm k q, held old q, contains-insert pair_cmp_total (set.from_list old) k q))

-- a key less
pub held_less : (old new : List (ℕ × ℕ)) (k : ℕ × ℕ) → ((q : ℕ × ℕ) → list_any (eq_by_cmp pair_cmp q) new ≡ cond (eq_by_cmp pair_cmp k q) false (list_any (eq_by_cmp pair_cmp q) old))
    → set.from_list {R = pair_cmp} new ≡ set.remove (set.from_list old) k
held_less old new k is = same_set pair_cmp_total exact _ _ (λ q.
    grind (arith, common_steps, held new q, is q, (eq_by_cmp_equiv pair_cmp_total).symm k q, held old q, contains-remove pair_cmp_total (set.from_list old) k q))

same_held : (xs ys : List (ℕ × ℕ)) → set.from_list {R = pair_cmp} xs ≡ set.from_list ys → (q : ℕ × ℕ) → list_any (eq_by_cmp pair_cmp q) xs ≡ list_any (eq_by_cmp pair_cmp q) ys
same_held xs ys is q = sym (held xs q) ∙ ap (λ s. set.contains s q) is ∙ held ys q

-- a set that holds nothing has no key
pub no_place : (keys : List (ℕ × ℕ)) → set.from_list {R = pair_cmp} keys ≡ set.empty → length keys ≡ 0
no_place [] e = refl
no_place (key ∷ keys) e = grind (arith, common_steps, tied_itself pair_cmp_total key, same_held (key ∷ keys) [] e key)

-- sets are the same where each holds what the other holds
pub each_holds : (s t : BTreeSet (ℕ × ℕ)) → IsSubset pair_cmp s t → IsSubset pair_cmp t s → set.from_list {R = pair_cmp} s.keys ≡ set.from_list t.keys
each_holds s t there back = same_set pair_cmp_total exact _ _ (λ q. held s.keys q ∙ both_ways (there q) (back q) ∙ sym (held t.keys q)) where
  both_ways : {a b : Bool} → (IsTrue a → IsTrue b) → (IsTrue b → IsTrue a) → a ≡ b
  both_ways f g = grind (arith, common_steps)

pub holds_each : (s t : BTreeSet (ℕ × ℕ)) → set.from_list {R = pair_cmp} s.keys ≡ set.from_list t.keys → IsSubset pair_cmp s t
holds_each s t is q h = subst IsTrue (same_held s.keys t.keys is q) h
