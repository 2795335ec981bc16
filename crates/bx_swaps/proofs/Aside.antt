-- Choices that are set aside, behind those that come before them.
use Rattle.bx_swaps.proofs.Words.{◌≡◌, ◌∙◌, ℕ, ◌+◌, ◌-◌, ◌<◌, ◌≤◌, Bool, true, false, length, take, drop, refl, sym, ap, arith, ◌==◌, if◌then◌else◌, slice_get, Run, Ended, Course, reached, brought, Brings}
use Rattle.bx_swaps.proofs.Words.{IsExchanged, among_more, ends_after, further, long_after, bounded, few_applied, behind_came, set_aside, IsSetAside, IsUndone}
use Rattle.std.proofs.lemmas.Bool.{eqb-true, eqb-false}
use Rattle.std.proofs.lemmas.List.{length-drop, length-take-le}
use Rattle.bx_replay.proofs.Bringing.{brought_before, brought_next}
use Rattle.bx_replay.proofs.Prefixes.{onward}
use Rattle.bx_swaps.proofs.Coming.{brings_so}
use Rattle.bx_swaps.proofs.Gathering.{aside_on, behind_bounds}

-- those that are set aside begin with that choice, when so many were looked at
pub record AsideAt (count at k : ℕ) (old new : Course) (first : ℕ) : Type 0 where
  pub is : set_aside (count - at) at first new ≡ set_aside (count - (k + 1)) (k + 1) k old
  pub exchanged : IsExchanged count old new
  pub back : k ≤ first
  pub less : first < at
  pub there : slice_get new.choices first ≡ slice_get old.choices k

aside_there : (mid new : Course) (at first came : ℕ) → at < length mid.choices → first < at → Brings at first mid new came → (same : Bool) → (came == first) ≡ same
    → slice_get new.choices (if same then first + 1 else first) ≡ slice_get mid.choices first
aside_there mid new at first came within less brings true e =
    let here : came ≡ first = eqb-true came first e in
    ap (λ cs. slice_get cs (first + 1)) (brings.choices ∙ ap (λ n. brought at n mid.choices) here) ∙ brought_next mid.choices at first (Run 0) within less
aside_there mid new at first came within less brings false e =
    let apart = eqb-false came first e in
    let low = brings.reach in
    let high = brings.start in
    let behind : first < came = ne_less first came low (λ same. apart (sym same)) in
    ap (λ cs. slice_get cs first) brings.choices ∙ brought_before mid.choices at came (Run 0) first within high behind
  where
    ne_less : (a b : ℕ) → a ≤ b → (a ≡ b → ⊥) → a < b
    ne_less a b le ne = omega (arith, ne)

-- one choice more
pub aside_more : (count at k : ℕ) (old mid new : Course) (first came next : ℕ) → at < count → count ≤ length old.choices → AsideAt count at k old mid first → Brings at first mid new came → next ≡ behind_came first came
    → AsideAt count (at + 1) k old new next
aside_more count at k old mid new first came next inside within so_far brings is =
    let long = long_after count old mid so_far.exchanged in
    let less = so_far.less in
    let back = so_far.back in
    let bound = behind_bounds first came in
    record {
      is = ap (λ n. set_aside (count - (at + 1)) (at + 1) n new) is ∙ aside_on count at first came mid new inside (brings_so at first mid new came (omega arith) brings (omega arith)) ∙ so_far.is;
      exchanged = further count old mid new so_far.exchanged (among_more (at + 1) count mid new (omega arith) brings.exchanges);
      back = omega (arith, bound.0, is);
      less = omega (arith, bound.1, is);
      there = ap (slice_get new.choices) is ∙ aside_there mid new at first came (omega arith) less brings (came == first) refl ∙ so_far.there;
    }

-- where a prefix applies each choice, so does each shorter one
prefix_applied : (c : Course) (m n : ℕ) → m ≤ n → n ≤ length c.choices → (reached n c).applied ≡ c.start.applied + n → (reached m c).applied ≡ c.start.applied + m
prefix_applied c m n le within all =
    let few = bounded c m (omega arith) in
    let on = ap (λ (e : Ended). e.applied) (onward c.image c.start c.choices m n (reached m c) c.choices le refl refl) in
    omega (arith, few_applied c.image (take (n - m) (drop m c.choices)) (reached m c), length-take-le (n - m) (drop m c.choices) (omega (arith, length-drop m c.choices)))

pub undone_leads : (count k : ℕ) (old new : Course) (before : ℕ) → count ≤ length old.choices → (reached count old).applied ≡ old.start.applied + count → IsSetAside count k old new before → IsUndone count k old new before
undone_leads count k old new before within all aside =
    let long = long_after count old new aside.exchanged in
    let begins = ap (λ (c : Course). c.start.applied) aside.exchanged.is in
    let end = ap (λ (e : Ended). e.applied) (ends_after count count old new aside.exchanged (omega arith)) in
    let inside = aside.within in
    let here = prefix_applied new before count (omega arith) (omega arith) (omega arith) in
    record { aside = aside; leads = omega arith }
