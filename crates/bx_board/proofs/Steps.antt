-- What a board keeps is kept by each event.
use Rattle.std.proofs.Common.{◌≡◌, ◌≢◌, ◌⊎◌, inl, inr, ℕ, ◌<◌, ◌≤◌, ◌&&◌, nat_lt, Bool, true, false, List, [], ◌∷◌, ◌++◌, length, refl, sym, ap, subst, ◌∙◌, arith}
use Rattle.std.specs.Prelude.{IsTrue}
use Rattle.std.proofs.lemmas.List.{get_or-set_same, get_or-set_other, length-set, get_or_past}
use Rattle.std.proofs.lemmas.Bool.{cases_eq, both_ways, and_parts, and_from, ltb-true, lt-ltb, ltb-false, cases_Bool}
use Rattle.bx_world.specs.Running.{Ended}
use Rattle.bx_plan.specs.Chains.{above}
use Rattle.bx_board.specs.declared.slots.Event.{Event, TheVariants.Lease, TheVariants.Submit, TheVariants.GiveBack, TheVariants.Stop}
use Rattle.bx_board.specs.Jobs.{Job, end_of, work_of}
use Rattle.bx_board.specs.Machine.{Slot, Waiting, Leased, Done, Frontier, standing, is_waiting, is_done, is_free, May, with_slot, after, initial, replay, IsLegal}
use Rattle.bx_board.specs.Kept.{Kept, then, HasHistory, IsKept}

pub is_true : (b : Bool) → IsTrue b → b ≡ true
is_true b h = h

pub true_is : (b : Bool) → b ≡ true → IsTrue b
true_is b h = h

pub below_or_past : (n m : ℕ) → (n < m) ⊎ (m ≤ n)
below_or_past n m = one (cases_Bool (nat_lt n m)) where
  one : (nat_lt n m ≡ true) ⊎ (nat_lt n m ≡ false) → (n < m) ⊎ (m ≤ n)
  one (inl e) = inl (ltb-true n m e)
  one (inr e) = inr (ltb-false n m e)

-- ---- slots

pub not_waiting_within : (s : Frontier) (n : ℕ) → is_waiting (standing s n) ≡ false → n < length s.slots
not_waiting_within s n h = one (below_or_past n (length s.slots)) where
  one : (n < length s.slots) ⊎ (length s.slots ≤ n) → n < length s.slots
  one (inl l) = l
  one (inr p) = absurd (both_ways (is_waiting (standing s n)) h (ap is_waiting (get_or_past s.slots n Waiting p)))

pub leased_within : (s : Frontier) (n k : ℕ) → standing s n ≡ Leased k → n < length s.slots
leased_within s n k h = not_waiting_within s n (ap is_waiting h)

pub slot_set : (s : Frontier) (n : ℕ) (x : Slot) → n < length s.slots → standing (with_slot s n x) n ≡ x
slot_set s n x h = get_or-set_same s.slots n x Waiting h

pub slot_kept : (s : Frontier) (n m : ℕ) (x : Slot) → m ≢ n → standing (with_slot s n x) m ≡ standing s m
slot_kept s n m x h = get_or-set_other s.slots n m x Waiting h

-- ---- what it is to be free

pub record Free (job : Job) (s : Frontier) (n : ℕ) : Type 0 where
  pub within : n < length s.slots
  pub waiting : is_waiting (standing s n) ≡ true
  pub born : is_done (standing s (above job.chains n)) ≡ true

pub free_is : (job : Job) (s : Frontier) (n : ℕ) → is_free job s n ≡ true → Free job s n
free_is job s n h =
    let a = and_parts (nat_lt n (length s.slots) && is_waiting (standing s n)) (is_done (standing s (above job.chains n))) h in
    let b = and_parts (nat_lt n (length s.slots)) (is_waiting (standing s n)) a.0 in
    record { within = ltb-true n (length s.slots) b.0; waiting = b.1; born = a.1 }

pub is_free_from : (job : Job) (s : Frontier) (n : ℕ) → n < length s.slots → is_waiting (standing s n) ≡ true → is_done (standing s (above job.chains n)) ≡ true → is_free job s n ≡ true
is_free_from job s n within waiting born =
    and_from (nat_lt n (length s.slots) && is_waiting (standing s n)) (is_done (standing s (above job.chains n)))
    (and_from (nat_lt n (length s.slots)) (is_waiting (standing s n)) (lt-ltb n (length s.slots) within) waiting) born

pub waiting_not_done : (x : Slot) → is_waiting x ≡ true → is_done x ≡ false
waiting_not_done Waiting h = refl
waiting_not_done (Leased k) h = refl
waiting_not_done (Done e) h = cc

pub waiting_is : (x : Slot) → is_waiting x ≡ true → x ≡ Waiting
waiting_is Waiting h = refl
waiting_is (Leased k) h = cc
waiting_is (Done e) h = cc

pub done_not_waiting : (x : Slot) → is_done x ≡ true → is_waiting x ≡ false
done_not_waiting Waiting h = cc
done_not_waiting (Leased k) h = refl
done_not_waiting (Done e) h = refl

-- ---- lists of events with one more

replay-push : (job : Job) (s : Frontier) (es : List Event) (e : Event) → replay job s (es ++ e ∷ []) ≡ after job (replay job s es) e
replay-push job s [] e = refl
replay-push job s (f ∷ es) e = replay-push job (after job s f) es e

legal-push : (job : Job) (s : Frontier) (es : List Event) (e : Event) → IsLegal job s es → May job (replay job s es) e → IsLegal job s (es ++ e ∷ [])
legal-push job s [] e h m = (m, tt)
legal-push job s (f ∷ es) e h m = (h.0, legal-push job (after job s f) es e h.1 m)

history_then : (b : Kept) (e : Event) → HasHistory b → May b.job b.state e → HasHistory (then b e)
history_then b e (events, replayed, legal) may = (
  events ++ e ∷ [],
  ap (λ s. after b.job s e) replayed ∙ sym (replay-push b.job (initial b.job) events e),
  legal-push b.job (initial b.job) events e legal (subst (λ s. May b.job s e) replayed may),
)

-- ---- one slot changes that was not done

module _ (b : Kept) (is : IsKept b) (n : ℕ) (x : Slot) (within : n < length b.state.slots) (undone : is_done (standing b.state n) ≡ false) where
  pub not_root : 0 < n
  not_root = one (cases_eq n 0) where
    one : (n ≡ 0) ⊎ (n ≢ 0) → 0 < n
    one (inl e) = absurd (both_ways (is_done (standing b.state n)) undone (ap (λ i. is_done (standing b.state i)) e ∙ is_true _ is.root))
    one (inr e) = omega (arith, e)

  pub above_other : above b.job.chains n ≢ n
  above_other e = absurd (omega (arith, e, (is.chains.forest.begins n not_root (omega (arith, within, is.count))).below))

  root_set : IsTrue (is_done (standing (with_slot b.state n x) 0))
  root_set = let apart : 0 ≢ n = λ e. absurd (omega (arith, e, not_root)) in subst (λ y. IsTrue (is_done y)) (sym (slot_kept b.state n 0 x apart)) is.root

  module _ (fresh : is_waiting x ≡ false → IsTrue (is_done (standing b.state (above b.job.chains n)))) where
    born_set : (m : ℕ) → 0 < m → is_waiting (standing (with_slot b.state n x) m) ≡ false → IsTrue (is_done (standing (with_slot b.state n x) (above b.job.chains m)))
    born_set m p h = one (cases_eq m n) where
      one : (m ≡ n) ⊎ (m ≢ n) → IsTrue (is_done (standing (with_slot b.state n x) (above b.job.chains m)))
      one (inl e) =
          let here : is_waiting x ≡ false = sym (ap is_waiting (ap (standing (with_slot b.state n x)) e ∙ slot_set b.state n x within)) ∙ h in
          subst (λ i. IsTrue (is_done (standing (with_slot b.state n x) (above b.job.chains i)))) (sym e)
          (subst (λ y. IsTrue (is_done y)) (sym (slot_kept b.state n (above b.job.chains n) x above_other)) (fresh here))
      one (inr e) =
          let old : IsTrue (is_done (standing b.state (above b.job.chains m))) = is.born m p (sym (ap is_waiting (slot_kept b.state n m x e)) ∙ h) in
          let apart : above b.job.chains m ≢ n = λ f. both_ways (is_done (standing b.state n)) undone (sym (ap (λ i. is_done (standing b.state i)) f) ∙ is_true _ old) in
          subst (λ y. IsTrue (is_done y)) (sym (slot_kept b.state n (above b.job.chains m) x apart)) old

    module _ (ended : (e : Ended) → x ≡ Done e → e ≡ end_of (work_of b.job n)) where
      sound_set : (m : ℕ) (e : Ended) → standing (with_slot b.state n x) m ≡ Done e → e ≡ end_of (work_of b.job m)
      sound_set m e h = one (cases_eq m n) where
        one : (m ≡ n) ⊎ (m ≢ n) → e ≡ end_of (work_of b.job m)
        one (inl f) = ended e (sym (ap (standing (with_slot b.state n x)) f ∙ slot_set b.state n x within) ∙ h) ∙ ap (λ i. end_of (work_of b.job i)) (sym f)
        one (inr f) = is.sound m e (sym (slot_kept b.state n m x f) ∙ h)

      module _ (alone : (k m : ℕ) → x ≡ Leased k → standing b.state m ≡ Leased k → m ≡ n) where
        one_set : (k m l : ℕ) → standing (with_slot b.state n x) m ≡ Leased k → standing (with_slot b.state n x) l ≡ Leased k → m ≡ l
        one_set k m l h g = one (cases_eq m n) (cases_eq l n) where
          one : (m ≡ n) ⊎ (m ≢ n) → (l ≡ n) ⊎ (l ≢ n) → m ≡ l
          one (inl e) (inl f) = e ∙ sym f
          one (inl e) (inr f) = e ∙ sym (alone k l (sym (ap (standing (with_slot b.state n x)) e ∙ slot_set b.state n x within) ∙ h) (sym (slot_kept b.state n l x f) ∙ g))
          one (inr e) (inl f) = alone k m (sym (ap (standing (with_slot b.state n x)) f ∙ slot_set b.state n x within) ∙ g) (sym (slot_kept b.state n m x e) ∙ h) ∙ sym f
          one (inr e) (inr f) = is.one k m l (sym (slot_kept b.state n m x e) ∙ h) (sym (slot_kept b.state n l x f) ∙ g)

        pub set_kept : (e : Event) → May b.job b.state e → after b.job b.state e ≡ with_slot b.state n x → IsKept (then b e)
        set_kept e may is_set = subst (λ s. IsKept (record { job = b.job; state = s })) (sym is_set) (record {
          chains = is.chains;
          history = subst (λ s. HasHistory (record { job = b.job; state = s })) is_set (history_then b e is.history may);
          count = length-set b.state.slots n x ∙ is.count;
          root = root_set;
          born = born_set;
          sound = sound_set;
          one = one_set;
        })

stop_kept : (b : Kept) → IsKept b → b.state.stopped ≡ false → IsKept (then b Stop)
stop_kept b is may = record {
  chains = is.chains;
  history = history_then b Stop is.history may;
  count = is.count;
  root = is.root;
  born = is.born;
  sound = is.sound;
  one = is.one;
}

leased_not_done : (x : Slot) (k : ℕ) → x ≡ Leased k → is_done x ≡ false
leased_not_done x k e = ap is_done e

pub kept_then : (b : Kept) (e : Event) → IsKept b → May b.job b.state e → IsKept (then b e)
kept_then b (Lease k n) is may =
    let free = free_is b.job b.state n (is_true _ may.0) in
    set_kept b is n (Leased k) free.within (waiting_not_done _ free.waiting)
    (λ h. true_is _ free.born)
    (λ e h. cc)
    (λ j m h held. let same : k ≡ j = cc in absurd (may.2 (m, held ∙ ap (λ i. Leased i) (sym same))))
    (Lease k n) may refl
kept_then b (Submit k n) is may =
    set_kept b is n (Done (end_of (work_of b.job n))) (leased_within b.state n k may) (leased_not_done _ k may)
    (λ h. is.born n (not_root b is n Waiting (leased_within b.state n k may) (leased_not_done _ k may)) (ap is_waiting may))
    (λ e h. cc)
    (λ j m h held. cc)
    (Submit k n) may refl
kept_then b (GiveBack k n) is may =
    set_kept b is n Waiting (leased_within b.state n k may) (leased_not_done _ k may)
    (λ h. cc)
    (λ e h. cc)
    (λ j m h held. cc)
    (GiveBack k n) may refl
kept_then b Stop is may = stop_kept b is may
