-- Sessions of which choices are exchanged.
use Rattle.bx_debug.proofs.Words.{◌≡◌, ℕ, ◌+◌, ◌-◌, ◌<◌, ◌≤◌, Bool, false, Ok, Err, refl, sym, ap, ◌∙◌, subst, arith, ◌==◌, ◌||◌, nat_lt, if◌then◌else◌, State, Ended, ran, Course, reached, with_exchange, IsExchanged}
use Rattle.bx_debug.proofs.Words.{ends_after, long_after, one_made, tidied_of, undone_of, exchanged_is, IsSession, PlaceSet, course_of, History, tidy_of, undo_of, undone}
use Rattle.std.proofs.lemmas.Bool.Decides.{nat_tests}
use Rattle.bx_terms.specs.declared.faults.Fault.TheVariants.{NotIndependent}
use Rattle.bx_replay.specs.Exchanges.{MayExchange}
use Rattle.bx_swaps.specs.Tidying.{IsTidied, IsUndone}
use Rattle.bx_swaps.proofs.Ends.{exchanged_end}
use Rattle.bx_debug.proofs.Leads.{all_applied, ran_all}
use Rattle.bx_debug.proofs.Moving.{history, led_to, reached_here}

module _ {trail : Course} {at : ℕ} {here : State} (s : IsSession trail at here) where
  -- exchanges among the choices before the position
  pub session_exchanged : {new : Course} → IsExchanged at trail new → IsSession new at here
  session_exchanged {new} e =
      let now : Course = record trail { choices = new.choices } in
      let long = long_after at trail new e in
      let all = ap (ran trail.image new.choices) (sym s.begins) ∙ exchanged_end at trail new e ∙ ap (ran trail.image trail.choices) s.begins ∙ ran_all trail.image trail.choices trail.start.world s.made in
      let able = all_applied trail.image new.choices trail.start.world 0 (ap (λ (e : Ended). e.applied) all ∙ omega (arith, long)) in
      let origin : IsSession now 0 trail.start.world = record { begins = s.begins; within = omega arith; made = able; shown = refl } in
      let there = sym (reached_here s) ∙ sym (ends_after at at trail new e (omega arith)) ∙ ap (reached at) (exchanged_is at trail new e) in
      let within = s.within in
      subst (λ (c : Course). IsSession c at here) (sym (exchanged_is at trail new e)) (record { begins = s.begins; within = omega (arith, long); made = able; shown = led_to origin at there })

  pub session_swapped : (i : ℕ) {new : Course} → i + 1 < at → MayExchange i trail → new ≡ with_exchange i trail → IsSession new at here
  session_swapped i before may is = subst (λ (c : Course). IsSession c at here) (sym is) (session_exchanged (one_made at i trail before may))

  -- the choices of a session, from its start on
  course_there : (places : PlaceSet) → trail ≡ course_of (history trail at places)
  course_there places = λ i. record { image = trail.image; start = s.begins i; choices = trail.choices }

  -- tidied, and with a choice set aside
  pub session_tidied : (places : PlaceSet) {new : Course} → IsTidied at trail new → history new at places ≡ tidy_of (history trail at places)
  session_tidied places {new} t =
      ap (λ (c : Course). history c at places) (exchanged_is at trail new t.exchanged)
      ∙ ap (λ (c : Course). record (history trail at places) { choices = c.choices }) (t.is ∙ ap (tidied_of at) (course_there places))

  pub session_undone : (places : PlaceSet) (k : ℕ) {new : Course} {before : ℕ} → IsUndone at (k - 1) trail new before → history new before places ≡ undone k (history trail at places)
  session_undone places k {new} {before} u =
      ap (λ (c : Course). history c before places) (exchanged_is at trail new u.aside.exchanged)
      ∙ ap (λ (r : Course × ℕ). record (history trail at places) { choices = r.0.choices; at = r.1 }) (sym u.aside.is ∙ ap (undone_of at (k - 1)) (course_there places))

  -- each choice before the position is applied
  pub all_before : (reached at trail).applied ≡ trail.start.applied + at
  all_before = let none = ap (λ (e : Ended). e.applied) s.begins in ap (λ (e : Ended). e.applied) (reached_here s) ∙ omega (arith, none)

-- a choice that stands before the position
pub undo_there : (h : History) (k : ℕ) → (k ≡ 0 → ⊥) → k ≤ h.at → undo_of k h ≡ Ok (undone k h, tt)
undo_there h k some within =
    let stands : (k == 0 || nat_lt h.at k) ≡ false = grind (arith, nat_tests) in
    ap (λ (b : Bool). if b then Err (NotIndependent k) else Ok (undone k h, tt)) stands
