-- The numbers of choices run on from event to event.
use Rattle.std.proofs.Common.{◌≡◌, inl, inr, ℕ, ◌+◌, ◌-◌, ◌<◌, ◌≤◌, zero, suc, List, [], ◌∷◌, ◌++◌, Bool, true, false, length, refl, sym, ap, ◌∙◌, arith}
use Rattle.std.specs.Prelude.{Option, Some, None, ◌&&◌, nat_le, Ok, if◌then◌else◌, slice_get, slice_set}
use Rattle.std.proofs.lemmas.Bool.Decides.{nat_tests}
use Rattle.std.proofs.lemmas.Bool.{and_parts, cases_Bool, lt-leb, leb-true}
use Rattle.bx_terms.specs.declared.atom_table.AtomId.{AtomId}
use Rattle.bx_load.specs.Image.{Loaded}
use Rattle.bx_world.specs.declared.choices.Choice.{Choice}
use Rattle.bx_events.specs.declared.events.Event.{Event}
use Rattle.bx_events.specs.declared.stories.Story.{Story}
use Rattle.bx_events.specs.Stories.{story}
use Rattle.bx_events.specs.Ordered.{RunOn, holds, times_told}
use Rattle.bx_events.specs.Telling.{Telling, added, joined, joins_last, last_of, one_told, told, with_joined}
use Rattle.bx_events.proofs.Told.{by_added, by_choice, in_stories}

-- ---- one event more

apart_runs : (a b : ℕ) (events : List Event) (event : Event) → RunOn a events b → event.first ≡ b + 1 → event.first ≤ event.last → RunOn a (events ++ event ∷ []) event.last
apart_runs a b [] event run first last = (first ∙ ap (λ (k : ℕ). k + 1) (sym run), last, refl)
apart_runs a b (x ∷ events) event run first last = (run.0, run.1, apart_runs x.last b events event run.2 first last)

joined_runs : (a b k : ℕ) (events : List Event) (last event : Event) → length events ≡ suc k → slice_get events k ≡ Some last → RunOn a events b → event.first ≡ b + 1 → event.first ≤ event.last
    → RunOn a (slice_set events k (joined last event)) event.last
joined_runs a b k [] last event count e run first more = cc
joined_runs a b zero (x ∷ []) last event count e run first more =
    let same : last ≡ x = cc in
    let begins : last.first ≡ x.first = ap (λ (d : Event). d.first) same in
    let ends : x.last ≡ b = run.2 in
    (begins ∙ run.0, omega (arith, begins, run.1, ends, first, more), refl)
joined_runs a b zero (x ∷ y ∷ events) last event count e run first more = absurd (omega (arith, count))
joined_runs a b (suc k) (x ∷ events) last event count e run first more = (run.0, run.1, joined_runs x.last b k events last event (omega (arith, count)) e run.2 first more)

last_count : (events : List Event) (last : Event) → last_of events ≡ Some last → length events ≡ suc (length events - 1)
last_count [] last e = cc
last_count (x ∷ events) last e = omega arith

onto_last : (a b : ℕ) (last : Option Event) (event : Event) (events : List Event) → last_of events ≡ last → joins_last last event ≡ true → RunOn a events b → event.first ≡ b + 1 → event.first ≤ event.last
    → RunOn a (with_joined last event events) event.last
onto_last a b None event events e joins run first more = cc
onto_last a b (Some last) event events e joins run first more = joined_runs a b (length events - 1) events last event (last_count events last e) e run first more

added_runs : (a b : ℕ) (event : Event) (events : List Event) → RunOn a events b → event.first ≡ b + 1 → event.first ≤ event.last → RunOn a (added event events) event.last
added_runs a b event events run first more =
    by_added (λ es. RunOn a es event.last) event events (λ joins. onto_last a b (last_of events) event events refl joins run first more) (λ apart. apart_runs a b events event run first more)

-- ---- one choice more

abbrev In : Telling → Type 0
In t = RunOn 0 t.events t.end.applied

one_runs : (image : Loaded) (c : Choice) (t : Telling) → In t → In (one_told image c t)
one_runs image c t run = by_choice In image c t run run (λ may. added_runs 0 t.end.applied (told image (t.end.applied + 1) c t.events t.end.world) t.events run refl (omega arith))

pub run_on : (image : Loaded) (m f : AtomId) (choices : List Choice) (s : Story) → story image m f choices ≡ Ok s → RunOn 0 s.events s.applied
run_on image m f choices s is = in_stories In (λ s. RunOn 0 s.events s.applied) image m f choices s (λ w at. refl) (one_runs image) (λ t run. run) is

-- ---- so each is told once

not_yet : (n a b : ℕ) (events : List Event) → RunOn a events b → n ≤ a → times_told n events ≡ 0
not_yet n a b [] run h = refl
not_yet n a b (x ∷ events) run h =
    let begins : nat_le x.first n ≡ false = lt-leb x.first n (omega (arith, h, run.0)) in
    let out : holds n x ≡ false = ap (λ (k : Bool). k && nat_le n x.last) begins in
    ap (λ (k : Bool). if k then 1 + times_told n events else times_told n events) out ∙ not_yet n x.last b events run.2 (omega (arith, h, run.0, run.1))

beyond : (n : ℕ) (x : Event) → x.first ≤ n → holds n x ≡ false → x.last < n
beyond n x h e = grind (arith, nat_tests)

one_of : (n a b : ℕ) (events : List Event) → RunOn a events b → a < n → n ≤ b → times_told n events ≡ 1
one_of n a b [] run more less =
    let is : a ≡ b = run in
    let no : n < n = omega (arith, is, more, less) in
    absurd (omega (arith, no))
one_of n a b (x ∷ events) run more less = elim (cases_Bool (holds n x)) [
  | inl is ↦ rw is (ap (λ m. 1 + m) (not_yet n x.last b events run.2 (leb-true n x.last (and_parts (nat_le x.first n) (nat_le n x.last) is).1)))
  | inr is ↦ rw is (one_of n x.last b events run.2 (beyond n x (omega (arith, run.0, more)) is) less)
]

pub told_once : (image : Loaded) (m f : AtomId) (choices : List Choice) (s : Story) (n : ℕ) → story image m f choices ≡ Ok s → 0 < n → n ≤ s.applied → times_told n s.events ≡ 1
told_once image m f choices s n is more less = one_of n 0 s.applied s.events (run_on image m f choices s is) more less
