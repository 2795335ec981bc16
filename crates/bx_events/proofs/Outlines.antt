-- Events without what runs that go on change of them.
use Rattle.std.proofs.Common.{◌≡◌, ℕ, zero, suc, ◌+◌, List, [], ◌∷◌, ◌++◌, map, take, refl, sym, ap, ◌∙◌}
use Rattle.std.specs.Prelude.{Option, Some, None, option_map, slice_get, slice_set}
use Rattle.std.proofs.lemmas.Option.{slice_get-map}
use Rattle.std.specs.List.{take-map}
use Rattle.bx_events.specs.declared.events.Event.{Event}
use Rattle.bx_events.specs.declared.events.Sent.{Sent}
use Rattle.bx_events.specs.declared.events.Stands.{Stands}
use Rattle.bx_events.specs.declared.events.Stands.TheVariants as stand
use Rattle.bx_events.specs.Births.{FoundNobody, IsBorn}
use Rattle.bx_events.specs.Flows.{IsFirst, arrived_by, arrived_out, put_at, put_from, put_into}
use Rattle.bx_events.specs.Telling.{joined}

abbrev pub calm : Stands → Stands
calm stand.Absent = stand.Absent
calm stands = stand.Goes

abbrev pub outline : Event → Event
outline event = record event { last = 0; last_from = None; to = None; stands = calm event.stands }

pub outlines_joined : (k : ℕ) (events : List Event) (last event : Event) → slice_get events k ≡ Some last → calm event.stands ≡ calm last.stands → map outline (slice_set events k (joined last event)) ≡ map outline events
outlines_joined k [] last event at calmly = refl
outlines_joined zero (x ∷ events) last event at calmly =
    let same : last ≡ x = cc in ap (λ s. record last { last = 0; last_from = None; to = None; stands = s } ∷ map outline events) calmly ∙ ap (λ (e : Event). outline e ∷ map outline events) same
outlines_joined (suc k) (x ∷ events) last event at calmly = ap (λ xs. outline x ∷ xs) (outlines_joined k events last event at calmly)

-- ---- they put the same, and the same arrives

pub put_same : (pair : ℕ × ℕ) (row : ℕ) (events : List Event) → put_from pair row (map outline events) ≡ put_from pair row events
put_same pair row [] = refl
put_same pair row (e ∷ events) = ap (λ xs. put_at pair e.actor row e.puts ++ xs) (put_same pair (row + 1) events)

pub arrived_same : (pair : ℕ × ℕ) (events : List Event) → arrived_out pair (map outline events) ≡ arrived_out pair events
arrived_same pair [] = refl
arrived_same pair (e ∷ events) = ap (λ xs. arrived_by pair e.what ++ xs) (arrived_same pair events)

pub first_like : (pair : ℕ × ℕ) (xs ys : List Event) (sent : Sent) → put_into pair xs ≡ put_into pair ys → arrived_out pair xs ≡ arrived_out pair ys → IsFirst pair xs sent → IsFirst pair ys sent
first_like pair xs ys sent put arrived (others, is) = (others, sym put ∙ is ∙ ap (λ zs. zs ++ sent ∷ others) arrived)

pub first_same : (pair : ℕ × ℕ) (row : ℕ) (events : List Event) (sent : Sent) → IsFirst pair (take row (map outline events)) sent → IsFirst pair (take row events) sent
first_same pair row events sent =
    let start = take-map outline row events in
    first_like pair (take row (map outline events)) (take row events) sent (ap (put_into pair) start ∙ put_same pair 0 (take row events)) (ap (arrived_out pair) start ∙ arrived_same pair (take row events))

-- ---- one of them

pub outlined_at : (row : ℕ) (events : List Event) (event : Event) → slice_get events row ≡ Some event → slice_get (map outline events) row ≡ Some (outline event)
outlined_at row events event at = slice_get-map outline events row ∙ ap (option_map outline) at

outline_of : (row : ℕ) (events : List Event) (event : Event) → slice_get (map outline events) row ≡ Some event → (old : Event) × (slice_get events row ≡ Some old) × (outline old ≡ event)
outline_of row [] event at = cc
outline_of zero (x ∷ events) event at = (x, refl, cc)
outline_of (suc row) (x ∷ events) event at = outline_of row events event at

pub born_same : (events : List Event) (p : ℕ) (birth : Option ℕ) → IsBorn (map outline events) p birth → IsBorn events p birth
born_same events p None h = h
born_same events p (Some row) (later, event, at, child) =
    let old = outline_of row events event at in (later, old.0, old.1, ap (λ (e : Event). e.child) old.2 ∙ child)

absent_same : (s : Stands) → calm s ≡ stand.Absent → s ≡ stand.Absent
absent_same stand.Absent e = refl
absent_same _ e = cc

pub nobody_same : (event : Event) → FoundNobody (outline event) → FoundNobody event
nobody_same event h = (absent_same event.stands h.0, h.1)
