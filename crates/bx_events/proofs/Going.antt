-- Choices that are told one after another.
use Rattle.std.proofs.Common.{◌≡◌, ℕ, ◌+◌, ◌-◌, ◌<◌, ◌≤◌, zero, suc, List, [], ◌∷◌, ◌++◌, Bool, true, false, length, replicate, refl, sym, ap, subst, ◌∙◌, arith, length-append}
use Rattle.std.specs.Prelude.{Option, Some, None, if◌then◌else◌, slice_get, slice_set, nat_lt, Result, Ok, Err, IsSome}
use Rattle.std.proofs.lemmas.List.{length-set}
use Rattle.bx_terms.specs.declared.faults.Fault.{Fault, TheVariants.Memory, TheVariants.TooLarge}
use Rattle.bx_load.specs.Image.{Loaded}
use Rattle.std.proofs.lemmas.Bool.Decides.{nat_tests}
use Rattle.bx_events.specs.declared.stories.Story.{Story}
use Rattle.bx_events.specs.Stories.{story, story_at, story_from}
use Rattle.bx_world.specs.declared.choices.Choice.{Choice}
use Rattle.bx_terms.specs.Outcomes.{◌>>=◌, Gives}
use Rattle.bx_terms.specs.declared.places.Place.{Place}
use Rattle.bx_terms.specs.declared.atom_table.AtomId.{AtomId}
use Rattle.bx_load.specs.Image.{export}
use Rattle.bx_world.specs.World.{State, begun_at, started}
use Rattle.bx_world.specs.Running.{Ended, ran, tried, unchosen}
use Rattle.bx_world.proofs.Lawful.{few_applied}
use Rattle.bx_events.specs.declared.events.Event.{Event}
use Rattle.bx_events.specs.declared.ledgers.Ledger.{Ledger}
use Rattle.bx_events.specs.declared.tellers.Teller.{Teller}
use Rattle.bx_events.specs.Ledgers.{Keeps, Knows}
use Rattle.bx_events.specs.Pairing.{arrival, arrivals, by_puts, senders, senders_from}
use Rattle.bx_events.proofs.Noting.{along, keeps_more}
use Rattle.bx_events.proofs.Told.{by_added, by_choice}
use Rattle.bx_events.specs.Answers.{telling, Stands, Tells}
use Rattle.bx_events.specs.Telling.{Telling, added, all_told, is_over, joined, joins_last, last_of, one_told, told, untold, with_choice, with_joined}

-- ---- rows of choices

pub all_append : (image : Loaded) (xs ys : List Choice) (t : Telling) → all_told image (xs ++ ys) t ≡ all_told image ys (all_told image xs t)
all_append image [] ys t = refl
all_append image (x ∷ xs) ys t = all_append image xs ys (one_told image x t)

-- events are told of the run of the same choices
pub told_ran : (image : Loaded) (cs : List Choice) (t : Telling) → (all_told image cs t).end ≡ ran image cs t.end
told_ran image [] t = refl
told_ran image (c ∷ cs) t = told_ran image cs (one_told image c t)

pub few_told : (image : Loaded) (cs : List Choice) (t : Telling) → (all_told image cs t).end.applied ≤ t.end.applied + length cs
few_told image cs t = omega (arith, few_applied image cs t.end, ap (λ (e : Ended). e.applied) (told_ran image cs t))

-- where the run is over nothing is told any more
pub over_stays : (image : Loaded) (cs : List Choice) (t : Telling) → is_over t.end ≡ true → all_told image cs t ≡ t
over_stays image [] t over = refl
over_stays image (c ∷ cs) t over =
    let one : one_told image c t ≡ t = ap (λ b. record { end = if b then t.end else tried image c t.end; events = if b then t.events else with_choice image c t }) over in
    ap (all_told image cs) one ∙ over_stays image cs t over

-- ---- no event is lost

joined_length : (last : Option Event) (event : Event) (events : List Event) → length (with_joined last event events) ≡ length events
joined_length None event events = refl
joined_length (Some last) event events = length-set events (length events - 1) (joined last event)

added_grows : (event : Event) (events : List Event) → length events ≤ length (added event events)
added_grows event events =
    by_added (λ es. length events ≤ length es) event events (λ e. omega (arith, joined_length (last_of events) event events)) (λ e. omega (arith, length-append events (event ∷ [])))

one_grows : (image : Loaded) (c : Choice) (t : Telling) → length t.events ≤ length (one_told image c t).events
one_grows image c t =
    by_choice (λ s. length t.events ≤ length s.events) image c t (omega arith) (omega arith) (λ may. added_grows (told image (t.end.applied + 1) c t.events t.end.world) t.events)

pub all_grow : (image : Loaded) (cs : List Choice) (t : Telling) → length t.events ≤ length (all_told image cs t).events
all_grow image [] t = omega arith
all_grow image (c ∷ cs) t = omega (arith, one_grows image c t, all_grow image cs (one_told image c t))

-- ---- answers

-- too many events are too many behind more choices
pub tells_first : (image : Loaded) (cs : List Choice) (mid goal : Telling) (fault : Fault) (new last : Teller) → Tells mid new (Err fault) → all_told image cs mid ≡ goal → Tells goal last (Err fault)
tells_first image cs mid goal Memory new last h is = tt
tells_first image cs mid goal TooLarge new last h is = omega (arith, h, all_grow image cs mid, ap (λ (t : Telling). length t.events) is)
tells_first image cs mid goal fault new last h is = absurd h

-- behind the first choices of a row
pub next_told : (image : Loaded) (first left cs : List Choice) (mid goal : Telling) → cs ≡ first ++ left → all_told image cs mid ≡ goal → all_told image left (all_told image first mid) ≡ goal
next_told image first left cs mid goal is so_far = sym (all_append image first left mid) ∙ ap (λ (row : List Choice). all_told image row mid) (sym is) ∙ so_far

pub one_left : (c : Choice) (times made : ℕ) → made < times → replicate (times - made) c ≡ (c ∷ []) ++ replicate (times - (made + 1)) c
one_left c times made h = let count : times - made ≡ suc (times - (made + 1)) = omega arith in ap (λ n. replicate n c) count

pub told_further : (image : Loaded) (left : List Choice) (mid new goal : Telling) → all_told image left mid ≡ goal → new ≡ mid → all_told image left new ≡ goal
told_further image left mid new goal so_far is = ap (all_told image left) is ∙ so_far

-- ---- an event that is added

-- a joined event puts and hears what the last one did
senders_set : (q : ℕ × ℕ) (i k : ℕ) (events : List Event) (last event : Event) → slice_get events k ≡ Some last → senders_from q i (slice_set events k (joined last event)) ≡ senders_from q i events
senders_set q i k [] last event e = refl
senders_set q i zero (x ∷ events) last event e =
    let same : last ≡ x = cc in
    ap (λ (d : Event). by_puts q d.actor i d.puts ++ senders_from q (i + 1) events) same
senders_set q i (suc k) (x ∷ events) last event e = ap (λ (xs : List ℕ). by_puts q x.actor i x.puts ++ xs) (senders_set q (i + 1) k events last event e)

arrivals_set : (q : ℕ × ℕ) (k : ℕ) (events : List Event) (last event : Event) → slice_get events k ≡ Some last → arrivals q (slice_set events k (joined last event)) ≡ arrivals q events
arrivals_set q k [] last event e = refl
arrivals_set q zero (x ∷ events) last event e =
    let same : last ≡ x = cc in
    ap (λ (d : Event). arrival q d.what + arrivals q events) same
arrivals_set q (suc k) (x ∷ events) last event e = ap (λ n. arrival q x.what + n) (arrivals_set q k events last event e)

joined_keeps : (events : List Event) (event : Event) (l : Ledger) → Keeps events l → Keeps (with_joined (last_of events) event events) l
joined_keeps events event l keeps = go (last_of events) refl
  where
    go : (last : Option Event) → last_of events ≡ last → Keeps (with_joined last event events) l
    go None e = keeps
    go (Some last) e =
        along (λ (q : ℕ × ℕ). senders q events) (λ (q : ℕ × ℕ). senders q (slice_set events (length events - 1) (joined last event)))
        (λ (q : ℕ × ℕ). arrivals q events) (λ (q : ℕ × ℕ). arrivals q (slice_set events (length events - 1) (joined last event))) l keeps
        (λ (q : ℕ × ℕ). sym (senders_set q 0 (length events - 1) events last event e)) (λ (q : ℕ × ℕ). sym (arrivals_set q (length events - 1) events last event e))

pub when_joined : (events : List Event) (event : Event) → joins_last (last_of events) event ≡ true → added event events ≡ with_joined (last_of events) event events
when_joined events event e = ap (λ (b : Bool). if b then with_joined (last_of events) event events else events ++ event ∷ []) e

pub when_apart : (events : List Event) (event : Event) → joins_last (last_of events) event ≡ false → added event events ≡ events ++ event ∷ []
when_apart events event e = ap (λ (b : Bool). if b then with_joined (last_of events) event events else events ++ event ∷ []) e

-- the last event goes on
pub joined_stands : (event : Event) (old new : Teller) → Stands old → joins_last (last_of old.events.items) event ≡ true → new.end ≡ old.end → new.ledger ≡ old.ledger
    → new.events.items ≡ with_joined (last_of old.events.items) event old.events.items
    → Tells (record { end = old.end; events = added event old.events.items }) new (Ok tt)
joined_stands event old new stands joins same_end same_ledger is =
    let events = old.events.items in
    let all = is ∙ sym (when_joined events event joins) in (
      (λ i. record { end = same_end i; events = all i }),
      record {
        keeps = subst (λ (es : List Event). Keeps es new.ledger) (sym is) (subst (λ (l : Ledger). Keeps (with_joined (last_of events) event events) l) (sym same_ledger) (joined_keeps events event old.ledger stands.keeps));
        few = omega (arith, stands.few, joined_length (last_of events) event events, ap length is);
      },
    )

-- one stands behind the others
pub apart_stands : (event : Event) (old new : Teller) → Stands old → joins_last (last_of old.events.items) event ≡ false → length old.events.items < 20000 → new.end ≡ old.end
    → new.events.items ≡ old.events.items ++ event ∷ []
    → Knows (λ (q : ℕ × ℕ). senders q old.events.items ++ by_puts q event.actor (length old.events.items) event.puts) (λ (q : ℕ × ℕ). arrivals q old.events.items + arrival q event.what) new.ledger
    → Tells (record { end = old.end; events = added event old.events.items }) new (Ok tt)
apart_stands event old new stands apart few same_end is knows =
    let events = old.events.items in
    let all = is ∙ sym (when_apart events event apart) in (
      (λ i. record { end = same_end i; events = all i }),
      record {
        keeps = subst (λ (es : List Event). Keeps es new.ledger) (sym is) (keeps_more events event new.ledger knows);
        few = omega (arith, few, length-append events (event ∷ []), ap length is);
      },
    )

-- ---- from the start

pub exported : (place : Option Place) (w : State) → begun_at place ≡ Ok w → IsSome place
exported None w e = cc
exported (Some place) w e = refl

pub gives_none : {X Y A B : Type 0} (takes : Type 0) (view : X → A) (seen : Y → B) (fault : Fault) (said : Result A Fault) (next : A → Result B Fault) → Gives takes view (Err fault) said → Gives takes seen (Err fault) (said >>= next)
gives_none takes view seen Memory said next h = h
gives_none takes view seen fault said next h = ap (λ r. r >>= next) h

-- a story, or why there is none
too_large : (t : Telling) → 20000 < length t.events → (if nat_lt 20000 (length t.events) then Err TooLarge else Ok (story_at t)) ≡ Err TooLarge
too_large t many =
    let more : nat_lt 20000 (length t.events) ≡ true = grind (arith, nat_tests) in
    ap (λ (b : Bool). if b then Err TooLarge else Ok (story_at t)) more

pub tells_gives : (image : Loaded) (cs : List Choice) (w : State) (new : Teller) (fault : Fault) → Tells (all_told image cs (untold (unchosen w))) new (Err fault)
    → Gives {X = Story} (Unit {0}) (λ s. s) (Err fault) (story_from image cs w)
tells_gives image cs w new Memory h = tt
tells_gives image cs w new TooLarge h = too_large (all_told image cs (untold (unchosen w))) h
tells_gives image cs w new fault h = absurd h

pub story_is : (image : Loaded) (cs : List Choice) (w : State) (new : Teller) → telling new ≡ all_told image cs (untold (unchosen w)) → Stands new → story_from image cs w ≡ Ok (story_at (telling new))
story_is image cs w new is stands =
    let few : nat_lt 20000 (length new.events.items) ≡ false = grind (arith, nat_tests, stands.few) in
    ap (λ (t : Telling). if nat_lt 20000 (length t.events) then Err TooLarge else Ok (story_at t)) (sym is)
    ∙ ap (λ (b : Bool). if b then Err TooLarge else Ok (story_at (telling new))) few

pub story_gives : (image : Loaded) (m f : AtomId) (cs : List Choice) (w : State) (result : Result Story Fault) → started image m f ≡ Ok w → Gives {X = Story} (Unit {0}) (λ s. s) result (story_from image cs w)
    → Gives {X = Story} (IsSome (export image m f 0)) (λ s. s) result (story image m f cs)
story_gives image m f cs w (Ok s) there h = ap (λ r. r >>= story_from image cs) there ∙ h
story_gives image m f cs w (Err Memory) there h = exported (export image m f 0) w there
story_gives image m f cs w (Err fault) there h = ap (λ r. r >>= story_from image cs) there ∙ h
