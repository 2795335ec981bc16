-- What holds of each story, from what each choice that is told keeps.
use Rattle.std.proofs.Common.{◌≡◌, inl, inr, List, [], ◌∷◌, Bool, true, false, length, refl, sym, subst, ◌∙◌, ℕ, ◌+◌, ◌-◌, ◌++◌, map}
use Rattle.std.specs.Prelude.{Result, Ok, Err, nat_lt, if◌then◌else◌, Option, Some, None, ◌==◌, is_none}
use Rattle.std.proofs.lemmas.List.{map-append}
use Rattle.std.proofs.lemmas.Bool.{and_parts, cases_Bool}
use Rattle.bx_terms.specs.Outcomes.{◌>>=◌}
use Rattle.bx_terms.specs.declared.atom_table.AtomId.{AtomId}
use Rattle.bx_terms.specs.declared.faults.Fault.{Fault, TheVariants.TooLarge}
use Rattle.bx_load.specs.Image.{Loaded}
use Rattle.bx_world.specs.declared.choices.Choice.{Choice}
use Rattle.bx_world.specs.World.{State, started}
use Rattle.bx_world.specs.Running.{unchosen}
use Rattle.bx_events.specs.declared.stories.Story.{Story}
use Rattle.bx_events.specs.Stories.{story, story_at, story_from}
use Rattle.bx_events.specs.Telling.{Telling, all_told, one_told, untold, added, goes_on, is_over, is_plain, is_run, joins_last, last_of, puts_nothing, told, with_joined}
use Rattle.bx_world.specs.Enabled.{can}
use Rattle.bx_world.specs.Choosing.{chosen}
use Rattle.bx_events.specs.declared.events.Event.{Event}
use Rattle.bx_events.specs.declared.events.Stands.{Stands}
use Rattle.bx_events.specs.declared.events.Stands.TheVariants as stand
use Rattle.bx_events.proofs.Outlines.{calm, outline, outlines_joined}

-- ---- by what one more event, and one more choice, does

pub by_added : (P : List Event → Type 0) (event : Event) (events : List Event) → (joins_last (last_of events) event ≡ true → P (with_joined (last_of events) event events))
    → (joins_last (last_of events) event ≡ false → P (events ++ event ∷ [])) → P (added event events)
by_added P event events onto behind = elim (cases_Bool (joins_last (last_of events) event)) [ inl e ↦ rw e (onto e) | inr e ↦ rw e (behind e) ]

pub by_choice : (P : Telling → Type 0) (image : Loaded) (c : Choice) (t : Telling) → P t → P (record { end = record t.end { refused = Some c }; events = t.events })
    → (can t.end.world c ≡ true → P (record {
      end = record { world = chosen image c t.end.world; applied = t.end.applied + 1; refused = None };
      events = added (told image (t.end.applied + 1) c t.events t.end.world) t.events;
    }))
    → P (one_told image c t)
by_choice P image c t over refused made = elim (cases_Bool (is_over t.end)) [
  | inl e ↦ rw e over
  | inr e ↦ elim (cases_Bool (can t.end.world c)) [ inl f ↦ rw (e, f) (made f) | inr f ↦ rw (e, f) refused ]
]

-- ---- what holds of each story

pub all_keep : (P : Telling → Type 0) (image : Loaded) → ((choice : Choice) (t : Telling) → P t → P (one_told image choice t)) → (choices : List Choice) (t : Telling) → P t → P (all_told image choices t)
all_keep P image step [] t h = h
all_keep P image step (choice ∷ more) t h = all_keep P image step more (one_told image choice t) (step choice t h)

not_many : (b : Bool) (t : Telling) (s : Story) → (if b then Err TooLarge else Ok (story_at t)) ≡ Ok s → story_at t ≡ s
not_many true t s e = cc
not_many false t s e = cc

-- what holds at a start and is kept by each choice holds where a story was told
pub in_stories : (P : Telling → Type 0) (Q : Story → Type 0) (image : Loaded) (m f : AtomId) (choices : List Choice) (s : Story)
    → ((w : State) → started image m f ≡ Ok w → P (untold (unchosen w))) → ((choice : Choice) (t : Telling) → P t → P (one_told image choice t)) → ((t : Telling) → P t → Q (story_at t))
    → story image m f choices ≡ Ok s → Q s
in_stories P Q image m f choices s start step end is = go (started image m f) refl is
  where
    go : (from : Result State Fault) → started image m f ≡ from → (from >>= story_from image choices) ≡ Ok s → Q s
    go (Err fault) at e = cc
    go (Ok w) at e =
        let t = all_told image choices (untold (unchosen w)) in
        subst Q (not_many (nat_lt 20000 (length t.events)) t s e) (end t (all_keep P image step choices (untold (unchosen w)) (start w at)))

-- ---- what is kept by each event that is told: it is the same where runs that go on are one event

-- what is plain
pub record Plain (event : Event) : Type 0 where
  pub runs : is_run event.what ≡ true
  pub quiet : puts_nothing event.puts ≡ true
  pub alone : is_none event.child ≡ true
  pub goes : goes_on event.stands ≡ true

pub plain_parts : (event : Event) → is_plain event ≡ true → Plain event
plain_parts event e =
    let a = and_parts (is_run event.what) _ e in
    let b = and_parts (puts_nothing event.puts) _ a.1 in
    let c = and_parts (is_none event.child) _ b.1 in
    let d = and_parts (is_none event.shown) (goes_on event.stands) c.1 in record { runs = a.0; quiet = b.0; alone = c.0; goes = d.1 }

calm_where : (s : Stands) → goes_on s ≡ true → calm s ≡ stand.Goes
calm_where stand.Goes e = refl
calm_where stand.Waits e = refl
calm_where _ e = cc

module _ (P : List Event → State → Type 0) (image : Loaded)
    (more : (n : ℕ) (c : Choice) (events : List Event) (w : State) → can w c ≡ true → P (map outline events) w → P (map outline events ++ outline (told image n c events w) ∷ []) (chosen image c w))
    (less : (xs : List Event) (event : Event) (w : State) → Plain event → P (xs ++ outline event ∷ []) w → P xs w) where
  abbrev Of : Telling → Type 0
  Of t = P (map outline t.events) t.end.world

  onto : (last : Option Event) (event : Event) (events : List Event) (w : State) → last_of events ≡ last → joins_last last event ≡ true → P (map outline events ++ outline event ∷ []) w → P (map outline (with_joined last event events)) w
  onto None event events w at e h = cc
  onto (Some last) event events w at e h =
      let plain = and_parts (is_plain last) (is_plain event) (and_parts (last.actor == event.actor) _ e).1 in
      let here = plain_parts event plain.1 in
      subst (λ xs. P xs w)
      (sym (outlines_joined (length events - 1) events last event at (calm_where event.stands here.goes ∙ sym (calm_where last.stands (plain_parts last plain.0).goes)))) (less (map outline events) event w here h)

  added_kept : (event : Event) (events : List Event) (w : State) → P (map outline events ++ outline event ∷ []) w → P (map outline (added event events)) w
  added_kept event events w h =
      by_added (λ es. P (map outline es) w) event events (λ e. onto (last_of events) event events w refl e h) (λ e. subst (λ xs. P xs w) (sym (map-append outline events (event ∷ []))) h)

  one_kept : (c : Choice) (t : Telling) → Of t → Of (one_told image c t)
  one_kept c t h =
      by_choice Of image c t h h (λ may. added_kept (told image (t.end.applied + 1) c t.events t.end.world) t.events (chosen image c t.end.world) (more (t.end.applied + 1) c t.events t.end.world may h))

  -- what holds of each story
  pub in_told : (Q : Story → Type 0) (m f : AtomId) (choices : List Choice) (s : Story) → ((w : State) → started image m f ≡ Ok w → P [] w) → ((t : Telling) → Of t → Q (story_at t)) → story image m f choices ≡ Ok s → Q s
  in_told Q m f choices s start end is = in_stories Of Q image m f choices s start one_kept end is
