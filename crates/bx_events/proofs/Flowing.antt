-- What events put into a channel is what arrived out of it, and then what waits.
use Rattle.std.proofs.Common.{◌≡◌, ℕ, zero, suc, ◌+◌, ◌==◌, ◌⊎◌, inl, inr, List, [], ◌∷◌, ◌++◌, Bool, true, false, cond, map, length, refl, sym, ap, subst, ◌∙◌, arith, append-nil, append_assoc, length-append}
use Rattle.std.specs.Prelude.{T, Some, None, option_map, ◌&&◌, if◌then◌else◌, slice_get, unwrap_or}
use Rattle.std.specs.FinMap.{entries, entries_sorted, get-entries}
use Rattle.std.specs.FinMap.Entries.{below_all, find, is_sorted}
use Rattle.std.specs.Ordering.{is_eq, is_lt}
use Rattle.std.specs.declared.cmp.Ordering.{Ordering, TheVariants.Less}
use Rattle.std.proofs.lemmas.Bool.{cases_Bool, eqb-true}
use Rattle.std.proofs.lemmas.List.{length-map, map-append}
use Rattle.std.proofs.lemmas.Option.{slice_get-map}
use Rattle.bx_signals.specs.Waiting.{first}
use Rattle.bx_signals.specs.Channels.{Channels, in_order, pair_cmp, pairs, waiting}
use Rattle.bx_signals.specs.declared.signal.Signal.{Signal}
use Rattle.bx_signals.proofs.Listed.{Entry}
use Rattle.bx_signals.proofs.Maps.{equal_pair, tied}
use Rattle.bx_world.specs.Posting.{same_pair}
use Rattle.bx_events.specs.declared.events.Event.{Event}
use Rattle.bx_events.specs.declared.events.Put.{Put}
use Rattle.bx_events.specs.declared.events.Sent.{Sent}
use Rattle.bx_events.specs.declared.events.What.{What}
use Rattle.bx_events.specs.declared.events.What.TheVariants as whats
use Rattle.bx_events.specs.Flows.{IsFirst, IsPut, arrived_by, arrived_out, only_in, put_at, put_from, put_into, sent_by}
use Rattle.bx_events.specs.Pairing.{all_sent, arrival, arrivals, by_puts, next_sent, numbered, puts_in, senders, senders_from, sent_behind, sent_in, takes}

-- ---- in one of two rows

pub get_either : {A : Type 0} (xs ys : List A) (k : ℕ) (x : A) → slice_get (xs ++ ys) k ≡ Some x → (slice_get xs k ≡ Some x) ⊎ ((n : ℕ) × (k ≡ length xs + n) × (slice_get ys n ≡ Some x))
get_either [] ys k x at = inr (k, omega arith, at)
get_either (y ∷ xs) ys zero x at = inl at
get_either (y ∷ xs) ys (suc k) x at = elim (get_either xs ys k x at) [ inl h ↦ inl h | inr there ↦ inr (there.0, omega (arith, there.1), there.2) ]

-- ---- what stands at one key of a map alone

is_below : (o : Ordering) → T (is_lt o) → is_eq o ≡ false
is_below Less h = refl
is_below _ h = absurd h

halves : (a b : Bool) → T (a && b) → T a × T b
halves true b h = (tt, h)
halves false b h = absurd h

module _ {A : Type 0} (pair : ℕ × ℕ) (here : List A) where
  abbrev spread : List (ℕ × ℕ) → List A
  spread [] = []
  spread (k ∷ ks) = (if same_pair pair k then here else []) ++ spread ks

  nowhere : (es : List (Entry Signal)) → T (below_all pair_cmp pair es) → spread (map (λ (e : Entry Signal). e.0) es) ≡ []
  nowhere [] h = refl
  nowhere (e ∷ es) h =
      let (less, more) = halves (is_lt (pair_cmp pair e.0)) (below_all pair_cmp pair es) h in
      ap (λ b. (if b then here else []) ++ spread (map (λ (e : Entry Signal). e.0) es)) (sym (tied pair e.0) ∙ is_below (pair_cmp pair e.0) less)
      ∙ nowhere es more

  once : (es : List (Entry Signal)) → T (is_sorted pair_cmp es) → (find pair_cmp pair es ≡ None → [] ≡ here) → spread (map (λ (e : Entry Signal). e.0) es) ≡ here
  once [] h none = none refl
  once (e ∷ es) h none =
      let (above, sorted) = halves (below_all pair_cmp e.0 es) (is_sorted pair_cmp es) h in
      elim (cases_Bool (same_pair pair e.0)) [
        | inl same ↦ rw same (ap (λ xs. here ++ xs) (nowhere es (subst (λ (k : ℕ × ℕ). T (below_all pair_cmp k es)) (sym (equal_pair pair e.0 same)) above)) ∙ append-nil here)
        | inr other ↦ rw other (once es sorted (λ missed. none (ap (λ b. cond b (Some e.1) (find pair_cmp pair es)) (tied pair e.0 ∙ other) ∙ missed)))
      ]

  at_key : (m : Channels Signal) → (waiting m pair ≡ [] → [] ≡ here) → spread (pairs m) ≡ here
  at_key m none = once (entries m) (entries_sorted m) (λ missed. none (ap in_order (get-entries m pair ∙ missed)))

-- what depends on the key
by_key : {A : Type 0} (b : Bool) (f : ℕ × ℕ → List A) (pair k : ℕ × ℕ) → (b ≡ true → pair ≡ k) → (if b then f k else []) ≡ (if b then f pair else [])
by_key true f pair k same = ap f (sym (same refl))
by_key false f pair k same = refl

pub both : {A : Type 0} (b : Bool) (x : A) (xs ys zs : List A) → zs ≡ xs ++ ys → (if b then x ∷ zs else zs) ≡ (if b then x ∷ xs else xs) ++ ys
both true x xs ys zs e = ap (λ ws. x ∷ ws) e
both false x xs ys zs e = e

-- ---- what an event puts

pub put_append : (pair : ℕ × ℕ) (p row : ℕ) (xs ys : List Put) → put_at pair p row (xs ++ ys) ≡ put_at pair p row xs ++ put_at pair p row ys
put_append pair p row [] ys = refl
put_append pair p row (x ∷ xs) ys = both (same_pair pair (p, x.to)) (sent_by p row x) (put_at pair p row xs) (put_at pair p row ys) (put_at pair p row (xs ++ ys)) (put_append pair p row xs ys)

-- signals in order, of which the first has n others before it in its channel
abbrev pub sent_as : ℕ × ℕ → ℕ → ℕ → List Signal → List Sent
sent_as pair row n [] = []
sent_as pair row n (signal ∷ more) = record { from = pair.0; to = pair.1; number = n + 1; event = row; signal = signal } ∷ sent_as pair row (n + 1) more

nothing_either : {A : Type 0} (b : Bool) (xs : List A) → xs ≡ [] → [] ≡ (if b then xs else [])
nothing_either true xs none = sym none
nothing_either false xs none = refl

one_kept : {A : Type 0} (b : Bool) (x : A) (xs ys : List A) → xs ≡ (if b then ys else []) → (if b then x ∷ xs else xs) ≡ (if b then x ∷ ys else [])
one_kept true x xs ys e = ap (λ zs. x ∷ zs) e
one_kept false x xs ys e = e

numbered_is : (pair k : ℕ × ℕ) (row n : ℕ) (ss : List Signal) → put_at pair k.0 row (numbered k.1 n ss) ≡ (if same_pair pair k then sent_as k row n ss else [])
numbered_is pair k row n [] = nothing_either (same_pair pair k) [] refl
numbered_is pair k row n (s ∷ ss) =
    one_kept (same_pair pair k) (sent_by k.0 row (record { to = k.1; number = n + 1; signal = s })) (put_at pair k.0 row (numbered k.1 (n + 1) ss)) (sent_as k row (n + 1) ss) (numbered_is pair k row (n + 1) ss)

-- an event of process a puts into its own channels
module _ (pair : ℕ × ℕ) (a row : ℕ) (events : List Event) (m : Channels Signal) (own : (k : ℕ × ℕ) → (k.0 == a) ≡ false → waiting m k ≡ []) where
  abbrev here_of : ℕ × ℕ → List Sent
  here_of k = sent_as k row (length (senders k events)) (waiting m k)

  own_channel : (k : ℕ × ℕ) → put_at pair a row (numbered k.1 (length (senders k events)) (waiting m k)) ≡ (if same_pair pair k then here_of k else [])
  own_channel k = elim (cases_Bool (k.0 == a)) [
    | inl e ↦ ap (λ p. put_at pair p row (numbered k.1 (length (senders k events)) (waiting m k))) (sym (eqb-true k.0 a e)) ∙ numbered_is pair k row (length (senders k events)) (waiting m k)
    | inr e ↦ ap (λ ss. put_at pair a row (numbered k.1 (length (senders k events)) ss)) (own k e) ∙ nothing_either (same_pair pair k) (here_of k) (ap (sent_as k row (length (senders k events))) (own k e))
  ]

  one_channel : (k : ℕ × ℕ) → put_at pair a row (numbered k.1 (length (senders k events)) (waiting m k)) ≡ (if same_pair pair k then here_of pair else [])
  one_channel k = own_channel k ∙ by_key (same_pair pair k) here_of pair k (equal_pair pair k)

  all_channels : (ks : List (ℕ × ℕ)) → put_at pair a row (puts_in m events ks) ≡ spread pair (here_of pair) ks
  all_channels [] = refl
  all_channels (k ∷ ks) =
      put_append pair a row (numbered k.1 (length (senders k events)) (waiting m k)) (puts_in m events ks) ∙ (λ i. one_channel k i ++ all_channels ks i)

  pub puts_are : put_at pair a row (puts_in m events (pairs m)) ≡ sent_as pair row (length (senders pair events)) (waiting m pair)
  puts_are = all_channels (pairs m) ∙ at_key pair (here_of pair) m (λ none. sym (ap (sent_as pair row (length (senders pair events))) none))

-- ---- one event more

pub put_more : (pair : ℕ × ℕ) (row : ℕ) (events : List Event) (event : Event) → put_from pair row (events ++ event ∷ []) ≡ put_from pair row events ++ put_at pair event.actor (row + length events) event.puts
put_more pair row [] event = append-nil (put_at pair event.actor row event.puts) ∙ ap (λ n. put_at pair event.actor n event.puts) (omega arith)
put_more pair row (e ∷ events) event =
    ap (λ xs. put_at pair e.actor row e.puts ++ xs) (put_more pair (row + 1) events event ∙ ap (λ n. put_from pair (row + 1) events ++ put_at pair event.actor n event.puts) (omega arith))
    ∙ sym (append_assoc (put_at pair e.actor row e.puts) (put_from pair (row + 1) events) (put_at pair event.actor (row + length (e ∷ events)) event.puts))

pub arrived_more : (pair : ℕ × ℕ) (events : List Event) (event : Event) → arrived_out pair (events ++ event ∷ []) ≡ arrived_out pair events ++ arrived_by pair event.what
arrived_more pair [] event = append-nil (arrived_by pair event.what)
arrived_more pair (e ∷ events) event =
    ap (λ xs. arrived_by pair e.what ++ xs) (arrived_more pair events event) ∙ sym (append_assoc (arrived_by pair e.what) (arrived_out pair events) (arrived_by pair event.what))

-- ---- by the words of the story

abbrev pub row_of : Sent → ℕ
row_of sent = sent.event

pub by_puts_are : (pair : ℕ × ℕ) (p row : ℕ) (puts : List Put) → by_puts pair p row puts ≡ map row_of (put_at pair p row puts)
by_puts_are pair p row [] = refl
by_puts_are pair p row (put ∷ more) = let on = by_puts_are pair p row more in elim (cases_Bool (same_pair pair (p, put.to))) [ inl e ↦ rw e (ap (λ xs. row ∷ xs) on) | inr e ↦ rw e on ]

pub senders_are : (pair : ℕ × ℕ) (row : ℕ) (events : List Event) → senders_from pair row events ≡ map row_of (put_from pair row events)
senders_are pair row [] = refl
senders_are pair row (e ∷ events) =
    (λ i. by_puts_are pair e.actor row e.puts i ++ senders_are pair (row + 1) events i) ∙ sym (map-append row_of (put_at pair e.actor row e.puts) (put_from pair (row + 1) events))

arrival_is : (pair : ℕ × ℕ) (what : What) → arrival pair what ≡ length (arrived_by pair what)
arrival_is pair (whats.Arrived sent effect) = elim (cases_Bool (takes effect && same_pair pair (sent.from, sent.to))) [ inl e ↦ rw e | inr e ↦ rw e ]
arrival_is pair _ = refl

pub senders_count : (pair : ℕ × ℕ) (events : List Event) → length (senders pair events) ≡ length (put_into pair events)
senders_count pair events = ap length (senders_are pair 0 events) ∙ length-map (put_into pair events) row_of

arrivals_are : (pair : ℕ × ℕ) (events : List Event) → arrivals pair events ≡ length (arrived_out pair events)
arrivals_are pair [] = refl
arrivals_are pair (e ∷ events) = omega (arith, arrival_is pair e.what, arrivals_are pair events, length-append (arrived_by pair e.what) (arrived_out pair events))

-- ---- signals that are counted in their channel

abbrev pub IsCounted : ℕ × ℕ → ℕ → List Sent → Type 0
IsCounted pair n [] = Unit {0}
IsCounted pair n (sent ∷ more) = (sent.from ≡ pair.0) × (sent.to ≡ pair.1) × (sent.number ≡ n + 1) × IsCounted pair (n + 1) more

pub counted_as : (pair : ℕ × ℕ) (row n : ℕ) (ss : List Signal) → IsCounted pair n (sent_as pair row n ss)
counted_as pair row n [] = tt
counted_as pair row n (s ∷ ss) = (refl, refl, refl, counted_as pair row (n + 1) ss)

pub counted_append : (pair : ℕ × ℕ) (n : ℕ) (xs ys : List Sent) → IsCounted pair n xs → IsCounted pair (n + length xs) ys → IsCounted pair n (xs ++ ys)
counted_append pair n [] ys h k = let same : n + 0 ≡ n = omega arith in subst (λ m. IsCounted pair m ys) same k
counted_append pair n (x ∷ xs) ys h k =
    let same : n + suc (length xs) ≡ n + 1 + length xs = omega arith in (h.0, h.1, h.2, counted_append pair (n + 1) xs ys h.3 (subst (λ m. IsCounted pair m ys) same k))

pub counted_get : (pair : ℕ × ℕ) (m n : ℕ) (xs : List Sent) (sent : Sent) → IsCounted pair m xs → slice_get xs n ≡ Some sent → (sent.from ≡ pair.0) × (sent.to ≡ pair.1) × (sent.number ≡ m + n + 1)
counted_get pair m n [] sent h e = cc
counted_get pair m zero (x ∷ xs) sent h e =
    let same : x ≡ sent = cc in let count : m + 1 ≡ m + 0 + 1 = omega arith in subst (λ (s : Sent). (s.from ≡ pair.0) × (s.to ≡ pair.1) × (s.number ≡ m + 0 + 1)) same (h.0, h.1, h.2 ∙ count)
counted_get pair m (suc n) (x ∷ xs) sent h e =
    let on = counted_get pair (m + 1) n xs sent h.3 e in let count : m + 1 + n + 1 ≡ m + suc n + 1 = omega arith in (on.0, on.1, on.2 ∙ count)

is_there : (xs ys : List Sent) (sent : Sent) → slice_get (xs ++ sent ∷ ys) (length xs) ≡ Some sent
is_there [] ys sent = refl
is_there (x ∷ xs) ys sent = is_there xs ys sent

-- ---- a channel

-- what was put is what has arrived, and then what waits there
pub record Flow (pair : ℕ × ℕ) (events : List Event) (waits : List Signal) : Type 0 where
  pub rest : List Sent
  pub flows : put_into pair events ≡ arrived_out pair events ++ rest
  pub signals : map (λ (s : Sent). s.signal) rest ≡ waits
  pub counted : IsCounted pair 0 (put_into pair events)

-- the story names a signal by the place where it was put
named_at : (pair : ℕ × ℕ) (events : List Event) (xs ys : List Sent) (sent : Sent) → put_into pair events ≡ xs ++ sent ∷ ys → IsCounted pair 0 (put_into pair events)
    → sent_behind (length xs) pair events sent.signal ≡ sent
named_at pair events xs ys sent is counted =
    let at = counted_get pair 0 (length xs) (xs ++ sent ∷ ys) sent (subst (IsCounted pair 0) is counted) (is_there xs ys sent) in
    let row : unwrap_or (slice_get (senders pair events) (length xs)) 0 ≡ sent.event =
    ap (λ rows. unwrap_or (slice_get rows (length xs)) 0) (senders_are pair 0 events ∙ ap (map row_of) is)
    ∙ ap (λ o. unwrap_or o 0) (slice_get-map row_of (xs ++ sent ∷ ys) (length xs) ∙ ap (option_map row_of) (is_there xs ys sent)) in
    let count : length xs + 1 ≡ 0 + length xs + 1 = omega arith in
    λ i. record { from = sym at.0 i; to = sym at.1 i; number = (count ∙ sym at.2) i; event = row i; signal = sent.signal }

all_named : (pair : ℕ × ℕ) (events : List Event) (n : ℕ) (xs rest : List Sent) → n ≡ length xs → put_into pair events ≡ xs ++ rest → IsCounted pair 0 (put_into pair events)
    → all_sent n pair events (map (λ (s : Sent). s.signal) rest) ≡ rest
all_named pair events n xs [] count is counted = refl
all_named pair events n xs (sent ∷ rest) count is counted =
    let first = ap (λ k. sent_behind k pair events sent.signal) count ∙ named_at pair events xs rest sent is counted in
    let more = all_named pair events (n + 1) (xs ++ sent ∷ []) rest (omega (arith, count, length-append xs (sent ∷ []))) (is ∙ sym (append_assoc xs (sent ∷ []) rest)) counted in
    λ i. first i ∷ more i

-- ---- what waits first

pub head_of : (pair : ℕ × ℕ) (events : List Event) (waits : List Signal) (s : Signal) → Flow pair events waits → first waits ≡ Some s
    → (others : List Sent) × (put_into pair events ≡ arrived_out pair events ++ next_sent pair events s ∷ others) × (s ∷ map (λ (s : Sent). s.signal) others ≡ waits)
head_of pair events waits s flow is = go flow.rest flow.flows flow.signals
  where
    go : (rest : List Sent) → put_into pair events ≡ arrived_out pair events ++ rest → map (λ (s : Sent). s.signal) rest ≡ waits
        → (others : List Sent) × (put_into pair events ≡ arrived_out pair events ++ next_sent pair events s ∷ others) × (s ∷ map (λ (s : Sent). s.signal) others ≡ waits)
    go [] flows signals = let no : None ≡ Some s = ap first signals ∙ is in cc
    go (sent ∷ others) flows signals =
        let both_some : Some sent.signal ≡ Some s = ap first signals ∙ is in
        let same : sent.signal ≡ s = cc in
        let named : sent ≡ next_sent pair events s =
        sym (named_at pair events (arrived_out pair events) others sent flows flow.counted) ∙ (λ i. sent_behind (sym (arrivals_are pair events) i) pair events (same i)) in
        (others, flows ∙ ap (λ (x : Sent). arrived_out pair events ++ x ∷ others) named, ap (λ x. x ∷ map (λ (s : Sent). s.signal) others) (sym same) ∙ signals)

pub signals_as : (pair : ℕ × ℕ) (row n : ℕ) (ss : List Signal) → map (λ (s : Sent). s.signal) (sent_as pair row n ss) ≡ ss
signals_as pair row n [] = refl
signals_as pair row n (s ∷ ss) = ap (λ xs. s ∷ xs) (signals_as pair row (n + 1) ss)

-- ---- each signal that was put names the event that put it

abbrev Among : List Put → Sent → Type 0
Among puts sent = (k : ℕ) × (slice_get puts k ≡ Some (record { to = sent.to; number = sent.number; signal = sent.signal }))

put_there : (pair : ℕ × ℕ) (p row : ℕ) (puts : List Put) (n : ℕ) (sent : Sent) → slice_get (put_at pair p row puts) n ≡ Some sent → (sent.event ≡ row) × (p ≡ sent.from) × Among puts sent
put_there pair p row [] n sent at = cc
put_there pair p row (put ∷ more) n sent at = go (same_pair pair (p, put.to)) n at (λ m h. put_there pair p row more m sent h)
  where
    go : (b : Bool) (m : ℕ) → slice_get (if b then sent_by p row put ∷ put_at pair p row more else put_at pair p row more) m ≡ Some sent
        → ((k : ℕ) → slice_get (put_at pair p row more) k ≡ Some sent → (sent.event ≡ row) × (p ≡ sent.from) × Among more sent) → (sent.event ≡ row) × (p ≡ sent.from) × Among (put ∷ more) sent
    go true zero e on = let same : sent_by p row put ≡ sent = cc in subst (λ (s : Sent). (s.event ≡ row) × (p ≡ s.from) × Among (put ∷ more) s) same (refl, refl, (0, refl))
    go true (suc m) e on = let found = on m e in (found.0, found.1, (suc found.2.0, found.2.1))
    go false m e on = let found = on m e in (found.0, found.1, (suc found.2.0, found.2.1))

put_here : (pair : ℕ × ℕ) (row : ℕ) (events : List Event) (n : ℕ) (sent : Sent) → slice_get (put_from pair row events) n ≡ Some sent
    → (k : ℕ) × (sent.event ≡ row + k) × (event : Event) × (slice_get events k ≡ Some event) × (event.actor ≡ sent.from) × Among event.puts sent
put_here pair row [] n sent at = cc
put_here pair row (e ∷ events) n sent at = elim (get_either (put_at pair e.actor row e.puts) (put_from pair (row + 1) events) n sent at) [
  | inl h ↦ (let found = put_there pair e.actor row e.puts n sent h in (0, omega (arith, found.0), e, refl, found.1, found.2))
  | inr there ↦ (let found = put_here pair (row + 1) events there.0 sent there.2 in (suc found.0, omega (arith, found.1), found.2, found.3, found.4, found.5))
]

pub is_put : (pair : ℕ × ℕ) (events : List Event) (sent : Sent) → IsFirst pair events sent → IsPut events sent
is_put pair events sent (others, is) =
    let at = ap (λ xs. slice_get xs (length (arrived_out pair events))) is ∙ is_there (arrived_out pair events) others sent in
    let found = put_here pair 0 events (length (arrived_out pair events)) sent at in
    let row : sent.event ≡ found.0 = omega (arith, found.1) in
    record { event = found.2; stands = ap (slice_get events) row ∙ found.3; sender = found.4; place = found.5.0; puts = found.5.1 }

-- ---- what waits at the end

only_append : (pair : ℕ × ℕ) (xs ys : List Sent) → only_in pair (xs ++ ys) ≡ only_in pair xs ++ only_in pair ys
only_append pair [] ys = refl
only_append pair (x ∷ xs) ys = both (same_pair pair (x.from, x.to)) x (only_in pair xs) (only_in pair ys) (only_in pair (xs ++ ys)) (only_append pair xs ys)

only_one : (pair k : ℕ × ℕ) (events : List Event) (n : ℕ) (ss : List Signal) → only_in pair (all_sent n k events ss) ≡ (if same_pair pair k then all_sent n k events ss else [])
only_one pair k events n [] = nothing_either (same_pair pair k) [] refl
only_one pair k events n (s ∷ ss) =
    one_kept (same_pair pair k) (sent_behind n k events s) (only_in pair (all_sent (n + 1) k events ss)) (all_sent (n + 1) k events ss) (only_one pair k events (n + 1) ss)

module _ (pair : ℕ × ℕ) (events : List Event) (m : Channels Signal) where
  abbrev left_of : ℕ × ℕ → List Sent
  left_of k = all_sent (arrivals k events) k events (waiting m k)

  only_all : (ks : List (ℕ × ℕ)) → only_in pair (sent_in m events ks) ≡ spread pair (left_of pair) ks
  only_all [] = refl
  only_all (k ∷ ks) =
      only_append pair (left_of k) (sent_in m events ks)
      ∙ (λ i. (only_one pair k events (arrivals k events) (waiting m k) ∙ by_key (same_pair pair k) left_of pair k (equal_pair pair k)) i ++ only_all ks i)

  pub left_over : Flow pair events (waiting m pair) → put_into pair events ≡ arrived_out pair events ++ only_in pair (sent_in m events (pairs m))
  left_over flow =
      let rest : only_in pair (sent_in m events (pairs m)) ≡ flow.rest =
      only_all (pairs m) ∙ at_key pair (left_of pair) m (λ none. sym (ap (all_sent (arrivals pair events) pair events) none))
      ∙ ap (all_sent (arrivals pair events) pair events) (sym flow.signals)
      ∙ all_named pair events (arrivals pair events) (arrived_out pair events) flow.rest (arrivals_are pair events) flow.flows flow.counted in
      flow.flows ∙ ap (λ xs. arrived_out pair events ++ xs) (sym rest)
