-- What choices make of channels, told by what they put and take.
use Rattle.bx_world.proofs.Words.{◌≡◌, ℕ, List, [], ◌∷◌, ◌++◌, Bool, true, false, cond, Ok, Err, refl, sym, ap, ◌∙◌, append_assoc, append-nil, is_some, is_none, if◌then◌else◌, Place, Loaded, first}
use Rattle.bx_world.proofs.Words.{Channels, waiting, put, Signal, waiting_empty, equal_pair, Choice, Run, Deliver, Expire, State, begun, able, can, actor, Posts, all_posted, Coming, coming, after, chosen}
use Rattle.bx_world.proofs.Words.{same_pair, in_channel, as_row, first_of, put_by, taken_by, behind, all_behind}
use Rattle.std.proofs.lemmas.Bool.{and_parts}
use Rattle.bx_signals.specs.Waiting.{rest}
use Rattle.bx_signals.proofs.Maps.{waiting_with}
use Rattle.bx_world.specs.Sharing.{heeded}
use Rattle.bx_world.specs.Posting.{put_in, taken_from, all_put, all_taken}

-- a put, channel by channel
put_one : (b : Bool) (pair own : ℕ × ℕ) (s : Signal) (m : Channels Signal) → (b ≡ true → pair ≡ own) → waiting m pair ++ (cond b (s ∷ []) []) ≡ cond b (waiting m own ++ s ∷ []) (waiting m pair)
put_one true pair own s m same = ap (λ k. waiting m k ++ s ∷ []) (same refl)
put_one false pair own s m same = append-nil (waiting m pair)

one_of : (b : Bool) (s : Signal) (more : List Signal) → (cond b (s ∷ []) []) ++ more ≡ (if b then s ∷ more else more)
one_of true s more = refl
one_of false s more = refl

waiting_posts : (p : ℕ) (posts : Posts) (m : Channels Signal) (pair : ℕ × ℕ) → waiting (all_posted p posts m) pair ≡ waiting m pair ++ in_channel p pair posts
waiting_posts p [] m pair = sym (append-nil (waiting m pair))
waiting_posts p (post ∷ more) m pair =
    let own : ℕ × ℕ = (p, post.0) in
    waiting_posts p more (put own post.1 m) pair
    ∙ ap (λ ss. ss ++ in_channel p pair more) (waiting_with own (waiting m own ++ post.1 ∷ []) m pair ∙ sym (put_one (same_pair pair own) pair own post.1 m (equal_pair pair own)))
    ∙ append_assoc (waiting m pair) (cond (same_pair pair own) (post.1 ∷ []) []) (in_channel p pair more)
    ∙ ap (λ ss. waiting m pair ++ ss) (one_of (same_pair pair own) post.1 (in_channel p pair more))

any_first : (ss more : List Signal) → is_some (first ss) ≡ true → as_row (first ss) ++ rest (ss ++ more) ≡ ss ++ more
any_first [] more h = cc
any_first (x ∷ ss) more h = refl

-- a delivery, in its own channel and in others
delivered_in : (b : Bool) (pair own : ℕ × ℕ) (m n : Channels Signal) (sent : List Signal) → (b ≡ true → pair ≡ own) → is_some (first (waiting m own)) ≡ true → waiting n pair ≡ waiting m pair ++ sent
    → waiting m pair ++ sent ≡ (if b then as_row (first (waiting m pair)) else []) ++ cond b (rest (waiting n own)) (waiting n pair)
delivered_in true pair own m n sent same there put =
    let is = same refl in
    sym (ap (λ ss. as_row (first (waiting m pair)) ++ rest ss) (ap (waiting n) (sym is) ∙ put) ∙ any_first (waiting m pair) sent (ap (λ k. is_some (first (waiting m k))) is ∙ there))
delivered_in false pair own m n sent same there put = sym put

-- what is put, and then the first taken, where that waits
moved : (c : Choice) (takes : Bool) (posts : Posts) (w : State) (pair : ℕ × ℕ) → able c w.processes w.lanes ≡ true
    → waiting w.lanes.channels pair ++ in_channel (actor c) pair posts ≡ first_of c takes pair w.lanes.channels ++ waiting (heeded c takes (all_posted (actor c) posts w.lanes.channels)) pair
moved (Run p) takes posts w pair can = sym (waiting_posts p posts w.lanes.channels pair)
moved (Expire p) takes posts w pair can = sym (waiting_posts p posts w.lanes.channels pair)
moved (Deliver p q) false posts w pair can = sym (waiting_posts q posts w.lanes.channels pair)
moved (Deliver p q) true posts w pair can =
    let m = w.lanes.channels in
    let n = all_posted q posts m in
    delivered_in (same_pair pair (p, q)) pair (p, q) m n (in_channel q pair posts) (equal_pair pair (p, q)) can (waiting_posts q posts m pair)
    ∙ ap (λ ss. (if same_pair pair (p, q) then as_row (first (waiting m pair)) else []) ++ ss) (sym (waiting_with (p, q) (rest (waiting n (p, q))) n pair))

pub came : (c : Choice) (w : State) (pair : ℕ × ℕ) (x : Coming) → able c w.processes w.lanes ≡ true → waiting w.lanes.channels pair ++ put_by c pair x ≡ taken_by c pair w.lanes.channels x ++ waiting (after c w x).lanes.channels pair
came c w pair (Ok (Ok made)) can = moved c made.takes made.posts w pair can
came c w pair (Ok (Err kind)) can = append-nil (waiting w.lanes.channels pair)
came c w pair (Err fault) can = append-nil (waiting w.lanes.channels pair)

-- one choice
step : (image : Loaded) (c : Choice) (w : State) (pair : ℕ × ℕ) → waiting w.lanes.channels pair ++ put_in image c w pair ≡ taken_from image c w pair ++ waiting (behind image c w).lanes.channels pair
step image c w pair = go (can w c) (λ h. (and_parts (is_none w.trap) (able c w.processes w.lanes) h).1)
  where
    go : (b : Bool) → (b ≡ true → able c w.processes w.lanes ≡ true) → waiting w.lanes.channels pair ++ (if b then put_by c pair (coming image c w) else [])
        ≡ (if b then taken_by c pair w.lanes.channels (coming image c w) else []) ++ waiting (if b then chosen image c w else w).lanes.channels pair
    go true able_there = came c w pair (coming image c w) (able_there refl)
    go false able_there = append-nil (waiting w.lanes.channels pair)

-- choices in a row
pub arriving : (image : Loaded) (choices : List Choice) (w : State) (pair : ℕ × ℕ) → waiting w.lanes.channels pair ++ all_put image choices w pair ≡ all_taken image choices w pair ++ waiting (all_behind image choices w).lanes.channels pair
arriving image [] w pair = append-nil (waiting w.lanes.channels pair)
arriving image (choice ∷ more) w pair =
    let next = behind image choice w in
    sym (append_assoc (waiting w.lanes.channels pair) (put_in image choice w pair) (all_put image more next pair))
    ∙ ap (λ ss. ss ++ all_put image more next pair) (step image choice w pair)
    ∙ append_assoc (taken_from image choice w pair) (waiting next.lanes.channels pair) (all_put image more next pair)
    ∙ ap (λ ss. taken_from image choice w pair ++ ss) (arriving image more next pair)
    ∙ sym (append_assoc (taken_from image choice w pair) (all_taken image more next pair) (waiting (all_behind image more next).lanes.channels pair))

pub arriving_from_start : (image : Loaded) (choices : List Choice) (place : Place) (pair : ℕ × ℕ) → all_put image choices (begun place) pair ≡ all_taken image choices (begun place) pair ++ waiting (all_behind image choices (begun place)).lanes.channels pair
arriving_from_start image choices place pair = ap (λ ss. ss ++ all_put image choices (begun place) pair) (sym (waiting_empty pair)) ∙ arriving image choices (begun place) pair
