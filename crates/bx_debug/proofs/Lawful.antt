-- What is true of every session.
use Rattle.bx_debug.proofs.Words.{◌≡◌, ℕ, ◌+◌, ◌-◌, ◌<◌, ◌≤◌, List, [], ◌∷◌, length, replicate, Bool, true, false, Option, Some, None, Ok, Err, refl, sym, ap, ◌∙◌, subst, arith, length-append, ◌==◌, ◌||◌}
use Rattle.bx_debug.proofs.Words.{if◌then◌else◌, nat_lt, Loaded, Choice, State, can, refusal, Ended, ran, unchosen, Course, reached, with_exchange, IsExchanged, ends_after, one_made, tidied_of, undone_of, exchanged_is}
use Rattle.bx_debug.proofs.Words.{may_swap, walked, led, all_enabled, IsSession, runs_to, History, behind, world_of, with_made, or_refused, stepped, course_of, tidy_of, undone, come}
use Rattle.std.proofs.Common.{Result}
use Rattle.std.proofs.lemmas.List.{take_at, length-take-le}
use Rattle.std.proofs.lemmas.Bool.{le-ltb, ltb-false, and_from}
use Rattle.std.proofs.lemmas.Bool.Decides.{nat_tests}
use Rattle.bx_terms.proofs.Outcomes.{ok_pair, bind_ok}
use Rattle.bx_terms.specs.declared.atom_table.AtomId.{AtomId}
use Rattle.bx_terms.specs.declared.faults.Fault.{Fault}
use Rattle.bx_terms.specs.declared.faults.Fault.TheVariants as faults
use Rattle.bx_world.specs.declared.choices.Choice.TheVariants as choices
use Rattle.bx_world.specs.World.{started}
use Rattle.bx_debug.specs.Calls.{Call, Step, Back, Forward, Go, Run, Swap, Tidy, Undo, SetBreak, ClearBreak, kept_unless, called, after_calls}
use Rattle.bx_swaps.proofs.Gathering.{tidied_so, undone_so}
use Rattle.bx_debug.specs.Exchanging.{swap_by}
use Rattle.bx_debug.specs.Sessions.{begun, opened, back, forward}
use Rattle.bx_debug.specs.Stopping.{IsRunOf}
use Rattle.bx_debug.proofs.Exchanging.{may_so}
use Rattle.bx_debug.proofs.Swapping.{session_exchanged}
use Rattle.bx_debug.proofs.Leads.{enabled_both, enabled_take}
use Rattle.bx_debug.proofs.Moving.{reached_here, shown_there}
use Rattle.bx_debug.proofs.Walking.{enabled_unless, unrefused}
use Rattle.bx_debug.proofs.Stopped.{walked_enabled}

-- every choice of the session was enabled where it was made
record Made (image : Loaded) (start : State) (s : History) : Type 0 where
  pub code : s.image ≡ image
  pub begins : s.start ≡ start
  pub within : s.at ≤ length s.choices
  pub made : all_enabled s.image s.choices s.start ≡ true

module _ {image : Loaded} {start : State} {s : History} (m : Made image start s) where
  -- the choices of a session, where they lead
  session : IsSession (course_of s) s.at (led s.image (behind s) s.start)
  session = record { begins = refl; within = m.within; made = m.made; shown = refl }

  made_more : (choices : List Choice) → all_enabled s.image choices (world_of s) ≡ true → Made image start (with_made choices s)
  made_more [] able = m
  made_more (choice ∷ more) able = record {
    code = m.code;
    begins = m.begins;
    within = omega (arith, length-append (behind s) (choice ∷ more), length-take-le s.at s.choices m.within);
    made = enabled_both s.image (behind s) (choice ∷ more) s.start (enabled_take s.image s.at s.choices s.start m.made)
        (subst (λ (w : State). all_enabled s.image (choice ∷ more) w ≡ true) (sym (shown_there session {places = s.places} refl)) able);
  }

  moved : (at : ℕ) → at ≤ length s.choices → Made image start (record s { at = at })
  moved at within = record { code = m.code; begins = m.begins; within = within; made = m.made }

  -- exchanges that may be made before the position
  exchanged : (new : Course) → IsExchanged s.at (course_of s) new → Made image start (record s { choices = new.choices })
  exchanged new e =
      let now = session_exchanged session e in
      record {
        code = m.code;
        begins = m.begins;
        within = now.within;
        made = (λ i. all_enabled (sym (ap (λ (c : Course). c.image) e.is) i) new.choices (sym (ap (λ (c : Course). c.start.world) e.is) i)) ∙ now.made;
      }

  -- a call that may be refused
  kept : (past : Bool) (fault : Fault) (t : History) → (past ≡ false → Made image start t) → Made image start (kept_unless s (if past then Err fault else Ok (t, tt)))
  kept true fault t made = m
  kept false fault t made = made refl

  step_made : (choice : Choice) (why : Option Fault) → refusal (world_of s) choice ≡ why → Made image start (kept_unless s (or_refused why (with_made (choice ∷ []) s)))
  step_made choice None is = made_more (choice ∷ []) (and_from (can (world_of s) choice) true (enabled_unless choice (world_of s) (unrefused choice (world_of s) is)) refl)
  step_made choice (Some fault) is = m

  swap_made : (k : ℕ) (may : Bool) → may_swap k s ≡ may → Made image start (kept_unless s (swap_by may k s))
  swap_made k false is = m
  swap_made k true is =
      let (some, short, may) = may_so k s is in
      exchanged (with_exchange (k - 1) (course_of s)) (one_made s.at (k - 1) (course_of s) (omega (arith, some, short)) may)

called_made : {image : Loaded} {start : State} (call : Call) {s : History} → Made image start s → Made image start (called call s)
called_made (Step choice) {s} m = step_made m choice (refusal (world_of s) choice) refl
called_made (Back n) {s} m = kept m (nat_lt s.at n) faults.BeforeStart _ (λ less. let within = m.within in moved m (s.at - n) (omega arith))
called_made (Forward n) {s} m =
    kept m (nat_lt (length s.choices - s.at) n) faults.AfterEnd _ (λ less. let within = m.within in let few = ltb-false (length s.choices - s.at) n less in moved m (s.at + n) (omega arith))
called_made (Go choices) {s} m = made_more m (walked s.image s.places choices (world_of s)).0 (walked_enabled s.image s.places choices (world_of s))
called_made (Run bound p) {s} m =
    let runs = replicate (runs_to bound s.image s.places p (world_of s)) (choices.Run p) in made_more m (walked s.image s.places runs (world_of s)).0 (walked_enabled s.image s.places runs (world_of s))
called_made (Swap k) {s} m = swap_made m k (may_swap k s) refl
called_made Tidy {s} m = exchanged m (tidied_of s.at (course_of s)) (tidied_so s.at (course_of s)).exchanged
called_made (Undo k) {s} m =
    kept m (k == 0 || nat_lt s.at k) (faults.NotIndependent k) (undone k s)
    (λ stands.
    let less : k - 1 < s.at = grind (arith, nat_tests) in
    let aside = undone_so s.at (k - 1) (course_of s) less in
    let now = exchanged m (undone_of s.at (k - 1) (course_of s)).0 aside.exchanged in
    moved now (undone_of s.at (k - 1) (course_of s)).1 (omega (arith, now.within, aside.less)))
called_made (SetBreak place) m = record { code = m.code; begins = m.begins; within = m.within; made = m.made }
called_made (ClearBreak place) m = record { code = m.code; begins = m.begins; within = m.within; made = m.made }

calls_made : {image : Loaded} {start : State} (calls : List Call) {s : History} → Made image start s → Made image start (after_calls calls s)
calls_made [] m = m
calls_made (call ∷ more) m = calls_made more (called_made call m)

opened_made : (image : Loaded) (m f : AtomId) (first : History) → opened image m f ≡ Ok first → Made image first.start first
opened_made image m f first is =
    let found = bind_ok (started image m f) (λ w. Ok (begun image w)) first is in
    let same : begun image found.0 ≡ first = cc (found.2) in
    subst (λ (s : History). Made image s.start s) same (record { code = refl; begins = refl; within = omega arith; made = refl })

pub always_run : (image : Loaded) (m f : AtomId) (first : History) (calls : List Call) → opened image m f ≡ Ok first → IsRunOf image first.start (after_calls calls first)
always_run image m f first calls is =
    let made = calls_made calls (opened_made image m f first is) in
    let s = after_calls calls first in
    let run = reached_here (session made) ∙ ap (λ w. come w s.at) (shown_there (session made) {places = s.places} refl) in
    record { code = made.code; begins = made.begins; within = made.within; run = (λ i. ran (sym made.code i) (behind s) (unchosen (sym made.begins i))) ∙ run }

-- a call that was not refused
kept_ok : (past : Bool) (fault : Fault) (t u : History) → if◌then◌else◌ {A = Result (History × Unit {0}) Fault} past (Err fault) (Ok (t, tt)) ≡ Ok (u, tt) → (past ≡ false) × (t ≡ u)
kept_ok true fault t u is = cc
kept_ok false fault t u is = (refl, (ok_pair t u tt tt is).0)

made_is : (t u : History) (why : Option Fault) → or_refused why t ≡ Ok (u, tt) → t ≡ u
made_is t u None is = (ok_pair t u tt tt is).0
made_is t u (Some fault) is = cc

-- stepping back over a choice that was made
pub stepped_back : (choice : Choice) (s t u : History) → s.at ≤ length s.choices → stepped choice s ≡ Ok (t, tt) → back 1 t ≡ Ok (u, tt) → world_of u ≡ world_of s
stepped_back choice s t u within made gone_back =
    let t_is = made_is (with_made (choice ∷ []) s) t (refusal (world_of s) choice) made in
    let behind_is = take_at (behind s) (choice ∷ []) (s.at + 1 - 1) (length-take-le s.at s.choices within ∙ omega arith) in
    sym (ap world_of (kept_ok (nat_lt t.at 1) faults.BeforeStart (record t { at = t.at - 1 }) u gone_back).1) ∙ sym (ap (λ (h : History). world_of (record h { at = h.at - 1 })) t_is)
    ∙ ap (λ (cs : List Choice). (ran s.image cs (unchosen s.start)).world) behind_is

-- forward as far as back
pub forward_back : (n : ℕ) (s t : History) → s.at ≤ length s.choices → back n s ≡ Ok (t, tt) → forward n t ≡ Ok (s, tt)
forward_back n s t within gone_back =
    let (past, t_is) = kept_ok (nat_lt s.at n) faults.BeforeStart (record s { at = s.at - n }) t gone_back in
    let few = ltb-false s.at n past in
    let room_ahead : nat_lt (length s.choices - (s.at - n)) n ≡ false = le-ltb (length s.choices - (s.at - n)) n (omega arith) in
    let there : s.at - n + n ≡ s.at = omega arith in
    subst (λ (h : History). forward n h ≡ Ok (s, tt)) t_is (λ i. if room_ahead i then Err faults.AfterEnd else Ok (record s { at = there i }, tt))

-- ---- exchanges leave where they lead

exchanged_shows : (s : History) (new : Course) → IsExchanged s.at (course_of s) new → world_of (record s { choices = new.choices }) ≡ world_of s
exchanged_shows s new e =
    ap (λ (end : Ended). end.world) (ap (reached s.at) (sym (exchanged_is s.at (course_of s) new e)) ∙ ends_after s.at s.at (course_of s) new e (omega arith))

pub tidy_shows : (s : History) → world_of (tidy_of s) ≡ world_of s
tidy_shows s = exchanged_shows s (tidied_of s.at (course_of s)) (tidied_so s.at (course_of s)).exchanged

pub undo_shows : (k : ℕ) (s : History) → 0 < k → k ≤ s.at → world_of (record (undone k s) { at = s.at }) ≡ world_of s
undo_shows k s some least =
    let less : k - 1 < s.at = omega arith in
    exchanged_shows s (undone_of s.at (k - 1) (course_of s)).0 (undone_so s.at (k - 1) (course_of s) less).exchanged
