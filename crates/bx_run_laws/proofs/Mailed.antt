-- What choices make of the mailbox of one process, told by what is done to it: so which messages it holds, and which is the current one.
use Rattle.std.proofs.Common.{◌≡◌, ◌≢◌, ℕ, zero, suc, ◌<◌, List, [], ◌∷◌, ◌++◌, Bool, true, false, Option, Some, None, Ok, Err, length, refl, sym, subst, ◌∙◌, arith, length-append, eqb-true}
use Rattle.std.proofs.lemmas.Bool.{eqb-false}
use Rattle.std.specs.Prelude.{◌==◌, if◌then◌else◌, slice_get}
use Rattle.std.proofs.lemmas.Option.{slice_get_within}
use Rattle.bx_terms.specs.Tree.{pid}
use Rattle.bx_terms.specs.declared.faults.Fault.TheVariants.{NotEnabled}
use Rattle.bx_terms.specs.declared.places.Place.{Place}
use Rattle.bx_load.specs.Image.{Loaded, export}
use Rattle.bx_mail.specs.Mail.{Mail, empty}
use Rattle.bx_mail.specs.History.{Operation, done, all_done}
use Rattle.bx_signals.specs.declared.signal.Signal.{Signal}
use Rattle.bx_proc.specs.Process.{Process, new_process, can_run, can_expire}
use Rattle.bx_proc.specs.Signals.{expired, expired_if}
use Rattle.bx_proc.specs.declared.parts.Answer.TheVariants.{Value}
use Rattle.bx_world.specs.declared.choices.Choice.{Choice, TheVariants.Run, TheVariants.Deliver, TheVariants.Expire}
use Rattle.bx_world.specs.declared.requests.SpawnRequest.{SpawnRequest}
use Rattle.bx_world.specs.declared.turns.Turn.{Turn}
use Rattle.bx_world.specs.declared.turns.Turn.TheVariants as turns
use Rattle.bx_world.specs.World.{Life, Live, Exited, State, begun}
use Rattle.bx_world.specs.Enabled.{can, actor}
use Rattle.bx_world.specs.Deeds.{Deed, past_limits, system_limit, other_if, linked_to, is_answered, new_child, instruction, signalled}
use Rattle.bx_world.specs.Changes.{Coming, turned_to, change, spawned, run_turn, run_change, heeds, change_of, coming, with_life, with_child, after}
use Rattle.bx_world.specs.Choosing.{chosen}
use Rattle.bx_world.specs.Posting.{behind, all_behind}
use Rattle.bx_world.proofs.Confined.{get_set_other, get_set_same}
use Rattle.bx_run_laws.specs.Earliest.{AreLeft}
use Rattle.bx_run_laws.specs.Mailings.{by_choice, unless_trap, mailed, all_mailed}
use Rattle.bx_run_laws.proofs.Deeds.{TurnsTo, Leads, closed, instructed, signalled_so}
use Rattle.bx_run_laws.proofs.Numbered.{TheEarliest, earliest, those_stand}

-- who lives has this mailbox; one who does not live yet will have an empty one
abbrev pub Has : Mail → Option Life → Type 0
Has mail None = mail ≡ empty
Has mail (Some (Live x)) = x.mailbox ≡ mail
Has mail (Some (Exited reason)) = Unit {0}

abbrev IsNew : Option Process → Type 0
IsNew None = Unit {0}
IsNew (Some x) = x.mailbox ≡ empty

abbrev IsThere : Option Life → Type 0
IsThere None = ⊥
IsThere (Some one) = Unit {0}

-- what becomes of this life
abbrev Becomes : Mail → Option Life → Option Life → Type 0
Becomes mail one None = Has mail one
Becomes mail one (Some life) = IsThere one × Has mail (Some life)

abbrev Comes : Mail → Option Life → Coming → Type 0
Comes mail one (Ok (Ok made)) = Becomes mail one made.life × IsNew made.child
Comes mail one (Ok (Err kind)) = Unit {0}
Comes mail one (Err fault) = Unit {0}

by_test : {A : Type 0} (P : A → Type 0) (b : Bool) (x y : A) → P x → P y → P (if b then x else y)
by_test P true x y h k = h
by_test P false x y h k = k

-- ---- a change of a process that lives

module _ (x : Process) where
  turned : (mail : Mail) (turn : Turn) (child : Option Process) (deed : Deed) → TurnsTo x mail turn deed.process → IsNew child → Comes mail (Some (Live x)) (Ok (turned_to turn child deed))
  turned mail turns.Ran child deed h new = ((tt, h), new)
  turned mail (turns.Ended reason) child deed h new = ((tt, tt), new)
  turned mail (turns.Trapped kind) child deed h new = tt
  turned mail (turns.Spawns spawn) child deed h new = ((tt, h.0), new)

  changed : (mail : Mail) (child : Option Process) (deed : Deed) → Leads x mail deed → IsNew child → Comes mail (Some (Live x)) (Ok (change child deed))
  changed mail child deed h new = turned mail deed.turn child deed h new

  -- a spawn
  linked_mail : (o : Option ℕ) (y : Process) → (linked_to o y).mailbox ≡ y.mailbox
  linked_mail None y = refl
  linked_mail (Some q) y = refl

  spawned_comes : (image : Loaded) (p count : ℕ) (spawn : SpawnRequest) → Comes x.mailbox (Some (Live x)) (Ok (spawned image p count spawn x))
  spawned_comes image p count spawn =
      let refused = is_answered image None system_limit x in
      let answered = is_answered image (other_if spawn.linked count) (Value (pid count)) x in
      let child = new_child image p spawn in
      by_test (λ c. Comes x.mailbox (Some (Live x)) (Ok c)) (past_limits spawn count) (change None refused) (change (Some child) answered) (changed x.mailbox None refused (closed x image system_limit x refl) tt)
      (changed x.mailbox (Some child) answered (closed x image (Value (pid count)) (linked_to (other_if spawn.linked count) x) (linked_mail (other_if spawn.linked count) x))
      (linked_mail (other_if spawn.linked p) (new_process (export image spawn.«module» spawn.function (length spawn.arguments)) spawn.arguments)))

  -- a run
  run_comes : (image : Loaded) (p count : ℕ) (mail : Mail) (turn : Turn) (deed : Deed) → TurnsTo x mail turn deed.process → Comes mail (Some (Live x)) (Ok (run_turn turn image p count x (record deed { turn = turn })))
  run_comes image p count mail turns.Ran deed h = ((tt, h), tt)
  run_comes image p count mail (turns.Ended reason) deed h = ((tt, tt), tt)
  run_comes image p count mail (turns.Trapped kind) deed h = tt
  run_comes image p count mail (turns.Spawns spawn) deed h = subst (λ m. Comes m (Some (Live x)) (Ok (spawned image p count spawn x))) h.1 (spawned_comes image p count spawn)

  expired_mail : (b : Bool) → (expired_if b x).mailbox ≡ x.mailbox
  expired_mail true = refl
  expired_mail false = refl

  lived : (image : Loaded) (c : Choice) (count : ℕ) (s : Option Signal) → Comes (all_done x.mailbox (by_choice image c (Some (Live x)) s)) (Some (Live x)) (change_of image c (Some (Live x)) count s)
  lived image (Run p) count s =
      let deed = instruction image p x in
      let mail = all_done x.mailbox (by_choice image (Run p) (Some (Live x)) s) in
      by_test (Comes mail (Some (Live x))) (can_run x) (Ok (run_change image p count x)) (Err NotEnabled) (run_comes image p count mail deed.turn deed (instructed x image p)) tt
  lived image (Deliver p q) count None = tt
  lived image (Deliver p q) count (Some s) = changed (all_done x.mailbox (by_choice image (Deliver p q) (Some (Live x)) (Some s))) None (signalled p x s) (signalled_so x p s) tt
  lived image (Expire p) count s =
      by_test (Comes x.mailbox (Some (Live x))) (can_expire x) (Ok (Ok (record { life = Some (Live (expired x)); child = None; posts = []; takes = false; shows = None }))) (Err NotEnabled)
      ((tt, expired_mail (can_expire x)), tt) tt

-- ---- a change of any life

comes : (image : Loaded) (c : Choice) (one : Option Life) (count : ℕ) (s : Option Signal) (mail : Mail) → Has mail one → Comes (all_done mail (by_choice image c one s)) one (change_of image c one count s)
comes image c (Some (Live x)) count s mail h = subst (λ m. Comes (all_done m (by_choice image c (Some (Live x)) s)) (Some (Live x)) (change_of image c (Some (Live x)) count s)) h (lived x image c count s)
comes image (Deliver p q) None count (Some s) mail h = (h, tt)
comes image (Deliver p q) (Some (Exited reason)) count (Some s) mail h = ((tt, tt), tt)
comes image _ _ count _ mail h = tt

-- ---- among the others

born : (mail : Mail) (child : Option Process) (lives : List Life) (p : ℕ) → IsNew child → Has mail (slice_get lives p) → Has mail (slice_get (with_child child lives) p)
born mail None lives p new h = h
born mail (Some x) lives p new h = go lives p h
  where
    go : (lives : List Life) (p : ℕ) → Has mail (slice_get lives p) → Has mail (slice_get (lives ++ Live x ∷ []) p)
    go [] zero h = new ∙ sym h
    go [] (suc p) h = h
    go (one ∷ lives) zero h = h
    go (one ∷ lives) (suc p) h = go lives p h

there_within : (lives : List Life) (p : ℕ) (one : Option Life) → slice_get lives p ≡ one → IsThere one → p < length lives
there_within lives p None at there = absurd there
there_within lives p (Some one) at there = slice_get_within lives p one at

longer : (child : Option Process) (lives : List Life) (p : ℕ) → p < length lives → p < length (with_child child lives)
longer None lives p h = h
longer (Some x) lives p h = omega (arith, h, length-append lives (Live x ∷ []))

-- the process of the choice
own : (new : Mail) (p : ℕ) (lives : List Life) (life : Option Life) (child : Option Process) → Becomes new (slice_get lives p) life → IsNew child → Has new (slice_get (with_life p life (with_child child lives)) p)
own new p lives None child h born_so = born new child lives p born_so h
own new p lives (Some life) child h born_so =
    subst (λ o. Has new o) (sym (get_set_same (with_child child lives) p life (longer child lives p (there_within lives p (slice_get lives p) refl h.0)))) h.1

-- and any other
other : (mail : Mail) (p k : ℕ) (lives : List Life) (life : Option Life) (child : Option Process) → k ≢ p → IsNew child → Has mail (slice_get lives k) → Has mail (slice_get (with_life p life (with_child child lives)) k)
other mail p k lives None child apart new h = born mail child lives k new h
other mail p k lives (Some life) child apart new h = subst (λ o. Has mail o) (sym (get_set_other (with_child child lives) p k life apart)) (born mail child lives k new h)

-- ---- one choice in a world

some_mail : (one : Option Life) → (mail : Mail) × Has mail one
some_mail None = (empty, refl)
some_mail (Some (Live x)) = (x.mailbox, refl)
some_mail (Some (Exited reason)) = (empty, tt)

-- whatever the mailbox of its process was
abbrev ComesSo : Choice → State → List Operation → Coming → Type 0
ComesSo c w operations x = (mail : Mail) → Has mail (slice_get w.processes (actor c)) → Comes (all_done mail operations) (slice_get w.processes (actor c)) x

applied : (c : Choice) (w : State) (p : ℕ) (mail : Mail) (operations : List Operation) (x : Coming) → Has mail (slice_get w.processes p) → ComesSo c w operations x
    → Has (all_done mail (if p == actor c then unless_trap x operations else [])) (slice_get (after c w x).processes p)
applied c w p mail operations (Ok (Ok made)) h so = go (p == actor c) refl
  where
    -- a child has no message, whoever bears it
    new : IsNew made.child
    new = let some = some_mail (slice_get w.processes (actor c)) in (so some.0 some.1).1

    go : (b : Bool) → (p == actor c) ≡ b → Has (all_done mail (if b then operations else [])) (slice_get (with_life (actor c) made.life (with_child made.child w.processes)) p)
    go true e =
        let same = eqb-true p (actor c) e in
        subst (λ k. Has (all_done mail operations) (slice_get (with_life (actor c) made.life (with_child made.child w.processes)) k)) (sym same)
        (own (all_done mail operations) (actor c) w.processes made.life made.child (so mail (subst (λ k. Has mail (slice_get w.processes k)) same h)).0 new)
    go false e = other mail (actor c) p w.processes made.life made.child (eqb-false p (actor c) e) new h
applied c w p mail operations _ h so = by_test (λ none. Has (all_done mail none) (slice_get w.processes p)) (p == actor c) [] [] h h

pub step : (image : Loaded) (c : Choice) (w : State) (p : ℕ) (mail : Mail) → Has mail (slice_get w.processes p) → Has (all_done mail (mailed image c w p)) (slice_get (behind image c w).processes p)
step image c w p mail h = go (can w c) (by_choice image c (slice_get w.processes (actor c)) (heeds c w.lanes.channels)) (comes image c (slice_get w.processes (actor c)) (length w.processes) (heeds c w.lanes.channels))
  where
    go : (b : Bool) (operations : List Operation) → ComesSo c w operations (coming image c w)
        → Has (all_done mail (if b then if p == actor c then unless_trap (coming image c w) operations else [] else [])) (slice_get (if b then chosen image c w else w).processes p)
    go true operations so = applied c w p mail operations (coming image c w) h so
    go false operations so = h

-- ---- choices in a row

done_on : (mail : Mail) (first more : List Operation) → all_done mail (first ++ more) ≡ all_done (all_done mail first) more
done_on mail [] more = refl
done_on mail (operation ∷ first) more = done_on (done mail operation) first more

pub all_steps : (image : Loaded) (choices : List Choice) (w : State) (p : ℕ) (mail : Mail) → Has mail (slice_get w.processes p)
    → Has (all_done mail (all_mailed image choices w p)) (slice_get (all_behind image choices w).processes p)
all_steps image [] w p mail h = h
all_steps image (choice ∷ more) w p mail h =
    let next = behind image choice w in
    let now = all_done mail (mailed image choice w p) in
    subst (λ m. Has m (slice_get (all_behind image more next).processes p)) (sym (done_on mail (mailed image choice w p) (all_mailed image more next p)))
    (all_steps image more next p now (step image choice w p mail h))

pub over_all : (image : Loaded) (choices : List Choice) (w : State) (p : ℕ) (x y : Process) → slice_get w.processes p ≡ Some (Live x) → slice_get (all_behind image choices w).processes p ≡ Some (Live y)
    → y.mailbox ≡ all_done x.mailbox (all_mailed image choices w p)
over_all image choices w p x y at behind_at =
    subst (Has (all_done x.mailbox (all_mailed image choices w p))) behind_at (all_steps image choices w p x.mailbox (subst (Has x.mailbox) (sym at) refl))

begins : (place : Place) (p : ℕ) → Has empty (slice_get (begun place).processes p)
begins place zero = refl
begins place (suc p) = refl

pub from_start : (image : Loaded) (choices : List Choice) (place : Place) (p : ℕ) (x : Process) → slice_get (all_behind image choices (begun place)).processes p ≡ Some (Live x)
    → x.mailbox ≡ all_done empty (all_mailed image choices (begun place) p)
from_start image choices place p x at = subst (Has (all_done empty (all_mailed image choices (begun place) p))) at (all_steps image choices (begun place) p empty (begins place p))

-- ---- which messages stand there

pub current_earliest : (image : Loaded) (choices : List Choice) (place : Place) (p : ℕ) (x : Process) → slice_get (all_behind image choices (begun place)).processes p ≡ Some (Live x)
    → TheEarliest (all_mailed image choices (begun place) p) x.mailbox
current_earliest image choices place p x at =
    let operations = all_mailed image choices (begun place) p in subst (TheEarliest operations) (sym (from_start image choices place p x at)) (earliest operations)

pub left_in_order : (image : Loaded) (choices : List Choice) (place : Place) (p : ℕ) (x : Process) → slice_get (all_behind image choices (begun place)).processes p ≡ Some (Live x)
    → AreLeft (all_mailed image choices (begun place) p) (x.mailbox.passed ++ x.mailbox.rest)
left_in_order image choices place p x at =
    let operations = all_mailed image choices (begun place) p in
    subst (λ mail. AreLeft operations (mail.passed ++ mail.rest)) (sym (from_start image choices place p x at)) (those_stand operations)
