-- What an instruction, and what a signal, makes of the mailbox of its process, where that lives on.
use Rattle.std.proofs.Common.{◌≡◌, inl, inr, ℕ, List, [], ◌∷◌, Bool, true, false, Some, None, refl, ap, ◌∙◌}
use Rattle.std.specs.Prelude.{if◌then◌else◌, ◌==◌, ◌||◌, not, nat_le}
use Rattle.std.proofs.lemmas.Bool.{cases_Bool}
use Rattle.bx_terms.specs.Tree.{Tree, atom, height}
use Rattle.bx_terms.specs.declared.fixed.TheConstants.{TRUE}
use Rattle.bx_load.specs.Image.{Loaded}
use Rattle.bx_mail.specs.Mail.{Mail, added}
use Rattle.bx_mail.specs.History.{Operation, Add, all_done}
use Rattle.bx_signals.specs.declared.signal.Signal.{Signal}
use Rattle.bx_signals.specs.declared.signal.Signal.TheVariants as signals
use Rattle.bx_cells.specs.Links.{among}
use Rattle.bx_proc.specs.Process.{Process}
use Rattle.bx_proc.specs.Signals.{with_link, without_link}
use Rattle.bx_proc.specs.Stepping.{attempted, settled, noted, settled_with}
use Rattle.bx_proc.specs.declared.parts.Answer.{Answer, TheVariants.Value}
use Rattle.bx_proc.specs.declared.parts.Effect.{Effect}
use Rattle.bx_proc.specs.declared.parts.Effect.TheVariants as effects
use Rattle.bx_world.specs.declared.requests.Request.{Request}
use Rattle.bx_world.specs.declared.requests.Request.TheVariants as requests
use Rattle.bx_world.specs.declared.turns.Turn.{Turn}
use Rattle.bx_world.specs.declared.turns.Turn.TheVariants as turns
use Rattle.bx_world.specs.Requests.{requested}
use Rattle.bx_world.specs.Deeds.{Deed, leaves, closes, yes, badarg, exit_message, is_kill, is_normal, low_enough, notes, exits_itself, performs, did, instruction, hears, dies, is_told, exit_comes, signalled}
use Rattle.bx_run_laws.specs.Mailings.{by_exit, unless_killed, by_request, by_effect, by_run, by_signal}
use Rattle.bx_run_laws.proofs.Attempted.{RanWith, attempted_ran, settled_keeps}

module _ (x : Process) where
  -- a process that goes on has this mailbox; where a spawn is asked for, so has the one that asked
  abbrev pub TurnsTo : Mail → Turn → Process → Type 0
  TurnsTo mail turns.Ran y = y.mailbox ≡ mail
  TurnsTo mail (turns.Ended reason) y = Unit {0}
  TurnsTo mail (turns.Trapped kind) y = Unit {0}
  TurnsTo mail (turns.Spawns spawn) y = (y.mailbox ≡ mail) × (x.mailbox ≡ mail)

  abbrev pub Leads : Mail → Deed → Type 0
  Leads mail deed = TurnsTo mail deed.turn deed.process

  pub closes_so : (mail : Mail) (said : Process × Effect) → RanWith mail said → Leads mail (closes said)
  closes_so mail (y, effects.Ran) h = h
  closes_so mail _ h = tt

  closes_same : (mail : Mail) (y : Process) (effect : Effect) → y.mailbox ≡ mail → Leads mail (closes (y, effect))
  closes_same mail y effects.Ran h = h
  closes_same mail y _ h = tt

  -- an answer
  pub closed : (image : Loaded) (answer : Answer) (y : Process) → y.mailbox ≡ x.mailbox → Leads x.mailbox (closes (settled image answer y))
  closed image answer y h = closes_same x.mailbox (settled image answer y).0 (settled image answer y).1 (settled_keeps image answer y ∙ h)

  -- an answer with a message to itself
  noted_ran : (message : Tree) (y : Process) (effect : Effect) → y.mailbox ≡ x.mailbox → RanWith (added x.mailbox message) (noted message (y, effect))
  noted_ran message y effects.Ran h = ap (λ mail. added mail message) h
  noted_ran message y _ h = tt

  noted_so : (image : Loaded) (v message : Tree) → Leads (added x.mailbox message) (closes (settled_with image (Value v) message x))
  unfolding settled_with
  noted_so image v message =
      let said = settled image (Value v) x in closes_so (added x.mailbox message) (noted message said) (noted_ran message said.0 said.1 (settled_keeps image (Value v) x))

  -- exit/2 to itself
  notes_so : (image : Loaded) (message : Tree) (low : Bool) → Leads (added x.mailbox message) (notes image yes x (if low then Some message else None))
  notes_so image message true = noted_so image (atom TRUE.0) message
  notes_so image message false = tt

  -- by a test
  tested : (b : Bool) (some more : List Operation) (d e : Deed) → Leads (all_done x.mailbox some) d → Leads (all_done x.mailbox more) e → Leads (all_done x.mailbox (if b then some else more)) (if b then d else e)
  tested true some more d e h k = h
  tested false some more d e h k = k

  itself : (image : Loaded) (p : ℕ) (reason : Tree) → Leads (all_done x.mailbox (unless_killed p reason x)) (exits_itself image p reason x)
  itself image p reason = elim (cases_Bool (is_kill reason)) [
    | inl e ↦ rw e tt
    | inr e ↦ rw e (tested x.trap_exit (Add (exit_message p reason) ∷ []) [] (notes image yes x (low_enough (exit_message p reason))) (leaves x reason)
        (notes_so image (exit_message p reason) (nat_le (height (exit_message p reason)) 10000)) tt)
  ]

  -- what a process asks of the world
  performed : (image : Loaded) (p : ℕ) (r : Request) → Leads (all_done x.mailbox (by_request p x (Some r))) (performs image p r x)
  performed image p requests.Refused = closed image badarg x refl
  performed image p (requests.Send q message) = elim (cases_Bool (q == p)) [ inl e ↦ rw e (noted_so image message message) | inr e ↦ rw e (closed image (Value message) x refl) ]
  performed image p (requests.Exit q reason) = elim (cases_Bool (q == p)) [ inl e ↦ rw e (itself image p reason) | inr e ↦ rw e (closed image yes x refl) ]
  performed image p (requests.Link q) = elim (cases_Bool ((q == p) || among q x.links)) [ inl e ↦ rw e (closed image yes x refl) | inr e ↦ rw e (closed image yes (with_link q x) refl) ]
  performed image p (requests.Unlink q) = elim (cases_Bool ((q == p) || not (among q x.links))) [
    | inl e ↦ rw e (closed image yes x refl)
    | inr e ↦ rw e (closes_same x.mailbox (without_link q (settled image yes x).0) (settled image yes x).1 (settled_keeps image yes x))
  ]
  performed image p (requests.Display term) = closed image yes x refl
  performed image p (requests.Spawn spawn) = (refl, refl)

  did_so : (image : Loaded) (p : ℕ) (y : Process) (effect : Effect) → RanWith (all_done x.mailbox (by_effect image p x effects.Ran)) (y, effect) → Leads (all_done x.mailbox (by_effect image p x effect)) (did image p x (y, effect))
  did_so image p y effects.Ran h = h
  did_so image p y (effects.Send to message) h = performed image p (requests.Send to message)
  did_so image p y (effects.Ask native ts) h = performed image p (requested native ts)
  did_so image p y _ h = tt

  pub instructed : (image : Loaded) (p : ℕ) → Leads (all_done x.mailbox (by_run image p x)) (instruction image p x)
  instructed image p = did_so image p (attempted image p x).0 (attempted image p x).1 (attempted_ran image p x)

  -- a signal
  told_so : (message : Tree) (y : Process) (low : Bool) → y.mailbox ≡ x.mailbox → Leads (added x.mailbox message) (is_told x y (if low then Some message else None))
  told_so message y true h = ap (λ mail. added mail message) h
  told_so message y false h = tt

  exit_so : (p : ℕ) (reason : Tree) (y : Process) → y.mailbox ≡ x.mailbox → Leads (all_done x.mailbox (by_exit p reason x)) (exit_comes p x y reason)
  exit_so p reason y h =
      tested x.trap_exit (Add (exit_message p reason) ∷ []) [] (is_told x y (low_enough (exit_message p reason))) (if is_normal reason then hears y turns.Ran else dies y reason)
      (told_so (exit_message p reason) y (nat_le (height (exit_message p reason)) 10000) h) (elim (cases_Bool (is_normal reason)) [ inl e ↦ rw e h | inr e ↦ rw e tt ])

  pub signalled_so : (p : ℕ) (s : Signal) → Leads (all_done x.mailbox (by_signal p x s)) (signalled p x s)
  signalled_so p (signals.LinkExit reason) = elim (cases_Bool (among p x.links)) [ inl e ↦ rw e (exit_so p reason (without_link p x) refl) | inr e ↦ rw e refl ]
  signalled_so p (signals.Exit reason) = elim (cases_Bool (is_kill reason)) [ inl e ↦ rw e tt | inr e ↦ rw e (exit_so p reason x refl) ]
  signalled_so p _ = refl
