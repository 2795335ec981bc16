-- What a run of `remove_message` takes.
use Rattle.std.proofs.Common.{◌≡◌, ℕ, ◌<◌, true, false, refl, sym, ap, subst, ◌∙◌}
use Rattle.std.specs.Prelude.{is_none, if◌then◌else◌, Bool, List, [], ◌∷◌, length, Option, Some, None, Result, Ok, Err, MatchOption, slice_get}
use Rattle.std.proofs.lemmas.Option.{slice_get_within}
use Rattle.std.proofs.lemmas.Bool.{and_parts}
use Rattle.bx_terms.specs.Outcomes.{◌>>=◌}
use Rattle.bx_terms.specs.Tree.{Tree}
use Rattle.bx_terms.specs.declared.faults.Fault.TheVariants.{NotEnabled}
use Rattle.bx_terms.specs.declared.kinds.Trap.{Trap}
use Rattle.bx_terms.specs.declared.places.Place.{Place}
use Rattle.bx_ops.specs.declared.opcode.Op.TheVariants as ops
use Rattle.bx_ops.specs.Table.{slots}
use Rattle.bx_listing.specs.declared.items.Operand.{Operand}
use Rattle.bx_listing.specs.Items.{Item}
use Rattle.bx_load.specs.Image.{Loaded, after}
use Rattle.bx_load.specs.Numbering.{numbered_at}
use Rattle.bx_mail.specs.Mail.{Mail, current, first, take_first, taken}
use Rattle.bx_mail.specs.History.{history, Waits}
use Rattle.bx_proc.specs.declared.parts.Effect.{Effect}
use Rattle.bx_proc.specs.declared.parts.Effect.TheVariants as effects
use Rattle.bx_proc.specs.Process.{Process, can_run}
use Rattle.bx_proc.specs.Receiving.{a_message}
use Rattle.bx_proc.specs.Rules.{went_on}
use Rattle.bx_proc.specs.Stepping.{run, woken, tried, told, attempted}
use Rattle.bx_proc.specs.Table.{rule, own_rule, row}
use Rattle.bx_proc.proofs.Taking.{each}
use Rattle.bx_world.specs.declared.choices.Choice.{Choice, TheVariants.Run}
use Rattle.bx_world.specs.World.{Live, State, begun}
use Rattle.bx_world.specs.Enabled.{may_at, may_run}
use Rattle.bx_world.specs.Deeds.{did}
use Rattle.bx_world.specs.Changes as changes
use Rattle.bx_world.specs.Changes.{run_turn, run_change, run_coming}
use Rattle.bx_world.specs.Choosing.{chosen}
use Rattle.bx_world.specs.Posting.{all_behind}
use Rattle.bx_world.proofs.Confined.{get_set_same}
use Rattle.bx_run_laws.specs.Earliest.{IsEarliest, Removes, TakesOut}
use Rattle.bx_run_laws.specs.Mailings.{op_of, op_at, all_mailed}
use Rattle.bx_run_laws.proofs.Attempted.{item_so, tried_so}
use Rattle.bx_run_laws.proofs.Mailed.{current_earliest}

-- a message is taken out, or it is a trap
abbrev Removal : Mail → Result (Process × Effect) Trap → Type 0
Removal old (Ok (y, effects.Ran)) = (message : Tree) × TakesOut message old y.mailbox
Removal old (Ok (y, effect)) = ⊥
Removal old (Err kind) = Unit {0}

out : (passed rest : List Tree) (message : Tree) → first rest ≡ Some message → TakesOut message (record { passed = passed; rest = rest }) (take_first passed rest)
out passed [] message is = absurd (cc)
out passed (one ∷ rest) message is = let same : one ≡ message = cc in record { behind = rest; had = ap (λ m. m ∷ rest) same; has = refl }

gone_on : (next : Place) (o : Option Tree) (x : Process) → current x.mailbox ≡ o → Removal x.mailbox (went_on next (a_message o >>= λ message. Ok (record x { mailbox = taken x.mailbox })))
gone_on next None x is = tt
gone_on next (Some message) x is = (message, out x.mailbox.passed x.mailbox.rest message is)

removal : (number : ℕ) (image : Loaded) (here : Place) (os : List Operand) (x : Process) → Removal x.mailbox (rule number image here ops.RemoveMessage os x).said
unfolding rule own_rule
removal number image here os x = each (Removal x.mailbox) tt (slots ops.RemoveMessage) _ os (gone_on (after image here) (current x.mailbox) x refl)

row_removal : (number : ℕ) (image : Loaded) (here : Place) (i : Item) (x : Process) → Some i.op ≡ Some ops.RemoveMessage → Removal x.mailbox (row number image here i x)
row_removal number image here i x stands =
    let is : i.op ≡ ops.RemoveMessage = cc in subst (λ op. Removal x.mailbox (rule number image here op i.operands x).said) (sym is) (removal number image here i.operands x)

run_removal : (number : ℕ) (image : Loaded) (o : Option Place) (x : Process) → op_at image o ≡ Some ops.RemoveMessage → Removal x.mailbox (run number image o x)
unfolding run
run_removal number image None x stands = absurd (cc)
run_removal number image (Some here) x stands =
    item_so (Removal x.mailbox) (λ kind. tt) number image here (numbered_at image here) x (λ i is. row_removal number image here i x (ap op_of (sym is) ∙ stands))

abbrev Removed : Mail → Process × Effect → Type 0
Removed old (y, effects.Ran) = (message : Tree) × TakesOut message old y.mailbox
Removed old (y, effects.Trap kind) = Unit {0}
Removed old (y, effect) = ⊥

told_removed : (old : Mail) (x : Process) (said : Result (Process × Effect) Trap) → Removal old said → Removed old (told x said)
told_removed old x (Ok (y, effects.Ran)) h = h
told_removed old x (Err kind) h = tt
told_removed old x _ h = absurd h

attempted_removed : (image : Loaded) (number : ℕ) (x : Process) → op_at image x.place ≡ Some ops.RemoveMessage → Removed x.mailbox (attempted image number x)
unfolding attempted
attempted_removed image number x stands =
    told_removed x.mailbox x (tried number image x.status x.asked x)
    (tried_so (Removal x.mailbox) (λ kind. tt) number image x.status x.asked x (run_removal number image x.place x stands) (run_removal number image x.place (woken x) stands))

-- ---- in a world

abbrev LivesOn : ℕ → Mail → State → Type 0
LivesOn p old w = (message : Tree) × (y : Process) × (slice_get w.processes p ≡ Some (Live y)) × TakesOut message old y.mailbox

module _ (image : Loaded) (w : State) (p : ℕ) (x : Process) (within : p < length w.processes) where
  abbrev RunsOn : State → Type 0
  RunsOn after = after.trap ≡ None → LivesOn p x.mailbox after

  ran_on : (said : Process × Effect) → Removed x.mailbox said → RunsOn (changes.after (Run p) w (Ok (run_turn (did image p x said).turn image p (length w.processes) x (did image p x said))))
  ran_on (y, effects.Ran) h runs = (h.0, y, get_set_same w.processes p (Live y) within, h.1)
  ran_on (y, effects.Trap kind) h runs = absurd (cc)
  ran_on _ h runs = absurd h

  able_on : (able : Bool) → able ≡ true → Removed x.mailbox (attempted image p x) → RunsOn (changes.after (Run p) w (if able then Ok (run_change image p (length w.processes) x) else Err NotEnabled))
  able_on true able removed = ran_on (attempted image p x) removed
  able_on false able removed = absurd (cc)

lives_on : (image : Loaded) (w : State) (p : ℕ) (x : Process) → Removes image w p x → LivesOn p x.mailbox (chosen image (Run p) w)
lives_on image w p x removes =
    let within = slice_get_within w.processes p (Live x) removes.lives in
    let able = ap (may_at may_run) (sym removes.lives) ∙ (and_parts (is_none w.trap) (may_at may_run (slice_get w.processes p)) removes.enabled).1 in
    subst (λ o. RunsOn image w p x within (changes.after (Run p) w (run_coming image p (length w.processes) o))) (sym removes.lives)
    (able_on image w p x within (can_run x) able (attempted_removed image p x removes.stands)) removes.runs

-- ---- behind choices in a row

pub takes_earliest : (image : Loaded) (choices : List Choice) (place : Place) (p : ℕ) (x : Process) → Removes image (all_behind image choices (begun place)) p x
    → (n : ℕ) × (message : Tree) × IsEarliest (all_mailed image choices (begun place) p) n message × (y : Process)
    × (slice_get (chosen image (Run p) (all_behind image choices (begun place))).processes p ≡ Some (Live y)) × TakesOut message x.mailbox y.mailbox
takes_earliest image choices place p x removes =
    let operations = all_mailed image choices (begun place) p in
    let left = lives_on image (all_behind image choices (begun place)) p x removes in
    let is : current x.mailbox ≡ Some left.0 = ap first left.3.had in
    let found : (n : ℕ) × IsEarliest operations n left.0 =
    subst (λ o. MatchOption o ((n : ℕ) → Waits (history operations) n → ⊥) (λ m. (n : ℕ) × IsEarliest operations n m)) is (current_earliest image choices place p x removes.lives) in
    (found.0, left.0, found.1, left.1, left.2, left.3)
