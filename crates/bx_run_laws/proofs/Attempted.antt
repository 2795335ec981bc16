-- What a run of one instruction, and an answer, make of the mailbox of their process.
use Rattle.std.proofs.Common.{◌≡◌, ℕ, true, false, refl, sym, ap, subst, ◌∙◌}
use Rattle.std.specs.Prelude.{Bool, Option, Some, None, Result, Ok, Err}
use Rattle.std.specs.FinMap as finite
use Rattle.bx_terms.specs.Outcomes.{◌>>=◌}
use Rattle.bx_terms.specs.Tree.{atom}
use Rattle.bx_terms.specs.declared.fixed.TheConstants.{UNDEF}
use Rattle.bx_terms.specs.declared.kinds.Class.TheVariants.{Error}
use Rattle.bx_terms.specs.declared.kinds.Trap.{Trap}
use Rattle.bx_terms.specs.declared.places.Place.{Place}
use Rattle.bx_ops.specs.declared.opcode.Op.{Op}
use Rattle.bx_ops.specs.declared.opcode.Op.TheVariants as ops
use Rattle.bx_bifs.specs.declared.natives.Native.{Native}
use Rattle.bx_listing.specs.Items.{Item}
use Rattle.bx_load.specs.Image.{Loaded, after}
use Rattle.bx_load.specs.Numbering.{numbered_at}
use Rattle.bx_mail.specs.Mail.{Mail}
use Rattle.bx_mail.specs.History.{all_done}
use Rattle.bx_proc.specs.declared.parts.Effect.{Effect}
use Rattle.bx_proc.specs.declared.parts.Effect.TheVariants as effects
use Rattle.bx_proc.specs.declared.parts.Pending.{Pending}
use Rattle.bx_proc.specs.declared.parts.Status.{Status}
use Rattle.bx_proc.specs.declared.parts.Status.TheVariants as states
use Rattle.bx_proc.specs.Process.{Process}
use Rattle.bx_proc.specs.Faults.{raised}
use Rattle.bx_proc.specs.Table.{row}
use Rattle.bx_proc.specs.Families.{caught, mailed_by, Parts, named, Stays}
use Rattle.bx_proc.specs.Stepping.{there, allowed, allowed_if, is_held_up, unhindered, run, woken, tried, told, attempted, asked_at, given_to, settling, settled_so, settled}
use Rattle.bx_proc.proofs.Keeping.{raised_in, WithinRun, raised_by_in, finished_with_in}
use Rattle.bx_proc.proofs.Mailing.{Leaves, row_mailed}
use Rattle.bx_run_laws.specs.Mailings.{op_of, op_at, by_op}
use Rattle.bx_asm.specs.declared.instruction.CallKind.{CallKind}
use Rattle.bx_proc.specs.declared.parts.Answer.{Answer}
use Rattle.bx_proc.specs.declared.parts.Answer.TheVariants as answers
use Rattle.bx_proc.specs.Reading.{held}
use Rattle.bx_proc.specs.Calls.{raised_by}
use Rattle.bx_proc.specs.Asking.{finished_with}

-- ---- an answer

-- what changes no mailbox
pub kept : (parts : Parts) (x : Process) (said : Result (Process × Effect) Trap) → parts.mailbox ≡ false → WithinRun parts x said → Leaves x.mailbox said
kept parts x (Ok done) e ((registers, cp, frames, fault, mailbox, flag, status, expires, links, asked, lives), may) = subst (λ b. Stays b x.mailbox done.0.mailbox) e mailbox
kept parts x (Err kind) e h = tt

held_leaves : {A : Type 0} (read : Result A Trap) (mail : Mail) (said : Result (Process × Effect) Trap) → Leaves mail said → Leaves mail (read >>= λ old. said)
held_leaves (Ok v) mail said h = h
held_leaves (Err kind) mail said h = tt

given_leaves : (next : Place) (kind : CallKind) (answer : Answer) (x : Process) → Leaves x.mailbox (given_to next kind answer x)
given_leaves next kind (answers.Value v) x =
    held_leaves (held (finite.get x.x 0)) x.mailbox (finished_with next kind v x) (kept named x (finished_with next kind v x) refl (finished_with_in next kind v x))
given_leaves next kind (answers.Fault class v) x = kept caught x (raised_by kind class v x).said refl (raised_by_in kind class v x)

at_leaves : (image : Loaded) (answer : Answer) (at : Result (Place × CallKind) Trap) (x : Process) → Leaves x.mailbox (at >>= λ at. given_to (after image at.0) at.1 answer x)
at_leaves image answer (Ok at) x = given_leaves (after image at.0) at.1 answer x
at_leaves image answer (Err kind) x = tt

so_keeps : (x : Process) (said : Result (Process × Effect) Trap) → Leaves x.mailbox said → (settled_so x said).0.mailbox ≡ x.mailbox
so_keeps x (Ok (y, effects.Ran)) h = h
so_keeps x _ h = refl

pub settled_keeps : (image : Loaded) (answer : Answer) (x : Process) → (settled image answer x).0.mailbox ≡ x.mailbox
unfolding settled
settled_keeps image answer x = so_keeps x (settling image answer x) (at_leaves image answer (asked_at image x.place >>= unhindered x.fault) x)

-- ---- a run

-- where the process alone is concerned, its mailbox is this
abbrev pub RanWith : Mail → Process × Effect → Type 0
RanWith mail (y, effects.Ran) = y.mailbox ≡ mail
RanWith mail (y, effect) = Unit {0}

by_its_op : (mail : Mail) (op : Op) → mailed_by op mail ≡ all_done mail (by_op (Some op))
by_its_op mail ops.RemoveMessage = refl
by_its_op mail ops.LoopRecEnd = refl
by_its_op mail ops.Timeout = refl
by_its_op mail _ = refl

-- a run, by what the item that stands there makes of the process
module _ (P : Result (Process × Effect) Trap → Type 0) (fails : (kind : Trap) → P (Err kind)) (number : ℕ) (image : Loaded) where
  allowed_so : (here : Place) (held_up : Bool) (i : Item) (x : Process) → P (row number image here i x) → P (allowed_if held_up i >>= λ j. row number image here j x)
  allowed_so here true i x h = fails _
  allowed_so here false i x h = h

  pub item_so : (here : Place) (o : Option Item) (x : Process) → ((i : Item) → o ≡ Some i → P (row number image here i x)) → P (there o >>= allowed x.fault >>= λ i. row number image here i x)
  item_so here None x h = fails _
  item_so here (Some i) x h = allowed_so here (is_held_up x.fault i) i x (h i refl)

  pub tried_so : (status : Status) (asked : Option Native) (x : Process) → P (run number image x.place x) → P (run number image x.place (woken x)) → P (tried number image status asked x)
  tried_so status (Some native) x h k = fails _
  tried_so states.Ready None x h k = h
  tried_so states.Waiting None x h k = k
  tried_so (states.Ended reason) None x h k = fails _

nowhere_leaves : (fault : Option Pending) (x : Process) → Leaves x.mailbox (unhindered fault x >>= λ y. (raised Error (atom UNDEF.0) y).said)
nowhere_leaves None x = kept caught x (raised Error (atom UNDEF.0) x).said refl (raised_in Error (atom UNDEF.0) x)
nowhere_leaves (Some fault) x = tt

run_leaves : (number : ℕ) (image : Loaded) (o : Option Place) (x : Process) → Leaves (all_done x.mailbox (by_op (op_at image o))) (run number image o x)
unfolding run
run_leaves number image None x = nowhere_leaves x.fault x
run_leaves number image (Some here) x =
    item_so (Leaves (all_done x.mailbox (by_op (op_at image (Some here))))) (λ kind. tt) number image here (numbered_at image here) x
    (λ i is. subst (λ mail. Leaves mail (row number image here i x)) (by_its_op x.mailbox i.op ∙ ap (λ o. all_done x.mailbox (by_op (op_of o))) (sym is)) (row_mailed number image here i.op i.operands x))

told_ran : (mail : Mail) (x : Process) (said : Result (Process × Effect) Trap) → Leaves mail said → RanWith mail (told x said)
told_ran mail x (Ok (y, effects.Ran)) h = h
told_ran mail x _ h = tt

pub attempted_ran : (image : Loaded) (number : ℕ) (x : Process) → RanWith (all_done x.mailbox (by_op (op_at image x.place))) (attempted image number x)
unfolding attempted
attempted_ran image number x =
    let mail = all_done x.mailbox (by_op (op_at image x.place)) in
    told_ran mail x (tried number image x.status x.asked x) (tried_so (Leaves mail) (λ kind. tt) number image x.status x.asked x (run_leaves number image x.place x) (run_leaves number image x.place (woken x)))
