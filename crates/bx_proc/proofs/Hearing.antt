-- A message that comes out of a channel.
use Rattle.std.proofs.Common.{true, false, ap}
use Rattle.std.specs.Prelude.{Bool, Option, Some, None, Result, Ok, Err}
use Rattle.std.specs.declared.alloc.AllocError.{AllocError}
use Rattle.bx_terms.specs.Tree.{Tree}
use Rattle.bx_mail.specs.Mail.{Mail, added}
use Rattle.bx_signals.specs.Handing.{Hands}
use Rattle.bx_proc.specs.Process.{Process}
use Rattle.bx_proc.specs.Signals.{with_message}

-- what was done to its mailbox was done to the process
pub heard : (o : Option Tree) (old : Process) (mail : Mail) (P same : Type 0) (r : Result Bool AllocError) → Hands added o old.mailbox mail P same r → Hands (λ p message. with_message message p) o old (record old { mailbox = mail }) P same r
heard (Some m) old mail P same (Ok true) h = (h.0, ap (λ (box : Mail). record old { mailbox = box }) h.1)
heard (Some m) old mail P same (Ok false) h = h
heard (Some m) old mail P same (Err e) h = (h.0, ap (λ (box : Mail). record old { mailbox = box }) h.1)
heard None old mail P same (Ok true) h = h
heard None old mail P same (Ok false) h = (h.0, ap (λ (box : Mail). record old { mailbox = box }) h.1)
heard None old mail P same (Err e) h = h
