-- What signals ask of a process.
-- Source: Erlang Reference Manual, "Signals" and "Links".
use Rattle.std.specs.Prelude.{ℕ, Bool, true, false, None}
use Rattle.bx_terms.specs.Tree.{Tree}
use Rattle.bx_mail.specs.Mail.{added}
use Rattle.bx_cells.specs.Links.{linked, unlinked}
use Rattle.bx_proc.specs.declared.parts.Status.TheVariants.{Ready}
use Rattle.bx_proc.specs.Process.{Process, can_expire}

abbrev pub with_message : Tree → Process → Process
with_message message p = record p { mailbox = added p.mailbox message }

abbrev pub with_link : ℕ → Process → Process
with_link pid p = record p { links = linked pid p.links }

abbrev pub without_link : ℕ → Process → Process
without_link pid p = record p { links = unlinked pid p.links }

-- a wait that can expire is over: the process goes on behind it
abbrev pub expired_if : Bool → Process → Process
expired_if true p = record p { status = Ready; place = p.expires; expires = None }
expired_if false p = p

abbrev pub expired : Process → Process
expired p = expired_if (can_expire p) p
