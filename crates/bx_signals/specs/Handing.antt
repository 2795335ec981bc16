-- The first message of a row of signals goes into a mailbox.
use Rattle.std.specs.Prelude.{◌≡◌, Bool, true, false, Option, Some, None, Result, Ok, Err}
use Rattle.std.specs.declared.alloc.AllocError.{AllocError}
use Rattle.bx_terms.specs.Tree.{Tree}
use Rattle.bx_signals.specs.declared.signal.Signal.{Signal, TheVariants.Message, TheVariants.Link, TheVariants.Unlink, TheVariants.LinkExit, TheVariants.Exit}

abbrev pub message_of : Option Signal → Option Tree
message_of None = None
message_of (Some (Message message)) = Some message
message_of (Some Link) = None
message_of (Some Unlink) = None
message_of (Some (LinkExit reason)) = None
message_of (Some (Exit reason)) = None

-- how the answer, whether there is a message, stands to what became of who gets it and of the signals: they were `taken`, or are the `same`
abbrev pub Hands : {M : Type 0} → (M → Tree → M) → Option Tree → M → M → Type 0 → Type 0 → Result Bool AllocError → Type 0
Hands adds (Some message) old new taken same (Ok true) = taken × (new ≡ adds old message)
Hands adds (Some message) old new taken same (Ok false) = ⊥
Hands adds (Some message) old new taken same (Err failed) = same × (new ≡ old)
Hands adds None old new taken same (Ok true) = ⊥
Hands adds None old new taken same (Ok false) = same × (new ≡ old)
Hands adds None old new taken same (Err failed) = ⊥
