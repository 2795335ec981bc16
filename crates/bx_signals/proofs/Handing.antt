-- A message that is handed on.
use Rattle.std.proofs.Common.{◌≡◌, true, false, refl, ap}
use Rattle.std.specs.Prelude.{Bool, Option, Some, None, Result, Ok, Err, option_map}
use Rattle.std.specs.declared.alloc.AllocError.{AllocError}
use Rattle.bx_terms.specs.Tree.{Tree}
use Rattle.bx_mail.specs.Mail.{Mail, added}
use Rattle.bx_signals.specs.declared.signal.Signal.{Signal, TheVariants.Message}
use Rattle.bx_signals.specs.Handing.{message_of, Hands}

hands_so : (o : Option Tree) (old new : Mail) (P Q same still : Type 0) (r : Result Bool AllocError) → (P → Q) → (same → still) → Hands added o old new P same r → Hands added o old new Q still r
hands_so (Some m) old new P Q same still (Ok true) f g h = (f h.0, h.1)
hands_so (Some m) old new P Q same still (Err e) f g h = (g h.0, h.1)
hands_so None old new P Q same still (Ok false) f g h = (g h.0, h.1)
hands_so _ old new P Q same still _ f g h = absurd h

-- the same of what the signals are a part of
pub hands_in : (o p : Option Tree) (old new : Mail) (P Q same still : Type 0) (r : Result Bool AllocError) → o ≡ p → (P → Q) → (same → still) → Hands added o old new P same r → Hands added p old new Q still r
hands_in o p old new P Q same still r e f g h = rw (← e) (hands_so o old new P Q same still r f g h)

-- nothing is handed on where nothing waits
pub hands_none : (o : Option Tree) (mail : Mail) (P same : Type 0) → o ≡ None → same → Hands added o mail mail P same (Ok false)
hands_none o mail P same e h = rw e (h, refl)

-- what is told of a message
pub was_message : (o : Option Signal) (m : Tree) → message_of o ≡ Some m → o ≡ Some (Message m)
was_message (Some (Message n)) m e = ap (λ (p : Option Tree). option_map Message p) e
was_message _ m e = cc

module _ {M : Type 0} (adds : M → Tree → M) (old new : M) (P same : Type 0) where
  pub handed : (o : Option Tree) → Hands adds o old new P same (Ok true) → (m : Tree) × (o ≡ Some m) × P × (new ≡ adds old m)
  handed (Some m) h = (m, refl, h.0, h.1)
  handed None h = absurd h

  pub kept : (o : Option Tree) → Hands adds o old new P same (Ok false) → same × (new ≡ old)
  kept (Some m) h = absurd h
  kept None h = h

  pub lacked : (o : Option Tree) (e : AllocError) → Hands adds o old new P same (Err e) → (m : Tree) × (o ≡ Some m) × same × (new ≡ old)
  lacked (Some m) e h = (m, refl, h.0, h.1)
  lacked None e h = absurd h
