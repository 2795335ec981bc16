-- When two sessions are the same.
use Rattle.bx_debug.proofs.Words.{◌≡◌, History}

pub same_history : (s t : History) → s.image ≡ t.image → s.start ≡ t.start → s.choices ≡ t.choices → s.at ≡ t.at → s.places ≡ t.places → s ≡ t
same_history s t image start choices at places = λ k. record { image = image k; start = start k; choices = choices k; at = at k; places = places k }
