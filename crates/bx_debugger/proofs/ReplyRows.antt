-- One line that is answered.
use Rattle.std.proofs.Common.{◌≡◌, ◌∙◌, ℕ, false, List, Option, Ok, ap, subst}
use Rattle.std.specs.Io.KnownBytes.{Appends}
use Rattle.bx_debug.specs.Sessions.{History}
use Rattle.bx_debugger.specs.Answers.{answered, is_quit}
use Rattle.bx_debugger.specs.Talks.{Hearing, Replies}
use Rattle.bx_debugger.specs.declared.talks.Next.TheVariants.{More}

abbrev pub behind : Hearing → History → Hearing
behind h s = record h { session = s }

pub replies_so : (w v : Option (List ℕ)) (h : Hearing) (line text bytes : List ℕ) (session : History) → is_quit h.line ≡ false → line ≡ h.line
    → (text, session) ≡ answered h.sources h.number line h.session → bytes ≡ text → Appends w v bytes → Replies w v h (behind h session) (Ok More)
replies_so w v h line text bytes session on same said sent written =
    let whole : (text, session) ≡ answered h.sources h.number h.line h.session = said ∙ ap (λ (l : List ℕ). answered h.sources h.number l h.session) same in
    (on, subst (Appends w v) (sent ∙ ap (λ (p : List ℕ × History). p.0) whole) written, ap (behind h) (ap (λ (p : List ℕ × History). p.1) whole))
