-- Messages that are taken out one after another.
use Rattle.std.proofs.Common.{◌≡◌, ◌∙◌, ℕ, ◌+◌, ◌≤◌, List, [], ◌∷◌, ◌++◌, length, append_assoc, append-nil, sym, arith}
use Rattle.std.specs.Prelude.{Some, None}
use Rattle.bx_mail.specs.Mail.{Box, first, take_first}

-- one more, and what is left behind it
pub out_next : {M : Type 0} (got new whole passed rest : List M) (after : Box M) (m : M) → got ++ rest ≡ whole → passed ≡ [] → Some m ≡ first rest → after ≡ take_first passed rest → new ≡ got ++ m ∷ [] → new ++ after.rest ≡ whole
out_next got new whole passed [] after m h none e t p = cc
out_next got new whole passed (x ∷ rest) after m h none e t p = let same : m ≡ x = cc in rw (p, t, none, append_assoc got (m ∷ []) rest, same) h

pub none_passed : {M : Type 0} (passed rest : List M) (after : Box M) → passed ≡ [] → after ≡ take_first passed rest → after.passed ≡ []
none_passed passed [] after none t = rw (t, none)
none_passed passed (x ∷ rest) after none t = rw t

pub one_less : {M : Type 0} (passed rest : List M) (after : Box M) (m : M) (turn n : ℕ) → passed ≡ [] → Some m ≡ first rest → after ≡ take_first passed rest → turn + length rest ≡ n → turn + 1 + length after.rest ≡ n
one_less passed [] after m turn n none e t h = cc
one_less passed (x ∷ rest) after m turn n none e t h = rw (t, none) (omega (arith, h))

-- nothing is left
pub all_out : {M : Type 0} (got whole rest : List M) → got ++ rest ≡ whole → None ≡ first rest → got ≡ whole
all_out got whole [] h e = sym (append-nil got) ∙ h
all_out got whole (x ∷ rest) h e = cc

pub turns_out : {M : Type 0} (got whole rest : List M) (turn n : ℕ) → got ++ rest ≡ whole → turn + length rest ≡ length whole → n ≡ length whole → n ≤ turn → got ≡ whole
turns_out got whole [] turn n h c e le = sym (append-nil got) ∙ h
turns_out got whole (x ∷ rest) turn n h c e le = absurd (omega (arith, c, e, le))
