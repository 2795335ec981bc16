-- One byte that is heard.
use Rattle.std.proofs.KnownBytes.{Keeps-refl}
use Rattle.std.proofs.lemmas.Bool.{eqb-true}
use Rattle.std.proofs.Common.{append-nil, eq-eqb, ◌≡◌, ◌∙◌, ◌<◌, ℕ, Bool, true, false, ◌||◌, ◌==◌, List, [], ◌∷◌, ◌++◌, Option, Some, None, Ok, Err, length, if◌then◌else◌, arith, refl, sym, ap, subst}
use Rattle.std.specs.Io.KnownBytes.{Appends, Keeps}
use Rattle.bx_debugger.specs.Answers.{answered, is_quit}
use Rattle.bx_debugger.specs.Lines.{last_line}
use Rattle.bx_debugger.specs.Talks.{Breaks, Feeds, Hearing, Lacks, Replies, quits, told}
use Rattle.bx_engine.specs.declared.failures.Failure.{Failure, TheVariants.Refused, TheVariants.Read, TheVariants.Write, TheVariants.Start}
use Rattle.bx_terms.specs.declared.faults.Fault.TheVariants.{Memory}
use Rattle.bx_debugger.specs.declared.talks.Next.TheVariants.{Over}

pub appends_none : (w v : Option (List ℕ)) → Keeps w v → Appends w v []
appends_none None v k = tt
appends_none (Some xs) None k = k
appends_none (Some xs) (Some ys) k = k ∙ sym (append-nil xs)

told_quit : (h : Hearing) → is_quit h.line ≡ true → told h (h.line ∷ []) ≡ []
told_quit h q = ap (λ (b : Bool). if b then [] else (answered h.sources h.number h.line h.session).0 ++ []) q

-- a code that is not a line feed
no_feed : (b : ℕ) → (b ≡ 10 → ⊥) → (b == 10) ≡ false
no_feed b ne = go (b == 10) refl
  where
    go : (t : Bool) → (b == 10) ≡ t → t ≡ false
    go true e = absurd (ne (eqb-true b 10 e))
    go false e = refl

-- the line that is ended quits
pub over_byte : (w v : Option (List ℕ)) (h : Hearing) (b : ℕ) (line : List ℕ) → b ≡ 10 → line ≡ h.line → is_quit line ≡ true → Keeps w v
    → Feeds w v h h (b ∷ []) (Ok Over)
over_byte w v h b line feed same quits k =
    let e : (b == 10) ≡ true = eq-eqb b 10 feed in
    let q : is_quit h.line ≡ true = ap is_quit (sym same) ∙ quits in (
      b ∷ [],
      [],
      refl,
      (
        rw e (ap (λ (t : Bool). t || false) q),
        rw e (subst (Appends w v) (sym (told_quit h q)) (appends_none w v k)),
      ),
    )

-- memory ran out at the line that is ended
lacks_byte : (w v : Option (List ℕ)) (h : Hearing) (b : ℕ) → b ≡ 10 → Keeps w v → Lacks w v h (b ∷ [])
lacks_byte w v h b feed k = let e : (b == 10) ≡ true = eq-eqb b 10 feed in (0, rw e (omega arith), refl, appends_none w v k)

one_line : (line : List ℕ) (b : ℕ) → 0 < length (last_line (line ++ b ∷ []))
one_line [] b = omega arith
one_line (x ∷ line) b = omega arith

-- memory ran out at the line that has begun
pub lacks_begun : (w : Option (List ℕ)) (h : Hearing) (b : ℕ) → (b ≡ 10 → ⊥) → Feeds w w h h (b ∷ []) (Err (Refused Memory None))
lacks_begun w h b ne =
    let e : (b == 10) ≡ false = no_feed b ne in
    (b ∷ [], [], refl, (refl, (0, rw e (one_line h.line b), refl, appends_none w w (Keeps-refl w))))

-- the writer failed at the line that is ended
fails_byte : (w v : Option (List ℕ)) (h : Hearing) (b : ℕ) → b ≡ 10 → is_quit h.line ≡ false → Breaks w v h (b ∷ []) (Err Write)
fails_byte w v h b feed on =
    let e : (b == 10) ≡ true = eq-eqb b 10 feed in
    (rw e refl, (rw e (omega arith), rw e (ap (λ (t : Bool). t || false) on)))

-- the line that is ended has no answer
pub broken_byte : (w v : Option (List ℕ)) (h i after : Hearing) (b : ℕ) (failure : Failure) → b ≡ 10 → i.line ≡ h.line → Replies w v i after (Err failure)
    → Feeds w v h h (b ∷ []) (Err failure)
broken_byte w v h i after b (Refused Memory file) feed same r = (b ∷ [], [], refl, (r.0, lacks_byte w v h b feed r.2))
broken_byte w v h i after b (Refused fault file) feed same r = absurd r
broken_byte w v h i after b (Read n) feed same r = absurd r
broken_byte w v h i after b Write feed same r = (b ∷ [], [], refl, fails_byte w v h b feed (ap is_quit (sym same) ∙ r))
broken_byte w v h i after b Start feed same r = absurd r
