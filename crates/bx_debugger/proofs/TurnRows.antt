-- What one reading of bytes comes to.
use Rattle.std.proofs.Common.{◌≡◌, ◌∙◌, ◌+◌, ◌<◌, ◌≤◌, inl, inr, ℕ, ◌||◌, List, [], ◌∷◌, ◌++◌, Option, Some, Result, Ok, Err, length, take, drop, get_or, append_assoc, arith, refl, sym, ap, subst}
use Rattle.std.proofs.lemmas.List.{take-append-drop, take-take, take_more, length-append}
use Rattle.std.specs.Io.KnownBytes.{Appends, Consumes}
use Rattle.std.proofs.KnownBytes.{Appends-trans}
use Rattle.bx_debugger.specs.Lines.{begun_line, last_line}
use Rattle.bx_debugger.specs.Talks.{Breaks, Broken, Ends, Follows, Hearing, Talks, ended_in, heard, lines_in, quits, told}
use Rattle.bx_engine.specs.declared.failures.Failure.{Failure, TheVariants.Refused, TheVariants.Read, TheVariants.Write, TheVariants.Start}
use Rattle.bx_terms.specs.declared.faults.Fault.TheVariants.{Memory, TooLarge}
use Rattle.bx_debugger.specs.declared.talks.Next.{Next, TheVariants.More, TheVariants.Over}
use Rattle.bx_debugger.proofs.LineRows.{answers_past, ended-append}
use Rattle.bx_debugger.proofs.HearingRows.{begun_behind, fails_behind, follows-append, lacks_behind, quits-append, told_behind}

-- hearing that breaks off behind bytes that were heard
pub breaks_behind : (w v u : Option (List ℕ)) (h i : Hearing) (a b : List ℕ) (answer : Result Next Failure) → Follows w v h i a → Breaks v u i b answer → Breaks w u h (a ++ b) answer
breaks_behind w v u h i a b (Ok More) first second = absurd second
breaks_behind w v u h i a b (Ok Over) first second =
    let then : Breaks v u (heard h a) b (Ok Over) = subst (λ k. Breaks v u k b (Ok Over)) first.state second in (
      quits-append h a b ∙ ap (λ q. q || quits (heard h a) b) first.goes_on ∙ then.0,
      subst (Appends w u) (told_behind h a (ended_in (heard h a) b) first.goes_on ∙ ap (told h) (sym (ended-append h.line a b)))
          (Appends-trans w v u (told h (ended_in h a)) (told (heard h a) (ended_in (heard h a) b)) first.written then.1),
    )
breaks_behind w v u h i a b (Err (Refused Memory n)) first second = (second.0, lacks_behind w v u h i a b first second.1)
breaks_behind w v u h i a b (Err (Refused fault n)) first second = absurd second
breaks_behind w v u h i a b (Err (Read n)) first second = absurd second
breaks_behind w v u h i a b (Err Write) first second = (begun_behind w v h i a b first second.0, fails_behind w v h i a b first second.1)
breaks_behind w v u h i a b (Err Start) first second = absurd second

-- the bytes so far, the one that is next, and those behind it
cut_at : (bytes : List ℕ) (n : ℕ) → n < length bytes → bytes ≡ take n bytes ++ (get_or bytes n 0 ∷ drop (n + 1) bytes)
cut_at bytes n short =
    sym (take-append-drop (n + 1) bytes) ∙ ap (λ (t : List ℕ). t ++ drop (n + 1) bytes) (take_more bytes n 0 short)
    ∙ append_assoc (take n bytes) (get_or bytes n 0 ∷ []) (drop (n + 1) bytes)

pub broken_behind : (w v u : Option (List ℕ)) (h i : Hearing) (bytes : List ℕ) (n : ℕ) (answer : Result Next Failure) → n < length bytes
    → Follows w v h i (take n bytes) → Broken v u i (get_or bytes n 0 ∷ []) answer → Broken w u h bytes answer
broken_behind w v u h i bytes n answer short first second =
    let read = second.0 in
    let past = second.1 in
    let whole : get_or bytes n 0 ∷ drop (n + 1) bytes ≡ read ++ (past ++ drop (n + 1) bytes) =
    ap (λ (t : List ℕ). t ++ drop (n + 1) bytes) second.2 ∙ append_assoc read past (drop (n + 1) bytes) in (
      take n bytes ++ read,
      past ++ drop (n + 1) bytes,
      cut_at bytes n short ∙ ap (λ (t : List ℕ). take n bytes ++ t) whole ∙ sym (append_assoc (take n bytes) read (past ++ drop (n + 1) bytes)),
      breaks_behind w v u h i (take n bytes) read answer first second.3,
    )

-- one byte more was heard
pub follows_more : (w v u : Option (List ℕ)) (h i j : Hearing) (bytes : List ℕ) (n : ℕ) → n < length bytes
    → Follows w v h i (take n bytes) → Follows v u i j (get_or bytes n 0 ∷ []) → Follows w u h j (take (n + 1) bytes)
follows_more w v u h i j bytes n short first second =
    subst (Follows w u h j) (sym (take_more bytes n 0 short)) (follows-append w v u h i j (take n bytes) (get_or bytes n 0 ∷ []) first second)

-- what was given, cut where the limit is
pub consumes_cut : (had rest : Option (List ℕ)) (chunk : List ℕ) (count within : ℕ) → within ≤ count → Consumes had rest (take count chunk)
    → Consumes had rest (take within chunk ++ drop within (take count chunk))
consumes_cut had rest chunk count within le c =
    let cut : take within chunk ++ drop within (take count chunk) ≡ take count chunk =
    ap (λ (t : List ℕ). t ++ drop within (take count chunk)) (sym (take-take within count chunk le)) ∙ take-append-drop within (take count chunk) in
    subst (Consumes had rest) (sym cut) c

consumes_so : (had rest : Option (List ℕ)) (piece extra read past : List ℕ) → piece ≡ read ++ past → Consumes had rest (piece ++ extra) → Consumes had rest (read ++ (past ++ extra))
consumes_so had rest piece extra read past e c =
    subst (Consumes had rest) (ap (λ (t : List ℕ). t ++ extra) e ∙ append_assoc read past extra) c

shorter : (piece read past : List ℕ) (n : ℕ) → piece ≡ read ++ past → length piece ≤ n → length read ≤ n
shorter piece read past n e le = let l = ap length e in let m = length-append read past in omega arith

-- a line of these bytes quits
pub talks_over : (file : ℕ) (w v had rest : Option (List ℕ)) (h : Hearing) (piece extra : List ℕ) → Consumes had rest (piece ++ extra) → length piece ≤ h.left
    → Broken w v h piece (Ok Over) → Talks file h w v had rest (Ok tt)
talks_over file w v had rest h piece extra c le b =
    let read = b.0 in
    let past = b.1 in
    let lines : told h (lines_in h read) ≡ told h (ended_in h read) = answers_past h.sources h.number (ended_in h read) (last_line (begun_line h.line read)) h.session b.3.0 in
    (read, past ++ extra, consumes_so had rest piece extra read past b.2 c, shorter piece read past h.left b.2 le, (inr b.3.0, subst (Appends w v) (sym lines) b.3.1))

-- a line of these bytes has no answer
pub talks_broken : (file : ℕ) (w v had rest : Option (List ℕ)) (h : Hearing) (piece extra : List ℕ) (failure : Failure) → Consumes had rest (piece ++ extra) → length piece ≤ h.left
    → Broken w v h piece (Err failure) → Talks file h w v had rest (Err failure)
talks_broken file w v had rest h piece extra failure c le b =
    (b.0, b.1 ++ extra, consumes_so had rest piece extra b.0 b.1 b.2 c, shorter piece b.0 b.1 h.left b.2 le, go failure b.3)
  where
    go : (f : Failure) → Breaks w v h b.0 (Err f) → Ends file h w v rest b.0 (b.1 ++ extra) (Err f)
    go (Refused Memory n) d = d
    go (Refused fault n) d = absurd d
    go (Read n) d = absurd d
    go Write d = (inl d.0, d.1)
    go Start d = absurd d

-- more came than may
pub talks_large : (file : ℕ) (w v had rest : Option (List ℕ)) (h after : Hearing) (piece extra : List ℕ) → Consumes had rest (piece ++ extra) → length piece ≡ h.left → 0 < length extra
    → Follows w v h after piece → Talks file h w v had rest (Err (Refused TooLarge (Some file)))
talks_large file w v had rest h after piece extra c full some f = (piece, extra, c, omega arith, (refl, full, some, f.goes_on, f.written))
