-- Bytes that are heard one after another.
use Rattle.std.proofs.Common.{◌≡◌, ◌∙◌, ◌+◌, ◌≤◌, ◌⊎◌, inl, inr, ℕ, true, false, ◌||◌, List, [], ◌++◌, Option, Result, Ok, Err, length, take, append_assoc, length-append, arith, refl, sym, ap, subst}
use Rattle.std.specs.Io.KnownBytes.{Appends, Consumes, IsAtEnd}
use Rattle.std.proofs.KnownBytes.{Appends-trans, Consumes-trans}
use Rattle.std.proofs.Math.Seq.{take-append-add}
use Rattle.bx_debug.specs.Sessions.{History}
use Rattle.bx_engine.specs.Sources.{Sources}
use Rattle.bx_debugger.specs.Answers.{after_lines, has_quit}
use Rattle.bx_debugger.specs.Lines.{begun_line, ended_lines, last_line}
use Rattle.bx_debugger.specs.Talks.{Ends, Follows, Hearing, Hears, Lacks, MayFail, Talks, ended_in, heard, lines_in, quits, told}
use Rattle.bx_engine.specs.declared.failures.Failure.{Failure, TheVariants.Refused, TheVariants.Read, TheVariants.Write, TheVariants.Start}
use Rattle.bx_terms.specs.declared.faults.Fault.TheVariants.{Memory, TooLarge}
use Rattle.bx_debugger.proofs.LineRows.{after-append, answers-append, begun-append, ended-append, quit-append}

abbrev hearing_of : History → Sources → ℕ → List ℕ → ℕ → Hearing
hearing_of s sources n line left = record { session = s; sources = sources; number = n; line = line; left = left }

-- hearings with equal parts are equal
pub hearing_is : (h i : Hearing) → h.session ≡ i.session → h.sources ≡ i.sources → h.number ≡ i.number → h.line ≡ i.line → h.left ≡ i.left → h ≡ i
hearing_is h i s t n l r =
    ap (λ (x : History). hearing_of x h.sources h.number h.line h.left) s ∙ ap (λ (x : Sources). hearing_of i.session x h.number h.line h.left) t
    ∙ ap (λ (x : ℕ). hearing_of i.session i.sources x h.line h.left) n ∙ ap (λ (x : List ℕ). hearing_of i.session i.sources i.number x h.left) l
    ∙ ap (λ (x : ℕ). hearing_of i.session i.sources i.number i.line x) r

pub heard-append : (h : Hearing) (a b : List ℕ) → heard (heard h a) b ≡ heard h (a ++ b)
heard-append h a b =
    let ended = ended-append h.line a b in
    hearing_is (heard (heard h a) b) (heard h (a ++ b))
    (sym (after-append h.sources h.number (ended_in h a) (ended_in (heard h a) b) h.session) ∙ ap (λ (ls : List (List ℕ)). after_lines h.sources h.number ls h.session) (sym ended))
    refl
    (let l = length-append (ended_in h a) (ended_in (heard h a) b) in let e = ap length ended in omega arith)
    (sym (begun-append h.line a b))
    (let l = length-append a b in omega arith)

pub quits-append : (h : Hearing) (a b : List ℕ) → quits h (a ++ b) ≡ (quits h a || quits (heard h a) b)
quits-append h a b = ap has_quit (ended-append h.line a b) ∙ quit-append (ended_in h a) (ended_in (heard h a) b)

-- the answers behind bytes that were heard
pub told_behind : (h : Hearing) (a : List ℕ) (ys : List (List ℕ)) → quits h a ≡ false → told h (ended_in h a) ++ told (heard h a) ys ≡ told h (ended_in h a ++ ys)
told_behind h a ys on = sym (answers-append h.sources h.number (ended_in h a) ys h.session on)

pub lines-append : (h : Hearing) (a b : List ℕ) → ended_in h a ++ lines_in (heard h a) b ≡ lines_in h (a ++ b)
lines-append h a b =
    let ended = ended-append h.line a b in
    let begun = begun-append h.line a b in
    sym (append_assoc (ended_in h a) (ended_in (heard h a) b) (last_line (begun_line (begun_line h.line a) b)))
    ∙ ap (λ (ls : List (List ℕ)). ls ++ last_line (begun_line (begun_line h.line a) b)) (sym ended)
    ∙ ap (λ (l : List ℕ). ended_lines h.line (a ++ b) ++ last_line l) (sym begun)

-- bytes heard behind others
pub follows-append : (w v u : Option (List ℕ)) (h i j : Hearing) (a b : List ℕ) → Follows w v h i a → Follows v u i j b → Follows w u h j (a ++ b)
follows-append w v u h i j a b first second =
    let here : i ≡ heard h a = first.state in
    let then : Follows v u (heard h a) j b = subst (λ k. Follows v u k j b) here second in
    record {
      state = then.state ∙ heard-append h a b;
      goes_on = quits-append h a b ∙ ap (λ q. q || quits (heard h a) b) first.goes_on ∙ then.goes_on;
      written = let e = told_behind h a (ended_in (heard h a) b) first.goes_on ∙ ap (told h) (sym (ended-append h.line a b)) in
          subst (Appends w u) e (Appends-trans w v u (told h (ended_in h a)) (told (heard h a) (ended_in (heard h a) b)) first.written then.written);
    }

-- memory that lacks behind bytes that were heard
pub lacks_behind : (w v u : Option (List ℕ)) (h i : Hearing) (a b : List ℕ) → Follows w v h i a → Lacks v u i b → Lacks w u h (a ++ b)
lacks_behind w v u h i a b first second =
    let then : Lacks v u (heard h a) b = subst (λ k. Lacks v u k b) first.state second in
    let lines = lines-append h a b in
    let k = then.0 in
    let count = length (ended_in h a) + k in
    let taken : take count (lines_in h (a ++ b)) ≡ ended_in h a ++ take k (lines_in (heard h a) b) =
    ap (take count) (sym lines) ∙ take-append-add (ended_in h a) (lines_in (heard h a) b) k in (
      count,
      (let l = ap length lines in let m = length-append (ended_in h a) (lines_in (heard h a) b) in let short = then.1 in omega arith),
      ap has_quit taken ∙ quit-append (ended_in h a) (take k (lines_in (heard h a) b)) ∙ ap (λ q. q || has_quit (take k (lines_in (heard h a) b))) first.goes_on ∙ then.2,
      subst (Appends w u) (told_behind h a (take k (lines_in (heard h a) b)) first.goes_on ∙ ap (told h) (sym taken))
          (Appends-trans w v u (told h (ended_in h a)) (told (heard h a) (take k (lines_in (heard h a) b))) first.written then.3),
    )

-- a writer that fails behind bytes that were heard
pub fails_behind : (w v : Option (List ℕ)) (h i : Hearing) (a b : List ℕ) → Follows w v h i a → MayFail i b → MayFail h (a ++ b)
fails_behind w v h i a b first second =
    let then : MayFail (heard h a) b = subst (λ k. MayFail k b) first.state second in
    let lines = lines-append h a b in (
      (let l = ap length lines in let m = length-append (ended_in h a) (lines_in (heard h a) b) in let some = then.0 in omega arith),
      ap has_quit (sym lines) ∙ quit-append (ended_in h a) (lines_in (heard h a) b) ∙ ap (λ q. q || has_quit (lines_in (heard h a) b)) first.goes_on ∙ then.1,
    )

-- a line feed ends what was heard
pub begun_behind : (w v : Option (List ℕ)) (h i : Hearing) (a b : List ℕ) → Follows w v h i a → begun_line i.line b ≡ [] → begun_line h.line (a ++ b) ≡ []
begun_behind w v h i a b first none = begun-append h.line a b ∙ ap (λ (k : Hearing). begun_line k.line b) (sym first.state) ∙ none

hears_then : (had mid rest : Option (List ℕ)) (read more past : List ℕ) → Consumes had mid read → Consumes mid rest (more ++ past) → Consumes had rest ((read ++ more) ++ past)
hears_then had mid rest read more past first second =
    subst (Consumes had rest) (sym (append_assoc read more past)) (Consumes-trans had mid rest read (more ++ past) first second)

within_both : (h : Hearing) (read more : List ℕ) → length read ≤ h.left → length more ≤ (heard h read).left → length (read ++ more) ≤ h.left
within_both h read more first second = let l = length-append read more in omega arith

-- what is read behind bytes that were heard
pub hears-append : (w v u had mid rest : Option (List ℕ)) (h i j : Hearing) (read more : List ℕ) → Hears w v had mid h i read → Hears v u mid rest i j more → Hears w u had rest h j (read ++ more)
hears-append w v u had mid rest h i j read more first second =
    let short : length more ≤ (heard h read).left = subst (λ k. length more ≤ k.left) first.follows.state second.within in
    record {
      given = Consumes-trans had mid rest read more first.given second.given;
      within = within_both h read more first.within short;
      follows = follows-append w v u h i j read more first.follows second.follows;
    }

-- how it ends behind bytes that were heard
pub ends_behind : (file : ℕ) (w v u rest : Option (List ℕ)) (h i : Hearing) (read more past : List ℕ) (answer : Result (Unit {0}) Failure) → length read ≤ h.left
    → Follows w v h i read → Ends file i v u rest more past answer → Ends file h w u rest (read ++ more) past answer
ends_behind file w v u rest h i read more past (Ok done) within first second =
    let then : Ends file (heard h read) v u rest more past (Ok done) = subst (λ k. Ends file k v u rest more past (Ok done)) first.state second in (
      over then.0,
      subst (Appends w u) (told_behind h read (lines_in (heard h read) more) first.goes_on ∙ ap (told h) (lines-append h read more))
          (Appends-trans w v u (told h (ended_in h read)) (told (heard h read) (lines_in (heard h read) more)) first.written then.1),
    )
  where
    over : (IsAtEnd rest × (past ≡ [])) ⊎ (quits (heard h read) more ≡ true) → (IsAtEnd rest × (past ≡ [])) ⊎ (quits h (read ++ more) ≡ true)
    over (inl e) = inl e
    over (inr q) = inr (quits-append h read more ∙ ap (λ b. b || quits (heard h read) more) first.goes_on ∙ q)
ends_behind file w v u rest h i read more past (Err (Read n)) within first second =
    let then : Ends file (heard h read) v u rest more past (Err (Read n)) = subst (λ k. Ends file k v u rest more past (Err (Read n))) first.state second in (
      then.0,
      then.1,
      quits-append h read more ∙ ap (λ b. b || quits (heard h read) more) first.goes_on ∙ then.2,
      subst (Appends w u) (told_behind h read (ended_in (heard h read) more) first.goes_on ∙ ap (told h) (sym (ended-append h.line read more)))
          (Appends-trans w v u (told h (ended_in h read)) (told (heard h read) (ended_in (heard h read) more)) first.written then.3),
    )
ends_behind file w v u rest h i read more past (Err (Refused TooLarge n)) within first second =
    let then : Ends file (heard h read) v u rest more past (Err (Refused TooLarge n)) = subst (λ k. Ends file k v u rest more past (Err (Refused TooLarge n))) first.state second in (
      then.0,
      (let full = then.1 in let l = length-append read more in omega arith),
      then.2,
      quits-append h read more ∙ ap (λ b. b || quits (heard h read) more) first.goes_on ∙ then.3,
      subst (Appends w u) (told_behind h read (ended_in (heard h read) more) first.goes_on ∙ ap (told h) (sym (ended-append h.line read more)))
          (Appends-trans w v u (told h (ended_in h read)) (told (heard h read) (ended_in (heard h read) more)) first.written then.4),
    )
ends_behind file w v u rest h i read more past (Err (Refused Memory n)) within first second =
    (second.0, lacks_behind w v u h i read more first second.1)
ends_behind file w v u rest h i read more past (Err (Refused fault n)) within first second = absurd second
ends_behind file w v u rest h i read more past (Err Write) within first second = (where_it second.0, fails_behind w v h i read more first second.1)
  where
    where_it : (begun_line i.line more ≡ []) ⊎ (IsAtEnd rest × (past ≡ [])) → (begun_line h.line (read ++ more) ≡ []) ⊎ (IsAtEnd rest × (past ≡ []))
    where_it (inl none) = inl (begun_behind w v h i read more first none)
    where_it (inr end) = inr end
ends_behind file w v u rest h i read more past (Err Start) within first second = absurd second

pub talks_behind : (file : ℕ) (w v u had mid rest : Option (List ℕ)) (h i : Hearing) (read : List ℕ) (answer : Result (Unit {0}) Failure)
    → Hears w v had mid h i read → Talks file i v u mid rest answer → Talks file h w u had rest answer
talks_behind file w v u had mid rest h i read answer first second =
    let more = second.0 in
    let past = second.1 in
    let short : length more ≤ (heard h read).left = subst (λ k. length more ≤ k.left) first.follows.state second.3 in (
      read ++ more,
      past,
      hears_then had mid rest read more past first.given second.2,
      within_both h read more first.within short,
      ends_behind file w v u rest h i read more past answer first.within first.follows second.4,
    )
