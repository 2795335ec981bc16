-- Lines that are written of schedules are read back as these, where they are read at all.
use Rattle.std.proofs.Common.{◌≡◌, ◌∙◌, ℕ, zero, suc, ◌+◌, ◌≤◌, Bool, true, false, List, [], ◌∷◌, ◌++◌, length, replicate, Option, Some, None, Result, Ok, Err, append-nil, append_assoc, refl, sym, ap, subst, cond, arith}
use Rattle.std.proofs.lemmas.Bool.Decides.{nat_tests}
use Rattle.std.proofs.lemmas.Bool.{or_parts}
use Rattle.std.specs.List.{AllByRecursion}
use Rattle.std.specs.Prelude.{codes, nat_lt}
use Rattle.bx_terms.specs.Outcomes.{◌>>=◌}
use Rattle.bx_terms.specs.declared.faults.Fault.{Fault, TheVariants.NameTwice, TheVariants.TooLong}
use Rattle.bx_plan.specs.Entry.{Entry}
use Rattle.bx_plan.specs.Grammar.{AreEntries, HasPids, IsName}
use Rattle.bx_plan.specs.Plans.{Named, has_name, is_too_long, named, plan_of, with_lines, with_read, with_schedule}
use Rattle.bx_plan.specs.Reading.{line_of, parts_of, spread}
use Rattle.bx_plan.proofs.Headings.{line_spelled}
use Rattle.bx_plan.proofs.Marks.{parts_at, parts_lacks}
use Rattle.bx_world.specs.declared.choices.Choice.{Choice}
use Rattle.bx_engine.specs.PlanLines.{gathered, plan_line}
use Rattle.bx_engine.specs.Tidying.{plan_text}
use Rattle.bx_engine.proofs.PlanLaw.{lacks, reads, spread_gathered}

-- a schedule that a plan may name
pub record IsSound (schedule : Named) : Type 0 where
  pub name : IsName schedule.0
  pub pids : AllByRecursion HasPids schedule.1
  pub few : length schedule.1 ≤ 100000

in_ok : {A : Type 0} (x y : A) → ◌≡◌ {A = Result A Fault} (Ok x) (Ok y) → x ≡ y
in_ok x y e = cc

-- ---- what is read is sound

all_replicate : (n : ℕ) (c : Choice) (cs : List Choice) → HasPids c → AllByRecursion HasPids cs → AllByRecursion HasPids (replicate n c ++ cs)
all_replicate zero c cs h k = k
all_replicate (suc n) c cs h k = (h, all_replicate n c cs h k)

entries_sound : (text : List ℕ) (es : List Entry) → AreEntries text es → AllByRecursion HasPids (spread es)
entries_sound text [] h = tt
entries_sound text (e ∷ es) h = all_replicate e.1 e.0 (spread es) h.2.0 (entries_sound h.1 es h.3)

few_of : (plan : List Named) (schedule : Named) → is_too_long plan schedule ≡ false → length schedule.1 ≤ 100000
few_of plan schedule e =
    let short : nat_lt 100000 (length schedule.1) ≡ false = (or_parts (nat_lt 100000 (length schedule.1)) _ e).0 in
    grind (arith, nat_tests)

all_put : (plan : List Named) (schedule : Named) → AllByRecursion IsSound plan → IsSound schedule → AllByRecursion IsSound (plan ++ schedule ∷ [])
all_put [] schedule h s = (s, tt)
all_put (one ∷ plan) schedule h s = (h.0, all_put plan schedule h.1 s)

scheduled_sound : (n : ℕ) (before after : List Named) (schedule : Named) (named_before long : Bool) → is_too_long before schedule ≡ long → IsName schedule.0 → AllByRecursion HasPids schedule.1
    → cond named_before (Err (NameTwice n)) (cond long (Err (TooLong n)) (Ok (before ++ schedule ∷ []))) ≡ Ok after → AllByRecursion IsSound before → AllByRecursion IsSound after
scheduled_sound n before after schedule true long t name pids e h = absurd (let never : Err (NameTwice n) ≡ Ok after = e in cc)
scheduled_sound n before after schedule false true t name pids e h = absurd (let never : Err (TooLong n) ≡ Ok after = e in cc)
scheduled_sound n before after schedule false false t name pids e h =
    subst (λ (p : List Named). AllByRecursion IsSound p) (in_ok (before ++ schedule ∷ []) after e)
    (all_put before schedule h (record { name = name; pids = pids; few = few_of before schedule t }))

read_sound : (n : ℕ) (before after : List Named) (line : List ℕ) (read : Option (Option (List ℕ × List Entry))) → line_of line ≡ read → with_read n before read ≡ Ok after
    → AllByRecursion IsSound before → AllByRecursion IsSound after
read_sound n before after line None t e h = absurd (cc)
read_sound n before after line (Some None) t e h = subst (λ (p : List Named). AllByRecursion IsSound p) (in_ok before after e) h
read_sound n before after line (Some (Some found)) t e h =
    let is = line_spelled line found t in
    scheduled_sound n before after (named found) (has_name found.0 before) (is_too_long before (named found)) refl is.0 (entries_sound is.1 found.1 is.2) e h

lines_sound : (n : ℕ) (before after : List Named) (lines : List (List ℕ)) → with_lines n before lines ≡ Ok after → AllByRecursion IsSound before → AllByRecursion IsSound after
lines_sound n before after [] e h = subst (λ (p : List Named). AllByRecursion IsSound p) (in_ok before after e) h
lines_sound n before after (line ∷ lines) e h =
    go (with_read n before (line_of line)) refl e (λ more k sound. lines_sound (n + 1) more after lines k sound)
  where
    go : (read : Result (List Named) Fault) → with_read n before (line_of line) ≡ read → (read >>= λ more. with_lines (n + 1) more lines) ≡ Ok after
        → ((more : List Named) → with_lines (n + 1) more lines ≡ Ok after → AllByRecursion IsSound more → AllByRecursion IsSound after) → AllByRecursion IsSound after
    go (Ok more) t k on = on more k (read_sound n before more line (line_of line) refl t h)
    go (Err fault) t k on = absurd (let never : Err fault ≡ Ok after = k in cc)

pub plan_sound : (text : List ℕ) (plan : List Named) → plan_of text ≡ Ok plan → AllByRecursion IsSound plan
plan_sound text plan e = lines_sound 1 [] plan (parts_of 10 text) e tt

-- ---- what is written is read back

parts_again : (s : Named) (more : List Named) → IsSound s → parts_of 10 (plan_text (s ∷ more)) ≡ plan_line s.0 s.1 ∷ parts_of 10 (plan_text more)
parts_again s more h =
    ap (parts_of 10) (append_assoc (plan_line s.0 s.1) (codes "\n") (plan_text more))
    ∙ parts_at 10 (plan_line s.0 s.1) (plan_text more) (lacks s.0 s.1 h.name h.pids h.few)

scheduled_again : (n : ℕ) (before : List Named) (s : Named) (named_before long : Bool) (after : List Named) (rest : List Named → Result (List Named) Fault)
    → (cond named_before (Err (NameTwice n)) (cond long (Err (TooLong n)) (Ok (before ++ s ∷ []))) >>= rest) ≡ Ok after → rest (before ++ s ∷ []) ≡ Ok after
scheduled_again n before s true long after rest e = absurd (let never : Err (NameTwice n) ≡ Ok after = e in cc)
scheduled_again n before s false true after rest e = absurd (let never : Err (TooLong n) ≡ Ok after = e in cc)
scheduled_again n before s false false after rest e = e

lines_again : (plan : List Named) (n : ℕ) (before after : List Named) → AllByRecursion IsSound plan → with_lines n before (parts_of 10 (plan_text plan)) ≡ Ok after → before ++ plan ≡ after
lines_again [] n before after h e = append-nil before ∙ in_ok before after (sym (ap (with_lines n before) (parts_lacks 10 [] tt)) ∙ e)
lines_again (s ∷ plan) n before after h e =
    let lines = parts_of 10 (plan_text plan) in
    let here : with_lines n before (plan_line s.0 s.1 ∷ lines) ≡ Ok after = sym (ap (with_lines n before) (parts_again s plan h.0)) ∙ e in
    let read : (with_read n before (Some (Some (s.0, gathered s.1))) >>= λ more. with_lines (n + 1) more lines) ≡ Ok after =
    ap (λ r. with_read n before r >>= λ more. with_lines (n + 1) more lines) (sym (reads s.0 s.1 h.0.name h.0.pids h.0.few)) ∙ here in
    let same : (with_schedule n before (s.0, s.1) >>= λ more. with_lines (n + 1) more lines) ≡ Ok after =
    ap (λ cs. with_schedule n before (s.0, cs) >>= λ more. with_lines (n + 1) more lines) (sym (spread_gathered s.1)) ∙ read in
    let on = scheduled_again n before s (has_name s.0 before) (is_too_long before s) after (λ more. with_lines (n + 1) more lines) same in
    sym (append_assoc before (s ∷ []) plan) ∙ lines_again plan (n + 1) (before ++ s ∷ []) after h.1 on

pub reads_all_back : (plan found : List Named) → AllByRecursion IsSound plan → plan_of (plan_text plan) ≡ Ok found → found ≡ plan
reads_all_back plan found h e = sym (lines_again plan 1 [] found h e)
