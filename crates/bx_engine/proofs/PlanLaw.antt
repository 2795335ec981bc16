-- A line that is written of choices is read back as these.
use Rattle.std.proofs.Common.{◌≡◌, ◌∙◌, ◌⊎◌, inl, inr, ℕ, suc, ◌+◌, ◌≤◌, Bool, true, false, List, [], ◌∷◌, ◌++◌, length, replicate, Some, Ok, Err, append-nil, append_assoc, refl, sym, ap, subst, cond, arith}
use Rattle.std.proofs.lemmas.Bool.{eqb-true}
use Rattle.std.proofs.lemmas.Bool.Decides.{nat_tests}
use Rattle.std.proofs.lemmas.List.{length-append}
use Rattle.std.specs.List.{AllByRecursion}
use Rattle.std.specs.Prelude.{codes, decimal, ◌==◌, ◌||◌, nat_eq, nat_lt}
use Rattle.bx_terms.specs.Outcomes.{◌>>=◌}
use Rattle.bx_terms.specs.declared.faults.Fault.TheVariants.{TooLong}
use Rattle.bx_plan.specs.Entry.{Entry}
use Rattle.bx_plan.specs.Grammar.{AreEntries, HasPids, IsEntry, IsName, IsNameByte, IsOnce, IsRepeated, spelling}
use Rattle.bx_plan.specs.Nodes.{prefixes, choice_eq, has_node, node_count, with_node, with_nodes}
use Rattle.bx_plan.specs.Plans.{plan_of, with_lines, with_read, with_schedule, is_too_long}
use Rattle.bx_plan.specs.Reading.{count_of, line_of, parts_of, spread}
use Rattle.bx_plan.proofs.Headings.{line_again}
use Rattle.bx_plan.proofs.Marks.{Lacks, Lacks-append, parts_at, parts_lacks}
use Rattle.bx_plan.proofs.Spellings.{entry_lacks}
use Rattle.bx_world.specs.declared.choices.Choice.{Choice, TheVariants.Run, TheVariants.Deliver, TheVariants.Expire}
use Rattle.bx_world.specs.Texts.{spelling as shown_choice}
use Rattle.bx_engine.specs.PlanLines.{before, entries_words, entry_words, gathered, plan_line}
use Rattle.bx_engine.proofs.PlanRows.{same_choice}

-- entries whose choices may be named, each of which is made at least once
abbrev Sound : List Entry → Type 0
Sound [] = Unit {0}
Sound (e ∷ es) = HasPids e.0 × (1 ≤ e.1) × Sound es

sound_before : (c : Choice) (es : List Entry) → HasPids c → Sound es → Sound (before c es)
sound_before c [] h s = (h, omega arith, tt)
sound_before c (e ∷ es) h s = go (choice_eq c e.0)
  where
    go : (b : Bool) → Sound (cond b ((c, e.1 + 1) ∷ es) ((c, 1) ∷ e ∷ es))
    go true = (h, omega arith, s.2)
    go false = (h, omega arith, s)

count_before : (c : Choice) (es : List Entry) → count_of (before c es) ≡ count_of es + 1
count_before c [] = omega arith
count_before c (e ∷ es) = go (choice_eq c e.0)
  where
    go : (b : Bool) → count_of (cond b ((c, e.1 + 1) ∷ es) ((c, 1) ∷ e ∷ es)) ≡ e.1 + count_of es + 1
    go true = omega arith
    go false = omega arith

more_of : {A : Type 0} (n : ℕ) (x : A) (xs : List A) → replicate (n + 1) x ++ xs ≡ x ∷ (replicate n x ++ xs)
more_of n x xs = let e : n + 1 ≡ suc n = omega arith in ap (λ k. replicate k x ++ xs) e

spread_before : (c : Choice) (es : List Entry) → spread (before c es) ≡ c ∷ spread es
spread_before c [] = refl
spread_before c (e ∷ es) = go (choice_eq c e.0) refl
  where
    go : (b : Bool) → choice_eq c e.0 ≡ b → spread (cond b ((c, e.1 + 1) ∷ es) ((c, 1) ∷ e ∷ es)) ≡ c ∷ (replicate e.1 e.0 ++ spread es)
    go true t = more_of e.1 c (spread es) ∙ ap (λ x. c ∷ (replicate e.1 x ++ spread es)) (same_choice c e.0 t)
    go false t = refl

sound_gathered : (cs : List Choice) → AllByRecursion HasPids cs → Sound (gathered cs)
sound_gathered [] h = tt
sound_gathered (c ∷ cs) h = sound_before c (gathered cs) h.0 (sound_gathered cs h.1)

count_gathered : (cs : List Choice) → count_of (gathered cs) ≡ length cs
count_gathered [] = refl
count_gathered (c ∷ cs) = let more = count_gathered cs in let e = count_before c (gathered cs) in omega (arith, more, e)

pub spread_gathered : (cs : List Choice) → spread (gathered cs) ≡ cs
spread_gathered [] = refl
spread_gathered (c ∷ cs) = spread_before c (gathered cs) ∙ ap (λ ds. c ∷ ds) (spread_gathered cs)

-- an entry's word
abbrev word_of : Entry → List ℕ
word_of e = spelling e.0 ++ cond (e.1 == 1) [] (codes "*" ++ decimal e.1)

is_entry : (e : Entry) → HasPids e.0 → 1 ≤ e.1 → e.1 ≤ 100000 → IsEntry (word_of e) e
is_entry e pids some few = (pids, go (e.1 == 1) refl)
  where
    go : (b : Bool) → (e.1 == 1) ≡ b → IsOnce (spelling e.0 ++ cond b [] (codes "*" ++ decimal e.1)) e ⊎ IsRepeated (spelling e.0 ++ cond b [] (codes "*" ++ decimal e.1)) e
    go true t = inl (eqb-true e.1 1 t, append-nil (spelling e.0))
    go false t = inr (some, few, refl)

spelled : (c : Choice) → shown_choice c ≡ spelling c
spelled (Run p) = refl
spelled (Deliver p q) =
    append_assoc (codes "d" ++ decimal p) (codes ">") (decimal q) ∙ append_assoc (codes "d") (decimal p) (codes ">" ++ decimal q)
spelled (Expire p) = refl

spaced : (e : Entry) (es : List Entry) → entry_words e ++ entries_words es ≡ codes " " ++ (word_of e ++ entries_words es)
spaced e es =
    let tail = cond (e.1 == 1) [] (codes "*" ++ decimal e.1) in
    ap (λ t. ((codes " " ++ t) ++ tail) ++ entries_words es) (spelled e.0)
    ∙ ap (λ t. t ++ entries_words es) (append_assoc (codes " ") (spelling e.0) tail)
    ∙ append_assoc (codes " ") (word_of e) (entries_words es)

are_entries : (es : List Entry) → Sound es → count_of es ≤ 100000 → AreEntries (entries_words es) es
are_entries [] s few = refl
are_entries (e ∷ es) s few =
    (word_of e, entries_words es, is_entry e s.0 s.1 (omega (arith, few)), are_entries es s.2 (omega (arith, few)), spaced e es)

no_feed : (b : ℕ) → IsNameByte b → nat_eq b 10 ≡ false
no_feed b h = grind (arith, nat_tests)

name_lacks : (name : List ℕ) → AllByRecursion IsNameByte name → Lacks 10 name
name_lacks [] h = tt
name_lacks (b ∷ name) h = (no_feed b h.0, name_lacks name h.1)

entries_lack : (es : List Entry) → Sound es → count_of es ≤ 100000 → Lacks 10 (entries_words es)
entries_lack [] s few = tt
entries_lack (e ∷ es) s few =
    subst (Lacks 10) (sym (spaced e es)) (
      refl,
      Lacks-append 10 (word_of e) (entries_words es)
          (entry_lacks 10 (word_of e) e refl refl refl refl refl refl (is_entry e s.0 s.1 (omega (arith, few))))
          (entries_lack es s.2 (omega (arith, few))),
    )

with_node_length : (nodes : List (List Choice)) (path : List Choice) → length (with_node nodes path) ≤ length nodes + 1
with_node_length nodes path = go (has_node nodes path)
  where
    go : (b : Bool) → length (cond b nodes (nodes ++ path ∷ [])) ≤ length nodes + 1
    go true = omega arith
    go false = let e = length-append nodes (path ∷ []) in omega (arith, e)

with_nodes_length : (nodes paths : List (List Choice)) → length (with_nodes nodes paths) ≤ length nodes + length paths
with_nodes_length nodes [] = omega arith
with_nodes_length nodes (path ∷ paths) =
    let one = with_node_length nodes path in let more = with_nodes_length (with_node nodes path) paths in omega (arith, one, more)

prefixes_length : (front cs : List Choice) → length (prefixes front cs) ≡ length cs
prefixes_length front [] = refl
prefixes_length front (c ∷ cs) = ap suc (prefixes_length (front ++ c ∷ []) cs)

few_nodes : (cs : List Choice) → node_count (cs ∷ []) ≤ length cs
few_nodes cs =
    let grown = with_nodes_length ([] ∷ []) (prefixes [] cs) in let e = prefixes_length [] cs in omega (arith, grown, e)

not_long : (name : List ℕ) (cs : List Choice) → length cs ≤ 100000 → is_too_long [] (name, cs) ≡ false
not_long name cs few =
    let nodes = few_nodes cs in
    let a : nat_lt 100000 (length cs) ≡ false = grind (arith, nat_tests) in
    let b : nat_lt 1000000 (node_count (cs ∷ [])) ≡ false = grind (arith, nat_tests) in
    ap (λ t. t || nat_lt 1000000 (node_count (cs ∷ []))) a ∙ b

-- the line's schedule
pub reads : (name : List ℕ) (cs : List Choice) → IsName name → AllByRecursion HasPids cs → length cs ≤ 100000
    → line_of (plan_line name cs) ≡ Some (Some (name, gathered cs))
reads name cs n pids few =
    let c = count_gathered cs in
    line_again (plan_line name cs) (name, gathered cs) (
      n,
      entries_words (gathered cs),
      are_entries (gathered cs) (sound_gathered cs pids) (omega (arith, few, c)),
      append_assoc name (codes ":") (entries_words (gathered cs)),
    )

pub lacks : (name : List ℕ) (cs : List Choice) → IsName name → AllByRecursion HasPids cs → length cs ≤ 100000 → Lacks 10 (plan_line name cs)
lacks name cs n pids few =
    let c = count_gathered cs in
    subst (Lacks 10) (sym (append_assoc name (codes ":") (entries_words (gathered cs))))
    (Lacks-append 10 name (58 ∷ entries_words (gathered cs)) (name_lacks name n.2)
    (refl, entries_lack (gathered cs) (sound_gathered cs pids) (omega (arith, few, c))))

added : (name : List ℕ) (cs : List Choice) → length cs ≤ 100000 → with_schedule 1 [] (name, cs) ≡ Ok ((name, cs) ∷ [])
added name cs few = ap (λ t. cond t (Err (TooLong 1)) (Ok ((name, cs) ∷ []))) (not_long name cs few)

pub reads_back : (name : List ℕ) (cs : List Choice) → IsName name → AllByRecursion HasPids cs → length cs ≤ 100000
    → plan_of (plan_line name cs ++ codes "\n") ≡ Ok ((name, cs) ∷ [])
reads_back name cs n pids few =
    let line = plan_line name cs in
    let parts : parts_of 10 (line ++ 10 ∷ []) ≡ line ∷ [] ∷ [] = parts_at 10 line [] (lacks name cs n pids few) ∙ ap (λ ps. line ∷ ps) (parts_lacks 10 [] tt) in
    ap (with_lines 1 []) parts
    ∙ ap (λ read. with_read 1 [] read >>= λ more. with_lines 2 more ([] ∷ [])) (reads name cs n pids few)
    ∙ ap (λ ds. with_schedule 1 [] (name, ds) >>= λ more. with_lines 2 more ([] ∷ [])) (spread_gathered cs)
    ∙ ap (λ r. r >>= λ more. with_lines 2 more ([] ∷ [])) (added name cs few)
