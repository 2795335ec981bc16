-- How the answers of calls in a row stand to readings in a row.
use Rattle.bx_listing.proofs.Known.{Answers, Fault, Memory, Does, naming, Adds, Table, table_of, Begins, Begins-refl, outcome, named, Takes, ◌≡◌, ℕ, ◌<◌, true}
use Rattle.bx_listing.proofs.Known.{List, [], ◌∷◌, ◌++◌, length, Result, Ok, Err, sym, ap, subst, ◌∙◌, arith, nat_lt, length-append, AtomId, Formed, KeepsName}
use Rattle.bx_listing.proofs.Known.{FormGives, refl, Unsupported, Tree, Op, Reading, ◌>>=◌, from_result, Refused, Bool, false, ◌||◌, Outcome, read, refused}
use Rattle.bx_listing.proofs.Known.{Begins-trans, and_then, give, Refuses, Reads, lined, on_line, Gives}
use Rattle.bx_listing.specs.Reading.{is_longer, naming_in, takes_then, is_stored, stored_if, after_storing, lined-grows, placed_answer}

-- what follows only adds names
pub Begins-and_then : {A B : Type 0} (first : Outcome A) (next : A → Reading B) → Begins (table_of first) (table_of (and_then first next))
Begins-and_then (read texts x) next = (next x).grows texts
Begins-and_then (refused texts fault) next = Begins-refl texts

-- the first part's refusal is the whole's
pub refuses_first : {A B : Type 0} (takes : Type 0) (old new : Table) (fault : Fault) (first : Reading A) (next : A → Reading B) → Refuses takes old new fault first → Refuses takes old new fault (first >>= next)
refuses_first takes old new Memory first next h = (h.0, h.1, Begins-trans _ _ _ h.2 (Begins-and_then (first.run old) next))
refuses_first takes old new _ first next h = ap (λ o. and_then o next) h

-- after a first part that was good, the refusal of what follows is the whole's
refuses_after : {A B : Type 0} (takes : Type 0) (old mid new : Table) (fault : Fault) (first : Reading A) (x : A) (next : A → Reading B) → first.run old ≡ read mid x → Refuses takes mid new fault (next x) → Refuses takes old new fault (first >>= next)
refuses_after takes old mid new Memory first x next e h =
    let before : Begins old mid = subst (λ o. Begins old (table_of o)) e (first.grows old) in
    (h.0, Begins-trans old mid new before h.1, subst (λ o. Begins new (table_of (and_then o next))) (sym e) h.2)
refuses_after takes old mid new _ first x next e h = ap (λ o. and_then o next) e ∙ h

-- after a first part that was good, the answer to what follows is the answer to the whole
pub reads_after : {Y A B : Type 0} (takes : Type 0) (seen : Y → B) (old mid new : Table) (answer : Result Y Fault) (first : Reading A) (x : A) (next : A → Reading B) → first.run old ≡ read mid x → Reads takes seen mid new answer (next x) → Reads takes seen old new answer (first >>= next)
reads_after takes seen old mid new (Ok y) first x next e h = ap (λ o. and_then o next) e ∙ h
reads_after takes seen old mid new (Err fault) first x next e h = refuses_after takes old mid new fault first x next e h

-- memory that runs out before anything was read
pub memory_before : {A : Type 0} (texts : Table) (reading : Reading A) → Refuses (Unit {0}) texts texts Memory reading
memory_before texts reading = (tt, Begins-refl texts, reading.grows texts)

-- the refusal of what takes no names
pub refuses_result : {A : Type 0} (takes kept : Type 0) (texts : Table) (fault : Fault) (said : Result A Fault) → (takes → kept) → Gives {X = A} takes (λ x. x) (Err fault) said → Refuses kept texts texts fault (from_result said)
refuses_result takes kept texts Memory said keep h = (keep h, Begins-refl texts, (from_result said).grows texts)
refuses_result takes kept texts _ said keep h = ap (λ r. (from_result r).run texts) h

-- an answer to one reading is an answer to another that gives the same
pub reads_same : {X A : Type 0} (some more : Type 0) (view : X → A) (old new : Table) (answer : Result X Fault) (one other : Reading A) → (some → more) → one.run old ≡ other.run old
    → Reads some view old new answer one → Reads more view old new answer other
reads_same some more view old new (Err Memory) one other k e h = (k h.0, h.1, subst (λ o. Begins new (table_of o)) e h.2)
reads_same some more view old new _ one other k e h = sym e ∙ h

-- what is left gives what all gave, so a refusal of it is the whole's
pub refuses_left : {A : Type 0} (old t new : Table) (fault : Fault) (left whole : Reading A) → Begins old t → left.run t ≡ whole.run old → Refuses (Unit {0}) t new fault left → Refuses (Unit {0}) old new fault whole
refuses_left old t new Memory left whole grown e h = (tt, Begins-trans old t new grown h.1, subst (λ o. Begins new (table_of o)) e h.2)
refuses_left old t new _ left whole grown e h = sym e ∙ h

pub grown_after : {B : Type 0} (first : Reading B) (y : B) (old t mid : Table) → Begins old t → first.run t ≡ read mid y → Begins old mid
grown_after first y old t mid grown h = Begins-trans old t mid grown (subst (λ o. Begins t (table_of o)) h (first.grows t))

-- where the first part takes memory, the whole does
pub takes_first : {A B : Type 0} (old : Table) (first : Reading A) (next : A → Reading B) → Takes first old → Takes (first >>= next) old
takes_first old first next h = ap (λ (b : Bool). b || takes_then (first.run old) next) h

or_second : (a b : Bool) → b ≡ true → (a || b) ≡ true
or_second true b h = refl
or_second false b h = h

-- and where what follows does
pub takes_after : {A B : Type 0} (old mid : Table) (first : Reading A) (x : A) (next : A → Reading B) → first.run old ≡ read mid x → Takes (next x) mid → Takes (first >>= next) old
takes_after old mid first x next e h = or_second (first.takes old) (takes_then (first.run old) next) (ap (λ o. takes_then o next) e ∙ h)

-- what is read is stored
pub takes_stored : {A B : Type 0} (test : A → Bool) (old mid : Table) (first : Reading A) (x : A) (next : A → Reading B) → first.run old ≡ read mid x → test x ≡ true → Takes (stored_if test first >>= next) old
takes_stored test old mid first x next e h = takes_first old (stored_if test first) next (or_second (first.takes old) (is_stored test (first.run old)) (ap (is_stored test) e ∙ h))

-- a part that was refused is refused where it is stored too
pub refused_stored : {A : Type 0} (test : A → Bool) (old new : Table) (fault : Fault) (first : Reading A) → Refused old new fault first → Refused old new fault (stored_if test first)
refused_stored test old new Memory first h = (ap (λ (b : Bool). b || is_stored test (first.run old)) h.0, h.1, h.2)
refused_stored test old new _ first h = h

-- the first part's refusal is the whole's
pub refused_first : {A B : Type 0} (old new : Table) (fault : Fault) (first : Reading A) (next : A → Reading B) → Refused old new fault first → Refused old new fault (first >>= next)
refused_first old new Memory first next h = (takes_first old first next h.0, h.1, Begins-trans _ _ _ h.2 (Begins-and_then (first.run old) next))
refused_first old new _ first next h = ap (λ o. and_then o next) h

-- after a first part that was good, the refusal of what follows is the whole's
pub refused_after : {A B : Type 0} (old mid new : Table) (fault : Fault) (first : Reading A) (x : A) (next : A → Reading B) → first.run old ≡ read mid x → Refused mid new fault (next x) → Refused old new fault (first >>= next)
refused_after old mid new Memory first x next e h =
    let before : Begins old mid = subst (λ o. Begins old (table_of o)) e (first.grows old) in
    (takes_after old mid first x next e h.0, Begins-trans old mid new before h.1, subst (λ o. Begins new (table_of (and_then o next))) (sym e) h.2)
refused_after old mid new _ first x next e h = ap (λ o. and_then o next) e ∙ h

-- after a first part that was good, the answer to what follows is the answer to the whole
pub answers_after : {Y A B : Type 0} (seen : Y → B) (old mid new : Table) (answer : Result Y Fault) (first : Reading A) (x : A) (next : A → Reading B) → first.run old ≡ read mid x → Answers seen mid new answer (next x) → Answers seen old new answer (first >>= next)
answers_after seen old mid new (Ok y) first x next e h = ap (λ o. and_then o next) e ∙ h
answers_after seen old mid new (Err fault) first x next e h = refused_after old mid new fault first x next e h

-- memory that runs out for what was read, which is stored
pub wanting_stored : {A B : Type 0} (test : A → Bool) (old mid : Table) (first : Reading A) (x : A) (next : A → Reading B) → first.run old ≡ read mid x → test x ≡ true → Refused old mid Memory (stored_if test first >>= next)
wanting_stored test old mid first x next e h =
    let grown : Begins old mid = subst (λ o. Begins old (table_of o)) e (first.grows old) in
    (takes_stored test old mid first x next e h, grown, subst (λ o. Begins mid (table_of (and_then o next))) (sym e) ((next x).grows mid))

-- memory that runs out before anything was read
pub wanting_before : {A : Type 0} (texts : Table) (reading : Reading A) → Refused texts texts Memory (after_storing reading)
wanting_before texts reading = (refl, Begins-refl texts, reading.grows texts)

-- what takes no names was good: the answer to what follows is the answer to the whole
pub result_read : {A B X : Type 0} (see : X → B) (old new : Table) (answer : Result X Fault) (said : Result A Fault) (x : A) (next : A → Reading B) → said ≡ Ok x → Answers see old new answer (next x) → Answers see old new answer (from_result said >>= next)
result_read see old new answer said x next e h =
    reads_same _ _ see old new answer (next x) (from_result said >>= next) (λ k. ap (λ r. (from_result r >>= next).takes old) e ∙ k) (sym (ap (λ r. (from_result r >>= next).run old) e)) h

-- what is made of the answer to a reading
pub answers_given : {X A B : Type 0} (view : X → A) (make : A → B) (old new : Table) (answer : Result X Fault) (reading : Reading A) → Answers view old new answer reading → Answers (λ x. make (view x)) old new answer (reading >>= λ a. give (make a))
answers_given view make old new (Ok x) reading h = ap (λ o. and_then o (λ a. give (make a))) h
answers_given view make old new (Err fault) reading h = refused_first old new fault reading (λ a. give (make a)) h

pub reads_given : {X A B : Type 0} (takes : Type 0) (view : X → A) (make : A → B) (old new : Table) (answer : Result X Fault) (reading : Reading A) → Reads takes view old new answer reading → Reads takes (λ x. make (view x)) old new answer (reading >>= λ a. give (make a))
reads_given takes view make old new (Ok x) reading h = ap (λ o. and_then o (λ a. give (make a))) h
reads_given takes view make old new (Err fault) reading h = refuses_first takes old new fault reading (λ a. give (make a)) h

-- three readings in a row
pub and_then_assoc : {A B C : Type 0} (first : Outcome A) (next : A → Reading B) (last : B → Reading C) → and_then first (λ x. next x >>= last) ≡ and_then (and_then first next) last
and_then_assoc (read texts x) next last = refl
and_then_assoc (refused texts fault) next last = refl

-- the answer to a form, with its line
pub answers_placed : {X A : Type 0} (view : X → A) (old new : Table) (line : ℕ) (answer : Result X Fault) (reading : Reading A) → Answers view old new answer reading → Answers view old new (placed_answer line answer) (on_line line reading)
answers_placed view old new line (Err Memory) reading h = (h.0, h.1, lined-grows line new (reading.run old) h.2)
answers_placed view old new line _ reading h = ap (lined line) h

-- A form that is refused before its operands are read.
-- a name that is kept takes memory
kept_takes : (texts : Table) (said : Formed) → KeepsName said → Takes (from_result said) texts
kept_takes texts (Err (Unsupported line name)) h = refl
kept_takes texts _ h = absurd h

-- so the whole is refused
pub form_refused : {B X : Type 0} (view : X → Op × List Tree) (texts : Table) (fault : Fault) (said : Formed) (next : Op × List Tree → Reading B) → FormGives view (Err fault) said → Refused texts texts fault (from_result said >>= next)
form_refused view texts Memory said next h =
    (takes_first texts (from_result said) next (kept_takes texts said h), Begins-refl texts, (from_result said >>= next).grows texts)
form_refused view texts _ said next h = ap (λ r. (from_result r >>= next).run texts) h

-- Naming an atom: its refusals, and when it takes memory.
longer : (texts : Table) (text : List ℕ) → nat_lt (length texts) (length (texts ++ text ∷ [])) ≡ true
longer texts text =
    let more : length texts < length (texts ++ text ∷ []) = omega (arith, length-append texts (text ∷ [])) in
    grind (arith, more)

-- a new name takes memory
adds_takes : (text : List ℕ) (texts : Table) → Adds texts text → Takes (named text) texts
adds_takes text texts h = ap (λ r. is_longer texts (outcome texts r)) h ∙ longer texts text

pub name_answered : (text : List ℕ) (old new : Table) (answer : Result AtomId Fault) → Does (Adds old text) old new answer (naming old text) → Answers (λ a. a) old new answer (named text)
name_answered text old new (Ok a) h = ap (outcome old) h
name_answered text old new (Err Memory) h =
    let kept : Begins old new = subst (Begins old) (sym h.1) (Begins-refl old) in
    (adds_takes text old h.0, kept, subst (λ t. Begins t (table_of (naming_in text old))) (sym h.1) ((named text).grows old))
name_answered text old new (Err _) h = rw h.1 (ap (outcome old) h.0)
