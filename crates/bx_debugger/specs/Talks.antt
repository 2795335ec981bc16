-- How lines are heard, byte by byte, and how a debugger ends.
use Rattle.std.specs.Prelude.{◌≡◌, ◌<◌, ◌≤◌, ◌⊎◌, ℕ, ◌+◌, ◌-◌, Bool, true, false, List, [], ◌++◌, Option, Some, None, Result, Ok, Err, length, take, IsErr, IsSome, refl}
use Rattle.std.specs.Coded.{Coded, code_by, coded×, coded_ℕ, coded_list}
use Rattle.std.specs.Io.KnownBytes.{Appends, Consumes, IsAtEnd, Keeps}
use Rattle.bx_terms.specs.FixedAtoms.{fixed_atoms}
use Rattle.bx_terms.specs.declared.faults.Fault.TheVariants.{Memory, TooLarge}
use Rattle.bx_debug.specs.Sessions.{History}
use Rattle.bx_engine.specs.Inputs.{input_limit}
use Rattle.bx_engine.specs.Runs.{TakesMemory}
use Rattle.bx_engine.specs.Sources.{Sources, sources_of}
use Rattle.bx_engine.specs.Starts.{start_in}
use Rattle.bx_engine.specs.Units.{ClearBefore}
use Rattle.bx_engine.specs.declared.failures.Failure.{Failure, TheVariants.Refused, TheVariants.Read, TheVariants.Write, TheVariants.Start}
use Rattle.bx_debugger.specs.Answers.{after_lines, answered, answers, has_quit, is_quit}
use Rattle.bx_debugger.specs.Lines.{begun_line, ended_lines, last_line}
use Rattle.bx_debugger.specs.Program.{sources_code}
use Rattle.bx_debugger.specs.declared.talks.Next.{Next, TheVariants.More, TheVariants.Over}

-- a session whose lines are being read
pub record Hearing : Type 0 where
  pub session : History
  -- where the items of its code stand
  pub sources : Sources
  -- the number of the line that has begun, from 1
  pub number : ℕ
  -- what was read of it
  pub line : List ℕ
  -- how many bytes more may come
  pub left : ℕ

-- what a proof tells two of them apart by
abbrev pub hearing_code : Coded History → Coded Hearing
hearing_code session =
    code_by (History × (Sources × (ℕ × (List ℕ × ℕ))))
    (coded× session (coded× sources_code (coded× coded_ℕ (coded× (coded_list coded_ℕ) coded_ℕ))))
    (λ h. (h.session, (h.sources, (h.number, (h.line, h.left)))))
    (λ t. record { session = t.0; sources = t.1.0; number = t.1.1.0; line = t.1.1.1.0; left = t.1.1.1.1 })
    (λ _. refl)

abbrev pub begins : Sources → History → Hearing
begins sources s = record { session = s; sources = sources; number = 1; line = []; left = input_limit }

-- the lines that these bytes end
abbrev pub ended_in : Hearing → List ℕ → List (List ℕ)
ended_in h bytes = ended_lines h.line bytes

-- the lines of these bytes, of which the last may lack its line feed
abbrev pub lines_in : Hearing → List ℕ → List (List ℕ)
lines_in h bytes = ended_lines h.line bytes ++ last_line (begun_line h.line bytes)

-- one of the lines that these bytes end quits
abbrev pub quits : Hearing → List ℕ → Bool
quits h bytes = has_quit (ended_in h bytes)

-- the answers to lines from the one on that has begun
abbrev pub told : Hearing → List (List ℕ) → List ℕ
told h lines = answers h.sources h.number lines h.session

-- behind bytes whose ended lines are all answered
abbrev pub heard : Hearing → List ℕ → Hearing
heard h bytes = record {
  session = after_lines h.sources h.number (ended_in h bytes) h.session;
  sources = h.sources;
  number = h.number + length (ended_in h bytes);
  line = begun_line h.line bytes;
  left = h.left - length bytes;
}

-- one line is answered, or quits; where memory runs out, nothing is written; the writer fails at no line that quits
abbrev pub Replies : Option (List ℕ) → Option (List ℕ) → Hearing → Hearing → Result Next Failure → Type 0
Replies old new h after (Ok More) = (is_quit h.line ≡ false) × Appends old new (answered h.sources h.number h.line h.session).0
    × (after ≡ record h { session = (answered h.sources h.number h.line h.session).1 })
Replies old new h after (Ok Over) = (is_quit h.line ≡ true) × Keeps old new
Replies old new h after (Err (Refused Memory file)) = (file ≡ None) × (is_quit h.line ≡ false) × Keeps old new
Replies old new h after (Err Write) = is_quit h.line ≡ false
Replies old new h after (Err failure) = ⊥

-- these bytes were heard, and none of the lines that they end quits
pub record Follows (old new : Option (List ℕ)) (h after : Hearing) (bytes : List ℕ) : Type 0 where
  pub state : after ≡ heard h bytes
  pub goes_on : quits h bytes ≡ false
  pub written : Appends old new (told h (ended_in h bytes))

-- memory ran out at one of the lines, and those before it are answered
abbrev pub Lacks : Option (List ℕ) → Option (List ℕ) → Hearing → List ℕ → Type 0
Lacks old new h bytes = (k : ℕ) × (k < length (lines_in h bytes)) × (has_quit (take k (lines_in h bytes)) ≡ false)
    × Appends old new (told h (take k (lines_in h bytes)))

-- there is a line to be answered, and none of the lines quits
abbrev pub MayFail : Hearing → List ℕ → Type 0
MayFail h bytes = (0 < length (lines_in h bytes)) × (has_quit (lines_in h bytes) ≡ false)

-- hearing broke off at the last of these bytes; where the writer failed, they end the line whose answer it was given
abbrev pub Breaks : Option (List ℕ) → Option (List ℕ) → Hearing → List ℕ → Result Next Failure → Type 0
Breaks old new h bytes (Ok Over) = (quits h bytes ≡ true) × Appends old new (told h (ended_in h bytes))
Breaks old new h bytes (Err (Refused Memory file)) = (file ≡ None) × Lacks old new h bytes
Breaks old new h bytes (Err Write) = (begun_line h.line bytes ≡ []) × MayFail h bytes
Breaks old new h bytes answer = ⊥

-- hearing broke off at the last of a prefix of these bytes
abbrev pub Broken : Option (List ℕ) → Option (List ℕ) → Hearing → List ℕ → Result Next Failure → Type 0
Broken old new h bytes answer = (read : List ℕ) × (past : List ℕ) × (bytes ≡ read ++ past) × Breaks old new h read answer

-- these bytes were heard, or a prefix of them
abbrev pub Feeds : Option (List ℕ) → Option (List ℕ) → Hearing → Hearing → List ℕ → Result Next Failure → Type 0
Feeds old new h after bytes (Ok More) = Follows old new h after bytes
Feeds old new h after bytes answer = Broken old new h bytes answer

-- the last line, which lacks its line feed, is answered
abbrev pub Finishes : Option (List ℕ) → Option (List ℕ) → Hearing → Result Next Failure → Type 0
Finishes old new h (Ok Over) = Appends old new (told h (last_line h.line))
Finishes old new h (Err (Refused Memory file)) = (file ≡ None) × Lacks old new h []
Finishes old new h (Err Write) = MayFail h []
Finishes old new h answer = ⊥

-- How a debugger ended that had read these bytes, and others behind them that do not count: all its lines are answered, up to one
-- that quits; or the reader failed, or gave more than the limit, and the lines that were ended before are answered; or memory ran
-- out at a line, and those before it are answered; or the writer failed at the last line of what was read, which a line feed or the
-- reader's end ends. What such a writer took is not said.
abbrev pub Ends : ℕ → Hearing → Option (List ℕ) → Option (List ℕ) → Option (List ℕ) → List ℕ → List ℕ → Result (Unit {0}) Failure → Type 0
Ends file h old new rest read past (Ok done) =
    ((IsAtEnd rest × (past ≡ [])) ⊎ (quits h read ≡ true)) × Appends old new (told h (lines_in h read))
Ends file h old new rest read past (Err (Read n)) =
    (n ≡ file) × (past ≡ []) × (quits h read ≡ false) × Appends old new (told h (ended_in h read))
Ends file h old new rest read past (Err (Refused TooLarge n)) =
    (n ≡ Some file) × (length read ≡ h.left) × (0 < length past) × (quits h read ≡ false) × Appends old new (told h (ended_in h read))
Ends file h old new rest read past (Err (Refused Memory n)) = (n ≡ None) × Lacks old new h read
Ends file h old new rest read past (Err Write) = ((begun_line h.line read ≡ []) ⊎ (IsAtEnd rest × (past ≡ []))) × MayFail h read
Ends file h old new rest read past (Err failure) = ⊥

-- lines were read and answered, by what the reader gave
abbrev pub Talks : ℕ → Hearing → Option (List ℕ) → Option (List ℕ) → Option (List ℕ) → Option (List ℕ) → Result (Unit {0}) Failure → Type 0
Talks file h old new had rest answer = (read : List ℕ) × (past : List ℕ) × Consumes had rest (read ++ past) × (length read ≤ h.left)
    × Ends file h old new rest read past answer

-- these bytes were read and heard
pub record Hears (old new had rest : Option (List ℕ)) (h after : Hearing) (read : List ℕ) : Type 0 where
  pub given : Consumes had rest read
  pub within : length read ≤ h.left
  pub follows : Follows old new h after read

-- the reader was asked once
abbrev pub Turns : ℕ → Hearing → Hearing → Option (List ℕ) → Option (List ℕ) → Option (List ℕ) → Option (List ℕ) → Result Next Failure → Type 0
Turns file h after old new had rest (Ok More) = (read : List ℕ) × Hears old new had rest h after read
Turns file h after old new had rest (Ok Over) = Talks file h old new had rest (Ok tt)
Turns file h after old new had rest (Err failure) = Talks file h old new had rest (Err failure)

-- it ended before a line was asked for: at the first fault, at a file before which nothing is at fault and that can't be read, or for
-- out of memory, which comes only where an atom begins the start and is no file's fault
abbrev pub IsBefore : List ℕ → List (List ℕ) → Result History Failure → Result (Unit {0}) Failure → Type 0
IsBefore start given said (Ok done) = ⊥
IsBefore start given said (Err (Refused Memory file)) = TakesMemory start × (file ≡ None)
IsBefore start given said (Err (Read n)) = IsSome (start_in start) × ClearBefore fixed_atoms given n
IsBefore start given said (Err failure) = said ≡ Err failure

-- What a debugger did, whose listings are known: it ended before a line was asked for, and neither read one nor wrote; or the
-- session was opened, and lines were read and answered.
abbrev pub Debugs : List ℕ → List (List ℕ) → Result History Failure → Option (List ℕ) → Option (List ℕ) → Option (List ℕ) → Option (List ℕ) → Result (Unit {0}) Failure → Type 0
Debugs start given said old new had rest answer =
    (IsBefore start given said answer × Keeps old new × Keeps had rest)
    ⊎ ((s : History) × (said ≡ Ok s) × Talks (length given) (begins (sources_of given) s) old new had rest answer)

-- The same whatever the readers give: it ended without a line that was read or an answer that was written, out of memory among the
-- reasons; or a session was opened, and lines were read and answered.
abbrev pub DebugsAny : ℕ → Option (List ℕ) → Option (List ℕ) → Option (List ℕ) → Option (List ℕ) → Result (Unit {0}) Failure → Type 0
DebugsAny files old new had rest answer =
    (IsErr answer × Keeps old new × Keeps had rest)
    ⊎ ((sources : Sources) × (s : History) × Talks files (begins sources s) old new had rest answer)
