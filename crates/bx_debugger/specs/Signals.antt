-- `signals`: each signal that waits, channel by channel, in a channel the oldest first.
use Rattle.std.specs.Prelude.{ℕ, List, [], ◌∷◌, ◌++◌, codes}
use Rattle.bx_terms.specs.Printed.{printed}
use Rattle.bx_signals.specs.Channels.{Channels, pairs, waiting}
use Rattle.bx_signals.specs.declared.signal.Signal.{Signal, TheVariants.Message, TheVariants.Link, TheVariants.Unlink, TheVariants.LinkExit, TheVariants.Exit}
use Rattle.bx_world.specs.Enabled.{delivery}
use Rattle.bx_world.specs.Texts.{spelling}

abbrev pub signal_words : List (List ℕ) → Signal → List ℕ
signal_words texts (Message term) = codes "message " ++ printed texts term
signal_words texts Link = codes "link"
signal_words texts Unlink = codes "unlink"
signal_words texts (LinkExit reason) = codes "exit " ++ printed texts reason
signal_words texts (Exit reason) = codes "exit/2 " ++ printed texts reason

-- a line for each of a channel: `d1>0 message TERM`
abbrev pub signal_lines : List (List ℕ) → ℕ × ℕ → List Signal → List ℕ
signal_lines texts pair [] = []
signal_lines texts pair (signal ∷ more) =
    spelling (delivery pair) ++ codes " " ++ signal_words texts signal ++ codes "\n" ++ signal_lines texts pair more

abbrev pub channel_lines : List (List ℕ) → Channels Signal → List (ℕ × ℕ) → List ℕ
channel_lines texts channels [] = []
channel_lines texts channels (pair ∷ more) = signal_lines texts pair (waiting channels pair) ++ channel_lines texts channels more

abbrev pub signals_answer : List (List ℕ) → Channels Signal → List ℕ
signals_answer texts channels = channel_lines texts channels (pairs channels) ++ codes "end\n"
