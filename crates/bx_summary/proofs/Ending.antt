-- The lines of an ending are those of an outcome's text, from the second on.
use Rattle.std.proofs.Common.{◌≡◌, ◌∙◌, ℕ, ◌<◌, [], ◌∷◌, Bool, true, false, List, ◌++◌, Option, Some, None, Result, Ok, refl, sym, ap, codes, arith}
use Rattle.std.proofs.lemmas.Fmt.{decimal_digit}
use Rattle.std.specs.Prelude.{decimal}
use Rattle.bx_terms.specs.declared.faults.Fault.{Fault}
use Rattle.bx_world.specs.Texts.{outcome_lines, output_lines, process_lines, state_words}
use Rattle.bx_world.specs.declared.choices.Choice.{Choice, TheVariants.Run}
use Rattle.bx_world.specs.declared.outcomes.Standing.{Standing, TheVariants.Trapped, TheVariants.Quiet, TheVariants.Open}
use Rattle.bx_board.specs.declared.reports.Scheduled.{Scheduled}
use Rattle.bx_summary.specs.Endings.{ending_lines, ending_words, is_open}

abbrev pub Answer : Type 0
Answer = Result (List ℕ) Fault

pub ok_is : (x y : List ℕ) → ◌≡◌ {A = Answer} (Ok x) (Ok y) → x ≡ y
ok_is x y e = cc

open_words : (refused : Option Choice) (state : Standing) → is_open refused state ≡ true → ending_words refused state ≡ codes "open"
open_words (Some choice) state e = cc
open_words None (Trapped kind p) e = cc
open_words None Quiet e = cc
open_words None (Open choices) e = refl

shut_words : (refused : Option Choice) (state : Standing) → is_open refused state ≡ false → ending_words refused state ≡ state_words refused state
shut_words (Some choice) state e = refl
shut_words None (Trapped kind p) e = refl
shut_words None Quiet e = refl
shut_words None (Open choices) e = cc

zero_is : decimal 0 ≡ 48 ∷ []
zero_is = let small : 0 < 10 = omega arith in decimal_digit 0 small

module _ (texts : List (List ℕ)) (one : Scheduled) (text ending : List ℕ) where
  abbrev shown : List ℕ
  shown = process_lines texts 0 one.outcome.statuses

  abbrev printed : List ℕ
  printed = output_lines texts one.outcome.output

  abbrev behind : List ℕ
  behind = shown ++ printed ++ codes "end\n"

  pub open_ending : is_open one.refused one.outcome.state ≡ true → ◌≡◌ {A = Answer} (Ok (outcome_lines texts 0 (Some (Run 0)) one.outcome)) (Ok text)
      → ((rest : List ℕ) → text ≡ codes "applied 0\nstate stopped r0\n" ++ rest → ending ≡ codes "state open\n" ++ rest) → ◌≡◌ {A = Answer} (Ok (ending_lines texts one)) (Ok ending)
  open_ending is told begun =
      let begins : outcome_lines texts 0 (Some (Run 0)) one.outcome ≡ codes "applied 0\nstate stopped r0\n" ++ behind =
      ap (λ d. codes "applied " ++ d ++ codes "\nstate " ++ (codes "stopped " ++ (codes "r" ++ d)) ++ codes "\n" ++ shown ++ printed ++ codes "end\n") zero_is in
      ap Ok (ap (λ words. codes "state " ++ words ++ codes "\n" ++ shown ++ printed ++ codes "end\n") (open_words one.refused one.outcome.state is)
      ∙ sym (begun behind (sym (ok_is (outcome_lines texts 0 (Some (Run 0)) one.outcome) text told) ∙ begins)))

  pub shut_ending : is_open one.refused one.outcome.state ≡ false → ◌≡◌ {A = Answer} (Ok (outcome_lines texts 0 one.refused one.outcome)) (Ok text)
      → ((rest : List ℕ) → text ≡ codes "applied 0\n" ++ rest → ending ≡ codes "" ++ rest) → ◌≡◌ {A = Answer} (Ok (ending_lines texts one)) (Ok ending)
  shut_ending is told begun =
      let rest = codes "state " ++ state_words one.refused one.outcome.state ++ codes "\n" ++ shown ++ printed ++ codes "end\n" in
      let begins : outcome_lines texts 0 one.refused one.outcome ≡ codes "applied 0\n" ++ rest =
      ap (λ d. codes "applied " ++ d ++ codes "\nstate " ++ state_words one.refused one.outcome.state ++ codes "\n" ++ shown ++ printed ++ codes "end\n") zero_is in
      ap Ok (ap (λ words. codes "state " ++ words ++ codes "\n" ++ shown ++ printed ++ codes "end\n") (shut_words one.refused one.outcome.state is)
      ∙ sym (begun rest (sym (ok_is (outcome_lines texts 0 one.refused one.outcome) text told) ∙ begins)))
