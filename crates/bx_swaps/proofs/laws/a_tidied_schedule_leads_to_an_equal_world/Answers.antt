use Rattle.bx_swaps.proofs.Words.{from_start}
use Rattle.bx_swaps.proofs.Ends.{exchanged_end}
use Rattle.bx_swaps.proofs.laws.a_tidied_schedule_leads_to_an_equal_world.Goals as goal

pub returns : goal.returns
returns c = record {
  tidied = λ image start count choices new is. exchanged_end count (from_start image start choices) (from_start image start new) is.exchanged;
  undone = λ image start count k before choices new is. exchanged_end count (from_start image start choices) (from_start image start new) is.aside.exchanged;
}
