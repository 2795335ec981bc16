use Rattle.bx_swaps.proofs.Gathering.{tidied_so, undone_so}
use Rattle.bx_swaps.proofs.laws.each_exchange_may_be_made.Goals as goal

pub returns : goal.returns
returns c = record {
  tidied = tidied_so;
  aside = λ count k course less. (undone_so count k course less).exchanged;
  back = λ count k course less. (undone_so count k course less).back;
  within = λ count k course less. (undone_so count k course less).less;
}
