use Rattle.bx_bifs.proofs.NameLaws.{natives_by_text, rows_alone}
use Rattle.bx_bifs.proofs.laws.names.native_names.Goals as goal

pub returns-clause-by_text : goal.returns-clause-by_text
returns-clause-by_text c = natives_by_text

pub returns-clause-only : goal.returns-clause-only
returns-clause-only c = rows_alone
