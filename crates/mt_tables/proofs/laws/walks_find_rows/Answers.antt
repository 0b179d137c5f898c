-- Keys compare alike only where they are one.
use Rattle.mt_physplan.proofs.Keys.{keys_exact, keys_total}
use Rattle.mt_tables.specs.Pages.{page_count}
use Rattle.mt_tables.specs.Rows.{row_in, sizes_of}
use Rattle.mt_tables.specs.Tables.{slots_below}
use Rattle.mt_tables.proofs.Walks.{walk_finds}
use Rattle.mt_tables.proofs.laws.walks_find_rows.Goals as goal

pub returns : goal.returns
returns c = λ known pages test sound. walk_finds keys_total keys_exact (row_in known) test (slots_below (sizes_of known) (page_count pages) pages) sound.rows_once
