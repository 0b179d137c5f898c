-- What physical tables in memory stand for.
use Rattle.std.specs.Prelude.{slice_index}
use Rattle.mt_physplan.specs.declared.counts.ScanCounts.{ScanCounts}
use Rattle.mt_physplan.specs.Content.{Content}
use Rattle.mt_physplan.specs.Phys.{PhysMeaning}

-- they tell their content, and count no fault
abbrev pub listed_meaning : Content → ScanCounts → PhysMeaning
listed_meaning content counts = record { tells = Unit {0}; content = content; scans = slice_index counts.each; faults = 0 }
