-- The places of the fields so far.
use Rattle.std.proofs.Common.{◌≡◌, map, take}
use Rattle.mt_catalog.specs.Found.{place_found}
use Rattle.mt_catread.proofs.folds.places_of.Given as goal

abbrev pub invariant-loop-field : goal.invariant-loop-field
invariant-loop-field l = l.places ≡ map place_found (take l.field-index l.fields)
