use Rattle.std.proofs.Common.{◌≡◌, ◌++◌, true}
use Rattle.mt_fold.specs.Parts.{first_behind, parts_text}
use Rattle.mt_fold.proofs.Printed.{names_in}
use Rattle.mt_fold.proofs.text.push_fields.Given as goal

abbrev pub invariant-loop-field : goal.invariant-loop-field
invariant-loop-field l = record {
  text : l.into ≡ l.initial.into ++ parts_text true (names_in l.fold l.columns l.chunk l.field);
  behind : l.first ≡ first_behind true (names_in l.fold l.columns l.chunk l.field);
}
