use Rattle.std.proofs.Common.{◌≡◌, ◌++◌, length}
use Rattle.mt_fold.specs.Parts.{first_behind, parts_text}
use Rattle.mt_fold.proofs.Printed.{names_among}
use Rattle.mt_fold.proofs.text.push_names.Given as goal

abbrev pub invariant-loop-at : goal.invariant-loop-at
invariant-loop-at l = record {
  text : l.into ≡ l.initial.into ++ parts_text l.initial.first (names_among l.fold.places l.columns l.place (length l.yielded));
  behind : l.first ≡ first_behind l.initial.first (names_among l.fold.places l.columns l.place (length l.yielded));
}
