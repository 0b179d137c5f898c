use Rattle.std.proofs.Common.{◌≡◌, ◌++◌, take}
use Rattle.mt_fold.specs.Parts.{first_behind, parts_text}
use Rattle.mt_fold.specs.Texts.{chunk_parts}
use Rattle.mt_fold.proofs.text.push_chunks.Given as goal

abbrev pub invariant-loop-chunk : goal.invariant-loop-chunk
invariant-loop-chunk l = record {
  text : l.into ≡ l.initial.into ++ parts_text l.initial.first (take l.chunk (chunk_parts l.fold l.columns));
  behind : l.first ≡ first_behind l.initial.first (take l.chunk (chunk_parts l.fold l.columns));
}
