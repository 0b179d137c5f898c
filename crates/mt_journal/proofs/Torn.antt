-- Disks that are the same but for a range of one area.
use Rattle.std.proofs.Common.{ℕ, ◌+◌, ◌≤◌, List, length, ◌∙◌, arith}
use Rattle.std.specs.Prelude.{Result}
use Rattle.mt_machine.specs.declared.machine.Area.{Area}
use Rattle.mt_machine.specs.Meaning.{Disk, Meaning}
use Rattle.mt_machine.specs.Calls.{Torn, Writes}
use Rattle.mt_journal.specs.Steps.{TornFrom, Changes}
use Rattle.mt_machine.specs.LeavesLaws.{write_leaves, leaves_then, leaves_weaker}

-- what changed in two steps changed within a range of both
pub torn_join : (area : Area) (at n p m q k : ℕ) (first second third : Disk) → at ≤ p → p + m ≤ at + n → at ≤ q → q + k ≤ at + n
    → Torn area p m first second → Torn area q k second third → Torn area at n first third
torn_join area at n p m q k first second third low high low_next high_next one two = record {
  before = λ i h. two.before i (omega arith) ∙ one.before i (omega arith);
  after = λ i h. two.after i (omega arith) ∙ one.after i (omega arith);
  other = λ b ne. two.other b ne ∙ one.other b ne;
}

-- a range within another
pub torn_wider : (area : Area) (at n p m : ℕ) (first second : Disk) → at ≤ p → p + m ≤ at + n → Torn area p m first second → Torn area at n first second
torn_wider area at n p m first second low high torn = record {
  before = λ i h. torn.before i (omega arith);
  after = λ i h. torn.after i (omega arith);
  other = torn.other;
}

-- two changes within a range
pub changes_join : (area : Area) (at n p m q k : ℕ) (first second third : Meaning) → at ≤ p → p + m ≤ at + n → at ≤ q → q + k ≤ at + n
    → Changes area p m first second → Changes area q k second third → Changes area at n first third
changes_join area at n p m q k first second third low high low_next high_next one two = record {
  content = λ t. torn_join area at n p m q k first.content second.content third.content low high low_next high_next (one.content (two.leaves.told t)) (two.content t);
  leaves = leaves_then
      (leaves_weaker _ one.leaves (λ t image torn. (torn.0, torn.1, torn_wider area at n p m torn.0 image low high torn.2)))
      two.leaves
      (λ t image torn.
      let before = one.leaves.now (two.leaves.told_moments t).0 torn.0 torn.1 in
      (before.0, before.1, torn_join area at n p m q k before.0 torn.0 image low high low_next high_next before.2 torn.2));
}

-- a write changes what it is given to write
pub write_changes : {T E : Type 0} (result : Result T E) (area : Area) (at : ℕ) (bytes : List ℕ) (old new : Meaning) → Writes result area at bytes old new → Changes area at (length bytes) old new
write_changes result area at bytes old new writes = record {
  content = writes.outside;
  leaves = write_leaves (TornFrom area at (length bytes) old) writes (λ t before image was torn. (before, was, torn));
}
