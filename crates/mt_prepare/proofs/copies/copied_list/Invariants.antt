-- What is copied so far is the members before this one.
use Rattle.std.proofs.Common.{◌≡◌, take}
use Rattle.mt_prepare.proofs.copies.copied_list.Given as goal

abbrev pub invariant-loop-member : goal.invariant-loop-member
invariant-loop-member g l = l.copied.items ≡ take l.member-index l.members
