-- The list is read, and kept.
use Rattle.std.proofs.Common.{refl}
use Rattle.mt_terms.specs.declared.test.Test.TheVariants as test
use Rattle.mt_terms.specs.Descent.{member_of}
use Rattle.mt_terms.proofs.Inside.{keeps_member}
use Rattle.mt_terms.proofs.test.member.Goals as goal

pub returns : goal.returns
unfolding member_of
returns c =
    let list = c.in_ok-list.ensures in
    record {
      tree = test.Member c.args.negated list.tree;
      reads = rw list.reads refl;
      keeps = rw c.listed.ensures (keeps_member c.args.negated c.in_ok-list.list list.tree list.keeps);
    }
