use Rattle.mt_script.proofs.Parts.{FindsFeed-none, FindsFeed-some}
use Rattle.mt_script.proofs.line.find_feed.Goals as goal

pub returns-in_err-found : goal.returns-in_err-found
returns-in_err-found c =
    rw c.from_residual.ensures (FindsFeed-none c.args.bytes.now c.args.searched c.requires.none_searched c.in_err-found.ensures)

pub returns : goal.returns
returns c =
    FindsFeed-some c.args.bytes.now c.args.searched c.in_ok-found.found c.requires.within c.requires.none_searched c.in_ok-found.ensures
