use Rattle.std.proofs.Common.{length, ap, ◌∙◌}
use Rattle.mt_journal.specs.Commits.{payload_size}
use Rattle.mt_journal.specs.Spelling.{ranges_of}
use Rattle.mt_journal.proofs.Spelled.{length-spelling_of}
use Rattle.mt_journal.proofs.body.Body.size.Goals as goal

pub returns : goal.returns
returns c =
    c.len.ensures
    ∙ c.self.inside.payload.ok.0
    ∙ ap length c.self.invariant.payload_is
    ∙ length-spelling_of (ranges_of c.self.inside.payload.items c.self.inside.starts.items)
    ∙ ap payload_size c.self.view_is
