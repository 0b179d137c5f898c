-- The puts suit the store, and it is ready again once they are committed.
use Rattle.std.proofs.Common.{ap, ◌∙◌}
use Rattle.mt_directory.specs.Known.{known_in}
use Rattle.mt_store_bench.specs.Numbers.{IsSilent}
use Rattle.mt_store_bench.proofs.Suited.{number_put_suits}
use Rattle.mt_store_bench.proofs.put.put_group.Goals as goal

pub stage-requires-clause-suited : goal.stage-requires-clause-suited
stage-requires-clause-suited g c = λ k d within. number_put_suits (known_in c.args.store.now.layouts) _ c.requires.ready.known (c.requires.puts k d within)

pub returns : goal.returns
returns g c =
    let changes = c.args.changes.now in
    let staged = c.in_ok-staged.ensures.staged in
    let meaning = g.M.Machine.meaning in
    let silent : IsSilent (meaning c.stage.new.m) = λ tells. c.requires.ready.silent (c.stage.ensures.looks.leaves.told tells) in
    let committed = c.in_ok-commit.ensures.ok changes staged (λ tells. absurd (silent tells)) in
    let moments = c.commit.ensures.any_moment changes staged (λ tells. absurd (silent tells)) in
    record {
      silent = λ tells. silent (moments.told tells);
      stands = committed.stands;
      known = ap (λ layouts. known_in layouts 16) (committed.layouts ∙ c.stage.ensures.layouts) ∙ c.requires.ready.known;
    }
