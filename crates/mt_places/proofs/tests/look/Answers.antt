use Rattle.std.proofs.Common.{Some}
use Rattle.std.proofs.lemmas.Result.{on_ok_weaker}
use Rattle.mt_tables.specs.Rows.{KnownLayouts}
use Rattle.mt_places.specs.Held.{state_of}
use Rattle.mt_places.proofs.Stays.{looked-bodies, looked-rows}
use Rattle.mt_places.proofs.tests.look.Goals as goal

pub returns-clause-rows : goal.returns-clause-rows
returns-clause-rows c =
    let known : KnownLayouts = λ _. Some c.args.layout.now in
    on_ok_weaker c.look.result (λ looked key. looked-rows known c.args.table c.args.page c.args.bytes.now (state_of c.args.places.now) (state_of c.look.new.self) (looked known c.requires.known) key) c.look.ensures

pub returns-clause-bodies : goal.returns-clause-bodies
returns-clause-bodies c =
    let known : KnownLayouts = λ _. Some c.args.layout.now in
    on_ok_weaker c.look.result (λ looked key. looked-bodies known c.args.table c.args.page c.args.bytes.now (state_of c.args.places.now) (state_of c.look.new.self) (looked known c.requires.known) key) c.look.ensures
