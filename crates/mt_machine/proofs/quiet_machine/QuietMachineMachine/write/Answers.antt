use Rattle.std.proofs.Common.{length, le_refl, rules, subst, sym}
use Rattle.mt_machine.specs.Calls.{Stand, Torn}
use Rattle.mt_machine.specs.Image.{image_disk}
use Rattle.mt_machine.specs.RunLaws.{bytes_stand, torn_by_bytes}
use Rattle.mt_machine.proofs.quiet_machine.QuietMachineMachine.write.Goals as goal

pub returns-clause-effect : goal.returns-clause-effect
returns-clause-effect c =
    let old = image_disk c.args.self.now.contents.image in
    let bytes = c.args.bytes.now in
    record {
      told = c.write.ensures.told;
      outside = λ tells. subst (λ disk. Torn c.args.area c.args.at (length bytes) old disk) (sym (c.write.ensures.content tells)) (torn_by_bytes c.args.area c.args.at bytes (length bytes) old (le_refl (length bytes)));
      inside = λ tells. subst (λ disk. Stand disk c.args.area c.args.at bytes) (sym (c.write.ensures.content tells)) (bytes_stand c.args.area c.args.at bytes old);
      output = search rules;
      images = search rules;
      time = search rules;
      cause = search rules;
      emit_faults = search rules;
    }
