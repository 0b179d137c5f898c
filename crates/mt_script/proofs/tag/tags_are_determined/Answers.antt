use Rattle.mt_script.specs.TagLaws.{HasTag-determined}
use Rattle.mt_script.proofs.tag.tags_are_determined.Goals as goal

pub returns : goal.returns
returns c line text other who someone = HasTag-determined line who someone text other
