-- The slots of the pages are those of one catalogue, and the disk replays to one thing.
use Rattle.mt_image.proofs.OneImage.{one_catalogue, one_held}
use Rattle.mt_image.proofs.laws.disks_hold_one_catalogue.Goals as goal

pub returns-clause-pages : goal.returns-clause-pages
returns-clause-pages c = λ pages state other holds more. one_catalogue pages state other holds.catalogue more.catalogue

pub returns-clause-disk : goal.returns-clause-disk
returns-clause-disk c = one_held
