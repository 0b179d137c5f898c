-- Each page is fit, the catalogue's slots are apart, and its layouts are known.
use Rattle.mt_image.proofs.Known.{catalogue_known}
use Rattle.mt_image.proofs.Sound.{held_are_pages}
use Rattle.mt_image.proofs.laws.held_pages_are_sound.Goals as goal

pub returns-clause-pages : goal.returns-clause-pages
returns-clause-pages c = held_are_pages

pub returns-clause-known : goal.returns-clause-known
returns-clause-known c = λ pages state holds. catalogue_known state holds.catalogue.rules
